-- `join` meets its contract: four parts, one behind the other, are all of the bytes.
use Rattle.std.proofs.Common.{[], ◌++◌, ◌≡◌, refl, ◌∙◌, arith, rules, length, length-append}
use Rattle.lines.specs.Lines.{put}
use Rattle.texts.specs.Texts.{word_bytes}
use Rattle.texts.proofs.Joined.{put_all, words_long}
use Rattle.states.proofs.Whole.{next}
use Rattle.states.proofs.join.Goals as goal

pub returns : goal.returns
unfolding put
returns c =
    let a = c.args in
    let w = word_bytes a.g in
    let nv : length a.v ≡ 512 = search rules in
    let nx : length a.x ≡ 16 = search rules in
    let ng : length a.g ≡ 32 = search rules in
    let nc : length a.condition ≡ 4 = search rules in
    let no : length a.out.now ≡ 660 = search rules in
    let nw : length w ≡ 128 = omega (arith, words_long a.g) in
    let n1 : length (a.v ++ a.x) ≡ 528 = omega (arith, length-append a.v a.x) in
    let n2 : length (a.v ++ a.x ++ w) ≡ 656 = omega (arith, length-append (a.v ++ a.x) w) in
    let n3 : length (a.v ++ a.x ++ w ++ a.condition) ≡ length a.out.now = omega (arith, length-append (a.v ++ a.x ++ w) a.condition) in
    let e1 = next a.out.now 0 512 [] a.v refl refl nv (omega arith) c.copy_from_slice.ensures.after in
    let e2 = next a.out.now 512 16 a.v a.x e1 nv nx (omega arith) c.copy_from_slice-2.ensures.after in
    let e3 = next a.out.now 528 128 (a.v ++ a.x) w e2 n1 nw (omega arith) (c.put_words.ensures.whole (omega arith)) in
    next a.out.now 656 4 (a.v ++ a.x ++ w) a.condition e3 n2 nc (omega arith) c.copy_from_slice-3.ensures.after
    ∙ put_all a.out.now (a.v ++ a.x ++ w ++ a.condition) n3
