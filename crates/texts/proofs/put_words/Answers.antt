-- `put_words` meets its contract: a turn puts the bytes of one word more behind those of the words before.
use Rattle.std.proofs.Common.{rules, refl, List, ℕ, ◌+◌, ◌*◌, ◌-◌, ◌≡◌, sym, ap, ◌∙◌, arith, length, take, slice_index_or}
use lib.Seq.{length-take-le, take_all}
use Rattle.lines.specs.Lines.{put}
use Rattle.lines.proofs.Copying.{over}
use Rattle.texts.specs.Texts.{word_bytes, bytes_of}
use Rattle.texts.proofs.Numbers.{word_is}
use Rattle.texts.proofs.Joined.{put-append, put_all, words_more, words_long}
use Rattle.texts.proofs.put_words.Goals as goal

pub loop-i-preserved : goal.loop-i-preserved
unfolding bytes_of
loop-i-preserved c =
    let ws = c.args.words.now in
    let i = c.loop-i.i in
    let d = c.args.out.now in
    let w = word_bytes (take i ws) in
    let n : length w ≡ 4 * i = words_long (take i ws) ∙ ap (λ (k : ℕ). 4 * k) (length-take-le i ws (omega arith)) in
    let four = bytes_of (slice_index_or ws i 0) in
    let e : c.copy_from_slice.new.self ≡ four = c.copy_from_slice.ensures.after ∙ c.to_be_bytes.ensures ∙ word_is (slice_index_or ws i 0) (search rules) in
    over c.loop-i.out (4 * i) (4 * i + 4 - 4 * i) c.copy_from_slice.new.self four (omega arith) (omega arith) e
    ∙ ap (λ x. put x (4 * i) four) c.loop-i.invariant
    ∙ ap (λ (k : ℕ). put (put d 0 w) k four) (omega (arith, n))
    ∙ put-append w d four 0
    ∙ ap (put d 0) (sym (words_more ws i (omega arith)))

pub loop-i-init : goal.loop-i-init
unfolding put
loop-i-init c = refl

pub returns : goal.returns
returns c =
    let ws = c.args.words.now in
    let d = c.args.out.now in
    let i : c.loop-i.i ≡ length ws = omega arith in
    let start =
    c.loop-i.invariant
    ∙ ap (λ (k : ℕ). put d 0 (word_bytes (take k ws))) i
    ∙ ap (λ (x : List ℕ). put d 0 (word_bytes x)) (take_all (length ws) ws (omega arith))
    in
    record { start = start; whole = λ e. start ∙ put_all d (word_bytes ws) (words_long ws ∙ sym e) }
