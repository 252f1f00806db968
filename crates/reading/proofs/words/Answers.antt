-- `words` meets its contract: a turn puts a word, and the last leaves all of them.
use Rattle.std.proofs.Common.{ℕ, List, [], ◌≡◌, ◌/◌, ◌%◌, sym, ap, ◌∙◌, arith, length, length-set, eqb-true}
use Rattle.std.specs.Int.{w32, from_be_bytes}
use native.Mathlib.Nat.{zero-add}
use lib.ListN.{get_or}
use lib.Seq.{paste}
use Rattle.reading.specs.Words.{words_of}
use Rattle.reading.proofs.ByFours.{words_long, word_at, turn, taken}
use Rattle.reading.proofs.words.Goals as goal

pub loop-i-preserved : goal.loop-i-preserved
loop-i-preserved c =
    let b = c.args.bytes.now in
    let i = c.loop-i.i in
    let l = words_long b in
    let n : length c.as_chunks.result.0.now ≡ length b / 4 = c.as_chunks.ensures.front_len in
    let e : c.from_be_bytes.result ≡ get_or (words_of b) i 0 =
    c.from_be_bytes.ensures ∙ ap (λ (x : List (List ℕ)). from_be_bytes w32 (get_or x i [])) c.as_chunks.ensures.front ∙ sym (word_at b (length b / 4) i (omega arith) (omega arith)) in
    (simp length-set c.loop-i.auto.code, rw (zero-add i) at (turn c.args.code.now 0 (words_of b) c.loop-i.code i _ (omega arith) (omega arith) c.loop-i.invariant.1 e))

pub returns-clause-fills : goal.returns-clause-fills
returns-clause-fills c =
    let b = c.args.bytes.now in
    let n : length c.as_chunks.result.0.now ≡ length b / 4 = c.as_chunks.ensures.front_len in
    let i : c.loop-i.i ≡ length c.as_chunks.result.0.now = omega arith in
    let r : length c.as_chunks.result.1.now ≡ length b % 4 = c.as_chunks.ensures.back_len in
    let z = eqb-true (length c.as_chunks.result.1.now) 0 (sym c.is_empty.ensures ∙ c.if-not-is_empty.false) in
    taken b c.args.code.now c.loop-i.code _ (omega arith) n (omega arith) (c.loop-i.invariant.1 ∙ ap (paste c.args.code.now 0 (words_of b)) i)
