-- `digits` meets its contract: a turn reads a digit, a character that is none ends it, and the value after the last digit fits or does not.
use Rattle.std.proofs.Common.{Err, ◌+◌, ◌*◌, refl, sym, ap, ◌∙◌, arith, slice_index_or, drop}
use borrow.Author.Tests.{lt-ltb, le-ltb}
use Rattle.std.proofs.lemmas.Result.{err_from_is_err_and}
use Rattle.reading.specs.Numbers.{digit_of, digits_of}
use Rattle.reading.proofs.DigitByDigit.{capped, more, none, end}
use Rattle.reading.proofs.numbers.digits.Goals as goal

pub returns-in_default : goal.returns-in_default
returns-in_default c = rw (sym c.is_empty.ensures ∙ c.if-is_empty.false)
    (sym (c.loop-c.invariant.1 ∙ none c.args.base c.args.text.now c.loop-c.v c.loop-c.c-index (omega arith) (omega (arith, c.in_default.ensures))))

pub loop-c-preserved : goal.loop-c-preserved
loop-c-preserved c =
    let t = c.args.text.now in
    let d = c.in-Some.ensures in
    let m = more c.args.base t c.loop-c.v c.loop-c.c-index (omega arith) d.0 in
    let k = capped c.args.base (drop (c.loop-c.c-index + 1) t) (c.loop-c.v * c.args.base + digit_of (slice_index_or t c.loop-c.c-index 0)) (omega arith) in (
      c.capped-v.ensures.1,
      c.loop-c.invariant.1 ∙ m ∙ k
          ∙ ap (λ x. digits_of c.args.base x (drop (c.loop-c.c-index + 1) t)) (rw (c.from.ensures, c.from-in-loop-c.ensures, d.1) at (sym c.capped-v.ensures.0)),
    )

pub returns-in_err-try_from : goal.returns-in_err-try_from
returns-in_err-try_from c =
    let e = err_from_is_err_and c.from_residual.result c.from_residual.ensures.1 in
    rw (sym c.is_empty.ensures ∙ c.if-is_empty.false)
    (e.1 ∙ ap Err e.2
    ∙ sym (c.loop-c.invariant.1 ∙ end c.args.base c.args.text.now c.loop-c.v c.loop-c.c-index (omega arith) ∙ rw (le-ltb c.loop-c.v 4294967296 (omega (arith, c.in_err-try_from.ensures))) refl))

pub returns : goal.returns
returns c =
    let e = c.in_ok-try_from.ensures in
    rw (sym c.is_empty.ensures ∙ c.if-is_empty.false, e.1)
    (sym (c.loop-c.invariant.1 ∙ end c.args.base c.args.text.now c.loop-c.v c.loop-c.c-index (omega arith) ∙ rw (lt-ltb _ _ e.0) refl))
