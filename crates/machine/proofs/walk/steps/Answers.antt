-- `machine::walk::steps` meets its contract: it stops where the definition stops, and after each completed word what is left of the run is the same.
use Rattle.machine.proofs.Meaning.{state_of, stop_gives, refusal_gives, at_end, spent, refused, more}
use Rattle.machine.specs.Runs.{order_at}
use Rattle.control.proofs.Within.{reaches}
use Rattle.control.proofs.Fields.{decoded}
use Rattle.control.specs.Orders.{order_of}
use Rattle.control.specs.declared.answers.Answer.TheVariants.{Done, Spent}
use Rattle.decode.specs.declared.Decoded.{Decoded}
use Rattle.std.proofs.Common.{◌≡◌, ◌∙◌, ◌+◌, ◌-◌, ◌<◌, sym, ap, length, arith, Ok, Err}
use Rattle.machine.proofs.walk.steps.Goals as goal

pub returns-then-k-n : goal.returns-then-k-n
returns-then-k-n c = let l = c.loop-count in
    let a = c.args in
    let s = state_of l.count (a.place + l.count) l.v l.g l.f l.mem in
    stop_gives Done l.count (a.place + l.count) l.v l.g l.f l.mem (l.invariant.3 ∙ at_end a.code.now a.base (a.allowance - l.count) s c.if-k-n.true) c.stopped.ensures

pub returns-in-Err : goal.returns-in-Err
unfolding order_at
returns-in-Err c = let l = c.loop-count in
    let a = c.args in
    let s = state_of l.count (a.place + l.count) l.v l.g l.f l.mem in
    let o : Err c.in-Err.answer ≡ order_at a.code.now a.base s = sym c.in-Err.is ∙ c.control-order.ensures.order ∙ ap (λ (x : Decoded). order_of x l.g a.base (length l.mem)) c.decode-w.ensures in
    let left : 0 < a.allowance - l.count = omega arith in
    refusal_gives c.in-Err.answer l.count (a.place + l.count) l.v l.g _ l.f l.mem (rw c.in-Err.is at c.control-order.ensures.general)
    (l.invariant.3 ∙ refused a.code.now a.base (a.allowance - l.count) s c.in-Err.answer left c.if-k-n.false o) c.stopped-in-Err.ensures

pub effect-f-requires : goal.effect-f-requires
effect-f-requires c = (rw c.decode-w.ensures (decoded _), rw c.control-order.ensures.order (reaches _ _ _ _ (rw c.loop-count.invariant.2 c.requires.0)))

pub loop-count-preserved : goal.loop-count-preserved
unfolding order_at
loop-count-preserved c = let l = c.loop-count in
    let a = c.args in
    let r = c.in_default in
    let s = state_of l.count (a.place + l.count) l.v l.g l.f l.mem in
    let o : Ok r.field-0 ≡ order_at a.code.now a.base s = sym r.is ∙ c.control-order.ensures.order ∙ ap (λ (x : Decoded). order_of x l.g a.base (length l.mem)) c.decode-w.ensures in
    let left : 0 < a.allowance - l.count = omega arith in
    let at : a.place + (l.count + 1) ≡ a.place + l.count + 1 = omega arith in
    let less : a.allowance - (l.count + 1) ≡ a.allowance - l.count - 1 = omega arith in (
      omega arith,
      omega arith,
      c.effect-f.auto.mem ∙ l.invariant.2,
      l.invariant.3
          ∙ rw (at, less) (more a.code.now a.base (a.allowance - l.count) l.count (a.place + l.count) l.v l.g l.f l.mem r.field-0 c.decode-w.result _ _ _ _
          left c.if-k-n.false c.decode-w.ensures o (rw r.is at c.control-order.ensures.general) (rw r.is at c.effect-f.ensures)),
    )

pub returns-then-at-n : goal.returns-then-at-n
returns-then-at-n c = let l = c.loop-count in
    let a = c.args in
    let e : l.count ≡ a.allowance = omega arith in
    let s = state_of l.count (a.place + l.count) l.v l.g l.f l.mem in
    stop_gives Done l.count (a.place + l.count) l.v l.g l.f l.mem
    (l.invariant.3 ∙ at_end a.code.now a.base (a.allowance - l.count) s (rw e c.if-at-n.true)) (rw e c.stopped-then-at-n.ensures)

pub returns : goal.returns
returns c = let l = c.loop-count in
    let a = c.args in
    let e : l.count ≡ a.allowance = omega arith in
    let s = state_of l.count (a.place + l.count) l.v l.g l.f l.mem in
    stop_gives Spent l.count (a.place + l.count) l.v l.g l.f l.mem
    (l.invariant.3 ∙ spent a.code.now a.base (a.allowance - l.count) s (omega arith) (rw e c.if-at-n.false)) (rw e c.stopped-2.ensures)
