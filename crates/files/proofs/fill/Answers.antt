-- `fill` meets its contract: what a turn reads stands behind what was read before.
use Rattle.std.proofs.Common.{◌-◌, ◌≤◌, sym, subst, ◌∙◌, arith, length, take, drop}
use Rattle.std.specs.Io.KnownBytes.{Consumes}
use lib.ListN.{length-drop}
use lib.Seq.{length-take-le}
use borrow.Rule.Slice.PartMut.{same_len_mid}
use Rattle.files.proofs.Given.{both, behind}
use Rattle.files.proofs.fill.Goals as goal

pub loop-done-preserved : goal.loop-done-preserved
loop-done-preserved g c =
    let l = c.loop-done in
    let old = g.R.Read.remaining c.args.reader.now in
    let new = g.R.Read.remaining c.read.new.self in
    let more = c.in_ok-more.more in
    let k = length l.buf - l.done in
    let rest = c.read.auto.buf in
    let room = length-take-le k (drop l.done l.buf) (simp length-drop (omega arith)) in
    let some : more ≤ length c.read.new.buf = c.in_ok-more.ensures.bound.0 in
    let long = same_len_mid l.done k l.buf c.read.new.buf rest in (
      omega (arith, rest, room),
      long ∙ l.invariant.1,
      subst (Consumes old new) (sym (behind l.buf c.read.new.buf l.done k more l.invariant.0 some))
          (both old (g.R.Read.remaining l.reader) new (take l.done l.buf) (take more c.read.new.buf) l.invariant.2 c.in_ok-more.ensures.bytes.0),
    )
