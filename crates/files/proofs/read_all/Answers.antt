-- `read_all` meets its contract: what a turn reads stands behind what was read before, and room that it leaves says that the input is at its end.
use Rattle.std.proofs.Common.{◌≡◌, ◌≤◌, sym, subst, ◌∙◌, ap, arith, ℕ, List, length, take, drop, ◌++◌, ◌-◌, ◌+◌, rules}
use Rattle.std.specs.Io.KnownBytes.{Consumes}
use lib.ListN.{length-drop}
use lib.Seq.{length-take-le}
use borrow.Rule.Slice.PartMut.{same_len_mid}
use Rattle.files.proofs.Given.{both, refilled, grown}
use Rattle.files.proofs.read_all.Goals as goal

pub loop-n-preserved : goal.loop-n-preserved
loop-n-preserved g c =
    let n = c.loop-n.n in
    let k = c.in_ok-n.field-0 in
    let l = c.deref_mut.result.now in
    let y = c.fill.new.buf in
    let held = c.loop-n.bytes.items in
    let old = g.R.Read.remaining c.args.reader.now in
    let new = g.R.Read.remaining c.fill.new.reader in
    let room = length l - n in
    let whole : c.reserve_exact.new.self.len ≡ c.loop-n.n = omega (arith, c.in_ok-reserve_exact.ensures.len) in
    let full : length l ≡ c.resize.new.self.len = c.deref_mut.ensures.len in
    let some : k ≤ length y = c.in_ok-n.ensures.count.0 in
    let inside : n ≤ length l = omega (arith, full, c.in_ok-resize.ensures.len) in
    let part = length-take-le room (drop n l) (simp length-drop (omega arith)) in
    let rest : length y ≡ room = c.fill.ensures.kept ∙ part in
    let long = same_len_mid n room l y c.fill.ensures.kept in
    let ends : n + k ≤ c.resize.new.self.len = omega (arith, rest, full, some) in
    let front : take n l ≡ take n held =
    ap (λ (x : List ℕ). take n x) (c.deref_mut.ensures.value ∙ c.in_ok-resize.ensures.items)
    ∙ grown c.reserve_exact.new.self.items _ n (n + c.min-room.result) (omega (arith, whole, c.reserve_exact.new.self.ok.0)) (omega (arith, whole, c.reserve_exact.new.self.ok.0))
    ∙ ap (λ (x : List ℕ). take n x) c.in_ok-reserve_exact.ensures.items in (
      ends,
      search rules,
      subst (Consumes old new) (sym (refilled l y _ n room k c.resize.new.self.len inside some ends (omega (arith, long, full)) ∙ ap (λ (x : List ℕ). x ++ take k y) front))
          (both old (g.R.Read.remaining c.loop-n.reader) new (take n held) (take k y) c.loop-n.invariant.2 c.in_ok-n.ensures.given),
      λ h. c.in_ok-n.ensures.end (omega (arith, h, rest, full)),
    )
