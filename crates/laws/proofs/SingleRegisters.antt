-- ONE OUTCOME of any instruction on registers, of what writes a result and of the choice among the instructions: two outcomes of one call return the same marks and leave
-- the same vectors. Of `on_one`, `on_two` and `on_three` it holds for every instruction that gives one result at the operands; that each does is in SingleInstructions and
-- SingleParts.
-- Assumes nothing.
use Prim.Native.Nat.{ℕ, ◌*◌}
use mathlib.Core.Path.{◌≡◌, sym, ap, ◌∙◌}
use mathlib.Core.List.{List}
use denote.RattleType.{RattleType}
use denote.Param.Laws.{Laws, IsCopy}
use mir.Syntax.{Dict}
use Rattle.std.specs.declared.clone.Clone as clone
use Rattle.lanes.specs.declared.Marked.{Marked}
use Rattle.lines.specs.Lines.{put}
use Rattle.registers.specs.Registers.{Leaves}
use Rattle.registers.specs.declared.Outcome as outcome
use Rattle.registers.specs.contracts.on_one.F-Fn as one-bound
use Rattle.registers.specs.contracts.on_two.F-Fn as two-bound
use Rattle.registers.specs.contracts.on_three.F-Fn as three-bound
use Rattle.registers.proofs.MarkedOutcome.put.Kinds as put-marked-kinds
use Rattle.registers.proofs.MarkedOutcome.put.Reads as put-marked
use Rattle.registers.proofs.ArrayU816Outcome.put.Kinds as put-bare-kinds
use Rattle.registers.proofs.ArrayU816Outcome.put.Reads as put-bare
use Rattle.registers.proofs.copy.Kinds as copy-kinds
use Rattle.registers.proofs.copy.Reads as copy
use Rattle.registers.proofs.on_one.Kinds as one-kinds
use Rattle.registers.proofs.on_one.Reads as one
use Rattle.registers.proofs.on_two.Kinds as two-kinds
use Rattle.registers.proofs.on_two.Reads as two
use Rattle.registers.proofs.on_three.Kinds as three-kinds
use Rattle.registers.proofs.on_three.Reads as three
use Rattle.compute.proofs.compute.Kinds as compute-kinds
use Rattle.compute.proofs.compute.Reads as compute
use Rattle.laws.specs.Single.{OneResult, OneLeft, Sole}

-- the vectors that the contract speaks of
abbrev vectors_of : {r : Marked} {d : ℕ} {v after : List ℕ} {marks : ℕ} → Leaves r d v after marks → List ℕ
vectors_of {after = after} p = after

pub one_registers-put_marked : OneResult 1 put-marked-kinds.ps put-marked-kinds.r put-marked.Post
one_registers-put_marked κs a x y s t p q = p.clipped ∙ sym q.clipped

pub left_registers-put_marked : OneLeft 1 put-marked-kinds.ps put-marked-kinds.r put-marked.Post (List ℕ) (λ κs a x s p. vectors_of p)
left_registers-put_marked κs a x y s t p q = p.vectors ∙ sym q.vectors

pub one_registers-put_bare : OneResult 1 put-bare-kinds.ps put-bare-kinds.r put-bare.Post
one_registers-put_bare κs a x y s t p q = p.clipped ∙ sym q.clipped

pub left_registers-put_bare : OneLeft 1 put-bare-kinds.ps put-bare-kinds.r put-bare.Post (List ℕ) (λ κs a x s p. vectors_of p)
left_registers-put_bare κs a x y s t p q = p.vectors ∙ sym q.vectors

pub one_registers-copy : OneResult 1 copy-kinds.ps copy-kinds.r copy.Post
one_registers-copy κs a x y s t p q = p.clipped ∙ sym q.clipped

pub left_registers-copy : OneLeft 1 copy-kinds.ps copy-kinds.r copy.Post (List ℕ) (λ κs a x s p. vectors_of p)
left_registers-copy κs a x y s t p q = p.vectors ∙ sym q.vectors

-- results that are one leave the same
module _ {R : Type 0} (marked : R → Marked) {d : ℕ} {v after after' : List ℕ} {marks marks' : ℕ} {r r' : R} (same : r ≡ r') (p : Leaves (marked r) d v after marks)
    (q : Leaves (marked r') d v after' marks') where
  same_marks : marks ≡ marks'
  same_marks = p.clipped ∙ ap (λ (x : R). (marked x).marks) same ∙ sym q.clipped

  same_vectors : after ≡ after'
  same_vectors = p.vectors ∙ ap (λ (x : R). put v (16 * d) (marked x).bytes) same ∙ sym q.vectors

-- an instruction f of the type F that gives a result of the type R
module _ (R F : RattleType) (L : Laws R) (M : Laws F) (C : IsCopy R) (O : outcome.Ghosts R.Denot) (o : Dict) (K : clone.Ghosts R.Denot) (k : Dict) where
  module _ (G : one-bound.Ghosts R F) (g h i j : Dict) (single : (f : F.Denot) (x : List ℕ) → Sole ((one-bound.words R F G).post f x)) where
    pub one_registers-on_one : OneResult 3 (one-kinds.ps R F L M C) (one-kinds.r R F L M C) (one.Post R F L M C O o K k G g h i j)
    one_registers-on_one κs a x y s t p q = same_marks O.marked (single _ _ _ _ p.1 q.1) p.2 q.2

    pub left_registers-on_one : OneLeft 3 (one-kinds.ps R F L M C) (one-kinds.r R F L M C) (one.Post R F L M C O o K k G g h i j) (List ℕ) (λ κs a x s p. vectors_of p.2)
    left_registers-on_one κs a x y s t p q = same_vectors O.marked (single _ _ _ _ p.1 q.1) p.2 q.2

  module _ (G : two-bound.Ghosts R F) (g h i j : Dict) (single : (f : F.Denot) (x y : List ℕ) → Sole ((two-bound.words R F G).post f x y)) where
    pub one_registers-on_two : OneResult 3 (two-kinds.ps R F L M C) (two-kinds.r R F L M C) (two.Post R F L M C O o K k G g h i j)
    one_registers-on_two κs a x y s t p q = same_marks O.marked (single _ _ _ _ _ p.1 q.1) p.2 q.2

    pub left_registers-on_two : OneLeft 3 (two-kinds.ps R F L M C) (two-kinds.r R F L M C) (two.Post R F L M C O o K k G g h i j) (List ℕ) (λ κs a x s p. vectors_of p.2)
    left_registers-on_two κs a x y s t p q = same_vectors O.marked (single _ _ _ _ _ p.1 q.1) p.2 q.2

  module _ (G : three-bound.Ghosts R F) (g h i j : Dict) (single : (f : F.Denot) (x y z : List ℕ) → Sole ((three-bound.words R F G).post f x y z)) where
    pub one_registers-on_three : OneResult 3 (three-kinds.ps R F L M C) (three-kinds.r R F L M C) (three.Post R F L M C O o K k G g h i j)
    one_registers-on_three κs a x y s t p q = same_marks O.marked (single _ _ _ _ _ _ p.1 q.1) p.2 q.2

    pub left_registers-on_three : OneLeft 3 (three-kinds.ps R F L M C) (three-kinds.r R F L M C) (three.Post R F L M C O o K k G g h i j) (List ℕ) (λ κs a x s p. vectors_of p.2)
    left_registers-on_three κs a x y s t p q = same_vectors O.marked (single _ _ _ _ _ _ p.1 q.1) p.2 q.2

pub one_compute : OneResult 1 compute-kinds.ps compute-kinds.r compute.Post
one_compute κs a x y s t p q = p.clipped ∙ sym q.clipped

pub left_compute : OneLeft 1 compute-kinds.ps compute-kinds.r compute.Post (List ℕ) (λ κs a x s p. vectors_of p)
left_compute κs a x y s t p q = p.vectors ∙ sym q.vectors
