-- What an instruction leaves of the 32 vectors: register d holds its result, the others stay, and its marks are returned. Assumes nothing.
use Rattle.std.specs.Prelude.{ℕ, ◌*◌, List, ◌≡◌}
use Rattle.lanes.specs.declared.Marked.{Marked}
use Rattle.lines.specs.Lines.{sixteen, put}

-- register n of the vectors v
abbrev pub at : List ℕ → ℕ → List ℕ
at v n = sixteen v (16 * n)

-- bytes with no mark
abbrev pub bare : List ℕ → Marked
bare x = record { bytes = x; marks = 0 }

-- the result r went into register d of the vectors v: what they are then, and what is returned
pub record Leaves (r : Marked) (d : ℕ) (v after : List ℕ) (marks : ℕ) : Type 0 where
  pub vectors : after ≡ put v (16 * d) r.bytes
  pub clipped : marks ≡ r.marks
