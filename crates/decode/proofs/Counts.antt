-- How many instructions are carried, are position-bound and can clip: counted over the rows of all sections.
-- Assumes nothing.
use mathlib.Core.Path.{◌≡◌, refl}
use mathlib.Core.Bool.{Bool, true}
use mathlib.Core.List.{List, [], ◌∷◌}
use Prim.Native.Nat.{ℕ, ◌+◌}
use Rattle.encodings.specs.Bits.{pick}
use Rattle.encodings.specs.Encodings.{Row, Section, sections}
use Rattle.decode.specs.Traits.{can_clip, position_bound}
use Rattle.encodings.specs.declared.ops.Op.{Op}

abbrev count_rows : (Op → Bool) → List Row → ℕ
count_rows f [] = 0
count_rows f (r ∷ rs) = pick (f r.op) 1 0 + count_rows f rs

abbrev count : (Op → Bool) → List Section → ℕ
count f [] = 0
count f (s ∷ ss) = count_rows f s.rows + count f ss

-- carried, position-bound, can clip
pub counts : (count (λ o. true) sections ≡ 132) × (count position_bound sections ≡ 39) × (count can_clip sections ≡ 27)
counts = (refl, refl, refl)
