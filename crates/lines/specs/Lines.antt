-- A part of a list, and a list with a part of it replaced; document 01, "Addresses": what an element load and an element store leave.
-- Assumes nothing.
use Rattle.std.specs.Prelude.{ℕ, ◌+◌, ◌≤◌, ◌≡◌, List, length, take, drop, replicate}
use Rattle.std.proofs.lemmas.List.Edits.{sets}

-- the n elements from place o on
unfoldable pub part : List ℕ → ℕ → ℕ → List ℕ
part l o n = take n (drop o l)

-- the sixteen elements from place o on
abbrev pub sixteen : List ℕ → ℕ → List ℕ
sixteen l o = part l o 16

-- l with the elements from place o on replaced by those of x
unfoldable pub put : List ℕ → ℕ → List ℕ → List ℕ
put l o x = sets l o x

abbrev pub zeros : List ℕ
zeros = replicate 16 0

-- the register after a load of the n bytes at place e of the line of l at place o: they have their place, and the others are zero
abbrev pub loaded_of : List ℕ → ℕ → ℕ → ℕ → List ℕ
loaded_of l o e n = put zeros e (part l (o + e) n)

-- the list l after a store of the n bytes at place e of the register x into the line at place o: they have their place, and the others stay
abbrev pub stored_of : List ℕ → ℕ → ℕ → ℕ → List ℕ → List ℕ
stored_of l o e n x = put l (o + e) (part x e n)

-- n counts elements at the start of a list; the second part follows from the first
abbrev pub Counts : ℕ → List ℕ → Type 0
Counts n l = (n ≤ length l) × (n ≡ length (take n l))
