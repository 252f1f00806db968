-- Sixteen bytes that are the same. Assumes nothing.
use Rattle.std.specs.Prelude.{ℕ, List, replicate}

abbrev pub copies : ℕ → List ℕ
copies i = replicate 16 i
