-- What a comparison says of all its lanes. Document 01, "Lane rules": CR6. Assumes nothing.
use Rattle.std.specs.Prelude.{ℕ, ◌-◌, ◌^◌, Bool, ◌&&◌, List, ◌==◌}
use Rattle.lanes.specs.Words.{word_from}

-- every word of v is k
abbrev pub all_are : ℕ → List ℕ → Bool
all_are k v = word_from v 0 == k && word_from v 4 == k && word_from v 8 == k && word_from v 12 == k

-- a true lane is all ones and a false one all zeros, at every width: every lane is true, and none is
abbrev pub all_true : List ℕ → Bool
all_true v = all_are (2 ^ 32 - 1) v

abbrev pub none_true : List ℕ → Bool
none_true v = all_are 0 v
