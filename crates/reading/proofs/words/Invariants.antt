-- `words` meets its contract: the first i words are in their places.
use Rattle.std.proofs.Common.{◌≡◌, length}
use lib.Seq.{paste}
use Rattle.reading.specs.Words.{words_of}
use Rattle.reading.proofs.words.Given as goal

abbrev pub invariant-loop-i : goal.invariant-loop-i
invariant-loop-i l = (length l.code ≡ length l.initial.code) × (l.code ≡ paste l.initial.code 0 (words_of l.bytes) l.i)
