-- `put_words` meets its contract: the bytes of the words before are put at the start.
use Rattle.std.proofs.Common.{◌≡◌, take}
use Rattle.lines.specs.Lines.{put}
use Rattle.texts.specs.Texts.{word_bytes}
use Rattle.texts.proofs.put_words.Given as goal

abbrev pub invariant-loop-i : goal.invariant-loop-i
invariant-loop-i l = l.out ≡ put l.initial.out 0 (word_bytes (take l.i l.words))
