-- ONE OUTCOME of the functions that read and write the lanes of a vector, and that say what a comparison says of all of them: two results that a contract allows are equal.
-- Assumes nothing.
use mathlib.Core.Path.{sym, ◌∙◌}
use Rattle.lanes.proofs.bytes.Kinds as lanes-bytes-kinds
use Rattle.lanes.proofs.bytes.Reads as lanes-bytes
use Rattle.lanes.proofs.halves.Kinds as lanes-halves-kinds
use Rattle.lanes.proofs.halves.Reads as lanes-halves
use Rattle.lanes.proofs.words.Kinds as lanes-words-kinds
use Rattle.lanes.proofs.words.Reads as lanes-words
use Rattle.lanes.proofs.of_bytes.Kinds as lanes-of-bytes-kinds
use Rattle.lanes.proofs.of_bytes.Reads as lanes-of-bytes
use Rattle.lanes.proofs.of_halves.Kinds as lanes-of-halves-kinds
use Rattle.lanes.proofs.of_halves.Reads as lanes-of-halves
use Rattle.lanes.proofs.of_words.Kinds as lanes-of-words-kinds
use Rattle.lanes.proofs.of_words.Reads as lanes-of-words
use Rattle.lanes.proofs.with_marks.Kinds as lanes-with-marks-kinds
use Rattle.lanes.proofs.with_marks.Reads as lanes-with-marks
use Rattle.lanes.proofs.all_true.Kinds as lanes-all-true-kinds
use Rattle.lanes.proofs.all_true.Reads as lanes-all-true
use Rattle.lanes.proofs.none_true.Kinds as lanes-none-true-kinds
use Rattle.lanes.proofs.none_true.Reads as lanes-none-true
use Rattle.laws.specs.Single.{OneResult}

pub one_lanes-bytes : OneResult 0 lanes-bytes-kinds.ps lanes-bytes-kinds.r lanes-bytes.Post
one_lanes-bytes κs a x y s t p q = p.lanes ∙ sym q.lanes

pub one_lanes-halves : OneResult 0 lanes-halves-kinds.ps lanes-halves-kinds.r lanes-halves.Post
one_lanes-halves κs a x y s t p q = p.lanes ∙ sym q.lanes

pub one_lanes-words : OneResult 0 lanes-words-kinds.ps lanes-words-kinds.r lanes-words.Post
one_lanes-words κs a x y s t p q = p.lanes ∙ sym q.lanes

pub one_lanes-of_bytes : OneResult 0 lanes-of-bytes-kinds.ps lanes-of-bytes-kinds.r lanes-of-bytes.Post
one_lanes-of_bytes κs a x y s t p q = p ∙ sym q

pub one_lanes-of_halves : OneResult 0 lanes-of-halves-kinds.ps lanes-of-halves-kinds.r lanes-of-halves.Post
one_lanes-of_halves κs a x y s t p q = p ∙ sym q

pub one_lanes-of_words : OneResult 0 lanes-of-words-kinds.ps lanes-of-words-kinds.r lanes-of-words.Post
one_lanes-of_words κs a x y s t p q = p ∙ sym q

pub one_lanes-with_marks : OneResult 0 lanes-with-marks-kinds.ps lanes-with-marks-kinds.r lanes-with-marks.Post
one_lanes-with_marks κs a x y s t p q = p ∙ sym q

pub one_lanes-all_true : OneResult 0 lanes-all-true-kinds.ps lanes-all-true-kinds.r lanes-all-true.Post
one_lanes-all_true κs a x y s t p q = p ∙ sym q

pub one_lanes-none_true : OneResult 0 lanes-none-true-kinds.ps lanes-none-true-kinds.r lanes-none-true.Post
one_lanes-none_true κs a x y s t p q = p ∙ sym q
