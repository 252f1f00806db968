-- Document 01, "Numbers the run gives back": the number of each answer.
-- Assumes nothing.
use Rattle.std.specs.Prelude.{ℕ}
use Rattle.control.specs.declared.answers.Answer.{Answer}
use Rattle.control.specs.declared.answers.Answer.TheVariants.{Done, Spent, Misplaced, LongCode, BadStart, NoInstruction, Reserved, Outside}

abbrev pub number_of : Answer → ℕ
number_of Done = 0  -- place equals the code's length
number_of Spent = 1  -- allowance used up, place before the end
number_of Misplaced = 2  -- memory wrongly placed
number_of LongCode = 3  -- more than 16,384 code words
number_of BadStart = 4  -- start place beyond the code's length
number_of NoInstruction = 5  -- word is no carried instruction
number_of Reserved = 6  -- carried instruction with a reserved bit set
number_of Outside = 7  -- address outside memory
