-- What control keeps: a refusal leaves the general registers, and no order changes how many there are.
-- Assumes nothing.
use Rattle.std.proofs.Common.{◌≡◌, ℕ, true, List, length, sym, refl, true≢false, length-set}
use Rattle.control.specs.declared.orders.Order.{Order}
use Rattle.control.specs.declared.orders.Order.TheVariants.{SetGeneral, Compute, ReadStatus, WriteStatus, PatternLeft, PatternRight, ReadLine, WriteLine, ReadElement, WriteElement}
use Rattle.std.specs.Prelude.{Result, Ok, Err, is_err}
use Rattle.control.specs.declared.answers.Answer.{Answer}
use Rattle.control.specs.Orders.{general_of, general_after}

pub refused : (r : Result Order Answer) (d : ℕ) (g : List ℕ) → is_err r ≡ true → general_after r d g ≡ g
refused (Err a) d g h = refl
refused (Ok o) d g h = absurd (true≢false (sym h))

pub general_long : (o : Order) (d : ℕ) (g : List ℕ) → length (general_of o d g) ≡ length g
general_long (SetGeneral x) d g = length-set g d x
general_long (Compute o) d g = refl
general_long ReadStatus d g = refl
general_long WriteStatus d g = refl
general_long (PatternLeft s) d g = refl
general_long (PatternRight s) d g = refl
general_long (ReadLine at) d g = refl
general_long (WriteLine at) d g = refl
general_long (ReadElement e) d g = refl
general_long (WriteElement e) d g = refl
