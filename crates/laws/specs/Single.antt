-- ONE OUTCOME, of a contract as the code carries it. Assumes nothing.
use Rattle.std.specs.Prelude.{ℕ, ◌≡◌, List}
use contract.Lifetimes.{Lfts}
use borrow.Fn.Kinds.{ParamKind, ResultKind, Out, Dens, res_t, ended_of}
use denote.Triple.Clauses.{AtExit}

-- two results that a contract allows for one call are equal
abbrev pub OneResult : (n : ℕ) (ps : List (ParamKind n)) (r : ResultKind n) → Out n ps r → Type 0
OneResult n ps r P =
    (κs : Lfts n) (a : Dens κs ps) (x y : (res_t r κs).Denot) (s t : AtExit (ended_of n ps r) κs) → P κs a x s → P κs a y t → x ≡ y

-- and what one contract says is left in a lent buffer, in the machine or in the memory, read off the contract by `left`, is the same in both
abbrev pub OneLeft : (n : ℕ) (ps : List (ParamKind n)) (r : ResultKind n) (P : Out n ps r) (A : Type 0)
    → ((κs : Lfts n) (a : Dens κs ps) (x : (res_t r κs).Denot) (s : AtExit (ended_of n ps r) κs) → P κs a x s → A) → Type 0
OneLeft n ps r P A left =
    (κs : Lfts n) (a : Dens κs ps) (x y : (res_t r κs).Denot) (s t : AtExit (ended_of n ps r) κs) (p : P κs a x s) (q : P κs a y t) → left κs a x s p ≡ left κs a y t q

-- what an equation speaks of: its left side
abbrev pub left_of : {A : Type 0} {x y : A} → x ≡ y → A
left_of {x = x} e = x

-- at most one value is as P says
abbrev pub Sole : {R : Type 0} → (R → Type 0) → Type 0
Sole {R} P = (r r' : R) → P r → P r' → r ≡ r'
