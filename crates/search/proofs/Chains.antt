-- What any list of page calls hands out, refused calls among them (demand 3), over any steps and any naming of them: proved in Calls.antt.
use mathlib.Core.Path.{◌≡◌}
use mathlib.Core.List.{List, [], ◌∷◌, ◌++◌, map}
use mathlib.Core.Logic.{◌↔◌}
use mathlib.Core.Option
use mathlib.Core.Option.{Option, none, some}
use mathlib.Core.Bool.{Bool, true, false, ◌&&◌}
use Prim.Native.Nat.{ℕ, ◌≤◌, ◌<◌}
use lib.Dec.{ltb}
use lib.ListN.{length, take, drop}
use Rattle.lists.specs.Lists.{All, sum, keep}
use Rattle.search.specs.Paging.{Paged, rows_of}
use Rattle.search.specs.Stops.{Ended}

-- ---- what one call answers: a page, or none where it is refused
module _ {A R : Type 0} where
  -- the call is accepted
  abbrev pub accepts : Option (Paged A R) → Bool
  accepts none = false
  accepts (some p) = true

  -- the steps that an answer reports
  abbrev pub done_in : Option (Paged A R) → ℕ
  done_in none = 0
  done_in (some p) = p.done

  -- the rows that an answer hands out
  abbrev pub rows_in : Option (Paged A R) → List R
  rows_in none = []
  rows_in (some p) = p.rows

  -- the later of two answers that is a page
  abbrev pub later : Option (Paged A R) → Option (Paged A R) → Option (Paged A R)
  later o none = o
  later o (some p) = some p

-- ---- what a list of calls answers; X is whatever a call brings
module _ {A R X : Type 0} (answer : X → Option (Paged A R)) where
  -- the steps that the calls report in all
  abbrev pub reported : List X → ℕ
  reported xs = sum (map (λ x. done_in (answer x)) xs)

  -- the rows that the calls hand out, in the order of the list
  abbrev pub handed : List X → List R
  handed [] = []
  handed (x ∷ xs) = rows_in (answer x) ++ handed xs

  -- the page of the last accepted call
  abbrev pub last_of : List X → Option (Paged A R)
  last_of [] = none
  last_of (x ∷ xs) = later (answer x) (last_of xs)

  -- how many accepted calls allow a step and a row
  abbrev pub allowing : (budget space : X → ℕ) → List X → ℕ
  allowing budget space xs = length (keep (λ x. accepts (answer x) && (ltb 0 (budget x) && ltb 0 (space x))) xs)

-- the cursor (01: a ticket) that is due behind an answer: the one that its page hands on, else c
abbrev pub due : {A R C : Type 0} → (List A → C) → C → Option (Paged A R) → C
due name c none = c
due name c (some p) = name p.rest

-- each call is refused, or brings the cursor that is due and hands on its own
pub data Chain {A R C X : Type 0} (name : List A → C) (cursor : X → C) (answer : X → Option (Paged A R)) : C → List X → Type 0 where
  end : {c : C} → Chain name cursor answer c []
  refused : {c : C} {x : X} {xs : List X} → answer x ≡ none → Chain name cursor answer c xs → Chain name cursor answer c (x ∷ xs)
  accepted : {c : C} {x : X} {xs : List X} {p : Paged A R} → answer x ≡ some p → cursor x ≡ c → Chain name cursor answer (name p.rest) xs
      → Chain name cursor answer c (x ∷ xs)

-- what demand 3 says of a list of calls that begins with the fresh cursor
pub record Delivered {A R C X : Type 0} (out : A → Option R) (steps : List A) (name : List A → C)
    (budget space : X → ℕ) (answer : X → Option (Paged A R)) (xs : List X) : Type 0 where
  -- the rows handed out are those that the first steps yield, as many steps as were reported in all
  pub rows : handed answer xs ≡ rows_of out (take (reported answer xs) steps)
  -- they are the first of all the rows, in their order
  pub first : handed answer xs ≡ take (length (handed answer xs)) (rows_of out steps)
  -- no more steps are reported than there are
  pub within : reported answer xs ≤ length steps
  -- no call reports more steps than its budget
  pub within-budget : All (λ x. done_in (answer x) ≤ budget x) xs
  -- an accepted call tells Ended exactly when the steps reported up to and with it add up to all the steps
  pub ended : (ys : List X) (x : X) (zs : List X) (p : Paged A R) → xs ≡ ys ++ x ∷ zs → answer x ≡ some p
      → (p.stop ≡ Ended) ↔ (reported answer (ys ++ x ∷ []) ≡ length steps)
  -- if the accepted calls that each allow a step and a row outnumber the steps, the last accepted call tells Ended
  pub bound : length steps < allowing answer budget space xs → Option.map (λ p. p.stop) (last_of answer xs) ≡ some Ended
  -- the sums of the accepted pages, by any measure of rows, add up to the sum of the rows handed out
  pub sums : (f : R → ℕ) → sum (map (λ x. sum (map f (rows_in (answer x)))) xs) ≡ sum (map f (handed answer xs))
  -- the cursor that is due after the last accepted call is that of what is left behind the steps reported
  pub last : due name (name steps) (last_of answer xs) ≡ name (drop (reported answer xs) steps)
  -- where no call was accepted, no step is reported, and the fresh cursor is still due
  pub fresh : last_of answer xs ≡ none → reported answer xs ≡ 0
