-- Causes and their numbers (01, "Causes and their numbers"): 0 stands for none.
use Rattle.std.specs.Prelude.{Bool, true, false, ◌≡◌, ℕ, zero, suc, Result, Ok, Err}
use Rattle.plan.specs.declared.cause.Cause.{Cause}
use Rattle.plan.specs.declared.cause.Cause.TheVariants as cause

-- the number of each
abbrev pub number_of : Cause → ℕ
number_of cause.WrongLayerCount = 1
number_of cause.WrongSize = 2
number_of cause.WrongCellCount = 3
number_of cause.WrongRectangle = 4
number_of cause.WrongOrder = 5
number_of cause.WrongTicket = 6
number_of cause.SmallTable = 7
number_of cause.WrongOrderLength = 8
number_of cause.MalformedText = 9
number_of cause.WrongPlanText = 10
number_of cause.FewCells = 11
number_of cause.SmallTextBuffer = 12
number_of cause.LongInput = 13
number_of cause.WrongBox = 14
number_of cause.FewLayers = 15
number_of cause.WrongSegment = 16
number_of cause.WrongMargin = 17
number_of cause.WrongCounter = 18
number_of cause.SmallWork = 19
number_of cause.WrongRecord = 20
number_of cause.WrongStops = 21
number_of cause.WrongRound = 22
number_of cause.WrongPlaces = 23
number_of cause.WrongWindow = 24

-- the number of a refusal, 0 where there is none
abbrev pub refusal : {A : Type 0} → Result A Cause → ℕ
refusal (Ok a) = 0
refusal (Err c) = number_of c

-- an answer with its refusal, of any type, as the number that it is read as
abbrev pub read_by : {A E : Type 0} → (E → ℕ) → Result A E → Result A ℕ
read_by number (Ok a) = Ok a
read_by number (Err e) = Err (number e)

-- an answer with its refusal as the number of its cause
abbrev pub by_number : {A : Type 0} → Result A Cause → Result A ℕ
by_number = read_by number_of

infixl 20 ◌or_else◌
-- the cause, unless its check is passed
abbrev pub unless : Bool → ℕ → ℕ
unless true cause = 0
unless false cause = cause

-- 01: "Checked in the order of the lines that apply": the second, where the first does not apply
abbrev pub ◌or_else◌ : ℕ → ℕ → ℕ
◌or_else◌ zero second = second
◌or_else◌ (suc first) second = suc first

-- the first where no cause applies, else what a refusal with that number is
abbrev pub on_cause : {A : Type 0} → ℕ → A → (ℕ → A) → A
on_cause zero accepted refused = accepted
on_cause (suc cause) accepted refused = refused (suc cause)

-- ---- what theorems say of causes: 01's table, line by line
-- a line: the cause is n where P does not hold, and else what the next lines say. 01: "Checked in the order of the lines that apply"
pub data Check (n : ℕ) (P : Type 0) (Next : ℕ → Type 0) (cause : ℕ) : Type 0 where
  fails : cause ≡ n → (P → ⊥) → Check n P Next cause
  passes : P → Next cause → Check n P Next cause

-- behind the last line
abbrev pub Passed : ℕ → Type 0
Passed cause = cause ≡ 0
