-- The windows text of the command `hours`: a line `WINDOW`, from, to for each rectangle, in the order of the plan's cells (02, Q-12), spelled as the lines of a
-- plan text are; and what is wrong in one, by its first line that is not as stated.
use Rattle.std.specs.Prelude.{List, [], ◌∷◌, ◌++◌, cond, ℕ, zero, suc, eqb, ℤ, pos, negsuc}
use Rattle.std.proofs.Math.Option.{none, some}
use Rattle.decimal.specs.Numerals.{decimal}
use Rattle.decimal.specs.Reading.{Reading}
use Rattle.line.specs.Parsing.{next, behind, field}
use Rattle.windows.specs.Windows.{is_window}
use Rattle.outcomes.specs.Texts.{ascii}
use Rattle.outcomes.specs.Outcomes.{error_line}
use Rattle.checking.specs.Places.{first_line}
use Rattle.listing.specs.declared.Fault.{Fault}
use Rattle.listing.specs.Reasons.{WINDOW, reason_number, window_words, line_reason}

-- the two fields of a WINDOW line
abbrev pub window_fields : List ℕ → Reading (ℤ × ℤ)
window_fields t =
    next (field 9 t) (λ a.
    next (field 10 a.1) (λ b.
    some ((a.0, b.0), b.1)))

-- a minute; one below 0 stands for the first behind the last, which no window has
abbrev pub minute_of : ℤ → ℕ
minute_of (pos n) = n
minute_of (negsuc n) = 10081

-- what stands where a window is due: the window and the bytes behind it, or what is wrong, by the number of its words, less one: 0 the line has not the two
-- numbers, 1 its window is not as stated, 3 there is no line, and above 3 what is wrong with a line that is not well formed (Reasons)
pub data WindowDue : Type 0 where
  window : (from to : ℕ) → (rest : List ℕ) → WindowDue
  wrong : (reason : ℕ) → WindowDue

-- the window, if it is one
abbrev pub judged : (from to : ℕ) → (rest : List ℕ) → WindowDue
judged from to rest = cond (is_window (record { from = from; to = to })) (window from to rest) (wrong 1)

-- the window of two fields
abbrev pub fields_due : Reading (ℤ × ℤ) → WindowDue
fields_due none = wrong 0
fields_due (some p) = judged (minute_of p.0.0) (minute_of p.0.1) p.1

-- the window of a line
abbrev pub line_due : List ℕ → WindowDue
line_due t = fields_due (next (behind WINDOW t) window_fields)

-- a line that is not well formed, with what is wrong with it
abbrev pub reasoned : (reason : ℕ) → WindowDue → WindowDue
reasoned reason (window from to rest) = window from to rest
reasoned reason (wrong zero) = wrong reason
reasoned reason (wrong (suc r)) = wrong (suc r)

-- the window at the start of a text
unfoldable pub window_due : List ℕ → WindowDue
window_due [] = wrong 3
window_due (b ∷ t) = reasoned (line_reason (first_line (b ∷ t))) (line_due (b ∷ t))

-- ---- a whole text, from a line on, with `due` windows to come
-- what is wrong, by the number of its words, and in which line; the number 0 where nothing is
pub record FaultValues : Type 0 where
  pub reason : ℕ
  pub line : ℕ

-- a fault, its reason by that number
abbrev pub fault_told : Fault → FaultValues
fault_told f = record { reason = reason_number f.reason; line = f.line }

-- nothing is wrong
abbrev pub no_fault : FaultValues
no_fault = record { reason = 0; line = 0 }

-- the fault of a line, where it has one; else that of the bytes behind it
abbrev pub fault_due : WindowDue → (line : ℕ) → (List ℕ → FaultValues) → FaultValues
fault_due (window from to rest) line behind = behind rest
fault_due (wrong reason) line behind = record { reason = suc reason; line = line }

-- what is wrong with a line behind the last window: a well formed one is a window too many, 3, though it be not as stated
abbrev pub beyond : WindowDue → ℕ
beyond (window from to rest) = 3
beyond (wrong reason) = cond (eqb reason 1) 3 (suc reason)

-- what is wrong, by the number of its words, and in which line first: 3 there are more windows than rectangles, 4 fewer
abbrev pub fault_from : (due line : ℕ) → List ℕ → FaultValues
fault_from zero line [] = no_fault
fault_from zero line (b ∷ t) = record { reason = beyond (window_due (b ∷ t)); line = line }
fault_from (suc due) line t = fault_due (window_due t) line (fault_from due (suc line))

-- a window's cells, and those of the bytes behind it
abbrev pub hours_due : WindowDue → (List ℕ → List ℕ) → List ℕ
hours_due (window from to rest) behind = from ∷ to ∷ behind rest
hours_due (wrong reason) behind = []

-- the cells of the windows, "from and then to"
abbrev pub hours_from : (due : ℕ) → List ℕ → List ℕ
hours_from zero t = []
hours_from (suc due) t = hours_due (window_due t) (hours_from due)

-- the line on standard error
unfoldable pub fault_line : FaultValues → List ℕ
fault_line f = error_line (ascii "windows, line " ++ (decimal f.line ++ (ascii ": " ++ window_words f.reason)))
