-- What the command `check` says of a text.
use Rattle.std.specs.Prelude.{List, [], ◌∷◌, ◌++◌, cond, ℕ, eqb, leb, length, take}
use Rattle.lists.specs.Lists.{sum, list_in}
use Rattle.plan.specs.declared.Shape.{Shape}
use Rattle.plan.specs.Causes.{unless, ◌or_else◌, on_cause}
use Rattle.plan.specs.Limits.{most_cells}
use Rattle.decimal.specs.Numerals.{decimal}
use Rattle.line.specs.declared.Line.{Line}
use Rattle.text.specs.Parsing.{lines_of}
use Rattle.text.specs.Reader.{read_cause, text_shape}
use Rattle.printing.specs.Lines.{line_of}
use Rattle.outcomes.specs.Texts.{ascii}
use Rattle.outcomes.specs.Outcomes.{Outcome, error_line, cause_text, done, refused_with}
use Rattle.checking.specs.Lines.{NumberedLine, bad_line}
use Rattle.checking.specs.Reasons.{reason_of}
use Rattle.checking.specs.Faults.{Note, faults_of}

-- 13, then the reader's causes, where it is lent cells for any plan: those of the report up to the run
unfoldable pub check_cause : List ℕ → ℕ
check_cause t = unless (leb (length t) 65536) 13 or_else read_cause most_cells t

-- PLAN, k, n: the layers and the rectangles of a plan
unfoldable pub plan_found : Shape → List ℕ
plan_found s = line_of (ascii "PLAN") (decimal s.k ∷ decimal (sum s.sizes) ∷ [])

-- a line on standard error that names a line of the text, and says what is wrong with it
unfoldable pub line_error : (number : ℕ) (words : List ℕ) → List ℕ
line_error number words = error_line (ascii "line " ++ (decimal number ++ (ascii ": " ++ words)))

-- the first line that is not well formed
unfoldable pub bad_error : NumberedLine → List ℕ
bad_error l = line_error l.number (reason_of (eqb l.number 1) l.bytes)

-- things that are wrong, a line each
abbrev pub note_errors : List Note → List ℕ
note_errors [] = []
note_errors (n ∷ ns) = line_error n.number n.words ++ note_errors ns

-- no more of them are told
abbrev pub most_notes : ℕ
most_notes = 64

-- a last line, where more things are wrong than are told
unfoldable pub more_error : (things : ℕ) → List ℕ
more_error things = cond (leb things most_notes) [] (error_line (ascii "more is wrong"))

-- the things that are wrong with well formed lines
unfoldable pub fault_errors : List Line → List ℕ
fault_errors ls = note_errors (take most_notes (faults_of ls)) ++ more_error (length (faults_of ls))

-- why a text is refused
unfoldable pub why_lines : (cause : ℕ) → List ℕ → List ℕ
why_lines cause t =
    cond (eqb cause 9) (bad_error (bad_line t)) (cond (eqb cause 10) (fault_errors (list_in (lines_of t))) (error_line (cause_text cause)))

-- what is said of a text
unfoldable pub check_of : List ℕ → Outcome
check_of t = on_cause (check_cause t) (done (plan_found (text_shape t))) (λ cause. refused_with cause (why_lines cause t))
