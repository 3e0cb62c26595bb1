-- Theorem: what `check` says, for every text. Proved in proofs/Theorems.antt.
use Rattle.std.specs.Prelude.{◌≡◌, List, [], ◌∷◌, ◌++◌, Bool, true, false, ◌↔◌, ◌⊎◌, ℕ, suc, ◌≤◌, eqb, ℤ, length, take}
use Rattle.lists.specs.Lists.{All, sum, list_in}
use Rattle.decimal.specs.Numerals.{decimal}
use Rattle.plan.specs.declared.Shape.{Shape}
use Rattle.plan.specs.Causes.{Check, Passed}
use Rattle.plan.specs.Limits.{most_cells}
use Rattle.plan.specs.Plan.{Sound}
use Rattle.line.specs.declared.Line.{Line}
use Rattle.line.specs.Theorems.{Starts}
use Rattle.text.specs.Spelling.{headed}
use Rattle.text.specs.Parsing.{lines_of}
use Rattle.text.specs.Plans.{text_of, agrees}
use Rattle.text.specs.Reader.{read_cause}
use Rattle.text.specs.Theorems.{Formed, PlanText}
use Rattle.printing.specs.Lines.{refused_line}
use Rattle.outcomes.specs.Texts.{ascii}
use Rattle.checking.specs.Lines.{in_place, NumberedLine, bad_line}
use Rattle.checking.specs.Faults.{Note, faults_of}
use Rattle.checking.specs.Check.{check_cause, line_error, bad_error, note_errors, more_error, check_of}

-- lists of bytes, one behind the other
abbrev pub joined : List (List ℕ) → List ℕ
joined [] = []
joined (l ∷ ls) = l ++ joined ls

-- well formed lines, in bytes (`Starts` of the crate line), each with the byte 10 that ends it: a PLAN line first, if it is the text's first, and LAYER and
-- RECT lines behind it
pub data WellFormed : (first : Bool) → List (List ℕ) → Type 0 where
  none : {first : Bool} → WellFormed first []
  next : {first : Bool} {l : List ℕ} {ls : List (List ℕ)} → (x : Line) → Starts [] x l → in_place first x ≡ true → WellFormed false ls
      → WellFormed first (l ∷ ls)

-- the first line of a text that is not well formed
pub record FirstBad (t : List ℕ) (l : NumberedLine) : Type 0 where
  -- the lines before it, which are well formed, and the bytes behind it
  pub before : List (List ℕ)
  pub behind : List ℕ
  pub text : t ≡ joined before ++ (l.bytes ++ behind)
  pub good : WellFormed true before
  -- lines are numbered from 1
  pub number : l.number ≡ suc (length before)
  -- no line that may stand there starts where it starts
  pub bad : (x : Line) (rest : List ℕ) → Starts rest x (l.bytes ++ behind) → in_place (eqb l.number 1) x ≡ true → ⊥
  -- it has bytes, unless the text is empty: up to its byte 10, or to the end of the text
  pub there : l.bytes ≡ [] → t ≡ []
  pub inside : List ℕ
  pub plain : All (λ b. b ≡ 10 → ⊥) inside
  pub ended : (l.bytes ≡ inside ++ 10 ∷ []) ⊎ ((l.bytes ≡ inside) × (behind ≡ []))

-- the things that are wrong with a well formed text: there is a first, and it is told first; a last line says where more than 64 are
pub record FirstFault (t : List ℕ) : Type 0 where
  pub note : Note
  pub others : List Note
  pub are : faults_of (list_in (lines_of t)) ≡ note ∷ others
  pub told : (check_of t).err ≡ line_error note.number note.words ++ (note_errors (take 63 others) ++ more_error (suc (length others)))

pub record Checks : Type 0 where
  -- 13, "input above 65,536 bytes", whatever they are; 9; 10
  pub causes : (t : List ℕ) → Check 13 (length t ≤ 65536) (Check 9 (Formed t) (Check 10 (PlanText t) Passed)) (check_cause t)
  -- a text is accepted exactly where PLAN is printed ..
  pub accepted : (t : List ℕ) → ((length t ≤ 65536) × (read_cause most_cells t ≡ 0)) ↔ (take 4 (check_of t).out ≡ ascii "PLAN")
  -- .. with the layers and the rectangles of its plan, and status 0
  pub plan : (s : Shape) (plan : List ℤ) → Sound s plan → length (text_of s plan) ≤ 65536
      → let line = ascii "PLAN\t" ++ (decimal s.k ++ (ascii "\t" ++ (decimal (sum s.sizes) ++ ascii "\n"))) in
      check_of (text_of s plan) ≡ record { status = 0; out = line; err = [] }
  -- a refusal is 01's line, and status 1
  pub refused : (t : List ℕ) (n : ℕ) → check_cause t ≡ suc n → ((check_of t).status ≡ 1) × ((check_of t).out ≡ refused_line (suc n))
  -- 9: the line that is named is the first that is not well formed
  pub first : (t : List ℕ) → check_cause t ≡ 9 → FirstBad t (bad_line t) × ((check_of t).err ≡ bad_error (bad_line t))
  -- 10: at least one thing is told, and no more than 64
  pub fault : (t : List ℕ) → check_cause t ≡ 10 → FirstFault t
  -- of lines behind one PLAN line nothing is told exactly where they are a plan's
  pub silent : (ls : List Line) → headed ls ≡ true → (faults_of ls ≡ []) ↔ (agrees ls ≡ true)
