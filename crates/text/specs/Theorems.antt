-- Theorem: what is promised of plan texts, for every plan and every text. Proved in proofs/Theorems.antt.
use Rattle.std.specs.Prelude.{◌≡◌, ◌↔◌, ℕ, suc, ◌≤◌, ℤ, pos, ◌≤ℤ◌, length, drop, Ok, Err}
use mathlib.Core.List.{List, [], ◌∷◌, ◌++◌, Memᴰ}
use Rattle.geometry.specs.declared.Rect.{Rect}
use Rattle.geometry.specs.Theorems.{Ranged}
use Rattle.plan.specs.declared.Shape.{Shape}
use Rattle.plan.specs.Causes.{Check, Passed}
use Rattle.plan.specs.Plan.{Sound}
use Rattle.plan.specs.Theorems.{PlanChecks}
use Rattle.decimal.specs.Theorems.{Spells}
use Rattle.line.specs.declared.Line.{Line}
use Rattle.line.specs.declared.Line.TheVariants.{Plan, Layer, Rectangle}
use Rattle.line.specs.Theorems.{Starts}
use Rattle.text.specs.Plans.{text_of}
use Rattle.text.specs.Writer.{write_cause, write_answer, number_said, length_of, buffer_after}
use Rattle.text.specs.Reader.{read_cause, read_answer, read_values, cells_after}

-- ---- well formed, in bytes: which bytes are a line is said by `Starts` (crate line)
-- LAYER and RECT lines, one behind the other
pub data Others : List Line → List ℕ → Type 0 where
  none : Others [] []
  layer : {n m : ℤ} {ls : List Line} {t rest : List ℕ} → Starts rest (Layer n m) t → Others ls rest → Others (Layer n m ∷ ls) t
  rect : {r : Rect} {ls : List Line} {t rest : List ℕ} → Starts rest (Rectangle r) t → Others ls rest → Others (Rectangle r ∷ ls) t

-- 01: "The text is well formed when it is a PLAN line followed by any LAYER and RECT lines so spelled"
pub record Formed (t : List ℕ) : Type 0 where
  pub k : ℤ
  pub others : List Line
  pub rest : List ℕ
  pub first : Starts rest (Plan k) t
  pub followed : Others others rest

-- a text is that of a sound plan
pub record PlanText (t : List ℕ) : Type 0 where
  pub shape : Shape
  pub plan : List ℤ
  pub sound : Sound shape plan
  pub text : t ≡ text_of shape plan

-- ---- a text, where `room` cells are lent
pub record TextHolds (room : ℕ) (t : List ℕ) : Type 0 where
  -- demand 2: "A plan text is accepted into enough cells exactly when it is the text written for some plan, and gives that plan back."
  pub exactly : (read_cause room t ≡ 0) ↔ ((p : PlanText t) × (length p.plan ≤ room))
  -- "text not well formed", "well formed, but" no plan's text, "text accepted, cells fewer than 4n"
  pub causes : Check 9 (Formed t) (Check 10 (PlanText t) (Check 11 ((p : PlanText t) → length p.plan ≤ room) Passed)) (read_cause room t)
  -- 02, Q-4: "old LAYER lines are no longer well formed": where LAYER and a single number stand behind whole lines, it is 9
  pub old : Formed t → (a : List ℕ) (n : ℤ) (rest : List ℕ) → Spells a n
      → read_cause room (t ++ 76 ∷ 65 ∷ 89 ∷ 69 ∷ 82 ∷ 9 ∷ (a ++ 10 ∷ rest)) ≡ 9
  -- "a margin out of range, .. 17, .. in a text 10": not from 0 to 50,000
  pub margin : (f : Formed t) (n m : ℤ) → Memᴰ (Layer n m) f.others → ((pos 0 ≤ℤ m) × (m ≤ℤ pos 50000) → ⊥)
      → read_cause room t ≡ 10
  -- 02, Q-13: "10000001 gives 10": a coordinate that is not from −10,000,000 to 10,000,000, left > right or bottom > top
  pub coordinate : (f : Formed t) (r : Rect) → Memᴰ (Rectangle r) f.others → (Ranged r → ⊥) → read_cause room t ≡ 10

-- ---- a plan and its text t
pub record PlanHolds (s : Shape) (plan : List ℤ) (t : List ℕ) : Type 0 where
  -- reading its text gives exactly this plan back, in the first cells, and keeps the others
  pub back : (cells : List ℤ) → Sound s plan → length plan ≤ length cells
      → (read_values (read_answer (length cells) t) ≡ record { number = 0; shape = s }) × (cells_after t cells ≡ plan ++ drop (length plan) cells)
  -- the writer's causes: a plan's, then 12, "text longer than the buffer"
  pub causes : (room : ℕ) → PlanChecks s plan (Check 12 (length t ≤ room) Passed) (write_cause s plan room)
  -- "puts the one text of a plan at the start of its buffer, returns the length and keeps the rest"
  pub written : (buf : List ℕ) → write_cause s plan (length buf) ≡ 0
      → (write_answer s plan (length buf) ≡ Ok (length t)) × (buffer_after s plan buf ≡ t ++ drop (length t) buf)
  -- a refusal keeps the buffer
  pub refused : (buf : List ℕ) (n : ℕ) → write_cause s plan (length buf) ≡ suc n
      → (write_answer s plan (length buf) ≡ Err (suc n)) × (buffer_after s plan buf ≡ buf)
  -- no text of a plan is longer
  pub longest : Sound s plan → length t ≤ 138343

pub record RoundTrip : Type 0 where
  pub texts : (room : ℕ) (t : List ℕ) → TextHolds room t
  pub plans : (s : Shape) (plan : List ℤ) → PlanHolds s plan (text_of s plan)
  -- "A refusal returns its number and 0 for all else": k, the six sizes and the six margins; the cells are as they were
  pub refused : (t : List ℕ) (cells : List ℤ) (n : ℕ) → let zeros : List ℕ = 0 ∷ 0 ∷ 0 ∷ 0 ∷ 0 ∷ 0 ∷ [] in
      read_cause (length cells) t ≡ suc n
      → (read_values (read_answer (length cells) t) ≡ record { number = suc n; shape = record { k = 0; sizes = zeros; margins = zeros } })
      × (cells_after t cells ≡ cells)
  -- the number and the shape that the reader's answers stand for
  pub read : (s : Shape) (n : ℕ) → let zeros : List ℕ = 0 ∷ 0 ∷ 0 ∷ 0 ∷ 0 ∷ 0 ∷ [] in
      (read_values (Ok s) ≡ record { number = 0; shape = s })
      × (read_values (Err n) ≡ record { number = n; shape = record { k = 0; sizes = zeros; margins = zeros } })
  -- the number and the length that the writer's answers stand for
  pub values : (n : ℕ) → (number_said (Ok n) ≡ 0) × (length_of (Ok n) ≡ n) × (number_said (Err n) ≡ n) × (length_of (Err n) ≡ 0)
