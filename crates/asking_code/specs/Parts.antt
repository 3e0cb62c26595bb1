-- What the functions behind the commands ask of one another and promise; no public call's contract cites it.
use Rattle.std.specs.Prelude.{◌≡◌, List, ℕ, ◌≤◌, ◌<◌, ℤ, get_or, Option, Some}
use Rattle.nearest.specs.declared.Near.{Near}
use Rattle.nearest.specs.Nearest.{nothing}
use Rattle.asking.specs.Lines.{near_line}
use Rattle.text.specs.Reader.{ReadValues}
use Rattle.text.specs.Reader.{text_shape, text_cells}
use Rattle.reporting.specs.inner.Parts.{plan_cells, Lent}
use Rattle.asking.specs.Answers.{text_cause}

-- a plan as it was read: its cells stand first in the lent ones
pub record PlanRead (t : List ℕ) (r : ReadValues) (lent : List ℤ) : Type 0 where
  pub there : Lent r.shape lent
  pub shape : r.shape ≡ text_shape t
  pub cells : plan_cells r.shape lent ≡ text_cells t

-- a text as it was read: the cause that refuses it, or 0 and its plan
pub record TextRead (t : List ℕ) (r : ReadValues) (lent : List ℤ) : Type 0 where
  pub number : r.number ≡ text_cause t
  pub plan : r.number ≡ 0 → PlanRead t r lent

-- ---- lines
-- the greatest squared gap of a plan and a box in range
abbrev pub most_gap : ℕ
most_gap = 804005000000000

-- the squared gap of an entry, where it has one, is at most that
pub record Small (entry : Option Near) : Type 0 where
  pub most : (e : Near) → entry ≡ Some e → e.gap ≤ most_gap

-- ... of each of six
pub record Measured (layers : List (Option Near)) : Type 0 where
  pub small : (j : ℕ) → j < 6 → Small (get_or layers j nothing)

-- the two lines of `nearest`
abbrev pub none_line : (layer : ℕ) → List ℕ
none_line layer = near_line layer nothing

abbrev pub found_line : (layer place gap : ℕ) → List ℕ
found_line layer place gap = near_line layer (Some (record { place = place; gap = gap }))
