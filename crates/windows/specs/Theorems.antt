-- Theorem: which minutes windows share, where cause 24 applies, and what the call for a row's shared minutes returns, for every k (02, Q-12). Proved in
-- proofs/Theorems.antt.
use Rattle.std.specs.Prelude.{◌≡◌, true, ◌↔◌, ℕ, suc, ◌+◌, ◌*◌, ◌≤◌, ◌<◌, ℤ, length, get_or, take}
use mathlib.Core.List.{List, ◌∷◌, Memᴰ}
use Rattle.std.proofs.Math.Option.{some}
use Rattle.lists.specs.Lists.{All, sum}
use Rattle.plan.specs.declared.Shape.{Shape}
use Rattle.plan.specs.Causes.{Check, Passed}
use Rattle.plan.specs.Plan.{sizes_of, Sound}
use Rattle.plan.specs.Theorems.{PlanChecks}
use Rattle.join.specs.Table.{plan_table}
use Rattle.windows.specs.declared.Window.{Window}
use Rattle.windows.specs.Windows.{is_open, shared_by, layer_hours, windows_at}
use Rattle.windows.specs.HoursCall.{hours_cause, hours_call, HoursValues, hours_values}

-- the window of the rectangle with a number, as it lies in the cells: "from and then to, in the order of the plan's cells"
abbrev pub window_in : (hours : List ℕ) → ℕ → Window
window_in hours n = record { from = get_or hours (2 * n) 0; to = get_or hours (2 * n + 1) 0 }

-- ---- minutes
-- 02: "the from minute included and the to minute not"
abbrev pub Minute : ℕ → Window → Type 0
Minute m w = (w.from ≤ m) × (m < w.to)

-- m is a minute of each of the windows
abbrev pub InAll : List Window → ℕ → Type 0
InAll ws m = All (Minute m) ws

-- they share one
abbrev pub Share : List Window → Type 0
Share ws = (m : ℕ) × InAll ws m

-- 02: "the first shared minute and the first after them"
abbrev pub IsFirstMinute : List Window → ℕ → Type 0
IsFirstMinute ws f = InAll ws f × ((m : ℕ) → InAll ws m → f ≤ m)

abbrev pub IsAfter : List Window → ℕ → Type 0
IsAfter ws t = ((m : ℕ) → InAll ws m → m < t) × ((n : ℕ) → ((m : ℕ) → InAll ws m → m < n) → t ≤ n)

-- of windows, of which there is at least one
pub record MinutesHold (ws : List Window) : Type 0 where
  -- the minutes of their shared window are those of each of them
  pub minutes : (m : ℕ) → Minute m (shared_by ws) ↔ InAll ws m
  -- the test tells whether there is one
  pub test : (is_open (shared_by ws) ≡ true) ↔ Share ws

-- ---- the windows of a row of k places
-- one for each layer, that of the rectangle at the row's place there
pub record RowWindows (ns hours row : List ℕ) (ws : List Window) : Type 0 where
  pub long : length ws ≡ length ns
  pub each : (j : ℕ) → j < length ns → (w : Window) → get_or ws j w ≡ window_in hours (sum (take j ns) + get_or row j 0)

-- ---- the cause
-- 02: 2n cells, and each window "from 0 to 10,080 .., from below to"
abbrev pub Stated : Shape → (hours : List ℕ) → Type 0
Stated s hours =
    let n = sum s.sizes in (length hours ≡ 2 * n) × ((i : ℕ) → i < n → let w = window_in hours i in (w.from < w.to) × (w.to ≤ 10080))

-- ---- the call: what it returns for these cells, whose windows are ws
pub record HoursHold (table : List (List ℕ)) (row : List ℕ) (ws : List Window) (values : HoursValues) : Type 0 where
  -- "Given such a row, one call returns the first shared minute and the first after them"; the latter is never 0
  pub call : Memᴰ row table → Share ws → (values.number ≡ 0) × IsFirstMinute ws values.from × IsAfter ws values.to
  -- "for other cells 0 and 0"
  pub others : (Memᴰ row table × Share ws → ⊥) → values ≡ record { number = 0; from = 0; to = 0 }

pub record WindowsHold : Type 0 where
  pub minutes : (w : Window) (ws : List Window) → MinutesHold (w ∷ ws)
  pub windows : (ns hours row : List ℕ) → length row ≡ length ns → RowWindows ns hours row (windows_at (layer_hours ns hours) row)
  -- "24, after 4". A refusal returns its number and 0 for all else
  pub causes : (s : Shape) (cells : List ℤ) (hours : List ℕ) → PlanChecks s cells (Check 24 (Stated s hours) Passed) (hours_cause (some hours) s cells)
  pub refused : (s : Shape) (cells : List ℤ) (hours row : List ℕ) (n : ℕ) → hours_cause (some hours) s cells ≡ suc n
      → hours_values (hours_call s cells hours row) ≡ record { number = suc n; from = 0; to = 0 }
  -- for a sound plan and windows as stated
  pub hours : (s : Shape) (cells : List ℤ) (hours : List ℕ) → Sound s cells → Stated s hours
      → (row : List ℕ) → HoursHold (plan_table s cells) row (windows_at (layer_hours (sizes_of s) hours) row) (hours_values (hours_call s cells hours row))
