-- The promises on windows hold of every plan, for every k.
use mathlib.Core.Path.{◌≡◌, refl, sym, ◌∙◌, subst}
use mathlib.Core.List.{List, [], ◌∷◌, Memᴰ}
use mathlib.Core.Bool.{true, false, ◌&&◌}
use mathlib.Core.Logic.{◌↔◌}
use mathlib.Core.Option.{some}
use Prim.Native.Nat.{ℕ, suc, ◌-◌, ◌*◌, ◌≤◌, ◌<◌}
use native.Mathlib.Nat.{le_refl}
use native.Mathlib.Omega.{arith}
use lib.IntN.{ℤ}
use lib.Dec.{ltb, leb, eqb}
use lib.ListN.{length, get_or}
use borrow.Author.Tests.{ltb-true, lt-ltb, leb-true, le-leb, eqb-true, eq-eqb}
use Rattle.lists.specs.Lists.{All, none_left, ◌and◌, Tells, sum}
use Rattle.lists.proofs.Tests.{both as two, and-true, never_true, tells, below_at, below_all}
use Rattle.plan.specs.declared.Shape.{Shape}
use Rattle.plan.specs.Causes.{Check, Passed}
use Rattle.plan.specs.Plan.{sizes_of, layers, plan_cause, Sound, grown}
use Rattle.plan.specs.Theorems.{PlanChecks}
use Rattle.plan.proofs.Plan.{check-passed}
use Rattle.plan.proofs.Theorems.{plan-last}
use Rattle.plan.proofs.Growing.{framed}
use Rattle.join.specs.Table.{plan_table}
use Rattle.join.specs.Theorems.{TableHolds}
use Rattle.join.proofs.Theorems.{tables}
use Rattle.rows.specs.RowCall.{is_row}
use Rattle.rows.proofs.Theorems.{rows}
use Rattle.windows.specs.declared.Window.{Window}
use Rattle.windows.specs.Windows.{window_at, is_window, all_windows, are_hours, both, within, shared_by, layer_hours, windows_at, hours_of, shares_minute}
use Rattle.windows.specs.HoursCall.{hours_cause, hours_call, HoursValues, hours_values}
use Rattle.windows.specs.Theorems.{Minute, InAll, Share, IsFirstMinute, IsAfter, MinutesHold, RowWindows, Stated, HoursHold, WindowsHold}
use Rattle.windows.proofs.Shared.{open_is, is-open, window-layer, hours-long, windows-long, windows-nth}

-- ---- minutes
apart : {P : Window → Type 0} {w : Window} {ws : List Window} → All P (w ∷ ws) → P w × All P ws
apart (◌and◌ h hs) = (h, hs)

within-minute : (m : ℕ) (w : Window) (ws : List Window) → Minute m (within w ws) ↔ InAll (w ∷ ws) m
within-minute m w [] = (λ h. ◌and◌ h none_left, λ h. (apart h).0)
within-minute m w (v ∷ vs) = (
  λ h. let k = apart ((within-minute m (both w v) vs).0 h) in ◌and◌ {a = w} (omega (arith, k.0)) (◌and◌ {a = v} (omega (arith, k.0)) k.1),
  λ h. let k = apart (apart h).1 in (within-minute m (both w v) vs).1 (◌and◌ {a = both w v} (omega (arith, (apart h).0, k.0)) k.1),
)

minutes-hold : (w : Window) (ws : List Window) → MinutesHold (w ∷ ws)
minutes-hold w ws = record {
  minutes = minutes;
  test = (λ e. (s.from, (minutes s.from).0 (le_refl s.from, open_is s e)), λ h. is-open s (some-open h));
}
  where
    s : Window
    s = within w ws

    minutes : (m : ℕ) → Minute m s ↔ InAll (w ∷ ws) m
    minutes m = within-minute m w ws

    some-open : Share (w ∷ ws) → s.from < s.to
    some-open h = omega (arith, (minutes h.0).1 h.1)

pub some-minutes : (ws : List Window) → 1 ≤ length ws → MinutesHold ws
some-minutes [] h = absurd (omega arith)
some-minutes (w ∷ ws) h = minutes-hold w ws

-- where they share a minute, the ends of their shared window are the first of them and the first after them
ends : (ws : List Window) → MinutesHold ws → Share ws → let s = shared_by ws in IsFirstMinute ws s.from × IsAfter ws s.to
ends ws k h = (
  ((k.minutes s.from).0 (le_refl s.from, some-open), λ m i. ((k.minutes m).1 i).0),
  (λ m i. ((k.minutes m).1 i).1, λ n f. omega (arith, some-open, f (s.to - 1) ((k.minutes (s.to - 1)).0 (omega (arith, some-open))))),
)
  where
    s : Window
    s = shared_by ws

    some-open : s.from < s.to
    some-open = omega (arith, (k.minutes h.0).1 h.1)

-- ---- the windows of a row
pub row-windows : (ns hours row : List ℕ) → length row ≡ length ns → RowWindows ns hours row (windows_at (layer_hours ns hours) row)
unfolding window_at
row-windows ns hours row e = record {
  long = windows-long hs row long ∙ hours-long ns hours;
  each = λ j h w. windows-nth hs row j w (window_at []) long (omega (arith, hours-long ns hours)) ∙ window-layer ns hours j (get_or row j 0) (window_at []) h;
}
  where
    hs : List (ℕ → Window)
    hs = layer_hours ns hours

    long : length row ≡ length hs
    long = e ∙ sym (hours-long ns hours)

-- ---- the causes
-- what the check of windows tells
window-is : (w : Window) → (is_window w ≡ true) ↔ ((w.from < w.to) × (w.to ≤ 10080))
unfolding is_window
window-is w = (
  λ e. let b = two (ltb w.from w.to) (leb w.to 10080) e in (ltb-true w.from w.to b.0, leb-true w.to 10080 b.1),
  λ h. and-true (ltb w.from w.to) (leb w.to 10080) (lt-ltb w.from w.to h.0) (le-leb w.to 10080 h.1),
)

stated : (s : Shape) (hours : List ℕ) → Tells (Stated s hours) (are_hours (sum s.sizes) hours)
unfolding are_hours window_at
stated s hours =
    tells (are_hours n hours)
    (λ e. let b = two (eqb (length hours) (2 * n)) (all_windows n hours) e in (eqb-true (length hours) (2 * n) b.0, λ i h. (window-is (window_at hours i)).0 (below_at (λ j. is_window (window_at hours j)) n i b.1 h)))
    (λ h. and-true (eqb (length hours) (2 * n)) (all_windows n hours) (eq-eqb (length hours) (2 * n) h.0) (below_all (λ j. is_window (window_at hours j)) n (λ i k. (window-is (window_at hours i)).1 (h.1 i k))))
  where
    n : ℕ
    n = sum s.sizes

pub hours-checks : (s : Shape) (cells : List ℤ) (hours : List ℕ) → PlanChecks s cells (Check 24 (Stated s hours) Passed) (hours_cause (some hours) s cells)
unfolding hours_cause
hours-checks s cells hours = plan-last s cells 24 (λ e. stated s hours)

-- they pass exactly with their plan, and where they are as stated
pub hours-passed : (s : Shape) (cells : List ℤ) (hours : List ℕ) → (hours_cause (some hours) s cells ≡ 0) ↔ ((plan_cause s cells ≡ 0) × Stated s hours)
unfolding hours_cause
hours-passed s cells hours = check-passed (plan_cause s cells) 23 (λ e. stated s hours)

hours-refused : (s : Shape) (cells : List ℤ) (hours row : List ℕ) (n : ℕ) → hours_cause (some hours) s cells ≡ suc n
    → hours_values (hours_call s cells hours row) ≡ record { number = suc n; from = 0; to = 0 }
unfolding hours_call
hours-refused s cells hours row n e = rw e

-- ---- the call
module _ (s : Shape) (cells : List ℤ) (hours : List ℕ) (sound : Sound s cells) (windows : Stated s hours) (row : List ℕ) where
  passed : hours_cause (some hours) s cells ≡ 0
  passed = (hours-passed s cells hours).1 (sound.passed, windows)

  -- the windows of the row, and what they share
  abbrev own : List Window
  own = windows_at (layer_hours (sizes_of s) hours) row

  abbrev shared : Window
  shared = hours_of (sizes_of s) hours row

  call-shared : is_row (layers s cells) row ≡ true → shares_minute (sizes_of s) hours row ≡ true
      → hours_values (hours_call s cells hours row) ≡ record { number = 0; from = shared.from; to = shared.to }
  unfolding hours_call
  call-shared e f = rw (passed, e, f)

  call_none : (is_row (layers s cells) row && shares_minute (sizes_of s) hours row) ≡ false → hours_values (hours_call s cells hours row) ≡ record { number = 0; from = 0; to = 0 }
  unfolding hours_call
  call_none e = rw (passed, e)

  -- the table, and what a row of it is
  holds : TableHolds (sizes_of s) (grown s cells)
  holds = tables.tables (sizes_of s) (grown s cells) (framed s cells sound).1

  minutes-of : Memᴰ row (plan_table s cells) → MinutesHold own
  minutes-of m = some-minutes own (omega (arith, (row-windows (sizes_of s) hours row (holds.rows row m).long).long, (framed s cells sound).1.some))

  named : (is_row (layers s cells) row ≡ true) ↔ Memᴰ row (plan_table s cells)
  named = let n = (rows.rows s cells sound).names row in (λ e. holds.is.complete row (n.0 e), λ m. n.1 (holds.is.sound row m))

  hours-hold : HoursHold (plan_table s cells) row own (hours_values (hours_call s cells hours row))
  hours-hold = record {
    call = λ m h.
        let k = minutes-of m in
        subst (λ (v : HoursValues). (v.number ≡ 0) × IsFirstMinute own v.from × IsAfter own v.to) (sym (call-shared (named.1 m) (k.test.1 h))) (refl, (ends own k h).0, (ends own k h).1);
    others = λ f. call_none (never_true _ (λ e. let b = two (is_row (layers s cells) row) (shares_minute (sizes_of s) hours row) e in let m = named.0 b.0 in f (m, (minutes-of m).test.0 b.1)));
  }

pub hours : WindowsHold
hours = record { minutes = minutes-hold; windows = row-windows; causes = hours-checks; refused = hours-refused; hours = hours-hold }
