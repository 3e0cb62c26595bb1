-- The cases hold, as the definitions compute them.
use mathlib.Core.Path.{◌≡◌, refl, ap, ◌∙◌}
use mathlib.Core.List.{List, ◌∷◌, [], ◌++◌, Memᴰ}
use Prim.Native.Nat.{ℕ, ◌+◌, ◌*◌, ◌/◌, ◌≤◌, ◌<◌}
use native.Mathlib.Omega.{arith}
use lib.Dec.{lit≤}
use lib.IntN.{pos, ℤ}
use lib.ListN.{length, get_or-replicate, length-replicate}
use borrow.Author.Tests.{le-leb, eq-eqb}
use Rattle.lists.specs.Lists.{All, none_left, ◌and◌, same, done, ◌then◌}
use Rattle.lists.proofs.Tests.{below_all}
use Rattle.totals.specs.Totals.{total_of, value_of}
use Rattle.geometry.specs.Rectangles as Rectangles
use Rattle.geometry.specs.Rectangles.{max_z, min_z, common, nonempty, meets, between, held, in_range, grown_by, area_of, in_extent}
use Rattle.geometry.proofs.Machine.{rect-eq}
use Rattle.plan.specs.Plan.{rect_at, sizes_of, grown, fits_at, plan_cause, layers}
use Rattle.sweep.specs.Sweep.{before, sweep_order, order_cause}
use Rattle.join.specs.Join.{area_in, kind_in, same_z}
use Rattle.join.specs.Table.{same_spot, belongs, table_of, plan_table}
use Rattle.rows.specs.RowCall.{is_row, row_call, common_call}
use Rattle.walk.specs.Walk.{walk_of}
use Rattle.windows.specs.Windows.{window_at, is_window, are_hours, is_open}
use Rattle.windows.specs.HoursCall.{hours_cause, hours_call}
use Rattle.timed.specs.Timed.{timed_walk_of, timed_table_of}
use Rattle.paging.specs.Cursors.{same_cursor, resume}
use Rattle.paging.specs.Calls.{current, fresh_cause, fresh_call, fresh_counter, page_cause, page_call, page_table, page_counter, run_cause}
use Rattle.decimal.specs.Numerals.{size, decimal, numeral}
use Rattle.decimal.specs.inner.Bytes.{kind_of}
use Rattle.decimal.specs.Reading.{number}
use Rattle.line.specs.Parsing.{line}
use Rattle.text.specs.Parsing.{lines_of}
use Rattle.text.specs.Plans.{plan_lines, text_of, shape_in, agrees}
use Rattle.text.specs.Reader.{read_cause, text_shape, text_cells}
use Rattle.printing.specs.Lines as Lines
use Rattle.printing.specs.Lines.{row_fields, square_metres}
use Rattle.reporting.specs.Report.{empty_table, report_cause, report_of}
use Rattle.cases.specs.Cases.{Case, shape, alike, Holds, GroundHolds, d_text, small_text, twice_text, corner_text}
use mathlib.Core.Bool.{true}
use Rattle.geometry.specs.declared.Rect.{Rect}
use Rattle.geometry.proofs.Integers.{zarith, add-law}
use Rattle.ground.specs.Union.{square_in, union_of, grounds}
use Rattle.ground.specs.Theorems.{corners}
use Rattle.ground.proofs.Theorems.{union-holds, union-members}

-- a layer of n rectangles at one point, and an empty one, are a plan for n up to 512: shown for any n, since to compute it takes long
point_at : (n i : ℕ) → i < n → rect_at (alike n) i ≡ record { left = pos 0; bottom = pos 0; right = pos 0; top = pos 0 }
unfolding rect_at
point_at n i h =
    rect-eq
    (get_or-replicate (4 * n) (4 * i) (pos 0) (pos 0) (omega arith))
    (get_or-replicate (4 * n) (4 * i + 1) (pos 0) (pos 0) (omega arith))
    (get_or-replicate (4 * n) (4 * i + 2) (pos 0) (pos 0) (omega arith))
    (get_or-replicate (4 * n) (4 * i + 3) (pos 0) (pos 0) (omega arith))

one-layer : (n : ℕ) → n ≤ 512 → plan_cause (shape 2 n 0 0) (alike n) ≡ 0
unfolding plan_cause fits_at
one-layer n h =
    let l : length (alike n) ≡ 4 * n = length-replicate (4 * n) (pos 0) in
    rw (
      le-leb n 512 h,
      eq-eqb (length (alike n)) (4 * (n + 0)) (omega arith),
      below_all (λ j. in_range (rect_at (alike n) j)) (length (alike n) / 4) (λ i k. ap in_range (point_at n i (omega arith)) ∙ (unfold held between nonempty in refl)),
    )

-- ---- reports: the union of a table's rows is not computed square by square
-- what is printed for a text whose rows' common ground comes to u
report-with : (t : List ℕ) (u : ℕ) → let s = text_shape t in let cells = text_cells t in let table = plan_table s cells in report_cause t ≡ 0 → union_of (grounds (layers s cells) table) ≡ u
    → report_of t ≡ Lines.row_lines (layers s cells) table ++ Lines.total_line (length table) (length (walk_of (sizes_of s) (grown s cells))) (total_of u)
unfolding report_of
report-with t u e g = rw (e, g)

-- two rectangles that share no square
abbrev Apart : Rect → Rect → Type 0
Apart r s = (x y : ℤ) → square_in x y r ≡ true → square_in x y s ≡ true → ⊥

two-apart : (r s : Rect) → in_extent r ≡ true → in_extent s ≡ true → Apart r s → union_of (r ∷ s ∷ []) ≡ area_of r + (area_of s + 0)
two-apart r s p q h = union-holds.apart (r ∷ s ∷ []) (◌and◌ p (◌and◌ q none_left)) (◌then◌ (◌and◌ h none_left) (◌then◌ none_left done))

union-d : union_of (corners (pos 500) (pos 500) (pos 1000) (pos 1000) ∷ corners (pos 1000) (pos 500) (pos 1500) (pos 500) ∷ []) ≡ 250000
unfolding area_of held between nonempty
union-d = two-apart (corners (pos 500) (pos 500) (pos 1000) (pos 1000)) (corners (pos 1000) (pos 500) (pos 1500) (pos 500)) refl refl flat
  where
    flat : Apart (corners (pos 500) (pos 500) (pos 1000) (pos 1000)) (corners (pos 1000) (pos 500) (pos 1500) (pos 500))
    flat x y a b = let h = (union-holds.square x y _).0 b in omega (zarith, h.bottom, h.top, add-law y (pos 1))

union-small : union_of (corners (pos 0) (pos 0) (pos 70) (pos 70) ∷ corners (pos 0) (pos 100) (pos 70) (pos 170) ∷ []) ≡ 9800
unfolding area_of held between nonempty
union-small = two-apart (corners (pos 0) (pos 0) (pos 70) (pos 70)) (corners (pos 0) (pos 100) (pos 70) (pos 170)) refl refl above
  where
    above : Apart (corners (pos 0) (pos 0) (pos 70) (pos 70)) (corners (pos 0) (pos 100) (pos 70) (pos 170))
    above x y a b = let h = (union-holds.square x y _).0 a in let k = (union-holds.square x y _).0 b in omega (zarith, h.top, k.bottom, add-law y (pos 1))

-- the same rectangle twice is it once
union-twice : union_of (corners (pos 0) (pos 0) (pos 1000) (pos 1000) ∷ corners (pos 0) (pos 0) (pos 1000) (pos 1000) ∷ []) ≡ 1000000
unfolding area_of held between nonempty
union-twice =
    let r = corners (pos 0) (pos 0) (pos 1000) (pos 1000) in
    union-members (r ∷ r ∷ []) (r ∷ []) (λ q. (less q, λ m. Memᴰ.tail m)) ∙ union-holds.apart (r ∷ []) (◌and◌ refl none_left) (◌then◌ none_left done)
  where
    less : (q : Rect) → Memᴰ q (corners (pos 0) (pos 0) (pos 1000) (pos 1000) ∷ corners (pos 0) (pos 0) (pos 1000) (pos 1000) ∷ []) → Memᴰ q (corners (pos 0) (pos 0) (pos 1000) (pos 1000) ∷ [])
    less q (Memᴰ.head e) = Memᴰ.head e
    less q (Memᴰ.tail m) = m

union-corner : union_of (corners (pos 10) (pos 10) (pos 10) (pos 10) ∷ []) ≡ 0
unfolding area_of held between nonempty
union-corner = union-holds.apart (corners (pos 10) (pos 10) (pos 10) (pos 10) ∷ []) (◌and◌ refl none_left) (◌then◌ none_left done)

infixr 20 ◌also◌
-- one more case holds
◌also◌ : {c : Case} {cs : List Case} → Holds c → All Holds cs → All Holds (c ∷ cs)
◌also◌ h hs = ◌and◌ h hs

pub ground-holds : GroundHolds
unfolding window_at is_window are_hours is_open hours_cause hours_call timed_table_of timed_walk_of total_of value_of max_z min_z common nonempty meets Rectangles.kind_of between held area_of rect_at grown_by grown fits_at plan_cause before sweep_order order_cause area_in kind_in same_z same_spot belongs table_of is_row row_call common_call walk_of same same_cursor resume current fresh_cause fresh_call fresh_counter page_cause page_call page_table page_counter read_cause text_shape text_cells lines_of line number kind_of plan_lines text_of shape_in agrees size decimal numeral Lines.line_of row_fields square_metres run_cause empty_table report_cause report_of
ground-holds =
    (refl, refl, refl)
    also (refl, refl, refl, refl, refl, refl, refl, (refl, refl, refl, refl, refl, refl, refl, tt))
    also (refl, refl, refl, refl, refl, refl, refl, (refl, refl, refl, refl, refl, refl, refl, tt))
    also (refl, refl, refl, refl, refl, refl, refl, tt)
    also (refl, refl, refl)
    also (refl, refl, refl)
    also (refl, refl)
    also (refl, refl, refl)
    also (refl, refl, refl)
    also (refl, refl, refl)
    also (refl, refl)
    also (refl, refl)
    also (refl, refl)
    also (refl, refl)
    also (refl, refl)
    also (refl, refl)
    also (refl, refl)
    also (refl, refl)
    also (refl, refl)
    also (refl, refl)
    also (refl, refl)
    also (refl, refl)
    also (refl, refl)
    also (refl, refl)
    also (refl, refl)
    also one-layer 512 (lit≤ tt)
    also refl
    also (refl, refl)
    also (refl, refl)
    also (refl, refl)
    also (refl, refl)
    also (refl, refl)
    also (refl, refl)
    also (refl, refl)
    also (refl, refl)
    also (refl, refl)
    also (refl, refl)
    also (refl, refl)
    also (refl, refl)
    also report-with d_text 250000 refl union-d
    also report-with small_text 9800 refl union-small
    also report-with twice_text 1000000 refl union-twice
    also report-with corner_text 0 refl union-corner
    also refl
    also (refl, refl)
    also (refl, refl)
    also (refl, refl)
    also (refl, refl)
    also (refl, refl)
    also (refl, refl)
    also (refl, refl)
    also refl
    also refl
    also refl
    also refl
    also (refl, refl)
    also (refl, refl)
    also (refl, refl)
    also (refl, refl)
    also (refl, refl)
    also (refl, refl)
    also (refl, refl)
    also (refl, refl)
    also refl
    also refl
    also refl
    also (refl, refl, refl)
    also (refl, refl, refl, refl, refl, refl, refl, tt)
    also (refl, refl)
    also (refl, refl)
    also (refl, refl)
    also (refl, refl)
    also (refl, refl)
    also (refl, refl, refl)
    also (refl, refl, refl)
    also (refl, refl, refl)
    also (refl, refl, refl, refl, refl, refl, refl, tt)
    also refl
    also refl
    also refl
    also refl
    also refl
    also refl
    also refl
    also refl
    also (refl, refl, refl)
    also (refl, refl, refl)
    also (refl, refl, refl)
    also (refl, refl, refl)
    also (refl, refl)
    also (refl, refl)
    also (refl, refl)
    also (refl, refl)
    also (refl, refl)
    also refl
    also refl
    also refl
    also refl
    also (refl, refl)
    also refl
    also refl
    also (refl, refl)
    also (refl, refl)
    also (refl, refl)
    also (refl, refl, λ n. (refl, refl))
    also (refl, refl)
    also (refl, refl)
    also (refl, refl)
    also (refl, refl)
    also (refl, refl)
    also (refl, refl)
    also (refl, refl)
    also (refl, refl)
    also (refl, refl)
    also (refl, refl)
    also (refl, refl)
    also (refl, refl)
    also (refl, refl)
    also (refl, refl)
    also (refl, refl)
    also none_left
