-- The line of a row ends with its kind, an area sum is rounded to the nearest hundredth, and plans of the old range have the total that they had.
use mathlib.Core.Bool.{true}
use mathlib.Core.Path.{◌≡◌, refl, sym, ap, ◌∙◌}
use mathlib.Core.List.{List, [], ◌∷◌, ◌++◌, flat_map, append_assoc}
use Prim.Native.Nat.{ℕ, suc, ◌+◌, ◌/◌, ◌≤◌, ◌<◌}
use native.Mathlib.Omega.{arith}
use lib.IntN.{ℤ, pos}
use Rattle.lists.specs.Lists.{All}
use Rattle.geometry.specs.Rectangles.{held, letter_of}
use Rattle.totals.specs.declared.Total.{Total}
use Rattle.totals.specs.Totals.{total_of, value_of}
use Rattle.totals.proofs.Totals.{value-total}
use Rattle.decimal.specs.Numerals.{digits, decimal}
use Rattle.plan.specs.declared.Shape.{Shape}
use Rattle.plan.specs.Plan.{Layer, sizes_of, grown, Sound}
use Rattle.plan.specs.Theorems.{OldCells}
use Rattle.plan.proofs.Growing.{framed, grown-ranged}
use Rattle.plan.proofs.Theorems.{plans, plan-passed}
use Rattle.join.specs.Join.{rects, area_in, kind_in, guard_layer}
use Rattle.ground.proofs.Union.{union-old}
use Rattle.ground.proofs.Tables.{table-held}
use Rattle.printing.specs.Lines.{ROW, TOTAL, line_of, row_line, row_lines, hundredths, square_metres, total_line}
use Rattle.printing.specs.inner.Parts.{tabbed}
use Rattle.printing.specs.Theorems.{RowsEnd, Rounds, row_grounds, OldTotal, OldTotals}
use Rattle.printing.proofs.Lines.{row-parts, decimals-of, metres-are}

ends : (ls : List Layer) (row : List ℕ) → (front : List ℕ) × (row_line ls row ≡ front ++ 9 ∷ letter_of (kind_in ls row) ∷ 10 ∷ [])
unfolding line_of
ends ls row =
    let layer = suc (guard_layer (rects ls row)) in
    let last : List ℕ = 9 ∷ letter_of (kind_in ls row) ∷ 10 ∷ [] in
    let area : List ℕ = 9 ∷ decimal (area_in ls row) in (
      ROW ++ ((9 ∷ decimal layer) ++ (tabbed row ++ area)),
      ap (λ (l : List ℕ). ROW ++ l) (row-parts layer row (area_in ls row) (kind_in ls row) ∙ (ap (λ (l : List ℕ). (9 ∷ decimal layer) ++ l) (sym (append_assoc (tabbed row) area last)) ∙ sym (append_assoc (9 ∷ decimal layer) (tabbed row ++ area) last))) ∙ sym (append_assoc ROW ((9 ∷ decimal layer) ++ (tabbed row ++ area)) last),
    )

lines : (ls : List Layer) (rows : List (List ℕ)) → row_lines ls rows ≡ flat_map (row_line ls) rows
unfolding flat_map
lines ls [] = refl
lines ls (row ∷ rows) = ap (λ (l : List ℕ). row_line ls row ++ l) (lines ls rows)

pub rows_end : RowsEnd
rows_end = record { kind = ends; lines = lines }

carries : (t : Total) → 995000 ≤ t.rest → t.rest < 1000000 → square_metres (hundredths (value_of t)) ≡ decimal (t.metres + 1) ++ 46 ∷ 48 ∷ 48 ∷ []
carries t h k = metres-are t 100 (omega arith)

stays : (t : Total) → t.rest < 995000 → square_metres (hundredths (value_of t)) ≡ decimal t.metres ++ 46 ∷ digits 2 ((t.rest + 5000) / 10000)
stays t h =
    let e : t.metres + (t.rest + 5000) / 10000 / 100 ≡ t.metres = omega arith in
    metres-are t ((t.rest + 5000) / 10000) refl ∙ ap (λ (n : ℕ). decimal n ++ 46 ∷ digits 2 ((t.rest + 5000) / 10000)) e

line : (rows probes n : ℕ) → total_line rows probes (total_of n)
    ≡ 84 ∷ 79 ∷ 84 ∷ 65 ∷ 76 ∷ 9 ∷ (decimal rows ++ 9 ∷ (decimal probes ++ 9 ∷ (square_metres ((n + 5000) / 10000) ++ 10 ∷ [])))
unfolding line_of
line rows probes n = ap (λ (m : ℕ). line_of TOTAL (decimal rows ∷ decimal probes ∷ square_metres (hundredths m) ∷ [])) (value-total n)

pub rounds : Rounds
unfolding square_metres
rounds = record { nearest = λ area_sum. (omega arith, omega arith); line = line; carries = carries; stays = stays; printed = λ h. ap (λ (l : List ℕ). decimal (h / 100) ++ l) (decimals-of h _ _ refl refl) }

-- ---- plans of the old range
old-total : (s : Shape) (cells : List ℤ) → Sound s cells → OldCells cells → OldTotal s cells
old-total s cells h old = record { ranged = ranged; union = union-old (row_grounds s cells) ranged }
  where
    ranged : All (λ r. held (pos 1050000) r ≡ true) (row_grounds s cells)
    ranged = table-held (sizes_of s) (grown s cells) (framed s cells h).1 (pos 1050000) (grown-ranged s cells h 1000000 ((plans.old cells old).0 ((plan-passed s cells).0 h.passed).4))

pub old-totals : OldTotals
old-totals = record { totals = old-total }
