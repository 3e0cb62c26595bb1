-- Laws of how many rows `pairs` tells, how long their lines are, and that there is room for them.
use mathlib.Core.Path.{◌≡◌, ap}
use mathlib.Core.Bool.{Bool, true, false, cond}
use mathlib.Core.List.{List, [], ◌∷◌, ◌++◌, flat_map}
use Prim.Native.Nat.{ℕ, zero, suc, ◌+◌, ◌-◌, ◌*◌, ◌≤◌, ◌<◌}
use native.Mathlib.Omega.{arith}
use lib.IntN.{ℤ}
use lib.ListN.{length, length-append, length-map}
use Rattle.lists.specs.Lists.{All, none_left, ◌and◌, each}
use Rattle.lists.proofs.Lists.{all-of-mem}
use Rattle.geometry.specs.Rectangles.{letter_of}
use Rattle.decimal.specs.Numerals.{decimal}
use Rattle.decimal.proofs.Numerals.{length-decimal, size_below}
use Rattle.plan.specs.declared.Shape.{Shape}
use Rattle.plan.specs.Plan.{Layer, sizes_of, grown, layers, Sound}
use Rattle.plan.specs.Spots.{layer_at}
use Rattle.plan.proofs.Spots.{size_of}
use Rattle.plan.proofs.Theorems.{plans}
use Rattle.plan.proofs.Plan.{checked}
use Rattle.join.specs.Join.{Within, no_layer, ◌below◌, area_in, kind_in}
use Rattle.join.specs.Table.{plan_table}
use Rattle.printing.specs.Lines.{fields_end, line_of, row_fields}
use Rattle.printing.proofs.Lines.{row-parts}
use Rattle.printing.specs.inner.Parts.{tabbed}
use Rattle.asking.specs.Pairs.{two_shape, two_cells, PairRow, rows_of_two, asked, rows_with, pair_rows}
use Rattle.asking.specs.Lines.{pair_line, two_line}
use Rattle.asking.specs.Theorems.{two_layers, ToldRow}
use Rattle.asking.proofs.Theorems.{asking}
use Rattle.asking_code.proofs.NearLines.{few}
use Rattle.asking_runs_code.proofs.TwoPlans.{two-few, size_few}

-- ---- how many rows
each-few : {A : Type 0} (f : ℕ → List A) (b p n : ℕ) → ((q : ℕ) → p ≤ q → q < p + n → length (f q) ≤ b) → length (each f p n) ≤ n * b
each-few f b p zero h = omega arith
each-few f b p (suc n) h =
    omega (arith, length-append (f p) (each f (suc p) n), h p (omega arith) (omega arith), each-few f b (suc p) n (λ q k l. h q (omega arith) (omega arith)))

-- how many pairs n layers have
pairs_of : ℕ → ℕ
pairs_of zero = 0
pairs_of (suc n) = n + pairs_of n

pairs-few : (n : ℕ) → n ≤ 6 → pairs_of n ≤ 15
unfolding pairs_of
pairs-few zero h = omega arith
pairs-few (suc zero) h = omega arith
pairs-few (suc (suc zero)) h = omega arith
pairs-few (suc (suc (suc zero))) h = omega arith
pairs-few (suc (suc (suc (suc zero)))) h = omega arith
pairs-few (suc (suc (suc (suc (suc zero))))) h = omega arith
pairs-few (suc (suc (suc (suc (suc (suc zero)))))) h = omega arith
pairs-few (suc (suc (suc (suc (suc (suc (suc n))))))) h = absurd (omega arith)

from-few : {A : Type 0} (f : ℕ → List A) (k : ℕ) → ((q : ℕ) → q < k → length (f q) ≤ (k - suc q) * 262144) → (p n : ℕ) → p + n ≡ k → length (each f p n) ≤ pairs_of n * 262144
unfolding pairs_of
from-few f k h p zero e = omega arith
from-few f k h p (suc n) e =
    let z : k - suc p ≡ n = omega arith in
    let w = rw z at (h p (omega arith)) in
    omega (arith, length-append (f p) (each f (suc p) n), w, from-few f k h (suc p) n (omega arith))

module _ (s : Shape) (cells : List ℤ) (sound : Sound s cells) (layer : ℕ) where
  with-few : (i : ℕ) → i < s.k → length (rows_with s cells layer i) ≤ (s.k - suc i) * 262144
  with-few i h = each-few (λ j. cond (asked layer i j) (rows_of_two s cells i j) []) 262144 (suc i) (s.k - suc i) (λ j a b. go (asked layer i j) j (omega arith))
    where
      go : (t : Bool) (j : ℕ) → j < s.k → length (cond t (rows_of_two s cells i j) []) ≤ 262144
      go true j l = omega (arith, two-few s cells i j sound h l, length-map {B = PairRow} (plan_table (two_shape s i j) (two_cells s cells i j)) (λ row. record { lower = i; higher = j; row = row }))
      go false j l = omega arith

  pub rows_few : length (pair_rows s cells layer) ≤ 3932160
  rows_few = omega (arith, from-few (rows_with s cells layer) s.k with-few 0 s.k (omega arith), pairs-few s.k (checked s cells sound).high)

-- ---- how long a line is
one-digit : (n : ℕ) → n < 10 → length (decimal n) ≤ 1
one-digit n h = omega (arith, length-decimal n, size_below 0 n (omega arith) h)

three-digits : (n : ℕ) → n < 1000 → length (decimal n) ≤ 3
three-digits n h = omega (arith, length-decimal n, size_below 2 n (omega arith) h)

line-few : (ls : List Layer) (lower higher p q : ℕ) → suc lower < 10 → suc higher < 10 → p < 1000 → q < 1000
    → length (pair_line ls (record { lower = lower; higher = higher; row = p ∷ q ∷ [] })) ≤ 40
unfolding pair_line line_of
line-few ls lower higher p q a b c d =
    let row = p ∷ q ∷ [] in
    let area = area_in ls row in
    let kind = kind_in ls row in
    let end = fields_end (decimal area ∷ (letter_of kind ∷ []) ∷ []) in
    let rest = fields_end (row_fields (suc higher) row area kind) in
    omega (
      arith,
      length-append (decimal (suc lower)) rest,
      ap length (row-parts (suc higher) row area kind),
      length-append (9 ∷ decimal (suc higher)) (tabbed row ++ end),
      length-append (tabbed row) end,
      length-append (decimal p) (tabbed (q ∷ [])),
      length-append (decimal q) [],
      length-append (decimal area) (9 ∷ letter_of kind ∷ 10 ∷ []),
      one-digit (suc lower) a,
      one-digit (suc higher) b,
      three-digits p c,
      three-digits q d,
      few area,
    )

flat-few : (line : PairRow → List ℕ) (b : ℕ) {rows : List PairRow} → All (λ p. length (line p) ≤ b) rows → length (flat_map line rows) ≤ length rows * b
unfolding flat_map
flat-few line b none_left = omega arith
flat-few line b (◌and◌ {a = a} {l = l} h hs) = omega (arith, length-append (line a) (flat_map line l), h, flat-few line b hs)

module _ (s : Shape) (cells : List ℤ) (sound : Sound s cells) (layer : ℕ) where
  place-few : (i p : ℕ) → i < s.k → p < (layer_at (layers s cells) i).size → p < 1000
  place-few i p h l = omega (arith, size_of (sizes_of s) (grown s cells) i, plans.sizes s i h, size_few s cells i i sound h h i h)

  told-few : (p : PairRow) → ToldRow s cells layer p → length (two_line s cells p) ≤ 40
  told-few p t = go p.row t.met.within
    where
      go : (row : List ℕ) → Within (two_layers s cells p.lower p.higher) row
          → length (pair_line (layers (two_shape s p.lower p.higher) (two_cells s cells p.lower p.higher)) (record { lower = p.lower; higher = p.higher; row = row })) ≤ 40
      go row (◌below◌ {p = a} x (◌below◌ {p = b} y no_layer)) =
          let high = (checked s cells sound).high in
          let o = t.order in
          let h = t.there in
          line-few _ p.lower p.higher a b (omega arith) (omega arith) (place-few p.lower a (omega arith) x) (place-few p.higher b h y)

  pub lines-few : length (flat_map (two_line s cells) (pair_rows s cells layer)) ≤ 157286400
  lines-few = omega (
    arith,
    flat-few (two_line s cells) 40 (all-of-mem (pair_rows s cells layer) (λ p m. told-few p (((asking.pairs s cells sound layer).exactly p).0 m))),
    rows_few s cells sound layer,
  )
