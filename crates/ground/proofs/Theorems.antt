-- The promises on ground counted once hold.
use mathlib.Core.Path.{◌≡◌, refl, sym, ap, ◌∙◌}
use mathlib.Core.Bool.{true}
use mathlib.Core.Logic.{◌↔◌, ⊎_elim}
use mathlib.Core.List.Memᴰ
use mathlib.Core.List.{List, [], ◌∷◌, map, Memᴰ}
use Prim.Native.Nat.{ℕ}
use lib.Dec.{T}
use lib.IntN.{ℤ, pos, neg_ℤ}
use lib.Signed.{le_z}
use Rattle.lists.specs.Lists.{All, none_left, ◌and◌}
use Rattle.lists.proofs.Kept.{map-map}
use Rattle.geometry.specs.declared.Rect.{Rect}
use Rattle.geometry.specs.Rectangles.{extent, area_of}
use Rattle.plan.specs.Plan.{Layer, layers_of}
use Rattle.plan.specs.Frames.{Framed}
use Rattle.join.specs.Join.{rects, common_of, area_in}
use Rattle.join.specs.Table.{table_of}
use Rattle.ground.specs.Union.{holds_unit, square_in, union_of, grounds}
use Rattle.ground.specs.Theorems.{HoldsSquare, UnionHolds, RowsUnion, TableUnions, corners}
use Rattle.ground.proofs.Slabs.{Rises, top, up_to, union-by-cells}
use Rattle.ground.proofs.Union.{covers-is, is-covers, covered-is, is-covered, same-squares, union-whole, union-same, union-most, union-apart, union-least, union-bound}
use Rattle.ground.proofs.Tables.{rows-ranged}
use Rattle.ground.proofs.Layers.{covered-each}

-- ---- the example, by its lines 0 to 3
abbrev two : List Rect
two = corners (pos 0) (pos 0) (pos 2) (pos 2) ∷ corners (pos 1) (pos 1) (pos 3) (pos 3) ∷ []

abbrev lines : List ℤ
lines = pos 0 ∷ pos 1 ∷ pos 2 ∷ pos 3 ∷ extent ∷ []

rise : (a b : ℤ) {l : List ℤ} → T (le_z a b) → Rises b l → Rises a (b ∷ l)
rise a b t r = up_to (record { le = t }) r

ascend : Rises (neg_ℤ extent) lines
ascend = rise _ _ tt (rise _ _ tt (rise _ _ tt (rise _ _ tt (rise _ _ tt top))))

among : All (λ c. Memᴰ c (neg_ℤ extent ∷ lines)) (pos 0 ∷ pos 2 ∷ pos 1 ∷ pos 3 ∷ [])
among =
    ◌and◌ (Memᴰ.tail (Memᴰ.head refl))
    (◌and◌ (Memᴰ.tail (Memᴰ.tail (Memᴰ.tail (Memᴰ.head refl))))
    (◌and◌ (Memᴰ.tail (Memᴰ.tail (Memᴰ.head refl)))
    (◌and◌ (Memᴰ.tail (Memᴰ.tail (Memᴰ.tail (Memᴰ.tail (Memᴰ.head refl))))) none_left)))

example : union_of two ≡ 7
unfolding union_of square_in holds_unit
example = union-by-cells two (neg_ℤ extent) (neg_ℤ extent) lines lines ascend ascend among among

-- neither order nor repetition matters
pub union-members : (rs ss : List Rect) → ((r : Rect) → Memᴰ r rs ↔ Memᴰ r ss) → union_of rs ≡ union_of ss
union-members rs ss f = union-same rs ss (same-squares rs ss (λ r. (f r).0) (λ r. (f r).1))

pub union-holds : UnionHolds
union-holds = record {
  square = λ x y r. (covers-is x y r, is-covers x y r);
  some = λ x y rs. (
    λ e. let k = covered-is x y rs e in (k.0, k.1, covers-is x y k.0 k.2),
    λ k. is-covered x y rs k.0 k.1 (is-covers x y k.0 k.2),
  );
  whole = union-whole;
  settled = union-same;
  most = union-most;
  apart = union-apart;
  least = union-least;
  bound = union-bound;
  example = example;
}

-- ---- tables
row-areas : (ls : List Layer) (rows : List (List ℕ)) → map area_of (grounds ls rows) ≡ map (area_in ls) rows
unfolding area_in
row-areas ls rows = map-map area_of (λ row. common_of (rects ls row)) rows

-- a covered square lies in the common ground of a row
row-covers : (ls : List Layer) (rows : List (List ℕ)) (x y : ℤ) (r : Rect) → Memᴰ r (grounds ls rows) → square_in x y r ≡ true → (row : List ℕ) × Memᴰ row rows × HoldsSquare x y (common_of (rects ls row))
row-covers ls [] x y r m e = absurd (Memᴰ.not-nil m)
row-covers ls (row ∷ rows) x y r m e =
    ⊎_elim (λ q. (row, Memᴰ.head refl, covers-is x y _ (ap (square_in x y) (sym q) ∙ e))) (λ k. let h = row-covers ls rows x y r k e in (h.0, Memᴰ.tail h.1, h.2)) (Memᴰ.cases_cons m)

module _ (ns : List ℕ) (cells : List ℤ) (f : Framed ns cells) where
  abbrev ours : List Layer
  ours = layers_of ns cells

  rows-union : (rows : List (List ℕ)) → All (λ row. Memᴰ row (table_of ns cells)) rows → RowsUnion ours rows (grounds ours rows)
  unfolding area_in
  rows-union rows k = record {
    ranged = rows-ranged ns cells f k;
    areas = row-areas ours rows;
    of_rows = λ x y. (
      λ e. let k = covered-is x y _ e in row-covers ours rows x y k.0 k.1 k.2,
      λ k. is-covered x y _ (common_of (rects ours k.0)) (Memᴰ.map (λ row. common_of (rects ours row)) k.1) (is-covers x y _ k.2),
    );
  }

pub table-unions : TableUnions
table-unions = record { tables = rows-union; layers = covered-each }
