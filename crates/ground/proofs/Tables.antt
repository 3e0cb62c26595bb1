-- The common ground of a table's rows: in the range of the walk, and in ascending order of left.
use mathlib.Core.Path.{◌≡◌, refl, sym, ap, ◌∙◌}
use mathlib.Core.List.{List, [], ◌∷◌, Memᴰ}
use mathlib.Core.Bool.{true}
use Prim.Native.Nat.{ℕ, zero, suc, ◌<◌}
use native.Mathlib.Omega.{arith}
use lib.IntN.{ℤ}
use lib.Signed.{◌≤ℤ◌}
use lib.ListN.{length, get_or}
use Rattle.lists.specs.Lists.{All, Pairwise, sum}
use Rattle.lists.proofs.Lists.{all_map, all-of-mem, all_of_map, pairwise-of-map, pairwise-with}
use Rattle.geometry.specs.declared.Rect.{Rect}
use Rattle.geometry.specs.Rectangles.{extent, held, in_extent}
use Rattle.geometry.proofs.Integers.{zarith}
use Rattle.plan.specs.Plan.{Layer, rect_at, layers_of}
use Rattle.plan.specs.Spots.{Spot, layer_at, rect_of}
use Rattle.plan.specs.Frames.{Framed}
use Rattle.plan.proofs.Spots.{layers-long}
use Rattle.sweep.specs.Sweep.{Earlier, by_left, by_layer, by_place}
use Rattle.sweep.proofs.Spots.{rects-held, rects-ranged}
use Rattle.join.specs.Join.{InJoin, rects, common_of, guard_of}
use Rattle.join.specs.Table.{table_of, Precedes, by_guard, by_places}
use Rattle.join.proofs.Theorems.{tables, row-held}
use Rattle.ground.specs.Union.{grounds}

-- the rectangle of a row in a layer
row-rect : (ls : List Layer) (row : List ℕ) (i : ℕ) (d : Rect) → i < length (rects ls row) → get_or (rects ls row) i d ≡ (layer_at ls i).rect (get_or row i 0)
row-rect [] row i d h = absurd (omega arith)
row-rect (l ∷ ls) [] i d h = absurd (omega arith)
row-rect (l ∷ ls) (p ∷ row) zero d h = refl
row-rect (l ∷ ls) (p ∷ row) (suc i) d h = row-rect ls row i d (omega arith)

-- an earlier rectangle has no greater left
earlier-left : {ls : List Layer} {a b : Spot} → Earlier ls a b → (rect_of ls a).left ≤ℤ (rect_of ls b).left
earlier-left (by_left h) = omega zarith
earlier-left (by_layer e h) = omega zarith
earlier-left (by_place e q h) = omega zarith

-- the common ground of a row of J is in the range
pub row-ranged : (ns : List ℕ) (cells : List ℤ) → Framed ns cells → (row : List ℕ) → InJoin (layers_of ns cells) row → in_extent (common_of (rects (layers_of ns cells) row)) ≡ true
row-ranged ns cells f row j = row-held extent (layers_of ns cells) (omega (arith, layers-long ns cells, f.some)) (rects-ranged ns cells f) j

module _ (ns : List ℕ) (cells : List ℤ) (f : Framed ns cells) where
  abbrev ours : List Layer
  ours = layers_of ns cells

  -- so it is with any range that has each rectangle
  pub table-held : (b : ℤ) → ((i : ℕ) → i < sum ns → held b (rect_at cells i) ≡ true) → All (λ r. held b r ≡ true) (grounds ours (table_of ns cells))
  table-held b h =
      let v = rects-held b ns cells f.whole h in
      all_of_map (λ row. common_of (rects ours row)) (all-of-mem (table_of ns cells) (λ row m. row-held b ours (omega (arith, layers-long ns cells, f.some)) v ((tables.tables ns cells f).is.sound row m)))

  -- of any rows of the table
  pub rows-ranged : {rows : List (List ℕ)} → All (λ row. Memᴰ row (table_of ns cells)) rows → All (λ r. in_extent r ≡ true) (grounds ours rows)
  rows-ranged k = all_of_map (λ row. common_of (rects ours row)) (all_map (λ row m. row-ranged ns cells f row ((tables.tables ns cells f).is.sound row m)) k)

  guard-left : (row : List ℕ) → Memᴰ row (table_of ns cells) → (rect_of ours (guard_of ours row)).left ≡ (common_of (rects ours row)).left
  guard-left row m =
      let g = ((tables.tables ns cells f).rows row m).guard in
      ap (λ (r : Rect). r.left) (sym (row-rect ours row (guard_of ours row).layer (common_of []) g.one)) ∙ g.touches

  no-later : (a b : List ℕ) → Memᴰ a (table_of ns cells) → Memᴰ b (table_of ns cells) → Precedes ours a b → (common_of (rects ours a)).left ≤ℤ (common_of (rects ours b)).left
  no-later a b m n (by_guard e) = let h = earlier-left e in omega (zarith, guard-left a m, guard-left b n)
  no-later a b m n (by_places e l) = let h = ap (λ (s : Spot). (rect_of ours s).left) e in omega (zarith, guard-left a m, guard-left b n)

  pub table-lefts : Pairwise (λ r s. r.left ≤ℤ s.left) (grounds ours (table_of ns cells))
  table-lefts =
      pairwise-of-map (λ row. common_of (rects ours row)) (λ a b h. h)
      (pairwise-with no-later (all-of-mem (table_of ns cells) (λ row m. m)) (tables.tables ns cells f).is.ordered)
