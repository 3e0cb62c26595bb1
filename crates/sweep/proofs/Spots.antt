-- The order of numbers is that of spots by left, layer and place.
use mathlib.Core.Path.{◌≡◌, sym, ap, ◌∙◌}
use mathlib.Core.List.Memᴰ
use mathlib.Core.List.{List, map, Memᴰ}
use mathlib.Core.Bool.{true}
use mathlib.Core.Logic.{◌⊎◌, inl, inr, ⊎_elim}
use Prim.Native.Nat.{ℕ, ◌*◌, ◌<◌}
use native.Mathlib.Omega.{arith}
use lib.IntN.{ℤ}
use lib.Signed.{◌≤ℤ◌, ◌<ℤ◌}
use lib.ListN.{length, get_or}
use Rattle.lists.specs.Lists.{All, Pairwise, sum}
use Rattle.lists.proofs.Lists.{all_map, all-at, all_of_map, pairwise-of-map, pairwise-with}
use Rattle.geometry.specs.declared.Rect.{Rect}
use Rattle.geometry.specs.Rectangles.{extent, held, in_extent}
use Rattle.geometry.proofs.Integers.{zarith, total-le}
use Rattle.plan.specs.Plan.{count, Layer, layers_of, rect_at}
use Rattle.plan.specs.Frames.{Framed}
use Rattle.plan.specs.Spots.{Spot, spot_of, Has, rect_of}
use Rattle.sweep.specs.Sweep.{Earlier, by_left, by_layer, by_place, before, sweep_order}
use Rattle.sweep.proofs.Sweep.{left_at, before-is, sweep-is, sweep-has}
use Rattle.plan.proofs.Spots.{rect-number, Ahead, number_at, spot-number, spots-ascend, number_small, size_of}

-- no two rectangles are each before the other
pub earlier-asym : {ls : List Layer} {a b : Spot} → Earlier ls a b → Earlier ls b a → ⊥
earlier-asym (by_left h) (by_left k) = omega zarith
earlier-asym (by_left h) (by_layer p k) = omega zarith
earlier-asym (by_left h) (by_place p q k) = omega zarith
earlier-asym (by_layer e h) (by_left k) = omega zarith
earlier-asym (by_layer e h) (by_layer p k) = omega arith
earlier-asym (by_layer e h) (by_place p q k) = omega arith
earlier-asym (by_place e f h) (by_left k) = omega zarith
earlier-asym (by_place e f h) (by_layer p k) = omega arith
earlier-asym (by_place e f h) (by_place p q k) = omega arith

-- all rectangles of the layers, by left, then layer, then place
pub record Sweep (ls : List Layer) (spots : List Spot) : Type 0 where
  pub sound : All (Has ls) spots
  pub complete : (s : Spot) → Has ls s → Memᴰ s spots
  pub ascending : Pairwise (Earlier ls) spots

-- ---- a plan: four cells a rectangle
module _ (sizes : List ℕ) (cells : List ℤ) (whole : length cells ≡ 4 * sum sizes) where
  counted : count cells ≡ sum sizes
  counted = omega arith

  left-at : (k : ℕ) → k < count cells → (rect_of (layers_of sizes cells) (spot_of sizes k)).left ≡ left_at cells k
  left-at k h = ap (λ (r : Rect). r.left) (rect-number sizes cells k (omega (arith, counted))).0

  pub earlier : (j k : ℕ) → j < count cells → k < count cells → before cells j k ≡ true → Earlier (layers_of sizes cells) (spot_of sizes j) (spot_of sizes k)
  earlier j k h i e = go (before-is cells j k e)
    where
      p : (rect_of (layers_of sizes cells) (spot_of sizes j)).left ≡ left_at cells j
      p = left-at j h

      q : (rect_of (layers_of sizes cells) (spot_of sizes k)).left ≡ left_at cells k
      q = left-at k i

      tie : left_at cells j ≡ left_at cells k → Ahead (spot_of sizes j) (spot_of sizes k) → Earlier (layers_of sizes cells) (spot_of sizes j) (spot_of sizes k)
      tie z (inl a) = by_layer (p ∙ (z ∙ sym q)) a
      tie z (inr a) = by_place (p ∙ (z ∙ sym q)) a.0 a.1

      less : left_at cells j <ℤ left_at cells k → Earlier (layers_of sizes cells) (spot_of sizes j) (spot_of sizes k)
      less z = by_left (rw (p, q) z)

      go : (left_at cells j <ℤ left_at cells k) ⊎ ((left_at cells j ≤ℤ left_at cells k) × (j < k)) → Earlier (layers_of sizes cells) (spot_of sizes j) (spot_of sizes k)
      go (inl z) = less z
      go (inr z) = ⊎_elim (λ y. tie (omega zarith) (spots-ascend sizes j k z.1)) less (total-le (left_at cells k) (left_at cells j))

  -- each number is that of a rectangle
  pub plan-has : All (λ k. Has (layers_of sizes cells) (spot_of sizes k)) (sweep_order cells)
  plan-has = all_map (λ k h. (rect-number sizes cells k (omega (arith, counted))).1) (sweep-is cells).below

  -- the order of numbers, as spots, is the sweep order
  pub sweeps : Sweep (layers_of sizes cells) (map (spot_of sizes) (sweep_order cells))
  sweeps = record {
    sound = all_of_map (spot_of sizes) plan-has;
    complete = λ s h. has s (rw size_of at h);
    ascending = pairwise-of-map (spot_of sizes) (λ a b h. h) (pairwise-with earlier (sweep-is cells).below (sweep-is cells).ascending);
  }
    where
      has : (s : Spot) → s.place < get_or sizes s.layer 0 → Memᴰ s (map (spot_of sizes) (sweep_order cells))
      has s h =
          let k = number_at sizes s.layer s.place in
          Memᴰ.cast (sym (spot-number sizes s.layer s.place h))
          (Memᴰ.map (spot_of sizes) (sweep-has cells (sweep-is cells) k (omega (arith, counted, number_small sizes s.layer s.place h))))

-- every rectangle of the layers is in a range where each in the cells is
pub rects-held : (b : ℤ) (sizes : List ℕ) (cells : List ℤ) → length cells ≡ 4 * sum sizes → ((k : ℕ) → k < sum sizes → held b (rect_at cells k) ≡ true)
    → (s : Spot) → Has (layers_of sizes cells) s → held b (rect_of (layers_of sizes cells) s) ≡ true
rects-held b sizes cells whole f s h =
    all-at {P = λ s. held b (rect_of (layers_of sizes cells) s) ≡ true} (all_of_map (spot_of sizes) (all_map one (sweep-is cells).below))
    ((sweeps sizes cells whole).complete s h)
  where
    one : (k : ℕ) → k < count cells → held b (rect_of (layers_of sizes cells) (spot_of sizes k)) ≡ true
    one k p = let l : k < sum sizes = omega (arith, whole) in ap (held b) (rect-number sizes cells k l).0 ∙ f k l

-- in the extent, where the sizes frame the cells
pub rects-ranged : (sizes : List ℕ) (cells : List ℤ) → Framed sizes cells → (s : Spot) → Has (layers_of sizes cells) s → in_extent (rect_of (layers_of sizes cells) s) ≡ true
rects-ranged sizes cells f = rects-held extent sizes cells f.whole f.ranged
