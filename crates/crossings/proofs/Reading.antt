-- Laws of the rectangles that the code reads: of one layer, and of a row in one layer.
use mathlib.Core.Path.{◌≡◌, refl, sym, ap, ap₂, ◌∙◌}
use mathlib.Core.List.{List, [], ◌∷◌}
use mathlib.Core.Bool.{Bool, true, false, ◌&&◌}
use Prim.Native.Nat.{ℕ, zero, suc, ◌+◌, ◌-◌, ◌*◌, ◌≤◌, ◌<◌}
use native.Mathlib.Omega.{arith}
use borrow.Author.Tests.{eqb-true, eqb-false}
use lib.Dec.{eqb}
use lib.IntN.{ℤ}
use lib.ListN.{length, get_or, take, drop, take-append-drop}
use mir.Syntax.{w32}
use mir.Val.{SFits, to_z, of_z}
use mir.Facts.{to_z-of_z}
use Rattle.lists.specs.Lists.{sum}
use Rattle.lists.proofs.Numbers.{sum-++}
use Rattle.lists.proofs.Tests.{both, never_true}
use Rattle.geometry.specs.declared.Rect.{Rect}
use Rattle.geometry.specs.Rectangles.{nonempty}
use Rattle.plan.specs.Plan.{Layer, rect_at, layers_of}
use Rattle.plan.specs.Frames.{Framed}
use Rattle.plan.specs.Spots.{layer_at, rect_of}
use Rattle.plan.proofs.Spots.{number_small, spot-number, rect-number, size_of, layers-long, layer-at}
use Rattle.join.specs.Join.{rects, common_of, same_z, Within, no_layer, ◌below◌}
use Rattle.join.specs.Table.{sizes_in}
use Rattle.join.proofs.Join.{same-yes, same_true}
use Rattle.join.proofs.Table.{within-long}
use Rattle.rows.specs.RowCall.{fits, is_row}
use Rattle.rows.specs.inner.Layers.{Reached}
use Rattle.rows.proofs.RowCall.{fits-within, is-row, sizes-of}
use Rattle.crossings.specs.Crossings.{covers}
use Rattle.crossings.specs.ClassCall.{lies, layer_lies, segmented}
use Rattle.crossings.specs.inner.Ends.{all_lie}
use Rattle.crossings.proofs.Classes.{Shares}

-- ---- tests, as the code makes them
pub read-covers : (r : Rect) {x y : ℤ} {t : Bool} → SFits w32 x → SFits w32 y → t ≡ covers r (to_z w32 (of_z w32 x)) (to_z w32 (of_z w32 y)) → t ≡ covers r x y
read-covers r f g e = e ∙ ap₂ (covers r) (to_z-of_z f) (to_z-of_z g)

pub read_same : {x y : ℤ} → SFits w32 x → SFits w32 y → eqb (of_z w32 x) (of_z w32 y) ≡ same_z x y
read_same {x} {y} f g = go (eqb (of_z w32 x) (of_z w32 y)) refl
  where
    go : (t : Bool) → eqb (of_z w32 x) (of_z w32 y) ≡ t → t ≡ same_z x y
    go true e = sym (same-yes x y (sym (to_z-of_z f) ∙ ap (to_z w32) (eqb-true _ _ e) ∙ to_z-of_z g))
    go false e = sym (never_true (same_z x y) (λ h. eqb-false _ _ e (ap (of_z w32) (same_true x y h))))

-- ---- how many rectangles lie before a layer
pub start_small : (ns : List ℕ) (i : ℕ) → sum (take i ns) + get_or ns i 0 ≤ sum ns
start_small [] zero = omega arith
start_small [] (suc i) = omega arith
start_small (n ∷ ns) zero = omega arith
start_small (n ∷ ns) (suc i) = omega (arith, start_small ns i)

-- ... and so where its rectangles begin
pub reached-at : (ns : List ℕ) (j start : ℕ) → j ≤ length ns → start ≡ sum (take j ns) → Reached ns start j
reached-at ns j start h e =
    record { within = h; sums = omega (arith, e, ap sum (take-append-drop j ns), sum-++ (take j ns) (drop j ns)) }

-- ---- one layer
rect-at-number : (ns : List ℕ) (cells : List ℤ) (j p : ℕ) → p < get_or ns j 0 → (layer_at (layers_of ns cells) j).rect p ≡ rect_at cells (sum (take j ns) + p)
rect-at-number ns cells j p h =
    sym (ap (rect_of (layers_of ns cells)) (spot-number ns j p h)) ∙ (rect-number ns cells (sum (take j ns) + p) (number_small ns j p h)).0

lie-same : (level : Bool) (n : ℕ) (f g : ℕ → Rect) → ((p : ℕ) → p < n → f p ≡ g p) → all_lie level n f ≡ all_lie level n g
lie-same level zero f g h = refl
lie-same level (suc n) f g h = ap₂ ◌&&◌ (lie-same level n f g (λ p k. h p (omega arith))) (ap (lies level) (h n (omega arith)))

pub layer-lies : (level : Bool) (ns : List ℕ) (cells : List ℤ) (j : ℕ) → layer_lies level (layers_of ns cells) j ≡ all_lie level (get_or ns j 0) (λ p. rect_at cells (sum (take j ns) + p))
layer-lies level ns cells j = rw (size_of ns cells j) (lie-same level (get_or ns j 0) _ _ (rect-at-number ns cells j))

-- ---- the last two layers
module _ (ns : List ℕ) (cells : List ℤ) (f : Framed ns cells) where
  pub layer-inside : (j a : ℕ) → j < length ns → a ≡ sum (take j ns) → 4 * a + 4 * get_or ns j 0 ≤ length cells
  layer-inside j a h e = omega (arith, start_small ns j, e, f.whole)

  -- what is read of the two layers decides
  pub segmented-is : (a b : ℕ) → a ≡ sum (take (length ns - 2) ns) → b ≡ sum (take (length ns - 1) ns)
      → (t u : Bool) → t ≡ all_lie true (get_or ns (length ns - 2) 0) (λ p. rect_at cells (a + p)) → u ≡ all_lie false (get_or ns (length ns - 1) 0) (λ p. rect_at cells (b + p))
      → t && u ≡ segmented (layers_of ns cells)
  unfolding segmented
  segmented-is a b e d t u p q = rw (layers-long ns cells, layer-lies true ns cells (length ns - 2), layer-lies false ns cells (length ns - 1), ← e, ← d, ← p, ← q) refl

-- ---- a row
module _ (ns : List ℕ) (cells : List ℤ) (row : List ℕ) (is : is_row (layers_of ns cells) row ≡ true) where
  pub row_fits : fits ns row ≡ true
  unfolding is_row
  row_fits =
      let ls = layers_of ns cells in
      sym (ap (λ (ms : List ℕ). fits ms row) (sizes-of ns cells)) ∙ (both (fits (sizes_in ls) row) (nonempty (common_of (rects ls row))) is).0

  -- its rectangle in layer j, behind `start` rectangles
  pub row-rect : (j start : ℕ) → j < length ns → start ≡ sum (take j ns) → rect_at (take (4 * get_or ns j 0) (drop (4 * start) cells)) (get_or row j 0) ≡ get_or (rects (layers_of ns cells) row) j (common_of [])
  row-rect j start h e =
      ap (λ (n : ℕ). rect_at (take (4 * get_or ns j 0) (drop (4 * n) cells)) (get_or row j 0)) e
      ∙ sym (at (fits-within (layers_of ns cells) row (ap (λ (ms : List ℕ). fits ms row) (sizes-of ns cells) ∙ row_fits)) j (omega (arith, layers-long ns cells))
      ∙ ap (λ (l : Layer). l.rect (get_or row j 0)) (layer-at ns cells j h))
    where
      at : {ls : List Layer} {ps : List ℕ} → Within ls ps → (i : ℕ) → i < length ls → get_or (rects ls ps) i (common_of []) ≡ (layer_at ls i).rect (get_or ps i 0)
      at no_layer i q = absurd (omega arith)
      at (◌below◌ k ks) zero q = refl
      at (◌below◌ k ks) (suc i) q = at ks i (omega arith)

  -- its rectangles share a point
  pub row-shares : 3 ≤ length ns → Shares (rects (layers_of ns cells) row)
  row-shares h =
      let l = layers-long ns cells in
      let j = (is-row (layers_of ns cells) (omega arith) row).0 is in
      record { three = omega (arith, (within-long j.within).0); x = j.x; y = j.y; inside = j.inside }

  pub rects-long : length (rects (layers_of ns cells) row) ≡ length ns
  rects-long = (within-long (fits-within (layers_of ns cells) row (ap (λ (ms : List ℕ). fits ms row) (sizes-of ns cells) ∙ row_fits))).0 ∙ layers-long ns cells
