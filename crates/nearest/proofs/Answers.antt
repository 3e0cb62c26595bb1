-- What the call answers, in each of its cases, and the search of a layer.
use mathlib.Core.Path.{◌≡◌, refl, sym, ap, ◌∙◌, subst, fun_ext}
use mathlib.Core.List.{List, [], ◌∷◌}
use mathlib.Core.Bool.{Bool, true, false, cond}
use mathlib.Core.Logic.{◌⊎◌, inl, inr}
use Prim.Native.Nat.{ℕ, zero, suc, ◌+◌, ◌-◌, ◌*◌, ◌≤◌, ◌<◌}
use native.Mathlib.Numerals.{add-one}
use native.Mathlib.Omega.{arith}
use lib.IntN.{ℤ}
use lib.Dec.{leb}
use lib.ListN.{length, get_or, take, drop, length-drop, get_or-eq_default}
use lib.Seq.{length-take-le}
use borrow.Author.Tests.{leb-true, leb-false, le-leb, lt-leb}
use Rattle.lists.specs.Lists.{sum, each}
use Rattle.lists.proofs.Lists.{all_get_d}
use Rattle.lists.proofs.Tests.{total}
use Rattle.geometry.specs.declared.Rect.{Rect}
use Rattle.geometry.specs.Rectangles.{in_range, in_extent}
use Rattle.plan.specs.declared.Shape.{Shape}
use Rattle.plan.specs.Causes.{unless}
use Rattle.plan.specs.Plan.{rect_at, Layer, layers_of, layers, plan_cause}
use Rattle.plan.specs.Spots.{layer_at}
use Rattle.plan.specs.Frames.{Framed}
use Rattle.plan.proofs.Plan.{or-else-zero, or-else-first, or-else-second, unless-zero}
use Rattle.plan.proofs.Spots.{rect-drop, rect-take, size_of, layer-at, layer-within}
use Rattle.nearest.specs.declared.Near.{Near}
use Rattle.std.specs.Prelude.{Option, Some, None, Ok, Err}
use Rattle.nearest.specs.Nearest.{squared_gap, nothing, nearer, nearest_to, nearest_in, nearest_of, nearest_cause, nearest_call, NearestValues, entry_cells, near_cells}
use Rattle.nearest.specs.inner.Parts.{Part, Within}
use Rattle.nearest.specs.Theorems.{IsNearest, empty, nearest}

-- ---- causes
module _ (s : Shape) (cells : List ℤ) (a : Rect) where
  pub cause-plan : (n : ℕ) → n ≡ plan_cause s cells → (n ≡ 0 → ⊥) → n ≡ nearest_cause s cells a
  unfolding nearest_cause
  cause-plan n e h = or-else-first (plan_cause s cells) (unless (in_range a) 14) n e h

  pub cause-box : plan_cause s cells ≡ 0 → (t : Bool) → t ≡ in_range a → unless t 14 ≡ nearest_cause s cells a
  unfolding nearest_cause
  cause-box e t h = or-else-second (plan_cause s cells) (unless (in_range a) 14) (unless t 14) e (rw h)

  pub plan-passed : nearest_cause s cells a ≡ 0 → plan_cause s cells ≡ 0
  unfolding nearest_cause
  plan-passed e = (or-else-zero (plan_cause s cells) (unless (in_range a) 14) e).0

  pub box-passed : nearest_cause s cells a ≡ 0 → in_range a ≡ true
  unfolding nearest_cause
  box-passed e = unless-zero (in_range a) 13 (or-else-zero (plan_cause s cells) (unless (in_range a) 14) e).1

  -- a refusal, and an answer
  pub call-refused : (n : ℕ) → n ≡ nearest_cause s cells a → (n ≡ 0 → ⊥) → Err n ≡ nearest_call s cells a
  unfolding nearest_call
  call-refused zero q h = absurd (h refl)
  call-refused (suc n) q h = rw (← q)

  pub call-accepted : (r : List (Option Near)) → nearest_cause s cells a ≡ 0 → r ≡ nearest_of (layers s cells) a → Ok r ≡ nearest_call s cells a
  unfolding nearest_call
  call-accepted r e h = rw e (ap Ok h)

-- ---- the search of a layer
pub near_none : (a : Rect) (rect : ℕ → Rect) → nothing ≡ nearest_to a rect 0
unfolding nearest_to
near_none a rect = refl

-- after p rectangles, at least one, the nearest of these is the one at `place`, with the gap `least`
pub record Found (a : Rect) (rect : ℕ → Rect) (size : ℕ) (least place p : ℕ) : Type 0 where
  pub some : 1 ≤ p
  pub within : p ≤ size
  pub before : place < p
  pub is : Some (record { place = place; gap = least }) ≡ nearest_to a rect p

module _ (a : Rect) (rect : ℕ → Rect) (size : ℕ) where
  pub found_first : (least : ℕ) → 0 < size → least ≡ squared_gap a (rect 0) → Found a rect size least 0 1
  unfolding nearest_to nearer
  found_first least h e = record { some = omega arith; within = h; before = omega arith; is = rw e }

  module _ (least place p : ℕ) (f : Found a rect size least place p) (h : p < size) (v : ℕ) (w : Within least (squared_gap a (rect p)) v) where
    more : nearer (Some (record { place = place; gap = least })) p (squared_gap a (rect p)) ≡ nearest_to a rect (p + 1)
    unfolding nearest_to
    more = ap (λ (b : Option Near). nearer b p (squared_gap a (rect p))) f.is ∙ ap (nearest_to a rect) (sym (add-one p))

    kept : (g : ℕ) → least ≤ g → Some (record { place = place; gap = least }) ≡ nearer (Some (record { place = place; gap = least })) p g
    unfolding nearer
    kept g k = rw (le-leb least g k)

    taken : (g : ℕ) → g < least → Some (record { place = p; gap = g }) ≡ nearer (Some (record { place = place; gap = least })) p g
    unfolding nearer
    taken g k = rw (lt-leb least g k)

    -- the rectangle at p is nearer, or it is not
    found-nearer : v < least → Found a rect size v p (p + 1)
    found-nearer k = record {
      some = omega arith;
      within = omega arith;
      before = omega arith;
      is = ap (λ (g : ℕ). Some (record { place = p; gap = g })) (w.less k) ∙ (taken _ (omega (arith, w.less k)) ∙ more);
    }

    found-same : least ≤ v → Found a rect size least place (p + 1)
    found-same k = record { some = omega arith; within = omega arith; before = omega (arith, f.before); is = kept _ (w.more k) ∙ more }

    -- what the loop goes on with, either way
    pub found-step : (l q : ℕ) → ((v < least) × (l ≡ v) × (q ≡ p)) ⊎ ((least ≤ v) × (l ≡ least) × (q ≡ place)) → Found a rect size l q (p + 1)
    found-step l q (inl w) = rw (w.1, w.2) (found-nearer w.0)
    found-step l q (inr w) = rw (w.1, w.2) (found-same w.0)

module _ (a : Rect) (rect : ℕ → Rect) where
  -- what holds of the places below n and of n holds below n + 1
  below_more : {P : ℕ → Type 0} (n : ℕ) → ((p : ℕ) → p < n → P p) → P n → (p : ℕ) → p < suc n → P p
  below_more {P} n f x p h = go (total n p)
    where
      go : (n ≤ p) ⊎ (p < n) → P p
      go (inl k) = let e : n ≡ p = omega arith in subst P e x
      go (inr k) = f p k

  is-more : (n : ℕ) {e : Option Near} → IsNearest a (record { size = n; rect = rect }) e → IsNearest a (record { size = suc n; rect = rect }) (nearer e n (squared_gap a (rect n)))
  unfolding nearer
  is-more n (empty z) = nearest n _ (omega arith) refl (below_more n (λ q h. absurd (omega arith)) (omega arith)) (λ q h. absurd (omega arith))
  is-more n (nearest p gap h is smallest lowest) = go (leb gap g) refl
    where
      g : ℕ
      g = squared_gap a (rect n)

      -- no farther than the one at n, or farther
      go : (t : Bool) → leb gap g ≡ t → IsNearest a (record { size = suc n; rect = rect }) (Some (cond t (record { place = p; gap = gap }) (record { place = n; gap = g })))
      go true e = nearest p gap (omega arith) is (below_more n smallest (leb-true gap g e)) lowest
      go false e =
          nearest n g (omega arith) refl (below_more n (λ q k. omega (arith, smallest q k, leb-false gap g e)) (omega arith)) (λ q k. omega (arith, smallest q k, leb-false gap g e))

  -- so far: the lowest of the nearest among the first n
  pub nearest-is : (n : ℕ) → IsNearest a (record { size = n; rect = rect }) (nearest_to a rect n)
  unfolding nearest_to
  nearest-is zero = empty refl
  nearest-is (suc n) = is-more n (nearest-is n)

-- ---- one layer of a plan
pub near-empty : (a : Rect) (l : Layer) → l.size ≡ 0 → nothing ≡ nearest_in a l
near-empty a l e = near_none a l.rect ∙ ap (nearest_to a l.rect) (sym e)

pub near-past : (a : Rect) (ns : List ℕ) (cells : List ℤ) (j : ℕ) → length ns ≤ j → nothing ≡ nearest_in a (layer_at (layers_of ns cells) j)
near-past a ns cells j h = near-empty a (layer_at (layers_of ns cells) j) (size_of ns cells j ∙ get_or-eq_default ns 0 {n = j} h)

module _ (ns : List ℕ) (cells : List ℤ) (j : ℕ) (fr : Framed ns cells) (h : j < length ns) where
  pub layer-reads : 4 * sum (take j ns) + 4 * get_or ns j 0 ≤ length cells
  layer-reads = omega (arith, layer-within ns j, fr.whole)

  module _ (start : ℕ) (part : List ℤ) (begins : start ≡ sum (take j ns)) (is : part ≡ take (4 * get_or ns j 0) (drop (4 * start) cells)) where
    same : part ≡ take (4 * get_or ns j 0) (drop (4 * sum (take j ns)) cells)
    same = is ∙ ap (λ (n : ℕ). take (4 * get_or ns j 0) (drop (4 * n) cells)) begins

    at : (p : ℕ) → p < get_or ns j 0 → rect_at part p ≡ rect_at cells (start + p)
    at p k =
        let e : start + p - start ≡ p = omega arith in
        ap (λ (l : List ℤ). rect_at l p) is ∙ rect-take (drop (4 * start) cells) (get_or ns j 0) p k ∙ ap (rect_at (drop (4 * start) cells)) (sym e) ∙ rect-drop cells start (start + p) (omega arith)

    pub layer-part : Part part (get_or ns j 0)
    layer-part = record {
      small = all_get_d 0 fr.small j h;
      whole = ap length is ∙ length-take-le (4 * get_or ns j 0) (drop (4 * start) cells) (omega (arith, layer-reads, length-drop (4 * start) cells));
      ranged = λ p k. ap in_extent (at p k) ∙ fr.ranged (start + p) (omega (arith, layer-within ns j));
    }

    pub near-layer : (a : Rect) (r : Option Near) → r ≡ nearest_in a (record { size = get_or ns j 0; rect = rect_at part }) → r ≡ nearest_in a (layer_at (layers_of ns cells) j)
    near-layer a r e = e ∙ ap (λ (l : List ℤ). nearest_in a (record { size = get_or ns j 0; rect = rect_at l })) same ∙ ap (nearest_in a) (sym (layer-at ns cells j h))

-- ---- six entries
pub nearest-eq : (ls : List Layer) (a : Rect) (r s t u v w : Option Near) → r ≡ nearest_in a (layer_at ls 0) → s ≡ nearest_in a (layer_at ls 1) → t ≡ nearest_in a (layer_at ls 2) → u ≡ nearest_in a (layer_at ls 3)
    → v ≡ nearest_in a (layer_at ls 4) → w ≡ nearest_in a (layer_at ls 5) → r ∷ s ∷ t ∷ u ∷ v ∷ w ∷ [] ≡ nearest_of ls a
nearest-eq ls a r s t u v w e f g h i j = λ n. e n ∷ f n ∷ g n ∷ h n ∷ i n ∷ j n ∷ []

-- ---- cells
-- the three of an entry, one by one
abbrev pub parts : List ℕ → List ℕ → List ℕ
parts cells rest = get_or cells 0 0 ∷ get_or cells 1 0 ∷ get_or cells 2 0 ∷ rest

abbrev pub entry_parts : Option Near → List ℕ
entry_parts e = parts (entry_cells e) []

pub parts-same : (e : Option Near) → entry_parts e ≡ entry_cells e
parts-same None = refl
parts-same (Some e) = refl

-- ... of each layer
pub cells-made : (r : NearestValues) → each (λ j. entry_parts (get_or r.layers j nothing)) 0 6 ≡ near_cells r
cells-made r = ap (λ (f : ℕ → List ℕ). each f 0 6) (fun_ext (λ j. parts-same (get_or r.layers j nothing)))

-- the six of an answer, each made before
module _ (r : NearestValues) (a b c d e f : List ℕ) where
  pub six-made : a ≡ entry_cells (get_or r.layers 0 nothing) → b ≡ entry_cells (get_or r.layers 1 nothing) → c ≡ entry_cells (get_or r.layers 2 nothing) → d ≡ entry_cells (get_or r.layers 3 nothing)
      → e ≡ entry_cells (get_or r.layers 4 nothing) → f ≡ entry_cells (get_or r.layers 5 nothing)
      → parts a (parts b (parts c (parts d (parts e (parts f []))))) ≡ near_cells r
  six-made p q s t u v = (λ n. parts (p n) (parts (q n) (parts (s n) (parts (t n) (parts (u n) (parts (v n) [])))))) ∙ cells-made r
