-- Laws of loops over layers: one layer more, and the rectangle of a row there.
use mathlib.Core.Path.{◌≡◌, sym, ap, ap₂, ◌∙◌, subst}
use mathlib.Core.List.{List, [], ◌∷◌}
use mathlib.Core.Bool.{true}
use Prim.Native.Nat.{ℕ, suc, ◌+◌, ◌-◌, ◌*◌, ◌≤◌, ◌<◌}
use native.Mathlib.Omega.{arith}
use native.Mathlib.Numerals.{add-one}
use lib.IntN.{ℤ}
use lib.Dec.{ltb}
use lib.ListN.{length, get_or, take, drop, drop_of_length-le}
use lib.Seq.{drop-cons, drop-drop}
use Rattle.lists.specs.Lists.{All, none_left, ◌and◌, sum}
use Rattle.lists.proofs.Tests.{both}
use Rattle.geometry.specs.declared.Rect.{Rect}
use Rattle.geometry.specs.Rectangles.{nonempty, extent, in_extent}
use Rattle.geometry.proofs.Rectangles.{held-nonempty}
use Rattle.plan.specs.Plan.{rect_at, layers_of}
use Rattle.plan.proofs.Spots.{rect-take, rect-drop}
use Rattle.join.specs.Join.{rects}
use Rattle.rows.specs.RowCall.{fits}
use Rattle.rows.specs.inner.Layers.{Reached, rects_from}
use Rattle.rows.proofs.RowCall.{fits-long, fits-at}

pub reached-none : (sizes : List ℕ) → Reached sizes 0 0
reached-none sizes = record { within = omega arith; sums = omega arith }

module _ (sizes : List ℕ) (start j : ℕ) (t : Reached sizes start j) (h : j < length sizes) where
  pub sum-next : start + get_or sizes j 0 + sum (drop (suc j) sizes) ≡ sum sizes
  sum-next = omega (arith, t.sums, ap sum (drop-cons sizes j 0 h))

  pub reached-next : Reached sizes (start + get_or sizes j 0) (j + 1)
  reached-next = rw add-one (record { within = h; sums = sum-next })

  module _ (cells : List ℤ) (row : List ℕ) (e : fits sizes row ≡ true) where
    pub rects-next : (r : Rect) → r ≡ rect_at (take (4 * get_or sizes j 0) (drop (4 * start) cells)) (get_or row j 0)
        → rects_from sizes cells row start j ≡ r ∷ rects_from sizes cells row (start + get_or sizes j 0) (j + 1)
    rects-next r p =
        rw add-one
        (ap₂ (λ (ns ps : List ℕ). rects (layers_of ns (drop (4 * start) cells)) ps) (drop-cons sizes j 0 h) (drop-cons row j 0 (omega (arith, fits-long sizes row e)))
        ∙ ap₂ (λ (z : Rect) (cs : List ℤ). z ∷ rects (layers_of (drop (suc j) sizes) cs) (drop (suc j) row)) (sym p) later)
      where
        later : drop (4 * get_or sizes j 0) (drop (4 * start) cells) ≡ drop (4 * (start + get_or sizes j 0)) cells
        later =
            let q : 4 * start + 4 * get_or sizes j 0 ≡ 4 * (start + get_or sizes j 0) = omega arith in
            drop-drop (4 * get_or sizes j 0) (4 * start) cells ∙ ap (λ (n : ℕ). drop n cells) q

-- behind the last layer there is none
pub rects-end : (sizes : List ℕ) (cells : List ℤ) (row : List ℕ) (start j : ℕ) → length sizes ≤ j → rects_from sizes cells row start j ≡ []
rects-end sizes cells row start j h = ap (λ (ns : List ℕ). rects (layers_of ns (drop (4 * start) cells)) (drop j row)) (drop_of_length-le sizes h)

-- what holds of each rectangle in the cells holds of those of a row
pub rects-all : (P : Rect → Type 0) (ns : List ℕ) (cells : List ℤ) (row : List ℕ) → fits ns row ≡ true → ((k : ℕ) → k < sum ns → P (rect_at cells k)) → All P (rects (layers_of ns cells) row)
rects-all P [] cells row e f = none_left
rects-all P (n ∷ ns) cells [] e f = none_left
rects-all P (n ∷ ns) cells (p ∷ row) e f =
    let h = fits-at (n ∷ ns) (p ∷ row) 0 e (omega arith) in
    ◌and◌ (subst P (sym (rect-take cells n p h)) (f p (omega arith)))
    (rects-all P ns (drop (4 * n) cells) row (both (ltb p n) (fits ns row) e).1 (λ k l. subst P (sym (later k)) (f (n + k) (omega arith))))
  where
    later : (k : ℕ) → rect_at (drop (4 * n) cells) k ≡ rect_at cells (n + k)
    later k = let q : n + k - n ≡ k = omega arith in ap (rect_at (drop (4 * n) cells)) (sym q) ∙ rect-drop cells n (n + k) (omega arith)

-- each rectangle of a row holds a point
pub rects-solid : (ns : List ℕ) (cells : List ℤ) (row : List ℕ) → fits ns row ≡ true → ((k : ℕ) → k < sum ns → in_extent (rect_at cells k) ≡ true)
    → All (λ r. nonempty r ≡ true) (rects (layers_of ns cells) row)
rects-solid ns cells row e f = rects-all (λ r. nonempty r ≡ true) ns cells row e (λ k h. held-nonempty extent _ (f k h))
