-- Laws of the rectangles of a layer, drawn one after the other.
use mathlib.Core.Path.{◌≡◌, refl, subst}
use mathlib.Core.List.{List, [], ◌∷◌, ◌++◌}
use Prim.Native.Nat.{ℕ, suc, ◌+◌, ◌-◌, ◌≤◌, ◌<◌}
use native.Mathlib.Omega.{arith}
use native.Mathlib.Numerals.{add-one}
use lib.IntN.{ℤ, pos}
use borrow.Author.Tests.{ne_eqb}
use Rattle.lists.specs.Lists.{each}
use Rattle.geometry.specs.declared.Rect.{Rect}
use Rattle.geometry.specs.Rectangles.{grown_by}
use Rattle.plan.specs.Plan.{rect_at}
use Rattle.pens.specs.declared.Pen.{Pen}
use Rattle.pens.specs.Pens.{RoomFor, wrote}
use Rattle.pens.proofs.Pens.{Due, due-all, due-room, due-then, due-none}
use Rattle.picture.specs.Templates.{fill}
use Rattle.picture.specs.Texts.{title_text, outline_text, hatch_text, end_text, margin_text}
use Rattle.picture.specs.Hatchings.{hatching_of, beyond, points}
use Rattle.picture.specs.Pictures.{corners, outlined, grown_part, shape_at}
use Rattle.picture.specs.inner.Parts.{Drawable, LayerDrawable, shapes_in}

-- the same of a rectangle by another name
pub outline-same : (u j : ℕ) (r q : Rect) → r ≡ q → outlined u j q ≡ outlined u j r
outline-same u j r q e = rw e

-- its end
module _ (m : ℕ) (r g : Rect) (zs : List ℤ) (text : List ℕ) (e : zs ≡ corners g) (f : g ≡ grown_by m r) where
  -- in a layer without a margin
  pub plain-is : m ≡ 0 → text ≡ end_text → grown_part m r ≡ fill text zs
  plain-is h t = rw (e, f, t, h)

  -- in one with a margin
  pub grown-is : (m ≡ 0 → ⊥) → text ≡ margin_text → grown_part m r ≡ fill text zs
  grown-is h t = rw (e, f, t, ne_eqb m 0 h)

-- ---- the loop over a layer: what is written, and the rectangles from p on, give the whole layer
module _ (u j m : ℕ) (cells : List ℤ) (size : ℕ) (first : Pen) where
  -- the rectangles from p on
  abbrev ahead : (p n : ℕ) → List ℕ
  ahead p n = each (λ q. shape_at u j m q (rect_at cells q)) p n

  pub record Undrawn (pen : Pen) (p : ℕ) : Type 0 where
    pub within : p ≤ size
    pub left : Due first (shapes_in u j m cells size) pen (ahead p (size - p))

  pub none-drawn : RoomFor first (shapes_in u j m cells size) → Undrawn first 0
  none-drawn h = let e : size - 0 ≡ size = omega arith in record { within = omega arith; left = rw e (due-all first (shapes_in u j m cells size) h) }

  module _ (pen : Pen) (p : ℕ) (d : Undrawn pen p) where
    pub all-drawn : size ≤ p → pen ≡ wrote first (shapes_in u j m cells size)
    all-drawn h =
        let e : size - p ≡ 0 = omega arith in
        due-none first (shapes_in u j m cells size) pen (subst (λ (n : ℕ). Due first (shapes_in u j m cells size) pen (ahead p n)) e d.left)

    module _ (h : p < size) (r : Rect) (is : r ≡ rect_at cells p) where
      split : Due first (shapes_in u j m cells size) pen (shape_at u j m p r ++ ahead (suc p) (size - suc p))
      split =
          let e : size - p ≡ suc (size - suc p) = omega arith in
          rw is (subst (λ (n : ℕ). Due first (shapes_in u j m cells size) pen (ahead p n)) e d.left)

      pub next-shape-room : RoomFor pen (shape_at u j m p r)
      next-shape-room = due-room _ _ _ (shape_at u j m p r) _ split

      pub next-drawable : LayerDrawable j m cells size → Drawable j m r
      next-drawable k = record { few = k.few; small = k.small; ranged = rw is (k.reach.ranged p h) }

      pub next_drawn : (q : Pen) → q ≡ wrote pen (shape_at u j m p r) → Undrawn q (p + 1)
      next_drawn q w = rw add-one (record { within = h; left = due-then _ _ _ (shape_at u j m p r) _ q split w })
