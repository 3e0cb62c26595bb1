-- Laws of what a picture shows of the ground.
use mathlib.Core.Path.{◌≡◌, refl, ap, ◌∙◌}
use mathlib.Core.List.{List, [], ◌∷◌}
use mathlib.Core.Bool.{Bool, true, false, cond}
use Prim.Native.Nat.{ℕ, ◌+◌, ◌*◌, ◌/◌, ◌≤◌, ◌<◌}
use native.Mathlib.Omega.{arith}
use native.Mathlib.Numerals.{add-one}
use native.Mathlib.Nat.{mul-le-mul}
use lib.Dec.{leb}
use lib.IntN.{ℤ, nat_abs, ◌-ℤ◌}
use lib.ListN.{length}
use borrow.Author.Tests.{le-leb, lt-leb}
use Rattle.geometry.specs.declared.Rect.{Rect}
use Rattle.plan.specs.Plan.{rect_at}
use Rattle.join.specs.Join.{no_rect}
use Rattle.picture.specs.Frames.{around, hull, ground_of, frame_of, longer, bar_of}

-- ---- the ground
-- of no cells
pub no-ground : (cells : List ℤ) (r : Rect) → length cells ≡ 0 → r ≡ no_rect → r ≡ ground_of cells
unfolding rect_at
no-ground [] r e f = f
no-ground (z ∷ cells) r e f = absurd (omega arith)

-- of one rectangle more
pub ground-more : (rect : ℕ → Rect) (i : ℕ) (a b r : Rect) → a ≡ hull rect i → b ≡ rect i → r ≡ around a b → r ≡ hull rect (i + 1)
ground-more rect i a b r e f g = rw (add-one, ← e, ← f) g

pub ground-all : (rect : ℕ → Rect) (i n : ℕ) (a : Rect) → a ≡ hull rect i → i ≤ n → n ≤ i → a ≡ hull rect n
ground-all rect i n a e h k = let q : i ≡ n = omega arith in e ∙ ap (hull rect) q

-- ---- lengths
pub longer-second : (a b : ℕ) → a ≤ b → b ≡ longer a b
unfolding longer
longer-second a b h = rw (le-leb a b h)

pub longer-first : (a b : ℕ) → b < a → a ≡ longer a b
unfolding longer
longer-first a b h = rw (lt-leb a b h)

pub longer-few : (a b m : ℕ) → a ≤ m → b ≤ m → longer a b ≤ m
unfolding longer
longer-few a b m h k = go (leb a b)
  where
    go : (t : Bool) → cond t b a ≤ m
    go true = k
    go false = h

-- the place of a line of the legend
pub line-few : (u j : ℕ) → u < 4294967296 → j ≤ 6 → 3 * u * j ≤ 77309411328
line-few u j h k =
    let p : 3 * u ≤ 12884901888 = omega arith in
    mul-le-mul p k

-- ---- the frame
pub frame_is : (g : Rect) {l t : ℤ} {w h : ℕ} → l ≡ g.left → t ≡ g.top → w ≡ nat_abs (g.right -ℤ g.left) → h ≡ nat_abs (g.top -ℤ g.bottom)
    → record { left = l; top = t; width = w; height = h; unit = (w + h) / 200 + 1 } ≡ frame_of g
unfolding frame_of
frame_is g e₁ e₂ e₃ e₄ = λ i. record { left = e₁ i; top = e₂ i; width = e₃ i; height = e₄ i; unit = (e₃ i + e₄ i) / 200 + 1 }

-- ---- the scale bar
module _ (u : ℕ) where
  pub bar-1 : 25000 ≤ u → (1000000 ≡ bar_of u) × (1000000 ≤ 1000000)
  unfolding bar_of
  bar-1 h = (rw (le-leb 25000 u h) refl, omega arith)

  module _ (a : u < 25000) where
    pub bar-2 : 2500 ≤ u → (100000 ≡ bar_of u) × (100000 ≤ 1000000)
    unfolding bar_of
    bar-2 h = (rw (lt-leb 25000 u a, le-leb 2500 u h) refl, omega arith)

    module _ (b : u < 2500) where
      pub bar-3 : 250 ≤ u → (10000 ≡ bar_of u) × (10000 ≤ 1000000)
      unfolding bar_of
      bar-3 h = (rw (lt-leb 25000 u a, lt-leb 2500 u b, le-leb 250 u h) refl, omega arith)

      module _ (c : u < 250) where
        pub bar-4 : 25 ≤ u → (1000 ≡ bar_of u) × (1000 ≤ 1000000)
        unfolding bar_of
        bar-4 h = (rw (lt-leb 25000 u a, lt-leb 2500 u b, lt-leb 250 u c, le-leb 25 u h) refl, omega arith)

        module _ (d : u < 25) where
          pub bar-5 : 3 ≤ u → (100 ≡ bar_of u) × (100 ≤ 1000000)
          unfolding bar_of
          bar-5 h = (rw (lt-leb 25000 u a, lt-leb 2500 u b, lt-leb 250 u c, lt-leb 25 u d, le-leb 3 u h) refl, omega arith)

          pub bar-6 : u < 3 → (10 ≡ bar_of u) × (10 ≤ 1000000)
          unfolding bar_of
          bar-6 h = (rw (lt-leb 25000 u a, lt-leb 2500 u b, lt-leb 250 u c, lt-leb 25 u d, lt-leb 3 u h) refl, omega arith)
