-- Sums over whole numbers that follow one another.
use mathlib.Core.Path.{◌≡◌, refl, sym, ap, ap₂, ◌∙◌, subst}
use mathlib.Core.Bool.{Bool, true, false, ◌&&◌}
use Prim.Native.Nat.{ℕ, zero, suc, ◌+◌, ◌-◌, ◌*◌, ◌≤◌}
use native.Mathlib.Omega.{arith}
use native.Mathlib.Nat.{zero-add, suc-add, zero-mul, suc-mul, mul-zero, add-mul}
use lib.IntN.{ℤ, pos, nat_abs, ◌+ℤ◌, ◌-ℤ◌}
use lib.Signed.{le_z, ◌≤ℤ◌, ◌<ℤ◌}
use Rattle.geometry.specs.Rectangles.{max_z}
use Rattle.geometry.proofs.Integers.{up, zarith, add-law, sub-law, size-law, one_side, refl-le}
use Rattle.geometry.proofs.Rectangles.{max-law}
use Rattle.ground.specs.Union.{holds_unit, one, over, squares}

plus_none : (z : ℤ) → z +ℤ pos 0 ≡ z
plus_none z = omega (zarith, add-law z (pos 0))

plus-more : (z : ℤ) (m : ℕ) → (z +ℤ pos 1) +ℤ pos m ≡ z +ℤ pos (suc m)
plus-more z m = omega (zarith, add-law z (pos 1), add-law (z +ℤ pos 1) (pos m), add-law z (pos (suc m)))

-- b lies b - a behind a
pub span_to : (a b : ℤ) → a ≤ℤ b → a +ℤ pos (nat_abs (b -ℤ a)) ≡ b
span_to a b h = omega (zarith, add-law a (pos (nat_abs (b -ℤ a))), size-law (b -ℤ a), sub-law b a, one_side (b -ℤ a))

-- ---- sums
pub over-same : (f g : ℤ → ℕ) (z : ℤ) (n : ℕ) → ((x : ℤ) → f x ≡ g x) → over f z n ≡ over g z n
over-same f g z zero h = refl
over-same f g z (suc n) h = ap₂ ◌+◌ (h z) (over-same f g (z +ℤ pos 1) n h)

pub over-least : (f g : ℤ → ℕ) (z : ℤ) (n : ℕ) → ((x : ℤ) → f x ≤ g x) → over f z n ≤ over g z n
over-least f g z zero h = omega arith
over-least f g z (suc n) h = omega (arith, h z, over-least f g (z +ℤ pos 1) n h)

pub over-most : (f : ℤ → ℕ) (z : ℤ) (n c : ℕ) → ((x : ℤ) → f x ≤ c) → over f z n ≤ n * c
over-most f z zero c h = omega (arith, zero-mul c)
over-most f z (suc n) c h = rw suc-mul (omega (arith, h z, over-most f (z +ℤ pos 1) n c h))

pub over_add : (f g : ℤ → ℕ) (z : ℤ) (n : ℕ) → over (λ x. f x + g x) z n ≡ over f z n + over g z n
over_add f g z zero = refl
over_add f g z (suc n) = omega (arith, over_add f g (z +ℤ pos 1) n)

over-times : (f : ℤ → ℕ) (c : ℕ) (z : ℤ) (n : ℕ) → over (λ x. f x * c) z n ≡ over f z n * c
over-times f c z zero = sym (zero-mul c)
over-times f c z (suc n) = ap (λ (t : ℕ). f z * c + t) (over-times f c (z +ℤ pos 1) n) ∙ sym (add-mul (f z) (over f (z +ℤ pos 1) n) c)

pub over_none : (z : ℤ) (n : ℕ) → over (λ x. 0) z n ≡ 0
over_none z zero = refl
over_none z (suc n) = omega (arith, over_none (z +ℤ pos 1) n)

pub over-join : (f : ℤ → ℕ) (z : ℤ) (m n : ℕ) → over f z (m + n) ≡ over f z m + over f (z +ℤ pos m) n
over-join f z zero n = rw (zero-add, plus_none) (omega arith)
over-join f z (suc m) n = let e = over-join f (z +ℤ pos 1) m n in let p = plus-more z m in rw (suc-add, ← p) (omega arith)

-- of a function that is the same all along
pub over-flat : (f : ℤ → ℕ) (z : ℤ) (n c : ℕ) → ((x : ℤ) → z ≤ℤ x → x <ℤ (z +ℤ pos n) → f x ≡ c) → over f z n ≡ n * c
over-flat f z zero c h = rw zero-mul
over-flat f z (suc n) c h =
    rw suc-mul
    (omega (
      arith,
      h z (refl-le z) (omega (zarith, add-law z (pos (suc n)))),
      over-flat f (z +ℤ pos 1) n c (λ x p q. h x (omega (zarith, add-law z (pos 1))) (subst (λ (t : ℤ). x <ℤ t) (plus-more z n) q)),
    ))

pub over-swap : (g : ℤ → ℤ → ℕ) (a : ℤ) (w : ℕ) (b : ℤ) (h : ℕ) → over (λ x. over (λ y. g x y) b h) a w ≡ over (λ y. over (λ x. g x y) a w) b h
over-swap g a zero b h = sym (over_none b h)
over-swap g a (suc w) b h =
    ap (λ (t : ℕ). over (λ y. g a y) b h + t) (over-swap g (a +ℤ pos 1) w b h) ∙ sym (over_add (λ y. g a y) (λ y. over (λ x. g x y) (a +ℤ pos 1) w) b h)

-- a wider range has the same sum, where the function is 0 outside the narrower one
pub over-part : (f : ℤ → ℕ) (a : ℤ) (w : ℕ) (z : ℤ) (n : ℕ) → a ≤ℤ z → (z +ℤ pos n) ≤ℤ (a +ℤ pos w) → ((x : ℤ) → x <ℤ z → f x ≡ 0) → ((x : ℤ) → (z +ℤ pos n) ≤ℤ x → f x ≡ 0)
    → over f a w ≡ over f z n
over-part f a w z n h k low high =
    let d = nat_abs (z -ℤ a) in
    let to = span_to a z h in
    let e : w ≡ d + (n + (w - d - n)) = omega (zarith, add-law a (pos w), add-law z (pos n), sub-law z a, one_side (z -ℤ a), size-law (z -ℤ a)) in
    let first = over-flat f a d 0 (λ x p q. low x (rw to at q)) in
    let last = over-flat f (z +ℤ pos n) (w - d - n) 0 (λ x p q. high x p) in
    let front = rw to at (over-join f a d (n + (w - d - n))) in
    omega (arith, ap (over f a) e, front, over-join f z n (w - d - n), first, last, mul-zero d, mul-zero (w - d - n))

-- ---- counts of squares
module _ (a : ℤ) (w : ℕ) (b : ℤ) (h : ℕ) where
  pub squares-same : (f g : ℤ → ℤ → Bool) → ((x y : ℤ) → f x y ≡ g x y) → squares f a w b h ≡ squares g a w b h
  squares-same f g e = over-same _ _ a w (λ x. over-same _ _ b h (λ y. ap one (e x y)))

  pub squares-least : (f g : ℤ → ℤ → Bool) → ((x y : ℤ) → one (f x y) ≤ one (g x y)) → squares f a w b h ≤ squares g a w b h
  squares-least f g e = over-least _ _ a w (λ x. over-least _ _ b h (λ y. e x y))

  -- the sum of two counts, square by square
  both : (f g : ℤ → ℤ → Bool) → over (λ x. over (λ y. one (f x y) + one (g x y)) b h) a w ≡ squares f a w b h + squares g a w b h
  both f g =
      over-same _ _ a w (λ x. over_add (λ y. one (f x y)) (λ y. one (g x y)) b h) ∙ over_add (λ x. over (λ y. one (f x y)) b h) (λ x. over (λ y. one (g x y)) b h) a w

  pub squares-join : (f g j : ℤ → ℤ → Bool) → ((x y : ℤ) → one (j x y) ≡ one (f x y) + one (g x y)) → squares j a w b h ≡ squares f a w b h + squares g a w b h
  squares-join f g j e = over-same _ _ a w (λ x. over-same _ _ b h (λ y. e x y)) ∙ both f g

  pub squares-most : (f g j : ℤ → ℤ → Bool) → ((x y : ℤ) → one (j x y) ≤ one (f x y) + one (g x y)) → squares j a w b h ≤ squares f a w b h + squares g a w b h
  squares-most f g j e =
      subst (λ (n : ℕ). squares j a w b h ≤ n) (both f g) (over-least _ _ a w (λ x. over-least _ _ b h (λ y. e x y)))

  one-small : (t : Bool) → one t ≤ 1
  one-small true = omega arith
  one-small false = omega arith

  pub squares-bound : (f : ℤ → ℤ → Bool) → squares f a w b h ≤ w * (h * 1)
  squares-bound f = over-most _ a w (h * 1) (λ x. over-most _ b h 1 (λ y. one-small (f x y)))

-- ---- an interval's units
step : (low high a : ℤ) → one (holds_unit low high a) + up (high -ℤ max_z low (a +ℤ pos 1)) ≡ up (high -ℤ max_z low a)
unfolding holds_unit
step low high a = go (le_z low a) (le_z (a +ℤ pos 1) high) refl refl
  where
    go : (s t : Bool) → le_z low a ≡ s → le_z (a +ℤ pos 1) high ≡ t → one (s && t) + up (high -ℤ max_z low (a +ℤ pos 1)) ≡ up (high -ℤ max_z low a)
    go true true e f = omega (zarith, add-law a (pos 1), max-law low a, max-law low (a +ℤ pos 1), sub-law high (max_z low a), sub-law high (max_z low (a +ℤ pos 1)), one_side (high -ℤ max_z low a), one_side (high -ℤ max_z low (a +ℤ pos 1)))
    go true false e f = omega (zarith, add-law a (pos 1), max-law low a, max-law low (a +ℤ pos 1), sub-law high (max_z low a), sub-law high (max_z low (a +ℤ pos 1)), one_side (high -ℤ max_z low a), one_side (high -ℤ max_z low (a +ℤ pos 1)))
    go false t e f = omega (zarith, add-law a (pos 1), max-law low a, max-law low (a +ℤ pos 1), sub-law high (max_z low a), sub-law high (max_z low (a +ℤ pos 1)), one_side (high -ℤ max_z low a), one_side (high -ℤ max_z low (a +ℤ pos 1)))

-- how many units from a on lie between low and high
pub interval-count : (low high a : ℤ) (w : ℕ) → high ≤ℤ (a +ℤ pos w) → over (λ x. one (holds_unit low high x)) a w ≡ up (high -ℤ max_z low a)
interval-count low high a zero h = omega (zarith, add-law a (pos 0), max-law low a, sub-law high (max_z low a), one_side (high -ℤ max_z low a))
interval-count low high a (suc w) h =
    ap (λ (t : ℕ). one (holds_unit low high a) + t) (interval-count low high (a +ℤ pos 1) w (omega (zarith, add-law a (pos (suc w)), add-law a (pos 1), add-law (a +ℤ pos 1) (pos w)))) ∙ step low high a

pub interval-all : (low high a : ℤ) (w : ℕ) → a ≤ℤ low → low ≤ℤ high → high ≤ℤ (a +ℤ pos w) → over (λ x. one (holds_unit low high x)) a w ≡ nat_abs (high -ℤ low)
interval-all low high a w h k l =
    let e : max_z low a ≡ low = omega (zarith, max-law low a) in
    interval-count low high a w l ∙ ap (λ (z : ℤ). up (high -ℤ z)) e ∙ omega (zarith, sub-law high low, one_side (high -ℤ low), size-law (high -ℤ low))

-- the squares of a product of intervals
pub product-count : (f g : ℤ → Bool) (a : ℤ) (w : ℕ) (b : ℤ) (h : ℕ) → squares (λ x y. f x && g y) a w b h ≡ over (λ x. one (f x)) a w * over (λ y. one (g y)) b h
product-count f g a w b h = over-same _ _ a w (λ x. column x (f x)) ∙ over-times (λ x. one (f x)) (over (λ y. one (g y)) b h) a w
  where
    column : (x : ℤ) (t : Bool) → over (λ y. one (t && g y)) b h ≡ one t * over (λ y. one (g y)) b h
    column x true = omega arith
    column x false = over_none b h ∙ sym (zero-mul (over (λ y. one (g y)) b h))
