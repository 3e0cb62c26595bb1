-- Laws of hatchings: where their points lie, and how the code comes to them.
use mathlib.Core.Path.{◌≡◌, refl, sym, ap, ◌∙◌}
use mathlib.Core.Bool.{Bool, true, false, cond}
use mathlib.Core.Logic.{◌⊎◌, inl, inr}
use Prim.Native.Nat.{ℕ, ◌+◌, ◌*◌, ◌/◌, ◌≤◌, ◌<◌}
use native.Mathlib.Omega.{arith}
use native.Mathlib.Nat.{mul-le-mul}
use lib.Dec.{leb}
use lib.IntN.{ℤ, pos, nat_abs, ◌+ℤ◌, ◌-ℤ◌}
use lib.Signed.{lt_z, ◌≤ℤ◌, ◌<ℤ◌}
use mir.Syntax.{w32, w64}
use mir.Val.{SFits, to_z, of_z}
use mir.Facts.{to_z-of_z}
use borrow.Author.Tests.{ne_eqb, leb-true, leb-false, le-leb, lt-leb}
use Rattle.geometry.specs.declared.Rect.{Rect}
use Rattle.geometry.proofs.Integers.{zarith, one_side, add-law, sub-law, size-law, lt_z-true, →sfits, sfits→}
use Rattle.picture.specs.Frames.{width_of}
use Rattle.picture.specs.Hatchings.{level, upright, rising, falling, crossed, quartered, hatching_of, beyond, fourth}

-- ---- how wide lines are
pub pen-few : (n : ℕ) → (width_of n ≤ n) × (width_of n / 10 ≤ 32767)
unfolding width_of
pen-few n = go (leb n 327670) refl
  where
    go : (t : Bool) → leb n 327670 ≡ t → (cond t n 327670 ≤ n) × (cond t n 327670 / 10 ≤ 32767)
    go true e = let h = leb-true n 327670 e in (omega arith, omega (arith, h))
    go false e = let h = leb-false n 327670 e in (omega (arith, h), omega arith)

pub width-kept : (n : ℕ) → n ≤ 327670 → n ≡ width_of n
unfolding width_of
width-kept n h = rw (le-leb n 327670 h)

pub width-most : (n : ℕ) → 327670 < n → 327670 ≡ width_of n
unfolding width_of
width-most n h = rw (lt-leb n 327670 h)

-- ---- where points lie
pub stroke-within : (a b : ℤ) (q : ℕ) → a ≤ℤ b → q ≤ 4 → (a ≤ℤ fourth 0 a b q) × (fourth 0 a b q ≤ℤ b)
unfolding fourth
stroke-within a b q h k =
    let n = nat_abs (b -ℤ a) in
    let s = (n + 2 * 0) * q / 4 in
    let m : (n + 2 * 0) * q ≤ n * 4 = mul-le-mul (omega arith) k in
    let few : s ≤ n = omega (arith, m) in (
      omega (zarith, sub-law a (pos 0), add-law (a -ℤ pos 0) (pos s)),
      omega (zarith, h, few, sub-law a (pos 0), add-law (a -ℤ pos 0) (pos s), sub-law b a, size-law (b -ℤ a), one_side (b -ℤ a)),
    )

not-less : (a b : ℤ) → a ≡ b → lt_z a b ≡ false
not-less a b e = go (lt_z a b) refl
  where
    go : (t : Bool) → lt_z a b ≡ t → t ≡ false
    go true h = absurd (omega (zarith, lt_z-true a b h, e))
    go false h = refl

-- ---- how the code comes to them: a coordinate moved down and up, which 64 bits hold
module _ {a x y : ℤ} {d : ℕ} (e : x ≡ a) (f : y ≡ pos d) (h : SFits w32 a) (k : d < 4294967296) where
  pub down_fits : SFits w64 (x -ℤ y)
  down_fits = rw (e, f) (→sfits w64 (a -ℤ pos d) (omega (zarith, sfits→ w32 a h, k, one_side a, sub-law a (pos d), one_side (a -ℤ pos d))))

  module _ {z : ℤ} {u : ℕ} (g : z ≡ pos u) (m : u < 4398046511104) where
    both : SFits w64 ((x -ℤ y) +ℤ z)
    both =
        rw (e, f, g)
        (→sfits w64 ((a -ℤ pos d) +ℤ pos u)
        (omega (
          zarith,
          sfits→ w32 a h,
          k,
          m,
          one_side a,
          sub-law a (pos d),
          one_side (a -ℤ pos d),
          add-law (a -ℤ pos d) (pos u),
          one_side ((a -ℤ pos d) +ℤ pos u),
        )))

    pub up_fits : SFits w64 (to_z w64 (of_z w64 (x -ℤ y)) +ℤ z)
    up_fits = rw (to_z-of_z down_fits) both

    pub moved-is : to_z w64 (of_z w64 (to_z w64 (of_z w64 (x -ℤ y)) +ℤ z)) ≡ (a -ℤ pos d) +ℤ pos u
    moved-is = to_z-of_z up_fits ∙ (ap (λ (w : ℤ). w +ℤ z) (to_z-of_z down_fits) ∙ (λ i. (e i -ℤ f i) +ℤ g i))

-- so many fourths of a length
pub part-few : (n q : ℕ) → n < 17179869184 → q < 256 → n * q ≤ 4380866641920
part-few n q h k =
    let a : n ≤ 17179869184 = omega arith in
    let b : q ≤ 255 = omega arith in
    mul-le-mul a b

pub fourth-is : (e : ℕ) (a b : ℤ) (q s p : ℕ) {x r : ℤ} → s ≡ nat_abs (b -ℤ a) → p ≡ (s + 2 * e) * q / 4 → x ≡ a → r ≡ (x -ℤ pos e) +ℤ pos p → r ≡ fourth e a b q
unfolding fourth
fourth-is e a b q s p f g x h = h ∙ (λ i. (x i -ℤ pos e) +ℤ pos (g i)) ∙ ap (λ (n : ℕ). (a -ℤ pos e) +ℤ pos ((n + 2 * e) * q / 4)) f

module _ (u : ℕ) (r : Rect) where
  pub wide-beyond : lt_z r.left r.right ≡ true → 0 ≡ beyond u r
  unfolding beyond
  wide-beyond h = rw h refl

  pub high-beyond : lt_z r.left r.right ≡ false → lt_z r.bottom r.top ≡ true → 0 ≡ beyond u r
  unfolding beyond
  high-beyond h k = rw (h, k) refl

  pub spot-beyond : lt_z r.left r.right ≡ false → lt_z r.bottom r.top ≡ false → u ≡ beyond u r
  unfolding beyond
  spot-beyond h k = rw (h, k) refl

  pub spread_none : (r.left <ℤ r.right) ⊎ (r.bottom <ℤ r.top) → beyond u r ≡ 0
  spread_none (inl h) = sym (wide-beyond (omega (zarith, h)))
  spread_none (inr h) = go (lt_z r.left r.right) refl
    where
      go : (t : Bool) → lt_z r.left r.right ≡ t → beyond u r ≡ 0
      go true e = sym (wide-beyond e)
      go false e = sym (high-beyond e (omega (zarith, h)))

  pub spot_is : r.left ≡ r.right → r.bottom ≡ r.top → beyond u r ≡ u
  spot_is e f = sym (spot-beyond (not-less r.left r.right e) (not-less r.bottom r.top f))

-- ---- which a layer has
module _ (j : ℕ) where
  pub hatching-1 : j ≡ 1 → level ≡ hatching_of j
  unfolding hatching_of
  hatching-1 e = rw e refl

  pub hatching-2 : j ≡ 2 → upright ≡ hatching_of j
  unfolding hatching_of
  hatching-2 e = rw e refl

  pub hatching-3 : j ≡ 3 → rising ≡ hatching_of j
  unfolding hatching_of
  hatching-3 e = rw e refl

  pub hatching-4 : j ≡ 4 → falling ≡ hatching_of j
  unfolding hatching_of
  hatching-4 e = rw e refl

  pub hatching-5 : j ≡ 5 → crossed ≡ hatching_of j
  unfolding hatching_of
  hatching-5 e = rw e refl

  pub hatching-6 : (j ≡ 1 → ⊥) → (j ≡ 2 → ⊥) → (j ≡ 3 → ⊥) → (j ≡ 4 → ⊥) → (j ≡ 5 → ⊥) → quartered ≡ hatching_of j
  unfolding hatching_of
  hatching-6 a b c d e = rw (ne_eqb j 1 a, ne_eqb j 2 b, ne_eqb j 3 c, ne_eqb j 4 d, ne_eqb j 5 e) refl
