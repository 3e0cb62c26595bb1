-- Laws of the checks: what each goes by, and that a plan which they let through is sound.
use mathlib.Core.Path.{◌≡◌, refl, sym, ap, ◌∙◌}
use mathlib.Core.List.{List, [], ◌∷◌}
use mathlib.Core.Logic.{◌↔◌}
use mathlib.Core.Bool.{Bool, true, false, ◌&&◌, ◌||◌}
use Prim.Native.Nat.{ℕ, zero, suc, ◌+◌, ◌*◌, ◌≤◌, ◌<◌, zero-le}
use native.Mathlib.Omega.{arith}
use native.Mathlib.Numerals.{add-one}
use lib.IntN.{ℤ}
use lib.Dec.{eqb, leb, ltb}
use lib.ListN.{length, get_or, take, drop, drop_of_length-le}
use lib.Seq.{drop-cons}
use borrow.Author.Tests.{lt-ltb, le-ltb, le-leb, lt-leb, leb-true, eqb-true, eq-eqb, ne_eqb}
use Rattle.lists.specs.Lists.{All, none_left, ◌and◌, sum, Tells}
use Rattle.lists.proofs.Tests.{both, below_at}
use Rattle.geometry.specs.Rectangles.{in_range}
use Rattle.plan.specs.Limits.{most_rects}
use Rattle.plan.specs.declared.Shape.{Shape}
use Rattle.plan.specs.Causes.{unless, ◌or_else◌}
use Rattle.plan.specs.Plan.{rect_at, count, sizes_of, fits_at, all_fit, all_ranged, shape_cause, plan_cause, Sound}

-- ---- two checks
-- where neither of two causes applies
pub or-else-zero : (a b : ℕ) → (a or_else b) ≡ 0 → (a ≡ 0) × (b ≡ 0)
or-else-zero zero b e = (refl, e)
or-else-zero (suc a) b e = absurd (omega arith)

-- the first cause, where it applies, and the second, where it does not
pub or-else-first : (a b n : ℕ) → n ≡ a → (n ≡ 0 → ⊥) → n ≡ (a or_else b)
or-else-first a b zero e h = absurd (h refl)
or-else-first a b (suc n) e h = rw (← e)

pub or-else-second : (a b n : ℕ) → a ≡ 0 → n ≡ b → n ≡ (a or_else b)
or-else-second a b n e h = rw e h

-- a check that is passed
pub unless-zero : (t : Bool) (c : ℕ) → unless t (suc c) ≡ 0 → t ≡ true
unless-zero true c e = refl
unless-zero false c e = absurd (omega arith)

module _ {P : Type 0} where
  -- one check more lets through exactly where no earlier cause applies and what it tests holds
  pub check-passed : (a : ℕ) {t : Bool} (n : ℕ) → (a ≡ 0 → Tells P t) → ((a or_else unless t (suc n)) ≡ 0) ↔ ((a ≡ 0) × P)
  check-passed zero {t = true} n f = (λ e. (refl, (f refl).if_true refl), λ h. refl)
  check-passed zero {t = false} n f = (λ e. absurd (omega arith), λ h. absurd ((f refl).if_false refl h.1))
  check-passed (suc a) n f = (λ e. absurd (omega arith), λ h. absurd (omega (arith, h.0)))

  -- its own cause applies exactly where no earlier one does and what it tests does not hold
  pub check-failed : (a : ℕ) {t : Bool} (n : ℕ) → (a ≡ suc n → ⊥) → (a ≡ 0 → Tells P t) → ((a or_else unless t (suc n)) ≡ suc n) ↔ ((a ≡ 0) × (P → ⊥))
  check-failed zero {t = true} n l f = (λ e. absurd (omega arith), λ h. absurd (h.1 ((f refl).if_true refl)))
  check-failed zero {t = false} n l f = (λ e. (refl, (f refl).if_false refl), λ h. refl)
  check-failed (suc a) n l f = (λ e. absurd (l e), λ h. absurd (omega (arith, h.0)))

-- a cause that is not the last check's applies exactly where an earlier check gives it
pub check-others : (a : ℕ) (t : Bool) (m n : ℕ) → 0 < n → (n ≡ m → ⊥) → ((a or_else unless t m) ≡ n) ↔ (a ≡ n)
check-others zero true m n p x = (λ e. e, λ e. e)
check-others zero false m n p x = (λ e. absurd (x (sym e)), λ e. absurd (omega arith))
check-others (suc a) t m n p x = (λ e. e, λ e. e)

-- ---- a number of a layer
module _ (most k j n : ℕ) where
  pub fit-large : most < n → false ≡ fits_at most k j n
  unfolding fits_at
  fit-large h = rw (lt-leb n most h)

  pub fit-lower : n ≤ most → j < k → true ≡ fits_at most k j n
  unfolding fits_at
  fit-lower h p = rw (le-leb n most h, lt-ltb j k p)

  pub fit-past : n ≤ most → k ≤ j → eqb n 0 ≡ fits_at most k j n
  unfolding fits_at
  fit-past h p = rw (le-leb n most h, le-ltb j k p)

-- ---- number by number
pub record Fitted (most k : ℕ) (ns : List ℕ) (j : ℕ) : Type 0 where
  pub within : j ≤ length ns
  pub same : all_fit most k j (drop j ns) ≡ all_fit most k 0 ns

module _ (most k : ℕ) (ns : List ℕ) (j : ℕ) (s : Fitted most k ns j) (h : j < length ns) where
  next : all_fit most k j (drop j ns) ≡ (fits_at most k j (get_or ns j 0) && all_fit most k (suc j) (drop (suc j) ns))
  next = ap (all_fit most k j) (drop-cons ns j 0 h)

  pub fitted-more : fits_at most k j (get_or ns j 0) ≡ true → Fitted most k ns (j + 1)
  fitted-more e = rw add-one (record { within = h; same = sym (next ∙ rw e) ∙ s.same })

  pub fitted-not : fits_at most k j (get_or ns j 0) ≡ false → false ≡ all_fit most k 0 ns
  fitted-not e = sym (next ∙ rw e) ∙ s.same

pub fitted-end : (most k : ℕ) (ns : List ℕ) (j : ℕ) → Fitted most k ns j → length ns ≤ j → true ≡ all_fit most k 0 ns
fitted-end most k ns j s h = sym (ap (all_fit most k j) (drop_of_length-le ns h)) ∙ s.same

-- ---- their sum
pub record Summed (ns : List ℕ) (n j : ℕ) : Type 0 where
  pub within : j ≤ length ns
  pub same : n + sum (drop j ns) ≡ sum ns
  pub small : n ≤ 4294967295 * j

pub summed-more : (ns : List ℕ) (n j : ℕ) → Summed ns n j → j < length ns → get_or ns j 0 ≤ 4294967295 → Summed ns (n + get_or ns j 0) (j + 1)
summed-more ns n j s h b =
    let e = ap sum (drop-cons ns j 0 h) in
    rw add-one (record { within = h; same = omega (arith, s.same); small = omega (arith, s.small) })

pub summed-end : (ns : List ℕ) (n j : ℕ) → Summed ns n j → length ns ≤ j → n ≡ sum ns
summed-end ns n j s h = let e = ap sum (drop_of_length-le ns h) in omega (arith, s.same)

-- sizes of 32 bits
pub sum-most : (ns : List ℕ) → ((j : ℕ) → get_or ns j 0 ≤ 4294967295) → sum ns ≤ 4294967295 * length ns
sum-most [] h = omega arith
sum-most (n ∷ ns) h = omega (arith, h 0, sum-most ns (λ j. h (suc j)))

-- ---- the causes
-- of a shape
module _ (s : Shape) where
  pub shape-low : s.k < 2 → 1 ≡ shape_cause s
  shape-low h = rw (lt-leb 2 s.k h)

  module _ (low : 2 ≤ s.k) where
    pub shape-high : 6 < s.k → 1 ≡ shape_cause s
    shape-high h = rw (le-leb 2 s.k low, lt-leb s.k 6 h)

    module _ (high : s.k ≤ 6) where
      pub shape-margins : true ≡ all_fit 512 s.k 0 s.sizes → (t : Bool) → t ≡ all_fit 50000 s.k 0 s.margins → unless t 17 ≡ shape_cause s
      shape-margins f t e = rw (le-leb 2 s.k low, le-leb s.k 6 high, ← f, ← e)

      pub shape-sizes : false ≡ all_fit 512 s.k 0 s.sizes → 2 ≡ shape_cause s
      shape-sizes e = rw (le-leb 2 s.k low, le-leb s.k 6 high, ← e)

-- of a plan
module _ (s : Shape) (cells : List ℤ) where
  pub plan-shape : (n : ℕ) → n ≡ shape_cause s → (n ≡ 0 → ⊥) → n ≡ plan_cause s cells
  unfolding plan_cause
  plan-shape zero e h = absurd (h refl)
  plan-shape (suc n) e h = rw (← e)

  module _ (sound : shape_cause s ≡ 0) where
    pub plan-cells : (length cells ≡ 4 * sum s.sizes → ⊥) → 3 ≡ plan_cause s cells
    unfolding plan_cause
    plan-cells n = rw (sound, ne_eqb (length cells) (4 * sum s.sizes) n)

    pub plan-range : length cells ≡ 4 * sum s.sizes → (t : Bool) → t ≡ all_ranged (count cells) cells → unless t 4 ≡ plan_cause s cells
    unfolding plan_cause
    plan-range whole t e = rw (sound, eq-eqb (length cells) (4 * sum s.sizes) whole, e)

-- ---- a plan that is let through
past-zero : (m k j : ℕ) (ns : List ℕ) → k ≤ j → all_fit m k j ns ≡ true → sum ns ≡ 0
unfolding fits_at
past-zero m k j [] h e = refl
past-zero m k j (n ∷ ns) h e =
    let b = both (fits_at m k j n) (all_fit m k (suc j) ns) e in
    let z = (both (leb n m) (ltb j k || eqb n 0) b.0).1 in
    let y = eqb-true n 0 (rw (le-ltb j k h) at z) in
    omega (arith, past-zero m k (suc j) ns (omega arith) b.1)

sum-front : (m i k j : ℕ) (ns : List ℕ) → k ≡ i + j → all_fit m k j ns ≡ true → sum (take i ns) ≡ sum ns
sum-front m zero k j ns q e = sym (past-zero m k j ns (omega arith) e)
sum-front m (suc i) k j [] q e = refl
sum-front m (suc i) k j (n ∷ ns) q e =
    ap (λ (z : ℕ). n + z) (sum-front m i k (suc j) ns (omega arith) (both (fits_at m k j n) (all_fit m k (suc j) ns) e).1)

-- what the checks let through
pub record Checked (s : Shape) (cells : List ℤ) : Type 0 where
  pub low : 2 ≤ s.k
  pub high : s.k ≤ 6
  pub fit : all_fit 512 s.k 0 s.sizes ≡ true
  pub margins : all_fit 50000 s.k 0 s.margins ≡ true
  pub whole : length cells ≡ 4 * sum s.sizes
  pub ranged : (k : ℕ) → k < count cells → in_range (rect_at cells k) ≡ true

pub checked : (s : Shape) (cells : List ℤ) → Sound s cells → Checked s cells
unfolding plan_cause
checked s cells h = go (leb 2 s.k && leb s.k 6) refl (all_fit 512 s.k 0 s.sizes) refl (all_fit 50000 s.k 0 s.margins) refl (eqb (length cells) (4 * sum s.sizes)) refl (all_ranged (count cells) cells) refl h.passed
  where
    go : (a : Bool) → (leb 2 s.k && leb s.k 6) ≡ a → (f : Bool) → all_fit 512 s.k 0 s.sizes ≡ f → (m : Bool) → all_fit 50000 s.k 0 s.margins ≡ m → (w : Bool) → eqb (length cells) (4 * sum s.sizes) ≡ w → (r : Bool) → all_ranged (count cells) cells ≡ r
        → ◌≡◌ {A = ℕ} (unless a 1 or_else unless f 2 or_else unless m 17 or_else unless w 3 or_else unless r 4) 0 → Checked s cells
    go false p f x m v w y r z e = absurd (omega arith)
    go true p false x m v w y r z e = absurd (omega arith)
    go true p true x false v w y r z e = absurd (omega arith)
    go true p true x true v false y r z e = absurd (omega arith)
    go true p true x true v true y false z e = absurd (omega arith)
    go true p true x true v true y true z e =
        let h = both (leb 2 s.k) (leb s.k 6) p in
        record { low = leb-true 2 s.k h.0; high = leb-true s.k 6 h.1; fit = x; margins = v; whole = eqb-true (length cells) (4 * sum s.sizes) y; ranged = λ k h. below_at (λ i. in_range (rect_at cells i)) (count cells) k z h }

-- the sizes of the k layers make up the whole, and each is at most 512
pub front-sum : (s : Shape) (cells : List ℤ) → Checked s cells → sum (sizes_of s) ≡ sum s.sizes
front-sum s cells c = sum-front 512 s.k s.k 0 s.sizes (omega arith) c.fit

pub count-is : (s : Shape) (cells : List ℤ) → Checked s cells → count cells ≡ sum s.sizes
count-is s cells c = omega (arith, c.whole)

-- each of the numbers is at most the bound
pub fit_small : (m k j : ℕ) (ns : List ℕ) → all_fit m k j ns ≡ true → All (λ n. n ≤ m) ns
unfolding fits_at
fit_small m k j [] e = none_left
fit_small m k j (n ∷ ns) e =
    let b = both (fits_at m k j n) (all_fit m k (suc j) ns) e in
    ◌and◌ (leb-true n m (both (leb n m) (ltb j k || eqb n 0) b.0).0) (fit_small m k (suc j) ns b.1)

pub sum-small : {ns : List ℕ} → All (λ n. n ≤ 512) ns → sum ns ≤ 512 * length ns
sum-small none_left = zero-le
sum-small (◌and◌ h hs) = omega (arith, sum-small hs)

-- six sizes make at most 3,072 rectangles
pub few : (s : Shape) (cells : List ℤ) → Sound s cells → count cells ≤ most_rects
few s cells h = let c = checked s cells h in omega (arith, h.typed.sizes, count-is s cells c, sum-small (fit_small 512 s.k 0 s.sizes c.fit))
