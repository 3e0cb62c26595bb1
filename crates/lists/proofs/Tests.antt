-- Tests: Booleans that say whether something holds, and the two cases of an order of numbers.
use mathlib.Core.Path.{◌≡◌, refl, sym, ◌∙◌, subst}
use mathlib.Core.Bool.{Bool, true, false, not, cond, ◌&&◌}
use mathlib.Core.Logic.{◌⊎◌, inl, inr}
use Prim.Native.Nat.{ℕ, zero, suc, ◌+◌, ◌≤◌, ◌<◌}
use native.Mathlib.Omega.{arith}
use native.Mathlib.Numerals.{add-one}
use lib.Dec.{T, leb, leb→le, nleb→lt}
use mir.Val.{bool_byte}
use borrow.Author.Tests.{leb-true, le-leb}
use Rattle.lists.specs.Lists.{Tells, holds_below}

-- a flag as a number
pub as_number : (t : Bool) → bool_byte t ≡ cond t 1 0
as_number true = refl
as_number false = refl

pub clash : {t : Bool} {X : Type 0} → t ≡ true → t ≡ false → X
clash p q = absurd (subst T (sym p ∙ q) tt)

pub never_true : (t : Bool) → (t ≡ true → ⊥) → t ≡ false
never_true true f = absurd (f refl)
never_true false f = refl

pub both : (a b : Bool) → (a && b) ≡ true → (a ≡ true) × (b ≡ true)
both true b e = (refl, e)
both false b e = clash e refl

pub and-true : (a b : Bool) → a ≡ true → b ≡ true → (a && b) ≡ true
and-true a b p q = cc

pub and_first : (a b : Bool) → (a ≡ true → b ≡ true) → (a && b) ≡ a
and_first true b f = f refl
and_first false b f = refl

pub and_second : (a b : Bool) → (b ≡ true → a ≡ true) → (a && b) ≡ b
and_second true b f = refl
and_second false b f = sym (never_true b (λ e. clash (f e) refl))

-- two tests that pass together are the same
pub same_test : (a b : Bool) → (a ≡ true → b ≡ true) → (b ≡ true → a ≡ true) → a ≡ b
same_test true b f g = sym (f refl)
same_test false true f g = g refl
same_test false false f g = refl

pub holds : {P : Type 0} → P → Tells P true
holds p = record { if_true = λ e. p; if_false = λ e. clash refl e }

pub fails : {P : Type 0} → (P → ⊥) → Tells P false
fails n = record { if_true = λ e. clash e refl; if_false = λ e. n }

pub tells : {P : Type 0} (t : Bool) → (t ≡ true → P) → (P → t ≡ true) → Tells P t
tells t f g = record { if_true = f; if_false = λ e p. clash (g p) e }

pub le-tells : (n m : ℕ) → Tells (n ≤ m) (leb n m)
le-tells n m = tells (leb n m) (leb-true n m) (le-leb n m)

-- ---- orders of numbers
pub total : (m n : ℕ) → (m ≤ n) ⊎ (n < m)
total m n = go (leb m n) (leb→le m n) (nleb→lt m n)
  where
    go : (t : Bool) → (T t → m ≤ n) → (T (not t) → n < m) → (m ≤ n) ⊎ (n < m)
    go true f g = inl (f tt)
    go false f g = inr (g tt)

split-last : (k i : ℕ) → k < i + 1 → (k < i) ⊎ (k ≡ i)
split-last k i h = go (total i k)
  where
    go : (i ≤ k) ⊎ (k < i) → (k < i) ⊎ (k ≡ i)
    go (inl q) = inr (omega arith)
    go (inr q) = inl q

-- what holds from lo on before i, and at i, holds before i + 1
pub one_more : (P : ℕ → Type 0) (lo i : ℕ) → ((k : ℕ) → lo ≤ k → k < i → P k) → P i → (k : ℕ) → lo ≤ k → k < i + 1 → P k
one_more P lo i h p k a b = go (split-last k i b)
  where
    go : (k < i) ⊎ (k ≡ i) → P k
    go (inl q) = h k a q
    go (inr e) = subst P (sym e) p

-- ---- a test at each number below n: one more, at one of them, from all of them, where one fails, at the end of a loop
pub below_more : (t : ℕ → Bool) (i : ℕ) → holds_below t i ≡ true → t i ≡ true → holds_below t (i + 1) ≡ true
below_more t i h e = rw add-one (and-true (holds_below t i) (t i) h e)

pub below_at : (t : ℕ → Bool) (n k : ℕ) → holds_below t n ≡ true → k < n → t k ≡ true
below_at t zero k e h = absurd (omega arith)
below_at t (suc n) k e h = go (total n k) (below_at t n k b.0)
  where
    b : (holds_below t n ≡ true) × (t n ≡ true)
    b = both (holds_below t n) (t n) e

    go : (n ≤ k) ⊎ (k < n) → (k < n → t k ≡ true) → t k ≡ true
    go (inl p) i = subst (λ (m : ℕ). t m ≡ true) (omega arith) b.1
    go (inr p) i = i p

pub below_all : (t : ℕ → Bool) (n : ℕ) → ((k : ℕ) → k < n → t k ≡ true) → holds_below t n ≡ true
below_all t zero f = refl
below_all t (suc n) f = and-true (holds_below t n) (t n) (below_all t n (λ k h. f k (omega arith))) (f n (omega arith))

pub below-not : (t : ℕ → Bool) (n k : ℕ) → k < n → t k ≡ false → false ≡ holds_below t n
below-not t n k h e = go (holds_below t n) refl
  where
    go : (b : Bool) → holds_below t n ≡ b → false ≡ b
    go true f = clash (below_at t n k f h) e
    go false f = refl

pub below_end : (t : ℕ → Bool) (i n : ℕ) → holds_below t i ≡ true → i ≤ n → n ≤ i → true ≡ holds_below t n
below_end t i n e h k = let q : i ≡ n = omega arith in sym (subst (λ (m : ℕ). holds_below t m ≡ true) q e)
