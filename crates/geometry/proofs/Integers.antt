-- Whole numbers as omega reads them: z is `up z` less `dn z`, one of which is 0. `omega zarith` reads and proves orders and equations of ℤ,
-- and tests of them (`le_z a b ≡ true`). Of a sum, a difference, a maximum or a size list the law with its arguments: `sub-law a b`.
use mathlib.Core.Path.{◌≡◌, refl, sym, ap, subst}
use mathlib.Core.Bool.{Bool, true, false, not, cond}
use mathlib.Core.Logic.{◌⊎◌, inl, inr}
use Prim.Native.Nat.{ℕ, zero, suc, ◌+◌, ◌-◌, ◌^◌, ◌≤◌, ◌<◌, min}
use native.Mathlib.Omega.{arith}
use lib.IntN.{ℤ, pos, negsuc, neg_ℤ, nat_abs, sub_ℕ, ◌+ℤ◌, ◌-ℤ◌}
use lib.Signed.{mag, le_z, lt_z, non_neg, ◌≤ℤ◌, ◌<ℤ◌}
use lib.Dec.{T, ltb, leb→le, le→leb, ltb→lt, lt→ltb, nltb→le}
use mir.Syntax.{Width}
use mir.Val.{SFits, hbits}
use Rattle.lists.proofs.Tests.{same_test, total}

abbrev pub up : ℤ → ℕ
up (pos k) = k
up (negsuc k) = 0

abbrev pub dn : ℤ → ℕ
dn (pos k) = 0
dn (negsuc k) = suc k

-- ---- orders and equations, each way
pub le_z→ : (a b : ℤ) → T (le_z a b) → up a + dn b ≤ up b + dn a
le_z→ (pos a) (pos b) t = omega (arith, leb→le a b t)
le_z→ (pos a) (negsuc b) t = absurd t
le_z→ (negsuc a) (pos b) t = omega arith
le_z→ (negsuc a) (negsuc b) t = omega (arith, leb→le b a t)

pub →leZ : (a b : ℤ) → up a + dn b ≤ up b + dn a → T (le_z a b)
→leZ (pos a) (pos b) h = le→leb a b (omega arith)
→leZ (pos a) (negsuc b) h = absurd (omega arith)
→leZ (negsuc a) (pos b) h = tt
→leZ (negsuc a) (negsuc b) h = le→leb b a (omega arith)

pub lt_z→ : (a b : ℤ) → T (lt_z a b) → up a + dn b < up b + dn a
lt_z→ (pos a) (pos b) t = omega (arith, ltb→lt a b t)
lt_z→ (pos a) (negsuc b) t = absurd t
lt_z→ (negsuc a) (pos b) t = omega arith
lt_z→ (negsuc a) (negsuc b) t = omega (arith, ltb→lt b a t)

pub →ltZ : (a b : ℤ) → up a + dn b < up b + dn a → T (lt_z a b)
→ltZ (pos a) (pos b) h = lt→ltb a b (omega arith)
→ltZ (pos a) (negsuc b) h = absurd (omega arith)
→ltZ (negsuc a) (pos b) h = tt
→ltZ (negsuc a) (negsuc b) h = lt→ltb b a (omega arith)

pub le→ : (a b : ℤ) → a ≤ℤ b → up a + dn b ≤ up b + dn a
le→ a b h = le_z→ a b h.le

pub →le : (a b : ℤ) → up a + dn b ≤ up b + dn a → a ≤ℤ b
→le a b h = record { le = →leZ a b h }

pub lt→ : (a b : ℤ) → a <ℤ b → up a + dn b < up b + dn a
lt→ a b h = lt_z→ a b h.lt

pub →lt : (a b : ℤ) → up a + dn b < up b + dn a → a <ℤ b
→lt a b h = record { lt = →ltZ a b h }

pub eq→ : (a b : ℤ) → a ≡ b → up a + dn b ≡ up b + dn a
eq→ a b e = omega (arith, ap up e, ap dn e)

pub →eq : (a b : ℤ) → up a + dn b ≡ up b + dn a → a ≡ b
→eq (pos a) (pos b) h = ap pos (omega arith)
→eq (pos a) (negsuc b) h = absurd (omega arith)
→eq (negsuc a) (pos b) h = absurd (omega arith)
→eq (negsuc a) (negsuc b) h = ap negsuc (omega arith)

-- ---- tests, each way
is_true : (t : Bool) → T t → t ≡ true
is_true true h = refl
is_true false h = absurd h

is_false : (t : Bool) → (T t → ⊥) → t ≡ false
is_false true h = absurd (h tt)
is_false false h = refl

not-both : (t : Bool) → t ≡ false → T t → ⊥
not-both t e h = subst T e h

pub le_z-true : (a b : ℤ) → le_z a b ≡ true → up a + dn b ≤ up b + dn a
le_z-true a b e = le_z→ a b (subst T (sym e) tt)

pub le_z-false : (a b : ℤ) → le_z a b ≡ false → up b + dn a < up a + dn b
le_z-false a b e = go (total (up a + dn b) (up b + dn a))
  where
    go : (up a + dn b ≤ up b + dn a) ⊎ (up b + dn a < up a + dn b) → up b + dn a < up a + dn b
    go (inl h) = absurd (not-both (le_z a b) e (→leZ a b h))
    go (inr h) = h

pub →leZ-true : (a b : ℤ) → up a + dn b ≤ up b + dn a → le_z a b ≡ true
→leZ-true a b h = is_true (le_z a b) (→leZ a b h)

pub →leZ-false : (a b : ℤ) → up b + dn a < up a + dn b → le_z a b ≡ false
→leZ-false a b h = is_false (le_z a b) (λ t. clash (up a + dn b) (up b + dn a) (le_z→ a b t) h)
  where
    clash : (m n : ℕ) → m ≤ n → n < m → ⊥
    clash m n p q = omega arith

pub lt_z-true : (a b : ℤ) → lt_z a b ≡ true → up a + dn b < up b + dn a
lt_z-true a b e = lt_z→ a b (subst T (sym e) tt)

pub lt_z-false : (a b : ℤ) → lt_z a b ≡ false → up b + dn a ≤ up a + dn b
lt_z-false a b e = go (total (up b + dn a) (up a + dn b))
  where
    go : (up b + dn a ≤ up a + dn b) ⊎ (up a + dn b < up b + dn a) → up b + dn a ≤ up a + dn b
    go (inl h) = h
    go (inr h) = absurd (not-both (lt_z a b) e (→ltZ a b h))

pub →ltZ-true : (a b : ℤ) → up a + dn b < up b + dn a → lt_z a b ≡ true
→ltZ-true a b h = is_true (lt_z a b) (→ltZ a b h)

-- ---- the laws of what is computed
pub one_side : (z : ℤ) → min (up z) (dn z) ≡ 0
one_side (pos k) = omega arith
one_side (negsuc k) = omega arith

pub mag-law : (z : ℤ) → mag z ≡ up z + (dn z - 1)
mag-law (pos k) = omega arith
mag-law (negsuc k) = omega arith

pub size-law : (z : ℤ) → nat_abs z ≡ up z + dn z
size-law (pos k) = omega arith
size-law (negsuc k) = omega arith

subℕ-law : (a b : ℕ) → up (sub_ℕ a b) + b ≡ a + dn (sub_ℕ a b)
subℕ-law a b = go (ltb a b) (ltb→lt a b) (nltb→le a b)
  where
    go : (t : Bool) → (T t → a < b) → (T (not t) → b ≤ a) → up (cond t (negsuc (b - suc a)) (pos (a - b))) + b ≡ a + dn (cond t (negsuc (b - suc a)) (pos (a - b)))
    go true f g = omega (arith, f tt)
    go false f g = omega (arith, g tt)

pub add-law : (a b : ℤ) → up (a +ℤ b) + dn a + dn b ≡ up a + up b + dn (a +ℤ b)
add-law (pos a) (pos b) = omega arith
add-law (pos a) (negsuc b) = omega (arith, subℕ-law a (suc b))
add-law (negsuc a) (pos b) = omega (arith, subℕ-law b (suc a))
add-law (negsuc a) (negsuc b) = omega arith

pub neg-law : (a : ℤ) → (up (neg_ℤ a) ≡ dn a) × (dn (neg_ℤ a) ≡ up a)
neg-law (pos zero) = (refl, refl)
neg-law (pos (suc k)) = (refl, refl)
neg-law (negsuc k) = (refl, refl)

pub sub-law : (a b : ℤ) → up (a -ℤ b) + dn a + up b ≡ up a + dn b + dn (a -ℤ b)
sub-law a b = omega (arith, add-law a (neg_ℤ b), neg-law b)

pub non_neg-law : (z : ℤ) → dn z ≡ 0 → T (non_neg z)
non_neg-law (pos k) h = tt
non_neg-law (negsuc k) h = absurd (omega arith)

pub →sfits : (w : Width) (z : ℤ) → up z + (dn z - 1) < 2 ^ hbits w → SFits w z
→sfits w z h = record { sfits = subst (λ (n : ℕ). n < 2 ^ hbits w) (sym (mag-law z)) h }

pub sfits→ : (w : Width) (z : ℤ) → SFits w z → up z + (dn z - 1) < 2 ^ hbits w
sfits→ w z f = subst (λ (n : ℕ). n < 2 ^ hbits w) (mag-law z) f.sfits

pub ruleset zarith = (arith, le_z→, →leZ, lt_z→, →ltZ, le→, →le, lt→, →lt, eq→, →eq, le_z-true, →leZ-true, le_z-false, →leZ-false, lt_z-true, →ltZ-true, lt_z-false)

-- ---- the order's laws
pub refl-le : (a : ℤ) → a ≤ℤ a
refl-le a = omega zarith

pub total-le : (a b : ℤ) → (a ≤ℤ b) ⊎ (b <ℤ a)
total-le a b = go (total (up a + dn b) (up b + dn a))
  where
    go : (up a + dn b ≤ up b + dn a) ⊎ (up b + dn a < up a + dn b) → (a ≤ℤ b) ⊎ (b <ℤ a)
    go (inl h) = inl (omega zarith)
    go (inr h) = inr (omega zarith)

-- below b is at most b less one
pub less_one : (a b : ℤ) → lt_z a b ≡ le_z a (b -ℤ pos 1)
less_one a b = same_test (lt_z a b) (le_z a (b -ℤ pos 1)) (λ e. omega (zarith, sub-law b (pos 1))) (λ e. omega (zarith, sub-law b (pos 1)))
