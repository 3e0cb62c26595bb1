-- Laws of the kinds of bytes: what a byte of each kind is, and which kind a byte is.
use mathlib.Core.Path.{◌≡◌, refl, sym, ap, ◌∙◌, subst}
use mathlib.Core.Bool.{Bool, true, false, cond, ◌&&◌}
use mathlib.Core.Logic.{◌⊎◌, inl, inr}
use Prim.Native.Nat.{ℕ, ◌≤◌, ◌<◌}
use native.Mathlib.Omega.{arith}
use lib.Dec.{T, eqb, leb}
use borrow.Author.Tests.{leb-true, eqb-true, le-leb, ne_eqb, lt-leb}
use Rattle.lists.proofs.Tests.{never_true, both, and-true, same_test, total}
use Rattle.decimal.specs.declared.Kind.{Kind}
use Rattle.decimal.specs.declared.Kind.TheVariants.{Minus, Zero, Digit, Tab, End, Other}
use Rattle.decimal.specs.inner.Bytes.{kind_of, is_digit}

-- what a byte of this kind is
abbrev pub Is : Kind → ℕ → Type 0
Is Minus b = b ≡ 45
Is Zero b = b ≡ 48
Is Digit b = (49 ≤ b) × (b ≤ 57)
Is Tab b = b ≡ 9
Is End b = b ≡ 10
Is Other b = Unit {0}

pick_is : (t : Bool) (k l : Kind) (b : ℕ) → (t ≡ true → Is k b) → Is l b → Is (cond t k l) b
pick_is true k l b f h = f refl
pick_is false k l b f h = h

pub kind-is : (b : ℕ) → Is (kind_of b) b
unfolding kind_of
kind-is b =
    pick_is (eqb b 45) Minus _ b (eqb-true b 45)
    (pick_is (eqb b 48) Zero _ b (eqb-true b 48)
    (pick_is (leb 49 b && leb b 57) Digit _ b (λ e. range (both (leb 49 b) (leb b 57) e))
    (pick_is (eqb b 9) Tab _ b (eqb-true b 9)
    (pick_is (eqb b 10) End Other b (eqb-true b 10) tt))))
  where
    range : (leb 49 b ≡ true) × (leb b 57 ≡ true) → (49 ≤ b) × (b ≤ 57)
    range h = (leb-true 49 b h.0, leb-true b 57 h.1)

pub kind-digit : (b : ℕ) → 49 ≤ b → b ≤ 57 → kind_of b ≡ Digit
unfolding kind_of
kind-digit b h k =
    rw (ne_eqb b 45 (λ e. omega arith), ne_eqb b 48 (λ e. omega arith), le-leb 49 b h, le-leb b 57 k)

pub kind-other : (b : ℕ) → (b < 48) ⊎ (57 < b) → (b ≡ 45 → ⊥) → (b ≡ 9 → ⊥) → (b ≡ 10 → ⊥) → kind_of b ≡ Other
unfolding kind_of
kind-other b (inl h) n₁ n₂ n₃ =
    rw (ne_eqb b 45 n₁, ne_eqb b 48 (λ e. omega arith), lt-leb 49 b (omega arith), ne_eqb b 9 n₂, ne_eqb b 10 n₃)
kind-other b (inr h) n₁ n₂ n₃ =
    rw (ne_eqb b 45 n₁, ne_eqb b 48 (λ e. omega arith), le-leb 49 b (omega arith), lt-leb b 57 h, ne_eqb b 9 n₂, ne_eqb b 10 n₃)

pub digit-yes : (b : ℕ) → 48 ≤ b → b ≤ 57 → is_digit (kind_of b) ≡ true
digit-yes b h k = go (total 49 b)
  where
    go : (49 ≤ b) ⊎ (b < 49) → is_digit (kind_of b) ≡ true
    go (inl l) = ap is_digit (kind-digit b l k)
    go (inr l) =
        let e : b ≡ 48 = omega arith in
        ap (λ (n : ℕ). is_digit (kind_of n)) e ∙ (unfold kind_of in refl)

pub digit-is : (k : Kind) (b : ℕ) → is_digit k ≡ true → Is k b → (48 ≤ b) × (b ≤ 57)
digit-is Minus b e h = absurd (subst T (sym e) tt)
digit-is Zero b e h = omega arith
digit-is Digit b e h = omega arith
digit-is Tab b e h = absurd (subst T (sym e) tt)
digit-is End b e h = absurd (subst T (sym e) tt)
digit-is Other b e h = absurd (subst T (sym e) tt)

pub digit-no : (b : ℕ) → ((48 ≤ b) × (b ≤ 57) → ⊥) → is_digit (kind_of b) ≡ false
digit-no b h = never_true (is_digit (kind_of b)) (λ e. h (digit-is (kind_of b) b e (kind-is b)))

-- the bytes 48 to 57 are the digits
pub digit-kind : (b : ℕ) → (leb 48 b && leb b 57) ≡ is_digit (kind_of b)
digit-kind b =
    same_test (leb 48 b && leb b 57) (is_digit (kind_of b))
    (λ e. let h = both (leb 48 b) (leb b 57) e in digit-yes b (leb-true 48 b h.0) (leb-true b 57 h.1))
    (λ e. let h = digit-is (kind_of b) b e (kind-is b) in and-true (leb 48 b) (leb b 57) (le-leb 48 b h.0) (le-leb b 57 h.1))

-- another byte is no digit
pub other : Other ≡ Digit → ⊥
other e = subst T (sym (ap is_digit e)) tt
