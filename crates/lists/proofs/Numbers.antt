-- Laws of lists of numbers: those below n, the pigeonhole principle, and the test of equality.
use mathlib.Core.Path.{◌≡◌, refl, sym, ap, ap₂, subst}
use mathlib.Core.List.{List, [], ◌∷◌, ◌++◌, Memᴰ}
use mathlib.Core.Bool.{Bool, true, false, cond}
use mathlib.Core.Logic.{◌⊎◌, inl, inr, ⊎_elim}
use Prim.Native.Nat.{ℕ, zero, suc, ◌+◌, ◌≤◌, ◌<◌, zero-le}
use native.Mathlib.Nat.{le_refl}
use native.Mathlib.Omega.{arith}
use lib.Dec.{eqb}
use lib.ListN.{length, length-append}
use borrow.Author.Tests.{eq-eqb, eqb-true, eqb-false}
use Rattle.lists.specs.Lists.{Tells, All, none_left, ◌and◌, done, ◌then◌, Below, Distinct, sum, numbers, same}
use Rattle.lists.proofs.Tests.{clash, both}
use Rattle.lists.proofs.Lists.{all_map, all-++, pairwise-++}

-- ---- the numbers below n
pub numbers-below : (n : ℕ) → Below n (numbers n)
numbers-below zero = none_left
numbers-below (suc n) = all-++ (all_map (λ k h. omega arith) (numbers-below n)) (◌and◌ (le_refl (suc n)) none_left)

pub numbers-long : (n : ℕ) → length (numbers n) ≡ n
numbers-long zero = refl
numbers-long (suc n) = omega (arith, length-append (numbers n) (n ∷ []), numbers-long n)

pub numbers-distinct : (n : ℕ) → Distinct (numbers n)
numbers-distinct zero = done
numbers-distinct (suc n) =
    pairwise-++ (numbers-distinct n) (all_map (λ k h. ◌and◌ (λ e. omega arith) none_left) (numbers-below n)) (◌then◌ none_left done)

-- ---- pigeonhole: distinct numbers below n are at most n, and where there are n of them, they are all
abbrev Not : ℕ → List ℕ → Type 0
Not n l = All (λ a. n ≡ a → ⊥) l

remove : ℕ → List ℕ → List ℕ
remove n [] = []
remove n (a ∷ l) = cond (eqb n a) (remove n l) (a ∷ remove n l)

remove-all : {P : ℕ → Type 0} (n : ℕ) {l : List ℕ} → All P l → All (λ a. P a × (n ≡ a → ⊥)) (remove n l)
unfolding remove
remove-all n none_left = none_left
remove-all {P} n (◌and◌ {a = a} {l = l} h hs) = go (eqb n a) refl (remove-all n hs)
  where
    go : (t : Bool) → eqb n a ≡ t → All (λ b. P b × (n ≡ b → ⊥)) (remove n l) → All (λ b. P b × (n ≡ b → ⊥)) (cond t (remove n l) (a ∷ remove n l))
    go true e k = k
    go false e k = ◌and◌ (h, eqb-false n a e) k

remove-distinct : (n : ℕ) {l : List ℕ} → Distinct l → Distinct (remove n l)
unfolding remove
remove-distinct n done = done
remove-distinct n (◌then◌ {a = a} {l = l} h hs) = go (eqb n a) (remove-distinct n hs)
  where
    go : (t : Bool) → Distinct (remove n l) → Distinct (cond t (remove n l) (a ∷ remove n l))
    go true k = k
    go false k = ◌then◌ (all_map (λ b p. p.0) (remove-all n h)) k

remove-not : (n : ℕ) {l : List ℕ} → Not n l → remove n l ≡ l
unfolding remove
remove-not n none_left = refl
remove-not n (◌and◌ {a = a} {l = l} h hs) = go (eqb n a) refl (remove-not n hs)
  where
    go : (t : Bool) → eqb n a ≡ t → remove n l ≡ l → cond t (remove n l) (a ∷ remove n l) ≡ a ∷ l
    go true e k = absurd (h (eqb-true n a e))
    go false e k = ap (λ (m : List ℕ). a ∷ m) k

remove-one : (n : ℕ) {l : List ℕ} → Distinct l → length l ≤ suc (length (remove n l))
unfolding remove
remove-one n done = zero-le
remove-one n (◌then◌ {a = a} {l = l} h hs) = go (eqb n a) refl (remove-one n hs)
  where
    go : (t : Bool) → eqb n a ≡ t → length l ≤ suc (length (remove n l)) → suc (length l) ≤ suc (length (cond t (remove n l) (a ∷ remove n l)))
    go true e k =
        let z = ap length (remove-not n (subst (λ (m : ℕ). Not m l) (sym (eqb-true n a e)) h)) in omega arith
    go false e k = omega arith

pub pigeonhole : (n : ℕ) {l : List ℕ} → Below n l → Distinct l → length l ≤ n
pigeonhole zero none_left d = zero-le
pigeonhole zero (◌and◌ h hs) d = absurd (omega arith)
pigeonhole (suc n) {l} b d =
    let k = pigeonhole n (all_map (λ a p. omega (arith, p.0, p.1)) (remove-all n b)) (remove-distinct n d) in
    omega (arith, remove-one n d)

find : (k : ℕ) (l : List ℕ) → Memᴰ k l ⊎ Not k l
find k [] = inr none_left
find k (a ∷ l) = go (eqb k a) refl (find k l)
  where
    go : (t : Bool) → eqb k a ≡ t → Memᴰ k l ⊎ Not k l → Memᴰ k (a ∷ l) ⊎ Not k (a ∷ l)
    go true e f = inl (Memᴰ.head (eqb-true k a e))
    go false e (inl m) = inl (Memᴰ.tail m)
    go false e (inr m) = inr (◌and◌ (eqb-false k a e) m)

pub has_all : (n : ℕ) {l : List ℕ} → Below n l → Distinct l → length l ≡ n → (k : ℕ) → k < n → Memᴰ k l
has_all n {l} b d e k h = ⊎_elim (λ m. m) (λ m. absurd (omega (arith, pigeonhole n (◌and◌ h b) (◌then◌ m d)))) (find k l)

-- ---- the test of equality
pub same_refl : (l : List ℕ) → same l l ≡ true
unfolding same
same_refl [] = refl
same_refl (a ∷ l) = rw (same_refl l, eq-eqb a a refl)

pub same-eq : (k l : List ℕ) → same k l ≡ true → k ≡ l
unfolding same
same-eq [] [] e = refl
same-eq [] (y ∷ l) e = clash e refl
same-eq (x ∷ k) [] e = clash e refl
same-eq (x ∷ k) (y ∷ l) e =
    let h = both (eqb x y) (same k l) e in ap₂ ◌∷◌ (eqb-true x y h.0) (same-eq k l h.1)

pub same-tells : (k l : List ℕ) → Tells (k ≡ l) (same k l)
same-tells k l = record {
  if_true = same-eq k l;
  if_false = λ e q. clash (subst (λ (m : List ℕ). same k m ≡ true) q (same_refl k)) e;
}

-- ---- sums
pub sum-++ : (l m : List ℕ) → sum (l ++ m) ≡ sum l + sum m
sum-++ [] m = omega arith
sum-++ (n ∷ l) m = omega (arith, sum-++ l m)
