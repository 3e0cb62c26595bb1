-- Laws of the counts: each row adds one to the count of its class.
use mathlib.Core.Path.{◌≡◌, refl, ap, ◌∙◌}
use mathlib.Core.List.{List, [], ◌∷◌}
use mathlib.Core.Logic.{◌⊎◌, inl, inr}
use mathlib.Core.Bool.{Bool, true, false, cond}
use Prim.Native.Nat.{ℕ, zero, suc, ◌+◌, ◌≤◌, ◌<◌}
use native.Mathlib.Omega.{arith}
use lib.Dec.{eqb}
use lib.ListN.{length, get_or}
use borrow.Author.Tests.{eq-eqb, ne_eqb}
use Rattle.lists.specs.Lists.{All, none_left, ◌and◌, keep, each, sum}
use Rattle.lists.proofs.Tests.{total}
use Rattle.lists.proofs.Kept.{get_d-upto}
use Rattle.plan.specs.Plan.{Layer}
use Rattle.crossings.specs.Crossings.{class_in}
use Rattle.crossings.specs.ClassCall.{count_of, class_counts}

-- ---- how many have a class
abbrev pub one : Bool → ℕ
one t = cond t 1 0

pub count-more : (ls : List Layer) (row : List ℕ) (rows : List (List ℕ)) (c : ℕ) → count_of ls (row ∷ rows) c ≡ one (eqb (class_in ls row) c) + count_of ls rows c
count-more ls row rows c = go (eqb (class_in ls row) c)
  where
    go : (t : Bool) → length (cond t (row ∷ keep (λ r. eqb (class_in ls r) c) rows) (keep (λ r. eqb (class_in ls r) c) rows)) ≡ one t + count_of ls rows c
    go true = omega arith
    go false = omega arith

pub count-few : (ls : List Layer) (rows : List (List ℕ)) (c : ℕ) → count_of ls rows c ≤ length rows
count-few ls [] c = omega arith
count-few ls (row ∷ rows) c = go (eqb (class_in ls row) c) (count-few ls rows c) (count-more ls row rows c)
  where
    go : (t : Bool) → count_of ls rows c ≤ length rows → count_of ls (row ∷ rows) c ≡ one t + count_of ls rows c → count_of ls (row ∷ rows) c ≤ suc (length rows)
    go true h e = omega arith
    go false h e = omega arith

pub counts-at : (ls : List Layer) (rows : List (List ℕ)) (c : ℕ) → c < 17 → get_or (class_counts ls rows) c 0 ≡ count_of ls rows c
counts-at ls rows c l = let e : 0 + c ≡ c = omega arith in get_d-upto (count_of ls rows) 0 17 c 0 l ∙ ap (count_of ls rows) e

-- ---- the counts add up
-- of one row: one in all
sum-none : (x p n : ℕ) → x < p → sum (each (λ c. one (eqb x c) ∷ []) p n) ≡ 0
sum-none x p zero h = refl
sum-none x p (suc n) h = rw (ne_eqb x p (λ e. omega arith)) (omega (arith, sum-none x (suc p) n (omega arith)))

sum_one : (x p n : ℕ) → p ≤ x → x < p + n → sum (each (λ c. one (eqb x c) ∷ []) p n) ≡ 1
sum_one x p zero h k = absurd (omega arith)
sum_one x p (suc n) h k = go (total x p) (sum_one x (suc p) n)
  where
    go : (x ≤ p) ⊎ (p < x) → (suc p ≤ x → x < suc p + n → sum (each (λ c. one (eqb x c) ∷ []) (suc p) n) ≡ 1) → one (eqb x p) + sum (each (λ c. one (eqb x c) ∷ []) (suc p) n) ≡ 1
    go (inl l) f = rw (eq-eqb x p (omega arith)) (omega (arith, sum-none x (suc p) n (omega arith)))
    go (inr l) f = rw (ne_eqb x p (λ e. omega arith)) (omega (arith, f l (omega arith)))

sum-zero : (p n : ℕ) → sum (each (λ c. 0 ∷ []) p n) ≡ 0
sum-zero p zero = refl
sum-zero p (suc n) = omega (arith, sum-zero (suc p) n)

sum_both : (f g h : ℕ → ℕ) → ((c : ℕ) → f c ≡ g c + h c) → (p n : ℕ) → sum (each (λ c. f c ∷ []) p n) ≡ sum (each (λ c. g c ∷ []) p n) + sum (each (λ c. h c ∷ []) p n)
sum_both f g h e p zero = refl
sum_both f g h e p (suc n) = omega (arith, e p, sum_both f g h e (suc p) n)

pub counts-sum : (ls : List Layer) {rows : List (List ℕ)} → All (λ row. class_in ls row < 17) rows → sum (class_counts ls rows) ≡ length rows
counts-sum ls none_left = sum-zero 0 17
counts-sum ls (◌and◌ {a = row} {l = rows} h hs) =
    let b = sum_both (count_of ls (row ∷ rows)) (λ c. one (eqb (class_in ls row) c)) (count_of ls rows) (count-more ls row rows) 0 17 in
    omega (arith, b, sum_one (class_in ls row) 0 17 (omega arith) (omega arith), counts-sum ls hs)
