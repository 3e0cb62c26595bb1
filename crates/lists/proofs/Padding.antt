-- Laws of lists that are filled up with 0.
use mathlib.Core.Path.{◌≡◌, refl, sym, ap, ap₂}
use mathlib.Core.List.{List, [], ◌∷◌}
use Prim.Native.Nat.{ℕ, zero, suc, ◌≤◌, zero-le, suc-le-suc}
use native.Mathlib.Omega.{arith}
use lib.ListN.{length, take, get_or}
use Rattle.lists.specs.Lists.{padded}

-- what is filled up begins as it was
pub take-padded : (m : ℕ) (l : List ℕ) → length l ≤ m → take (length l) (padded m l) ≡ l
take-padded m [] h = refl
take-padded zero (a ∷ l) h = absurd (omega arith)
take-padded (suc m) (a ∷ l) h = ap (λ (k : List ℕ). a ∷ k) (take-padded m l (omega arith))

-- it has m places
pub padded-long : (m : ℕ) (l : List ℕ) → length (padded m l) ≡ m
padded-long zero l = refl
padded-long (suc m) [] = ap suc (padded-long m [])
padded-long (suc m) (a ∷ l) = ap suc (padded-long m l)

-- those behind it are 0
pub padded-zeros : (m : ℕ) (l : List ℕ) (i : ℕ) → length l ≤ i → get_or (padded m l) i 0 ≡ 0
padded-zeros zero l i h = refl
padded-zeros (suc m) [] zero h = refl
padded-zeros (suc m) [] (suc i) h = padded-zeros m [] i (omega arith)
padded-zeros (suc m) (a ∷ l) zero h = absurd (omega arith)
padded-zeros (suc m) (a ∷ l) (suc i) h = padded-zeros m l i (omega arith)

-- m places that are 0 from n on are the first n, filled up
pub padded-front : (m n : ℕ) (l : List ℕ) → length l ≡ m → ((i : ℕ) → n ≤ i → get_or l i 0 ≡ 0) → padded m (take n l) ≡ l
padded-front zero n [] e f = refl
padded-front zero n (a ∷ l) e f = absurd (omega arith)
padded-front (suc m) n [] e f = absurd (omega arith)
padded-front (suc m) zero (a ∷ l) e f = ap₂ ◌∷◌ (sym (f 0 zero-le)) (padded-front m zero l (omega arith) (λ i h. f (suc i) zero-le))
padded-front (suc m) (suc n) (a ∷ l) e f = ap (λ (k : List ℕ). a ∷ k) (padded-front m n l (omega arith) (λ i h. f (suc i) (suc-le-suc h)))
