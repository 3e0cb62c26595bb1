-- Laws of whole square roots.
use mathlib.Core.Path.{◌≡◌, refl}
use mathlib.Core.Bool.{Bool, true, false, cond}
use mathlib.Core.Logic.{◌⊎◌, inl, inr}
use Prim.Native.Nat.{ℕ, zero, suc, ◌*◌, ◌≤◌, ◌<◌}
use native.Mathlib.Nat.{mul-le-mul, mul-le-mul_left}
use native.Mathlib.Omega.{arith}
use lib.Dec.{leb}
use borrow.Author.Tests.{leb-true, leb-false}
use Rattle.lists.proofs.Tests.{total}
use Rattle.asking.specs.Roots.{root_up_to, root}
use Rattle.asking.specs.Theorems.{Rooted}

-- the greatest up to m: its square is not above n, and the next one's is, or the next is past m
record UpTo (m n r : ℕ) : Type 0 where
  most : r * r ≤ n
  least : (r ≡ m) ⊎ (n < suc r * suc r)

up_to : (m n : ℕ) → UpTo m n (root_up_to m n)
unfolding root_up_to
up_to zero n = record { most = omega arith; least = inl refl }
up_to (suc m) n = go (leb (suc m * suc m) n) refl (up_to m n)
  where
    go : (t : Bool) → leb (suc m * suc m) n ≡ t → UpTo m n (root_up_to m n) → UpTo (suc m) n (cond t (suc m) (root_up_to m n))
    go true e u = record { most = leb-true (suc m * suc m) n e; least = inl refl }
    go false e u = record { most = u.most; least = inr (next u.least) }
      where
        next : (root_up_to m n ≡ m) ⊎ (n < suc (root_up_to m n) * suc (root_up_to m n)) → n < suc (root_up_to m n) * suc (root_up_to m n)
        next (inl q) = rw q (leb-false (suc m * suc m) n e)
        next (inr h) = h

-- a number is below the square of the next
below-square : (n : ℕ) → n < suc n * suc n
below-square n = omega (arith, mul-le-mul_left {m = 1} {n = suc n} (suc n) (omega arith))

pub rooted : (n : ℕ) → Rooted n
unfolding root
rooted n = go (up_to n n).least
  where
    go : (root_up_to n n ≡ n) ⊎ (n < suc (root_up_to n n) * suc (root_up_to n n)) → Rooted n
    go (inl e) = record { most = (up_to n n).most; least = rw e (below-square n) }
    go (inr h) = record { most = (up_to n n).most; least = h }

-- only one number is so
pub root_is : (n r : ℕ) → r * r ≤ n → n < suc r * suc r → r ≡ root n
root_is n r h l = go (total r (root n)) (total (root n) r)
  where
    above : (a b : ℕ) → a < b → n < suc a * suc a → b * b ≤ n → ⊥
    above a b q u v = omega (arith, mul-le-mul q q)

    go : (r ≤ root n) ⊎ (root n < r) → (root n ≤ r) ⊎ (r < root n) → r ≡ root n
    go (inl a) (inl b) = omega arith
    go (inr a) q = absurd (above (root n) r a (rooted n).least h)
    go (inl a) (inr b) = absurd (above r (root n) b l (rooted n).most)
