-- Whole square roots.
use Rattle.std.specs.Prelude.{cond, ℕ, zero, suc, ◌*◌, leb}

-- the greatest number up to m whose square is at most n
unfoldable pub root_up_to : (m n : ℕ) → ℕ
root_up_to zero n = 0
root_up_to (suc m) n = cond (leb (suc m * suc m) n) (suc m) (root_up_to m n)

-- the whole square root: the greatest number whose square is at most n (specs/Theorems.antt, `Rooted`)
unfoldable pub root : ℕ → ℕ
root n = root_up_to n n
