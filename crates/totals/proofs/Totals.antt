-- Laws of totals: what they say, and how an area is added.
use mathlib.Core.Path.{◌≡◌}
use Prim.Native.Nat.{ℕ, ◌+◌, ◌*◌, ◌/◌, ◌%◌, ◌<◌}
use native.Mathlib.Omega.{arith}
use Rattle.totals.specs.declared.Total.{Total}
use Rattle.totals.specs.Totals.{metre, total_of, value_of, Kept}

-- a total says what it was made of
pub value-total : (n : ℕ) → value_of (total_of n) ≡ n
unfolding value_of total_of
value-total n = omega arith

-- metres and a rest that say n are those of n
pub made-total : (m r n : ℕ) → r < metre → m * metre + r ≡ n → record { metres = m; rest = r } ≡ total_of n
unfolding total_of
made-total m r n h e =
    let p : m ≡ n / metre = omega arith in
    let q : r ≡ n % metre = omega arith in
    λ i. record { metres = p i; rest = q i }

-- ---- one area more
module _ (t : Total) (area sum : ℕ) (is : sum ≡ t.rest + area) where
  -- which leaves the metres as they are
  pub more-rest : sum < metre → record { metres = t.metres; rest = sum } ≡ total_of (value_of t + area)
  unfolding value_of
  more-rest h = made-total t.metres sum (t.metres * metre + t.rest + area) h (omega arith)

  -- or carries into them
  pub more-metres : record { metres = t.metres + sum / metre; rest = sum % metre } ≡ total_of (value_of t + area)
  unfolding value_of
  more-metres = made-total (t.metres + sum / metre) (sum % metre) (t.metres * metre + t.rest + area) (omega arith) (omega arith)

-- a sum that is kept has room for more
pub kept-total : (t : Total) (n : ℕ) → t ≡ total_of n → n < 9223372036854775808000000 → Kept t
unfolding total_of
kept-total t n e h = rw e (record { rest = omega arith; metres = omega arith })
