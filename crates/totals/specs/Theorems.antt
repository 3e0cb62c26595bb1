-- Theorem: what a total says, and how it is kept. Proved in proofs/Theorems.antt.
use Rattle.std.specs.Prelude.{◌≡◌, ℕ, ◌+◌, ◌*◌, ◌<◌}
use Rattle.totals.specs.declared.Total.{Total}
use Rattle.totals.specs.Totals.{total_of, value_of}

-- 02, Q-13: "every area sum and the union are kept as whole square metres and a rest below 1,000,000 square millimetres"
pub record Totals : Type 0 where
  -- a total says its metres, of 1,000,000 square millimetres each, and its rest
  pub value : (t : Total) → value_of t ≡ t.metres * 1000000 + t.rest
  -- that of a sum says what it was made of, with a rest below a metre, so its metres are the whole ones ...
  pub says : (n : ℕ) → value_of (total_of n) ≡ n
  pub rest : (n : ℕ) → (total_of n).rest < 1000000
  -- ... and no other total with such a rest says as much
  pub only : (t : Total) (n : ℕ) → t.rest < 1000000 → value_of t ≡ n → t ≡ total_of n
