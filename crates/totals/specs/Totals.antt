-- Sums of areas (01: "the sum of its rows' areas", "the area sum"). 02, Q-13: "every area sum and the union are kept as whole square metres and a rest below
-- 1,000,000 square millimetres"
use Rattle.std.specs.Prelude.{ℕ, ◌+◌, ◌*◌, ◌/◌, ◌%◌, ◌<◌}
use Rattle.totals.specs.declared.Total.{Total}

-- the square millimetres of a square metre
abbrev pub metre : ℕ
metre = 1000000

-- the total that says n square millimetres
unfoldable pub total_of : ℕ → Total
total_of n = record { metres = n / metre; rest = n % metre }

-- the square millimetres that a total says
unfoldable pub value_of : Total → ℕ
value_of t = t.metres * metre + t.rest

-- a total as sums keep it: its rest is below a square metre, and there is room for more metres. No public contract cites it. Its bound, 2^63, is half of what
-- 64 bits take; sums stay far below: 1,000,000 rows of at most 404,010,000 square metres each
pub record Kept (t : Total) : Type 0 where
  pub rest : t.rest < metre
  pub metres : t.metres < 9223372036854775808
