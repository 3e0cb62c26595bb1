-- The answer for layers of a sound plan; no public contract cites it.
use Rattle.std.specs.Prelude.{List, cond, ℕ, ℤ, Option, Result, Ok, Err}
use Rattle.plan.specs.Plan.{layers_of}
use Rattle.join.specs.Join.{rects}
use Rattle.rows.specs.RowCall.{fits}
use Rattle.pairs.specs.declared.Pair.{Pair}
use Rattle.pairs.specs.PairCall.{first_pair}

-- 23, or the first pair, or that they share a point
unfoldable pub told : List ℕ → List ℤ → List ℕ → Result (Option Pair) ℕ
told sizes cells row = cond (fits sizes row) (Ok (first_pair 1 (rects (layers_of sizes cells) row))) (Err 23)
