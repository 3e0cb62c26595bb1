-- `plan_code::checks::count_of`: six sizes of 32 bits.
use native.Mathlib.Omega.{arith}
use borrow.Author.Rules.{rules}
use Prim.Native.Nat.{ℕ, ◌≤◌}
use lib.ListN.{get_or}
use mir.Syntax.{w32}
use mir.Val.{Fits}
use Rattle.plan.proofs.Plan.{sum-most}
use Rattle.plan_code.proofs.checks.count_of.Goals as goal

pub returns : goal.returns
returns c =
    let small : (j : ℕ) → get_or c.args.shape.sizes j 0 ≤ 4294967295 = λ j. let f : Fits w32 (get_or c.args.shape.sizes j 0) = search rules in omega arith in
    (c.sum_of.ensures, omega (arith, c.sum_of.ensures, sum-most c.args.shape.sizes small))
