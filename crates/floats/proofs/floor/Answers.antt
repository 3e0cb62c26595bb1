-- `floats::floor`: the parts of the value, with their sign.
use mathlib.Core.Path.{ap, ◌∙◌}
use mathlib.Core.Bool.{cond}
use lib.IntN.{pos, neg_ℤ}
use Prim.Native.Nat.{ℕ, ◌+◌, ◌≤◌}
use native.Mathlib.Omega.{arith}
use mir.Syntax.{w32}
use mir.ValLaws.{to_z-of_z}
use borrow.Author.Rules.{sfits_of}
use Rattle.floats.specs.Parts.{farthest}
use Rattle.floats.proofs.Patterns.{number-most, parts-bound, floor-told}
use Rattle.floats.proofs.floor.Goals as goal

pub overflow_add-c : goal.overflow_add-c
overflow_add-c c =
    let bound : c.taken_apart-c.result.whole ≤ farthest = parts-bound c.args.x _ _ _ c.taken_apart-c.ensures c.requires in
    omega (arith, bound, number-most _ _ c.from.ensures)

pub signed-requires : goal.signed-requires
signed-requires c =
    let bound : c.taken_apart-c.result.whole ≤ farthest = parts-bound c.args.x _ _ _ c.taken_apart-c.ensures c.requires in
    omega (arith, bound, number-most _ _ c.from.ensures)

pub returns : goal.returns
returns c =
    to_z-of_z w32 c.signed.result (sfits_of c.signed.type_inv)
    ∙ c.signed.ensures
    ∙ ap (λ (n : ℕ). cond c.taken_apart-c.result.below (neg_ℤ (pos (c.taken_apart-c.result.whole + n))) (pos (c.taken_apart-c.result.whole + n))) c.from.ensures
    ∙ floor-told c.args.x _ _ _ c.taken_apart-c.ensures
