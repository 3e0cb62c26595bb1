-- `runner::counting::ground_of`: by layers or by rows.
use mathlib.Core.Path.{◌≡◌, ap, ◌∙◌}
use Prim.Native.Nat.{◌+◌, ◌*◌, ◌≤◌}
use native.Mathlib.Nat.{mul-le-mul_right}
use native.Mathlib.Omega.{arith}
use lib.ListN.{length}
use Rattle.plan.specs.Plan.{count}
use Rattle.plan.proofs.Plan.{sum-small}
use Rattle.sweep.proofs.Sweep.{sweep-is}
use Rattle.runner.proofs.Grounds.{rows-by, layers-by}
use Rattle.runner.proofs.counting.ground_of.Goals as goal

pub by_rows-requires : goal.by_rows-requires
by_rows-requires c = (rows-by c.requires.rows.0, c.requires.rows.1)

pub by_rows-requires-then-rows-n : goal.by_rows-requires-then-rows-n
by_rows-requires-then-rows-n c = (rows-by c.requires.rows.0, c.requires.rows.1)

pub overflow_mul-walk : goal.overflow_mul-walk
overflow_mul-walk c =
    let long : (length c.args.walk.now.order.now ≡ count c.args.walk.now.cells.now) × (length c.args.walk.now.order.now ≤ 3072) = let f = c.requires.swept.framing.plan in
    let e = ap length c.requires.swept.ordered ∙ (sweep-is c.args.walk.now.cells.now).long in
    (e, omega (arith, e, f.whole, f.few, sum-small f.small)) in
    let f = c.requires.swept.framing in
    record { fits = omega (arith, mul-le-mul_right (2 * length c.args.walk.now.order.now + 1) f.few, long.1) }

pub by_rows-requires-then-work-walk : goal.by_rows-requires-then-work-walk
by_rows-requires-then-work-walk c = (rows-by c.requires.rows.0, c.requires.rows.1)

pub union_of_layers-requires : goal.union_of_layers-requires
union_of_layers-requires c =
    let long : (length c.args.walk.now.order.now ≡ count c.args.walk.now.cells.now) × (length c.args.walk.now.order.now ≤ 3072) = let f = c.requires.swept.framing.plan in
    let e = ap length c.requires.swept.ordered ∙ (sweep-is c.args.walk.now.cells.now).long in
    (e, omega (arith, e, f.whole, f.few, sum-small f.small)) in
    let w = c.requires.swept in
    (c.requires.swept.ordered, rw long.0 at c.if-work-walk.false)

pub returns : goal.returns
returns c = c.union_of_layers.ensures ∙ layers-by _ c.args.walk.now.frame c.args.shape.sizes c.args.shape.k c.args.walk.now.cells.now c.args.walk.now.order.now c.args.table.now c.args.rows c.requires.rows.0 c.requires.swept c.if-walk.false
