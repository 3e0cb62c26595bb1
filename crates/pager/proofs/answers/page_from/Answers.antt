-- `pager::answers::page_from`: the page loop, told as a page.
use native.Mathlib.Nat.{le_refl}
use native.Mathlib.Omega.{arith}
use Prim.Native.Nat.{◌≤◌}
use Rattle.slots.proofs.Frames.{more}
use Rattle.pager.proofs.Answering.{room_fits, rows_few, done-few, page-answered}
use Rattle.pager.proofs.answers.page_from.Goals as goal

pub capacity_of-room-requires : goal.capacity_of-room-requires
capacity_of-room-requires c = omega (arith, more c.args.walk.now.framing)

pub go_far-p-requires : goal.go_far-p-requires
go_far-p-requires c =
    let r = room_fits c.args.walk.now.hours.now c.args.walk.now.framing c.args.table.now _ _ c.capacity_of-room.ensures (le_refl _) in record { framing = (c.requires.0, c.requires.1); k_in_bounds = (λ t. r.0, r.1, c.requires.3) }

pub overflow_cast-result : goal.overflow_cast-result
overflow_cast-result c = omega (arith, rows_few c.args.walk.now.frame c.args.walk.now.cells.now c.args.walk.now.hours.now c.args.walk.now.order.now c.args.walk.now.framing c.requires.0 c.args.start c.requires.1 c.args.budget c.args.table.now _ c.capacity_of-room.ensures _ _ c.go_far-p.ensures)

pub overflow_cast-result-2 : goal.overflow_cast-result-2
overflow_cast-result-2 c =
    let few : c.go_far-p.result.done ≤ c.args.budget = done-few c.args.walk.now.frame c.args.walk.now.cells.now c.args.walk.now.hours.now c.args.walk.now.order.now c.args.walk.now.framing c.requires.0 c.args.start c.requires.1 c.args.budget c.args.table.now _ c.capacity_of-room.ensures _ _ c.go_far-p.ensures in
    omega (arith, c.ranges.budget, few)

pub overflow_add-result : goal.overflow_add-result
overflow_add-result c =
    let few : c.go_far-p.result.done ≤ c.args.budget = done-few c.args.walk.now.frame c.args.walk.now.cells.now c.args.walk.now.hours.now c.args.walk.now.order.now c.args.walk.now.framing c.requires.0 c.args.start c.requires.1 c.args.budget c.args.table.now _ c.capacity_of-room.ensures _ _ c.go_far-p.ensures in
    omega (arith, c.ranges.budget, c.requires.2, few)

pub returns : goal.returns
returns c = page-answered c.args.walk.now.frame c.args.walk.now.cells.now c.args.walk.now.hours.now c.args.walk.now.order.now c.args.walk.now.framing c.requires.0 c.args.start c.requires.1 c.args.budget c.args.table.now _ c.capacity_of-room.ensures _ _ c.go_far-p.ensures c.args.count _ _ c.stop_at.ensures c.cursor_of-cursor.ensures
