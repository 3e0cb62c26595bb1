-- `put_part` copies the cells that stand behind the layers before it.
use native.Mathlib.Omega.{arith}
use mathlib.Core.Path.{sym}
use lib.Seq.{length-take-le}
use Rattle.asking_runs_code.proofs.Copies.{part-few, part_room, part-put}
use borrow.Author.Rules.{rules}
use Rattle.asking_runs_code.proofs.two.put_part.Goals as goal

pub slice_bounds-sum_of-end : goal.slice_bounds-sum_of-end
slice_bounds-sum_of-end c = sym (length-take-le c.args.i c.args.sizes.now (omega (arith, c.requires.layer_there.there)))

pub sum_of-start-requires : goal.sum_of-start-requires
sum_of-start-requires c = search (rules, part-few)

pub put_cells-requires : goal.put_cells-requires
put_cells-requires c = search (rules, part_room)

pub returns : goal.returns
returns c = search (rules, part-put)
