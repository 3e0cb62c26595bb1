-- `runner::counting::with_ground`: the ground of the rows in the table.
use mathlib.Core.Path.{refl}
use Rattle.std.specs.Prelude.{Ok}
use Rattle.runner.proofs.Grounds.{rows_of, ground-fits, ground-total, run-on-done}
use Rattle.runner.proofs.counting.with_ground.Goals as goal

pub ground_of-ground-requires : goal.ground_of-ground-requires
ground_of-ground-requires c =
    record {
      rows = (rows_of c.requires.listed.0 _ _ _ refl, c.requires.listed.1 _ _ _ refl);
      swept = c.requires.swept;
    }

pub add-requires : goal.add-requires
add-requires c = ground-fits _ _ _ c.nothing.ensures c.ground_of-ground.ensures

pub returns : goal.returns
returns c = run-on-done _ _ _ (Ok c.args.listing) c.args.table.now _ _ _ refl _ (ground-total _ _ _ c.nothing.ensures c.ground_of-ground.ensures _ c.add.ensures)
