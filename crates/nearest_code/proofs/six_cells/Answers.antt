-- `nearest_code::six_cells`: three cells of each entry.
use Rattle.std.specs.Prelude.{Ok}
use Rattle.nearest.specs.Nearest.{nearest_values}
use Rattle.nearest.proofs.Answers.{six-made}
use Rattle.nearest_code.proofs.six_cells.Goals as goal

pub returns : goal.returns
returns c =
    six-made (nearest_values (Ok c.args.layers)) _ _ _ _ _ _ c.entry_cells-a.ensures c.entry_cells-b.ensures c.entry_cells-c.ensures c.entry_cells-d.ensures c.entry_cells-e.ensures c.entry_cells-f.ensures
