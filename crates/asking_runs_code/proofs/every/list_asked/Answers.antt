-- `list_asked` lists nothing, or the rows of the two layers.
use Rattle.asking_runs_code.proofs.TwoPlans.{both_below}
use Rattle.asking_runs_code.proofs.Loops.{not-asked, asked-listable, asked-listed}
use Rattle.asking_runs_code.proofs.every.list_asked.Goals as goal

pub is_asked-requires : goal.is_asked-requires
is_asked-requires c =
    let p = c.requires.sound in
    both_below c.args.shape c.args.cells.now c.args.i c.args.j p.0 p.1 p.2

pub returns-then-not-is_asked : goal.returns-then-not-is_asked
returns-then-not-is_asked c = (not-asked c.args.shape c.args.cells.now c.args.layer c.args.i c.args.j c.args.out.now c.args.from c.is_asked.result c.is_asked.ensures c.if-not-is_asked.true-raw, c.requires.sound.3)

pub list_two-requires : goal.list_two-requires
list_two-requires c =
    let p = c.requires.sound in record {
      sound = (p.0, p.1, p.2, p.3);
      listable = asked-listable c.args.shape c.args.cells.now c.args.layer c.args.i c.args.j c.args.out.now c.args.from c.is_asked.result c.is_asked.ensures c.if-not-is_asked.false-raw c.requires.listable;
    }

pub returns : goal.returns
returns c = (asked-listed c.args.shape c.args.cells.now c.args.layer c.args.i c.args.j c.args.out.now c.args.from c.is_asked.result c.is_asked.ensures c.if-not-is_asked.false-raw _ _ c.list_two.ensures.0, c.list_two.ensures.1)
