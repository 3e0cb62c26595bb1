use Rattle.asking_runs_code.proofs.Loops.{going-all, next-listable, next-listed}
use Rattle.asking_runs_code.proofs.every.list_with.Goals as goal

pub list_asked-listed-requires : goal.list_asked-listed-requires
list_asked-listed-requires c =
    let i = c.loop-j.invariant in
    let h = c.loop-j-test.true in
    let p = c.requires.sound in
    record {
      sound = (p.0, p.1, h, i.1);
      listable = next-listable _ _ _ _ _ _ _ _ _ _ i.0 h c.requires.listable;
    }

pub loop-j-preserved : goal.loop-j-preserved
loop-j-preserved c =
    let r = c.list_asked-listed.ensures in
    (next-listed _ _ _ _ _ _ _ _ _ _ c.loop-j.invariant.0 c.loop-j-test.true _ _ r.0, r.1)

pub returns : goal.returns
returns c = (going-all _ _ _ _ _ _ _ _ _ _ c.loop-j.invariant.0 c.loop-j-test.false, c.loop-j.invariant.1)
