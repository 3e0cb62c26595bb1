use Rattle.asking_runs_code.proofs.Loops.{going-all, next-listable, next-listed}
use Rattle.asking_runs_code.proofs.every.list_all.Goals as goal

pub list_with-listed-requires : goal.list_with-listed-requires
list_with-listed-requires c =
    let i = c.loop-i.invariant in
    let h = c.loop-i-test.true in
    let p = c.requires.sound in
    record {
      sound = (p.0, h, i.1);
      listable = next-listable _ _ _ _ _ _ _ _ _ _ i.0 h c.requires.listable;
    }

pub loop-i-preserved : goal.loop-i-preserved
loop-i-preserved c =
    let r = c.list_with-listed.ensures in
    (next-listed _ _ _ _ _ _ _ _ _ _ c.loop-i.invariant.0 c.loop-i-test.true _ _ r.0, r.1)

pub returns : goal.returns
returns c = going-all _ _ _ _ _ _ _ _ _ _ c.loop-i.invariant.0 c.loop-i-test.false
