use Rattle.survey.proofs.Records.{filling-none, filling-fits, filling-more}
use Rattle.survey_code.proofs.fill.put_kept.Goals as goal

pub loop-i-init : goal.loop-i-init
loop-i-init c = filling-none _ _ _ _

pub shape_of-cells : goal.shape_of-cells
shape_of-cells c = c.loop-i.invariant.left.long

pub put_if_kept-at-requires : goal.put_if_kept-at-requires
put_if_kept-at-requires c = filling-fits _ c.args.across c.args.upward _ _ c.loop-i.at c.loop-i.i c.loop-i.invariant c.loop-i-test.true c.requires _ c.record_at-c.ensures

pub loop-i-preserved : goal.loop-i-preserved
loop-i-preserved c = filling-more _ c.args.across c.args.upward _ _ c.loop-i.at c.loop-i.i c.loop-i.invariant c.loop-i-test.true _ _ _ c.record_at-c.ensures c.put_if_kept-at.ensures
