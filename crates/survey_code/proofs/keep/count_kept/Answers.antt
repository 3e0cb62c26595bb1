use Rattle.std.proofs.Common.{◌≡◌, Bool, true, false, cond, refl, ap, ◌∙◌}
use mir.Val.{bool_byte}
use Rattle.survey.specs.Records.{kept_by}
use Rattle.survey.proofs.Records.{counting-none, counting_more}
use Rattle.survey_code.proofs.keep.count_kept.Goals as goal

-- a test as a number
one_is : (b : Bool) → bool_byte b ≡ cond b 1 0
one_is true = refl
one_is false = refl

pub loop-i-init : goal.loop-i-init
loop-i-init c = counting-none _ _ _

pub loop-i-preserved : goal.loop-i-preserved
loop-i-preserved c = counting_more _ _ _ c.loop-i.k c.loop-i.i _ _ c.loop-i.invariant c.loop-i-test.true (c.is_kept.ensures ∙ ap (kept_by c.args.across c.args.upward) c.record_at.ensures) (c.from-k.ensures ∙ one_is _)
