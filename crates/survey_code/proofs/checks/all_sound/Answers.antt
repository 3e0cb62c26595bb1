use mathlib.Core.Path.{sym, ap, ◌∙◌}
use Rattle.survey.specs.Records.{sound_record}
use Rattle.survey.proofs.Records.{judging-none, judging-more, judging-not}
use Rattle.survey_code.proofs.checks.all_sound.Goals as goal

pub loop-i-init : goal.loop-i-init
loop-i-init c = judging-none _

pub returns-then-not-is_sound : goal.returns-then-not-is_sound
returns-then-not-is_sound c = judging-not _ c.loop-i.i c.loop-i.invariant c.loop-i-test.true (ap sound_record (sym c.record_at.ensures) ∙ sym c.is_sound.ensures ∙ c.if-not-is_sound.true)

pub loop-i-preserved : goal.loop-i-preserved
loop-i-preserved c = judging-more _ c.loop-i.i c.loop-i.invariant c.loop-i-test.true (ap sound_record (sym c.record_at.ensures) ∙ sym c.is_sound.ensures ∙ c.if-not-is_sound.false)
