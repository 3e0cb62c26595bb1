-- `survey_code::keep::is_kept`: one axis, then the other.
use Rattle.std.proofs.Common.{sym, ◌∙◌}
use Rattle.survey.specs.Records.{kept_by}
use Rattle.survey_code.proofs.keep.is_kept.Goals as goal

pub returns-then-meets_strip : goal.returns-then-meets_strip
unfolding kept_by
returns-then-meets_strip c = let e = sym c.meets_strip.ensures ∙ c.if-meets_strip.true in rw e c.meets_strip-then-meets_strip.ensures

pub returns-else-meets_strip : goal.returns-else-meets_strip
unfolding kept_by
returns-else-meets_strip c = let e = sym c.meets_strip.ensures ∙ c.if-meets_strip.false in rw e c.if-meets_strip.false
