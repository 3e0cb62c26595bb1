-- `survey_code::checks::sound_strip`: by the kind of strip.
use mathlib.Core.Path.{sym, ap, ◌∙◌}
use Rattle.survey.specs.Strips.{sound_strip}
use Rattle.survey_code.proofs.checks.sound_strip.Goals as goal

pub returns-in-Between : goal.returns-in-Between
returns-in-Between c = c.in_order.ensures ∙ sym (ap sound_strip c.in-Between.is)
