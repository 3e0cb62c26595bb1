-- `survey_code::checks::is_sound`: the pairs, and then the cover decides.
use Rattle.std.proofs.Common.{sym, ap, ◌∙◌}
use Rattle.geometry.specs.Rectangles.{in_range}
use Rattle.survey.proofs.Covers.{across-not, upward-not, cover-decides}
use Rattle.survey_code.proofs.checks.is_sound.Goals as goal
use Rattle.survey_code.proofs.checks.is_sound.Goals.{then-spans, else-spans}

pub returns-then-spans-2 : goal.returns-then-spans-2
returns-then-spans-2 c = elim c.if-spans.branch [
  | then-spans w ↦
      c.in_range.ensures ∙ ap in_range c.cover.ensures
      ∙ cover-decides c.args.c (sym c.spans.ensures ∙ w.if-spans.true) (sym w.spans-then-spans.ensures ∙ sym w.value-is ∙ c.if-spans-2.true)
  | else-spans w ↦ cc
]

pub returns-else-spans-2 : goal.returns-else-spans-2
returns-else-spans-2 c = elim c.if-spans.branch [
  | then-spans w ↦ c.if-spans-2.false ∙ upward-not c.args.c (sym w.spans-then-spans.ensures ∙ sym w.value-is ∙ c.if-spans-2.false)
  | else-spans w ↦ c.if-spans-2.false ∙ across-not c.args.c (sym c.spans.ensures ∙ w.if-spans.false)
]
