-- `survey_code::fill::put_if_kept`: the four cells of a cover, or none.
use mathlib.Core.Path.{sym, ◌∙◌}
use Rattle.survey.proofs.Covers.{sound-near}
use Rattle.survey.proofs.Records.{room-kept, put-yes, put-no}
use Rattle.survey_code.proofs.fill.put_if_kept.Goals as goal

pub cover-requires : goal.cover-requires
cover-requires c = sound-near c.args.c c.requires.sound

pub put_rect-requires : goal.put_rect-requires
put_rect-requires c = room-kept c.args.across c.args.upward c.args.c _ _ c.requires (sym c.is_kept.ensures ∙ c.if-is_kept.true)

pub returns-then-is_kept : goal.returns-then-is_kept
returns-then-is_kept c = put-yes c.args.across c.args.upward c.args.c _ _ _ _ _ (sym c.is_kept.ensures ∙ c.if-is_kept.true) c.cover.ensures c.put_rect.ensures

pub returns : goal.returns
returns c = put-no c.args.across c.args.upward c.args.c _ _ (sym c.is_kept.ensures ∙ c.if-is_kept.false)
