-- `survey_code::checks::record_at`.
use Rattle.survey.specs.Records.{corners_at}
use borrow.Author.Rules.{rules}
use Rattle.survey_code.proofs.checks.record_at.Goals as goal

pub returns : goal.returns
unfolding corners_at
returns c = search rules
