-- `survey_code::checks::all_sound`. The invariant: the records passed are sound, so those that are left decide.
use Rattle.survey.proofs.Records.{Judging}
use Rattle.survey_code.proofs.checks.all_sound.Given as goal

abbrev pub invariant-loop-i : goal.invariant-loop-i
invariant-loop-i l = Judging l.corners l.i
