-- `survey_code::fill::put_kept`. The invariant: what is left to be put gives the whole.
use Rattle.survey.proofs.Records.{Filling}
use Rattle.survey_code.proofs.fill.put_kept.Given as goal

abbrev pub invariant-loop-i : goal.invariant-loop-i
invariant-loop-i l = Filling l.corners l.across l.upward l.initial.cells l.cells l.at l.i
