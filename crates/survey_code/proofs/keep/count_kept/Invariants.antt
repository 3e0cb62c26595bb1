-- `survey_code::keep::count_kept`. The invariant: those counted and those kept of what is left are all.
use Rattle.survey.proofs.Records.{Counting}
use Rattle.survey_code.proofs.keep.count_kept.Given as goal

abbrev pub invariant-loop-i : goal.invariant-loop-i
invariant-loop-i l = Counting l.corners l.across l.upward l.k l.i
