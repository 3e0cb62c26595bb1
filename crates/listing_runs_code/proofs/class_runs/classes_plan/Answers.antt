-- `classes_plan` makes the crossing report, and says it or its refusal.
use Rattle.std.proofs.Common.{refl}
use Rattle.outcomes.proofs.Outcomes.{told_same}
use Rattle.listing.proofs.Classes.{crossed, crossed-refused}
use Rattle.listing_runs_code.proofs.class_runs.classes_plan.Goals as goal

pub classes_told-requires : goal.classes_told-requires
classes_told-requires c = (crossed _ _ _ _ _ _ c.requires.0.0 c.requires.0.1 c.requires.1 c.in-Ok.ensures.answer c.in-Ok.ensures.table, c.requires.2)

pub returns-in-Err : goal.returns-in-Err
returns-in-Err c =
    told_same _ _ _ _ _ _ _ c.put_refusal.ensures
    (crossed-refused _ _ _ _ (crossed _ _ _ _ _ _ c.requires.0.0 c.requires.0.1 c.requires.1 c.in-Err.ensures.answer c.in-Err.ensures.table) _ refl)
