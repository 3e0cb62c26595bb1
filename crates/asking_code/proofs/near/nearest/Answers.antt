-- `nearest` reads the text, and tells of its plan or that it is refused.
use Rattle.std.proofs.Common.{refl}
use Rattle.plan.proofs.Causes.{number-above}
use Rattle.outcomes.proofs.Outcomes.{told_same}
use Rattle.asking_code.proofs.Texts.{read-refused, read-sound, read-inside, read_fits}
use Rattle.asking_code.proofs.Answers.{nearest-read}
use Rattle.asking_code.proofs.near.nearest.Goals as goal

pub returns-in-Err : goal.returns-in-Err
returns-in-Err c = told_same _ _ _ _ _ _ _ c.put_refusal.ensures (read-refused _ _ _ c.in-Err.ensures _ (number-above _))

pub slice_bounds-cells-end : goal.slice_bounds-cells-end
slice_bounds-cells-end c = read_fits _ _ _ c.in-Ok.ensures refl _ c.count_of-n.ensures.0

pub slice_bounds-tell_nearest-end : goal.slice_bounds-tell_nearest-end
slice_bounds-tell_nearest-end c = read-inside _ _ _ c.in-Ok.ensures refl _ c.count_of-n.ensures.0

pub tell_nearest-requires : goal.tell_nearest-requires
tell_nearest-requires c = (c.requires, read-sound _ _ _ c.in-Ok.ensures refl _ c.count_of-n.ensures.0)

pub returns-in-Ok : goal.returns-in-Ok
returns-in-Ok c = nearest-read _ _ _ c.in-Ok.ensures refl _ c.count_of-n.ensures.0 _ _ _ _ _ c.args.around c.tell_nearest.ensures
