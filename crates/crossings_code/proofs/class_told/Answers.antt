-- `crossings_code::class_told`: the ground of the row tells whether there is one.
use mathlib.Core.Path.{◌∙◌}
use Rattle.rows.proofs.Answers.{ground-some}
use Rattle.crossings.proofs.Answers.{told_none, told-class}
use Rattle.crossings_code.proofs.class_told.Goals as goal

pub row_class-requires : goal.row_class-requires
row_class-requires c = record { three = c.requires; row_value = (ground-some _ _ _ c.in_ok-ground_in.ensures).0 }

pub returns-in_err-ground_in : goal.returns-in_err-ground_in
returns-in_err-ground_in c = c.from_residual.ensures ∙ told_none _ _ c.in_err-ground_in.ensures

pub returns : goal.returns
returns c = told-class _ _ _ c.in_ok-ground_in.ensures _ c.row_class.ensures
