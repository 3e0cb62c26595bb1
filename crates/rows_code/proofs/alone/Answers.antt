-- `rows_code::alone`: a rectangle that holds a point meets itself.
use mathlib.Core.Path.{refl, ◌∙◌}
use Rattle.rows.proofs.Grounds.{alone-none, alone-some}
use Rattle.rows_code.proofs.alone.Goals as goal

pub returns-in_err-common : goal.returns-in_err-common
returns-in_err-common c = c.from_residual.ensures ∙ alone-none _ _ c.in_err-common.ensures refl

pub returns : goal.returns
returns c = alone-some _ _ c.in_ok-common.ensures _ _ refl
