-- `rows_code::take_in`: the lefts compare as numbers do.
use borrow.Author.Rules.{rules}
use mathlib.Core.Path.{refl, ◌∙◌}
use Rattle.geometry.proofs.Machine.{Fitting, read-lt}
use Rattle.rows.proofs.Grounds.{take-apart, take_more}
use Rattle.rows_code.proofs.take_in.Goals as goal

pub returns-in_err-common : goal.returns-in_err-common
returns-in_err-common c = c.from_residual.ensures ∙ take-apart _ _ _ _ c.in_err-common.ensures refl

pub returns-then-c-r : goal.returns-then-c-r
returns-then-c-r c =
    let fits-g : Fitting c.args.g.common = search rules in
    let fits-r : Fitting c.args.r = search rules in
    let e = read-lt fits-g.left fits-r.left c.if-c-r.true in
    take_more _ _ _ _ c.in_ok-common.ensures _ _ _ refl (rw e)

pub returns-else-c-r : goal.returns-else-c-r
returns-else-c-r c =
    let fits-g : Fitting c.args.g.common = search rules in
    let fits-r : Fitting c.args.r = search rules in
    let e = read-lt fits-g.left fits-r.left c.if-c-r.false in
    take_more _ _ _ _ c.in_ok-common.ensures _ _ _ refl (rw e)
