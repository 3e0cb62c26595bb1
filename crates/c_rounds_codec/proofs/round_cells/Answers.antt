use Rattle.std.proofs.Common.{◌≡◌, length, ap, ◌∙◌, arith, refl, rules}
use mathlib.Core.List.{map}
use Rattle.paging.specs.Answers.{page_told}
use Rattle.c_cells.specs.Cells.{page_cells}
use Rattle.c_rounds.specs.RoundCells.{page_in, round_cells}
use Rattle.c_rounds.proofs.Puts.{filled_none, filled_more, filled-all, page-told}
use Rattle.c_rounds_codec.proofs.round_cells.Goals as goal

pub loop-i-init : goal.loop-i-init
loop-i-init c = filled_none _ _ _ _ refl

pub loop-i-preserved : goal.loop-i-preserved
loop-i-preserved c =
    let sixteen : length c.args.pages ≡ 16 = search rules in
    let told = map page_told c.args.pages in
    let i = c.loop-i.i in
    let h = c.loop-i-test.true in
    let e = c.copy_from_slice.ensures.after ∙ c.page_cells.ensures in
    filled_more 5 16 (λ t. page_cells (page_in told t)) c.loop-i.cells i c.loop-i.invariant _ (e ∙ ap page_cells (page-told c.args.pages i _ (omega (arith, sixteen)))) (ap length e) (omega (arith, c.loop-i.invariant.long))

pub returns : goal.returns
unfolding round_cells
returns c = filled-all 5 16 (λ t. page_cells (page_in (map page_told c.args.pages) t)) c.loop-i.cells c.loop-i.i (omega (arith, c.loop-i-test.false)) c.loop-i.invariant
