use Rattle.std.proofs.Common.{◌≡◌, length, cond, ap, ◌∙◌, arith, refl, rules}
use lib.Dec.{leb}
use mathlib.Core.List.{map}
use Rattle.paging.specs.Answers.{PageValues, page_told}
use Rattle.c_cells.specs.Cells.{ticket_cells}
use Rattle.c_rounds.specs.RoundCells.{page_in, twelve_of}
use Rattle.c_rounds.proofs.Puts.{filled_none, filled_more, filled-all, page-told, twelve-after, after-refused, after-given}
use Rattle.c_rounds_codec.proofs.tickets_after.Goals as goal

pub returns-then-number-ne0 : goal.returns-then-number-ne0
returns-then-number-ne0 c = after-refused c.args.given.now c.args.m c.args.number (map page_told c.args.pages) c.if-number-ne0.true

pub loop-i-init : goal.loop-i-init
loop-i-init c = filled_none _ _ _ _ refl

pub loop-i-preserved : goal.loop-i-preserved
loop-i-preserved c =
    let sixteen : length c.args.pages ≡ 16 = search rules in
    let twelve : length c.twelve_after.result ≡ 12 = search rules in
    let i = c.loop-i.i in
    let h = c.loop-i-test.true in
    let d = page-told c.args.pages i _ (omega (arith, sixteen)) in
    let e = c.copy_from_slice.ensures.after in
    filled_more 12 16 (λ t. cond (leb t c.args.m) (ticket_cells (page_in (map page_told c.args.pages) t).ticket) (twelve_of c.args.given.now t)) c.loop-i.cells i c.loop-i.invariant _
    (e ∙ c.twelve_after.ensures ∙ twelve-after c.args.given.now c.args.m i _ (map page_told c.args.pages) (ap (λ (p : PageValues). p.ticket) d)) (ap length e ∙ twelve) (omega (arith, c.loop-i.invariant.long))

pub returns : goal.returns
returns c = after-given c.args.given.now c.args.m c.args.number (map page_told c.args.pages) c.if-number-ne0.false _ (filled-all 12 16 (λ t. cond (leb t c.args.m) (ticket_cells (page_in (map page_told c.args.pages) t).ticket) (twelve_of c.args.given.now t)) c.loop-i.cells c.loop-i.i (omega (arith, c.loop-i-test.false)) c.loop-i.invariant)
