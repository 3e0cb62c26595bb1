use borrow.Author.Rules.{rules}
use native.Mathlib.Omega.{arith}
use mathlib.Core.Path.{◌≡◌, refl}
use lib.ListN.{length}
use lib.Seq.{map-set}
use Rattle.paging.specs.Answers.{stop_told, page_told}
use Rattle.rounds_code.proofs.Pages.{emptied-none, emptied-more, emptied-all}
use Rattle.rounds_code.proofs.serving.empty_pages.Goals as goal

pub loop-i-init : goal.loop-i-init
loop-i-init c = emptied-none _ _ _ refl

pub loop-i-preserved : goal.loop-i-preserved
loop-i-preserved c =
    let sixteen : length c.args.tickets ≡ 16 = search rules in
    rw (map-set page_told c.loop-i.pages c.loop-i.i c.empty_page.result)
    (emptied-more (stop_told c.args.stop) c.args.tickets _ _ sixteen c.loop-i.invariant (omega (arith, sixteen, c.loop-i-test.true)) _ _ c.empty_page.ensures)

pub returns : goal.returns
returns c =
    let sixteen : length c.args.tickets ≡ 16 = search rules in
    emptied-all (stop_told c.args.stop) c.args.tickets _ _ sixteen c.loop-i.invariant (omega (arith, sixteen, c.loop-i-test.false))
