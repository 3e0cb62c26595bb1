use borrow.Author.Rules.{rules}
use mathlib.Core.Path.{◌≡◌, ◌∙◌}
use Prim.Native.Nat.{◌+◌, ◌-◌, ◌*◌, ◌≤◌}
use native.Mathlib.Omega.{arith}
use lib.ListN.{length}
use lib.Seq.{map-set}
use Rattle.paging.specs.Answers.{page_told}
use Rattle.slots.proofs.Frames.{more}
use Rattle.rounds_code.proofs.Loop.{going-none, going_more, going-all, due-from, due-to, due-inside, probes-left}
use Rattle.rounds_code.proofs.serving.serve_all.Goals as goal

pub part_size-size-requires : goal.part_size-size-requires
part_size-size-requires c = (omega (arith, more c.args.walk.now.framing), c.args.walk.now.framing.few, omega (arith, c.requires.m_bound), c.requires.m_bound.0)

pub loop-i-init : goal.loop-i-init
loop-i-init c =
    let sixteen : length c.args.tickets ≡ 16 = search rules in
    let p = c.requires.m_bound in
    going-none c.args.walk.now.frame c.args.walk.now.cells.now c.args.walk.now.order.now c.args.m c.args.first c.args.budget c.args.tickets c.args.counters.now c.args.table.now _ p.1 p.2 p.0 p.3 sixteen c.part_size-size.ensures _ c.empty_pages-pages.ensures

pub overflow_sub-at : goal.overflow_sub-at
overflow_sub-at c =
    let sixteen : length c.args.tickets ≡ 16 = search rules in
    let low : 1 ≤ c.loop-i.client = let p = c.requires.m_bound in
    due-from c.args.walk.now.frame c.args.walk.now.cells.now c.args.walk.now.order.now c.args.m c.args.first c.args.budget c.args.tickets c.args.counters.now c.args.table.now _ p.1 p.2 p.0 p.3 sixteen c.part_size-size.ensures _ _ _ _ _ _ c.loop-i.invariant c.loop-i-test.true in
    low

pub overflow_cast-at : goal.overflow_cast-at
overflow_cast-at c =
    let sixteen : length c.args.tickets ≡ 16 = search rules in
    let high : c.loop-i.client ≤ c.args.m = let p = c.requires.m_bound in
    due-to c.args.walk.now.frame c.args.walk.now.cells.now c.args.walk.now.order.now c.args.m c.args.first c.args.budget c.args.tickets c.args.counters.now c.args.table.now _ p.1 p.2 p.0 p.3 sixteen c.part_size-size.ensures _ _ _ _ _ _ c.loop-i.invariant c.loop-i-test.true in
    omega (arith, high)

pub serve_one-page-requires : goal.serve_one-page-requires
serve_one-page-requires c =
    let sixteen : length c.args.tickets ≡ 16 = search rules in
    let low : 1 ≤ c.loop-i.client = let p = c.requires.m_bound in
    due-from c.args.walk.now.frame c.args.walk.now.cells.now c.args.walk.now.order.now c.args.m c.args.first c.args.budget c.args.tickets c.args.counters.now c.args.table.now _ p.1 p.2 p.0 p.3 sixteen c.part_size-size.ensures _ _ _ _ _ _ c.loop-i.invariant c.loop-i-test.true in
    let high : c.loop-i.client ≤ c.args.m = let p = c.requires.m_bound in
    due-to c.args.walk.now.frame c.args.walk.now.cells.now c.args.walk.now.order.now c.args.m c.args.first c.args.budget c.args.tickets c.args.counters.now c.args.table.now _ p.1 p.2 p.0 p.3 sixteen c.part_size-size.ensures _ _ _ _ _ _ c.loop-i.invariant c.loop-i-test.true in
    let inside : (c.loop-i.client - 1) * c.part_size-size.result + c.part_size-size.result ≤ length c.loop-i.table = let p = c.requires.m_bound in
    due-inside c.args.walk.now.frame c.args.walk.now.cells.now c.args.walk.now.order.now c.args.m c.args.first c.args.budget c.args.tickets c.args.counters.now c.args.table.now _ p.1 p.2 p.0 p.3 sixteen c.part_size-size.ensures _ _ _ _ _ _ c.loop-i.invariant c.loop-i-test.true in
    record { framing = (c.requires.framing.0, c.requires.framing.1); at_bound = (omega (arith, low, high, c.requires.m_bound), omega (arith, low, high, c.loop-i.invariant.held-long), inside) }

pub overflow_sub-left : goal.overflow_sub-left
overflow_sub-left c =
    let sixteen : length c.args.tickets ≡ 16 = search rules in
    let p = c.requires.m_bound in
    probes-left c.args.walk.now.frame c.args.walk.now.cells.now c.args.walk.now.order.now c.args.m c.args.first c.args.budget c.args.tickets c.args.counters.now c.args.table.now _ p.1 p.2 p.0 p.3 sixteen c.part_size-size.ensures _ _ _ _ _ _ c.loop-i.invariant c.loop-i-test.true _ _ _ c.serve_one-page.ensures

pub offset_bounds-pages-at : goal.offset_bounds-pages-at
offset_bounds-pages-at c =
    let sixteen : length c.args.tickets ≡ 16 = search rules in
    let low : 1 ≤ c.loop-i.client = let p = c.requires.m_bound in
    due-from c.args.walk.now.frame c.args.walk.now.cells.now c.args.walk.now.order.now c.args.m c.args.first c.args.budget c.args.tickets c.args.counters.now c.args.table.now _ p.1 p.2 p.0 p.3 sixteen c.part_size-size.ensures _ _ _ _ _ _ c.loop-i.invariant c.loop-i-test.true in
    let high : c.loop-i.client ≤ c.args.m = let p = c.requires.m_bound in
    due-to c.args.walk.now.frame c.args.walk.now.cells.now c.args.walk.now.order.now c.args.m c.args.first c.args.budget c.args.tickets c.args.counters.now c.args.table.now _ p.1 p.2 p.0 p.3 sixteen c.part_size-size.ensures _ _ _ _ _ _ c.loop-i.invariant c.loop-i-test.true in
    omega (arith, low, high, c.requires.m_bound)

pub bounds-pages-at : goal.bounds-pages-at
bounds-pages-at c =
    let sixteen : length c.args.tickets ≡ 16 = search rules in
    let low : 1 ≤ c.loop-i.client = let p = c.requires.m_bound in
    due-from c.args.walk.now.frame c.args.walk.now.cells.now c.args.walk.now.order.now c.args.m c.args.first c.args.budget c.args.tickets c.args.counters.now c.args.table.now _ p.1 p.2 p.0 p.3 sixteen c.part_size-size.ensures _ _ _ _ _ _ c.loop-i.invariant c.loop-i-test.true in
    let high : c.loop-i.client ≤ c.args.m = let p = c.requires.m_bound in
    due-to c.args.walk.now.frame c.args.walk.now.cells.now c.args.walk.now.order.now c.args.m c.args.first c.args.budget c.args.tickets c.args.counters.now c.args.table.now _ p.1 p.2 p.0 p.3 sixteen c.part_size-size.ensures _ _ _ _ _ _ c.loop-i.invariant c.loop-i-test.true in
    omega (arith, low, high, c.requires.m_bound)

pub after_client-client-requires : goal.after_client-client-requires
after_client-client-requires c =
    let sixteen : length c.args.tickets ≡ 16 = search rules in
    let high : c.loop-i.client ≤ c.args.m = let p = c.requires.m_bound in
    due-to c.args.walk.now.frame c.args.walk.now.cells.now c.args.walk.now.order.now c.args.m c.args.first c.args.budget c.args.tickets c.args.counters.now c.args.table.now _ p.1 p.2 p.0 p.3 sixteen c.part_size-size.ensures _ _ _ _ _ _ c.loop-i.invariant c.loop-i-test.true in
    high

pub loop-i-preserved : goal.loop-i-preserved
loop-i-preserved c =
    let sixteen : length c.args.tickets ≡ 16 = search rules in
    let p = c.requires.m_bound in
    rw (map-set page_told c.loop-i.pages (c.loop-i.client - 1) c.serve_one-page.result)
    (going_more c.args.walk.now.frame c.args.walk.now.cells.now c.args.walk.now.order.now c.args.m c.args.first c.args.budget c.args.tickets c.args.counters.now c.args.table.now _ p.1 p.2 p.0 p.3 sixteen c.part_size-size.ensures _ _ _ _ _ _ c.loop-i.invariant c.loop-i-test.true _ _ _ c.serve_one-page.ensures c.args.walk.now.framing c.requires.framing.0 _ c.after_client-client.ensures (c.serve_one-page.auto.counters ∙ c.loop-i.invariant.held-long) (c.serve_one-page.auto.table ∙ c.loop-i.invariant.lent-long))

pub returns : goal.returns
returns c =
    let sixteen : length c.args.tickets ≡ 16 = search rules in
    let p = c.requires.m_bound in
    going-all c.args.walk.now.frame c.args.walk.now.cells.now c.args.walk.now.order.now c.args.m c.args.first c.args.budget c.args.tickets c.args.counters.now c.args.table.now _ p.1 p.2 p.0 p.3 sixteen c.part_size-size.ensures _ _ _ _ _ _ c.loop-i.invariant c.loop-i-test.false
