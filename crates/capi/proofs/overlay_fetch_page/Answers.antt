-- `capi::overlay_fetch_page`: the page from the ticket in the cells, laid out.
use mathlib.Core.Path.{ap, ◌∙◌}
use mathlib.Core.Option.{none}
use Rattle.paging.specs.declared.Ticket.{Ticket}
use Rattle.paging.specs.Calls.{page_cause, page_call, page_table, page_counter}
use Rattle.c_cells.specs.Cells.{shape_of, page_cells, ticket_after}
use Rattle.capi.proofs.overlay_fetch_page.Goals as goal

pub returns : goal.returns
returns c =
    let s = shape_of c.args.k c.args.sizes.now c.args.margins.now in
    let from = c.ticket_in-from.ensures in
    let page = c.fetch_page-page.ensures.answer ∙ ap (λ (t : Ticket). page_call none s c.args.cells.now c.args.order.now t c.args.counter.now c.args.budget c.args.table.now) from in (
      c.stop_number.ensures ∙ (c.fetch_page-page.ensures.number ∙ ap (λ (t : Ticket). page_cause none s c.args.cells.now c.args.order.now t c.args.counter.now) from),
      c.page_cells.ensures ∙ ap page_cells page,
      c.ticket_after.ensures ∙ ap (ticket_after c.args.ticket.now) page,
      c.fetch_page-page.ensures.counter ∙ ap (λ (t : Ticket). page_counter none s c.args.cells.now c.args.order.now t c.args.counter.now c.args.budget c.args.table.now) from,
      c.fetch_page-page.ensures.table ∙ ap (λ (t : Ticket). page_table none s c.args.cells.now c.args.order.now t c.args.counter.now c.args.budget c.args.table.now) from,
    )
