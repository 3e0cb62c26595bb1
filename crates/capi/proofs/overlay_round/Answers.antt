-- `capi::overlay_round`: the round from the tickets in the cells, laid out.
use mathlib.Core.Path.{ap, ap₂, ◌∙◌}
use mathlib.Core.List.{List}
use Rattle.paging.specs.declared.Ticket.{Ticket}
use Rattle.rounds.specs.Rounds.{RoundValues}
use Rattle.rounds.specs.Rounds.{Request, round_call, round_counters, round_table}
use Rattle.rounds.proofs.Theorems.{rounds-hold}
use Rattle.c_cells.specs.Cells.{shape_of}
use Rattle.c_rounds.specs.RoundCells.{tickets_in, round_cells, tickets_after}
use Rattle.capi.proofs.overlay_round.Goals as goal

pub returns : goal.returns
returns c =
    let ask : List Ticket → Request = λ t. record {
      shape = shape_of c.args.k c.args.sizes.now c.args.margins.now;
      cells = c.args.cells.now;
      order = c.args.order.now;
      clients = c.args.m;
      first = c.args.first;
      budget = c.args.budget;
      tickets = t;
      counters = c.args.counters.now;
      table = c.args.table.now;
    } in
    let told = c.round-told.ensures in
    let from = c.tickets_in.ensures in
    let round = told.0 ∙ ap (λ (t : List Ticket). round_call (ask t)) from in
    let number = c.number_of-number.ensures ∙ ap (λ (r : RoundValues). r.number) round ∙ rounds-hold.number (ask (tickets_in c.args.tickets.now)) in (
      number,
      ap (λ (r : RoundValues). r.next) round,
      c.round_cells.ensures ∙ ap (λ (r : RoundValues). round_cells r.pages) round,
      c.tickets_after.ensures ∙ ap₂ (tickets_after c.args.tickets.now c.args.m) number (ap (λ (r : RoundValues). r.pages) round),
      told.1.0 ∙ ap (λ (t : List Ticket). round_counters (ask t)) from,
      told.1.1 ∙ ap (λ (t : List Ticket). round_table (ask t)) from,
    )
