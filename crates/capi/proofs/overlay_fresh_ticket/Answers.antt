-- `capi::overlay_fresh_ticket`: number, cells and counter are those of the answer.
use mathlib.Core.Path.{◌≡◌, refl, ap, ◌∙◌}
use Prim.Native.Nat.{ℕ}
use Rattle.std.specs.Prelude.{Option, Some, None, Result, Ok, Err}
use Rattle.plan.specs.declared.cause.Cause.{Cause}
use Rattle.plan.specs.Causes.{refusal, by_number}
use Rattle.paging.specs.declared.Ticket.{Ticket}
use Rattle.paging.specs.Answers.{FreshValues, fresh_told}
use Rattle.c_cells.specs.Cells.{ticket_cells}
use Rattle.capi.proofs.overlay_fresh_ticket.Goals as goal

-- the number of its refusal
number : (r : Result Ticket Cause) → refusal r ≡ (fresh_told r).number
number (Ok a) = refl
number (Err c) = refl

pub returns : goal.returns
returns c =
    let answer = c.fresh_ticket-fresh.ensures.answer in
    (c.number_of.ensures ∙ number _ ∙ ap (λ (a : FreshValues). a.number) answer, c.fresh_cells.ensures ∙ ap (λ (a : FreshValues). ticket_cells a.ticket) answer, c.fresh_ticket-fresh.ensures.counter)
