-- `c_codec::ticket_cells`: only the flag and the count are not the cells themselves.
use mathlib.Core.Path.{◌≡◌, sym, ap, ap₂, ◌∙◌}
use mathlib.Core.List.{List, [], ◌∷◌, ◌++◌, append_assoc}
use mathlib.Core.Bool.{cond}
use Prim.Native.Nat.{ℕ, ◌/◌, ◌%◌}
use lib.ListN.{get_or}
use mir.Val.{bool_byte}
use borrow.Author.Rules.{rules}
use Rattle.lists.specs.Lists.{padded}
use Rattle.lists.proofs.Tests.{as_number}
use Rattle.paging.specs.declared.Ticket.{Ticket}
use Rattle.c_cells.specs.Cells.{ticket_cells}
use Rattle.c_cells.proofs.Cells.{five-cells}
use Rattle.c_codec.proofs.ticket_cells.Goals as goal

-- a ticket's cells as they are made
made : (t : Ticket) → let c = t.cursor in let p = c.chosen in
    bool_byte c.ended ∷ c.layer ∷ c.place ∷ c.filled ∷ get_or p 0 0 ∷ get_or p 1 0 ∷ get_or p 2 0 ∷ get_or p 3 0 ∷ get_or p 4 0 ∷ c.next ∷ t.count % 4294967296 ∷ t.count / 4294967296 ∷ []
    ≡ ticket_cells t
made t =
    let c = t.cursor in
    let last = t.count % 4294967296 ∷ t.count / 4294967296 ∷ [] in
    ap₂ (λ (n : ℕ) (l : List ℕ). n ∷ c.layer ∷ c.place ∷ c.filled ∷ (l ++ (c.next ∷ last))) (as_number c.ended) (five-cells c.chosen)
    ∙ ap (λ (l : List ℕ). cond {A = ℕ} c.ended 1 0 ∷ c.layer ∷ c.place ∷ c.filled ∷ l) (sym (append_assoc (padded 5 c.chosen) (c.next ∷ []) last))

pub returns : goal.returns
returns c = made c.args.ticket
