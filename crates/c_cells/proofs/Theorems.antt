-- Tickets go into cells and back, so lists of exported calls are lists of calls; cells that are no cursor are refused.
use mathlib.Core.Path.{◌≡◌, refl, sym, ap, ap₂, ◌∙◌, subst}
use mathlib.Core.List.{List, [], ◌∷◌, map, Memᴰ}
use mathlib.Core.Option.{Option}
use mathlib.Core.Bool.{Bool, true, false, cond}
use Prim.Native.Nat.{ℕ, zero, suc, ◌+◌, ◌*◌, ◌/◌, ◌%◌, ◌<◌}
use native.Mathlib.Omega.{arith}
use lib.IntN.{ℤ}
use lib.Dec.{eqb}
use lib.ListN.{length, get_or, drop}
use lib.Ieee.{Float, le}
use borrow.Author.Tests.{eqb-true}
use Rattle.lists.specs.Lists.{All, none_left, ◌and◌}
use Rattle.lists.proofs.Tests.{clash}
use Rattle.lists.proofs.Lists.{all-of-mem}
use Rattle.lists.proofs.Kept.{all_keep}
use Rattle.lists.proofs.Padding.{padded-long}
use Rattle.plan.specs.declared.Shape.{Shape}
use Rattle.plan.specs.Causes.{on_cause}
use Rattle.plan.specs.Plan.{sizes_of, Typed}
use Rattle.search.specs.Traversal.{Probe}
use Rattle.paging.specs.declared.Cursor.{Cursor}
use Rattle.paging.specs.Answers.{FreshValues}
use Rattle.paging.specs.Answers.{PageValues}
use Rattle.paging.specs.declared.Ticket.{Ticket}
use Rattle.paging.specs.Cursors.{due_cursor, ended_cursor}
use Rattle.paging.specs.Calls.{fresh_cause, fresh_call, fresh_counter, stop_number, refused_page, page_call}
use Rattle.paging.specs.Inner.{page_call_on}
use Rattle.paging.specs.Overlays.{Overlay, overlay, overlay_of}
use Rattle.paging.specs.Pages.{paged, page_of}
use Rattle.paging.specs.Theorems.{Call, overlay_at, cause, answer, Due, over, next, Good}
use Rattle.demands.specs.Theorems.{tickets_of, OneRun, PagingHolds, TicketsHold}
use Rattle.paging.proofs.Causes.{stop-none}
use Rattle.demands.proofs.Theorems.{demand3}
use Rattle.survey.specs.Theorems.{SoundStops}
use Rattle.c_cells.specs.Cells.{ticket_cells, no_cursor, cursor_in, ticket_in, ticket_after, strip_in}
use Rattle.c_cells.specs.Theorems.{CellRun, TicketsInCells, AnswersInCells, StripsInCells}
use Rattle.c_cells.proofs.Cells.{in-none}

-- ---- a ticket's cells
-- the flag is read back
flag-back : (ended : Bool) (layer place filled first second third fourth fifth tried : ℕ) (rest : List ℕ)
    → cursor_in (cond ended 1 0 ∷ layer ∷ place ∷ filled ∷ first ∷ second ∷ third ∷ fourth ∷ fifth ∷ tried ∷ rest)
    ≡ record { ended = ended; layer = layer; place = place; filled = filled; chosen = first ∷ second ∷ third ∷ fourth ∷ fifth ∷ []; next = tried }
flag-back true layer place filled first second third fourth fifth tried rest = refl
flag-back false layer place filled first second third fourth fifth tried rest = refl

ticket_is : (ended : Bool) (layer place filled first second third fourth fifth tried low high : ℕ) → low < 4294967296
    → let chosen = first ∷ second ∷ third ∷ fourth ∷ fifth ∷ [] in
    let l : List ℕ = cond ended 1 0 ∷ layer ∷ place ∷ filled ∷ first ∷ second ∷ third ∷ fourth ∷ fifth ∷ tried ∷ low ∷ high ∷ [] in
    let t : Ticket = record {
      cursor = record { ended = ended; layer = layer; place = place; filled = filled; chosen = chosen; next = tried };
      count = low + high * 4294967296;
    } in
    (ticket_cells t ≡ l) × (ticket_in l ≡ t)
ticket_is ended layer place filled first second third fourth fifth tried low high h =
    let m : (low + high * 4294967296) % 4294967296 ≡ low = omega arith in
    let d : (low + high * 4294967296) / 4294967296 ≡ high = omega arith in (
      ap₂ (λ (a b : ℕ). cond ended 1 0 ∷ layer ∷ place ∷ filled ∷ first ∷ second ∷ third ∷ fourth ∷ fifth ∷ tried ∷ a ∷ b ∷ []) m d,
      ap {B = Ticket} (λ c. record { cursor = c; count = low + high * 4294967296 })
          (flag-back ended layer place filled first second third fourth fifth tried (low ∷ high ∷ [])),
    )

-- a ticket with five chosen places is read from its cells
back_at : (ended : Bool) (layer place filled : ℕ) (chosen : List ℕ) (tried count : ℕ) → length chosen ≡ 5
    → let t : Ticket = record { cursor = record { ended = ended; layer = layer; place = place; filled = filled; chosen = chosen; next = tried }; count = count } in
    ticket_in (ticket_cells t) ≡ t
back_at ended layer place filled [] tried count h = absurd (omega arith)
back_at ended layer place filled (a ∷ []) tried count h = absurd (omega arith)
back_at ended layer place filled (a ∷ b ∷ []) tried count h = absurd (omega arith)
back_at ended layer place filled (a ∷ b ∷ c ∷ []) tried count h = absurd (omega arith)
back_at ended layer place filled (a ∷ b ∷ c ∷ d ∷ []) tried count h = absurd (omega arith)
back_at ended layer place filled (a ∷ b ∷ c ∷ d ∷ e ∷ f ∷ l) tried count h = absurd (omega arith)
back_at ended layer place filled (a ∷ b ∷ c ∷ d ∷ e ∷ []) tried count h =
    let r = ticket_is ended layer place filled a b c d e tried (count % 4294967296) (count / 4294967296) (omega arith) in
    let n : count % 4294967296 + count / 4294967296 * 4294967296 ≡ count = omega arith in
    subst
    (λ (m : ℕ). let t : Ticket = record { cursor = record { ended = ended; layer = layer; place = place; filled = filled; chosen = a ∷ b ∷ c ∷ d ∷ e ∷ []; next = tried }; count = m } in ticket_in (ticket_cells t) ≡ t)
    n (ap ticket_in r.0 ∙ r.1)

ticket-back : (t : Ticket) → length t.cursor.chosen ≡ 5 → ticket_in (ticket_cells t) ≡ t
ticket-back t h = let c = t.cursor in back_at c.ended c.layer c.place c.filled c.chosen c.next t.count h

-- the cursor of what is due has five chosen places
due-five : {S : Type 0} (ns : List ℕ) (w : List (Probe S)) → length (due_cursor ns w).chosen ≡ 5
due-five ns [] = refl
due-five ns (t ∷ w) = padded-long 5 t.chosen

pub fresh-back : (s : Shape) (cells : List ℤ) (order counter : List ℕ) → ticket_in (ticket_cells (fresh_call s cells order counter).ticket) ≡ (fresh_call s cells order counter).ticket
unfolding fresh_call
fresh-back s cells order counter = go (fresh_cause s cells order counter)
  where
    go : (n : ℕ) → let f = on_cause {A = FreshValues} n (record { number = 0; ticket = record { cursor = due_cursor (sizes_of s) (overlay s cells).walk; count = 0 } }) (λ m. record { number = m; ticket = record { cursor = ended_cursor; count = 0 } }) in ticket_in (ticket_cells f.ticket) ≡ f.ticket
    go zero = ticket-back _ (due-five (sizes_of s) (overlay s cells).walk)
    go (suc n) = refl

chosen-next : (given : List ℕ) (n : ℕ) (p : PageValues) → stop_number p.stop ≡ 0 → ticket_in (ticket_cells p.ticket) ≡ p.ticket → let q = on_cause n p (refused_page (ticket_in given)) in ticket_in (ticket_after given q) ≡ q.ticket
chosen-next given zero p e b = ap (λ (m : ℕ). ticket_in (on_cause m (ticket_cells p.ticket) (λ i. given))) e ∙ b
chosen-next given (suc n) p e b = refl

next-in : {S : Type 0} (o : Overlay S) (cause : ℕ) (given : List ℕ) (budget : ℕ) (table : List ℕ) → let p = page_call_on o cause (ticket_in given) budget table in ticket_in (ticket_after given p) ≡ p.ticket
next-in o cause given budget table =
    let p = paged o (cursor_in given) budget table in
    chosen-next given cause (page_of o (ticket_in given).count p) (stop-none o (cursor_in given) budget table) (ticket-back _ (due-five o.sizes p.rest))

-- the ticket that is read from the cells behind a call is the one that it returned
pub next-is : (x : Call) (given : List ℕ) → x.ticket ≡ ticket_in given → ticket_in (ticket_after given (answer x)) ≡ (answer x).ticket
unfolding page_call
next-is x given k =
    let o = overlay_at x in
    subst (λ (t : Ticket). let p = page_call_on o (cause x) t x.budget x.table in ticket_in (ticket_after given p) ≡ p.ticket) (sym k) (next-in o (cause x) given x.budget x.table)

-- an accepted call leaves the cells of its ticket, which is read from them
module _ {S : Type 0} (o : Overlay S) (t : Ticket) (budget : ℕ) (table : List ℕ) where
  left_in : (c : ℕ) (given : List ℕ) → c ≡ 0 → let p = page_call_on o c t budget table in ticket_after given p ≡ ticket_cells p.ticket
  left_in zero given e =
      let p = page_of o t.count (paged o t.cursor budget table) in
      ap (λ (m : ℕ). on_cause m (ticket_cells p.ticket) (λ i. given)) (stop-none o t.cursor budget table)
  left_in (suc c) given e = absurd (omega arith)

  back_in : (c : ℕ) → c ≡ 0 → let p = page_call_on o c t budget table in ticket_in (ticket_cells p.ticket) ≡ p.ticket
  back_in zero e = ticket-back _ (due-five o.sizes (paged o t.cursor budget table).rest)
  back_in (suc c) e = absurd (omega arith)

left_is : (x : Call) (given : List ℕ) → cause x ≡ 0 → ticket_after given (answer x) ≡ ticket_cells (answer x).ticket
unfolding page_call
left_is x given e = left_in (overlay_at x) x.ticket x.budget x.table (cause x) given e

kept_in : {S : Type 0} (o : Overlay S) (t : Ticket) (budget : ℕ) (table given : List ℕ) (c n : ℕ) → c ≡ suc n → ticket_after given (page_call_on o c t budget table) ≡ given
kept_in o t budget table given zero n e = absurd (omega arith)
kept_in o t budget table given (suc c) n e = refl

kept-is : (x : Call) (given : List ℕ) (n : ℕ) → cause x ≡ suc n → ticket_after given (answer x) ≡ given
unfolding page_call
kept-is x given n e = kept_in (overlay_at x) x.ticket x.budget x.table given (cause x) n e

answer_back : (x : Call) → cause x ≡ 0 → ticket_in (ticket_cells (answer x).ticket) ≡ (answer x).ticket
unfolding page_call
answer_back x e = back_in (overlay_at x) x.ticket x.budget x.table (cause x) e

-- the cursor that stands for none is not good
none-good : {S : Type 0} (ns : List ℕ) (c : Cursor) (w : List (Probe S)) → c ≡ no_cursor → Due ns c w → ⊥
none-good ns c w e over = let z = ap (λ (a : Cursor). a.layer) e in omega arith
none-good ns c w e (next h) = clash (ap (λ (a : Cursor). a.ended) e) h.going

none-refused : (x : Call) (given : List ℕ) → x.ticket ≡ ticket_in given → 1 < get_or given 0 0 → Good (overlay_at x) x.ticket.cursor → ⊥
none-refused x given k high g =
    let o = overlay_at x in
    none-good o.sizes x.ticket.cursor (drop g.0 o.walk) (ap (λ (t : Ticket). t.cursor) k ∙ sym (in-none given high)) g.1

-- ---- lists of exported calls
-- the tickets of accepted calls are read from their cells
answers-back : {xs : List Call} → All (λ x. (x ≡ x) × (eqb (cause x) 0 ≡ true)) xs
    → map ticket_in (map ticket_cells (map (λ x. (answer x).ticket) xs)) ≡ map (λ x. (answer x).ticket) xs
answers-back none_left = refl
answers-back (◌and◌ {a = x} h hs) = ap₂ (λ (u : Ticket) (l : List Ticket). u ∷ l) (answer_back x (eqb-true (cause x) 0 h.1)) (answers-back hs)

module _ (windows : Option (List ℕ)) (s : Shape) (cells : List ℤ) where
  -- they are lists of calls
  one-run : (t : Ticket) (counter : List ℕ) (xs : List Call) → ticket_in (ticket_cells t) ≡ t → CellRun windows s cells t counter xs → OneRun windows s cells t counter xs
  one-run t counter xs b h ys x zs e a =
      let g = h ys x zs e a in
      let k : map ticket_in (map ticket_cells (tickets_of t ys)) ≡ tickets_of t ys =
      ap₂ (λ (u : Ticket) (l : List Ticket). u ∷ l) b (answers-back (all_keep (λ y. eqb (cause y) 0) (all-of-mem ys (λ y m. refl)))) in
      (g.0, g.1, g.2, (subst (Memᴰ x.ticket) k g.3.0, g.3.1))

  cell-paging : (order counter : List ℕ) (xs : List Call) → Typed s → fresh_cause s cells order counter ≡ 0
      → let t = (fresh_call s cells order counter).ticket in let begun = fresh_counter s cells order counter in
      CellRun windows s cells t begun xs → PagingHolds (overlay_of windows s cells) xs × TicketsHold t begun xs
  cell-paging order counter xs typed f h =
      let t = (fresh_call s cells order counter).ticket in
      (demand3.calls windows s cells order counter [] 0).paging xs typed f (one-run t (fresh_counter s cells order counter) xs (fresh-back s cells order counter) h)

pub tickets-in-cells : TicketsInCells
tickets-in-cells = record { ticket = ticket_is; refused = none-refused; left = left_is; kept = kept-is; paging = cell-paging }

-- ---- strips
-- a kind above 3 has no good stops
no-stops : (kind : ℕ) (lower upper : Float) → 3 < kind → SoundStops (strip_in kind lower upper) → ⊥
unfolding le
no-stops zero lower upper h s = omega arith
no-stops (suc zero) lower upper h s = omega arith
no-stops (suc (suc zero)) lower upper h s = omega arith
no-stops (suc (suc (suc zero))) lower upper h s = omega arith
no-stops (suc (suc (suc (suc kind)))) lower upper h s = s.order

pub strips-in-cells : StripsInCells
strips-in-cells = record {
  kinds = λ lower upper. (refl, refl, refl, refl);
  stops = λ j k left right bottom top. (refl, refl);
  none = no-stops;
}

pub answers-in-cells : AnswersInCells
answers-in-cells = record {
  shape = λ k sizes margins. refl;
  page = λ p. refl;
  stops = (refl, refl, refl, λ cause. refl);
  run = λ v. refl;
  row = λ v. refl;
  common = λ v. refl;
  pair = λ v. refl;
  hours = λ v. refl;
}
