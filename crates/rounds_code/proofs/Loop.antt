-- The loop over the turns of a round.
use mathlib.Core.Path.{◌≡◌, refl, sym, ap, ◌∙◌, subst}
use mathlib.Core.List.{List, map}
use mathlib.Core.Option.{Option, none, some}
use mathlib.Core.Bool.{Bool, true, false}
use Prim.Native.Nat.{ℕ, zero, suc, ◌+◌, ◌-◌, ◌*◌, ◌/◌, ◌≤◌, ◌<◌}
use native.Mathlib.Nat.{le_trans, div-le_self}
use native.Mathlib.Omega.{arith}
use native.Mathlib.Numerals.{add-one}
use lib.IntN.{ℤ}
use lib.ListN.{length, set, length-set}
use Rattle.lists.specs.Lists.{list_in}
use Rattle.geometry.specs.declared.Rect.{Rect}
use Rattle.sweep.specs.Sweep.{sweep_order}
use Rattle.search.specs.Traversal.{Probe, row_of}
use Rattle.search.proofs.Paging.{page-budget}
use Rattle.search.specs.Stops.{Spent}
use Rattle.paging.specs.Answers.{PageValues}
use Rattle.paging.specs.declared.Ticket.{Ticket}
use Rattle.paging.specs.Overlays.{Overlay}
use Rattle.paging.specs.Cursors.{resume}
use Rattle.paging.specs.Pages.{room}
use Rattle.paging.specs.Calls.{current}
use Rattle.slots.specs.declared.Frame.{Frame}
use Rattle.slots.specs.Frames.{Framing}
use Rattle.pager.specs.Answers.{plain_overlay, Kept, PagedAt}
use Rattle.rounds.specs.Shares.{after, client_at}
use Rattle.rounds.specs.Rounds.{ticket_of, part_size}
use Rattle.rounds.proofs.Shares.{client-from, client-to}
use Rattle.rounds.proofs.Parts.{parts_within}
use Rattle.rounds_code.specs.Parts.{request, empty_page, OnPlans, OneServed, AllServed}
use Rattle.rounds_code.proofs.Turns.{map-long, Turned, turned_none, turned-all, turned_more}

-- no more is done than the budget
pub paged-few : (o : Overlay Rect) (t : Ticket) (counter : List ℕ) (budget : ℕ) (before : List ℕ) (r : PageValues) (counted after : List ℕ) → PagedAt o t counter budget before r counted after → r.probes ≤ budget
paged-few o t counter budget before r counted after p = go (resume o t.cursor) (current t.count counter) refl refl
  where
    kept : (n : ℕ) → Kept t n counter before r counted after → r.probes ≤ budget
    kept n k = let e = ap (λ (x : PageValues). x.probes) k.answer in omega arith

    go : (w : Option (List (Probe Rect))) (b : Bool) → resume o t.cursor ≡ w → current t.count counter ≡ b → r.probes ≤ budget
    go none b e c = kept 6 (p.lost e)
    go (some w) false e c = kept 18 (p.stale w e c)
    go (some w) true e c =
        let a = ap (λ (x : PageValues). x.probes) (p.found w e c).0.answer in
        omega (arith, page-budget row_of budget (room o before) (list_in (resume o t.cursor)))

module _ (f : Frame) (here : List ℤ) (order : List ℕ) (m first budget : ℕ) (tickets : List Ticket) (counters table : List ℕ) (size : ℕ) where
  -- behind i turns; `client` is due next
  pub record Going (held lent : List ℕ) (r : List PageValues) (client left i : ℕ) : Type 0 where
    pub few : i ≤ m
    pub due : client ≡ client_at m first i
    pub enough : left ≤ budget
    pub pages-long : length r ≡ 16
    pub held-long : length held ≡ m
    pub lent-long : length lent ≡ length table
    pub turned : OnPlans order here f (λ s plain. Turned (request s plain order m first budget tickets counters table) i r held lent left)

  module _ (from : 1 ≤ first) (to : first ≤ m) (most : m ≤ 16) (long : length counters ≡ m) (sixteen : length tickets ≡ 16) (parts : size ≡ f.k * (length table / (f.k * m))) where
    pub going-none : (r : List PageValues) → r ≡ map (empty_page Spent) tickets → Going counters table r first budget 0
    going-none r e = record {
      few = omega arith;
      due = refl;
      enough = omega arith;
      pages-long = ap length e ∙ map-long (empty_page Spent) tickets ∙ sixteen;
      held-long = long;
      lent-long = refl;
      turned = λ s plain k. rw e (turned_none (request s plain order m first budget tickets counters table) from to most long sixteen k.sound.typed);
    }

    pub going-all : (held lent : List ℕ) (r : List PageValues) (client left i : ℕ) → Going held lent r client left i → m ≤ i → OnPlans order here f (λ s plain. AllServed (request s plain order m first budget tickets counters table) r held lent)
    going-all held lent r client left i g h s plain k = turned-all (request s plain order m first budget tickets counters table) from to most long sixteen k.sound.typed i r held lent left (g.turned s plain k) h

    module _ (held lent : List ℕ) (r : List PageValues) (client left i : ℕ) (g : Going held lent r client left i) (h : i < m) where
      pub due-from : 1 ≤ client
      due-from = omega (arith, g.due, client-from m first from to i h)

      pub due-to : client ≤ m
      due-to = omega (arith, g.due, client-to m first from to i h)

      pub due-inside : (client - 1) * size + size ≤ length lent
      due-inside =
          let a : client * size ≤ length table = rw parts (parts_within f.k m (length table) client due-to) in
          omega (arith, g.lent-long, one_less client size due-from)
        where
          one_less : (t n : ℕ) → 1 ≤ t → (t - 1) * n + n ≡ t * n
          one_less zero n a = absurd (omega arith)
          one_less (suc t) n a = let z : suc t - 1 ≡ t = omega arith in rw z (omega arith)

      module _ (p : PageValues) (heldAfter lentAfter : List ℕ) (one : OneServed (plain_overlay f here) (ticket_of tickets (suc (client - 1))) (client - 1) size (left / (m - i)) held lent p heldAfter lentAfter) where
        pub probes-left : p.probes ≤ left
        probes-left = le_trans (paged-few _ _ _ _ _ p _ _ one.page) (div-le_self left (m - i))

        pub going_more : Framing f here → order ≡ sweep_order here → (next : ℕ) → next ≡ after m client → length heldAfter ≡ m → length lentAfter ≡ length table
            → Going heldAfter lentAfter (set r (client - 1) p) next (left - p.probes) (i + 1)
        going_more fr od next n b d = record {
          few = omega arith;
          due = n ∙ ap (after m) g.due ∙ ap (client_at m first) (sym (add-one i));
          enough = omega (arith, g.enough);
          pages-long = length-set r (client - 1) p ∙ g.pages-long;
          held-long = b;
          lent-long = d;
          turned = λ s plain k. again s plain k;
        }
          where
            again : OnPlans order here f (λ s plain. Turned (request s plain order m first budget tickets counters table) (i + 1) (set r (client - 1) p) heldAfter lentAfter (left - p.probes))
            again s plain k =
                let q = request s plain order m first budget tickets counters table in
                let e : size ≡ part_size q = parts ∙ ap (λ (x : ℕ). x * (length table / (x * m))) k.k in
                let sized = subst (λ (x : ℕ). OneServed (plain_overlay f here) (ticket_of tickets (suc (client - 1))) (client - 1) x (left / (m - i)) held lent p heldAfter lentAfter) e one in
                let o = subst (λ (x : ℕ). OneServed (plain_overlay f here) (ticket_of tickets (suc (x - 1))) (x - 1) (part_size q) (left / (m - i)) held lent p heldAfter lentAfter) g.due sized in
                subst (λ (x : ℕ). Turned q (i + 1) (set r (x - 1) p) heldAfter lentAfter (left - p.probes)) (sym g.due)
                (turned_more q from to most long sixteen k.sound.typed i h r held lent left (g.turned s plain k) here f fr od k p heldAfter lentAfter o)
