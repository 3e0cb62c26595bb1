-- The checks of a round, in each case.
use mathlib.Core.Path.{◌≡◌, refl, sym, ap, ap₂, ◌∙◌}
use mathlib.Core.Bool.{false}
use mathlib.Core.List.{List, []}
use mathlib.Core.Option.{none}
use Prim.Native.Nat.{ℕ, suc, ◌+◌, ◌-◌, ◌≤◌, ◌<◌}
use native.Mathlib.Numerals.{add-one}
use native.Mathlib.Omega.{arith}
use lib.IntN.{ℤ}
use lib.ListN.{length, get_or, take, drop}
use Rattle.plan.specs.declared.Shape.{Shape}
use Rattle.plan.specs.Causes.{◌or_else◌}
use Rattle.plan.proofs.Plan.{or-else-first}
use Rattle.paging.specs.declared.Ticket.{Ticket}
use Rattle.paging.specs.Overlays.{overlay}
use Rattle.paging.specs.Cursors.{ended_cursor}
use Rattle.sweep.specs.Sweep.{order_cause}
use Rattle.windows.specs.HoursCall.{hours_cause}
use Rattle.paging.specs.Calls.{page_cause}
use Rattle.paging.specs.Inner.{cause_before}
use Rattle.slots.specs.declared.Frame.{Frame}
use Rattle.pager.specs.Answers.{overlay_in, plain_overlay, ticket_cause}
use Rattle.rounds.specs.Rounds.{ticket_of, counter_of}
use Rattle.rounds_code.specs.Parts.{cause_from, Opens, OnPlans}
use Rattle.rounds.proofs.Parts.{get_d_any}

-- ---- 6 and 18
module _ {s : Shape} {plain : List ℤ} {order : List ℕ} {here : List ℤ} {f : Frame} (k : Opens s plain order here f) where
  -- the frame's overlay is the plan's
  pub same-overlay : plain_overlay f here ≡ overlay s plain
  same-overlay = ap₂ (λ (ns : List ℕ) (l : List ℤ). overlay_in false ns l []) k.sizes k.is

  -- the checks before a page call's own, without windows
  passed-before : cause_before none s plain order ≡ 0
  unfolding order_cause hours_cause
  passed-before = k.passed

  -- what is left of a page call's checks behind those of plan and order
  pub ticket-checks : (t : Ticket) (counter : List ℕ) → page_cause none s plain order t counter ≡ ticket_cause (plain_overlay f here) t counter
  unfolding page_cause
  ticket-checks t counter = rw (passed-before, same-overlay)

module _ (order : List ℕ) (here : List ℤ) (f : Frame) (m : ℕ) (tickets : List Ticket) (counters : List ℕ) where
  -- the first i clients are let through
  pub record Passing (i : ℕ) : Type 0 where
    pub few : i ≤ m
    pub same : OnPlans order here f (λ s plain. cause_from s plain order tickets counters 1 m ≡ cause_from s plain order tickets counters (suc i) (m - i))

  pub passing-none : Passing 0
  passing-none = let z : m - 0 ≡ m = omega arith in record { few = omega arith; same = λ s plain k. rw z }

  pub passing-all : (i : ℕ) → Passing i → m ≤ i → OnPlans order here f (λ s plain. 0 ≡ cause_from s plain order tickets counters 1 m)
  passing-all i p h s plain k = let z : m - i ≡ 0 = omega arith in sym (p.same s plain k ∙ rw z)

  module _ (i : ℕ) (p : Passing i) (h : i < m) (l : length tickets ≡ 16) (most : m ≤ 16) (d : Ticket) (a : ℕ) (one : a ≡ 1) (cause : ℕ) (e : cause ≡ ticket_cause (plain_overlay f here) (get_or tickets i d) (take a (drop i counters))) where
    -- the next client's cause comes first
    next-cause : OnPlans order here f (λ s plain. cause_from s plain order tickets counters 1 m ≡ (cause or_else cause_from s plain order tickets counters (suc (i + 1)) (m - (i + 1))))
    next-cause s plain k =
        let z : m - i ≡ suc (m - (i + 1)) = omega arith in
        let y : suc i - 1 ≡ i = omega arith in
        let x = add-one i in
        let t : get_or tickets i d ≡ ticket_of tickets (suc i) = get_d_any tickets i d _ (omega arith) ∙ ap (λ (j : ℕ). get_or tickets j (record { cursor = ended_cursor; count = 0 })) (sym y) in
        let u : take a (drop i counters) ≡ counter_of counters (suc i) = ap₂ (λ (j n : ℕ). take j (drop n counters)) one (sym y) in
        let c : cause ≡ page_cause none s plain order (ticket_of tickets (suc i)) (counter_of counters (suc i)) = e ∙ ap₂ (ticket_cause (plain_overlay f here)) t u ∙ sym (ticket-checks k _ _) in
        p.same s plain k ∙ rw (z, x, c)

    pub passing-stops : (cause ≡ 0 → ⊥) → OnPlans order here f (λ s plain. cause ≡ cause_from s plain order tickets counters 1 m)
    passing-stops n s plain k = or-else-first cause _ cause refl n ∙ sym (next-cause s plain k)

    pub passing-more : cause ≡ 0 → Passing (i + 1)
    passing-more n = record { few = omega arith; same = λ s plain k. next-cause s plain k ∙ rw n }
