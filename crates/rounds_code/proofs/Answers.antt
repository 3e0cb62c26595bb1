-- What the round call answers, in each of its cases.
use mathlib.Core.Path.{◌≡◌, refl, ap, ◌∙◌}
use mathlib.Core.Option.{none}
use mathlib.Core.Bool.{true, false}
use mathlib.Core.List.{List, []}
use Prim.Native.Nat.{ℕ, zero, suc}
use lib.IntN.{ℤ}
use lib.ListN.{length}
use Rattle.plan.specs.declared.Shape.{Shape}
use Rattle.plan.specs.Causes.{◌or_else◌}
use Rattle.sweep.specs.Sweep.{order_cause}
use Rattle.paging.specs.Answers.{PageValues}
use Rattle.paging.specs.Calls.{page_cause}
use Rattle.slots.specs.declared.Frame.{Frame}
use Rattle.slots.specs.Frames.{Made}
use Rattle.pager.proofs.Calls.{Admitted}
use Rattle.rounds.specs.Rounds.{RoundValues}
use Rattle.rounds.specs.Shares.{after}
use Rattle.rounds.specs.Rounds.{Request, ticket_at, counter_at, fits_round, clients_cause, round_cause, round_call, round_counters, round_table}
use Rattle.rounds_code.specs.Parts.{cause_from, refused_round, Opens, AllServed, RoundAnswered}

module _ (q : Request) where
  -- a refusal
  pub round-refused : (n : ℕ) → n ≡ round_cause q → (n ≡ 0 → ⊥) → (r : RoundValues) → r ≡ refused_round n q.tickets → RoundAnswered q r q.counters q.table
  unfolding round_call round_counters round_table
  round-refused zero e h r a = absurd (h refl)
  round-refused (suc n) e h r a = record { answer = rw (← e) a; counters = rw (← e); table = rw (← e) }

  -- a round whose clients are all served
  pub round-given : 0 ≡ round_cause q → (r : List PageValues) (counted filled : List ℕ) → AllServed q r counted filled → (next : ℕ) → next ≡ after q.clients q.first → RoundAnswered q (record { number = 0; next = next; pages = r }) counted filled
  unfolding round_call round_counters round_table
  round-given e r counted filled a next n = record { answer = rw (← e, n, a.pages); counters = rw (← e) a.counters; table = rw (← e) a.table }

  -- ---- the cause that is told
  clients-are : (t n : ℕ) → cause_from q.shape q.cells q.order q.tickets q.counters t n ≡ clients_cause q t n
  clients-are t zero = refl
  clients-are t (suc n) = ap (λ (c : ℕ). page_cause none q.shape q.cells q.order (ticket_at q t) (counter_at q t) or_else c) (clients-are (suc t) n)

  pub by_order : (n : ℕ) → n ≡ order_cause q.shape q.cells q.order → (n ≡ 0 → ⊥) → n ≡ round_cause q
  unfolding round_cause
  by_order zero e h = absurd (h refl)
  by_order (suc n) e h = rw (← e)

  module _ (passed : order_cause q.shape q.cells q.order ≡ 0) where
    pub by-numbers : fits_round q.clients q.first q.budget (length q.counters) ≡ false → 22 ≡ round_cause q
    unfolding round_cause
    by-numbers e = rw (passed, e)

    pub by-clients : fits_round q.clients q.first q.budget (length q.counters) ≡ true → (n : ℕ) → n ≡ cause_from q.shape q.cells q.order q.tickets q.counters 1 q.clients → n ≡ round_cause q
    unfolding round_cause
    by-clients e n h = rw (passed, e) (h ∙ clients-are 1 q.clients)

-- what the round goes on with, once plan and order are let through
pub opens : (s : Shape) (plain : List ℤ) (order : List ℕ) (here : List ℤ) (f : Frame) → Admitted false s plain [] order here f → Made s false f → Opens s plain order here f
opens s plain order here f a m = record { sound = a.sound; passed = a.passed; is = a.is; k = m.k; sizes = a.sizes }

-- the promise, clause by clause
pub parts : {q : Request} {r : RoundValues} {counted filled : List ℕ} → RoundAnswered q r counted filled → (r ≡ round_call q) × ((counted ≡ round_counters q) × (filled ≡ round_table q))
parts a = (a.answer, (a.counters, a.table))
