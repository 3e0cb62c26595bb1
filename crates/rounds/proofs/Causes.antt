-- The checks of a round.
use mathlib.Core.Path.{◌≡◌, refl, ap, ◌∙◌}
use mathlib.Core.Bool.{Bool, true, false}
use mathlib.Core.Logic.{◌⊎◌, inl, inr}
use mathlib.Core.Option.{none}
use Prim.Native.Nat.{ℕ, zero, suc, ◌+◌, ◌≤◌, ◌<◌}
use native.Mathlib.Omega.{arith}
use lib.Dec.{eqb}
use lib.ListN.{length}
use borrow.Author.Tests.{leb-true, le-leb, eqb-true, eqb-false, eq-eqb}
use Rattle.lists.specs.Lists.{Tells}
use Rattle.lists.proofs.Tests.{both, total, tells}
use Rattle.plan.specs.Causes.{unless, ◌or_else◌, Check, fails, passes, Passed}
use Rattle.plan.specs.Plan.{grown, Typed}
use Rattle.plan.proofs.Plan.{or-else-zero, unless-zero}
use Rattle.plan.proofs.Causes.{check-last, check-then}
use Rattle.plan.proofs.Theorems.{plan-then}
use Rattle.windows.specs.HoursCall.{hours_cause}
use Rattle.sweep.specs.Sweep.{sweep_order, order_cause}
use Rattle.sweep.proofs.Theorems.{sweep-holding}
use Rattle.paging.specs.Overlays.{overlay}
use Rattle.paging.specs.Calls.{page_cause}
use Rattle.paging.specs.Theorems.{Good, Current}
use Rattle.paging.proofs.Causes.{PageCauses, page-told}
use Rattle.rounds.specs.Rounds.{Request, ticket_at, counter_at, fits_round, clients_cause, round_cause}
use Rattle.rounds.specs.Theorems.{call_of, ClientChecks, InBounds, RoundChecks}

-- ---- 22
-- what 22 lets through
pub record Fitting (m first budget records : ℕ) : Type 0 where
  pub some : 1 ≤ m
  pub few : m ≤ 16
  pub from : 1 ≤ first
  pub to : first ≤ m
  pub low : budget ≤ 4294967295
  pub one_each : records ≡ m

module _ (m first budget records : ℕ) where
  pub fits-yes : fits_round m first budget records ≡ true → Fitting m first budget records
  unfolding fits_round
  fits-yes e =
      let a = both _ _ e in
      let b = both _ _ a.1 in
      let c = both _ _ b.1 in
      let d = both _ _ c.1 in
      let f = both _ _ d.1 in
      record { some = leb-true 1 m a.0; few = leb-true m 16 b.0; from = leb-true 1 first c.0; to = leb-true first m d.0; low = leb-true budget 4294967295 f.0; one_each = eqb-true records m f.1 }

  pub yes-fits : Fitting m first budget records → fits_round m first budget records ≡ true
  unfolding fits_round
  yes-fits h = rw (le-leb 1 m h.some, le-leb m 16 h.few, le-leb 1 first h.from, le-leb first m h.to, le-leb budget 4294967295 h.low, eq-eqb records m h.one_each)

-- ---- all causes
module _ (q : Request) where
  -- the cause of client u's page call
  abbrev cause_of : ℕ → ℕ
  cause_of u = page_cause none q.shape q.cells q.order (ticket_at q u) (counter_at q u)

  abbrev ordered : ℕ
  ordered = order_cause q.shape q.cells q.order

  abbrev bounded : ℕ
  bounded = unless (fits_round q.clients q.first q.budget (length q.counters)) 22

  -- what 22 tells
  bounds-tell : Tells (InBounds q) (fits_round q.clients q.first q.budget (length q.counters))
  bounds-tell =
      tells _ (λ e. let f = fits-yes _ _ _ _ e in (f.some, f.few, f.from, f.to, f.low, f.one_each))
      (λ h. yes-fits _ _ _ _ (record { some = h.0; few = h.1; from = h.2; to = h.3; low = h.4; one_each = h.5 }))

  module _ (typed : Typed q.shape) where
    abbrev Named : ℕ → Type 0
    Named t = Good (overlay q.shape q.cells) (ticket_at q t).cursor

    abbrev Counted : ℕ → Type 0
    Counted t = Current (ticket_at q t).count (counter_at q t)

    -- where the order is let through, a client is refused by 6 or 18
    client-checks : ordered ≡ 0 → (t : ℕ) → Check 6 (Named t) (Check 18 (Counted t) Passed) (cause_of t)
    unfolding order_cause hours_cause
    client-checks passed t = go (cause_of t) refl
      where
        told : PageCauses ordered (Named t) (Counted t) (cause_of t)
        told = page-told (call_of q t) typed

        by_number : (n : ℕ) → cause_of t ≡ suc n → (six eighteen : Bool) → eqb (suc n) 6 ≡ six → eqb (suc n) 18 ≡ eighteen → Check 6 (Named t) (Check 18 (Counted t) Passed) (cause_of t)
        by_number n e true b x y = let z = e ∙ eqb-true (suc n) 6 x in fails z (told.six.0 z).1
        by_number n e false true x y = let z = e ∙ eqb-true (suc n) 18 y in let h = told.eighteen.0 z in passes h.1 (fails z h.2)
        by_number n e false false x y =
            let z = (told.others (suc n) (omega arith) (eqb-false (suc n) 6 x) (eqb-false (suc n) 18 y)).0 e in absurd (omega (arith, z, passed))

        go : (n : ℕ) → cause_of t ≡ n → Check 6 (Named t) (Check 18 (Counted t) Passed) (cause_of t)
        go zero e = let h = told.none.0 e in passes h.1 (passes h.2 e)
        go (suc n) e = by_number n e (eqb (suc n) 6) (eqb (suc n) 18) refl refl

    -- those of n clients, one behind the other
    clients-checks : ordered ≡ 0 → (t n : ℕ) → ClientChecks q t n (clients_cause q t n)
    clients-checks passed t zero = refl
    clients-checks passed t (suc n) =
        let rest = clients_cause q (suc t) n in
        let h = clients-checks passed (suc t) n in
        check-then 6 (cause_of t) rest (omega arith) (check-then 18 (cause_of t) rest (omega arith) (λ e. rw e h)) (client-checks passed t)

    pub round-causes : RoundChecks q (round_cause q)
    unfolding round_cause
    round-causes =
        let clients = clients_cause q 1 q.clients in
        let P = q.order ≡ sweep_order (grown q.shape q.cells) in
        plan-then q.shape q.cells (Check 5 P (Check 22 (InBounds q) Passed)) (Check 5 P (Check 22 (InBounds q) (ClientChecks q 1 q.clients))) (ordered or_else bounded) clients
        (check-then 5 (ordered or_else bounded) clients (omega arith) (check-then 22 (ordered or_else bounded) clients (omega arith) (λ e. rw e (clients-checks (or-else-zero ordered bounded e).0 1 q.clients))))
        (plan-then q.shape q.cells (Check 5 P Passed) (Check 5 P (Check 22 (InBounds q) Passed)) ordered bounded
        (check-then 5 ordered bounded (omega arith) (check-last 22 ordered bounds-tell))
        (sweep-holding.calls q.shape q.cells q.order).checked)

  -- ---- an accepted round
  -- none is refused
  pub all_pass : (t n : ℕ) → clients_cause q t n ≡ 0 → (u : ℕ) → t ≤ u → u < t + n → cause_of u ≡ 0
  all_pass t zero e u a b = absurd (omega arith)
  all_pass t (suc n) e u a b =
      let h = or-else-zero (cause_of t) _ e in
      go (total (suc t) u) h.0 (all_pass (suc t) n h.1 u)
    where
      go : (suc t ≤ u) ⊎ (u < suc t) → cause_of t ≡ 0 → (suc t ≤ u → u < suc t + n → cause_of u ≡ 0) → cause_of u ≡ 0
      go (inl l) z rest = rest l (omega arith)
      go (inr l) z rest = let same : u ≡ t = omega arith in ap cause_of same ∙ z

  pub record Accepted : Type 0 where
    pub passed : order_cause q.shape q.cells q.order ≡ 0
    pub fit : Fitting q.clients q.first q.budget (length q.counters)
    pub each-passes : (t : ℕ) → 1 ≤ t → t ≤ q.clients → page_cause none q.shape q.cells q.order (ticket_at q t) (counter_at q t) ≡ 0

  pub accepted-is : round_cause q ≡ 0 → Accepted
  unfolding round_cause
  accepted-is e =
      let h = or-else-zero _ (clients_cause q 1 q.clients) e in
      let g = or-else-zero (order_cause q.shape q.cells q.order) _ h.0 in
      record {
        passed = g.0;
        fit = fits-yes _ _ _ _ (unless-zero _ 21 g.1);
        each-passes = λ t a b. all_pass 1 q.clients h.1 t a (omega arith);
      }
