-- Demand 3 holds of every list of page calls on any plan, and of the whole run and the crossing report on every sound one.
use mathlib.Core.Path.{◌≡◌, refl, sym, ap, ◌∙◌, subst, subst₂}
use mathlib.Core.List.Memᴰ
use mathlib.Core.List.{List, [], ◌∷◌, ◌++◌, append-nil, Memᴰ}
use mathlib.Core.Logic.{⊎_elim}
use mathlib.Core.Option.{Option, none}
use Prim.Native.Nat.{ℕ, zero, suc, ◌+◌, ◌≤◌}
use native.Mathlib.Omega.{arith}
use lib.IntN.{ℤ}
use lib.ListN.{get_or}
use Rattle.lists.specs.Lists.{All, none_left, ◌and◌, is_some}
use Rattle.lists.proofs.Lists.{all-of-mem}
use Rattle.plan.specs.declared.Shape.{Shape}
use Rattle.plan.specs.Plan.{sizes_of, plan_cause, Typed, Sound, grown}
use Rattle.plan.specs.Causes.{Check, Passed}
use Rattle.plan.proofs.Causes.{check-past}
use Rattle.plan.proofs.Growing.{framed}
use Rattle.sweep.specs.Sweep.{sweep_order}
use Rattle.sweep.proofs.Theorems.{order-passed, order-passes}
use Rattle.join.proofs.Theorems.{tables}
use Rattle.crossings.specs.Theorems.{Segments}
use Rattle.crossings.specs.ClassCall.{crossing_cause}
use Rattle.crossings.proofs.Theorems.{crossings}
use Rattle.walk.proofs.Theorems.{walk-is-table}
use Rattle.timed.specs.Timed.{Held}
use Rattle.timed.proofs.Theorems.{timed-walks}
use Rattle.paging.specs.declared.Ticket.{Ticket}
use Rattle.paging.specs.Answers.{FreshValues}
use Rattle.paging.specs.Answers.{PageValues}
use Rattle.paging.specs.Overlays.{Overlay, overlay_of}
use Rattle.paging.specs.Cursors.{due_cursor}
use Rattle.paging.specs.Calls.{fresh_cause, fresh_call, fresh_counter}
use Rattle.paging.specs.Theorems.{Call, cause}
use Rattle.paging.proofs.Overlays.{Lawful, laws-of}
use Rattle.paging.proofs.Causes.{plan-past, first-plan, first_passes, sound-ordered}
use Rattle.paging.proofs.Calls.{Serves}
use Rattle.paging.proofs.Serving.{serves-own, serves-none, accepted-first, accepted-counter}
use Rattle.paging.proofs.Runs.{runs-hold}
use Rattle.paging.proofs.Theorems.{due-left, fresh-accepted, fresh-passed}
use Rattle.crossing_report.proofs.Runs.{crossing-holds}
use Rattle.demands.specs.Theorems.{reported, newest_of, counter_after, Chain, OneRun, PagingHolds, TicketsHold, CallsHold, Demand3}
use Rattle.demands.proofs.Courses.{Course, begun, advanced, course_after, course-next, course-newest-is, course-counter-is, begun-has, InRun, run_end, run_refused, run-accepted, in-run, Steady, Going, going_end, going-refused, going-accepted, steady-same, going-steady}
use Rattle.demands.proofs.Lists.{going-holds, refused-holds}
use Rattle.demands.proofs.Lasts.{Declined}
use Rattle.demands.proofs.Week.{week-call, week-table, week-counter, week-run, week-rows}

-- an accepted call brings a plan that no check refuses
accepted-plan : (x : Call) → cause x ≡ 0 → plan_cause x.shape x.cells ≡ 0
accepted-plan x e = first-plan x.windows x.shape x.cells x.order (accepted-first x e)

-- it answers on the overlay of the plan and the windows that it brings
serves : (windows : Option (List ℕ)) (s : Shape) (cells : List ℤ) (x : Call) → x.windows ≡ windows → x.shape ≡ s → x.cells ≡ cells → Serves (overlay_of windows s cells) x
serves windows s cells x w p q =
    subst (λ (v : Option (List ℕ)). Serves (overlay_of v s cells) x) w (subst₂ (λ (t : Shape) (c : List ℤ). Serves (overlay_of x.windows t c) x) p q (serves-own x))

-- ---- lists of calls
-- where a member of a list stands
mem-split : (xs : List Call) (x : Call) → Memᴰ x xs → (ys : List Call) × (zs : List Call) × (xs ≡ ys ++ x ∷ zs)
mem-split [] x m = absurd (Memᴰ.not-nil m)
mem-split (a ∷ xs) x m =
    ⊎_elim (λ e. ([], xs, ap (λ (z : Call). z ∷ xs) (sym e))) (λ k. let p = mem-split xs x k in (a ∷ p.0, p.1, ap (λ (l : List Call). a ∷ l) p.2)) (Memᴰ.cases_cons m)

module _ (windows : Option (List ℕ)) (s : Shape) (cells : List ℤ) where
  abbrev ours : Overlay (Held (is_some windows))
  ours = overlay_of windows s cells

  -- those in a run of a plan are in one of its overlay
  going : {r : Course} {xs : List Call} → InRun windows s cells r xs → Going ours r xs
  going run_end = going_end
  going (run_refused {x = x} n h) = going-refused (serves-none ours x n) n (going h)
  going (run-accepted {x = x} e w p q m k h) = going-accepted (serves windows s cells x w p q) e m k (going h)

  -- a run begins steadily with the ticket of the whole walk
  steady-begun : (t : Ticket) (l : List ℕ) → t ≡ record { cursor = due_cursor ours.sizes ours.walk; count = 0 } → l ≡ 0 ∷ [] → Steady ours (begun t l) × (t.count ≡ 0)
  steady-begun t l p q = rw (p, q) (record { counts = ◌and◌ {a = record { cursor = due_cursor ours.sizes ours.walk; count = 0 }} refl none_left; counter = refl }, refl)

  module _ (order counter : List ℕ) (typed : Typed s) (f : fresh_cause s cells order counter ≡ 0) where
    abbrev begins : Ticket
    begins = (fresh_call s cells order counter).ticket

    abbrev left : List ℕ
    left = fresh_counter s cells order counter

    run_sound : Sound s cells
    run_sound = sound-ordered s cells order typed (fresh-passed s cells order counter f).0

    run-laws : Lawful ours
    run-laws = laws-of windows s cells run_sound

    -- the run that it begins
    run-begun : Steady ours (begun begins left) × (begins.count ≡ 0)
    run-begun =
        let c = fresh-passed s cells order counter f in
        let h = fresh-accepted windows s cells order counter typed c.0 c.1 in
        steady-begun begins left (ap (λ (f : FreshValues). f.ticket) h.0) h.1

    -- demand 3, of one list
    pub run-holding : (xs : List Call) → InRun windows s cells (begun begins left) xs → PagingHolds ours xs × TicketsHold begins left xs
    run-holding xs h = (
      going-holds ours run-laws (due-left windows s cells run_sound) r xs run-begun.0 run-begun.1 g,
      record {
        counts = (count, counter-is);
        stale = λ x k n a. n (ap (λ (l : List ℕ). get_or l 0 0) (sym (accepted-counter x a) ∙ (k ∙ counter-is)) ∙ sym count);
        same = λ u m c. steady-same ours (course_after r xs) u at.0 (begun-has begins u left xs m) (c ∙ ap (λ (t : Ticket). t.count) (sym (course-newest-is r xs))) ∙ course-newest-is r xs;
      },
    )
      where
        r : Course
        r = begun begins left

        g : Going ours r xs
        g = going h

        -- the run behind them
        at : let q = course_after r xs in Steady ours q × (q.newest.count ≡ r.newest.count + reported xs)
        at = going-steady ours run-laws xs [] run-begun.0 (rw append-nil g)

        count : (newest_of begins xs).count ≡ reported xs
        count = ap (λ (t : Ticket). t.count) (sym (course-newest-is r xs)) ∙ omega (arith, at.1, run-begun.1)

        counter-is : counter_after left xs ≡ reported xs ∷ []
        counter-is = sym (course-counter-is r xs) ∙ (at.0.counter ∙ ap (λ (n : ℕ). n ∷ []) (ap (λ (t : Ticket). t.count) (course-newest-is r xs) ∙ count))

    paging-holds : (xs : List Call) → OneRun windows s cells begins left xs → PagingHolds ours xs × TicketsHold begins left xs
    paging-holds xs h = run-holding xs (in-run (begun begins left) xs (λ ys x zs e a. let g = h ys x zs e a in (g.0, g.1, g.2, (begun-has begins x.ticket left ys g.3.0, g.3.1 ∙ sym (course-counter-is (begun begins left) ys)))))

  -- ---- as 01 has it
  -- where each accepted call brings the ticket that is due, the list is in a run
  module _ (t : Ticket) where
    abbrev chain : Course
    chain = begun t (t.count ∷ [])

    -- the counter holds the count of the newest ticket
    chain-counter : (ys : List Call) (r : Course) → r.counter ≡ r.newest.count ∷ [] → (course_after r ys).counter ≡ (course_after r ys).newest.count ∷ []
    chain-counter [] r e = e
    chain-counter (y ∷ ys) r e = course-next (λ q. q.counter ≡ q.newest.count ∷ []) r y ys
        (λ z. chain-counter ys (advanced r y) ((serves-own y).counted z ∙ ap (λ (p : PageValues). p.ticket.count ∷ []) (sym ((serves-own y).page z))))
        (λ n. chain-counter ys r e)

    chain_run : (xs : List Call) → Chain windows s cells t xs → InRun windows s cells chain xs
    chain_run xs h = in-run chain xs (λ ys x zs e a.
        let g = h ys x zs e a in
        let k : x.ticket ≡ (course_after chain ys).newest = g.3 ∙ sym (course-newest-is chain ys) in
        (g.0, g.1, g.2, (Memᴰ.head k, accepted-counter x a ∙ (ap (λ (u : Ticket). u.count ∷ []) k ∙ sym (chain-counter ys chain refl)))))

  -- where the plan is refused, so is every call
  all-refused : {t : Ticket} (xs : List Call) → (plan_cause s cells ≡ 0 → ⊥) → Chain windows s cells t xs → All (λ x. Serves ours x × Declined x) xs
  all-refused {t} xs n h = all-of-mem xs (λ x m. let d = declined x m in (serves-none ours x d, d))
    where
      declined : (x : Call) → Memᴰ x xs → Declined x
      declined x m e = let p = mem-split xs x m in let g = h p.0 x p.1 p.2 e in n (rw (g.1, g.2) at (accepted-plan x e))

  chained-holds : (xs : List Call) → Typed s → Chain windows s cells (fresh_call s cells (sweep_order (grown s cells)) (0 ∷ [])).ticket xs → PagingHolds ours xs
  unfolding fresh_cause
  chained-holds xs typed c = go (plan_cause s cells) refl
    where
      go : (n : ℕ) → plan_cause s cells ≡ n → PagingHolds ours xs
      go zero e =
          let order = sweep_order (grown s cells) in
          let o = order-passes s cells e in
          let h = fresh-accepted none s cells order (0 ∷ []) typed o refl in
          let t = (fresh_call s cells order (0 ∷ [])).ticket in
          let k : fresh_counter s cells order (0 ∷ []) ≡ t.count ∷ [] = rw (h.0, h.1) in
          (run-holding order (0 ∷ []) typed (rw o) xs (subst (λ (l : List ℕ). InRun windows s cells (begun t l) xs) (sym k) (chain_run t xs c))).0
      go (suc n) e = refused-holds ours xs (all-refused xs (λ q. omega arith) c)

-- ---- the crossing report
-- neither 15 nor 16 applies to a plan of segments
crossing-passes : (s : Shape) (cells : List ℤ) → Sound s cells → 3 ≤ s.k → Segments s cells → crossing_cause s cells ≡ 0
crossing-passes s cells sound three segments =
    check-past segments (check-past three (plan-past s cells {N = Check 15 (3 ≤ s.k) (Check 16 (Segments s cells) Passed)} sound.passed (crossings.causes s cells sound.typed)))

-- ---- demand 3
calls-hold : (windows : Option (List ℕ)) (s : Shape) (cells : List ℤ) (order counter table : List ℕ) (work : ℕ)
    → CallsHold (overlay_of windows s cells) windows s cells order counter table work
calls-hold windows s cells order counter table work = record {
  table_walk = λ h. (tables.tables (sizes_of s) (grown s cells) (framed s cells h).1, walk-is-table (sizes_of s) (grown s cells) (framed s cells h).1);
  untimed = refl;
  timed = λ hours. (refl, refl, λ h. timed-walks.walks (sizes_of s) (grown s cells) hours (framed s cells h).1);
  paging = λ xs typed f. paging-holds windows s cells order counter typed f xs;
  chained = chained-holds windows s cells;
  run = λ sound hours e. runs-hold windows s cells order table work sound (first_passes s cells order windows sound.passed hours e);
  crossing = λ sound three segments e.
      crossing-holds s cells order table work (crossing-passes s cells sound three segments) sound ((order-passed s cells order).1 (sound.passed, e));
}

pub demand3 : Demand3
demand3 = record {
  calls = calls-hold;
  week = λ s cells hours sound stated week. (
    λ i order t counter budget table. week-call s cells hours sound stated week order t counter budget table i,
    λ i order t counter budget table. week-table s cells hours sound stated week order t counter budget table i,
    λ i order t counter budget table. week-counter s cells hours sound stated week order t counter budget table i,
    λ i order table work. week-run s cells hours sound stated week order table work i,
    λ i order table work. week-rows s cells hours sound stated week order table work i,
  );
}
