-- Each cause of the calls applies in exactly the stated case.
use mathlib.Core.Path.{◌≡◌, refl, sym, ◌∙◌}
use mathlib.Core.Logic.Iff
use mathlib.Core.Logic.{◌↔◌, ⊎_elim}
use mathlib.Core.List.{List}
use mathlib.Core.Bool.{true}
use mathlib.Core.Option.{Option, none, some}
use Prim.Native.Nat.{ℕ, zero, suc, ◌*◌, ◌≤◌, ◌<◌}
use native.Mathlib.Omega.{arith}
use lib.IntN.{ℤ}
use lib.Dec.{leb}
use lib.ListN.{length}
use borrow.Author.Tests.{eqb-true, eq-eqb}
use Rattle.lists.specs.Lists.{Tells, is_some, list_in}
use Rattle.lists.proofs.Tests.{le-tells, tells}
use Rattle.totals.specs.Totals.{total_of}
use Rattle.plan.specs.declared.Shape.{Shape}
use Rattle.plan.specs.Causes.{unless, ◌or_else◌, on_cause, Check, fails, passes, Passed}
use Rattle.plan.specs.Plan.{sizes_of, plan_cause, Typed, Sound, grown}
use Rattle.plan.specs.Theorems.{PlanChecks}
use Rattle.plan.proofs.Plan.{check-passed, check-failed, check-others}
use Rattle.plan.proofs.Causes.{check-last, check-then, check-held, check-past}
use Rattle.plan.proofs.Theorems.{plan-then, plan-checks, plan-passed}
use Rattle.lists.proofs.Numbers.{same-tells}
use Rattle.plan.proofs.Growing.{framed}
use Rattle.sweep.specs.Sweep.{sweep_order, order_cause}
use Rattle.search.specs.Traversal.{row_of}
use Rattle.search.proofs.Paging.{page-stops}
use Rattle.windows.specs.HoursCall.{hours_cause}
use Rattle.windows.specs.Theorems.{Stated}
use Rattle.timed.specs.Timed.{Held}
use Rattle.windows.proofs.Theorems as Windows
use Rattle.paging.specs.declared.Cursor.{Cursor}
use Rattle.paging.specs.declared.Ticket.{Ticket}
use Rattle.paging.specs.Answers.{PageValues}
use Rattle.std.specs.Prelude.{Err}
use Rattle.paging.specs.Answers.{Run}
use Rattle.search.specs.Stops.{Refused}
use Rattle.paging.specs.Overlays.{Overlay, overlay_of}
use Rattle.paging.specs.Cursors.{resume}
use Rattle.paging.specs.Pages.{room, paged}
use Rattle.paging.specs.Calls.{one_cell, current, fresh_cause, fresh_call, fresh_counter, stop_number, refused_page, page_cause, page_call, page_table, page_counter, run_cause, run_call, run_table}
use Rattle.paging.specs.Inner.{cause_before, page_cause_on, run_cause_on}
use Rattle.paging.specs.Theorems.{Call, overlay_at, cause, answer, table_after, counted, takes, no_trial, Good, Current, Hours, OrderChecks}
use Rattle.paging.proofs.Overlays.{of-plan, of-timed}
use Rattle.paging.proofs.Named.{resumes}
use Rattle.paging.proofs.Counters.{current-tells}

-- ---- the checks before the calls' own
-- a number that no line tells
check-not : {P : Type 0} {N : ℕ → Type 0} {a : ℕ} (m n : ℕ) → a ≡ n → (n ≡ m → ⊥) → (N a → ⊥) → Check m P N a → ⊥
check-not m n e d f (fails q r) = d (sym e ∙ q)
check-not m n e d f (passes h k) = f k

module _ (s : Shape) (cells : List ℤ) where
  -- behind the plan's lines, where they hold
  pub plan-past : {N : ℕ → Type 0} {a : ℕ} → plan_cause s cells ≡ 0 → PlanChecks s cells N a → N a
  plan-past e c = let l = (plan-passed s cells).0 e in check-past l.4 (check-past l.3 (check-past l.2 (check-past l.1 (check-past l.0 c))))

  -- and where no cause applies, they do
  plan-held : {N : ℕ → Type 0} {a : ℕ} → a ≡ 0 → PlanChecks s cells N a → (plan_cause s cells ≡ 0) × N a
  plan-held e c =
      let l1 = check-held 1 (omega arith) e c in
      let l2 = check-held 2 (omega arith) e l1.1 in
      let l17 = check-held 17 (omega arith) e l2.1 in
      let l3 = check-held 3 (omega arith) e l17.1 in
      let l4 = check-held 4 (omega arith) e l3.1 in
      ((plan-passed s cells).1 (l1.0, l2.0, l17.0, l3.0, l4.0), l4.1)

  module _ (order : List ℕ) where
    abbrev Ordered : Type 0
    Ordered = order ≡ sweep_order (grown s cells)

    pub first-checks : (windows : Option (List ℕ)) → OrderChecks windows s cells order Passed (cause_before windows s cells order)
    unfolding hours_cause
    first-checks none = plan-then s cells Passed _ (plan_cause s cells) _ (λ e. passes tt (check-last 5 _ (same-tells order _) e)) (plan-checks s cells)
    first-checks (some hours) =
        let cause = hours_cause (some hours) s cells in
        plan-then s cells (Check 24 (Stated s hours) Passed) _ cause _ (check-then 24 cause _ (omega arith) (check-last 5 cause (same-tells order _)))
        ((Windows.hours).causes s cells hours)

    -- more behind them
    pub first_then : (windows : Option (List ℕ)) (N M : ℕ → Type 0) (a b : ℕ) → (N a → M (a or_else b)) → OrderChecks windows s cells order N a → OrderChecks windows s cells order M (a or_else b)
    first_then windows N M a b f = plan-then s cells (Check 24 (Hours windows s) (Check 5 Ordered N)) _ a b (check-then 24 a b (omega arith) (check-then 5 a b (omega arith) f))

    -- where all hold, no cause applies
    pub first_passes : (windows : Option (List ℕ)) → plan_cause s cells ≡ 0 → Hours windows s → Ordered → cause_before windows s cells order ≡ 0
    first_passes windows p h e = check-past e (check-past h (plan-past {N = Check 24 (Hours windows s) (Check 5 Ordered Passed)} p (first-checks windows)))

    -- and where none applies, all hold
    pub first-held : (windows : Option (List ℕ)) (N : ℕ → Type 0) {a : ℕ} → a ≡ 0 → OrderChecks windows s cells order N a → (cause_before windows s cells order ≡ 0) × N a
    first-held windows N e c =
        let p = plan-held {N = Check 24 (Hours windows s) (Check 5 Ordered N)} e c in
        let h = check-held 24 (omega arith) e p.1 in
        let o = check-held 5 (omega arith) e h.1 in
        (first_passes windows p.0 h.0 o.0, o.1)

-- without windows they are those of plan and order
before-none : (s : Shape) (cells : List ℤ) (order : List ℕ) → cause_before none s cells order ≡ order_cause s cells order
unfolding order_cause hours_cause
before-none s cells order = refl

-- where none applies, none of the plan's does
pub first-plan : (windows : Option (List ℕ)) (s : Shape) (cells : List ℤ) (order : List ℕ) → cause_before windows s cells order ≡ 0 → plan_cause s cells ≡ 0
first-plan windows s cells order e = (plan-held s cells {N = Check 24 (Hours windows s) (Check 5 (order ≡ sweep_order (grown s cells)) Passed)} e (first-checks s cells order windows)).0

-- no number but 1 to 5, 17 and 24
first-not : (windows : Option (List ℕ)) (s : Shape) (cells : List ℤ) (order : List ℕ) (n : ℕ) → 5 < n → (n ≡ 17 → ⊥) → (n ≡ 24 → ⊥)
    → cause_before windows s cells order ≡ n → ⊥
first-not windows s cells order n h x y e =
    check-not 1 n e (λ q. omega arith)
    (check-not 2 n e (λ q. omega arith)
    (check-not 17 n e x
    (check-not 3 n e (λ q. omega arith)
    (check-not 4 n e (λ q. omega arith)
    (check-not 24 n e y
    (check-not 5 n e (λ q. omega arith) (λ z. omega (arith, e, z, h))))))))
    (first-checks s cells order windows)

-- a plan that is let through
pub sound-of : (windows : Option (List ℕ)) (s : Shape) (cells : List ℤ) (order : List ℕ) → Typed s → cause_before windows s cells order ≡ 0 → Sound s cells
sound-of windows s cells order t e = record { typed = t; passed = first-plan windows s cells order e }

-- ... by its order
pub sound-ordered : (s : Shape) (cells : List ℤ) (order : List ℕ) → Typed s → order_cause s cells order ≡ 0 → Sound s cells
sound-ordered s cells order t e = sound-of none s cells order t (before-none s cells order ∙ e)

-- a cursor resumes something exactly where it is good
good-resumes : (windows : Option (List ℕ)) (s : Shape) (cells : List ℤ) → Sound s cells → (c : Cursor)
    → Tells (Good (overlay_of windows s cells) c) (is_some (resume (overlay_of windows s cells) c))
good-resumes none s cells h c = resumes _ (of-plan (sizes_of s) (grown s cells) (framed s cells h).1) c
good-resumes (some hours) s cells h c = resumes _ (of-timed (sizes_of s) (grown s cells) (framed s cells h).1 hours) c

-- ---- each call's own, behind them
one-tells : (counter : List ℕ) → Tells (length counter ≡ 1) (one_cell counter)
one-tells counter = tells (one_cell counter) (eqb-true (length counter) 1) (eq-eqb (length counter) 1)

pub fresh-checks : (s : Shape) (cells : List ℤ) (order counter : List ℕ) → OrderChecks none s cells order (Check 18 (length counter ≡ 1) Passed) (fresh_cause s cells order counter)
unfolding fresh_cause order_cause hours_cause
fresh-checks s cells order counter =
    first_then s cells order none Passed (Check 18 (length counter ≡ 1) Passed) _ _ (check-last 18 _ (one-tells counter)) (first-checks s cells order none)

module _ (windows : Option (List ℕ)) (s : Shape) (cells : List ℤ) (order : List ℕ) (t : Ticket) (counter : List ℕ) where
  -- 6 and then 18, by what their tests tell
  pub page-chain : (G H : Type 0) → (cause_before windows s cells order ≡ 0 → Tells G (is_some (resume (overlay_of windows s cells) t.cursor))) → Tells H (current t.count counter)
      → OrderChecks windows s cells order (Check 6 G (Check 18 H Passed)) (page_cause windows s cells order t counter)
  unfolding page_cause
  page-chain G H good now =
      first_then s cells order windows (Check 6 G Passed) (Check 6 G (Check 18 H Passed)) named _ (check-then 6 named _ (omega arith) (check-last 18 named now))
      (first_then s cells order windows Passed (Check 6 G Passed) first _ (λ e. check-last 6 first (good e) e) (first-checks s cells order windows))
    where
      first : ℕ
      first = cause_before windows s cells order

      named : ℕ
      named = first or_else unless (is_some (resume (overlay_of windows s cells) t.cursor)) 6

module _ (windows : Option (List ℕ)) (s : Shape) (cells : List ℤ) (order table : List ℕ) (work : ℕ) where
  abbrev over : Overlay (Held (is_some windows))
  over = overlay_of windows s cells

  pub run-checks : let n = length over.table in OrderChecks windows s cells order (Check 7 (n ≤ takes over table) (Check 19 (2 * n ≤ work) Passed)) (run_cause windows s cells order table work)
  unfolding run_cause
  run-checks =
      first_then s cells order windows (Check 7 (n ≤ m) Passed) (Check 7 (n ≤ m) (Check 19 (2 * n ≤ work) Passed)) roomy _
      (check-then 7 roomy _ (omega arith) (check-last 19 roomy (le-tells (2 * n) work)))
      (first_then s cells order windows Passed (Check 7 (n ≤ m) Passed) (cause_before windows s cells order) _ (check-last 7 _ (le-tells n m)) (first-checks s cells order windows))
    where
      n : ℕ
      n = length over.table

      m : ℕ
      m = takes over table

      roomy : ℕ
      roomy = cause_before windows s cells order or_else unless (leb n m) 7

-- the cause of the checks before a page call's own
abbrev pub first_of : Call → ℕ
first_of x = cause_before x.windows x.shape x.cells x.order

-- what an accepted call passes
pub page-passed : (x : Call) → cause x ≡ 0 → (first_of x ≡ 0) × (is_some (resume (overlay_at x) x.ticket.cursor) ≡ true) × (current x.ticket.count x.counter ≡ true)
page-passed x e =
    let f = is_some (resume (overlay_at x) x.ticket.cursor) in
    let c = current x.ticket.count x.counter in
    let chain = page-chain x.windows x.shape x.cells x.order x.ticket x.counter (f ≡ true) (c ≡ true) (λ z. tells f (λ p. p) (λ p. p)) (tells c (λ p. p) (λ p. p)) in
    let own = first-held x.shape x.cells x.order x.windows (Check 6 (f ≡ true) (Check 18 (c ≡ true) Passed)) e chain in
    let named = check-held 6 (omega arith) e own.1 in
    (own.0, named.0, (check-held 18 (omega arith) e named.1).0)

module _ (x : Call) (typed : Typed x.shape) where
  abbrev Good-here : Type 0
  Good-here = Good (overlay_at x) x.ticket.cursor

  abbrev now : Type 0
  now = Current x.ticket.count x.counter

  first_good : first_of x ≡ 0 → Tells Good-here (is_some (resume (overlay_at x) x.ticket.cursor))
  first_good e = good-resumes x.windows x.shape x.cells (sound-of x.windows x.shape x.cells x.order typed e) x.ticket.cursor

  pub page-checks : OrderChecks x.windows x.shape x.cells x.order (Check 6 Good-here (Check 18 now Passed)) (cause x)
  page-checks =
      page-chain x.windows x.shape x.cells x.order x.ticket x.counter Good-here now first_good (current-tells x.ticket.count x.counter)

-- ---- number by number
-- those of a page call behind the cause `first`, number by number
pub record PageCauses (first : ℕ) (Names Now : Type 0) (cause : ℕ) : Type 0 where
  pub none : (cause ≡ 0) ↔ ((first ≡ 0) × Names × Now)
  pub six : (cause ≡ 6) ↔ ((first ≡ 0) × (Names → ⊥))
  pub eighteen : (cause ≡ 18) ↔ ((first ≡ 0) × Names × (Now → ⊥))
  pub others : (n : ℕ) → 0 < n → (n ≡ 6 → ⊥) → (n ≡ 18 → ⊥) → (cause ≡ n) ↔ (first ≡ n)

-- those of a whole run behind it, by the number of rows, how many the table takes, and the cells of the work buffer
pub record RunCauses (first rows room work cause : ℕ) : Type 0 where
  pub none : (cause ≡ 0) ↔ ((first ≡ 0) × (rows ≤ room) × (2 * rows ≤ work))
  pub seven : (cause ≡ 7) ↔ ((first ≡ 0) × (room < rows))
  pub nineteen : (cause ≡ 19) ↔ ((first ≡ 0) × (rows ≤ room) × (work < 2 * rows))
  pub others : (n : ℕ) → 0 < n → (n ≡ 7 → ⊥) → (n ≡ 19 → ⊥) → (cause ≡ n) ↔ (first ≡ n)

-- ---- the calls' own, behind them
module _ {S : Type 0} (o : Overlay S) (first : ℕ) where
  -- 6 and then 18
  module _ (t : Ticket) (counter : List ℕ) {G : Type 0} (good : first ≡ 0 → Tells G (is_some (resume o t.cursor))) where
    abbrev named : ℕ
    named = first or_else unless (is_some (resume o t.cursor)) 6

    passed : (named ≡ 0) ↔ ((first ≡ 0) × G)
    passed = check-passed first 5 good

    others : (n : ℕ) → 0 < n → (n ≡ 6 → ⊥) → (named ≡ n) ↔ (first ≡ n)
    others n p x = check-others first (is_some (resume o t.cursor)) 6 n p x

    page_causes : (first ≡ 6 → ⊥) → (first ≡ 18 → ⊥) → PageCauses first G (Current t.count counter) (page_cause_on o first t counter)
    page_causes six eighteen = record {
      none = Iff.trans (check-passed named 17 (λ z. current-tells t.count counter)) (λ h. ((passed.0 h.0).0, (passed.0 h.0).1, h.1), λ h. (passed.1 (h.0, h.1), h.2));
      six = Iff.trans (check-others named (current t.count counter) 18 6 (omega arith) (λ e. omega arith)) (check-failed first 5 six good);
      eighteen = Iff.trans (check-failed named 17 (λ e. eighteen ((others 18 (omega arith) (λ z. omega arith)).0 e)) (λ z. current-tells t.count counter)) (λ h. ((passed.0 h.0).0, (passed.0 h.0).1, h.1), λ h. (passed.1 (h.0, h.1), h.2));
      others = λ k p x y. Iff.trans (check-others named (current t.count counter) 18 k p y) (others k p x);
    }

  -- 7 and then 19
  module _ (table : List ℕ) (work : ℕ) where
    abbrev n : ℕ
    n = length o.table

    abbrev m : ℕ
    m = room o table

    abbrev roomy : ℕ
    roomy = first or_else unless (leb n m) 7

    fitted : (roomy ≡ 0) ↔ ((first ≡ 0) × (n ≤ m))
    fitted = check-passed first 6 (λ z. le-tells n m)

    run_causes : (first ≡ 7 → ⊥) → (first ≡ 19 → ⊥) → RunCauses first n m work (run_cause_on o first table work)
    run_causes seven nineteen = record {
      none = Iff.trans (check-passed roomy 18 (λ z. le-tells (2 * n) work)) (λ h. let g = fitted.0 h.0 in (g.0, g.1, h.1), λ h. (fitted.1 (h.0, h.1), h.2));
      seven = Iff.trans (check-others roomy (leb (2 * n) work) 19 7 (omega arith) (λ e. omega arith)) (let i = check-failed first 6 seven (λ z. le-tells n m) in (λ e. let h = i.0 e in (h.0, omega (arith, h.1)), λ h. i.1 (h.0, λ l. omega (arith, h.1))));
      nineteen = Iff.trans (check-failed roomy 18 (λ e. nineteen ((check-others first (leb n m) 7 19 (omega arith) (λ q. omega arith)).0 e)) (λ z. le-tells (2 * n) work)) (λ h. let g = fitted.0 h.0 in (g.0, g.1, omega (arith, h.1)), λ h. (fitted.1 (h.0, h.1), λ l. omega (arith, h.2)));
      others = λ k p x y. Iff.trans (check-others roomy (leb (2 * n) work) 19 k p y) (check-others first (leb n m) 7 k p x);
    }

pub page-told : (x : Call) → Typed x.shape → PageCauses (first_of x) (Good (overlay_at x) x.ticket.cursor) (Current x.ticket.count x.counter) (cause x)
unfolding page_cause
page-told x typed = page_causes (overlay_at x) (first_of x) x.ticket x.counter (first_good x typed) (never 6 (omega arith) (λ e. omega arith) (λ e. omega arith)) (never 18 (omega arith) (λ e. omega arith) (λ e. omega arith))
  where
    never : (n : ℕ) → 5 < n → (n ≡ 17 → ⊥) → (n ≡ 24 → ⊥) → first_of x ≡ n → ⊥
    never n h y z e = first-not x.windows x.shape x.cells x.order n h y z e

pub run-told : (windows : Option (List ℕ)) (s : Shape) (cells : List ℤ) (order table : List ℕ) (work : ℕ)
    → let o = overlay_of windows s cells in RunCauses (cause_before windows s cells order) (length o.table) (room o table) work (run_cause windows s cells order table work)
unfolding run_cause
run-told windows s cells order table work = run_causes (overlay_of windows s cells) (cause_before windows s cells order) table work (never 7 (omega arith) (λ e. omega arith) (λ e. omega arith)) (never 19 (omega arith) (λ e. omega arith) (λ e. omega arith))
  where
    never : (n : ℕ) → 5 < n → (n ≡ 17 → ⊥) → (n ≡ 24 → ⊥) → cause_before windows s cells order ≡ n → ⊥
    never n h y z e = first-not windows s cells order n h y z e

-- ---- refusals
-- a page that was made is accepted
pub stop-none : {S : Type 0} (o : Overlay S) (c : Cursor) (budget : ℕ) (table : List ℕ) → stop_number (paged o c budget table).stop ≡ 0
stop-none o c budget table = ⊎_elim (λ e. rw e) (⊎_elim (λ e. rw e) (λ e. rw e)) (page-stops row_of budget (room o table) (list_in (resume o c)))

-- the number that a page call tells, where the page that it is due is accepted
stop-on : (c : ℕ) (p : PageValues) (t : Ticket) → stop_number p.stop ≡ 0 → stop_number (on_cause c p (refused_page t)).stop ≡ c
stop-on zero p t e = e
stop-on (suc c) p t e = refl

pub page_number : (x : Call) → stop_number (answer x).stop ≡ cause x
unfolding page_call
page_number x = stop-on (cause x) _ x.ticket (stop-none _ x.ticket.cursor x.budget x.table)

pub refused-fresh : (s : Shape) (cells : List ℤ) (order counter : List ℕ) (n : ℕ) → fresh_cause s cells order counter ≡ suc n
    → (fresh_call s cells order counter ≡ record { number = suc n; ticket = record { cursor = no_trial; count = 0 } }) × (fresh_counter s cells order counter ≡ counter)
unfolding fresh_call fresh_counter
refused-fresh s cells order counter n e = (rw e, rw e)

pub refused-page : (x : Call) (n : ℕ) → cause x ≡ suc n
    → (answer x ≡ record { stop = Refused (suc n); rows = 0; probes = 0; area = total_of 0; ticket = x.ticket }) × (table_after x ≡ x.table) × (counted x ≡ x.counter)
unfolding page_call page_table page_counter
refused-page x n e = (rw e, rw e, rw e)

pub refused-run : (windows : Option (List ℕ)) (s : Shape) (cells : List ℤ) (order table : List ℕ) (work n : ℕ) → run_cause windows s cells order table work ≡ suc n
    → (run_call windows s cells order table work ≡ Err (suc n)) × (run_table windows s cells order table work ≡ table)
unfolding run_call run_table
refused-run windows s cells order table work n e = (rw e, rw e)
