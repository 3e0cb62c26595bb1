-- What each call answers is as it is promised.
use mathlib.Core.Path.{◌≡◌, refl, ap, ◌∙◌}
use mathlib.Core.List.{List, [], ◌∷◌}
use mathlib.Core.Logic.{◌↔◌}
use mathlib.Core.Option.{Option, none, some}
use Prim.Native.Nat.{ℕ, ◌+◌, ◌<◌}
use native.Mathlib.Omega.{arith}
use lib.IntN.{ℤ}
use lib.ListN.{length, drop}
use lib.Seq.{drop-drop}
use borrow.Author.Tests.{eqb-true, eq-eqb}
use Rattle.plan.specs.declared.Shape.{Shape}
use Rattle.plan.specs.Plan.{sizes_of, Typed, Sound, grown}
use Rattle.plan.proofs.Plan.{or-else-zero, unless-zero}
use Rattle.plan.proofs.Growing.{framed}
use Rattle.sweep.specs.Sweep.{order_cause}
use Rattle.search.specs.Traversal.{Probe}
use Rattle.search.specs.Names.{Alike, neither, first}
use Rattle.timed.proofs.Timed.{timed-alike}
use Rattle.paging.specs.declared.Cursor.{Cursor}
use Rattle.paging.specs.Overlays.{overlay, overlay_of}
use Rattle.paging.specs.Cursors.{due_cursor, resume}
use Rattle.paging.specs.Calls.{fresh_cause, fresh_call, fresh_counter, WorkAfter}
use Rattle.paging.specs.Theorems.{Call, overlay_at, cause, answer, table_after, Due, PageHolds, AnswersHold, Answers}
use Rattle.paging.proofs.Overlays.{of-plan, of-timed, laws-of}
use Rattle.paging.proofs.Resume.{resume-due}
use Rattle.paging.proofs.Named.{due-is, left-due}
use Rattle.paging.proofs.Causes.{sound-of, sound-ordered, fresh-checks, page-told, page-checks, run-checks, refused-fresh, refused-page, refused-run}
use Rattle.paging.proofs.Pages.{page-holds}
use Rattle.paging.proofs.Serving.{serves-own, accepted-first}

-- ---- the fresh call
-- lists of probes that begin alike have the same cursor
due-alike : {S T : Type 0} (ns : List ℕ) {v : List (Probe S)} {w : List (Probe T)} → Alike v w → due_cursor ns v ≡ due_cursor ns w
due-alike ns neither = refl
due-alike ns (first p q r) = rw (p, q, r)

-- the timed walk begins as the old one
same-begin : (windows : Option (List ℕ)) (s : Shape) (cells : List ℤ) → Sound s cells → let o = overlay_of windows s cells in due_cursor (sizes_of s) (overlay s cells).walk ≡ due_cursor o.sizes o.walk
same-begin none s cells h = refl
same-begin (some hours) s cells h = due-alike (sizes_of s) (timed-alike (sizes_of s) (grown s cells) hours (framed s cells h).1)

-- the fresh call that is accepted
pub fresh-accepted : (windows : Option (List ℕ)) (s : Shape) (cells : List ℤ) (order counter : List ℕ) → Typed s → order_cause s cells order ≡ 0 → length counter ≡ 1
    → let o = overlay_of windows s cells in (fresh_call s cells order counter ≡ record { number = 0; ticket = record { cursor = due_cursor o.sizes o.walk; count = 0 } }) × (fresh_counter s cells order counter ≡ 0 ∷ [])
unfolding fresh_cause fresh_call fresh_counter
fresh-accepted windows s cells order counter typed e l =
    let h = eq-eqb (length counter) 1 l in
    let b = same-begin windows s cells (sound-ordered s cells order typed e) in
    (rw (e, h) (ap (λ (c : Cursor). record { number = 0; ticket = record { cursor = c; count = 0 } }) b), rw (e, h))

-- the checks that it passes
pub fresh-passed : (s : Shape) (cells : List ℤ) (order counter : List ℕ) → fresh_cause s cells order counter ≡ 0 → (order_cause s cells order ≡ 0) × (length counter ≡ 1)
unfolding fresh_cause
fresh-passed s cells order counter f = let h = or-else-zero (order_cause s cells order) _ f in (h.0, eqb-true (length counter) 1 (unless-zero _ 17 h.1))

-- ---- calls on a plan
-- what is left after any number of probes is due at its cursor
pub due-left : (windows : Option (List ℕ)) (s : Shape) (cells : List ℤ) → Sound s cells → let o = overlay_of windows s cells in (n : ℕ) → Due o.sizes (due_cursor o.sizes (drop n o.walk)) (drop n o.walk)
due-left none s cells h = left-due _ (of-plan (sizes_of s) (grown s cells) (framed s cells h).1)
due-left (some hours) s cells h = left-due _ (of-timed (sizes_of s) (grown s cells) (framed s cells h).1 hours)

fresh-due : (windows : Option (List ℕ)) (s : Shape) (cells : List ℤ) (order counter : List ℕ) → Typed s → fresh_cause s cells order counter ≡ 0
    → let o = overlay_of windows s cells in let f = fresh_call s cells order counter in
    (f.number ≡ 0) × Due o.sizes f.ticket.cursor o.walk × (f.ticket.count ≡ 0) × (fresh_counter s cells order counter ≡ 0 ∷ [])
fresh-due windows s cells order counter typed f =
    let c = fresh-passed s cells order counter f in
    let h = fresh-accepted windows s cells order counter typed c.0 c.1 in
    let d = due-left windows s cells (sound-ordered s cells order typed c.0) 0 in
    (rw h.0, rw h.0 d, rw h.0, h.1)

-- ---- one page call
-- a cursor's page is of what is left there
pub page-due : (x : Call) (n : ℕ) → Typed x.shape → cause x ≡ 0 → let o = overlay_at x in Due o.sizes x.ticket.cursor (drop n o.walk) → PageHolds o x (drop n o.walk) (answer x) (table_after x)
page-due x n typed e d =
    let h = sound-of x.windows x.shape x.cells x.order typed (accepted-first x e) in
    let l = laws-of x.windows x.shape x.cells h in
    let r : resume (overlay_at x) x.ticket.cursor ≡ some (drop n (overlay_at x).walk) = ap (resume (overlay_at x)) (due-is (overlay_at x).sizes d) ∙ resume-due (overlay_at x) l n in
    page-holds (overlay_at x) l x (serves-own x) (drop n (overlay_at x).walk) e r (λ m. rw drop-drop (due-left x.windows x.shape x.cells h (n + m)))

-- and something is
pub page-left : (x : Call) → Typed x.shape → cause x ≡ 0 → let o = overlay_at x in (n : ℕ) × Due o.sizes x.ticket.cursor (drop n o.walk) × PageHolds o x (drop n o.walk) (answer x) (table_after x)
page-left x typed e = let g = ((page-told x typed).none.0 e).1 in (g.0, g.1, page-due x g.0 typed e g.1)

-- ---- the work buffer
work-after : (n : ℕ) (before left : List ℤ) → WorkAfter n before left ↔ ((length left ≡ length before) × (0 < n → left ≡ before))
work-after n before left = (λ h. (h.long, λ p. h.kept (λ e. omega (arith, p, e))), λ h. record { long = h.0; kept = λ z. h.1 (omega (arith, z)) })

-- ---- each call
answers-hold : (windows : Option (List ℕ)) (s : Shape) (cells : List ℤ) (order counter table : List ℕ) (work : ℕ)
    → AnswersHold (overlay_of windows s cells) windows s cells order counter table work
answers-hold windows s cells order counter table work = record {
  fresh_causes = fresh-checks s cells order counter;
  run_causes = run-checks windows s cells order table work;
  fresh_refused = refused-fresh s cells order counter;
  run_refused = refused-run windows s cells order table work;
  fresh = fresh-due windows s cells order counter;
  due = λ h n. (due_cursor (overlay_of windows s cells).sizes (drop n (overlay_of windows s cells).walk), due-left windows s cells h n);
}

pub answers : Answers
answers = record {
  calls = answers-hold;
  page_causes = page-checks;
  page_refused = refused-page;
  fresh_answer = λ t c. (refl, refl);
  stop_answer = (refl, refl, refl, λ n. refl);
  page_answer = λ p. refl;
  page_number = (refl, refl, refl, λ n. refl);
  page = page-due;
  values_of_run = λ n rows probes area ground. (refl, refl);
  work = work-after;
}
