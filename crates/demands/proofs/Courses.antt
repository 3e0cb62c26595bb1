-- Along a run over any walk, the count of each ticket is the probes done so far, and tickets with the same count are the same.
use mathlib.Core.Path.{◌≡◌, refl, sym, ap, ◌∙◌, subst}
use mathlib.Core.Option.{Option}
use mathlib.Core.Logic.{◌⊎◌, inl, inr, ⊎_elim}
use mathlib.Core.List.Memᴰ
use mathlib.Core.List.{List, [], ◌∷◌, ◌++◌, map, Memᴰ}
use Prim.Native.Nat.{ℕ, zero, suc, ◌+◌}
use native.Mathlib.Omega.{arith}
use lib.IntN.{ℤ}
use lib.ListN.{drop, get_or}
use lib.Seq.{drop-drop}
use Rattle.lists.specs.Lists.{All, none_left, ◌and◌}
use Rattle.lists.proofs.Lists.{all-at}
use Rattle.plan.specs.declared.Shape.{Shape}
use Rattle.plan.specs.Causes.{on_cause}
use Rattle.search.specs.Traversal.{Probe, Row, row_of}
use Rattle.search.specs.Paging.{Paged, page}
use Rattle.search.proofs.Paging.{page-rest}
use Rattle.paging.specs.declared.Ticket.{Ticket}
use Rattle.paging.specs.Overlays.{Overlay}
use Rattle.paging.specs.Cursors.{due_cursor}
use Rattle.paging.specs.Pages.{room}
use Rattle.paging.specs.Theorems.{Call, cause, answer, counted}
use Rattle.demands.specs.Theorems.{reported, accepted, tickets_of, newest_of, counter_after, Each}
use Rattle.paging.proofs.Overlays.{Lawful}
use Rattle.paging.proofs.Resume.{resume-due}
use Rattle.paging.proofs.Calls.{page_on, Serves, agrees}
use Rattle.demands.proofs.Lasts.{Declined, LastAt, counts, counts-not}
use Rattle.demands.proofs.Chains.{Linked}
use Rattle.demands.proofs.Chains as Chains

-- a run so far: the ticket that its fresh start or its last accepted call returned, those that they returned before, and its counter as that call left it
pub record Course : Type 0 where
  pub newest : Ticket
  pub earlier : List Ticket
  pub counter : List ℕ

-- as a fresh start begins it
abbrev pub begun : Ticket → List ℕ → Course
begun t counter = record { newest = t; earlier = []; counter = counter }

-- behind an accepted call
abbrev pub advanced : Course → Call → Course
advanced r x = record { newest = (answer x).ticket; earlier = r.newest ∷ r.earlier; counter = counted x }

-- behind a list of calls, of which the refused ones do not count
abbrev pub course_after : Course → List Call → Course
course_after r [] = r
course_after r (x ∷ xs) = course_after (on_cause (cause x) (advanced r x) (λ n. r)) xs

-- a ticket of the run
abbrev pub OfRun : Course → Ticket → Type 0
OfRun r t = Memᴰ t (r.newest ∷ r.earlier)

-- ---- calls that do not count
on-refused : {A : Type 0} (n : ℕ) (a b : A) → (n ≡ 0 → ⊥) → on_cause n a (λ m. b) ≡ b
on-refused zero a b h = absurd (h refl)
on-refused (suc n) a b h = refl

course-none : {xs : List Call} (r : Course) → All Declined xs → course_after r xs ≡ r
course-none r none_left = refl
course-none r (◌and◌ {a = x} n ns) = rw (on-refused (cause x) (advanced r x) r n) (course-none r ns)

-- the newest ticket is the one that the last accepted call returned
course-newest : (ys : List Call) (x : Call) {zs : List Call} (r : Course) → cause x ≡ 0 → All Declined zs → (course_after r (ys ++ x ∷ zs)).newest ≡ (answer x).ticket
course-newest [] x r e n = rw (e, course_after) (ap (λ (q : Course). q.newest) (course-none (advanced r x) n))
course-newest (y ∷ ys) x r e n = course-newest ys x _ e n

pub newest-is : (r : Course) (xs : List Call) (x : Call) → LastAt xs x → (course_after r xs).newest ≡ (answer x).ticket
newest-is r xs x l = rw l.is (course-newest l.before x r l.accepted l.none_after)

-- behind one call, whichever way it goes
pub course-next : (P : Course → Type 0) (r : Course) (x : Call) (xs : List Call) → (cause x ≡ 0 → P (course_after (advanced r x) xs)) → (Declined x → P (course_after r xs))
    → P (course_after r (x ∷ xs))
course-next P r x xs f g = go (cause x) refl
  where
    go : (c : ℕ) → cause x ≡ c → P (course_after (on_cause (cause x) (advanced r x) (λ n. r)) xs)
    go zero e = rw e (f e)
    go (suc c) e = rw e (g (λ z. omega arith))

-- ---- a run by the calls that count
-- its newest ticket and its counter
pub course-newest-is : (r : Course) (ys : List Call) → (course_after r ys).newest ≡ newest_of r.newest ys
course-newest-is r [] = refl
course-newest-is r (y ∷ ys) = course-next (λ q. q.newest ≡ newest_of r.newest (y ∷ ys)) r y ys
    (λ e. course-newest-is (advanced r y) ys ∙ rw (counts y ys e))
    (λ n. course-newest-is r ys ∙ rw (counts-not y ys n))

pub course-counter-is : (r : Course) (ys : List Call) → (course_after r ys).counter ≡ counter_after r.counter ys
course-counter-is r [] = refl
course-counter-is r (y ∷ ys) = course-next (λ q. q.counter ≡ counter_after r.counter (y ∷ ys)) r y ys
    (λ e. course-counter-is (advanced r y) ys ∙ rw (counts y ys e))
    (λ n. course-counter-is r ys ∙ rw (counts-not y ys n))

-- its tickets
course-has : (t : Ticket) (r : Course) (ys : List Call) → Memᴰ t (map (λ x. (answer x).ticket) (accepted ys)) ⊎ OfRun r t → OfRun (course_after r ys) t
course-has t r [] (inl m) = absurd (Memᴰ.not-nil m)
course-has t r [] (inr m) = m
course-has t r (y ∷ ys) h = course-next (λ q. OfRun q t) r y ys
    (λ e. course-has t (advanced r y) ys (⊎_elim (λ m. first e m) (λ m. inr (Memᴰ.tail m)) h))
    (λ n. course-has t r ys (⊎_elim (λ m. inl (rw (counts-not y ys n) at m)) inr h))
  where
    first : cause y ≡ 0 → Memᴰ t (map (λ x. (answer x).ticket) (accepted (y ∷ ys))) → Memᴰ t (map (λ x. (answer x).ticket) (accepted ys)) ⊎ OfRun (advanced r y) t
    first e m = ⊎_elim (λ q. inr (Memᴰ.head q)) inl (Memᴰ.cases_cons (rw (counts y ys e) at m))

pub begun-has : (t u : Ticket) (counter : List ℕ) (ys : List Call) → Memᴰ u (tickets_of t ys) → OfRun (course_after (begun t counter) ys) u
begun-has t u counter ys m = course-has u (begun t counter) ys (⊎_elim (λ e. inr (Memᴰ.head e)) inl (Memᴰ.cases_cons m))

-- ---- lists of calls in a run, one by one
pub data InRun (windows : Option (List ℕ)) (s : Shape) (cells : List ℤ) : Course → List Call → Type 0 where
  run_end : {r : Course} → InRun windows s cells r []
  run_refused : {r : Course} {x : Call} {xs : List Call} → (cause x ≡ 0 → ⊥) → InRun windows s cells r xs → InRun windows s cells r (x ∷ xs)
  run-accepted : {r : Course} {x : Call} {xs : List Call} → cause x ≡ 0 → x.windows ≡ windows → x.shape ≡ s → x.cells ≡ cells → OfRun r x.ticket
      → x.counter ≡ r.counter → InRun windows s cells (advanced r x) xs → InRun windows s cells r (x ∷ xs)

-- each of them, by the run behind the ones before it
abbrev pub EachOf : (windows : Option (List ℕ)) → Shape → List ℤ → Course → List Call → Type 0
EachOf windows s cells r xs = Each windows s cells (λ ys x. OfRun (course_after r ys) x.ticket × (x.counter ≡ (course_after r ys).counter)) xs

module _ {windows : Option (List ℕ)} {s : Shape} {cells : List ℤ} where
  -- behind one call
  pub each_next : (r : Course) (x : Call) (xs : List Call) → cause x ≡ 0 → EachOf windows s cells r (x ∷ xs) → EachOf windows s cells (advanced r x) xs
  each_next r x xs e h ys y zs q a =
      let g = h (x ∷ ys) y zs (ap (λ (l : List Call). x ∷ l) q) a in
      let k : course_after r (x ∷ ys) ≡ course_after (advanced r x) ys = ap (λ (n : ℕ). course_after (on_cause n (advanced r x) (λ m. r)) ys) e in
      (g.0, g.1, g.2, (subst (λ (q : Course). OfRun q y.ticket) k g.3.0, g.3.1 ∙ ap (λ (q : Course). q.counter) k))

  each-passed : (r : Course) (x : Call) (xs : List Call) → Declined x → EachOf windows s cells r (x ∷ xs) → EachOf windows s cells r xs
  each-passed r x xs n h ys y zs q a =
      let g = h (x ∷ ys) y zs (ap (λ (l : List Call). x ∷ l) q) a in
      let k : course_after r (x ∷ ys) ≡ course_after r ys = ap (λ (q : Course). course_after q ys) (on-refused (cause x) (advanced r x) r n) in
      (g.0, g.1, g.2, (subst (λ (q : Course). OfRun q y.ticket) k g.3.0, g.3.1 ∙ ap (λ (q : Course). q.counter) k))

  pub in-run : (r : Course) (xs : List Call) → EachOf windows s cells r xs → InRun windows s cells r xs
  in-run r [] h = run_end
  in-run r (x ∷ xs) h = go (cause x) refl (λ q. in-run q xs)
    where
      go : (c : ℕ) → cause x ≡ c → ((q : Course) → EachOf windows s cells q xs → InRun windows s cells q xs) → InRun windows s cells r (x ∷ xs)
      go zero e rest = let g = h [] x xs refl e in run-accepted e g.0 g.1 g.2 g.3.0 g.3.1 (rest (advanced r x) (each_next r x xs e h))
      go (suc c) e rest = let n : Declined x = λ z. omega arith in run_refused n (rest r (each-passed r x xs n h))

module _ {S : Type 0} (o : Overlay S) where
  -- ---- tickets
  -- the ticket names what is left after as many probes as it counts
  abbrev pub Counts : Ticket → Type 0
  Counts t = t.cursor ≡ due_cursor o.sizes (drop t.count o.walk)

  -- of such tickets, those with the same count are the same
  pub same_count : (t u : Ticket) → Counts t → Counts u → t.count ≡ u.count → t ≡ u
  same_count t u p q e = let c = p ∙ (ap (λ (n : ℕ). due_cursor o.sizes (drop n o.walk)) e ∙ sym q) in λ i. record { cursor = c i; count = e i }

  -- an accepted call returns such a ticket for such a one
  counts-next : Lawful o → (x : Call) → Serves o x → cause x ≡ 0 → Counts x.ticket → Counts (answer x).ticket
  counts-next l x v e h = rw (v.page e) (ap (due_cursor o.sizes) left)
    where
      n : ℕ
      n = x.ticket.count

      p : Paged (Probe S) (Row S)
      p = page row_of x.budget (room o x.table) (drop n o.walk)

      is : page_on o x ≡ p
      is = rw (h, resume-due o l n)

      left : (page_on o x).rest ≡ drop (n + (page_on o x).done) o.walk
      left = rw is (page-rest row_of x.budget (room o x.table) (drop n o.walk) ∙ drop-drop p.done n o.walk)

  -- ---- runs
  -- each ticket of the run is such a one, and its counter holds the count of the newest
  pub record Steady (r : Course) : Type 0 where
    pub counts : All Counts (r.newest ∷ r.earlier)
    pub counter : r.counter ≡ r.newest.count ∷ []

  -- calls on one overlay, each of them refused or with a ticket and the counter of the run
  pub data Going : Course → List Call → Type 0 where
    going_end : {r : Course} → Going r []
    going-refused : {r : Course} {x : Call} {xs : List Call} → Serves o x → (cause x ≡ 0 → ⊥) → Going r xs → Going r (x ∷ xs)
    going-accepted : {r : Course} {x : Call} {xs : List Call} → Serves o x → cause x ≡ 0 → OfRun r x.ticket → x.counter ≡ r.counter → Going (advanced r x) xs → Going r (x ∷ xs)

  pub newest-counts : (r : Course) → Steady r → Counts r.newest
  newest-counts r h = all-at h.counts (Memᴰ.head refl)

  -- a ticket of the run with the count of the newest is the newest
  pub steady-same : (r : Course) (t : Ticket) → Steady r → OfRun r t → t.count ≡ r.newest.count → t ≡ r.newest
  steady-same r t h m e = same_count t r.newest (all-at h.counts m) (newest-counts r h) e

  -- an accepted call brings the newest ticket
  accepted-newest : (r : Course) (x : Call) → Steady r → Serves o x → cause x ≡ 0 → OfRun r x.ticket → x.counter ≡ r.counter → x.ticket ≡ r.newest
  accepted-newest r x h v e m k = steady-same r x.ticket h m (ap (λ (l : List ℕ). get_or l 0 0) (sym (v.counter e) ∙ (k ∙ h.counter)))

  module _ (l : Lawful o) where
    -- and the run goes on so
    accepted-steady : (r : Course) (x : Call) → Steady r → Serves o x → cause x ≡ 0 → OfRun r x.ticket → Steady (advanced r x)
    accepted-steady r x h v e m = record { counts = ◌and◌ (counts-next l x v e (all-at h.counts m)) h.counts; counter = v.counted e ∙ rw (v.page e) }

    -- so each accepted call brings the ticket that is due
    pub going-linked : {r : Course} {xs : List Call} → Steady r → Going r xs → Linked o r.newest xs
    going-linked h going_end = Chains.end
    going-linked h (going-refused v n g) = Chains.refused v n (going-linked h g)
    going-linked {r} h (going-accepted {x = x} v e m k g) =
        Chains.accepted v e (accepted-newest r x h v e m k) (going-linked (accepted-steady r x h v e m) g)

    -- behind any first calls of the list it is so, and the newest ticket counts the probes reported
    pub going-steady : (ys zs : List Call) {r : Course} → Steady r → Going r (ys ++ zs) → let q = course_after r ys in Steady q × (q.newest.count ≡ r.newest.count + reported ys)
    going-steady [] zs h g = (h, omega arith)
    going-steady (y ∷ ys) zs {r} h (going-refused v n g) =
        let i = going-steady ys zs h g in
        let c = ap (λ (q : Course). course_after q ys) (on-refused (cause y) (advanced r y) r n) in
        rw c (i.0, omega (arith, i.1, (v.none n).0))
    going-steady (y ∷ ys) zs {r} h (going-accepted v e m k g) =
        let i = going-steady ys zs (accepted-steady r y h v e m) g in
        let a = (agrees o l y v).ticket e in
        let b = ap (λ (t : Ticket). t.count) a in
        let c = ap (λ (t : Ticket). t.count) (accepted-newest r y h v e m k) in
        rw (e, course_after) (i.0, omega (arith, i.1, b, c))
