-- What 02, Q-10, says of rounds.
use mathlib.Core.Path.{◌≡◌, refl, sym, ap, ap₂, ◌∙◌, subst}
use mathlib.Core.List.{List, [], ◌∷◌, ◌++◌, map, flat_map, append-nil}
use mathlib.Core.Logic.{◌⊎◌, inl, inr, ⊎_elim}
use mathlib.Core.Option.{none}
use mathlib.Core.Bool.{Bool, true, false, cond, ◌&&◌}
use Prim.Native.Nat.{ℕ, zero, suc, ◌+◌, ◌-◌, ◌*◌, ◌/◌, ◌≤◌, ◌<◌}
use native.Mathlib.Nat.{mul-div_cancel_left, le-div_iff_mul-le}
use native.Mathlib.Numerals.{add-one}
use native.Mathlib.Omega.{arith}
use lib.IntN.{ℤ}
use lib.Dec.{eqb, leb, ltb}
use lib.ListN.{length, get_or, take, drop, length-append, length-drop}
use lib.Seq.{drop-cons}
use borrow.Author.Tests.{leb-true, le-leb, lt-leb, lt-ltb, eqb-true, eq-eqb}
use Rattle.lists.specs.Lists.{sum, numbers, each, upto, keep}
use Rattle.lists.proofs.Lists.{all_map}
use Rattle.lists.proofs.Kept.{map_same, map_each, length-upto, get_d-upto}
use Rattle.lists.proofs.Numbers.{numbers-below}
use Rattle.lists.proofs.Tests.{clash}
use Rattle.plan.specs.declared.Shape.{Shape}
use Rattle.plan.specs.Plan.{sizes_of, Typed}
use Rattle.plan.proofs.Theorems.{plans}
use Rattle.search.specs.Stops.{Ended, Full}
use Rattle.paging.specs.Answers.{PageValues}
use Rattle.paging.specs.Cursors.{ended_cursor}
use Rattle.paging.specs.Overlays.{Overlay, overlay}
use Rattle.search.specs.Traversal.{Probe}
use Rattle.plan.specs.Causes.{on_cause}
use Rattle.paging.specs.Calls.{fresh_cause, fresh_call, fresh_counter, refused_page}
use Rattle.paging.specs.Pages.{room}
use Rattle.paging.specs.Theorems.{Call, cause, answer, table_after, PageHolds}
use Rattle.demands.specs.Theorems.{OneRun, handed, allowing}
use Rattle.rows.specs.Tables.{rows_in}
use Rattle.demands.proofs.Courses.{Course, begun, advanced, EachOf, each_next, begun-has, course-counter-is}
use Rattle.paging.proofs.Causes.{sound-ordered}
use Rattle.demands.proofs.Theorems.{demand3}
use Rattle.paging.proofs.Theorems.{page-left}
use Rattle.rounds.specs.Rounds.{RoundValues}
use Rattle.rounds.specs.Shares.{client_at, turn_of, left_behind}
use Rattle.rounds.specs.Shares as Shares
use Rattle.rounds.specs.Rounds.{Request, ticket_at, counter_at, part_size, part_at, round_cause, probes_of, budget_at, page_at, counted_at, filled_at, answer_at, idle_page, round_call, round_counters, round_table}
use Rattle.rounds.specs.Theorems.{call_with, call_of, client_page, part_of, rows_for, turn, NextClient, Turns, ClientHolds, RoundHolds, RoundRefused, serving, roomy, calls_of, ListHolds, RoundsHold}
use Rattle.rounds.proofs.Shares.{after_last, after_next, client-from, client-to, turn-client, client-turn, turn_below, share-offered, left-done, all-in-turn, total-parts}
use Rattle.rounds.proofs.Parts.{each_within, each_long, part-is, rest-is, cut-long, parts_within}
use Rattle.rounds.proofs.Calls.{probes-few, table-long, counter-long}
use Rattle.rounds.proofs.Causes.{Accepted, accepted-is, round-causes}
use Rattle.rounds.proofs.Alone.{answer-alone, rows-alone}

-- ---- refusals
module _ (q : Request) where
  round_number : (round_call q).number ≡ round_cause q
  unfolding round_call
  round_number = go (round_cause q) _ _
    where
      go : (n next : ℕ) (pages : List PageValues) → ◌≡◌ {A = ℕ} (on_cause {A = RoundValues} n (record { number = 0; next = next; pages = pages }) (λ m. record { number = m; next = 0; pages = map (λ t. refused_page t m) q.tickets })).number n
      go zero next pages = refl
      go (suc n) next pages = refl

  round-refused : (n : ℕ) → round_cause q ≡ suc n → RoundRefused q (suc n)
  unfolding round_call round_counters round_table
  round-refused n e = record { answer = rw e; counters = rw e; table = rw e }

-- ---- an accepted round
module _ (q : Request) (typed : Typed q.shape) (e : round_cause q ≡ 0) where
  acc : Accepted q
  acc = accepted-is q e

  from : 1 ≤ q.first
  from = acc.fit.from

  to : q.first ≤ q.clients
  to = acc.fit.to

  pages-are : (round_call q).pages ≡ upto (answer_at q) 1 16
  unfolding round_call
  pages-are = rw e

  -- the page of client t
  page-at : (t : ℕ) → 1 ≤ t → t ≤ 16 → client_page q t ≡ answer_at q t
  page-at t a b =
      let z : 1 + (t - 1) ≡ t = omega arith in
      ap (λ (l : List PageValues). get_or l (t - 1) (idle_page (record { cursor = ended_cursor; count = 0 }))) pages-are ∙ get_d-upto (answer_at q) 1 16 (t - 1) _ (omega arith) ∙ ap (answer_at q) z

  page-of : (t : ℕ) → 1 ≤ t → t ≤ q.clients → client_page q t ≡ page_at q t
  page-of t a b = page-at t a (omega (arith, acc.fit.few)) ∙ rw (le-leb t q.clients b)

  page-past : (t : ℕ) → q.clients < t → t ≤ 16 → client_page q t ≡ idle_page (ticket_at q t)
  page-past t a b = page-at t (omega arith) b ∙ rw (lt-leb t q.clients a)

  -- no page call does more than it is offered
  few : (t b : ℕ) → probes_of q t b ≤ b
  unfolding probes_of
  few t b = probes-few (record { shape = q.shape; cells = q.cells; windows = none; order = q.order; ticket = ticket_at q t; counter = counter_at q t; budget = b; table = part_at q t })

  -- ---- turns
  left : ℕ → ℕ
  left i = left_behind (probes_of q) q.clients q.first q.budget i

  budget-at : (i : ℕ) → i < q.clients → budget_at q (client_at q.clients q.first i) ≡ left i / (q.clients - i)
  unfolding left
  budget-at i h = ap (λ (j : ℕ). left j / (q.clients - j)) (turn-client q.clients q.first from to i h)

  -- the probes of the client in turn i
  probes-at : (i : ℕ) → i < q.clients → (client_page q (client_at q.clients q.first i)).probes ≡ probes_of q (client_at q.clients q.first i) (left i / (q.clients - i))
  unfolding probes_of
  probes-at i h =
      let c = client_at q.clients q.first i in
      ap (λ (p : PageValues). p.probes) (page-of c (client-from q.clients q.first from to i h) (client-to q.clients q.first from to i h)) ∙ ap (probes_of q c) (budget-at i h)

  -- the probes of the first i clients that are served
  abbrev spent : (i : ℕ) → ℕ
  spent i = sum (map (λ j. (client_page q (turn q j)).probes) (numbers i))

  spent-is : (i : ℕ) → i ≤ q.clients → left i + spent i ≡ q.budget
  unfolding left
  spent-is i h =
      let same = map_same (λ j. (client_page q (client_at q.clients q.first j)).probes) (λ j. probes_of q (client_at q.clients q.first j) (left j / (q.clients - j))) (all_map (λ j b. probes-at j (omega arith)) (numbers-below i)) in
      ap (λ (l : List ℕ). left i + sum l) same ∙ left-done (probes_of q) few q.clients q.first q.budget i h

  next-is : (t : ℕ) → NextClient q t (Shares.after q.clients t)
  next-is t = (after_last q.clients t, λ h. after_next q.clients t h ∙ sym (add-one t))

  turns : Turns q
  turns = record {
    start = refl;
    next = λ i. next-is (turn q i);
    all = λ t a b. (turn_of q.clients q.first t, turn_below q.clients q.first from to t a b, client-turn q.clients q.first from to t a b);
    offers = λ i h. budget-at i h ∙ ap (λ (n : ℕ). n / (q.clients - i)) (omega (arith, spent-is i (omega arith)));
  }

  -- ---- clients
  cut : (t : ℕ) → part_at q t ≡ part_of q t q.table
  cut t = refl

  module _ (t : ℕ) (low : 1 ≤ t) (high : t ≤ q.clients) where
    one_cell : counter_at q t ≡ get_or q.counters (t - 1) 0 ∷ []
    one_cell = ap (take 1) (drop-cons q.counters (t - 1) 0 (omega (arith, acc.fit.one_each)))

    its-counter : length (counter_at q t) ≡ 1
    its-counter = ap length one_cell

    its-part : length (part_at q t) ≡ part_size q
    its-part = ap length (cut t) ∙ cut-long (part_size q) q.table q.clients t low high (parts_within q.shape.k q.clients (length q.table) q.clients (omega arith))

    -- the smallest share
    its-share : q.budget / q.clients ≤ budget_at q t
    its-share = share-offered (probes_of q) few q.clients q.first q.budget (turn_of q.clients q.first t) (turn_below q.clients q.first from to t low high)

  counters-are : round_counters q ≡ each (counted_at q) 1 q.clients
  unfolding round_counters
  counters-are = rw e

  table_is : round_table q ≡ each (filled_at q) 1 q.clients ++ drop (q.clients * part_size q) q.table
  unfolding round_table
  table_is = rw e

  counters-long : (t : ℕ) → 1 ≤ t → t ≤ q.clients → length (counted_at q t) ≡ 1
  counters-long t a b = counter-long (call_of q t) typed (its-counter t a b)

  parts-long : (t : ℕ) → 1 ≤ t → t ≤ q.clients → length (filled_at q t) ≡ part_size q
  parts-long t a b = table-long (call_of q t) typed ∙ its-part t a b

  part_filled : (t : ℕ) → 1 ≤ t → t ≤ q.clients → part_of q t (round_table q) ≡ table_after (call_of q t)
  part_filled t a b = ap (part_of q t) table_is ∙ part-is (part_size q) q.clients (filled_at q) (drop (q.clients * part_size q) q.table) parts-long t a b

  client-holds : (t : ℕ) → 1 ≤ t → t ≤ q.clients → ClientHolds q t
  client-holds t a b = record {
    brings = refl;
    lends = one_cell t a b;
    accepted = passes;
    page = page-of t a b;
    counter =
        let z : (t - 1) * 1 ≡ t - 1 = omega arith in
        let p = part-is 1 q.clients (counted_at q) [] counters-long t a b in
        ap (λ (l : List ℕ). take 1 (drop (t - 1) l)) (counters-are ∙ sym (append-nil (each (counted_at q) 1 q.clients))) ∙ (rw z at p);
    part = part_filled t a b;
    cut = cut t;
    offered = its-share t a b;
    share = share (page-left (call_of q t) typed passes).2;
    alone = alone;
  }
    where
      passes : cause (call_of q t) ≡ 0
      passes = acc.each-passes t a b

      share : {S : Type 0} {o : Overlay S} {w : List (Probe S)} → PageHolds o (call_of q t) w (answer (call_of q t)) (table_after (call_of q t))
          → ((client_page q t).stop ≡ Ended) ⊎ (((client_page q t).stop ≡ Full) ⊎ (q.budget / q.clients ≤ (client_page q t).probes))
      share h =
          let stop = ap (λ (p : PageValues). p.stop) (page-of t a b) in
          let probes = ap (λ (p : PageValues). p.probes) (page-of t a b) in
          ⊎_elim (λ k. inl (stop ∙ k.0)) (⊎_elim (λ k. inr (inl (stop ∙ k.0))) (λ k. inr (inr (omega (arith, probes, k.3, its-share t a b))))) h.stops

      rows : part_of q t (round_table q) ≡ table_after (call_of q t)
      rows = part_filled t a b

      alone : (table : List ℕ) → length table ≡ length (part_at q t)
          → (answer (call_with q t table) ≡ client_page q t) × (rows_in q.shape.k (client_page q t).rows (table_after (call_with q t table)) ≡ rows_for q t)
      alone table long =
          let p = page-of t a b in
          let r = rows-alone (call_of q t) table long typed passes in (
            answer-alone (call_of q t) table long ∙ sym p,
            subst (λ (n : ℕ). rows_in q.shape.k n (table_after (call_with q t table)) ≡ rows_in q.shape.k n (table_after (call_of q t))) (sym (ap (λ (g : PageValues). g.rows) p)) r
                ∙ sym (ap (rows_in q.shape.k (client_page q t).rows) rows),
          )

  -- ---- all of them
  -- the probes of all pages
  probes-sum : sum (map (λ p. p.probes) (round_call q).pages) ≡ spent q.clients
  probes-sum =
      let m = q.clients in
      let g : ℕ → ℕ = λ t. (client_page q t).probes in
      let a = ap (λ (l : List PageValues). sum (map (λ p. p.probes) l)) pages-are ∙ ap sum (map_each (λ p. p.probes) (λ t. answer_at q t ∷ []) 1 16) in
      let b : sum (upto (λ t. (answer_at q t).probes) 1 16) ≡ sum (upto g 1 16) = ap sum (each_within (λ t. (answer_at q t).probes ∷ []) (λ t. g t ∷ []) 1 16 (λ t x y. ap (λ (p : PageValues). p.probes ∷ []) (sym (page-at t x (omega arith))))) in
      let z : m + (16 - m) ≡ 16 = omega (arith, acc.fit.few) in
      let c = rw z at (total-parts g 1 m (16 - m)) in
      let d : sum (upto g (1 + m) (16 - m)) ≡ 0 = zeros g (1 + m) (16 - m) (λ t x y. ap (λ (p : PageValues). p.probes) (page-past t (omega arith) (omega arith))) in
      a ∙ b ∙ c ∙ omega (arith, all-in-turn g m q.first from to)
    where
      zeros : (g : ℕ → ℕ) (p n : ℕ) → ((t : ℕ) → p ≤ t → t < p + n → g t ≡ 0) → sum (upto g p n) ≡ 0
      zeros g p zero h = refl
      zeros g p (suc n) h = omega (arith, h p (omega arith) (omega arith), zeros g (suc p) n (λ t a b. h t (omega arith) (omega arith)))

  round-holds : RoundHolds q
  unfolding round_call
  round-holds = record {
    next = rw e (next-is q.first);
    turns = turns;
    clients = client-holds;
    sixteen = ap length pages-are ∙ length-upto (answer_at q) 1 16;
    past = page-past;
    within = omega (arith, probes-sum, spent-is q.clients (omega arith));
    long = ap length table_is ∙ length-append (each (filled_at q) 1 q.clients) (drop (q.clients * part_size q) q.table) ∙ omega (arith, each_long (part_size q) (filled_at q) 1 q.clients (λ t a b. parts-long t a (omega arith)), length-drop (q.clients * part_size q) q.table, parts_within q.shape.k q.clients (length q.table) q.clients (omega arith));
    rest = ap (drop (q.clients * part_size q)) table_is ∙ rest-is (part_size q) q.clients (filled_at q) (drop (q.clients * part_size q) q.table) parts-long 1 (omega arith) acc.fit.some;
    counters = ap length counters-are ∙ each_long 1 (counted_at q) 1 q.clients (λ t a b. counters-long t a (omega arith)) ∙ omega arith;
  }

-- ---- lists of rounds
-- the run of client t, round by round; r is the run so far
data RunOf (s : Shape) (cells : List ℤ) (t : ℕ) : Course → List Request → Type 0 where
  end : {r : Course} → RunOf s cells t r []
  passed_over : {r : Course} {q : Request} {qs : List Request} → (round_cause q ≡ 0 → t ≤ q.clients → ⊥) → RunOf s cells t r qs → RunOf s cells t r (q ∷ qs)
  in-turn : {r : Course} {q : Request} {qs : List Request} → round_cause q ≡ 0 → t ≤ q.clients → q.shape ≡ s → q.cells ≡ cells
      → RunOf s cells t (advanced r (call_of q t)) qs → RunOf s cells t r (q ∷ qs)

module _ (s : Shape) (cells : List ℤ) (t : ℕ) where
  -- whether a round serves it
  abbrev serves : Request → Bool
  serves q = eqb (round_cause q) 0 && leb t q.clients

  served : (q : Request) → round_cause q ≡ 0 → t ≤ q.clients → serves q ≡ true
  served q e h = rw (e, le-leb t q.clients h)

  unserved : (q : Request) → (round_cause q ≡ 0 → t ≤ q.clients → ⊥) → serves q ≡ false
  unserved q n = go (eqb (round_cause q) 0) (leb t q.clients) refl refl
    where
      go : (a b : Bool) → eqb (round_cause q) 0 ≡ a → leb t q.clients ≡ b → (a && b) ≡ false
      go true true x y = absurd (n (eqb-true (round_cause q) 0 x) (leb-true t q.clients y))
      go true false x y = refl
      go false b x y = refl

  module _ (low : 1 ≤ t) where
    -- the rounds whose page calls are in one run
    run_of : (r : Course) (qs : List Request) → EachOf none s cells r (calls_of t qs) → RunOf s cells t r qs
    run_of r [] h = end
    run_of r (q ∷ qs) h = go (eqb (round_cause q) 0) (leb t q.clients) refl refl (λ c. run_of c qs)
      where
        at : {b : Bool} → serves q ≡ b → EachOf none s cells r (map (λ q. call_of q t) (cond b (q ∷ serving t qs) (serving t qs)))
        at e = subst (λ (b : Bool). EachOf none s cells r (map (λ q. call_of q t) (cond b (q ∷ serving t qs) (serving t qs)))) e h

        go : (a b : Bool) → eqb (round_cause q) 0 ≡ a → leb t q.clients ≡ b → ((c : Course) → EachOf none s cells c (calls_of t qs) → RunOf s cells t c qs) → RunOf s cells t r (q ∷ qs)
        go true true x y rest =
            let e = eqb-true (round_cause q) 0 x in
            let l = leb-true t q.clients y in
            let i = at (served q e l) in
            let p = (accepted-is q e).each-passes t low l in
            let g = i [] (call_of q t) (calls_of t qs) refl p in
            in-turn e l g.1 g.2 (rest (advanced r (call_of q t)) (each_next r (call_of q t) (calls_of t qs) p i))
        go true false x y rest = let n : round_cause q ≡ 0 → t ≤ q.clients → ⊥ = λ e l. clash (le-leb t q.clients l) y in passed_over n (rest r (at (unserved q n)))
        go false b x y rest = let n : round_cause q ≡ 0 → t ≤ q.clients → ⊥ = λ e l. clash (eq-eqb (round_cause q) 0 e) x in passed_over n (rest r (at (unserved q n)))

    -- an accepted round that serves it, with a probe and a row for each, allows a trial and a row
    allows : (q : Request) → Typed q.shape → (e : round_cause q ≡ 0) → t ≤ q.clients → q.clients ≤ q.budget → 1 ≤ length q.table / (q.shape.k * q.clients)
        → (0 < budget_at q t) × (0 < room (overlay q.shape q.cells) (part_at q t))
    allows q typed e l enough wide =
        let a = accepted-is q e in
        let b : 1 ≤ q.budget / q.clients = (le-div_iff_mul-le {k = q.clients} {x = 1} {y = q.budget} (omega (arith, a.fit.some))).1 (omega arith) in
        let frame = plans.frames q.shape q.cells (sound-ordered q.shape q.cells q.order typed a.passed) in
        let many : length (sizes_of q.shape) ≡ q.shape.k = frame.2 in
        let more : 2 ≤ q.shape.k = omega (arith, frame.0.some) in
        let part = its-part q typed e t low l in
        let rows : part_size q / q.shape.k ≡ length q.table / (q.shape.k * q.clients) = mul-div_cancel_left (length q.table / (q.shape.k * q.clients)) (omega arith) in
        (omega (arith, its-share q typed e t low l), rw (many, part) (omega (arith, wide)))

    -- a page call that does
    abbrev allowed : Call → Bool
    allowed x = eqb (cause x) 0 && (ltb 0 x.budget && ltb 0 (room (overlay s cells) x.table))

    -- so there are no more such rounds than page calls that allow both
    few-roomy : {r : Course} {qs : List Request} → Typed s → RunOf s cells t r qs → length (roomy t qs) ≤ allowing (overlay s cells) (calls_of t qs)
    few-roomy typed end = omega arith
    few-roomy typed (passed_over {q = q} n h) = rw (unserved q n) (few-roomy typed h)
    few-roomy typed (in-turn {q = q} {qs = qs} e l shape same h) =
        rw (served q e l) (go (leb q.clients q.budget) (leb 1 (length q.table / (q.shape.k * q.clients))) refl refl (few-roomy typed h))
      where
        counted-too : (b : Bool) → length (roomy t qs) ≤ allowing (overlay s cells) (calls_of t qs) → length (roomy t qs) ≤ length (cond b (call_of q t ∷ keep allowed (calls_of t qs)) (keep allowed (calls_of t qs)))
        counted-too true k = omega arith
        counted-too false k = k

        go : (a b : Bool) → leb q.clients q.budget ≡ a → leb 1 (length q.table / (q.shape.k * q.clients)) ≡ b → length (roomy t qs) ≤ allowing (overlay s cells) (calls_of t qs)
            → length (cond (a && b) (q ∷ roomy t qs) (roomy t qs)) ≤ length (cond (allowed (call_of q t)) (call_of q t ∷ keep allowed (calls_of t qs)) (keep allowed (calls_of t qs)))
        go true true x y k =
            let w = allows q (subst Typed (sym shape) typed) e l (leb-true q.clients q.budget x) (leb-true 1 (length q.table / (q.shape.k * q.clients)) y) in
            let r : 0 < room (overlay s cells) (part_at q t) = subst (λ (y : List ℤ). 0 < room (overlay s y) (part_at q t)) same (subst (λ (z : Shape). 0 < room (overlay z q.cells) (part_at q t)) shape w.1) in
            let p = (accepted-is q e).each-passes t low l in
            rw (p, lt-ltb 0 (budget_at q t) w.0, lt-ltb 0 (room (overlay s cells) (part_at q t)) r) (omega (arith, k))
        go true false x y k = counted-too (allowed (call_of q t)) k
        go false b x y k = counted-too (allowed (call_of q t)) k

    -- what the rounds gave it is what its page calls answer and put out
    pages-are-theirs : {r : Course} {qs : List Request} → Typed s → RunOf s cells t r qs → map (λ q. client_page q t) (serving t qs) ≡ map answer (calls_of t qs)
    pages-are-theirs typed end = refl
    pages-are-theirs typed (passed_over {q = q} n h) = rw (unserved q n) (pages-are-theirs typed h)
    pages-are-theirs typed (in-turn {q = q} e l shape same h) =
        rw (served q e l) (ap₂ ◌∷◌ (client-holds q (subst Typed (sym shape) typed) e t low l).page (pages-are-theirs typed h))

    rows-are-theirs : {r : Course} {qs : List Request} → Typed s → RunOf s cells t r qs → flat_map (λ q. rows_for q t) (serving t qs) ≡ handed s.k (calls_of t qs)
    unfolding flat_map
    rows-are-theirs typed end = refl
    rows-are-theirs typed (passed_over {q = q} n h) = rw (unserved q n) (rows-are-theirs typed h)
    rows-are-theirs typed (in-turn {q = q} e l shape same h) =
        let c = client-holds q (subst Typed (sym shape) typed) e t low l in
        let x = call_of q t in
        let a = ap (λ (g : PageValues). rows_in q.shape.k g.rows (part_of q t (round_table q))) c.page in
        let b = ap (λ (y : List ℕ). rows_in q.shape.k (answer x).rows y) c.part in
        let d = ap (λ (z : Shape). rows_in z.k (answer x).rows (table_after x)) shape in
        rw (served q e l) (ap₂ ◌++◌ (a ∙ (b ∙ d)) (rows-are-theirs typed h))

    list-holds : (order counter : List ℕ) (qs : List Request) → Typed s → fresh_cause s cells order counter ≡ 0
        → let first = (fresh_call s cells order counter).ticket in let left = fresh_counter s cells order counter in
        OneRun none s cells first left (calls_of t qs) → ListHolds s cells first left t qs
    list-holds order counter qs typed fresh h =
        let first = (fresh_call s cells order counter).ticket in
        let left = fresh_counter s cells order counter in
        let d = (demand3.calls none s cells order counter [] 0).paging (calls_of t qs) typed fresh h in
        let i : EachOf none s cells (begun first left) (calls_of t qs) = λ ys x zs e a. let g = h ys x zs e a in (g.0, g.1, g.2, (begun-has first x.ticket left ys g.3.0, g.3.1 ∙ sym (course-counter-is (begun first left) ys))) in
        let k = run_of (begun first left) qs i in
        record { paging = d.0; tickets = d.1; pages = pages-are-theirs typed k; rows = rows-are-theirs typed k; ends = λ n. d.0.bound (omega (arith, few-roomy typed k)) }

pub rounds-hold : RoundsHold
rounds-hold = record {
  causes = round-causes;
  number = round_number;
  answer = λ r. refl;
  refused = round-refused;
  accepted = round-holds;
  lists = λ s cells order counter t qs typed fresh low h. list-holds s cells t low order counter qs typed fresh h;
}
