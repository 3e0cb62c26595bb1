-- The turns of a round: behind i of them, the i clients that were served have their pages, counters and parts, and the others what they had.
use mathlib.Core.Path.{◌≡◌, refl, sym, ap, ap₂, ◌∙◌, subst}
use mathlib.Core.List.{List, [], ◌∷◌, ◌++◌, map, append-nil}
use mathlib.Core.Logic.{◌⊎◌, inl, inr}
use mathlib.Core.Bool.{Bool, true, false, cond}
use Prim.Native.Nat.{ℕ, suc, ◌+◌, ◌-◌, ◌*◌, ◌/◌, ◌≤◌, ◌<◌}
use native.Mathlib.Omega.{arith}
use native.Mathlib.Numerals.{add-one}
use lib.IntN.{ℤ}
use lib.Dec.{ltb}
use lib.ListN.{length, take, drop, get_or, set, get_or-map, drop_of_length-le}
use lib.Seq.{ext_get_or}
use borrow.Author.Tests.{lt-ltb, le-ltb, le-leb, lt-leb}
use Rattle.lists.specs.Lists.{each, upto}
use Rattle.lists.proofs.Tests.{total}
use Rattle.lists.proofs.Kept.{length-upto, get_d-upto}
use Rattle.geometry.specs.declared.Rect.{Rect}
use Rattle.plan.specs.Plan.{Typed}
use Rattle.sweep.specs.Sweep.{sweep_order}
use Rattle.search.specs.Stops.{Spent}
use Rattle.paging.specs.Answers.{PageValues}
use Rattle.paging.specs.declared.Ticket.{Ticket}
use Rattle.paging.specs.Overlays.{Overlay}
use Rattle.paging.specs.Cursors.{ended_cursor}
use Rattle.slots.specs.declared.Frame.{Frame}
use Rattle.slots.specs.Frames.{Framing}
use Rattle.pager.specs.Answers.{plain_overlay, PagedAt}
use Rattle.pager.proofs.Calls.{plain-made, untimed-page}
use Rattle.rounds.specs.Shares.{client_at, turn_of, left_behind}
use Rattle.rounds.specs.Rounds.{Request, idle_page, ticket_of, ticket_at, counter_at, part_size, part_at, probes_of, budget_at, page_at, counted_at, filled_at, answer_at}
use Rattle.rounds.specs.Theorems.{call_of}
use Rattle.rounds.proofs.Shares.{client-from, client-to, turn-client, client-turn, turn_below}
use Rattle.rounds.proofs.Parts.{each_within, part-is, part-put, cut_all, cut-long, parts_within}
use Rattle.rounds.proofs.Calls.{table-long, counter-long}
use Rattle.rounds_code.specs.Parts.{empty_page, Opens, OneServed, AllServed}
use Rattle.rounds_code.proofs.Pages.{set-upto}

pub map-long : {A B : Type 0} (f : A → B) (l : List A) → length (map f l) ≡ length l
map-long f [] = refl
map-long f (a ∷ l) = ap suc (map-long f l)

-- the elements of a list, by their numbers from 1
map-upto : {A B : Type 0} (f : A → B) (l : List A) (d : A) (n : ℕ) → length l ≡ n → map f l ≡ upto (λ t. f (get_or l (t - 1) d)) 1 n
map-upto f l d n h =
    ext_get_or (f d) (map f l) (upto (λ t. f (get_or l (t - 1) d)) 1 n) (map-long f l ∙ h ∙ sym (length-upto (λ t. f (get_or l (t - 1) d)) 1 n))
    (λ i b. get_or-map f l i d ∙ at i (omega (arith, map-long f l)))
  where
    at : (i : ℕ) → i < n → f (get_or l i d) ≡ get_or (upto (λ t. f (get_or l (t - 1) d)) 1 n) i (f d)
    at i b = let z : 1 + i - 1 ≡ i = omega arith in sym (get_d-upto (λ t. f (get_or l (t - 1) d)) 1 n i (f d) b ∙ ap (λ (j : ℕ). f (get_or l j d)) z)

-- a page call with equal things
moved : (o : Overlay Rect) {t u : Ticket} {a b : List ℕ} {m n : ℕ} {k l : List ℕ} {r : PageValues} {x y : List ℕ} → t ≡ u → a ≡ b → m ≡ n → k ≡ l → PagedAt o t a m k r x y → PagedAt o u b n l r x y
moved o {t} {u} {a} {b} {m} {n} {k} {l} {r} {x} {y} e f g h p =
    subst (λ (i : List ℕ). PagedAt o u b n i r x y) h (subst (λ (i : ℕ). PagedAt o u b i k r x y) g (subst (λ (i : List ℕ). PagedAt o u i m k r x y) f (subst (λ (i : Ticket). PagedAt o i a m k r x y) e p)))

module _ (q : Request) where
  -- of client t behind i turns: the first where it is served, else the second
  abbrev till : {A : Type 0} → (i : ℕ) → (ℕ → A) → (ℕ → A) → ℕ → A
  till i f g t = cond (ltb (turn_of q.clients q.first t) i) (f t) (g t)

  abbrev idle_at : ℕ → PageValues
  idle_at t = idle_page (ticket_at q t)

  pub record Turned (i : ℕ) (r : List PageValues) (held lent : List ℕ) (left : ℕ) : Type 0 where
    pub pages : r ≡ upto (till i (answer_at q) idle_at) 1 16
    pub counters : held ≡ each (till i (counted_at q) (counter_at q)) 1 q.clients ++ []
    pub table : lent ≡ each (till i (filled_at q) (part_at q)) 1 q.clients ++ drop (q.clients * part_size q) q.table
    pub rest : left ≡ left_behind (probes_of q) q.clients q.first q.budget i

  -- past m there is nothing to serve
  past : (i t : ℕ) → q.clients < t → till i (answer_at q) idle_at t ≡ idle_at t
  past i t h = rw (lt-leb t q.clients h) (go (ltb (turn_of q.clients q.first t) i))
    where
      go : (b : Bool) → cond b (idle_at t) (idle_at t) ≡ idle_at t
      go true = refl
      go false = refl

  module _ (from : 1 ≤ q.first) (to : q.first ≤ q.clients) (most : q.clients ≤ 16) (counted : length q.counters ≡ q.clients) (sixteen : length q.tickets ≡ 16) (typed : Typed q.shape) where
    counter-one : (t : ℕ) → 1 ≤ t → t ≤ q.clients → length (counter_at q t) ≡ 1
    counter-one t a b = let z : (t - 1) * 1 ≡ t - 1 = omega arith in rw z at (cut-long 1 q.counters q.clients t a b (omega arith))

    part-long : (t : ℕ) → 1 ≤ t → t ≤ q.clients → length (part_at q t) ≡ part_size q
    part-long t a b = cut-long (part_size q) q.table q.clients t a b (parts_within q.shape.k q.clients (length q.table) q.clients (omega arith))

    counters-one : (i t : ℕ) → 1 ≤ t → t ≤ q.clients → length (till i (counted_at q) (counter_at q) t) ≡ 1
    counters-one i t a b = go (ltb (turn_of q.clients q.first t) i)
      where
        go : (x : Bool) → length (cond x (counted_at q t) (counter_at q t)) ≡ 1
        go true = counter-long (call_of q t) typed (counter-one t a b)
        go false = counter-one t a b

    parts-long : (i t : ℕ) → 1 ≤ t → t ≤ q.clients → length (till i (filled_at q) (part_at q) t) ≡ part_size q
    parts-long i t a b = go (ltb (turn_of q.clients q.first t) i)
      where
        go : (x : Bool) → length (cond x (filled_at q t) (part_at q t)) ≡ part_size q
        go true = table-long (call_of q t) typed ∙ part-long t a b
        go false = part-long t a b

    -- before the first turn
    till-none : {A : Type 0} (f g : ℕ → A) (t : ℕ) → till 0 f g t ≡ g t
    till-none f g t = rw (le-ltb (turn_of q.clients q.first t) 0 (omega arith))

    pub turned_none : Turned 0 (map (empty_page Spent) q.tickets) q.counters q.table q.budget
    unfolding left_behind
    turned_none = record {
      pages =
          map-upto (empty_page Spent) q.tickets (record { cursor = ended_cursor; count = 0 }) 16 sixteen
          ∙ each_within _ _ 1 16 (λ t a b. ap (λ (p : PageValues). p ∷ []) (sym (till-none (answer_at q) idle_at t)));
      counters =
          sym (cut_all 1 q.counters q.clients)
          ∙ ap₂ ◌++◌ (each_within _ _ 1 q.clients (λ t a b. one t ∙ sym (till-none (counted_at q) (counter_at q) t))) (drop_of_length-le q.counters {i = q.clients * 1} (omega arith));
      table = sym (cut_all (part_size q) q.table q.clients) ∙ ap (λ (l : List ℕ). l ++ drop (q.clients * part_size q) q.table) (each_within _ _ 1 q.clients (λ t a b. sym (till-none (filled_at q) (part_at q) t)));
      rest = refl;
    }
      where
        one : (t : ℕ) → take 1 (drop ((t - 1) * 1) q.counters) ≡ counter_at q t
        one t = let z : (t - 1) * 1 ≡ t - 1 = omega arith in rw z

    -- behind the last
    till-all : {A : Type 0} (f g : ℕ → A) (i t : ℕ) → q.clients ≤ i → 1 ≤ t → t ≤ q.clients → till i f g t ≡ f t
    till-all f g i t h a b = let l = turn_below q.clients q.first from to t a b in rw (lt-ltb (turn_of q.clients q.first t) i (omega arith))

    pub turned-all : (i : ℕ) (r : List PageValues) (held lent : List ℕ) (left : ℕ) → Turned i r held lent left → q.clients ≤ i → AllServed q r held lent
    turned-all i r held lent left w h = record {
      pages = w.pages ∙ each_within _ _ 1 16 (λ t a b. ap (λ (p : PageValues). p ∷ []) (page t a (total t q.clients)));
      counters = w.counters ∙ append-nil _ ∙ each_within _ _ 1 q.clients (λ t a b. till-all (counted_at q) (counter_at q) i t h a (omega arith));
      table = w.table ∙ ap (λ (l : List ℕ). l ++ drop (q.clients * part_size q) q.table) (each_within _ _ 1 q.clients (λ t a b. till-all (filled_at q) (part_at q) i t h a (omega arith)));
    }
      where
        page : (t : ℕ) → 1 ≤ t → (t ≤ q.clients) ⊎ (q.clients < t) → till i (answer_at q) idle_at t ≡ answer_at q t
        page t a (inl b) = till-all (answer_at q) idle_at i t h a b
        page t a (inr b) = past i t b ∙ sym (rw (lt-leb t q.clients b))

    -- one more turn
    module _ (i : ℕ) (h : i < q.clients) where
      abbrev c : ℕ
      c = client_at q.clients q.first i

      low : 1 ≤ c
      low = client-from q.clients q.first from to i h

      high : c ≤ q.clients
      high = client-to q.clients q.first from to i h

      turn : turn_of q.clients q.first c ≡ i
      turn = turn-client q.clients q.first from to i h

      till-now : {A : Type 0} (f g : ℕ → A) → till i f g c ≡ g c
      till-now f g = rw (turn, le-ltb i i (omega arith))

      till-new : {A : Type 0} (f g : ℕ → A) → till (i + 1) f g c ≡ f c
      till-new f g = rw (turn, lt-ltb i (i + 1) (omega arith))

      till-same : {A : Type 0} (f g : ℕ → A) (t : ℕ) → 1 ≤ t → t ≤ q.clients → (t ≡ c → ⊥) → till (i + 1) f g t ≡ till i f g t
      till-same f g t a b n = go (total (turn_of q.clients q.first t) i)
        where
          other : turn_of q.clients q.first t ≡ i → ⊥
          other e = n (sym (client-turn q.clients q.first from to t a b) ∙ ap (client_at q.clients q.first) e)

          go : (turn_of q.clients q.first t ≤ i) ⊎ (i < turn_of q.clients q.first t) → till (i + 1) f g t ≡ till i f g t
          go (inl l) = rw (lt-ltb (turn_of q.clients q.first t) (i + 1) (omega arith), lt-ltb (turn_of q.clients q.first t) i (omega (arith, other)))
          go (inr l) = rw (le-ltb (turn_of q.clients q.first t) (i + 1) (omega arith), le-ltb (turn_of q.clients q.first t) i (omega arith))

      -- the pages past m too
      pages-same : (t : ℕ) → 1 ≤ t → (t ≡ c → ⊥) → (t ≤ q.clients) ⊎ (q.clients < t) → till (i + 1) (answer_at q) idle_at t ≡ till i (answer_at q) idle_at t
      pages-same t a n (inl b) = till-same (answer_at q) idle_at t a b n
      pages-same t a n (inr b) = past (i + 1) t b ∙ sym (past i t b)

      module _ (r : List PageValues) (held lent : List ℕ) (left : ℕ) (w : Turned i r held lent left) where
        -- what client c brings
        its-counter : take 1 (drop (c - 1) held) ≡ counter_at q c
        its-counter =
            let z : (c - 1) * 1 ≡ c - 1 = omega arith in
            let e = part-is 1 q.clients (till i (counted_at q) (counter_at q)) [] (counters-one i) c low high in
            ap (λ (l : List ℕ). take 1 (drop (c - 1) l)) w.counters ∙ (rw z at e) ∙ till-now (counted_at q) (counter_at q)

        its-part : take (part_size q) (drop ((c - 1) * part_size q) lent) ≡ part_at q c
        its-part =
            ap (λ (l : List ℕ). take (part_size q) (drop ((c - 1) * part_size q) l)) w.table
            ∙ part-is (part_size q) q.clients (till i (filled_at q) (part_at q)) (drop (q.clients * part_size q) q.table) (parts-long i) c low high
            ∙ till-now (filled_at q) (part_at q)

        its-budget : left / (q.clients - i) ≡ budget_at q c
        its-budget = ap (λ (n : ℕ). n / (q.clients - i)) w.rest ∙ sym (ap (λ (j : ℕ). left_behind (probes_of q) q.clients q.first q.budget j / (q.clients - j)) turn)

        its-ticket : ticket_of q.tickets (suc (c - 1)) ≡ ticket_at q c
        its-ticket = let z : suc (c - 1) ≡ c = omega (arith, low) in ap (ticket_of q.tickets) z

        -- what it gets
        pub turned_more : (here : List ℤ) (f : Frame) → Framing f here → q.order ≡ sweep_order here → Opens q.shape q.cells q.order here f → (p : PageValues) (heldAfter lentAfter : List ℕ)
            → OneServed (plain_overlay f here) (ticket_of q.tickets (suc (c - 1))) (c - 1) (part_size q) (left / (q.clients - i)) held lent p heldAfter lentAfter
            → Turned (i + 1) (set r (c - 1) p) heldAfter lentAfter (left - p.probes)
        unfolding left_behind probes_of
        turned_more here f fr od k p heldAfter lentAfter one =
            let told = untimed-page q.shape q.cells [] q.order (ticket_at q c) (counter_at q c) (budget_at q c) (part_at q c) p one.counted one.filled
            (plain-made q.shape q.cells q.order (ticket_at q c) (counter_at q c) (budget_at q c) (part_at q c) here f k.passed k.sizes k.is p one.counted one.filled (moved (plain_overlay f here) its-ticket its-counter its-budget its-part one.page)) in
            let page : p ≡ page_at q c = told.0 in
            let z : (c - 1) * 1 ≡ c - 1 = omega arith in
            let u = part-put 1 q.clients (till i (counted_at q) (counter_at q)) [] (counters-one i) c low high (till (i + 1) (counted_at q) (counter_at q)) (till-same (counted_at q) (counter_at q)) in
            record {
              pages = ap (λ (l : List PageValues). set l (c - 1) p) w.pages ∙ set-upto (till i (answer_at q) idle_at) (till (i + 1) (answer_at q) idle_at) 16 c p low (omega (arith, high)) (page ∙ sym (till-new (answer_at q) idle_at ∙ rw (le-leb c q.clients high))) (λ t a b n. pages-same t a n (total t q.clients));
              counters =
                  one.counters
                  ∙ ap₂ (λ (l x : List ℕ). take (c - 1) l ++ (x ++ drop 1 (drop (c - 1) l))) w.counters (told.1.1.0 ∙ sym (till-new (counted_at q) (counter_at q)))
                  ∙ (rw z at u);
              table =
                  one.table
                  ∙ ap₂ (λ (l x : List ℕ). take ((c - 1) * part_size q) l ++ (x ++ drop (part_size q) (drop ((c - 1) * part_size q) l))) w.table (told.1.1.1 ∙ sym (till-new (filled_at q) (part_at q)))
                  ∙ part-put (part_size q) q.clients (till i (filled_at q) (part_at q)) (drop (q.clients * part_size q) q.table) (parts-long i) c low high (till (i + 1) (filled_at q) (part_at q)) (till-same (filled_at q) (part_at q));
              rest = rw (add-one i) (ap₂ ◌-◌ w.rest (ap (λ (x : PageValues). x.probes) page ∙ ap (λ (j : ℕ). probes_of q c (left_behind (probes_of q) q.clients q.first q.budget j / (q.clients - j))) turn));
            }
