-- What a round leaves in its tickets' cells.
use mathlib.Core.Path.{◌≡◌, refl, sym, ap, ap₂, ◌∙◌, subst}
use mathlib.Core.Bool.{Bool, true, false, cond, ◌&&◌}
use mathlib.Core.List.Memᴰ
use mathlib.Core.List.{List, [], ◌∷◌, ◌++◌, map, append-nil, Memᴰ}
use mathlib.Core.Option.{none}
use Prim.Native.Nat.{ℕ, ◌+◌, ◌-◌, ◌*◌, ◌≤◌}
use native.Mathlib.Omega.{arith}
use lib.IntN.{ℤ}
use lib.Dec.{eqb, leb}
use lib.ListN.{length, get_or, take, drop}
use borrow.Author.Tests.{le-leb, lt-leb, leb-true, eq-eqb, eqb-true}
use Rattle.lists.specs.Lists.{All, none_left, ◌and◌, each}
use Rattle.lists.proofs.Tests.{both}
use Rattle.lists.proofs.Lists.{all_map, all_any, all-parts, all_get_d}
use Rattle.lists.proofs.Kept.{get_d-upto, all_keep, keep-map, map-map}
use Rattle.plan.specs.declared.Shape.{Shape}
use Rattle.plan.specs.Plan.{Typed}
use Rattle.paging.specs.Answers.{PageValues}
use Rattle.paging.specs.declared.Ticket.{Ticket}
use Rattle.paging.specs.Cursors.{ended_cursor}
use Rattle.paging.specs.Calls.{stop_number, fresh_cause, fresh_call, fresh_counter}
use Rattle.paging.specs.Theorems.{Call, cause, answer}
use Rattle.demands.specs.Theorems.{accepted, tickets_of, counter_after, OneRun}
use Rattle.paging.proofs.Causes.{page_number}
use Rattle.rounds.specs.Rounds.{Request, ticket_at, round_cause, round_call}
use Rattle.rounds.specs.Theorems.{call_of, calls_of, ListHolds}
use Rattle.rounds.proofs.Parts.{part-is, cut-long}
use Rattle.rounds.proofs.Causes.{accepted-is}
use Rattle.rounds.proofs.Theorems.{rounds-hold}
use Rattle.c_cells.specs.Cells.{ticket_cells, ticket_in, page_cells, ticket_after}
use Rattle.c_cells.proofs.Cells.{ticket-long}
use Rattle.c_cells.proofs.Theorems.{next-is, fresh-back}
use Rattle.c_rounds.specs.RoundCells.{twelve_of, tickets_in, page_in, round_cells, tickets_after}
use Rattle.c_rounds.specs.Theorems.{ticket_cells_at, left_by, RoundInCells, CellRound, serving_cells, RoundRun, RoundsInCells}

module _ (q : Request) (given : List ℕ) (typed : Typed q.shape) (long : length given ≡ 192) (same : q.tickets ≡ tickets_in given) where
  -- the tickets of the cells
  ticket-from : (t : ℕ) → 1 ≤ t → t ≤ 16 → ticket_at q t ≡ ticket_in (twelve_of given t)
  unfolding tickets_in
  ticket-from t a b = let z : 1 + (t - 1) ≡ t = omega arith in ap (λ (l : List Ticket). get_or l (t - 1) (record { cursor = ended_cursor; count = 0 })) same ∙ get_d-upto (λ u. ticket_in (twelve_of given u)) 1 16 (t - 1) _ (omega arith) ∙ ap (λ (u : ℕ). ticket_in (twelve_of given u)) z

  -- client t's part of the cells of all
  part_of : (size : ℕ) (f : ℕ → List ℕ) → ((t : ℕ) → 1 ≤ t → t ≤ 16 → length (f t) ≡ size) → (t : ℕ) → 1 ≤ t → t ≤ 16 → take size (drop ((t - 1) * size) (each f 1 16)) ≡ f t
  part_of size f h t a b = ap (λ (l : List ℕ). take size (drop ((t - 1) * size) l)) (sym (append-nil (each f 1 16))) ∙ part-is size 16 f [] h t a b

  abbrev twelve_after : ℕ → List ℕ
  twelve_after t = cond (leb t q.clients) (ticket_cells (page_in (round_call q).pages t).ticket) (twelve_of given t)

  after-long : (t : ℕ) → 1 ≤ t → t ≤ 16 → length (twelve_after t) ≡ 12
  after-long t a b = go (leb t q.clients)
    where
      go : (x : Bool) → length (cond x (ticket_cells (page_in (round_call q).pages t).ticket) (twelve_of given t)) ≡ 12
      go true = ticket-long (page_in (round_call q).pages t).ticket
      go false = cut-long 12 given 16 t a b (omega arith)

  after-part : round_cause q ≡ 0 → (t : ℕ) → 1 ≤ t → t ≤ 16 → ticket_cells_at t (left_by q given) ≡ twelve_after t
  unfolding tickets_after
  after-part e t a b = rw e (part_of 12 twelve_after after-long t a b)

  round-in-cells : RoundInCells q given
  unfolding round_cells tickets_after
  round-in-cells = record {
    from = ticket-from;
    page = λ t a b. part_of 5 (λ u. page_cells (page_in (round_call q).pages u)) (λ u x y. refl) t a b;
    ticket = λ t a b e. ticket t a b e;
    past = λ t a b e. after-part e t (omega arith) b ∙ rw (lt-leb t q.clients a);
    refused = λ n e. rw e;
  }
    where
      ticket : (t : ℕ) → 1 ≤ t → t ≤ q.clients → round_cause q ≡ 0 → ticket_in (ticket_cells_at t (left_by q given)) ≡ (answer (call_of q t)).ticket
      ticket t a b e =
          let few = (accepted-is q e).fit.few in
          let c = (rounds-hold.accepted q typed e).clients t a b in
          let n : stop_number (answer (call_of q t)).stop ≡ 0 = page_number (call_of q t) ∙ c.accepted in
          let back : ticket_in (ticket_after (twelve_of given t) (answer (call_of q t))) ≡ (answer (call_of q t)).ticket = next-is (call_of q t) (twelve_of given t) (ticket-from t a (omega arith)) in
          let z : twelve_after t ≡ ticket_cells (answer (call_of q t)).ticket = rw (le-leb t q.clients b) (ap (λ (p : PageValues). ticket_cells p.ticket) c.page) in
          ap ticket_in (after-part e t a (omega arith) ∙ z) ∙ (rw n at back)

-- ---- lists
module _ {A B : Type 0} (f : A → B) where
  -- a list whose images are so split
  pub record SplitAs (l : List A) (ys : List B) (x : B) : Type 0 where
    pub before : List A
    pub at : A
    pub behind : List A
    pub whole : l ≡ before ++ at ∷ behind
    pub before-is : map f before ≡ ys
    pub at-is : f at ≡ x

  split-as : (l : List A) (ys : List B) (x : B) (zs : List B) → map f l ≡ ys ++ x ∷ zs → SplitAs l ys x
  split-as [] [] x zs e = absurd (omega (arith, ap length e))
  split-as [] (y ∷ ys) x zs e = absurd (omega (arith, ap length e))
  split-as (a ∷ l) [] x zs e = record { before = []; at = a; behind = l; whole = refl; before-is = refl; at-is = ap (λ (m : List B). get_or m 0 x) e }
  split-as (a ∷ l) (y ∷ ys) x zs e =
      let r = split-as l ys x zs (ap (drop 1) e) in
      record {
        before = a ∷ r.before;
        at = r.at;
        behind = r.behind;
        whole = ap (λ (m : List A). a ∷ m) r.whole;
        before-is = ap₂ ◌∷◌ (ap (λ (m : List B). get_or m 0 y) e) r.before-is;
        at-is = r.at-is;
      }

-- what holds of each by what is before and behind it
all-splits : {A : Type 0} {P : A → Type 0} (l : List A) → ((ys : List A) (x : A) (zs : List A) → l ≡ ys ++ x ∷ zs → P x) → All P l
all-splits [] h = none_left
all-splits (a ∷ l) h = ◌and◌ (h [] a l refl) (all-splits l (λ ys x zs e. h (a ∷ ys) x zs (ap (λ m. a ∷ m) e)))

all_both : {A : Type 0} {P Q : A → Type 0} {l : List A} → All P l → All Q l → All (λ a. P a × Q a) l
all_both none_left none_left = none_left
all_both (◌and◌ a b) (◌and◌ c d) = ◌and◌ (a, c) (all_both b d)

module _ (s : Shape) (cells : List ℤ) (first : Ticket) (counter : List ℕ) (t : ℕ) (xs : List CellRound) (typed : Typed s) (low : 1 ≤ t) (back : ticket_in (ticket_cells first) ≡ first) (run : RoundRun s cells first counter t xs) where
  abbrev called : CellRound → Call
  called y = call_of y.round t

  -- an accepted round of the plan that serves the client
  record Serves (y : CellRound) : Type 0 where
    passed : round_cause y.round ≡ 0
    turn : t ≤ y.round.clients
    sound : Typed y.round.shape

  all-serve : All Serves (serving_cells t xs)
  all-serve = all_map serves (all_both typed-all kept)
    where
      kept : All (λ x. (length x.given ≡ 192) × ((eqb (round_cause x.round) 0 && leb t x.round.clients) ≡ true)) (serving_cells t xs)
      kept = all_keep (λ x. eqb (round_cause x.round) 0 && leb t x.round.clients) (all_any (λ x. x.long) xs)

      typed-all : All (λ x. Typed x.round.shape) (serving_cells t xs)
      typed-all = all-splits (serving_cells t xs) (λ ys x zs e. subst Typed (sym (run ys x zs e).0) typed)

      serves : (y : CellRound) → Typed y.round.shape × ((length y.given ≡ 192) × ((eqb (round_cause y.round) 0 && leb t y.round.clients) ≡ true)) → Serves y
      serves y h =
          let b = both (eqb (round_cause y.round) 0) (leb t y.round.clients) h.1.1 in
          record { passed = eqb-true (round_cause y.round) 0 b.0; turn = leb-true t y.round.clients b.1; sound = h.0 }

  few : (y : CellRound) → Serves y → t ≤ 16
  few y g = omega (arith, g.turn, (accepted-is y.round g.passed).fit.few)

  -- the tickets in the cells are those that the page calls returned
  tickets-are : {ys : List CellRound} → All Serves ys → map ticket_in (map (λ y. ticket_cells_at t (left_by y.round y.given)) ys) ≡ map (λ x. (answer x).ticket) (accepted (map called ys))
  tickets-are none_left = refl
  tickets-are (◌and◌ {a = y} {l = ys} g gs) =
      let r = round-in-cells y.round y.given g.sound y.long y.tickets in
      let e = (accepted-is y.round g.passed).each-passes t low g.turn in
      rw (eq-eqb (cause (called y)) 0 e) (ap₂ ◌∷◌ (r.ticket t low g.turn g.passed) (tickets-are gs))

  abbrev Brings : List Call → Call → Type 0
  Brings ys x = (x.windows ≡ none) × (x.shape ≡ s) × (x.cells ≡ cells) × (Memᴰ x.ticket (tickets_of first ys) × (x.counter ≡ counter_after counter ys))

  brings : (ys : List CellRound) (x : CellRound) (zs : List CellRound) → serving_cells t xs ≡ ys ++ x ∷ zs → Brings (map called ys) (called x)
  brings ys x zs e =
      let h = run ys x zs e in
      let g = all-parts ys (subst (All Serves) e all-serve) in
      let now = all_get_d x g.1 0 (omega arith) in
      let from = (round-in-cells x.round x.given now.sound x.long x.tickets).from t low (few x now) in
      let m = Memᴰ.map ticket_in h.2 in
      let left : map ticket_in (ticket_cells first ∷ map (λ y. ticket_cells_at t (left_by y.round y.given)) ys) ≡ tickets_of first (map called ys) = ap₂ ◌∷◌ back (tickets-are g.0) in
      (refl, h.0, h.1, (subst (λ (z : Ticket). Memᴰ z (tickets_of first (map called ys))) (sym from) (subst (λ (l : List Ticket). Memᴰ (ticket_in (ticket_cells_at t x.given)) l) left m), h.3))

  one-run : OneRun none s cells first counter (map called (serving_cells t xs))
  one-run ys x zs e a =
      let p = split-as called (serving_cells t xs) ys x zs e in
      subst (Brings ys) p.at-is (subst (λ (l : List Call). Brings l (called p.at)) p.before-is (brings p.before p.at p.behind p.whole))

-- its page calls, by the rounds with their cells
calls_are : (t : ℕ) (xs : List CellRound) → map (λ y. call_of y.round t) (serving_cells t xs) ≡ calls_of t (map (λ x. x.round) xs)
calls_are t xs =
    sym (ap (map (λ q. call_of q t)) (keep-map (λ q. eqb (round_cause q) 0 && leb t q.clients) (λ x. x.round) xs) ∙ map-map (λ q. call_of q t) (λ x. x.round) (serving_cells t xs))

cell-lists : (s : Shape) (cells : List ℤ) (order counter : List ℕ) (t : ℕ) (xs : List CellRound) → Typed s → fresh_cause s cells order counter ≡ 0 → 1 ≤ t
    → let first = (fresh_call s cells order counter).ticket in let left = fresh_counter s cells order counter in
    RoundRun s cells first left t xs → ListHolds s cells first left t (map (λ x. x.round) xs)
cell-lists s cells order counter t xs typed fresh low run =
    let first = (fresh_call s cells order counter).ticket in
    let left = fresh_counter s cells order counter in
    rounds-hold.lists s cells order counter t (map (λ x. x.round) xs) typed fresh low
    (subst (OneRun none s cells first left) (calls_are t xs) (one-run s cells first left t xs typed low (fresh-back s cells order counter) run))

pub rounds-in-cells : RoundsInCells
rounds-in-cells = record { rounds = round-in-cells; lists = cell-lists }
