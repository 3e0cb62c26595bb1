-- What any list of page calls hands out (demand 3): a chain of calls runs through the steps, each accepted call from where the one before stopped.
use mathlib.Core.Path.{◌≡◌, refl, sym, ap, ◌∙◌}
use mathlib.Core.List.{List, [], ◌∷◌, ◌++◌, map, append_assoc}
use mathlib.Core.Logic.{◌⊎◌, inl, inr, ◌↔◌}
use mathlib.Core.Option.{Option, none, some}
use mathlib.Core.Bool.{Bool, true, false, cond, ◌&&◌}
use Prim.Native.Nat.{ℕ, ◌+◌, ◌≤◌, ◌<◌, zero-le}
use native.Mathlib.Nat.{zero-add, add_assoc}
use native.Mathlib.Omega.{arith}
use lib.Dec.{ltb}
use lib.ListN.{length, take, drop, length-drop}
use lib.Seq.{drop-drop, take-add}
use borrow.Author.Tests.{ltb-true}
use Rattle.lists.specs.Lists.{All, none_left, ◌and◌, sum, keep}
use Rattle.lists.proofs.Tests.{both, total}
use Rattle.lists.proofs.Kept.{map-++}
use Rattle.search.specs.Paging.{Paged, page, rows_of}
use Rattle.search.specs.Stops.{Ended}
use Rattle.search.proofs.Chains.{accepts, done_in, rows_in, later, reported, handed, last_of, allowing, due, Chain, end, refused, accepted, Delivered}
use Rattle.lists.proofs.Numbers.{sum-++}
use Rattle.search.proofs.Paging.{rows_of-++, rows_of-first, page-rest, page-rows, page-budget, page-within, page-ended, page-moves}

-- ---- the last of two answers
module _ {A R : Type 0} where
  later-none : (o : Option (Paged A R)) → later none o ≡ o
  later-none none = refl
  later-none (some p) = refl

  later-some : (p : Paged A R) (o : Option (Paged A R)) → (q : Paged A R) × (later (some p) o ≡ some q)
  later-some p none = (p, refl)
  later-some p (some q) = (q, refl)

module _ {A R X : Type 0} (answer : X → Option (Paged A R)) where
  last_snoc : (ys : List X) (x : X) (p : Paged A R) → answer x ≡ some p → last_of answer (ys ++ x ∷ []) ≡ some p
  last_snoc [] x p e = e
  last_snoc (y ∷ ys) x p e = rw (last_snoc ys x p e)

  handed-sum : (f : R → ℕ) (xs : List X) → sum (map (λ x. sum (map f (rows_in (answer x)))) xs) ≡ sum (map f (handed answer xs))
  handed-sum f [] = refl
  handed-sum f (x ∷ xs) = rw (map-++ f (rows_in (answer x)) (handed answer xs), sum-++, handed-sum f xs)

-- ---- calls that go through the steps, from n steps in
module _ {A R X : Type 0} (out : A → Option R) (steps : List A) (budget space : X → ℕ) (answer : X → Option (Paged A R)) where
  -- the page that a call is due from n steps in
  abbrev page_at : ℕ → X → Paged A R
  page_at n x = page out (budget x) (space x) (drop n steps)

  -- each call is refused, or answers with the page from where it stands
  data Run : ℕ → List X → Type 0 where
    stop : {n : ℕ} → n ≤ length steps → Run n []
    no-page : {n : ℕ} {x : X} {xs : List X} → answer x ≡ none → Run n xs → Run n (x ∷ xs)
    a-page : {n : ℕ} {x : X} {xs : List X} → answer x ≡ some (page_at n x) → Run (n + (page_at n x).done) xs → Run n (x ∷ xs)

  run-within : {n : ℕ} {xs : List X} → Run n xs → n + reported answer xs ≤ length steps
  run-within (stop h) = omega arith
  run-within (no-page e r) = rw e (omega (arith, run-within r))
  run-within (a-page e r) = rw e (omega (arith, run-within r))

  run-rows : {n : ℕ} {xs : List X} → Run n xs → handed answer xs ≡ rows_of out (take (reported answer xs) (drop n steps))
  run-rows (stop h) = refl
  run-rows (no-page e r) = rw (e, zero-add) (run-rows r)
  run-rows (a-page {n = n} {x = x} {xs = xs} e r) =
      let d = (page_at n x).done in
      rw (e, run-rows r, page-rows out (budget x) (space x) (drop n steps), ← rows_of-++ out, take-add d (reported answer xs) (drop n steps), drop-drop d n steps)

  run-budget : {n : ℕ} {xs : List X} → Run n xs → All (λ x. done_in (answer x) ≤ budget x) xs
  run-budget (stop h) = none_left
  run-budget (no-page {x = x} e r) = ◌and◌ {a = x} (rw e zero-le) (run-budget r)
  run-budget (a-page {n = n} {x = x} e r) = ◌and◌ {a = x} (rw e (page-budget out (budget x) (space x) (drop n steps))) (run-budget r)

  run-front : (ys zs : List X) {n : ℕ} → Run n (ys ++ zs) → Run n ys
  run-front [] zs {n} r = stop {n = n} (omega (arith, run-within r))
  run-front (y ∷ ys) zs (no-page e r) = no-page e (run-front ys zs r)
  run-front (y ∷ ys) zs (a-page e r) = a-page e (run-front ys zs r)

  page-ends : (n : ℕ) (x : X) → n ≤ length steps → ((page_at n x).stop ≡ Ended) ↔ (n + (page_at n x).done ≡ length steps)
  page-ends n x h =
      let i = page-ended out (budget x) (space x) (drop n steps) in
      let l = length-drop n steps in
      (λ e. omega (arith, i.0 e), λ e. i.1 (omega arith))

  page-leaves : (n : ℕ) (x : X) → (page_at n x).rest ≡ drop (n + (page_at n x).done) steps
  page-leaves n x = page-rest out (budget x) (space x) (drop n steps) ∙ drop-drop (page_at n x).done n steps

  -- the last page leaves what comes behind the r steps from n on, and ends exactly where nothing does
  abbrev Last : ℕ → ℕ → Option (Paged A R) → Type 0
  Last n r none = r ≡ 0
  Last n r (some p) = (p.rest ≡ drop (n + r) steps) × ((p.stop ≡ Ended) ↔ (n + r ≡ length steps))

  run-last : {n : ℕ} {xs : List X} → Run n xs → Last n (reported answer xs) (last_of answer xs)
  run-last (stop h) = refl
  run-last (no-page {xs = xs} e r) = rw (e, zero-add, later-none) (run-last r)
  run-last (a-page {n = n} {x = x} {xs = xs} e r) = rw e (go (last_of answer xs) (run-last r))
    where
      d : ℕ
      d = (page_at n x).done

      go : (o : Option (Paged A R)) → Last (n + d) (reported answer xs) o → Last n (d + reported answer xs) (later (some (page_at n x)) o)
      go none z = let k : n + (d + reported answer xs) ≡ n + d = omega arith in rw k (page-leaves n x, page-ends n x (omega (arith, run-within r)))
      go (some q) l = rw add_assoc at l

  run-ended : (ys : List X) (x : X) (zs : List X) (p : Paged A R) {n : ℕ} → Run n (ys ++ x ∷ zs) → answer x ≡ some p
      → (p.stop ≡ Ended) ↔ (n + reported answer (ys ++ x ∷ []) ≡ length steps)
  run-ended ys x zs p {n} r e =
      let l = run-last {n = n} (run-front (ys ++ x ∷ []) zs (rw append_assoc r)) in
      (rw (last_snoc answer ys x p e) at l).1

  -- a call that allows a step and a row does a step where one is left
  page-allowed : (n : ℕ) (x : X) (xs : List X) → n < length steps → length (cond (ltb 0 (budget x) && ltb 0 (space x)) (x ∷ xs) xs) ≤ (page_at n x).done + length xs
  page-allowed n x xs h = go (ltb 0 (budget x) && ltb 0 (space x)) refl
    where
      go : (t : Bool) → (ltb 0 (budget x) && ltb 0 (space x)) ≡ t → length (cond t (x ∷ xs) xs) ≤ (page_at n x).done + length xs
      go true e =
          let k = both (ltb 0 (budget x)) (ltb 0 (space x)) e in
          omega (arith, page-moves out (budget x) (space x) (drop n steps) (ltb-true 0 (budget x) k.0) (ltb-true 0 (space x) k.1) (omega (arith, length-drop n steps)))
      go false e = omega arith

  run-bound : {n : ℕ} {xs : List X} → Run n xs → length steps < n + allowing answer budget space xs
      → (p : Paged A R) × (last_of answer xs ≡ some p) × (n + reported answer xs ≡ length steps)
  run-bound (stop h) k = absurd (omega arith)
  run-bound (no-page e r) k = rw (e, zero-add, later-none) (run-bound r (rw e at k))
  run-bound (a-page {n = n} {x = x} {xs = xs} e r) k =
      let q = later-some (page_at n x) (last_of answer xs) in (q.0, rw e q.1, go (total (length steps) n) (run-bound r))
    where
      ys : List X
      ys = keep (λ y. accepts (answer y) && (ltb 0 (budget y) && ltb 0 (space y))) xs

      go : (length steps ≤ n) ⊎ (n < length steps)
          → (length steps < n + (page_at n x).done + length ys → (p : Paged A R) × (last_of answer xs ≡ some p) × (n + (page_at n x).done + reported answer xs ≡ length steps))
          → n + reported answer (x ∷ xs) ≡ length steps
      go (inl h) i = omega (arith, run-within (a-page e r))
      go (inr h) i = rw e (omega (arith, (i (omega (arith, page-allowed n x ys h, rw e at k))).2))

-- ---- the theorem
module _ {A R C X : Type 0} (out : A → Option R) (steps : List A) (name : List A → C) (find : C → Option (List A))
    (named : (n : ℕ) → n ≤ length steps → find (name (drop n steps)) ≡ some (drop n steps))
    (cursor : X → C) (budget space : X → ℕ) (answer : X → Option (Paged A R))
    (paged : (x : X) (p : Paged A R) (w : List A) → answer x ≡ some p → find (cursor x) ≡ some w → p ≡ page out (budget x) (space x) w) where
  runs : {c : C} {xs : List X} → Chain name cursor answer c xs → (n : ℕ) → n ≤ length steps → c ≡ name (drop n steps) → Run out steps budget space answer n xs
  runs end n h z = stop h
  runs (refused e c) n h z = no-page e (runs c n h z)
  runs (accepted {x = x} {p = p} e k c) n h z =
      let q = paged x p (drop n steps) e (ap find (k ∙ z) ∙ named n h) in
      a-page (e ∙ ap some q)
      (runs c (n + (page out (budget x) (space x) (drop n steps)).done)
      (omega (arith, page-within out (budget x) (space x) (drop n steps), length-drop n steps))
      (ap (λ (o : Paged A R). name o.rest) q ∙ ap name (page-leaves out steps budget space answer n x)))

  pub delivered : {xs : List X} → Chain name cursor answer (name steps) xs → Delivered out steps name budget space answer xs
  delivered {xs} c = record {
    rows = handed-rows;
    first = handed-rows ∙ (rows_of-first out (reported answer xs) steps ∙ ap (λ (rs : List R). take (length rs) (rows_of out steps)) (sym handed-rows));
    within = rw zero-add at (run-within out steps budget space answer r);
    within-budget = run-budget out steps budget space answer r;
    ended = λ ys x zs p s e. rw zero-add at (run-ended out steps budget space answer ys x zs p (rw s at r) e);
    bound = λ h. let b = run-bound out steps budget space answer r (rw zero-add h) in rw b.1 (ap some ((rw b.1 at at_last).1.1 b.2));
    sums = λ f. handed-sum answer f xs;
    last = go (last_of answer xs) at_last;
    fresh = λ e. rw e at at_last;
  }
    where
      r : Run out steps budget space answer 0 xs
      r = runs c 0 zero-le refl

      handed-rows : handed answer xs ≡ rows_of out (take (reported answer xs) steps)
      handed-rows = run-rows out steps budget space answer r

      at_last : Last out steps budget space answer 0 (reported answer xs) (last_of answer xs)
      at_last = run-last out steps budget space answer r

      go : (o : Option (Paged A R)) → Last out steps budget space answer 0 (reported answer xs) o → due name (name steps) o ≡ name (drop (reported answer xs) steps)
      go none z = rw z
      go (some p) l = ap name (rw zero-add at l.0)
