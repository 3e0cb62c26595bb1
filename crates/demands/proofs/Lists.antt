-- What lists of page calls on an overlay did, by what the search's calls did: demand 3 of them.
use mathlib.Core.Path.{◌≡◌, refl, sym, ap, ◌∙◌}
use mathlib.Core.List.Memᴰ
use mathlib.Core.List.{List, [], ◌∷◌, ◌++◌, map, append-nil, append_assoc}
use mathlib.Core.Option
use mathlib.Core.Option.{none, some}
use mathlib.Core.Logic.{◌⊎◌, inl, inr, ◌↔◌}
use Prim.Native.Nat.{ℕ, ◌≤◌, ◌<◌, zero-le}
use borrow.Author.Tests.{ne_eqb}
use native.Mathlib.Omega.{arith}
use lib.ListN.{length, take, drop, take-append-drop}
use lib.Seq.{take-append_seam}
use Rattle.lists.specs.Lists.{All, none_left, ◌and◌, sum}
use Rattle.totals.specs.Totals.{value_of}
use Rattle.totals.proofs.Totals.{value-total}
use Rattle.lists.proofs.Lists.{all-at, all-of-mem, all-parts}
use Rattle.lists.proofs.Kept.{map-++}
use Rattle.search.specs.Traversal.{row_of}
use Rattle.search.specs.Paging.{rows_of}
use Rattle.search.proofs.Chains.{last_of}
use Rattle.search.proofs.Paging.{rows_of-++}
use Rattle.walk.specs.Walk.{places_of}
use Rattle.search.specs.Stops.{Ended}
use Rattle.paging.specs.Overlays.{Overlay}
use Rattle.paging.specs.Cursors.{due_cursor}
use Rattle.paging.specs.Theorems.{Call, cause, answer, Due}
use Rattle.demands.specs.Theorems.{handed, reported, allowing, Last, PagingHolds}
use Rattle.paging.proofs.Overlays.{placed, Lawful}
use Rattle.paging.proofs.Calls.{page_on, answered, Serves, Agrees, answered-some}
use Rattle.demands.proofs.Lasts.{Declined, LastAt, last-or-none, last_none, last-is, at_last, last-at}
use Rattle.demands.proofs.Courses.{Course, course_after, newest-is, same_count, Steady, Going, newest-counts, going-linked, going-steady}
use Rattle.demands.proofs.Chains.{Linked, Delivers, reported-same, allowing-same, handed-same, areas-same, linked-agrees, linked-delivered}

module _ {S : Type 0} (o : Overlay S) where
  -- the rows of the first probes are the first rows of the table
  table-front : Lawful o → (n : ℕ) → let rows = placed o (rows_of row_of (take n o.walk)) in rows ≡ take (length rows) o.table
  table-front l n =
      let w = o.walk in
      let rows = placed o (rows_of row_of (take n w)) in
      let more = placed o (rows_of row_of (drop n w)) in
      let e : rows ++ more ≡ o.table = rw (← map-++ (places_of o.sizes), ← rows_of-++ row_of, take-append-drop n w) l.rows in
      rw (← e) (sym (take-append_seam rows more))

  module _ (xs : List Call) (all : All (Agrees o) xs) (d : Delivers o xs) where
    -- the rows handed out are those of the first probes, as many as were reported
    yielded : handed (length o.sizes) xs ≡ placed o (rows_of row_of (take (reported xs) o.walk))
    yielded = rw (handed-same o all, d.rows, reported-same o all)

    -- each call among them agrees
    at : (ys : List Call) (x : Call) (zs : List Call) → xs ≡ ys ++ x ∷ zs → Agrees o x
    at ys x zs e = all-at all (rw e (Memᴰ.append_right ys (Memᴰ.head refl)))

    -- an accepted call tells Ended exactly where it reaches the walk's length
    call-ended : (ys : List Call) (x : Call) (zs : List Call) → xs ≡ ys ++ x ∷ zs → cause x ≡ 0 → ((answer x).stop ≡ Ended) ↔ (reported (ys ++ x ∷ []) ≡ length o.walk)
    call-ended ys x zs e c =
        let j = d.ended ys x zs (page_on o x) e (answered-some o x c) in
        let a : All (Agrees o) ((ys ++ x ∷ []) ++ zs) = rw append_assoc (rw e at all) in
        let k = reported-same o (all-parts (ys ++ x ∷ []) a).0 in
        let s = (at ys x zs e).stop c in
        (λ h. k ∙ j.0 (sym s ∙ h), λ h. s ∙ j.1 (sym k ∙ h))

    -- the last accepted call tells Ended where more calls allow a probe than the walk has
    last-ended : length o.walk < allowing o xs → (x : Call) × Last xs x × ((answer x).stop ≡ Ended)
    last-ended h = go (last-or-none xs) (d.bound (rw (← allowing-same o all) h))
      where
        go : All Declined xs ⊎ ((x : Call) × LastAt xs x) → Option.map (λ p. p.stop) (last_of (answered o) xs) ≡ some Ended → (x : Call) × Last xs x × ((answer x).stop ≡ Ended)
        go (inl n) e = let z : none ≡ some Ended = rw (last_none o n) at e in let y : ◌≡◌ {A = ℕ} 0 1 = cc in absurd (omega arith)
        go (inr y) e =
            let l = y.1 in
            let z : some (page_on o y.0).stop ≡ some Ended = rw (last-is o xs y.0 l) at e in
            (y.0, at_last l, (at l.before y.0 l.behind l.is).stop l.accepted ∙ cc)

  -- demand 3 of one list in a run that a fresh ticket begins
  pub going-holds : Lawful o → ((n : ℕ) → Due o.sizes (due_cursor o.sizes (drop n o.walk)) (drop n o.walk)) → (r : Course) (xs : List Call) → Steady o r → r.newest.count ≡ 0 → Going o r xs → PagingHolds o xs
  going-holds l due r xs h z g = record {
    first = rw rows (table-front l (reported xs));
    yielded = rows;
    within = rw (reported-same o all) d.within;
    budgets = all-of-mem xs (λ x m. rw (all-at all m).probes (all-at d.within-budget m));
    ended = call-ended xs all d;
    bound = last-ended xs all d;
    areas = areas-same o all;
    last = λ x k. let e = sym (newest-is r xs x (last-at k)) ∙ newest in rw e (due (reported xs), refl);
  }
    where
      c : Linked o r.newest xs
      c = going-linked o l h g

      all : All (Agrees o) xs
      all = linked-agrees o l c

      -- the fresh ticket names the whole walk
      whole : r.newest.cursor ≡ due_cursor o.sizes o.walk
      whole = rw z at (newest-counts o r h)

      d : Delivers o xs
      d = linked-delivered o l whole c

      rows : handed (length o.sizes) xs ≡ placed o (rows_of row_of (take (reported xs) o.walk))
      rows = yielded xs all d

      -- the newest ticket counts the probes reported in all
      newest : (course_after r xs).newest ≡ record { cursor = due_cursor o.sizes (drop (reported xs) o.walk); count = reported xs }
      newest =
          let i = going-steady o l xs [] h (rw append-nil g) in
          same_count o (course_after r xs).newest _ (newest-counts o (course_after r xs) i.0) refl (omega (arith, i.1, z))

  -- ---- where each call is refused
  -- nothing is handed out, reported or allowed
  record Nothing (xs : List Call) : Type 0 where
    rows : handed (length o.sizes) xs ≡ []
    probes : reported xs ≡ 0
    areas : sum (map (λ x. value_of (answer x).area) xs) ≡ 0
    allows : allowing o xs ≡ 0
    budgets : All (λ x. (answer x).probes ≤ x.budget) xs

  refused-nothing : {xs : List Call} → All (λ x. Serves o x × Declined x) xs → Nothing xs
  refused-nothing none_left = record { rows = refl; probes = refl; areas = refl; allows = refl; budgets = none_left }
  refused-nothing (◌and◌ {a = x} h hs) =
      let n = refused-nothing hs in
      let z = h.0.none h.1 in
      record {
        rows = rw z.1 n.rows;
        probes = omega (arith, z.0, n.probes);
        areas = omega (arith, ap value_of z.2, value-total 0, n.areas);
        allows = rw (ne_eqb (cause x) 0 h.1) n.allows;
        budgets = ◌and◌ {a = x} (rw z.0 zero-le) n.budgets;
      }

  -- demand 3 of such a list
  pub refused-holds : (xs : List Call) → All (λ x. Serves o x × Declined x) xs → PagingHolds o xs
  refused-holds xs h = record {
    first = rw n.rows;
    yielded = rw (n.rows, n.probes);
    within = rw n.probes zero-le;
    budgets = n.budgets;
    ended = λ ys x zs e c. absurd ((all-at {a = x} h (rw e (Memᴰ.append_right ys (Memᴰ.head refl)))).1 c);
    bound = λ l. absurd (omega (arith, n.allows));
    areas = rw n.rows n.areas;
    last = λ x k. let l : LastAt xs x = last-at k in absurd ((all-at {a = x} h (rw l.is (Memᴰ.append_right l.before (Memᴰ.head refl)))).1 l.accepted);
  }
    where
      n : Nothing xs
      n = refused-nothing h
