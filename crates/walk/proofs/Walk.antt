-- The rows of the walk over guards are the table of these guards, in its order, each with its guard and its area.
use mathlib.Core.Path.{◌≡◌, refl, sym, ap, ap₂, ◌∙◌, subst}
use mathlib.Core.List.{List, [], ◌++◌, map}
use mathlib.Core.Option.{none, some}
use mathlib.Core.Bool.{Bool, true, false, cond, ◌&&◌}
use Prim.Native.Nat.{ℕ, suc, ◌≤◌}
use native.Mathlib.Omega.{arith}
use lib.Dec.{eqb}
use lib.ListN.{length, get_or}
use borrow.Author.Tests.{eq-eqb, eqb-true}
use Rattle.lists.specs.Lists.{All, none_left, ◌and◌, rows_below, keep, without}
use Rattle.lists.proofs.Lists.{all_any, all_map, all-++, all_of_map}
use Rattle.lists.proofs.Kept.{all_keep, keep_same, map-++, map-map, length_without}
use Rattle.geometry.specs.declared.Rect.{Rect}
use Rattle.geometry.specs.Rectangles.{nonempty, area_of}
use Rattle.plan.specs.Plan.{Layer}
use Rattle.plan.specs.Spots.{Spot, Has, rect_of}
use Rattle.join.specs.Join.{Within, rects, cut, common_of, area_in, guard_layer, guard_of}
use Rattle.join.specs.Table.{same_spot, belongs, sizes_in, block, table}
use Rattle.join.proofs.Table.{rows-within, belongs-is, size-at, sizes-without, within-long}
use Rattle.search.specs.Traversal.{Slot, Row, run, probes, traversal, row_at, row_of}
use Rattle.search.specs.Paging.{rows_of}
use Rattle.search.proofs.Paging.{rows_of-++, yields-kept}
use Rattle.search.proofs.Traversal.{combinations-run, rows-slots}
use Rattle.walk.specs.Walk.{guard_at, insert_at}
use Rattle.lists.proofs.Tests.{and_first, and_second}
use Rattle.plan.proofs.Spots.{has-layer}
use Rattle.walk.proofs.Inserted.{get_d-insert, rows_at, rects-insert, common-insert}
use Rattle.walk.proofs.Lefts.{lefts, guard-lefts}
use Rattle.walk.proofs.Slots.{slots-long, slot-sizes, ran}

-- ---- one guard
-- the layers of its slots
abbrev others : List Layer → Spot → List Layer
others ls s = without s.layer ls

-- the places of a row in layer order: the guard's among those of its slots
abbrev whole : Spot → List ℕ → List ℕ
whole s path = insert_at s.layer s.place path

-- the rectangles of its slots
abbrev chosen : List Layer → Spot → List ℕ → List Rect
chosen ls s path = rects (others ls s) path

-- what these have in common with it
abbrev ground : List Layer → Spot → List ℕ → Rect
ground ls s path = cut (rect_of ls s) (chosen ls s path)

-- they pass in all its slots
abbrev passed : List Layer → Spot → List ℕ → Bool
passed ls s path = nonempty (ground ls s path) && lefts (rect_of ls s).left s.layer (chosen ls s path)

-- the paths of its rows
abbrev paths : List Layer → Spot → List (List ℕ)
paths ls s = keep (λ path. belongs ls s (whole s path)) (rows_below (sizes_in (others ls s)))

-- its row with a path
abbrev row_for : List Layer → Spot → ℕ → List ℕ → Row Rect
row_for ls s n path = record { guard = n; path = path; state = ground ls s path }

module _ (ls : List Layer) (s : Spot) (has : Has ls s) where
  others-long : suc (length (others ls s)) ≡ length ls
  others-long = length_without s.layer ls (has-layer ls s.layer s.place has)

  row-long : {path : List ℕ} → Within (others ls s) path → (s.layer ≤ length (chosen ls s path)) × (s.layer ≤ length path)
  row-long w = omega (arith, within-long w, others-long, has-layer ls s.layer s.place has)

  rects-whole : {path : List ℕ} → Within (others ls s) path → rects ls (whole s path) ≡ insert_at s.layer (rect_of ls s) (chosen ls s path)
  rects-whole w = rects-insert s.layer s.place ls (has-layer ls s.layer s.place has) w

  common-whole : {path : List ℕ} → Within (others ls s) path → common_of (rects ls (whole s path)) ≡ ground ls s path
  common-whole {path} w = ap common_of (rects-whole w) ∙ common-insert (rect_of ls s) s.layer (chosen ls s path)

  -- a row belongs to the guard exactly where its path passes
  belongs-whole : {path : List ℕ} → Within (others ls s) path → belongs ls s (whole s path) ≡ passed ls s path
  unfolding belongs same_spot
  belongs-whole {path} w =
      ap₂ ◌&&◌ (ap nonempty (common-whole w))
      (spot (guard_layer (rects ls (whole s path))) ∙ rw (rects-whole w) (guard-lefts (rect_of ls s) s.layer (chosen ls s path) (row-long w).0))
    where
      spot : (i : ℕ) → (eqb i s.layer && eqb (get_or (whole s path) i 0) s.place) ≡ eqb i s.layer
      spot i =
          and_first (eqb i s.layer) (eqb (get_or (whole s path) i 0) s.place)
          (λ e. eq-eqb (get_or (whole s path) i 0) s.place (rw (eqb-true i s.layer e) (get_d-insert s.layer s.place 0 path (row-long w).1)))

  -- the guard's rows in the table
  block-paths : block ls s ≡ map (whole s) (paths ls s)
  block-paths =
      keep_same _ _ (all_any (λ row. sym (and_second _ _ (at_place row))) (rows_below (sizes_in ls)))
      ∙ rw (sizes-without s.layer ls) (rows_at (belongs ls s) s.place s.layer (sizes_in ls) (rw (← size-at s.layer ls) has))
    where
      at_place : (row : List ℕ) → belongs ls s row ≡ true → eqb (get_or row s.layer 0) s.place ≡ true
      at_place row e = subst (λ (z : Spot). eqb (get_or row z.layer 0) z.place ≡ true) (belongs-is ls s row e).1 (eq-eqb (guard_of ls row).place (guard_of ls row).place refl)

  module _ (more : 2 ≤ length ls) (some-point : nonempty (rect_of ls s) ≡ true) where
    -- the guard's rows in the walk
    guard-rows : (n : ℕ) → rows_of row_of (probes n (guard_at ls n s).slots [] (rect_of ls s)) ≡ map (row_for ls s n) (paths ls s)
    guard-rows n =
        rows-slots n slots [] (rect_of ls s) (omega (arith, slots-long (rect_of ls s).left s.layer (others ls s), others-long))
        ∙ (combinations-run n slots [] (rect_of ls s)
        ∙ rw (slot-sizes (rect_of ls s).left s.layer (others ls s)) (yields-kept _ (λ path. belongs ls s (whole s path)) (row_for ls s n) (all_map one (rows-within (others ls s)))))
      where
        slots : List (Slot Rect)
        slots = (guard_at ls n s).slots

        at : (path : List ℕ) (d : Rect) (t : Bool) → row_at n path (cond t (some d) none) ≡ cond t (some (record { guard = n; path = path; state = d })) none
        at path d true = refl
        at path d false = refl

        one : (path : List ℕ) → Within (others ls s) path → row_at n path (run slots (rect_of ls s) path) ≡ cond (belongs ls s (whole s path)) (some (row_for ls s n path)) none
        one path w = rw (ran (rect_of ls s).left s.layer (rect_of ls s) w some-point, belongs-whole w) (at path (ground ls s path) (passed ls s path))

-- ---- all guards
module _ (ls : List Layer) (spot : ℕ → Spot) where
  -- the places of a row of the walk
  abbrev places : Row Rect → List ℕ
  places r = whole (spot r.guard) r.path

  -- these rows of the walk are those of the table, each with its left guard and its area
  pub record Tabled (rs : List (Row Rect)) (rows : List (List ℕ)) : Type 0 where
    pub same : map places rs ≡ rows
    pub each : All (λ r. (spot r.guard ≡ guard_of ls (places r)) × (area_of r.state ≡ area_in ls (places r))) rs

  -- the rows of one guard
  guard-tabled : (n : ℕ) → Has ls (spot n) → 2 ≤ length ls → nonempty (rect_of ls (spot n)) ≡ true
      → Tabled (rows_of row_of (probes n (guard_at ls n (spot n)).slots [] (rect_of ls (spot n)))) (block ls (spot n))
  unfolding area_in
  guard-tabled n has more some-point = rw (guard-rows ls (spot n) has more some-point n, block-paths ls (spot n) has) (record {
    same = map-map places (row_for ls (spot n) n) (paths ls (spot n));
    each = all_of_map (row_for ls (spot n) n) (all_map one (all_keep (λ path. belongs ls (spot n) (whole (spot n) path)) (rows-within (others ls (spot n)))));
  })
    where
      one : (path : List ℕ) → Within (others ls (spot n)) path × (belongs ls (spot n) (whole (spot n) path) ≡ true)
          → (spot n ≡ guard_of ls (whole (spot n) path)) × (area_of (ground ls (spot n) path) ≡ area_in ls (whole (spot n) path))
      one path h = (sym (belongs-is ls (spot n) (whole (spot n) path) h.1).1, ap area_of (sym (common-whole ls (spot n) has h.0)))

  tabled-++ : {rs qs : List (Row Rect)} {rows more : List (List ℕ)} → Tabled rs rows → Tabled qs more → Tabled (rs ++ qs) (rows ++ more)
  tabled-++ {rs} {qs} p q = record { same = map-++ places rs qs ∙ ap₂ ◌++◌ p.same q.same; each = all-++ p.each q.each }

  -- the rows of all guards
  pub walk-tabled : 2 ≤ length ls → {ns : List ℕ} → All (λ n. Has ls (spot n) × (nonempty (rect_of ls (spot n)) ≡ true)) ns
      → Tabled (rows_of row_of (traversal (map (λ n. guard_at ls n (spot n)) ns))) (table ls (map spot ns))
  walk-tabled more none_left = record { same = refl; each = none_left }
  walk-tabled more (◌and◌ {a = n} h hs) = rw (rows_of-++ row_of) (tabled-++ (guard-tabled n h.0 more h.1) (walk-tabled more hs))
