-- A layer's list cut in two: the rows of its two pieces share nothing and together make the old ones.
use mathlib.Core.Path.{◌≡◌, refl, sym, ap, ap₂, ◌∙◌, subst}
use mathlib.Core.List.Memᴰ
use mathlib.Core.List.{List, [], ◌++◌, map, Memᴰ}
use mathlib.Core.Logic.{◌⊎◌, inl, inr}
use Prim.Native.Nat.{ℕ, ◌+◌, ◌*◌, ◌≤◌, ◌<◌, zero-le}
use native.Mathlib.Omega.{arith}
use lib.IntN.{ℤ}
use lib.ListN.{length, get_or, take, drop}
use Rattle.lists.specs.Lists.{Distinct, sum}
use Rattle.lists.proofs.Tests.{total}
use Rattle.lists.proofs.Lists.{pairwise-with, pairwise-of-map, pairwise-++, all-of-mem}
use Rattle.lists.proofs.Kept.{map-++, map-map, map_same}
use Rattle.lists.proofs.Numbers.{sum-++}
use Rattle.join.specs.Join.{area_in}
use Rattle.symmetry.specs.Plans.{Plan, parts_of, piece, counted_on}
use Rattle.symmetry.specs.Theorems.{Accepted, grown_layers, table_in, ground_in, areas_in, PieceIs, SameSet, Cut}
use Rattle.symmetry.proofs.Places.{join-placed, ground-area}
use Rattle.symmetry.proofs.Sheets.{sheets-of}
use Rattle.symmetry.proofs.Rows.{row-join, rows-once, layers-k, rows-k, same_set, set_sum}
use Rattle.symmetry.proofs.Counted.{counted_none, counted-once}
use Rattle.symmetry.proofs.Pieces.{Piece, piece-at, drawn-else, drawn-size, drawn-rect, part_sound, part-row, part-place, row-part, part-ground, size-p}

piece_is : (j from n : ℕ) (p : Plan) → Accepted p → j < p.shape.k → from + n ≤ get_or p.shape.sizes j 0 → PieceIs j from n p (piece j from n p)
piece_is j from n p a hj h = record {
  others = drawn-else p a j hj from n cells cut;
  margin = refl;
  size = drawn-size p a j hj from n cells cut;
  rects = drawn-rect p a j hj from n cells cut;
}
  where
    whole : List ℤ
    whole = get_or (parts_of p) j []

    cells : List ℤ
    cells = take (4 * n) (drop (4 * from) whole)

    cut : Piece (get_or p.shape.sizes j 0) whole from n cells
    cut = piece-at (get_or p.shape.sizes j 0) whole from n ((sheets-of p.shape p.cells a).sheet j hj).whole h

module _ (j m n : ℕ) (p : Plan) (a : Accepted p) (hj : j < p.shape.k) (hm : get_or p.shape.sizes j 0 ≡ m + n) where
  abbrev all : ℕ
  all = get_or p.shape.sizes j 0

  abbrev whole : List ℤ
  whole = get_or (parts_of p) j []

  abbrev one : Plan
  one = piece j 0 m p

  abbrev two : Plan
  two = piece j m n p

  abbrev first-cells : List ℤ
  first-cells = take (4 * m) (drop (4 * 0) whole)

  abbrev second-cells : List ℤ
  second-cells = take (4 * n) (drop (4 * m) whole)

  full : length whole ≡ 4 * all
  full = ((sheets-of p.shape p.cells a).sheet j hj).whole

  first-cut : Piece all whole 0 m first-cells
  first-cut = piece-at all whole 0 m full (omega (arith, hm))

  second-cut : Piece all whole m n second-cells
  second-cut = piece-at all whole m n full (omega (arith, hm))

  sound-one : Accepted one
  sound-one = part_sound p a j hj 0 m first-cells first-cut

  sound-two : Accepted two
  sound-two = part_sound p a j hj m n second-cells second-cut

  -- ---- the first part's rows, as they are
  one-row : (row : List ℕ) → Memᴰ row (table_in one) → Memᴰ row (table_in p)
  one-row row i = subst (λ (r : List ℕ). Memᴰ r (table_in p)) (counted_none j row) (part-row p a j hj 0 m first-cells first-cut row i)

  one_place : (row : List ℕ) → Memᴰ row (table_in one) → get_or row j 0 < m
  one_place row i =
      let h = (part-place p a j hj 0 m first-cells first-cut row i).1 in omega (arith, ap (λ (r : List ℕ). get_or r j 0) (counted_none j row))

  row_one : (row : List ℕ) → Memᴰ row (table_in p) → get_or row j 0 < m → Memᴰ row (table_in one)
  row_one row i h =
      let r = row-part p a j hj 0 m first-cells first-cut row i zero-le (omega arith) in
      subst (λ (x : List ℕ). Memᴰ x (table_in one)) (sym (counted_none j r.0) ∙ r.2) r.1

  one-ground : (row : List ℕ) → Memᴰ row (table_in one) → ground_in p row ≡ ground_in one row
  one-ground row i = ap (ground_in p) (sym (counted_none j row)) ∙ part-ground p a j hj 0 m first-cells first-cut row i

  -- ---- the second part's rows, counted on
  abbrev counted : List (List ℕ)
  counted = map (counted_on j m) (table_in two)

  two-row : (row : List ℕ) → Memᴰ row counted → Memᴰ row (table_in p) × (m ≤ get_or row j 0)
  two-row row i =
      let r = Memᴰ.of_map (counted_on j m) (table_in two) i in
      subst (λ (x : List ℕ). Memᴰ x (table_in p) × (m ≤ get_or x j 0)) r.2
      (part-row p a j hj m n second-cells second-cut r.0 r.1, (part-place p a j hj m n second-cells second-cut r.0 r.1).0)

  row-two : (row : List ℕ) → Memᴰ row (table_in p) → m ≤ get_or row j 0 → Memᴰ row counted
  row-two row i h =
      let b = (join-placed (row-join p a row i)).has j (omega (arith, layers-k p a)) in
      let r = row-part p a j hj m n second-cells second-cut row i h (omega (arith, size-p p a j hj m n second-cells second-cut)) in
      subst (λ (x : List ℕ). Memᴰ x counted) r.2 (Memᴰ.map (counted_on j m) r.1)

  two-ground : (row : List ℕ) → Memᴰ row (table_in two) → ground_in p (counted_on j m row) ≡ ground_in two row
  two-ground = part-ground p a j hj m n second-cells second-cut

  -- ---- both
  apart : (row : List ℕ) → Memᴰ row (table_in one) → Memᴰ row counted → ⊥
  apart row i k = omega (arith, one_place row i, (two-row row k).1)

  counted-distinct : Distinct counted
  counted-distinct =
      pairwise-of-map (counted_on j m) (λ x y d. d) (pairwise-with (λ x y lx ly d e. d (counted-once j m p.shape.k hj x y lx ly e)) (rows-k two sound-two) (rows-once two sound-two))

  same_rows : SameSet (table_in p) (table_in one ++ counted)
  same_rows =
      same_set (λ row. (to row, from row)) (rows-once p a)
      (pairwise-++ (rows-once one sound-one) (all-of-mem (table_in one) (λ x i. all-of-mem counted (λ y k e. apart y (subst (λ (r : List ℕ). Memᴰ r (table_in one)) e i) k))) counted-distinct)
    where
      to : (row : List ℕ) → Memᴰ row (table_in p) → Memᴰ row (table_in one ++ counted)
      to row i = go (total m (get_or row j 0))
        where
          go : (m ≤ get_or row j 0) ⊎ (get_or row j 0 < m) → Memᴰ row (table_in one ++ counted)
          go (inl h) = Memᴰ.append_right (table_in one) (row-two row i h)
          go (inr h) = Memᴰ.append_left counted (row_one row i h)

      from : (row : List ℕ) → Memᴰ row (table_in one ++ counted) → Memᴰ row (table_in p)
      from row i = go (Memᴰ.append_cases (table_in one) i)
        where
          go : Memᴰ row (table_in one) ⊎ Memᴰ row counted → Memᴰ row (table_in p)
          go (inl k) = one-row row k
          go (inr k) = (two-row row k).0

  areas : areas_in one + areas_in two ≡ areas_in p
  areas =
      let f = area_in (grown_layers p) in
      let x = map_same (area_in (grown_layers one)) f (all-of-mem (table_in one) (λ row i. ground-area (grown_layers one) row (grown_layers p) row (sym (one-ground row i)))) in
      let y = map_same (area_in (grown_layers two)) (λ row. f (counted_on j m row)) (all-of-mem (table_in two) (λ row i. ground-area (grown_layers two) row (grown_layers p) (counted_on j m row) (sym (two-ground row i)))) in
      ap₂ (λ (s t : List ℕ). sum s + sum t) x (y ∙ sym (map-map f (counted_on j m) (table_in two)))
      ∙ sym (set_sum same_rows f ∙ (ap sum (map-++ f (table_in one) counted) ∙ sum-++ (map f (table_in one)) (map f counted)))

  pub cut_holds : Cut j m n p one two
  cut_holds = record {
    pieces = (piece_is j 0 m p a hj (omega (arith, hm)), piece_is j m n p a hj (omega (arith, hm)));
    accepted = ((refl, sound-one), (refl, sound-two));
    rows = same_rows;
    areas = areas;
    ground = (one-ground, two-ground);
  }
