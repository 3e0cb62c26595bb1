-- Laws of a table's rows for each of which something is put: what is left to be put, row by row.
use mathlib.Core.Path.{◌≡◌, refl, ap}
use mathlib.Core.Bool.{true}
use mathlib.Core.List.{List, [], ◌∷◌, ◌++◌}
use Prim.Native.Nat.{ℕ, zero, suc, ◌+◌, ◌-◌, ◌*◌, ◌≤◌, ◌<◌}
use native.Mathlib.Omega.{arith}
use lib.IntN.{ℤ}
use lib.ListN.{length, take, drop, length-drop}
use Rattle.lists.specs.Lists.{All, ◌and◌}
use Rattle.lists.proofs.Lists.{all_map}
use Rattle.lists.specs.inner.Stores.{Put}
use Rattle.lists.proofs.Stores.{Left, left-all, left-put, left-none}
use Rattle.plan.specs.Plan.{Layer, layers_of}
use Rattle.rows.specs.RowCall.{is_row}
use Rattle.rows.specs.Tables.{rows_in}
use Rattle.rows.specs.inner.TableRows.{TableRows}
use Rattle.rows.proofs.TableRows.{Ahead, none_read, one-read, row_inside}
use Rattle.printing.specs.inner.Parts.{FitsAt}
use Rattle.printing.proofs.Puts.{room-left}
use Rattle.listing.specs.Lines.{row_line_with, row_lines_with}
use Rattle.listing.specs.inner.Parts.{each_row}

-- lines are put row by row
pub lines_each : (more : List ℕ → List ℕ) (ls : List Layer) (rows : List (List ℕ)) → each_row (row_line_with more ls) rows ≡ row_lines_with more ls rows
lines_each more ls [] = refl
lines_each more ls (row ∷ rows) = ap (λ (l : List ℕ). row_line_with more ls row ++ l) (lines_each more ls rows)

-- ---- the rows of the join
module _ (sizes : List ℕ) (k : ℕ) (cells : List ℤ) (table : List ℕ) (n : ℕ) (h : TableRows sizes k cells table n) where
  ahead-at : (i : ℕ) → i ≤ n → Ahead sizes k cells table n (k * i) i
  ahead-at zero l = let e : k * 0 ≡ 0 = omega arith in rw e (none_read sizes k cells table n h)
  ahead-at (suc i) l =
      let e : k * suc i ≡ k * i + k = omega arith in
      let f : suc i ≡ i + 1 = omega arith in
      rw (e, f) (one-read sizes k cells table n (k * i) i (ahead-at i (omega arith)) (omega arith))

  last-inside : (m : ℕ) → n ≡ m → k * m ≤ length table
  last-inside zero e = omega arith
  last-inside (suc m) e =
      let r = row_inside sizes k cells table n (k * m) m (ahead-at m (omega (arith, e))) (omega (arith, e)) h in
      omega (arith, r)

  -- they lie in the table
  pub table-inside : k * n ≤ length table
  table-inside = last-inside n refl

  -- what holds of each row of the join holds of each of them
  pub rows_are : {Q : List ℕ → Type 0} → ((row : List ℕ) → is_row (layers_of (take k sizes) cells) row ≡ true → Q row) → All Q (rows_in k n table)
  rows_are f = all_map f h.all

-- ---- the loop over rows: what is put, and what is due for the rows from i on, give all
module _ (P : List ℕ → Type 0) (bytes : List ℕ → List ℕ) (k : ℕ) (table : List ℕ) (n : ℕ) (first : List ℕ) (from : ℕ) where
  abbrev whole : List ℕ
  whole = each_row bytes (rows_in k n table)

  -- the first i rows are put; the others stand first in `rest`, and what is due for them is left to be put at `at`
  pub record Unput (buf : List ℕ) (at : ℕ) (rest : List ℕ) (i : ℕ) : Type 0 where
    pub inside : k * (n - i) ≤ length rest
    pub rows : All P (rows_in k (n - i) rest)
    pub left : Left first from whole buf at (each_row bytes (rows_in k (n - i) rest))

  pub none-put : k * n ≤ length table → All P (rows_in k n table) → Unput first from table 0
  none-put l h = let z : n - 0 ≡ n = omega arith in record { inside = rw z l; rows = rw z h; left = rw z (left-all _ _ _) }

  module _ (buf : List ℕ) (at : ℕ) (rest : List ℕ) (i : ℕ) (u : Unput buf at rest i) where
    pub all-put : n ≤ i → Put first from whole buf at
    all-put h = let z : n - i ≡ 0 = omega arith in left-none _ _ _ _ _ (rw z at u.left)

    module _ (h : i < n) where
      abbrev more : ℕ
      more = n - (i + 1)

      one_more : n - i ≡ suc more
      one_more = omega arith

      due : Left first from whole buf at (bytes (take k rest) ++ each_row bytes (rows_in k more (drop k rest)))
      due = rw one_more at u.left

      inside : k + k * more ≤ length rest
      inside = let l : k * suc more ≤ length rest = rw one_more at u.inside in omega (arith, l)

      heads : {row : List ℕ} {rows : List (List ℕ)} → All P (row ∷ rows) → P row × All P rows
      heads (◌and◌ p ps) = (p, ps)

      parts : P (take k rest) × All P (rows_in k more (drop k rest))
      parts = heads (rw one_more at u.rows)

      pub next-inside : k ≤ length rest
      next-inside = omega (arith, inside)

      module _ (row behind : List ℕ) (e : row ≡ take k rest) (f : behind ≡ drop k rest) where
        pub next-is : P row
        next-is = rw e parts.0

        pub next-room : FitsAt first from whole → FitsAt buf at (bytes row)
        next-room r = rw e (room-left _ _ _ _ _ (bytes (take k rest)) _ r due)

        -- what is due for it is put
        pub next-put : (last : List ℕ) (r : ℕ) → Put buf at (bytes row) last r → Unput last r behind (i + 1)
        next-put last r p =
            record {
              inside = rw f (omega (arith, inside, length-drop k rest));
              rows = rw f parts.1;
              left = rw f (left-put _ _ _ _ _ (bytes (take k rest)) _ _ _ (rw e at p) due);
            }
