-- A table that holds rows of the join in its order, those that pass a test, as `union_of_table` asks for it.
use mathlib.Core.Path.{◌≡◌}
use mathlib.Core.List.{List, [], ◌∷◌, map}
use mathlib.Core.Bool.{Bool}
use Prim.Native.Nat.{ℕ, ◌≤◌}
use native.Mathlib.Omega.{arith}
use lib.IntN.{ℤ}
use lib.Signed.{◌≤ℤ◌}
use lib.ListN.{length, take}
use Rattle.lists.specs.Lists.{Pairwise, done, ◌then◌, keep}
use Rattle.lists.proofs.Lists.{all_map, all-of-mem, all_under, pairwise-of-map}
use Rattle.lists.proofs.Kept.{all_keep, pairwise-keep}
use Rattle.plan.specs.Plan.{layers_of}
use Rattle.plan.specs.Frames.{Framed}
use Rattle.plan.proofs.Spots.{layers-long}
use Rattle.geometry.specs.declared.Rect.{Rect}
use Rattle.join.specs.Join.{rects, common_of}
use Rattle.join.specs.Table.{table_of}
use Rattle.join.proofs.Theorems.{tables}
use Rattle.rows.proofs.RowCall.{is-row}
use Rattle.ground.specs.Union.{grounds}
use Rattle.ground.proofs.Tables.{table-lefts}
use Rattle.rows.specs.Tables.{rows_in}
use Rattle.rows.specs.inner.TableRows.{TableRows}

-- what holds of pairs of images
pairwise-under : {A B : Type 0} {R : B → B → Type 0} (g : A → B) (l : List A) → Pairwise R (map g l) → Pairwise (λ a b. R (g a) (g b)) l
pairwise-under g [] h = done
pairwise-under {R = R} g (a ∷ l) (◌then◌ h hs) = ◌then◌ (all_under {P = R (g a)} g l h) (pairwise-under {R = R} g l hs)

module _ (sizes : List ℕ) (k : ℕ) (cells : List ℤ) (table : List ℕ) (n : ℕ) (inside : k ≤ length sizes) (frame : Framed (take k sizes) cells) (test : List ℕ → Bool) (e : rows_in k n table ≡ keep test (table_of (take k sizes) cells)) where
  pub ready-rows : TableRows sizes k cells table n
  ready-rows =
      let ls = layers_of (take k sizes) cells in
      record {
        inside = inside;
        framed = frame;
        all = rw e (all_map (λ row h. h.0) (all_keep test (all-of-mem (table_of (take k sizes) cells) (λ row m. (is-row ls (omega (arith, layers-long (take k sizes) cells, frame.some)) row).1 ((tables.tables (take k sizes) cells frame).is.sound row m)))));
      }

  pub ready-lefts : Pairwise (λ r s. r.left ≤ℤ s.left) (grounds (layers_of (take k sizes) cells) (rows_in k n table))
  ready-lefts =
      let ground : List ℕ → Rect = λ row. common_of (rects (layers_of (take k sizes) cells) row) in
      rw e (pairwise-of-map {R = λ r s. r.left ≤ℤ s.left} {Q = λ a b. (ground a).left ≤ℤ (ground b).left} ground (λ a b h. h)
      (pairwise-keep test (pairwise-under {R = λ r s. r.left ≤ℤ s.left} ground (table_of (take k sizes) cells) (table-lefts (take k sizes) cells frame))))
