-- The rows of an accepted plan: those of the join, each once, with their common ground.
use mathlib.Core.Path.{◌≡◌, ◌∙◌}
use mathlib.Core.List.{List, map, Memᴰ}
use mathlib.Core.Logic.{◌↔◌}
use Prim.Native.Nat.{ℕ}
use lib.ListN.{length}
use Rattle.lists.specs.Lists.{All, Distinct, sum}
use Rattle.lists.proofs.Lists.{all-of-mem}
use Rattle.plan.specs.Plan.{sizes_of, grown}
use Rattle.plan.proofs.Growing.{framed}
use Rattle.join.specs.Join.{InJoin}
use Rattle.join.specs.Theorems.{TableHolds}
use Rattle.join.proofs.Theorems.{tables}
use Rattle.symmetry.specs.Plans.{Plan}
use Rattle.symmetry.specs.Theorems.{Accepted, grown_layers, table_in, SameSet}
use Rattle.symmetry.proofs.Sets.{same_sum, same_count}
use Rattle.symmetry.proofs.Places.{Grounded, join-placed}
use Rattle.symmetry.proofs.Sheets.{layers-count}

module _ (p : Plan) (a : Accepted p) where
  holds : TableHolds (sizes_of p.shape) (grown p.shape p.cells)
  holds = tables.tables (sizes_of p.shape) (grown p.shape p.cells) (framed p.shape p.cells a).1

  pub row-join : (row : List ℕ) → Memᴰ row (table_in p) → InJoin (grown_layers p) row
  row-join row m = holds.is.sound row m

  pub join-row : (row : List ℕ) → InJoin (grown_layers p) row → Memᴰ row (table_in p)
  join-row row j = holds.is.complete row j

  pub rows-once : Distinct (table_in p)
  rows-once = holds.is.once

  pub row-grounded : (row : List ℕ) → Memᴰ row (table_in p) → Grounded (grown_layers p) row
  row-grounded row m =
      let h = holds.rows row m in
      record { within = (row-join row m).within; intersection = h.intersection; some = h.some }

  -- there are k layers, and so k places
  pub layers-k : length (grown_layers p) ≡ p.shape.k
  layers-k = layers-count p.shape p.cells a

  pub row-k : (row : List ℕ) → Memᴰ row (table_in p) → length row ≡ p.shape.k
  row-k row m = (join-placed (row-join row m)).long ∙ layers-k

  pub rows-k : All (λ row. length row ≡ p.shape.k) (table_in p)
  rows-k = all-of-mem (table_in p) row-k

pub same_set : {rows more : List (List ℕ)} → ((row : List ℕ) → Memᴰ row rows ↔ Memᴰ row more) → Distinct rows → Distinct more → SameSet rows more
same_set {rows} {more} same once once_too = record {
  same = same;
  once = once;
  once_too = once_too;
  many = same_count rows more once once_too (λ row m. (same row).0 m) (λ row m. (same row).1 m);
}

-- over the same set, sums are the same
pub set_sum : {rows more : List (List ℕ)} → SameSet rows more → (f : List ℕ → ℕ) → sum (map f rows) ≡ sum (map f more)
set_sum {rows} {more} s f = same_sum f rows more s.once s.once_too (λ row m. (s.same row).0 m) (λ row m. (s.same row).1 m)
