-- Layers in another order, whichever: one argument for any two layers and for all of them. The layer at m is the one that was at `from m`, and the
-- layer that was at m is now at `to m`.
use mathlib.Core.Path.{◌≡◌, refl, sym, ap, ap₂, ◌∙◌, subst}
use mathlib.Core.List.Memᴰ
use mathlib.Core.List.{List, [], map, Memᴰ}
use mathlib.Core.Logic.{◌↔◌}
use Prim.Native.Nat.{ℕ, ◌+◌, ◌≤◌, ◌<◌}
use native.Mathlib.Omega.{arith}
use lib.IntN.{ℤ}
use lib.ListN.{length, get_or}
use lib.Seq.{ext_get_or}
use Rattle.lists.specs.Lists.{Distinct, upto, sum}
use Rattle.lists.proofs.Lists.{pairwise-with, pairwise-of-map, all-of-mem}
use Rattle.lists.proofs.Kept.{map-map, map_same, length-upto, get_d-upto}
use Rattle.geometry.specs.declared.Rect.{Rect}
use Rattle.plan.specs.declared.Shape.{Shape}
use Rattle.plan.specs.Plan.{Typed}
use Rattle.plan.specs.Spots.{layer_at}
use Rattle.join.specs.Join.{InJoin, area_in}
use Rattle.ground.specs.Union.{grounds}
use Rattle.ground.proofs.Theorems.{union-members}
use Rattle.symmetry.specs.Plans.{Plan, parts_of, joined}
use Rattle.symmetry.specs.Theorems.{Accepted, grown_layers, table_in, ground_in, areas_in, union_in, SameLayer, SameSet, AcceptedToo, KeepsGround}
use Rattle.symmetry.proofs.Places.{Follows, follows-among, follows-join, same-ground, ground-area}
use Rattle.symmetry.proofs.Parts.{drawn_layer, grown_layer}
use Rattle.symmetry.proofs.Sheets.{Sheet, Sheets, sheets-of, sheets-sound, parts-back, drawn-of, layer-of}
use Rattle.symmetry.proofs.Rows.{row-join, join-row, rows-once, row-grounded, layers-k, row-k, rows-k, same_set, set_sum}

-- what is promised of q, in whatever way its rows are those of p
pub record Changed (p q : Plan) (change : List ℕ → List ℕ) : Type 0 where
  pub accepted : AcceptedToo p q
  pub rows : SameSet (table_in q) (map change (table_in p))
  pub areas : areas_in q ≡ areas_in p
  pub union : union_in q ≡ union_in p
  pub ground : KeepsGround p q change

-- places below k, moved one to one
pub record Moves (k : ℕ) (from to : ℕ → ℕ) : Type 0 where
  pub from-below : (m : ℕ) → m < k → from m < k
  pub to_below : (m : ℕ) → m < k → to m < k
  pub from-to : (m : ℕ) → m < k → from (to m) ≡ m
  pub to-from : (m : ℕ) → m < k → to (from m) ≡ m

-- the layers of a shape with these parts are those of p, so moved
pub record Moved (p : Plan) (s : Shape) (ps : List (List ℤ)) (from : ℕ → ℕ) : Type 0 where
  pub sizes : (m : ℕ) → m < p.shape.k → get_or s.sizes m 0 ≡ get_or p.shape.sizes (from m) 0
  pub margins : (m : ℕ) → m < p.shape.k → get_or s.margins m 0 ≡ get_or p.shape.margins (from m) 0
  pub cells : (m : ℕ) → m < p.shape.k → get_or ps m [] ≡ get_or (parts_of p) (from m) []
  pub typed : Typed s
  pub count : s.k ≡ p.shape.k
  pub past : (m : ℕ) → p.shape.k ≤ m → (get_or s.sizes m 0 ≡ 0) × (get_or s.margins m 0 ≡ 0)
  pub long : length ps ≡ p.shape.k

-- a row's places moved alike
pub record MovesRow (k : ℕ) (from : ℕ → ℕ) (change : List ℕ → List ℕ) : Type 0 where
  pub at : (row : List ℕ) → length row ≡ k → (m : ℕ) → m < k → get_or (change row) m 0 ≡ get_or row (from m) 0
  pub long : (row : List ℕ) → length row ≡ k → length (change row) ≡ k

-- what is made of the rows' common grounds as a set is the same too
module _ (p q : Plan) (change : List ℕ → List ℕ) (rows : SameSet (table_in q) (map change (table_in p))) (ground : KeepsGround p q change) where
  same-grounds : (c : Rect) → Memᴰ c (map (ground_in q) (table_in q)) ↔ Memᴰ c (map (ground_in p) (table_in p))
  same-grounds c = (forth, back)
    where
      forth : Memᴰ c (map (ground_in q) (table_in q)) → Memᴰ c (map (ground_in p) (table_in p))
      forth i =
          let r = Memᴰ.of_map (ground_in q) (table_in q) i in
          let s = Memᴰ.of_map change (table_in p) ((rows.same r.0).0 r.1) in
          subst (λ (z : Rect). Memᴰ z (map (ground_in p) (table_in p))) (sym (ground s.0 s.1) ∙ (ap (ground_in q) s.2 ∙ r.2)) (Memᴰ.map (ground_in p) s.1)

      back : Memᴰ c (map (ground_in p) (table_in p)) → Memᴰ c (map (ground_in q) (table_in q))
      back i =
          let r = Memᴰ.of_map (ground_in p) (table_in p) i in
          subst (λ (z : Rect). Memᴰ z (map (ground_in q) (table_in q))) (ground r.0 r.1 ∙ r.2) (Memᴰ.map (ground_in q) ((rows.same (change r.0)).1 (Memᴰ.map change r.1)))

  same-union : union_in q ≡ union_in p
  same-union = union-members (grounds (grown_layers q) (table_in q)) (grounds (grown_layers p) (table_in p)) same-grounds

module _ (p : Plan) (a : Accepted p) (s : Shape) (ps : List (List ℤ)) (from to : ℕ → ℕ) (moves : Moves p.shape.k from to) (moved : Moved p s ps from) where
  abbrev k : ℕ
  k = p.shape.k

  abbrev q : Plan
  q = record { shape = s; cells = joined ps }

  old : Sheets p.shape (parts_of p)
  old = sheets-of p.shape p.cells a

  -- sizes, margins and cells of each layer are those of one of p's
  same-sheet : (X : ℕ → ℕ → List ℤ → Type 0) (m : ℕ) → m < k → X (get_or p.shape.sizes (from m) 0) (get_or p.shape.margins (from m) 0) (get_or (parts_of p) (from m) []) → X (get_or s.sizes m 0) (get_or s.margins m 0) (get_or ps m [])
  same-sheet X m h x = rw (moved.sizes m h, moved.margins m h, moved.cells m h) x

  sheets : Sheets s ps
  sheets = record {
    typed = moved.typed;
    low = omega (arith, moved.count, old.low);
    high = omega (arith, moved.count, old.high);
    past = λ m h. moved.past m (omega (arith, moved.count));
    long = moved.long ∙ sym moved.count;
    sheet = λ m h. let l : m < k = omega (arith, moved.count) in same-sheet Sheet m l (old.sheet (from m) (moves.from-below m l));
  }

  sound : Accepted q
  sound = sheets-sound s ps sheets

  layer-moved : (m : ℕ) → m < k → layer_at (grown_layers q) m ≡ layer_at (grown_layers p) (from m)
  layer-moved m h =
      layer-of s (joined ps) sound m (omega (arith, moved.count))
      ∙ (ap (λ (z : List (List ℤ)). grown_layer (get_or s.sizes m 0) (get_or s.margins m 0) (get_or z m [])) (parts-back s ps sheets)
      ∙ (same-sheet (λ n g part. grown_layer n g part ≡ grown_layer (get_or p.shape.sizes (from m) 0) (get_or p.shape.margins (from m) 0) (get_or (parts_of p) (from m) [])) m h refl
      ∙ sym (layer-of p.shape p.cells a (from m) (moves.from-below m h))))

  -- as drawn
  pub layer-kept : (m : ℕ) → m < k → SameLayer q m p (from m)
  layer-kept m h = record {
    drawn =
        drawn-of s (joined ps) sound m (omega (arith, moved.count))
        ∙ (ap₂ drawn_layer (moved.sizes m h) (ap (λ (z : List (List ℤ)). get_or z m []) (parts-back s ps sheets) ∙ moved.cells m h) ∙ sym (drawn-of p.shape p.cells a (from m) (moves.from-below m h)));
    margin = moved.margins m h;
  }

  long-q : length (grown_layers q) ≡ k
  long-q = layers-k q sound ∙ moved.count

  module _ (change : List ℕ → List ℕ) (row-moves : MovesRow k from change) where
    -- the place that was at m
    changed-at : (row : List ℕ) → length row ≡ k → (m : ℕ) → m < k → get_or (change row) (to m) 0 ≡ get_or row m 0
    changed-at row long m h = row-moves.at row long (to m) (moves.to_below m h) ∙ ap (λ (n : ℕ). get_or row n 0) (moves.from-to m h)

    -- ---- a row and its changed one
    module _ (row : List ℕ) (long : length row ≡ k) where
      forth : Follows from (grown_layers q) (change row) (grown_layers p) row
      forth = record {
        long = row-moves.long row long ∙ sym long-q;
        inside = λ m h. subst (λ (n : ℕ). from m < n) (sym (layers-k p a)) (moves.from-below m (omega (arith, long-q)));
        layer = λ m h. layer-moved m (omega (arith, long-q));
        place = λ m h. row-moves.at row long m (omega (arith, long-q));
      }

      back : Follows to (grown_layers p) row (grown_layers q) (change row)
      back = record {
        long = long ∙ sym (layers-k p a);
        inside = λ m h. subst (λ (n : ℕ). to m < n) (sym long-q) (moves.to_below m (omega (arith, layers-k p a)));
        layer = λ m h. let l : m < k = omega (arith, layers-k p a) in sym (layer-moved (to m) (moves.to_below m l) ∙ ap (layer_at (grown_layers p)) (moves.from-to m l));
        place = λ m h. let l : m < k = omega (arith, layers-k p a) in sym (changed-at row long m l);
      }

    -- ---- the changed rows are all rows
    -- the row that is changed to this one
    source : List ℕ → List ℕ
    source row = upto (λ m. get_or row (to m) 0) 0 k

    source-long : (row : List ℕ) → length (source row) ≡ k
    unfolding source
    source-long row = length-upto (λ m. get_or row (to m) 0) 0 k

    source-at : (row : List ℕ) (m : ℕ) → m < k → get_or (source row) m 0 ≡ get_or row (to m) 0
    unfolding source
    source-at row m h = let e : 0 + m ≡ m = omega arith in get_d-upto (λ m. get_or row (to m) 0) 0 k m 0 h ∙ ap (λ (n : ℕ). get_or row (to n) 0) e

    changed-source : (row : List ℕ) → length row ≡ k → change (source row) ≡ row
    changed-source row long =
        let n = row-moves.long (source row) (source-long row) in
        ext_get_or 0 (change (source row)) row (n ∙ sym long)
        (λ m h. let l : m < k = omega (arith, n) in row-moves.at (source row) (source-long row) m l ∙ (source-at row (from m) (moves.from-below m l) ∙ ap (λ (z : ℕ). get_or row z 0) (moves.to-from m l)))

    change-row : (row : List ℕ) → Memᴰ row (table_in p) → Memᴰ (change row) (table_in q)
    change-row row m = join-row q sound (change row) (follows-join (forth row (row-k p a row m)) (row-join p a row m))

    source_row : (row : List ℕ) → Memᴰ row (table_in q) → Memᴰ row (map change (table_in p))
    source_row row m =
        let e = changed-source row (row-k q sound row m ∙ moved.count) in
        subst (λ (r : List ℕ). Memᴰ r (map change (table_in p))) e
        (Memᴰ.map change (join-row p a (source row) (follows-join (back (source row) (source-long row)) (subst (InJoin (grown_layers q)) (sym e) (row-join q sound row m)))))

    -- no two rows are changed to the same
    one-to-one : (x y : List ℕ) → length x ≡ k → length y ≡ k → change x ≡ change y → x ≡ y
    one-to-one x y lx ly e =
        ext_get_or 0 x y (lx ∙ sym ly)
        (λ m h. let l : m < k = omega (arith, lx) in sym (changed-at x lx m l) ∙ (ap (λ (r : List ℕ). get_or r (to m) 0) e ∙ changed-at y ly m l))

    changed-once : Distinct (map change (table_in p))
    changed-once =
        pairwise-of-map change (λ x y n. n) (pairwise-with (λ x y lx ly n e. n (one-to-one x y lx ly e)) (rows-k p a) (rows-once p a))

    same_rows : SameSet (table_in q) (map change (table_in p))
    same_rows = same_set (λ row. (source_row row, back-row row)) (rows-once q sound) changed-once
      where
        back-row : (row : List ℕ) → Memᴰ row (map change (table_in p)) → Memᴰ row (table_in q)
        back-row row m = let r = Memᴰ.of_map change (table_in p) m in subst (λ (x : List ℕ). Memᴰ x (table_in q)) r.2 (change-row r.0 r.1)

    ground : (row : List ℕ) → Memᴰ row (table_in p) → ground_in q (change row) ≡ ground_in p row
    ground row m =
        let l = row-k p a row m in
        same-ground (row-grounded q sound (change row) (change-row row m)) (row-grounded p a row m) (follows-among (forth row l)) (follows-among (back row l))

    areas : areas_in q ≡ areas_in p
    areas =
        set_sum same_rows (area_in (grown_layers q))
        ∙ ap sum
        (map-map (area_in (grown_layers q)) change (table_in p)
        ∙ map_same (λ row. area_in (grown_layers q) (change row)) (area_in (grown_layers p)) (all-of-mem (table_in p) (λ row m. ground-area (grown_layers q) (change row) (grown_layers p) row (ground row m))))

    pub changed : Changed p q change
    changed = record { accepted = (moved.count, sound); rows = same_rows; areas = areas; union = same-union p q change same_rows ground; ground = ground }
