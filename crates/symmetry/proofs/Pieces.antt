-- A piece of a layer's list: its rows, the places counted on from where it starts, are those rows of the whole list whose place is in it.
use mathlib.Core.Path.{◌≡◌, refl, sym, ap, ap₂, ◌∙◌, subst}
use mathlib.Core.List.{List, [], Memᴰ}
use Prim.Native.Nat.{ℕ, ◌+◌, ◌-◌, ◌*◌, ◌≤◌, ◌<◌}
use native.Mathlib.Omega.{arith}
use lib.IntN.{ℤ}
use lib.ListN.{length, get_or, set, take, drop, length-set, length-drop}
use lib.Seq.{get_or-set_same, get_or-set_other, length-take-le}
use Rattle.geometry.specs.Rectangles.{grown_by}
use Rattle.geometry.specs.Theorems.{Ranged}
use Rattle.plan.specs.Plan.{rect_at, Layer}
use Rattle.plan.specs.Spots.{layer_at}
use Rattle.plan.proofs.Spots.{rect-take, rect-drop}
use Rattle.join.specs.Join.{InJoin}
use Rattle.symmetry.specs.Plans.{Plan, parts_of, joined, counted_on}
use Rattle.symmetry.specs.Theorems.{Accepted, grown_layers, drawn_at, SameLayer, table_in, ground_in}
use Rattle.symmetry.proofs.Counted.{counted-long, counted-here, counted-else, counted_back}
use Rattle.symmetry.proofs.Places.{here-or-else, Placed, Among, rect_in, among-join, join-placed, same-ground}
use Rattle.symmetry.proofs.Parts.{drawn_layer, grown_layer, grown-place}
use Rattle.symmetry.proofs.Sheets.{Sheet, Sheets, sheets-of, sheets-sound, parts-back, drawn-of, layer-of}
use Rattle.symmetry.proofs.Rows.{row-join, join-row, row-grounded, layers-k, row-k}

-- `part` holds `size` rectangles of the n in `whole`, from the one at `start` on
pub record Piece (n : ℕ) (whole : List ℤ) (start size : ℕ) (part : List ℤ) : Type 0 where
  pub fits : start + size ≤ n
  pub long : length part ≡ 4 * size
  pub same : (r : ℕ) → r < size → rect_at part r ≡ rect_at whole (start + r)

pub piece-at : (n : ℕ) (whole : List ℤ) (start size : ℕ) → length whole ≡ 4 * n → start + size ≤ n → Piece n whole start size (take (4 * size) (drop (4 * start) whole))
piece-at n whole start size e h = record {
  fits = h;
  long = length-take-le (4 * size) (drop (4 * start) whole) (omega (arith, length-drop (4 * start) whole));
  same = λ r l.
      let z : r ≡ start + r - start = omega arith in
      rect-take (drop (4 * start) whole) size r l ∙ (ap (rect_at (drop (4 * start) whole)) z ∙ rect-drop whole start (start + r) (omega arith));
}

module _ (p : Plan) (a : Accepted p) (j : ℕ) (hj : j < p.shape.k) (start size : ℕ) (part : List ℤ) (piece : Piece (get_or p.shape.sizes j 0) (get_or (parts_of p) j []) start size part) where
  abbrev k : ℕ
  k = p.shape.k

  abbrev q : Plan
  q = record { shape = record { k = p.shape.k; sizes = set p.shape.sizes j size; margins = p.shape.margins }; cells = joined (set (parts_of p) j part) }

  old : Sheets p.shape (parts_of p)
  old = sheets-of p.shape p.cells a

  -- ---- the plan with that part alone
  size-here : get_or q.shape.sizes j 0 ≡ size
  size-here = get_or-set_same p.shape.sizes j size 0 (omega (arith, old.typed.sizes, old.high))

  size-else : (m : ℕ) → (m ≡ j → ⊥) → get_or q.shape.sizes m 0 ≡ get_or p.shape.sizes m 0
  size-else m n = get_or-set_other p.shape.sizes j m size 0 n

  part-here : get_or (set (parts_of p) j part) j [] ≡ part
  part-here = get_or-set_same (parts_of p) j part [] (omega (arith, old.long))

  part-else : (m : ℕ) → (m ≡ j → ⊥) → get_or (set (parts_of p) j part) m [] ≡ get_or (parts_of p) m []
  part-else m n = get_or-set_other (parts_of p) j m part [] n

  sheets : Sheets q.shape (set (parts_of p) j part)
  sheets = record {
    typed = record { sizes = length-set p.shape.sizes j size ∙ old.typed.sizes; margins = old.typed.margins };
    low = old.low;
    high = old.high;
    past = λ m h. (size-else m (λ e. omega arith) ∙ (old.past m h).0, (old.past m h).1);
    long = length-set (parts_of p) j part ∙ old.long;
    sheet = here-or-else j (λ m. m < k → Sheet (get_or q.shape.sizes m 0) (get_or p.shape.margins m 0) (get_or (set (parts_of p) j part) m [])) (λ h. rw (size-here, part-here) cut) (λ m n h. rw (size-else m n, part-else m n) (old.sheet m h));
  }
    where
      cut : Sheet size (get_or p.shape.margins j 0) part
      cut =
          let o = old.sheet j hj in
          record { small = omega (arith, o.small, piece.fits); margin = o.margin; whole = piece.long; ranged = λ r h. subst Ranged (sym (piece.same r h)) (o.ranged (start + r) (omega (arith, piece.fits))) }

  sound : Accepted q
  sound = sheets-sound q.shape (set (parts_of p) j part) sheets

  -- as drawn
  drawn-q : (m : ℕ) → m < k → drawn_at q m ≡ drawn_layer (get_or q.shape.sizes m 0) (get_or (set (parts_of p) j part) m [])
  drawn-q m h =
      drawn-of q.shape q.cells sound m h ∙ ap (λ (z : List (List ℤ)). drawn_layer (get_or q.shape.sizes m 0) (get_or z m [])) (parts-back q.shape (set (parts_of p) j part) sheets)

  pub drawn-else : (m : ℕ) → m < k → (m ≡ j → ⊥) → SameLayer q m p m
  drawn-else m h n = record { drawn = drawn-q m h ∙ (ap₂ drawn_layer (size-else m n) (part-else m n) ∙ sym (drawn-of p.shape p.cells a m h)); margin = refl }

  drawn-here : drawn_at q j ≡ drawn_layer size part
  drawn-here = drawn-q j hj ∙ ap₂ drawn_layer size-here part-here

  pub drawn-size : (drawn_at q j).size ≡ size
  drawn-size = ap (λ (z : Layer). z.size) drawn-here

  pub drawn-rect : (r : ℕ) → r < size → (drawn_at q j).rect r ≡ (drawn_at p j).rect (start + r)
  drawn-rect r h =
      ap (λ (z : Layer). z.rect r) drawn-here ∙ (piece.same r h ∙ sym (ap (λ (z : Layer). z.rect (start + r)) (drawn-of p.shape p.cells a j hj)))

  layer-q : (m : ℕ) → m < k → layer_at (grown_layers q) m ≡ grown_layer (get_or q.shape.sizes m 0) (get_or p.shape.margins m 0) (get_or (set (parts_of p) j part) m [])
  layer-q m h =
      layer-of q.shape q.cells sound m h
      ∙ ap (λ (z : List (List ℤ)). grown_layer (get_or q.shape.sizes m 0) (get_or p.shape.margins m 0) (get_or z m [])) (parts-back q.shape (set (parts_of p) j part) sheets)

  layer-else : (m : ℕ) → m < k → (m ≡ j → ⊥) → layer_at (grown_layers q) m ≡ layer_at (grown_layers p) m
  layer-else m h n =
      layer-q m h ∙ (ap₂ (λ (z : ℕ) (l : List ℤ). grown_layer z (get_or p.shape.margins m 0) l) (size-else m n) (part-else m n) ∙ sym (layer-of p.shape p.cells a m h))

  layer-here : layer_at (grown_layers q) j ≡ grown_layer size (get_or p.shape.margins j 0) part
  layer-here = layer-q j hj ∙ ap₂ (λ (z : ℕ) (l : List ℤ). grown_layer z (get_or p.shape.margins j 0) l) size-here part-here

  -- a place of the part is one of the whole list
  rect-here : (r : ℕ) → r < size → (layer_at (grown_layers p) j).rect (start + r) ≡ (layer_at (grown_layers q) j).rect r
  rect-here r h =
      let g = get_or p.shape.margins j 0 in
      let n = get_or p.shape.sizes j 0 in
      ap (λ (z : Layer). z.rect (start + r)) (layer-of p.shape p.cells a j hj)
      ∙ (grown-place n g (get_or (parts_of p) j []) (old.sheet j hj).whole (start + r) (omega (arith, piece.fits))
      ∙ (ap (grown_by g) (sym (piece.same r h))
      ∙ sym (ap (λ (z : Layer). z.rect r) layer-here ∙ grown-place size g part piece.long r h)))

  pub size-p : (layer_at (grown_layers p) j).size ≡ get_or p.shape.sizes j 0
  size-p = ap (λ (z : Layer). z.size) (layer-of p.shape p.cells a j hj)

  size-q : (layer_at (grown_layers q) j).size ≡ size
  size-q = ap (λ (z : Layer). z.size) layer-here

  long-p : length (grown_layers p) ≡ k
  long-p = layers-k p a

  long-q : length (grown_layers q) ≡ k
  long-q = layers-k q sound

  -- ---- a row of the part, and the same counted on
  module _ (row : List ℕ) (long : length row ≡ k) (here : get_or row j 0 < size) where
    same-rect : (m : ℕ) → m < k → rect_in (grown_layers p) (counted_on j start row) m ≡ rect_in (grown_layers q) row m
    same-rect =
        here-or-else j (λ m. m < k → rect_in (grown_layers p) (counted_on j start row) m ≡ rect_in (grown_layers q) row m)
        (λ h. ap (layer_at (grown_layers p) j).rect (counted-here j start row (omega (arith, long))) ∙ rect-here (get_or row j 0) here)
        (λ m n h. ap₂ (λ (z : Layer) (r : ℕ). z.rect r) (sym (layer-else m h n)) (counted-else j start row m n))

    forth : Among (λ m. m) (grown_layers p) (counted_on j start row) (grown_layers q) row
    forth = record { layer = λ m h. omega (arith, long-p, long-q); same = λ m h. same-rect m (omega (arith, long-p)) }

    back : Among (λ m. m) (grown_layers q) row (grown_layers p) (counted_on j start row)
    back = record { layer = λ m h. omega (arith, long-p, long-q); same = λ m h. sym (same-rect m (omega (arith, long-q))) }

    placed : Placed (grown_layers q) row → Placed (grown_layers p) (counted_on j start row)
    placed d = record {
      long = counted-long j start row ∙ (long ∙ sym long-p);
      has = λ m h. here-or-else j (λ m. m < k → get_or (counted_on j start row) m 0 < (layer_at (grown_layers p) m).size)
          (λ h. omega (arith, counted-here j start row (omega (arith, long)), size-p, piece.fits))
          (λ m n h. omega (arith, counted-else j start row m n, ap (λ (z : Layer). z.size) (layer-else m h n), d.has m (omega (arith, long-q)))) m (omega (arith, long-p));
    }

    unplaced : Placed (grown_layers p) (counted_on j start row) → Placed (grown_layers q) row
    unplaced d = record {
      long = long ∙ sym long-q;
      has = λ m h. here-or-else j (λ m. m < k → get_or row m 0 < (layer_at (grown_layers q) m).size)
          (λ h. omega (arith, size-q))
          (λ m n h. omega (arith, counted-else j start row m n, ap (λ (z : Layer). z.size) (layer-else m h n), d.has m (omega (arith, long-p)))) m (omega (arith, long-q));
    }

  -- the place at j of a row of the part
  row_here : (row : List ℕ) → Memᴰ row (table_in q) → get_or row j 0 < size
  row_here row m = omega (arith, size-q, (join-placed (row-join q sound row m)).has j (omega (arith, long-q)))

  pub part_sound : Accepted q
  part_sound = sound

  -- its rows, counted on, are rows of the whole list, at places of the part
  pub part-row : (row : List ℕ) → Memᴰ row (table_in q) → Memᴰ (counted_on j start row) (table_in p)
  part-row row m =
      let i = row-join q sound row m in
      let l = row-k q sound row m in
      let h = row_here row m in
      join-row p a (counted_on j start row) (among-join (forth row l h) (placed row l h (join-placed i)) i)

  pub part-place : (row : List ℕ) → Memᴰ row (table_in q) → (start ≤ get_or (counted_on j start row) j 0) × (get_or (counted_on j start row) j 0 < start + size)
  part-place row m = let e = counted-here j start row (omega (arith, row-k q sound row m)) in let h = row_here row m in (omega arith, omega arith)

  -- and these are all such rows
  pub row-part : (row : List ℕ) → Memᴰ row (table_in p) → start ≤ get_or row j 0 → get_or row j 0 < start + size → (r : List ℕ) × Memᴰ r (table_in q) × (counted_on j start r ≡ row)
  row-part row m low high =
      let l = row-k p a row m in
      let r = set row j (get_or row j 0 - start) in
      let e = counted_back j start row (omega (arith, l)) low in
      let n : length r ≡ k = length-set row j (get_or row j 0 - start) ∙ l in
      let h : get_or r j 0 < size = omega (arith, get_or-set_same row j (get_or row j 0 - start) 0 (omega (arith, l))) in
      let i = subst (InJoin (grown_layers p)) (sym e) (row-join p a row m) in
      (r, join-row q sound r (among-join (back r n h) (unplaced r n h (join-placed i)) i), e)

  pub part-ground : (row : List ℕ) → Memᴰ row (table_in q) → ground_in p (counted_on j start row) ≡ ground_in q row
  part-ground row m =
      let l = row-k q sound row m in
      let h = row_here row m in
      same-ground (row-grounded p a (counted_on j start row) (part-row row m)) (row-grounded q sound row m) (forth row l h) (back row l h)
