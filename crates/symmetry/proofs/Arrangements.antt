-- All layers in any order: layers, and the columns of rows, move alike.
use mathlib.Core.Path.{◌≡◌, refl, sym, ap, ◌∙◌}
use mathlib.Core.List.Memᴰ
use mathlib.Core.List.{List, [], ◌∷◌, map, Memᴰ}
use mathlib.Core.Bool.{Bool, true, false, cond}
use mathlib.Core.Logic.{◌⊎◌, inl, inr}
use Prim.Native.Nat.{ℕ, zero, suc, ◌≤◌, ◌<◌}
use native.Mathlib.Omega.{arith}
use lib.Dec.{eqb}
use lib.ListN.{length, get_or, length-map}
use lib.Seq.{get_or-take}
use borrow.Author.Tests.{eqb-true, eqb-false}
use Rattle.lists.specs.Lists.{done, ◌then◌, Distinct, padded}
use Rattle.lists.proofs.Lists.{all_get_d}
use Rattle.lists.proofs.Numbers.{has_all}
use Rattle.lists.proofs.Padding.{take-padded, padded-long, padded-zeros}
use Rattle.symmetry.specs.Plans.{Plan, parts_of, selected, arranged, arranged_row}
use Rattle.symmetry.specs.Theorems.{Accepted, Rearranged, Arrangement}
use Rattle.symmetry.proofs.Sheets.{Sheets, sheets-of}
use Rattle.symmetry.proofs.Rearranging.{Changed, Moves, Moved, MovesRow, layer-kept, changed}

pub map_at : {A B : Type 0} (f : A → B) (d : A) (e : B) (l : List A) (m : ℕ) → m < length l → get_or (map f l) m e ≡ f (get_or l m d)
map_at f d e [] m h = absurd (omega arith)
map_at f d e (a ∷ l) zero h = refl
map_at f d e (a ∷ l) (suc m) h = map_at f d e l m (omega arith)

module _ {A : Type 0} (d : A) (places : List ℕ) (l : List A) where
  selected-long : length (selected d places l) ≡ length places
  unfolding selected
  selected-long = length-map places (λ m. get_or l m d)

  selected-at : (m : ℕ) → m < length places → get_or (selected d places l) m d ≡ get_or l (get_or places m 0) d
  unfolding selected
  selected-at m h = map_at (λ m. get_or l m d) 0 d places m h

pub column-at : (places row : List ℕ) (m : ℕ) → m < length places → get_or (arranged_row places row) m 0 ≡ get_or row (get_or places m 0) 0
column-at places row = selected-at 0 places row

-- where a number stands first
position : ℕ → List ℕ → ℕ
position n [] = 0
position n (a ∷ l) = cond (eqb n a) 0 (suc (position n l))

position_at : (n : ℕ) (l : List ℕ) → Memᴰ n l → (position n l < length l) × (get_or l (position n l) 0 ≡ n)
unfolding position
position_at n [] m = absurd (Memᴰ.not-nil m)
position_at n (a ∷ l) m = go (eqb n a) refl (Memᴰ.cases_cons m) (position_at n l)
  where
    go : (t : Bool) → eqb n a ≡ t → (n ≡ a) ⊎ Memᴰ n l → (Memᴰ n l → (position n l < length l) × (get_or l (position n l) 0 ≡ n))
        → (cond t 0 (suc (position n l)) < suc (length l)) × (get_or (a ∷ l) (cond t 0 (suc (position n l))) 0 ≡ n)
    go true e i f = (omega arith, sym (eqb-true n a e))
    go false e (inl z) f = absurd (eqb-false n a e z)
    go false e (inr i) f = let r = f i in (omega (arith, r.0), r.1)

-- numbers that stand once stand at one place
one_place : {l : List ℕ} → Distinct l → (x y : ℕ) → x < length l → y < length l → get_or l x 0 ≡ get_or l y 0 → x ≡ y
one_place done x y p q e = absurd (omega arith)
one_place (◌then◌ h hs) zero zero p q e = refl
one_place (◌then◌ h hs) zero (suc y) p q e = absurd (all_get_d 0 h y (omega arith) e)
one_place (◌then◌ h hs) (suc x) zero p q e = absurd (all_get_d 0 h x (omega arith) (sym e))
one_place (◌then◌ h hs) (suc x) (suc y) p q e = ap suc (one_place hs x y (omega arith) (omega arith) e)

module _ (k : ℕ) (places : List ℕ) (o : Arrangement k places) where
  found : (m : ℕ) → m < k → (position m places < length places) × (get_or places (position m places) 0 ≡ m)
  found m h = position_at m places (has_all k o.below o.once o.long m h)

  place-moves : Moves k (λ m. get_or places m 0) (λ m. position m places)
  place-moves = record {
    from-below = below;
    to_below = λ m h. omega (arith, (found m h).0, o.long);
    from-to = λ m h. (found m h).1;
    to-from = λ m h. let f = found (get_or places m 0) (below m h) in one_place o.once (position (get_or places m 0) places) m f.0 (omega (arith, o.long)) f.1;
  }
    where
      below : (m : ℕ) → m < k → get_or places m 0 < k
      below m h = all_get_d 0 o.below m (omega (arith, o.long))

  columns-arranged : MovesRow k (λ m. get_or places m 0) (arranged_row places)
  columns-arranged = record { at = λ row e m h. selected-at 0 places row m (omega (arith, o.long)); long = λ row e. selected-long 0 places row ∙ o.long }

module _ (places : List ℕ) (p : Plan) (a : Accepted p) (o : Arrangement p.shape.k places) where
  drawn : Sheets p.shape (parts_of p)
  drawn = sheets-of p.shape p.cells a

  -- six numbers of which those of the k layers are so selected
  filled_at : (l : List ℕ) (m : ℕ) → m < p.shape.k → get_or (padded 6 (selected 0 places l)) m 0 ≡ get_or l (get_or places m 0) 0
  filled_at l m h =
      let n = selected-long 0 places l ∙ o.long in
      let t = take-padded 6 (selected 0 places l) (omega (arith, n, drawn.high)) in
      sym (get_or-take (length (selected 0 places l)) (padded 6 (selected 0 places l)) m 0 (omega (arith, n)))
      ∙ (ap (λ (z : List ℕ). get_or z m 0) t ∙ selected-at 0 places l m (omega (arith, o.long)))

  filled-past : (l : List ℕ) (m : ℕ) → p.shape.k ≤ m → get_or (padded 6 (selected 0 places l)) m 0 ≡ 0
  filled-past l m h = padded-zeros 6 (selected 0 places l) m (omega (arith, selected-long 0 places l, o.long))

  layers-arranged : Moved p (arranged places p).shape (selected [] places (parts_of p)) (λ m. get_or places m 0)
  layers-arranged = record {
    sizes = filled_at p.shape.sizes;
    margins = filled_at p.shape.margins;
    cells = λ m h. selected-at [] places (parts_of p) m (omega (arith, o.long));
    typed = record { sizes = padded-long 6 (selected 0 places p.shape.sizes); margins = padded-long 6 (selected 0 places p.shape.margins) };
    count = refl;
    past = λ m h. (filled-past p.shape.sizes m h, filled-past p.shape.margins m h);
    long = selected-long [] places (parts_of p) ∙ o.long;
  }

  pub arrange-holds : Rearranged places p (arranged places p)
  arrange-holds = record {
    layers = layer-kept p a (arranged places p).shape (selected [] places (parts_of p)) (λ m. get_or places m 0) (λ m. position m places) (place-moves p.shape.k places o) layers-arranged;
    accepted = moved.accepted;
    rows = moved.rows;
    areas = moved.areas;
    union = moved.union;
    ground = moved.ground;
  }
    where
      moved : Changed p (arranged places p) (arranged_row places)
      moved = changed p a (arranged places p).shape (selected [] places (parts_of p)) (λ m. get_or places m 0) (λ m. position m places) (place-moves p.shape.k places o) layers-arranged (arranged_row places) (columns-arranged p.shape.k places o)
