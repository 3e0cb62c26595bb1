-- A square lies in the common ground of some row exactly where every layer covers it: one rectangle a layer that holds it makes a row.
use mathlib.Core.Path.{◌≡◌, refl, subst}
use mathlib.Core.List.Memᴰ
use mathlib.Core.List.{List, [], ◌∷◌, map, Memᴰ}
use mathlib.Core.Bool.{true}
use mathlib.Core.Logic.{◌↔◌, ⊎_elim}
use Prim.Native.Nat.{ℕ, ◌≤◌, ◌<◌}
use native.Mathlib.Omega.{arith}
use lib.IntN.{ℤ, pos, ◌+ℤ◌}
use lib.ListN.{length}
use Rattle.lists.specs.Lists.{All, none_left, ◌and◌, numbers}
use Rattle.lists.proofs.Lists.{all_map, all-at}
use Rattle.lists.proofs.Tests.{both, and-true, same_test}
use Rattle.lists.proofs.Numbers.{numbers-below, numbers-long, numbers-distinct, has_all}
use Rattle.geometry.specs.declared.Rect.{Rect}
use Rattle.geometry.specs.Rectangles.{In}
use Rattle.geometry.proofs.Integers.{zarith, add-law}
use Rattle.plan.specs.Plan.{Layer, layers_of}
use Rattle.plan.specs.Frames.{Framed}
use Rattle.plan.proofs.Spots.{layers-long}
use Rattle.join.specs.Join.{Within, no_layer, ◌below◌, rects, cut, common_of}
use Rattle.join.specs.Table.{table_of}
use Rattle.join.proofs.Join.{in_cut, cut_in}
use Rattle.join.proofs.Theorems.{tables}
use Rattle.ground.specs.Union.{covered, grounds}
use Rattle.ground.specs.Layers.{rects_in, every_covers}
use Rattle.ground.specs.Theorems.{HoldsSquare}
use Rattle.ground.proofs.Union.{covers-is, is-covers, covered-is, is-covered}

pub number_in : (n p : ℕ) → p < n → Memᴰ p (numbers n)
number_in n p h = has_all n (numbers-below n) (numbers-distinct n) (numbers-long n) p h

-- what an element of a mapped list comes from
pub mapped : {A B : Type 0} (f : A → B) (l : List A) (b : B) → Memᴰ b (map f l) → (a : A) × Memᴰ a l × (b ≡ f a)
mapped f [] b m = absurd (Memᴰ.not-nil m)
mapped f (a ∷ l) b m = ⊎_elim (λ e. (a, Memᴰ.head refl, e)) (λ k. let h = mapped f l b k in (h.0, Memᴰ.tail h.1, h.2)) (Memᴰ.cases_cons m)

-- ---- a square lies in what is common exactly where it lies in each
module _ (x y : ℤ) where
  low : (r : Rect) → HoldsSquare x y r → In x y r
  low r h = omega (zarith, add-law x (pos 1), add-law y (pos 1), h.left, h.right, h.bottom, h.top)

  high : (r : Rect) → HoldsSquare x y r → In (x +ℤ pos 1) (y +ℤ pos 1) r
  high r h = omega (zarith, add-law x (pos 1), add-law y (pos 1), h.left, h.right, h.bottom, h.top)

  corners : (r : Rect) → In x y r → In (x +ℤ pos 1) (y +ℤ pos 1) r → HoldsSquare x y r
  corners r h k = record { left = omega zarith; right = omega zarith; bottom = omega zarith; top = omega zarith }

  both-corners : {rs : List Rect} → All (In x y) rs → All (In (x +ℤ pos 1) (y +ℤ pos 1)) rs → All (HoldsSquare x y) rs
  both-corners none_left none_left = none_left
  both-corners (◌and◌ {a = r} h hs) (◌and◌ k ks) = ◌and◌ (corners r h k) (both-corners hs ks)

  pub common-holds : {r : Rect} {rs : List Rect} → All (HoldsSquare x y) (r ∷ rs) → HoldsSquare x y (cut r rs)
  common-holds {r} (◌and◌ h hs) =
      corners _ (in_cut x y r (low r h) (all_map low hs)) (in_cut (x +ℤ pos 1) (y +ℤ pos 1) r (high r h) (all_map high hs))

  pub holds-each : (r : Rect) (rs : List Rect) → HoldsSquare x y (cut r rs) → All (HoldsSquare x y) (r ∷ rs)
  holds-each r rs h = both-corners (cut_in x y r rs (low _ h)) (cut_in (x +ℤ pos 1) (y +ℤ pos 1) r rs (high _ h))

  -- ---- each layer has a rectangle that holds the square: as a test, and as a row
  abbrev pub HasSquare : Layer → Type 0
  HasSquare l = (p : ℕ) × (p < l.size) × HoldsSquare x y (l.rect p)

  pub every-each : (ls : List Layer) → every_covers ls x y ≡ true → All HasSquare ls
  every-each [] e = none_left
  every-each (l ∷ ls) e =
      let b = both (covered (rects_in l) x y) (every_covers ls x y) e in
      let c = covered-is x y (rects_in l) b.0 in
      let p = mapped l.rect (numbers l.size) c.0 c.1 in
      ◌and◌ (p.0, all-at (numbers-below l.size) p.1, subst (HoldsSquare x y) p.2 (covers-is x y c.0 c.2)) (every-each ls b.1)

  pub each-every : {ls : List Layer} → All HasSquare ls → every_covers ls x y ≡ true
  each-every none_left = refl
  each-every (◌and◌ {a = l} h hs) =
      and-true _ _ (is-covered x y (rects_in l) (l.rect h.0) (Memᴰ.map l.rect (number_in l.size h.0 h.1)) (is-covers x y (l.rect h.0) h.2)) (each-every hs)

  row-each : {ls : List Layer} {row : List ℕ} → Within ls row → All (HoldsSquare x y) (rects ls row) → All HasSquare ls
  row-each no_layer none_left = none_left
  row-each (◌below◌ {p = p} h hs) (◌and◌ k ks) = ◌and◌ (p, h, k) (row-each hs ks)

  each_row : {ls : List Layer} → All HasSquare ls → (row : List ℕ) × Within ls row × All (HoldsSquare x y) (rects ls row)
  each_row none_left = ([], no_layer, none_left)
  each_row (◌and◌ h hs) = let r = each_row hs in (h.0 ∷ r.0, ◌below◌ h.1 r.1, ◌and◌ h.2 r.2)

  first-layer : (ls : List Layer) (row : List ℕ) → 1 ≤ length ls → Within ls row → HoldsSquare x y (common_of (rects ls row)) → All (HoldsSquare x y) (rects ls row)
  first-layer [] row k w h = absurd (omega arith)
  first-layer (l ∷ ls) row k (◌below◌ {p = p} {row = rest} i is) h = holds-each (l.rect p) (rects ls rest) h

  row_common : (ls : List Layer) (row : List ℕ) → 1 ≤ length ls → Within ls row → All (HoldsSquare x y) (rects ls row) → HoldsSquare x y (common_of (rects ls row))
  row_common [] row k w h = absurd (omega arith)
  row_common (l ∷ ls) row k (◌below◌ i is) h = common-holds h

-- ---- the table
module _ (ns : List ℕ) (cells : List ℤ) (f : Framed ns cells) where
  abbrev ours : List Layer
  ours = layers_of ns cells

  some : 1 ≤ length ours
  some = omega (arith, layers-long ns cells, f.some)

  module _ (x y : ℤ) where
    pub covered-each : (covered (grounds ours (table_of ns cells)) x y ≡ true) ↔ All (HasSquare x y) ours
    covered-each = (
      λ e.
          let c = covered-is x y _ e in
          let r = mapped (λ row. common_of (rects ours row)) (table_of ns cells) c.0 c.1 in
          let w = ((tables.tables ns cells f).is.sound r.0 r.1).within in
          row-each x y w (first-layer x y ours r.0 some w (subst (HoldsSquare x y) r.2 (covers-is x y c.0 c.2))),
      λ h.
          let r = each_row x y h in
          let m = (tables.tables ns cells f).is.complete r.0 (record { within = r.1; x = x; y = y; inside = all_map (low x y) r.2 }) in
          is-covered x y _ (common_of (rects ours r.0)) (Memᴰ.map (λ row. common_of (rects ours row)) m) (is-covers x y _ (row_common x y ours r.0 some r.1 r.2)),
    )

    pub covered-every : covered (grounds ours (table_of ns cells)) x y ≡ every_covers ours x y
    covered-every = same_test _ _ (λ e. each-every x y (covered-each.0 e)) (λ e. covered-each.1 (every-each x y ours e))
