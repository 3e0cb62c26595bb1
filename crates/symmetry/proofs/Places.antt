-- The join by places: a row is in it where each of its places is in its layer and the rectangles there share a point. So it does not matter in which
-- order the layers stand, nor how the places of a layer are counted.
use mathlib.Core.Path.{◌≡◌, refl, sym, ap, ap₂, subst}
use mathlib.Core.List.{List, [], ◌∷◌}
use mathlib.Core.Bool.{Bool, true, false}
use mathlib.Core.Logic.{◌↔◌}
use Prim.Native.Nat.{ℕ, zero, suc, ◌<◌}
use native.Mathlib.Omega.{arith}
use lib.IntN.{ℤ}
use lib.Dec.{eqb}
use lib.ListN.{length, get_or}
use borrow.Author.Tests.{eqb-true, eqb-false}
use Rattle.lists.specs.Lists.{All}
use Rattle.lists.proofs.Lists.{all_get_d, get_d-all}
use Rattle.geometry.specs.declared.Rect.{Rect}
use Rattle.geometry.specs.Rectangles.{In, nonempty, area_of}
use Rattle.geometry.proofs.Integers.{zarith}
use Rattle.geometry.proofs.Rectangles.{sides}
use Rattle.plan.specs.Plan.{Layer}
use Rattle.plan.specs.Spots.{layer_at}
use Rattle.join.specs.Join.{Within, no_layer, ◌below◌, rects, InJoin, common_of, area_in}
use Rattle.join.proofs.Table.{within-at, within-long}

-- what holds at j and elsewhere holds everywhere
pub here-or-else : (j : ℕ) (P : ℕ → Type 0) → P j → ((m : ℕ) → (m ≡ j → ⊥) → P m) → (m : ℕ) → P m
here-or-else j P p r m = go (eqb m j) refl
  where
    go : (t : Bool) → eqb m j ≡ t → P m
    go true e = subst P (sym (eqb-true m j e)) p
    go false e = r m (eqb-false m j e)

-- the rectangle of a row in layer m
abbrev pub rect_in : List Layer → List ℕ → ℕ → Rect
rect_in ls row m = (layer_at ls m).rect (get_or row m 0)

-- each place is in its layer
pub record Placed (ls : List Layer) (row : List ℕ) : Type 0 where
  pub long : length row ≡ length ls
  pub has : (m : ℕ) → m < length ls → get_or row m 0 < (layer_at ls m).size

within-placed : {ls : List Layer} {row : List ℕ} → Within ls row → Placed ls row
within-placed w = let n = within-long w in record { long = n.1; has = λ m h. within-at w m (omega (arith, n.0)) }

placed-within : (ls : List Layer) (row : List ℕ) → Placed ls row → Within ls row
placed-within [] [] p = no_layer
placed-within [] (q ∷ row) p = absurd (omega (arith, p.long))
placed-within (l ∷ ls) [] p = absurd (omega (arith, p.long))
placed-within (l ∷ ls) (q ∷ row) p = ◌below◌ (p.has 0 (omega arith)) (placed-within ls row (record { long = omega (arith, p.long); has = λ m h. p.has (suc m) (omega arith) }))

rect-at : {ls : List Layer} {row : List ℕ} → Within ls row → (d : Rect) (m : ℕ) → m < length ls → get_or (rects ls row) m d ≡ rect_in ls row m
rect-at no_layer d m h = absurd (omega arith)
rect-at (◌below◌ k ks) d zero h = refl
rect-at (◌below◌ k ks) d (suc m) h = rect-at ks d m (omega arith)

-- a point is in all rectangles of a row
abbrev pub Inside : ℤ → ℤ → List Layer → List ℕ → Type 0
Inside x y ls row = (m : ℕ) → m < length ls → In x y (rect_in ls row m)

origin : Rect
origin = common_of []

module _ {ls : List Layer} {row : List ℕ} (w : Within ls row) (x y : ℤ) where
  all-inside : All (In x y) (rects ls row) → Inside x y ls row
  all-inside a m h = subst (In x y) (rect-at w origin m h) (all_get_d origin a m (omega (arith, (within-long w).0)))

  inside-all : Inside x y ls row → All (In x y) (rects ls row)
  inside-all f = get_d-all (rects ls row) origin (λ m h. subst (In x y) (sym (rect-at w origin m (omega (arith, (within-long w).0)))) (f m (omega (arith, (within-long w).0))))

-- ---- the rectangles of `row` in ls are among those of `more` in ms: that of layer m is that of layer `from m`
pub record Among (from : ℕ → ℕ) (ls : List Layer) (row : List ℕ) (ms : List Layer) (more : List ℕ) : Type 0 where
  pub layer : (m : ℕ) → m < length ls → from m < length ms
  pub same : (m : ℕ) → m < length ls → rect_in ls row m ≡ rect_in ms more (from m)

module _ {from : ℕ → ℕ} {ls : List Layer} {row : List ℕ} {ms : List Layer} {more : List ℕ} (a : Among from ls row ms more) where
  among-inside : (x y : ℤ) → Inside x y ms more → Inside x y ls row
  among-inside x y f m h = subst (In x y) (sym (a.same m h)) (f (from m) (a.layer m h))

  pub among-join : Placed ls row → InJoin ms more → InJoin ls row
  among-join p j =
      let w = placed-within ls row p in
      record { within = w; x = j.x; y = j.y; inside = inside-all w j.x j.y (among-inside j.x j.y (all-inside j.within j.x j.y j.inside)) }

pub join-placed : {ls : List Layer} {row : List ℕ} → InJoin ls row → Placed ls row
join-placed j = within-placed j.within

-- ---- layer m of ls is layer `from m` of ms, and the places in them are the same
pub record Follows (from : ℕ → ℕ) (ls : List Layer) (row : List ℕ) (ms : List Layer) (more : List ℕ) : Type 0 where
  pub long : length row ≡ length ls
  pub inside : (m : ℕ) → m < length ls → from m < length ms
  pub layer : (m : ℕ) → m < length ls → layer_at ls m ≡ layer_at ms (from m)
  pub place : (m : ℕ) → m < length ls → get_or row m 0 ≡ get_or more (from m) 0

module _ {from : ℕ → ℕ} {ls : List Layer} {row : List ℕ} {ms : List Layer} {more : List ℕ} (f : Follows from ls row ms more) where
  pub follows-among : Among from ls row ms more
  follows-among = record { layer = f.inside; same = λ m h. ap₂ (λ (z : Layer) (n : ℕ). z.rect n) (f.layer m h) (f.place m h) }

  pub follows-join : InJoin ms more → InJoin ls row
  follows-join j =
      let d = join-placed j in
      among-join follows-among (record { long = f.long; has = λ m h. omega (arith, d.has (from m) (f.inside m h), ap (λ (z : Layer). z.size) (f.layer m h), f.place m h) }) j

-- ---- rectangles that hold the same points are the same
same_points : (a b : Rect) → nonempty a ≡ true → nonempty b ≡ true → ((x y : ℤ) → In x y a → In x y b) → ((x y : ℤ) → In x y b → In x y a) → a ≡ b
same_points a b p q f g =
    let s = sides a p in
    let t = sides b q in
    let u = f a.left a.bottom (omega zarith) in
    let v = f a.right a.top (omega zarith) in
    let w = g b.left b.bottom (omega zarith) in
    let z = g b.right b.top (omega zarith) in
    let l : a.left ≡ b.left = omega zarith in
    let d : a.bottom ≡ b.bottom = omega zarith in
    let r : a.right ≡ b.right = omega zarith in
    let e : a.top ≡ b.top = omega zarith in
    λ i. record { left = l i; bottom = d i; right = r i; top = e i }

-- a row whose common ground holds the points of all its rectangles, and one at least
pub record Grounded (ls : List Layer) (row : List ℕ) : Type 0 where
  pub within : Within ls row
  pub intersection : (x y : ℤ) → In x y (common_of (rects ls row)) ↔ All (In x y) (rects ls row)
  pub some : nonempty (common_of (rects ls row)) ≡ true

-- so two rows of the same rectangles have the same common ground, and the same area
module _ {from to : ℕ → ℕ} {ls : List Layer} {row : List ℕ} {ms : List Layer} {more : List ℕ} where
  pub same-ground : Grounded ls row → Grounded ms more → Among from ls row ms more → Among to ms more ls row → common_of (rects ls row) ≡ common_of (rects ms more)
  same-ground g k a b =
      same_points _ _ g.some k.some
      (λ x y i. (k.intersection x y).1 (inside-all k.within x y (among-inside b x y (all-inside g.within x y ((g.intersection x y).0 i)))))
      (λ x y i. (g.intersection x y).1 (inside-all g.within x y (among-inside a x y (all-inside k.within x y ((k.intersection x y).0 i)))))

pub ground-area : (ls : List Layer) (row : List ℕ) (ms : List Layer) (more : List ℕ) → common_of (rects ls row) ≡ common_of (rects ms more) → area_in ls row ≡ area_in ms more
unfolding area_in
ground-area ls row ms more e = ap area_of e
