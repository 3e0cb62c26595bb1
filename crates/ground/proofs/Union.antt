-- Laws of the union: where its squares lie, and what it has to do with areas.
use mathlib.Core.Path.{◌≡◌, refl, sym, ap, ap₂, ◌∙◌, subst}
use mathlib.Core.List.Memᴰ
use mathlib.Core.List.{List, [], ◌∷◌, map, Memᴰ}
use mathlib.Core.Bool.{Bool, true, false, ◌||◌}
use mathlib.Core.Logic.{◌⊎◌, inl, inr, ⊎_elim}
use Prim.Native.Nat.{ℕ, ◌+◌, ◌*◌, ◌≤◌}
use native.Mathlib.Omega.{arith}
use lib.IntN.{ℤ, pos, neg_ℤ, ◌+ℤ◌}
use lib.Signed.{le_z, ◌≤ℤ◌, ◌<ℤ◌}
use Rattle.lists.specs.Lists.{All, none_left, ◌and◌, Pairwise, done, ◌then◌, sum}
use Rattle.lists.proofs.Tests.{clash, both, and-true, never_true, same_test}
use Rattle.lists.proofs.Lists.{all-at}
use Rattle.geometry.specs.declared.Rect.{Rect}
use Rattle.geometry.specs.Rectangles.{extent, in_extent, area_of}
use Rattle.geometry.proofs.Integers.{zarith, add-law, neg-law, one_side}
use Rattle.geometry.proofs.Rectangles.{held-is}
use Rattle.ground.specs.Union.{holds_unit, square_in, covered, one, over, squares, breadth, union_of}
use Rattle.ground.specs.Theorems.{HoldsSquare, AllHeld, Spans}
use Rattle.ground.proofs.Sums.{over-same, over_none, over-part, squares-same, squares-least, squares-join, squares-most, squares-bound, interval-all, product-count}

-- ---- a square in a rectangle
pub within-is : (low high z : ℤ) → holds_unit low high z ≡ true → (low ≤ℤ z) × ((z +ℤ pos 1) ≤ℤ high)
unfolding holds_unit
within-is low high z e = let h = both (le_z low z) (le_z (z +ℤ pos 1) high) e in omega zarith

pub is_within : (low high z : ℤ) → low ≤ℤ z → (z +ℤ pos 1) ≤ℤ high → holds_unit low high z ≡ true
unfolding holds_unit
is_within low high z h k = and-true (le_z low z) (le_z (z +ℤ pos 1) high) (omega zarith) (omega zarith)

pub covers-is : (x y : ℤ) (r : Rect) → square_in x y r ≡ true → HoldsSquare x y r
unfolding square_in
covers-is x y r e =
    let h = both (holds_unit r.left r.right x) (holds_unit r.bottom r.top y) e in
    let p = within-is r.left r.right x h.0 in
    let q = within-is r.bottom r.top y h.1 in
    record { left = p.0; right = p.1; bottom = q.0; top = q.1 }

pub is-covers : (x y : ℤ) (r : Rect) → HoldsSquare x y r → square_in x y r ≡ true
unfolding square_in
is-covers x y r h = and-true _ _ (is_within r.left r.right x h.left h.right) (is_within r.bottom r.top y h.bottom h.top)

-- ---- in one of a list
pub either : (a b : Bool) → (a || b) ≡ true → (a ≡ true) ⊎ (b ≡ true)
either true b e = inl refl
either false b e = inr e

or-first : (a b : Bool) → a ≡ true → (a || b) ≡ true
or-first a b e = rw e

or-second : (a b : Bool) → b ≡ true → (a || b) ≡ true
or-second true b e = refl
or-second false b e = e

pub covered-is : (x y : ℤ) (rs : List Rect) → covered rs x y ≡ true → (r : Rect) × Memᴰ r rs × (square_in x y r ≡ true)
covered-is x y [] e = clash e refl
covered-is x y (r ∷ rs) e =
    ⊎_elim (λ c. (r, Memᴰ.head refl, c)) (λ c. let k = covered-is x y rs c in (k.0, Memᴰ.tail k.1, k.2)) (either (square_in x y r) (covered rs x y) e)

pub is-covered : (x y : ℤ) (rs : List Rect) (r : Rect) → Memᴰ r rs → square_in x y r ≡ true → covered rs x y ≡ true
is-covered x y [] r m e = absurd (Memᴰ.not-nil m)
is-covered x y (s ∷ rs) r m e =
    ⊎_elim (λ q. or-first _ (covered rs x y) (ap (square_in x y) (sym q) ∙ e)) (λ k. or-second (square_in x y s) _ (is-covered x y rs r k e)) (Memᴰ.cases_cons m)

-- the same rectangles cover the same squares
pub same-squares : (rs ss : List Rect) → ((r : Rect) → Memᴰ r rs → Memᴰ r ss) → ((r : Rect) → Memᴰ r ss → Memᴰ r rs) → (x y : ℤ) → covered rs x y ≡ covered ss x y
same-squares rs ss f g x y =
    same_test (covered rs x y) (covered ss x y)
    (λ e. let k = covered-is x y rs e in is-covered x y ss k.0 (f k.0 k.1) k.2)
    (λ e. let k = covered-is x y ss e in is-covered x y rs k.0 (g k.0 k.1) k.2)

-- ---- ranges: from a on w units, and from b on h
-- the rectangle lies in the range
pub record Inside (a : ℤ) (w : ℕ) (b : ℤ) (h : ℕ) (r : Rect) : Type 0 where
  pub left : a ≤ℤ r.left
  pub across : r.left ≤ℤ r.right
  pub right : r.right ≤ℤ (a +ℤ pos w)
  pub bottom : b ≤ℤ r.bottom
  pub upward : r.bottom ≤ℤ r.top
  pub top : r.top ≤ℤ (b +ℤ pos h)

-- a rectangle has as many squares as its area says
area-count : (a : ℤ) (w : ℕ) (b : ℤ) (h : ℕ) (r : Rect) → Inside a w b h r → squares (λ x y. square_in x y r) a w b h ≡ area_of r
unfolding square_in area_of
area-count a w b h r k =
    product-count (holds_unit r.left r.right) (holds_unit r.bottom r.top) a w b h
    ∙ ap₂ ◌*◌ (interval-all r.left r.right a w k.left k.across k.right) (interval-all r.bottom r.top b h k.bottom k.upward k.top)

module _ (a : ℤ) (w : ℕ) (b : ℤ) (h : ℕ) where
  join-most : (s t : Bool) → one (s || t) ≤ one s + one t
  join-most true t = omega arith
  join-most false t = omega arith

  most-in : {rs : List Rect} → All (Inside a w b h) rs → squares (covered rs) a w b h ≤ sum (map area_of rs)
  most-in none_left = subst (λ (n : ℕ). n ≤ 0) (sym (over-same _ _ a w (λ x. over_none b h) ∙ over_none a w)) (omega arith)
  most-in (◌and◌ {a = r} {l = rs} k ks) =
      omega (arith, squares-most a w b h (λ x y. square_in x y r) (covered rs) (covered (r ∷ rs)) (λ x y. join-most (square_in x y r) (covered rs x y)), area-count a w b h r k, most-in ks)

  -- no square of one is in the other
  abbrev Apart : Rect → Rect → Type 0
  Apart r s = (x y : ℤ) → square_in x y r ≡ true → square_in x y s ≡ true → ⊥

  join_apart : (s t : Bool) → (s ≡ true → t ≡ true → ⊥) → one (s || t) ≡ one s + one t
  join_apart true t f = rw (never_true t (f refl))
  join_apart false t f = omega arith

  apart_in : {rs : List Rect} → All (Inside a w b h) rs → Pairwise Apart rs → squares (covered rs) a w b h ≡ sum (map area_of rs)
  apart_in none_left done = over-same _ _ a w (λ x. over_none b h) ∙ over_none a w
  apart_in (◌and◌ {a = r} {l = rs} k ks) (◌then◌ p ps) =
      omega (arith, squares-join a w b h (λ x y. square_in x y r) (covered rs) (covered (r ∷ rs)) (λ x y. join_apart (square_in x y r) (covered rs x y) (alone x y)), area-count a w b h r k, apart_in ks ps)
    where
      alone : (x y : ℤ) → square_in x y r ≡ true → covered rs x y ≡ true → ⊥
      alone x y e f = let k = covered-is x y rs f in all-at p k.1 x y e k.2

  least-in : (rs : List Rect) (r : Rect) → Memᴰ r rs → Inside a w b h r → area_of r ≤ squares (covered rs) a w b h
  least-in rs r m k =
      omega (arith, area-count a w b h r k, squares-least a w b h (λ x y. square_in x y r) (covered rs) (λ x y. ordered (square_in x y r) (covered rs x y) (is-covered x y rs r m)))
    where
      ordered : (s t : Bool) → (s ≡ true → t ≡ true) → one s ≤ one t
      ordered true t f = rw (f refl) (omega arith)
      ordered false t f = omega arith

  -- ---- no square lies outside
  pub record Square (x y : ℤ) : Type 0 where
    pub left : a ≤ℤ x
    pub right : x <ℤ (a +ℤ pos w)
    pub bottom : b ≤ℤ y
    pub top : y <ℤ (b +ℤ pos h)

  square-in : {rs : List Rect} → All (Inside a w b h) rs → (x y : ℤ) → covered rs x y ≡ true → Square x y
  square-in {rs} ks x y e =
      let k = covered-is x y rs e in
      let i = all-at ks k.1 in
      let c = covers-is x y k.0 k.2 in
      record { left = omega zarith; right = omega (zarith, add-law x (pos 1)); bottom = omega zarith; top = omega (zarith, add-law y (pos 1)) }

  none_out : {rs : List Rect} → All (Inside a w b h) rs → (x y : ℤ) → (Square x y → ⊥) → one (covered rs x y) ≡ 0
  none_out {rs} ks x y f = ap one (never_true (covered rs x y) (λ e. f (square-in ks x y e)))

  pub wider : {rs : List Rect} → All (Inside a w b h) rs → (c : ℤ) (v : ℕ) (d : ℤ) (g : ℕ) → c ≤ℤ a → (a +ℤ pos w) ≤ℤ (c +ℤ pos v) → d ≤ℤ b → (b +ℤ pos h) ≤ℤ (d +ℤ pos g)
      → squares (covered rs) c v d g ≡ squares (covered rs) a w b h
  wider {rs} ks c v d g p q r s =
      over-same _ _ c v (λ x. over-part (λ y. one (covered rs x y)) d g b h r s (λ y l. none_out ks x y (λ i. below i.bottom l)) (λ y l. none_out ks x y (λ i. above i.top l)))
      ∙ over-part (λ x. over (λ y. one (covered rs x y)) b h) c v a w p q
      (λ x l. over-same _ _ b h (λ y. none_out ks x y (λ i. below i.left l)) ∙ over_none b h)
      (λ x l. over-same _ _ b h (λ y. none_out ks x y (λ i. above i.right l)) ∙ over_none b h)
    where
      below : {m n : ℤ} → m ≤ℤ n → n <ℤ m → ⊥
      below k l = omega zarith

      above : {m n : ℤ} → n <ℤ m → m ≤ℤ n → ⊥
      above k l = omega zarith

-- ---- the range of the walk
pub in-extent : (r : Rect) → in_extent r ≡ true → Inside (neg_ℤ extent) breadth (neg_ℤ extent) breadth r
in-extent r e =
    let h = held-is extent r e in
    record { left = h.left.0; across = h.across; right = h.right.1; bottom = h.bottom.0; upward = h.upward; top = h.top.1 }

pub all-extent : {rs : List Rect} → All (λ r. in_extent r ≡ true) rs → All (Inside (neg_ℤ extent) breadth (neg_ℤ extent) breadth) rs
all-extent none_left = none_left
all-extent (◌and◌ {a = r} k ks) = ◌and◌ (in-extent r k) (all-extent ks)

-- the range from −m to m
far : (m : ℕ) → (neg_ℤ (pos m) +ℤ pos (2 * m)) ≡ pos m
far m = omega (zarith, add-law (neg_ℤ (pos m)) (pos (2 * m)), neg-law (pos m), one_side (neg_ℤ (pos m) +ℤ pos (2 * m)))

in-range : (m : ℕ) {rs : List Rect} → AllHeld m rs → All (Inside (neg_ℤ (pos m)) (2 * m) (neg_ℤ (pos m)) (2 * m)) rs
in-range m none_left = none_left
in-range m (◌and◌ {a = r} k ks) =
    let h = held-is (pos m) r k in
    ◌and◌ (record { left = h.left.0; across = h.across; right = rw (far m) h.right.1; bottom = h.bottom.0; upward = h.upward; top = rw (far m) h.top.1 }) (in-range m ks)

-- any range that has it counts the same
span_same : (m : ℕ) (rs : List Rect) → AllHeld m rs → (a b : ℤ) (w h : ℕ) → Spans m a w → Spans m b h
    → squares (covered rs) a w b h ≡ squares (covered rs) (neg_ℤ (pos m)) (2 * m) (neg_ℤ (pos m)) (2 * m)
span_same m rs ks a b w h p q = wider (neg_ℤ (pos m)) (2 * m) (neg_ℤ (pos m)) (2 * m) (in-range m ks) a w b h p.0 (rw (far m) p.1) q.0 (rw (far m) q.1)

all-span : (m : ℕ) → m ≤ 10050000 → Spans m (neg_ℤ extent) breadth
all-span m h = (omega (zarith, neg-law (pos m), neg-law extent), omega zarith)

pub union-whole : (m : ℕ) → m ≤ 10050000 → (rs : List Rect) → AllHeld m rs → (a b : ℤ) (w h : ℕ) → Spans m a w → Spans m b h → squares (covered rs) a w b h ≡ union_of rs
unfolding union_of
union-whole m k rs ks a b w h p q = span_same m rs ks a b w h p q ∙ sym (span_same m rs ks (neg_ℤ extent) (neg_ℤ extent) breadth breadth (all-span m k) (all-span m k))

pub union-old : (rs : List Rect) → AllHeld 1050000 rs → union_of rs ≡ squares (covered rs) (neg_ℤ (pos 1050000)) 2100000 (neg_ℤ (pos 1050000)) 2100000
union-old rs ks = sym (union-whole 1050000 (omega arith) rs ks (neg_ℤ (pos 1050000)) (neg_ℤ (pos 1050000)) 2100000 2100000 (record { le = tt }, record { le = tt }) (record { le = tt }, record { le = tt }))

pub union-same : (rs ss : List Rect) → ((x y : ℤ) → covered rs x y ≡ covered ss x y) → union_of rs ≡ union_of ss
unfolding union_of
union-same rs ss e = squares-same (neg_ℤ extent) breadth (neg_ℤ extent) breadth (covered rs) (covered ss) e

pub union-most : (rs : List Rect) → All (λ r. in_extent r ≡ true) rs → union_of rs ≤ sum (map area_of rs)
unfolding union_of
union-most rs ks = most-in (neg_ℤ extent) breadth (neg_ℤ extent) breadth (all-extent ks)

pub union-apart : (rs : List Rect) → All (λ r. in_extent r ≡ true) rs → Pairwise (λ r s. (x y : ℤ) → square_in x y r ≡ true → square_in x y s ≡ true → ⊥) rs → union_of rs ≡ sum (map area_of rs)
unfolding union_of
union-apart rs ks ps = apart_in (neg_ℤ extent) breadth (neg_ℤ extent) breadth (all-extent ks) ps

pub union-least : (rs : List Rect) → All (λ r. in_extent r ≡ true) rs → (r : Rect) → Memᴰ r rs → area_of r ≤ union_of rs
unfolding union_of
union-least rs ks r m = least-in (neg_ℤ extent) breadth (neg_ℤ extent) breadth rs r m (in-extent r (all-at ks m))

pub union-bound : (rs : List Rect) → union_of rs ≤ 404010000000000
unfolding union_of
union-bound rs = squares-bound (neg_ℤ extent) breadth (neg_ℤ extent) breadth (covered rs)
