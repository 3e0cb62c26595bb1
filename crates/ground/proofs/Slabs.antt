-- Sums of functions that change only at given lines: slab by slab, from each line to the next.
use mathlib.Core.Path.{◌≡◌, refl, sym, ap, ap₂, ◌∙◌, subst}
use mathlib.Core.List.Memᴰ
use mathlib.Core.List.{List, [], ◌∷◌, Memᴰ}
use mathlib.Core.Bool.{◌&&◌}
use mathlib.Core.Logic.{⊎_elim}
use Prim.Native.Nat.{ℕ, ◌+◌, ◌*◌}
use native.Mathlib.Omega.{arith}
use lib.IntN.{ℤ, pos, nat_abs, ◌+ℤ◌, ◌-ℤ◌}
use lib.Signed.{le_z, ◌≤ℤ◌, ◌<ℤ◌}
use Rattle.lists.specs.Lists.{All, ◌and◌}
use Rattle.lists.proofs.Lists.{all_map}
use Rattle.geometry.specs.declared.Rect.{Rect}
use Rattle.geometry.proofs.Integers.{zarith, add-law, sub-law, size-law, one_side, refl-le, →leZ-true, →leZ-false}
use Rattle.ground.specs.Union.{holds_unit, square_in, covered, one, over, squares}
use Rattle.ground.proofs.Sums.{span_to, over-same, over-join, over-flat}

-- the sum over neighbouring lines of a, l of how far they lie apart times the value at the first of the two
abbrev pub slabs : (ℤ → ℕ) → ℤ → List ℤ → ℕ
slabs f a [] = 0
slabs f a (b ∷ l) = nat_abs (b -ℤ a) * f a + slabs f b l

-- the last line of a, l
abbrev pub last_of : ℤ → List ℤ → ℤ
last_of a [] = a
last_of a (b ∷ l) = last_of b l

-- ---- a function that is flat between neighbouring lines
data Flat (f : ℤ → ℕ) : ℤ → List ℤ → Type 0 where
  end : {a : ℤ} → Flat f a []
  slab : {a b : ℤ} {l : List ℤ} → a ≤ℤ b → ((x : ℤ) → a ≤ℤ x → x <ℤ b → f x ≡ f a) → Flat f b l → Flat f a (b ∷ l)

flat-rises : {f : ℤ → ℕ} {a : ℤ} {l : List ℤ} → Flat f a l → a ≤ℤ last_of a l
flat-rises {a = a} end = refl-le a
flat-rises (slab {a = a} {b = b} {l = l} h k r) = let i = flat-rises r in omega zarith

sizes-add : (a b c : ℤ) → a ≤ℤ b → b ≤ℤ c → nat_abs (c -ℤ a) ≡ nat_abs (b -ℤ a) + nat_abs (c -ℤ b)
sizes-add a b c h k = omega (zarith, size-law (b -ℤ a), sub-law b a, one_side (b -ℤ a), size-law (c -ℤ a), sub-law c a, one_side (c -ℤ a), size-law (c -ℤ b), sub-law c b, one_side (c -ℤ b))

size_none : (a : ℤ) → nat_abs (a -ℤ a) ≡ 0
size_none a = omega (arith, size-law (a -ℤ a), sub-law a a, one_side (a -ℤ a))

slabs-is : {f : ℤ → ℕ} {a : ℤ} {l : List ℤ} → Flat f a l → slabs f a l ≡ over f a (nat_abs (last_of a l -ℤ a))
slabs-is {a = a} end = rw size_none
slabs-is {f = f} (slab {a = a} {b = b} {l = l} h k r) =
    let first : over f a (nat_abs (b -ℤ a)) ≡ nat_abs (b -ℤ a) * f a = over-flat f a (nat_abs (b -ℤ a)) (f a) (λ x p q. k x p (subst (λ (t : ℤ). x <ℤ t) (span_to a b h) q)) in
    let both = over-join f a (nat_abs (b -ℤ a)) (nat_abs (last_of b l -ℤ b)) in
    let behind = rw (span_to a b h) at both in
    let rest = slabs-is r in
    rw (sizes-add a b (last_of b l) h (flat-rises r)) (omega arith)

-- ---- lines that a function may change at
-- the line c does not lie behind x and at or before y
pub data Clear (x y c : ℤ) : Type 0 where
  behind : c ≤ℤ x → Clear x y c
  beyond : y <ℤ c → Clear x y c

-- f changes at no number but the lines
abbrev pub Steady : List ℤ → (ℤ → ℕ) → Type 0
Steady cs f = (x y : ℤ) → x ≤ℤ y → All (Clear x y) cs → f x ≡ f y

-- a, l ascends
pub data Rises : ℤ → List ℤ → Type 0 where
  top : {a : ℤ} → Rises a []
  up_to : {a b : ℤ} {l : List ℤ} → a ≤ℤ b → Rises b l → Rises a (b ∷ l)

rises-to : {a c : ℤ} {l : List ℤ} → Rises a l → Memᴰ c (a ∷ l) → a ≤ℤ c
rises-to {a} {c} top m = let e = Memᴰ.eq_of_singleton m in omega zarith
rises-to {a} {c} (up_to h r) m = ⊎_elim (λ e. omega zarith) (λ k. let i = rises-to r k in omega zarith) (Memᴰ.cases_cons m)

-- a line of a, l is before or at a, or at b or behind it, where b comes next
next-line : {a b c : ℤ} {l : List ℤ} → Rises b l → Memᴰ c (a ∷ b ∷ l) → (x : ℤ) → x <ℤ b → Clear a x c
next-line {a} {b} {c} r m x h = ⊎_elim (λ e. behind (omega zarith)) (λ k. let i = rises-to r k in beyond (omega zarith)) (Memᴰ.cases_cons m)

-- every line c is behind a or among a, l
data Cut (a : ℤ) (l : List ℤ) (c : ℤ) : Type 0 where
  passed : c ≤ℤ a → Cut a l c
  ahead : Memᴰ c (a ∷ l) → Cut a l c

cut-clear : {a b c : ℤ} {l : List ℤ} → Rises b l → (x : ℤ) → x <ℤ b → Cut a (b ∷ l) c → Clear a x c
cut-clear r x h (passed k) = behind k
cut-clear r x h (ahead m) = next-line r m x h

cut_on : {a b c : ℤ} {l : List ℤ} → a ≤ℤ b → Cut a (b ∷ l) c → Cut b l c
cut_on {a} {b} {c} h (passed k) = passed (omega zarith)
cut_on {a} {b} {c} h (ahead m) = ⊎_elim (λ e. passed (omega zarith)) (λ k. ahead k) (Memᴰ.cases_cons m)

steady-flat : {cs : List ℤ} {f : ℤ → ℕ} {a : ℤ} {l : List ℤ} → Steady cs f → Rises a l → All (Cut a l) cs → Flat f a l
steady-flat s top k = end
steady-flat {f = f} s (up_to {a = a} {b = b} h r) k =
    slab h (λ x p q. sym (s a x p (all_map (λ c t. cut-clear r x q t) k))) (steady-flat s r (all_map (λ c t. cut_on h t) k))

-- the law of slabs: of lines that ascend, all those among them at which f may change
pub slabs-law : (cs : List ℤ) (f : ℤ → ℕ) (a : ℤ) (l : List ℤ) → Steady cs f → Rises a l → All (λ c. Memᴰ c (a ∷ l)) cs → over f a (nat_abs (last_of a l -ℤ a)) ≡ slabs f a l
slabs-law cs f a l s r k = sym (slabs-is (steady-flat s r (all_map (λ c m. ahead m) k)))

pub slabs-same : (f g : ℤ → ℕ) (a : ℤ) (l : List ℤ) → ((x : ℤ) → f x ≡ g x) → slabs f a l ≡ slabs g a l
slabs-same f g a [] h = refl
slabs-same f g a (b ∷ l) h = ap₂ ◌+◌ (ap (λ (n : ℕ). nat_abs (b -ℤ a) * n) (h a)) (slabs-same f g b l h)

-- ---- the lines of rectangles: at no other number a square begins to lie in one of them, or ceases to
abbrev pub xs_of : List Rect → List ℤ
xs_of [] = []
xs_of (r ∷ rs) = r.left ∷ r.right ∷ xs_of rs

abbrev pub ys_of : List Rect → List ℤ
ys_of [] = []
ys_of (r ∷ rs) = r.bottom ∷ r.top ∷ ys_of rs

low_same : (x y c : ℤ) → x ≤ℤ y → Clear x y c → le_z c x ≡ le_z c y
low_same x y c h (behind k) = →leZ-true c x (omega zarith) ∙ sym (→leZ-true c y (omega zarith))
low_same x y c h (beyond k) = →leZ-false c x (omega zarith) ∙ sym (→leZ-false c y (omega zarith))

high_same : (x y c : ℤ) → x ≤ℤ y → Clear x y c → le_z (x +ℤ pos 1) c ≡ le_z (y +ℤ pos 1) c
high_same x y c h (behind k) = →leZ-false (x +ℤ pos 1) c (omega (zarith, add-law x (pos 1))) ∙ sym (→leZ-false (y +ℤ pos 1) c (omega (zarith, add-law y (pos 1))))
high_same x y c h (beyond k) = →leZ-true (x +ℤ pos 1) c (omega (zarith, add-law x (pos 1))) ∙ sym (→leZ-true (y +ℤ pos 1) c (omega (zarith, add-law y (pos 1))))

within_same : (x y low high : ℤ) → x ≤ℤ y → Clear x y low → Clear x y high → holds_unit low high x ≡ holds_unit low high y
unfolding holds_unit
within_same x y low high h k l = ap₂ ◌&&◌ (low_same x y low h k) (high_same x y high h l)

covered-x : (rs : List Rect) (x x' y : ℤ) → x ≤ℤ x' → All (Clear x x') (xs_of rs) → covered rs x y ≡ covered rs x' y
unfolding square_in
covered-x [] x x' y h k = refl
covered-x (r ∷ rs) x x' y h (◌and◌ k (◌and◌ l ks)) = cc (within_same x x' r.left r.right h k l, covered-x rs x x' y h ks)

covered-y : (rs : List Rect) (x y y' : ℤ) → y ≤ℤ y' → All (Clear y y') (ys_of rs) → covered rs x y ≡ covered rs x y'
unfolding square_in
covered-y [] x y y' h k = refl
covered-y (r ∷ rs) x y y' h (◌and◌ k (◌and◌ l ks)) = cc (within_same y y' r.bottom r.top h k l, covered-y rs x y y' h ks)

-- ---- the union by slabs
pub column-steady : (rs : List Rect) (x : ℤ) → Steady (ys_of rs) (λ y. one (covered rs x y))
column-steady rs x y y' p q = ap one (covered-y rs x y y' p q)

pub row-steady : (rs : List Rect) (a : ℤ) (w : ℕ) → Steady (ys_of rs) (λ y. over (λ x. one (covered rs x y)) a w)
row-steady rs a w y y' p q = over-same _ _ a w (λ x. column-steady rs x y y' p q)

-- by lines of both kinds
pub union-by-cells : (rs : List Rect) (a b : ℤ) (xs ys : List ℤ) → Rises a xs → Rises b ys → All (λ c. Memᴰ c (a ∷ xs)) (xs_of rs) → All (λ c. Memᴰ c (b ∷ ys)) (ys_of rs)
    → squares (covered rs) a (nat_abs (last_of a xs -ℤ a)) b (nat_abs (last_of b ys -ℤ b)) ≡ slabs (λ x. slabs (λ y. one (covered rs x y)) b ys) a xs
union-by-cells rs a b xs ys r s k l =
    slabs-law (xs_of rs) (λ x. over (λ y. one (covered rs x y)) b (nat_abs (last_of b ys -ℤ b))) a xs (λ x x' p q. over-same _ _ b (nat_abs (last_of b ys -ℤ b)) (λ y. ap one (covered-x rs x x' y p q))) r k
    ∙ slabs-same _ _ a xs (λ x. slabs-law (ys_of rs) (λ y. one (covered rs x y)) b ys (column-steady rs x) s l)
