-- The tally stays good behind right lines, and only behind them.
use mathlib.Core.Path.{◌≡◌, refl, sym, ap, ap₂, ◌∙◌, subst}
use mathlib.Core.List.{List, [], ◌∷◌, ◌++◌, append_assoc, append-nil}
use mathlib.Core.Bool.{Bool, true, false, ◌&&◌}
use Prim.Native.Nat.{ℕ, zero, suc, ◌+◌, ◌-◌, ◌≤◌, ◌<◌, zero-le}
use native.Mathlib.Omega.{arith}
use lib.Dec.{eqb, leb}
use lib.IntN.{ℤ, pos, negsuc, nat_abs}
use lib.ListN.{length, set, length-append}
use borrow.Author.Tests.{eqb-true, eq-eqb, leb-true, le-leb, lt-ltb}
use Rattle.lists.specs.Lists.{sum, padded}
use Rattle.lists.proofs.Tests.{clash, both, and-true}
use Rattle.geometry.specs.declared.Rect.{Rect}
use Rattle.geometry.specs.Rectangles.{in_range}
use Rattle.line.specs.declared.Line.{Line}
use Rattle.line.specs.declared.Line.TheVariants.{Plan, Layer, Rectangle}
use Rattle.text.specs.declared.Tally.{Tally}
use Rattle.text.specs.Spelling.{all_inner}
use Rattle.text.specs.Plans.{layer_sizes, layer_margins, rects_agree}
use Rattle.text.specs.inner.Counting.{spoilt, pick, up_to, layer_right, with_layer, add_layer, with_rect, add_rect, add_lines}
use Rattle.text.proofs.Counting.{right}
use Rattle.text.proofs.Sound.{Inside, inside-none, inside-layer, layer-inside, inside-rect, rect-inside}

-- t is the tally of layers of these sizes and margins
pub record Tallied (ns ms : List ℕ) (t : Tally) : Type 0 where
  pub formed : t.formed ≡ true
  pub layers : t.layers ≡ length ns
  pub beside : length ms ≡ length ns
  pub rects : t.rects ≡ sum ns
  pub sizes : t.sizes ≡ padded 6 ns
  pub margins : t.margins ≡ padded 6 ms

-- the lines are right where `due` RECT lines are to come and there are `layers` already
pub record Fits (due layers : ℕ) (ls : List Line) : Type 0 where
  pub count : rects_agree due ls ≡ true
  pub few : layers + length (layer_sizes ls) ≤ 6
  pub inside : Inside ls

-- ---- one more
padded-set : (m n : ℕ) (ns : List ℕ) → length ns < m → set (padded m ns) (length ns) n ≡ padded m (ns ++ n ∷ [])
padded-set zero n ns h = absurd (omega arith)
padded-set (suc m) n [] h = refl
padded-set (suc m) n (x ∷ ns) h = ap (λ (l : List ℕ). x ∷ l) (padded-set m n ns (omega arith))

sum-++ : (l m : List ℕ) → sum (l ++ m) ≡ sum l + sum m
sum-++ [] m = omega arith
sum-++ (a ∷ l) m = omega (arith, sum-++ l m)

tallied-layer : (ns ms : List ℕ) (t : Tally) (n m : ℕ) → t.layers < 6 → Tallied ns ms t → Tallied (ns ++ n ∷ []) (ms ++ m ∷ []) (with_layer t n m)
tallied-layer ns ms t n m h d =
    record {
      formed = d.formed;
      layers = omega (arith, d.layers, length-append ns (n ∷ []));
      beside = omega (arith, d.beside, length-append ns (n ∷ []), length-append ms (m ∷ []));
      rects = omega (arith, d.rects, sum-++ ns (n ∷ []));
      sizes = ap₂ (λ (l : List ℕ) (i : ℕ). set l i n) d.sizes d.layers ∙ padded-set 6 n ns (omega (arith, d.layers));
      margins = ap₂ (λ (l : List ℕ) (i : ℕ). set l i m) d.margins (d.layers ∙ sym d.beside) ∙ padded-set 6 m ms (omega (arith, d.layers, d.beside));
    }

tallied-rect : (ns ms : List ℕ) (t : Tally) → Tallied ns ms t → Tallied ns ms (with_rect t)
tallied-rect ns ms t d = record { formed = d.formed; layers = d.layers; beside = d.beside; rects = d.rects; sizes = d.sizes; margins = d.margins }

layer_is : (t : Tally) (n m : ℤ) → layer_right t n m ≡ true → add_layer t n m ≡ with_layer t (nat_abs n) (nat_abs m)
unfolding add_layer
layer_is t n m h = rw h

rect-is : (t : Tally) (r : Rect) → 1 ≤ t.due → in_range r ≡ true → add_rect t r ≡ with_rect t
unfolding add_rect
rect-is t r h k = rw (le-leb 1 t.due h, k)

layer-yes : (t : Tally) (n m : ℕ) → t.due ≡ 0 → t.layers < 6 → n ≤ 512 → m ≤ 50000 → layer_right t (pos n) (pos m) ≡ true
unfolding layer_right up_to
layer-yes t n m e h k l = rw (eq-eqb t.due 0 e, lt-ltb t.layers 6 h, le-leb 0 n zero-le, le-leb n 512 k, le-leb 0 m zero-le, le-leb m 50000 l)

-- ---- right lines keep the tally good
pub record Passed (ns ms : List ℕ) (t : Tally) : Type 0 where
  pub good : t.good ≡ true
  pub due : t.due ≡ 0
  pub done : Tallied ns ms t

pub passes : (ns ms : List ℕ) (t : Tally) (ls : List Line) → t.good ≡ true → Tallied ns ms t → Fits t.due t.layers ls → Passed (ns ++ layer_sizes ls) (ms ++ layer_margins ls) (add_lines t ls)
passes ns ms t [] g d f = record { good = g; due = eqb-true t.due 0 f.count; done = rw (append-nil ns, append-nil ms) d }
passes ns ms t (Plan k ∷ ls) g d f = clash f.count refl
passes ns ms t (Layer (negsuc n) m ∷ ls) g d f = clash f.count refl
passes ns ms t (Layer (pos n) (negsuc m) ∷ ls) g d f = clash f.count refl
passes ns ms t (Layer (pos n) (pos m) ∷ ls) g d f =
    let c = both (eqb t.due 0) (rects_agree n ls) f.count in
    let s = inside-layer f.inside in
    let h : t.layers < 6 = omega (arith, f.few) in
    let r = passes (ns ++ n ∷ []) (ms ++ m ∷ []) (with_layer t n m) ls g (tallied-layer ns ms t n m h d) (record { count = c.1; few = omega (arith, f.few); inside = s.2 }) in
    rw (layer_is t (pos n) (pos m) (layer-yes t n m (eqb-true t.due 0 c.0) h s.0 s.1))
    (rw (append_assoc ns (n ∷ []) (layer_sizes ls), append_assoc ms (m ∷ []) (layer_margins ls)) at r)
passes ns ms t (Rectangle r ∷ ls) g d f = go t.due refl f.count (passes ns ms (with_rect t) ls g (tallied-rect ns ms t d))
  where
    go : (due : ℕ) → t.due ≡ due → rects_agree due (Rectangle r ∷ ls) ≡ true
        → (Fits (t.due - 1) t.layers ls → Passed (ns ++ layer_sizes ls) (ms ++ layer_margins ls) (add_lines (with_rect t) ls)) → Passed (ns ++ layer_sizes ls) (ms ++ layer_margins ls) (add_lines (add_rect t r) ls)
    go zero e c p = clash c refl
    go (suc due) e c p =
        let k = inside-rect f.inside in
        let q : due ≡ t.due - 1 = omega arith in
        let w = p (record { count = subst (λ (m : ℕ). rects_agree m ls ≡ true) q c; few = f.few; inside = k.1 }) in
        subst (λ (u : Tally). Passed (ns ++ layer_sizes ls) (ms ++ layer_margins ls) (add_lines u ls)) (sym (rect-is t r (omega arith) k.0)) w

-- ---- and only right lines do
good-layer : (t : Tally) (n m : ℤ) → (add_layer t n m).good ≡ true → (t.good ≡ true) × (layer_right t n m ≡ true)
unfolding add_layer
good-layer t n m e = go (layer_right t n m) e
  where
    go : (b : Bool) → (pick b (with_layer t (nat_abs n) (nat_abs m)) (spoilt t)).good ≡ true → (t.good ≡ true) × (b ≡ true)
    go true k = (k, refl)
    go false k = clash k refl

good-rect : (t : Tally) (r : Rect) → (add_rect t r).good ≡ true → (t.good ≡ true) × ((leb 1 t.due && in_range r) ≡ true)
unfolding add_rect
good-rect t r e = go (leb 1 t.due && in_range r) e
  where
    go : (b : Bool) → (pick b (with_rect t) (spoilt t)).good ≡ true → (t.good ≡ true) × (b ≡ true)
    go true k = (k, refl)
    go false k = clash k refl

good-before : (t : Tally) (ls : List Line) → all_inner ls ≡ true → (add_lines t ls).good ≡ true → t.good ≡ true
good-before t [] i e = e
good-before t (Plan k ∷ ls) i e = clash i refl
good-before t (Layer n m ∷ ls) i e = (good-layer t n m (good-before (add_layer t n m) ls i e)).0
good-before t (Rectangle r ∷ ls) i e = (good-rect t r (good-before (add_rect t r) ls i e)).0

pub passed : (t : Tally) (ls : List Line) → all_inner ls ≡ true → (add_lines t ls).good ≡ true → (add_lines t ls).due ≡ 0 → t.layers ≤ 6 → Fits t.due t.layers ls
passed t [] i g d h = record { count = eq-eqb t.due 0 d; few = omega arith; inside = inside-none }
passed t (Plan k ∷ ls) i g d h = clash i refl
passed t (Layer (negsuc n) m ∷ ls) i g d h =
    let r = right t (negsuc n) m (good-layer t (negsuc n) m (good-before (add_layer t (negsuc n) m) ls i g)).1 in
    absurd r.size.sign
passed t (Layer (pos n) (negsuc m) ∷ ls) i g d h =
    let r = right t (pos n) (negsuc m) (good-layer t (pos n) (negsuc m) (good-before (add_layer t (pos n) (negsuc m)) ls i g)).1 in
    absurd r.margin.sign
passed t (Layer (pos n) (pos m) ∷ ls) i g d h =
    let y = (good-layer t (pos n) (pos m) (good-before (add_layer t (pos n) (pos m)) ls i g)).1 in
    let r = right t (pos n) (pos m) y in
    let e = layer_is t (pos n) (pos m) y in
    let f : Fits n (t.layers + 1) ls = passed (with_layer t n m) ls i (sym (ap (λ (u : Tally). (add_lines u ls).good) e) ∙ g) (sym (ap (λ (u : Tally). (add_lines u ls).due) e) ∙ d) (omega (arith, r.layers)) in
    record {
      count = and-true (eqb t.due 0) (rects_agree n ls) (eq-eqb t.due 0 r.due) f.count;
      few = omega (arith, f.few);
      inside = layer-inside r.size.size r.margin.size f.inside;
    }
passed t (Rectangle r ∷ ls) i g d h =
    let y = (good-rect t r (good-before (add_rect t r) ls i g)).1 in
    let b = both (leb 1 t.due) (in_range r) y in
    let l = leb-true 1 t.due b.0 in
    let e = rect-is t r l b.1 in
    let f : Fits (t.due - 1) t.layers ls = passed (with_rect t) ls i (sym (ap (λ (u : Tally). (add_lines u ls).good) e) ∙ g) (sym (ap (λ (u : Tally). (add_lines u ls).due) e) ∙ d) h in
    let q : t.due ≡ suc (t.due - 1) = omega arith in
    record {
      count = subst (λ (m : ℕ). rects_agree m (Rectangle r ∷ ls) ≡ true) (sym q) f.count;
      few = f.few;
      inside = rect-inside b.1 f.inside;
    }
