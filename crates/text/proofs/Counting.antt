-- Laws of the reader's first pass.
use mathlib.Core.Path.{◌≡◌, refl, sym, ap, ◌∙◌}
use mathlib.Core.List.{List, [], ◌∷◌}
use mathlib.Core.Option.{Option, none, some}
use mathlib.Core.Bool.{Bool, true, false, ◌&&◌}
use Prim.Native.Nat.{ℕ, ◌≤◌, ◌<◌}
use native.Mathlib.Omega.{arith}
use lib.Dec.{T, eqb, leb, ltb}
use lib.IntN.{ℤ, pos, nat_abs}
use lib.Signed.{le_z, non_neg}
use lib.ListN.{length, drop, length-drop, drop_of_length-le}
use borrow.Author.Tests.{eqb-true, ltb-true, eq-eqb, ne_eqb, lt-ltb, le-ltb, le-leb, lt-leb}
use Rattle.lists.proofs.Tests.{clash, both}
use Rattle.geometry.specs.declared.Rect.{Rect}
use Rattle.geometry.specs.Rectangles.{in_range}
use Rattle.geometry.proofs.Integers.{zarith, size-law, one_side, non_neg-law}
use Rattle.plan.specs.Causes.{unless}
use Rattle.text.specs.declared.Tally.{Tally}
use Rattle.text.specs.inner.Counting.{none_yet, unformed, spoilt, pick, up_to, layer_right, with_layer, add_layer, with_rect, add_rect, add_line, add_lines, add_if, tally_from, Few, layers_right, tally_cause}
use Rattle.line.specs.declared.Line.{Line}
use Rattle.line.specs.declared.Line.TheVariants.{Plan, Layer, Rectangle}
use Rattle.line.specs.Parsing.{next, line}
use Rattle.text.specs.Parsing.{all_lines}
use Rattle.text.proofs.Parsing.{first_then, first-none}
use Rattle.line.specs.Places.{Line-at}

-- ---- whether a LAYER line may come
module _ (most n : ℤ) where
  pub up_above : le_z (pos 0) n ≡ true → le_z n most ≡ up_to most n
  unfolding up_to
  up_above h = rw h

  pub up-below : le_z (pos 0) n ≡ false → false ≡ up_to most n
  unfolding up_to
  up-below h = rw h

module _ (t : Tally) (n m : ℤ) where
  pub right-due : (t.due ≡ 0 → ⊥) → false ≡ layer_right t n m
  unfolding layer_right
  right-due h = rw (ne_eqb t.due 0 h)

  pub right-full : t.due ≡ 0 → 6 ≤ t.layers → false ≡ layer_right t n m
  unfolding layer_right
  right-full e h = rw (eq-eqb t.due 0 e, le-ltb t.layers 6 h)

  module _ (e : t.due ≡ 0) (h : t.layers < 6) where
    pub right-size : up_to (pos 512) n ≡ false → false ≡ layer_right t n m
    unfolding layer_right
    right-size k = rw (eq-eqb t.due 0 e, lt-ltb t.layers 6 h, k)

    pub right-margin : up_to (pos 512) n ≡ true → up_to (pos 50000) m ≡ layer_right t n m
    unfolding layer_right
    right-margin k = rw (eq-eqb t.due 0 e, lt-ltb t.layers 6 h, k)

-- z is a number up to n
pub record Small (n : ℕ) (z : ℤ) : Type 0 where
  pub sign : T (non_neg z)
  pub size : nat_abs z ≤ n

small : (n : ℕ) (z : ℤ) → up_to (pos n) z ≡ true → Small n z
unfolding up_to
small n z h =
    let b = both (le_z (pos 0) z) (le_z z (pos n)) h in
    record { sign = non_neg-law z (omega (zarith, b.0, one_side z)); size = omega (zarith, b.0, b.1, size-law z, one_side z) }

pub record Right (t : Tally) (n m : ℤ) : Type 0 where
  pub due : t.due ≡ 0
  pub layers : t.layers < 6
  pub size : Small 512 n
  pub margin : Small 50000 m

pub right : (t : Tally) (n m : ℤ) → layer_right t n m ≡ true → Right t n m
unfolding layer_right
right t n m h =
    let h₁ = both (eqb t.due 0) (ltb t.layers 6 && (up_to (pos 512) n && up_to (pos 50000) m)) h in
    let h₂ = both (ltb t.layers 6) (up_to (pos 512) n && up_to (pos 50000) m) h₁.1 in
    let h₃ = both (up_to (pos 512) n) (up_to (pos 50000) m) h₂.1 in
    record { due = eqb-true t.due 0 h₁.0; layers = ltb-true t.layers 6 h₂.0; size = small 512 n h₃.0; margin = small 50000 m h₃.1 }

-- ---- one line more
pub layer-spoilt : (t u : Tally) (n m : ℤ) → layer_right t n m ≡ false → u ≡ spoilt t → u ≡ add_layer t n m
unfolding add_layer
layer-spoilt t u n m h e = rw h e

pub layer-added : (t : Tally) (n m : ℤ) → layer_right t n m ≡ true → with_layer t (nat_abs n) (nat_abs m) ≡ add_layer t n m
unfolding add_layer
layer-added t n m h = rw h

pub rect-undue : (t u : Tally) (r : Rect) → t.due ≡ 0 → u ≡ spoilt t → u ≡ add_rect t r
unfolding add_rect
rect-undue t u r h e = rw (lt-leb 1 t.due (omega arith)) e

pub rect-out : (t u : Tally) (r : Rect) → 0 < t.due → in_range r ≡ false → u ≡ spoilt t → u ≡ add_rect t r
unfolding add_rect
rect-out t u r h k e = rw (le-leb 1 t.due h, k) e

pub rect-added : (t : Tally) (r : Rect) → 0 < t.due → in_range r ≡ true → with_rect t ≡ add_rect t r
unfolding add_rect
rect-added t r h k = rw (le-leb 1 t.due h, k)

-- ---- few enough
pub few-none : Few none_yet
few-none = record { layers = omega arith; rects = omega arith }

few-unformed : Few unformed
few-unformed = record { layers = omega arith; rects = omega arith }

few-spoilt : (t : Tally) → Few t → Few (spoilt t)
few-spoilt t f = record { layers = f.layers; rects = f.rects }

few-layer : (t : Tally) (n m : ℤ) → Few t → Few (add_layer t n m)
unfolding add_layer
few-layer t n m f = go (layer_right t n m) (λ h. right t n m h)
  where
    go : (b : Bool) → (b ≡ true → Right t n m) → Few (pick b (with_layer t (nat_abs n) (nat_abs m)) (spoilt t))
    go true h =
        let r = h refl in
        record { layers = omega (arith, r.layers); rects = omega (arith, r.size.size, f.rects) }
    go false h = few-spoilt t f

few-rect : (t : Tally) (r : Rect) → Few t → Few (add_rect t r)
unfolding add_rect
few-rect t r f = go (leb 1 t.due && in_range r)
  where
    go : (b : Bool) → Few (pick b (with_rect t) (spoilt t))
    go true = record { layers = f.layers; rects = f.rects }
    go false = few-spoilt t f

few-line : (t : Tally) (l : Line) → Few t → Few (add_line t l)
few-line t (Plan k) f = few-unformed
few-line t (Layer n m) f = few-layer t n m f
few-line t (Rectangle r) f = few-rect t r f

pub few-lines : (t : Tally) (ls : List Line) → Few t → Few (add_lines t ls)
few-lines t [] f = f
few-lines t (Plan k ∷ ls) f = few-unformed
few-lines t (Layer n m ∷ ls) f = few-lines (add_layer t n m) ls (few-layer t n m f)
few-lines t (Rectangle r ∷ ls) f = few-lines (add_rect t r) ls (few-rect t r f)

-- ---- line after line

pub layer-formed : (t : Tally) (n m : ℤ) → (add_layer t n m).formed ≡ t.formed
unfolding add_layer
layer-formed t n m = go (layer_right t n m)
  where
    go : (b : Bool) → (pick b (with_layer t (nat_abs n) (nat_abs m)) (spoilt t)).formed ≡ t.formed
    go true = refl
    go false = refl

pub rect-formed : (t : Tally) (r : Rect) → (add_rect t r).formed ≡ t.formed
unfolding add_rect
rect-formed t r = go (leb 1 t.due && in_range r)
  where
    go : (b : Bool) → (pick b (with_rect t) (spoilt t)).formed ≡ t.formed
    go true = refl
    go false = refl

-- the lines behind l decide, unless it is a PLAN line
abbrev onward : Tally → Line → Option (List Line) → Tally
onward t (Plan k) o = unformed
onward t (Layer n m) o = add_if (add_layer t n m) o
onward t (Rectangle r) o = add_if (add_rect t r) o

onward-is : (t : Tally) (l : Line) (o : Option (List Line)) → add_if t (next o (λ ls. some (l ∷ ls))) ≡ onward t l o
onward-is t (Plan k) none = refl
onward-is t (Plan k) (some ls) = refl
onward-is t (Layer n m) none = refl
onward-is t (Layer n m) (some ls) = refl
onward-is t (Rectangle r) none = refl
onward-is t (Rectangle r) (some ls) = refl

module _ (s : List ℕ) (at : ℕ) (t : Tally) where
  tally-none : at < length s → line (drop at s) ≡ none → unformed ≡ tally_from t (drop at s)
  unfolding tally_from
  tally-none h e = sym (ap (add_if t) (first-none (drop at s) (simp length-drop (omega arith)) e))

  tally-end : length s ≤ at → t ≡ tally_from t (drop at s)
  unfolding tally_from
  tally-end h = sym (ap (λ (r : List ℕ). add_if t (all_lines r)) (drop_of_length-le s h))

  module _ (l : Line) (i : ℕ) (p : Line-at s at l i) where
    step : tally_from t (drop at s) ≡ onward t l (all_lines (drop i s))
    unfolding tally_from
    step = ap (add_if t) (first_then (drop at s) (l, drop i s) p.reads) ∙ onward-is t l (all_lines (drop i s))

    tally-on : (add_line t l).formed ≡ true → tally_from (add_line t l) (drop i s) ≡ tally_from t (drop at s)
    unfolding tally_from
    tally-on e = go l e (sym step)
      where
        go : (m : Line) → (add_line t m).formed ≡ true → onward t m (all_lines (drop i s)) ≡ tally_from t (drop at s) → add_if (add_line t m) (all_lines (drop i s)) ≡ tally_from t (drop at s)
        go (Plan k) e h = clash e refl
        go (Layer n m) e h = h
        go (Rectangle r) e h = h

    tally-stop : t.formed ≡ true → (add_line t l).formed ≡ false → add_line t l ≡ tally_from t (drop at s)
    tally-stop f e = go l e (sym step)
      where
        go : (m : Line) → (add_line t m).formed ≡ false → onward t m (all_lines (drop i s)) ≡ tally_from t (drop at s) → add_line t m ≡ tally_from t (drop at s)
        go (Plan k) e h = h
        go (Layer n m) e h = clash (layer-formed t n m ∙ f) e
        go (Rectangle r) e h = clash (rect-formed t r ∙ f) e

-- the lines from `at` on are left to be counted
pub record Counting (s : List ℕ) (start at : ℕ) (t : Tally) : Type 0 where
  pub inside : at ≤ length s
  pub formed : t.formed ≡ true
  pub few : Few t
  pub gives : tally_from t (drop at s) ≡ tally_from none_yet (drop start s)

pub counting-start : (s : List ℕ) (start : ℕ) (t : Tally) → start ≤ length s → t ≡ none_yet → Counting s start start t
counting-start s start t h e = rw e (record { inside = h; formed = refl; few = few-none; gives = refl })

module _ (s : List ℕ) (start at : ℕ) (t : Tally) (c : Counting s start at t) where
  pub counting-none : (u : Tally) → at < length s → line (drop at s) ≡ none → u ≡ unformed → u ≡ tally_from none_yet (drop start s)
  counting-none u h e q = q ∙ (tally-none s at t h e ∙ c.gives)

  pub counting-end : length s ≤ at → t ≡ tally_from none_yet (drop start s)
  counting-end h = tally-end s at t h ∙ c.gives

  module _ (l : Line) (i : ℕ) (p : Line-at s at l i) (u : Tally) (e : u ≡ add_line t l) where
    pub counting-stop : u.formed ≡ false → u ≡ tally_from none_yet (drop start s)
    counting-stop h = e ∙ (tally-stop s at t l i p c.formed (rw e at h) ∙ c.gives)

    pub counting_more : u.formed ≡ true → Counting s start i u
    counting_more h =
        rw e (record { inside = p.inside; formed = rw e at h; few = few-line t l c.few; gives = tally-on s at t l i p (rw e at h) ∙ c.gives })

-- ---- the causes 9 and 10
module _ (k : ℤ) (t : Tally) where
  pub cause-unformed : t.formed ≡ false → 9 ≡ tally_cause k t
  unfolding tally_cause
  cause-unformed e = rw e

  module _ (f : t.formed ≡ true) where
    pub cause-spoilt : t.good ≡ false → 10 ≡ tally_cause k t
    unfolding tally_cause
    cause-spoilt e = rw (f, e)

    module _ (g : t.good ≡ true) where
      pub cause-due : (t.due ≡ 0 → ⊥) → 10 ≡ tally_cause k t
      unfolding tally_cause
      cause-due e = rw (f, g, ne_eqb t.due 0 e)

      pub cause-layers : t.due ≡ 0 → (b : Bool) → layers_right k t.layers ≡ b → unless b 10 ≡ tally_cause k t
      unfolding tally_cause
      cause-layers e b h = rw (f, g, eq-eqb t.due 0 e, h)
