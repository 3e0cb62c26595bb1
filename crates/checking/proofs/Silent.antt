-- Nothing is told of lines that agree: where the reader's first pass finds nothing wrong, neither does the check.
use mathlib.Core.Path.{◌≡◌, refl, sym, ◌∙◌}
use mathlib.Core.List.{List, [], ◌∷◌, ◌++◌}
use mathlib.Core.Bool.{Bool, true, false, ◌&&◌}
use mathlib.Core.Logic.{◌↔◌}
use Prim.Native.Nat.{ℕ, suc, ◌+◌, ◌<◌}
use native.Mathlib.Omega.{arith}
use lib.Dec.{eqb, leb, ltb}
use lib.IntN.{ℤ, pos, nat_abs}
use lib.Signed.{le_z}
use borrow.Author.Tests.{eqb-true, ltb-true, leb-true, eq-eqb, lt-ltb}
use Rattle.lists.proofs.Tests.{clash, both}
use Rattle.geometry.specs.declared.Rect.{Rect}
use Rattle.geometry.specs.Rectangles.{nonempty, held, in_range}
use Rattle.geometry.proofs.Integers.{zarith, one_side}
use Rattle.line.specs.declared.Line.{Line}
use Rattle.line.specs.declared.Line.TheVariants.{Plan, Layer, Rectangle}
use Rattle.text.specs.declared.Tally.{Tally}
use Rattle.text.specs.Spelling.{all_inner, headed}
use Rattle.plan.specs.Causes.{unless, ◌or_else◌}
use Rattle.text.specs.Plans.{agrees}
use Rattle.text.specs.inner.Counting.{none_yet, spoilt, pick, up_to, layer_right, with_layer, add_layer, with_rect, add_rect, add_lines, layers_right, tally_cause}
use Rattle.text.proofs.Verdict.{verdict}
use Rattle.checking.specs.declared.Counts.{Counts}
use Rattle.checking.specs.Faults.{Note, is_from_to, size_of, no_counts, missing, layer_faults, in_reach, side_faults, rect_faults, counted_with, layer_lines, faults_from, plan_faults, faults_of}
use Rattle.checking.proofs.Agreeing.{Alike, size_is, alike-none, alike-layer, alike-rect, none-agrees}

-- ---- a good tally was good before
layer-good : (t : Tally) (n m : ℤ) → (add_layer t n m).good ≡ true → (layer_right t n m ≡ true) × (t.good ≡ true)
unfolding add_layer
layer-good t n m e = go (layer_right t n m) refl e
  where
    go : (b : Bool) → layer_right t n m ≡ b → (pick b (with_layer t (nat_abs n) (nat_abs m)) (spoilt t)).good ≡ true → (layer_right t n m ≡ true) × (t.good ≡ true)
    go true q e = (q, e)
    go false q e = clash e refl

rect-good : (t : Tally) (r : Rect) → (add_rect t r).good ≡ true → ((leb 1 t.due && in_range r) ≡ true) × (t.good ≡ true)
unfolding add_rect
rect-good t r e = go (leb 1 t.due && in_range r) refl e
  where
    go : (b : Bool) → (leb 1 t.due && in_range r) ≡ b → (pick b (with_rect t) (spoilt t)).good ≡ true → ((leb 1 t.due && in_range r) ≡ true) × (t.good ≡ true)
    go true q e = (q, e)
    go false q e = clash e refl

good-first : (t : Tally) (ls : List Line) → all_inner ls ≡ true → (add_lines t ls).good ≡ true → t.good ≡ true
good-first t [] i e = e
good-first t (Plan k ∷ ls) i e = clash i refl
good-first t (Layer n m ∷ ls) i e = (layer-good t n m (good-first (add_layer t n m) ls i e)).1
good-first t (Rectangle r ∷ ls) i e = (rect-good t r (good-first (add_rect t r) ls i e)).1

-- ---- a line that is added tells nothing
layer-silent : (number : ℕ) (c : Counts) (t : Tally) (n m : ℤ) → Alike c t → layer_right t n m ≡ true → (missing c ++ layer_faults number n m ≡ []) × (t.layers < 6)
unfolding layer_right is_from_to up_to
layer-silent number c t n m a h =
    let h₁ = both (eqb t.due 0) (ltb t.layers 6 && (up_to (pos 512) n && up_to (pos 50000) m)) h in
    let h₂ = both (ltb t.layers 6) (up_to (pos 512) n && up_to (pos 50000) m) h₁.1 in
    let h₃ = both (up_to (pos 512) n) (up_to (pos 50000) m) h₂.1 in
    let d : c.due ≡ 0 = sym a.due ∙ eqb-true t.due 0 h₁.0 in
    let x : is_from_to (pos 0) (pos 512) n ≡ true = h₃.0 in
    let y : is_from_to (pos 0) (pos 50000) m ≡ true = h₃.1 in
    (rw (eq-eqb c.due 0 d, x, y), ltb-true t.layers 6 h₂.0)

sides-silent : (number : ℕ) (r : Rect) → in_range r ≡ true → side_faults number r ≡ []
unfolding held nonempty in_reach
sides-silent number r e =
    let p = both (in_reach r) (nonempty r) e in
    let q = both (le_z r.left r.right) (le_z r.bottom r.top) p.1 in
    let x : in_reach r ≡ true = p.0 in
    rw (q.0, q.1, x)

rect-silent : (number : ℕ) (c : Counts) (t : Tally) (r : Rect) → Alike c t → (leb 1 t.due && in_range r) ≡ true → rect_faults number c r ≡ []
rect-silent number c t r a h =
    let p = both (leb 1 t.due) (in_range r) h in
    let d : 0 < c.due = omega (arith, leb-true 1 t.due p.0, a.due) in
    rw (a.over, lt-ltb 0 c.due d) (sides-silent number r p.1)

none-join : (xs ys : List Note) → xs ≡ [] → ys ≡ [] → xs ++ ys ≡ []
none-join xs ys e f = rw (e, f)

-- ---- all lines
silent-all : (number : ℕ) (c : Counts) (t : Tally) (ls : List Line) → all_inner ls ≡ true → Alike c t → (add_lines t ls).good ≡ true → (add_lines t ls).due ≡ 0
    → (faults_from number c ls ≡ []) × ((add_lines t ls).layers ≡ t.layers + layer_lines ls)
silent-all number c t [] i a g d = (rw (eq-eqb c.due 0 (sym a.due ∙ d)), omega arith)
silent-all number c t (Plan k ∷ ls) i a g d = clash i refl
silent-all number c t (Layer n m ∷ ls) i a g d =
    let s = layer-silent number c t n m a (layer-good t n m (good-first (add_layer t n m) ls i g)).0 in
    let q = alike-layer number c t n m a s.1 s.0 in
    let r = silent-all (suc number) (counted_with number c (Layer n m)) (add_layer t n m) ls i q.0 g d in
    (none-join (missing c ++ layer_faults number n m) _ s.0 r.0, omega (arith, q.1, r.1))
silent-all number c t (Rectangle x ∷ ls) i a g d =
    let s = rect-silent number c t x a (rect-good t x (good-first (add_rect t x) ls i g)).0 in
    let q = alike-rect number c t x a s in
    let r = silent-all (suc number) (counted_with number c (Rectangle x)) (add_rect t x) ls i q.0 g d in
    (none-join (rect_faults number c x) _ s r.0, omega (arith, q.1, r.1))

-- the tests of the first pass were passed
passed : (f b : Bool) → ◌≡◌ {A = ℕ} (unless f 9 or_else unless b 10) 0 → b ≡ true
passed true true e = refl
passed true false e = absurd (omega arith)
passed false b e = absurd (omega arith)

agrees-none : (k : ℤ) (ls : List Line) → all_inner ls ≡ true → agrees (Plan k ∷ ls) ≡ true → faults_of (Plan k ∷ ls) ≡ []
unfolding tally_cause is_from_to
agrees-none k ls i e =
    let u : Tally = add_lines none_yet ls in
    let z : tally_cause k u ≡ 0 = verdict k ls i ∙ rw e in
    let p = both u.good (eqb u.due 0 && layers_right k u.layers) (passed u.formed _ z) in
    let q = both (eqb u.due 0) (layers_right k u.layers) p.1 in
    let l = both (le_z (pos 2) k) (le_z k (pos 6) && eqb (nat_abs k) u.layers) q.1 in
    let m = both (le_z k (pos 6)) (eqb (nat_abs k) u.layers) l.1 in
    let s = silent-all 2 no_counts none_yet ls i alike-none p.0 (eqb-true u.due 0 q.0) in
    let n : nat_abs k ≡ u.layers = eqb-true (nat_abs k) u.layers m.1 in
    let y : le_z (pos 0) k ≡ true = omega (zarith, l.0, one_side k) in
    let w : size_of k ≡ layer_lines ls = omega (arith, size_is k y, n, s.1) in
    none-join (plan_faults k (layer_lines ls)) _ (rw (l.0, m.0, eq-eqb (size_of k) (layer_lines ls) w)) s.0

-- nothing is told exactly of lines that agree
pub silent : (ls : List Line) → headed ls ≡ true → (faults_of ls ≡ []) ↔ (agrees ls ≡ true)
silent [] h = clash h refl
silent (Plan k ∷ ls) h = (none-agrees k ls h, agrees-none k ls h)
silent (Layer n m ∷ ls) h = clash h refl
silent (Rectangle r ∷ ls) h = clash h refl
