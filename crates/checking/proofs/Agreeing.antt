-- Well formed lines of which nothing is told are a plan's: as long as nothing is told, what is counted is what the reader's first pass counts.
use mathlib.Core.Path.{◌≡◌, refl, sym, ap, ◌∙◌}
use mathlib.Core.List.{List, [], ◌∷◌, ◌++◌}
use mathlib.Core.Bool.{Bool, true, false, ◌||◌}
use Prim.Native.Nat.{ℕ, suc, ◌+◌, ◌-◌, ◌≤◌, ◌<◌}
use native.Mathlib.Omega.{arith}
use lib.Dec.{ltb}
use lib.IntN.{ℤ, pos, nat_abs}
use lib.Signed.{le_z}
use lib.ListN.{length}
use borrow.Author.Tests.{eqb-true, ltb-true, eq-eqb, ne_eqb, lt-ltb}
use Rattle.lists.proofs.Tests.{clash, both}
use Rattle.geometry.specs.declared.Rect.{Rect}
use Rattle.geometry.specs.Rectangles.{nonempty, held, in_range}
use Rattle.geometry.proofs.Integers.{zarith, one_side, size-law}
use Rattle.line.specs.declared.Line.{Line}
use Rattle.line.specs.declared.Line.TheVariants.{Plan, Layer, Rectangle}
use Rattle.text.specs.declared.Tally.{Tally}
use Rattle.text.specs.Spelling.{all_inner}
use Rattle.text.specs.Plans.{agrees}
use Rattle.text.specs.inner.Counting.{none_yet, up_to, layer_right, add_layer, add_rect, add_lines, tally_cause}
use Rattle.text.proofs.Counting.{layer-added, rect-added}
use Rattle.text.proofs.Verdict.{verdict}
use Rattle.plan.proofs.Plan.{unless-zero}
use Rattle.checking.specs.declared.Counts.{Counts}
use Rattle.checking.specs.Faults.{Note, unless_note, is_from_to, size_of, no_counts, missing, layer_faults, in_reach, side_faults, rect_faults, counted_with, layer_lines, faults_from, plan_faults, faults_of}

-- ---- nothing is told
none_both : (xs ys : List Note) → xs ++ ys ≡ [] → (xs ≡ []) × (ys ≡ [])
none_both [] ys e = (refl, e)
none_both (x ∷ xs) ys e = absurd (omega (arith, ap length e))

none_told : (right : Bool) (number : ℕ) (words : List ℕ) → unless_note right number words ≡ [] → right ≡ true
none_told true number words e = refl
none_told false number words e = absurd (omega (arith, ap length e))

-- ---- numbers
pub size_is : (z : ℤ) → le_z (pos 0) z ≡ true → size_of z ≡ nat_abs z
unfolding size_of
size_is z h = rw h

pub within_both : (low high z : ℤ) → is_from_to low high z ≡ true → (le_z low z ≡ true) × (le_z z high ≡ true)
unfolding is_from_to
within_both low high z h = both (le_z low z) (le_z z high) h

up-within : (most z : ℤ) → is_from_to (pos 0) most z ≡ true → up_to most z ≡ true
unfolding is_from_to up_to
up-within most z h = h

-- ---- what both count
pub record Alike (c : Counts) (t : Tally) : Type 0 where
  pub over : c.over ≡ false
  pub due : t.due ≡ c.due
  pub good : t.good ≡ true
  pub formed : t.formed ≡ true

pub alike-none : Alike no_counts none_yet
alike-none = record { over = refl; due = refl; good = refl; formed = refl }

pub alike-layer : (number : ℕ) (c : Counts) (t : Tally) (n m : ℤ) → Alike c t → t.layers < 6 → missing c ++ layer_faults number n m ≡ []
    → Alike (counted_with number c (Layer n m)) (add_layer t n m) × ((add_layer t n m).layers ≡ t.layers + 1)
unfolding layer_right
alike-layer number c t n m a h e =
    let p = none_both (missing c) (layer_faults number n m) e in
    let q = none_both (unless_note (is_from_to (pos 0) (pos 512) n) number _) (unless_note (is_from_to (pos 0) (pos 50000) m) number _) p.1 in
    let d : c.due ≡ 0 = eqb-true c.due 0 (none_told _ _ _ p.0) in
    let s : is_from_to (pos 0) (pos 512) n ≡ true = none_told _ _ _ q.0 in
    let w : is_from_to (pos 0) (pos 50000) m ≡ true = none_told _ _ _ q.1 in
    let r : layer_right t n m ≡ true
    = rw (eq-eqb t.due 0 (a.due ∙ d), lt-ltb t.layers 6 h, up-within (pos 512) n s, up-within (pos 50000) m w) in
    rw (sym (layer-added t n m r))
    (record { over = refl; due = sym (size_is n (within_both (pos 0) (pos 512) n s).0); good = a.good; formed = a.formed }, refl)

sides-right : (number : ℕ) (r : Rect) → side_faults number r ≡ [] → in_range r ≡ true
unfolding held nonempty in_reach
sides-right number r e =
    let p = none_both (unless_note (le_z r.left r.right) number _) _ e in
    let q = none_both (unless_note (le_z r.bottom r.top) number _) _ p.1 in
    let x : in_reach r ≡ true = none_told _ _ _ q.1 in
    let y : le_z r.left r.right ≡ true = none_told _ _ _ p.0 in
    let z : le_z r.bottom r.top ≡ true = none_told _ _ _ q.0 in
    rw (x, y, z)

pub alike-rect : (number : ℕ) (c : Counts) (t : Tally) (r : Rect) → Alike c t → rect_faults number c r ≡ []
    → Alike (counted_with number c (Rectangle r)) (add_rect t r) × ((add_rect t r).layers ≡ t.layers)
alike-rect number c t r a e =
    let p = none_both (unless_note (c.over || ltb 0 c.due) number _) (side_faults number r) e in
    let o : (c.over || ltb 0 c.due) ≡ true = none_told _ _ _ p.0 in
    let x : ltb 0 c.due ≡ true = rw a.over at o in
    let d = ltb-true 0 c.due x in
    rw (sym (rect-added t r (omega (arith, a.due)) (sides-right number r p.1)))
    (record { over = ne_eqb c.due 0 (λ z. omega arith); due = ap (λ (i : ℕ). i - 1) a.due; good = a.good; formed = a.formed }, refl)

-- ---- all lines
alike_all : (number : ℕ) (c : Counts) (t : Tally) (ls : List Line) → all_inner ls ≡ true → t.layers + layer_lines ls ≤ 6 → Alike c t → faults_from number c ls ≡ []
    → (d : Counts) × Alike d (add_lines t ls) × (missing d ≡ []) × ((add_lines t ls).layers ≡ t.layers + layer_lines ls)
alike_all number c t [] i h a e = (c, a, e, omega arith)
alike_all number c t (Plan j ∷ ls) i h a e = clash i refl
alike_all number c t (Layer n m ∷ ls) i h a e =
    let p = none_both (missing c ++ layer_faults number n m) _ e in
    let q = alike-layer number c t n m a (omega arith) p.0 in
    let r = alike_all (suc number) (counted_with number c (Layer n m)) (add_layer t n m) ls i (omega (arith, q.1)) q.0 p.1 in
    (r.0, r.1, r.2, omega (arith, q.1, r.3))
alike_all number c t (Rectangle r ∷ ls) i h a e =
    let p = none_both (rect_faults number c r) _ e in
    let q = alike-rect number c t r a p.0 in
    let u = alike_all (suc number) (counted_with number c (Rectangle r)) (add_rect t r) ls i (omega (arith, q.1)) q.0 p.1 in
    (u.0, u.1, u.2, omega (arith, q.1, u.3))

-- nothing is told of lines that agree, and they do where nothing is
pub none-agrees : (k : ℤ) (ls : List Line) → all_inner ls ≡ true → faults_of (Plan k ∷ ls) ≡ [] → agrees (Plan k ∷ ls) ≡ true
unfolding tally_cause
none-agrees k ls i e =
    let p = none_both (plan_faults k (layer_lines ls)) (faults_from 2 no_counts ls) e in
    let f = none_both (unless_note (is_from_to (pos 2) (pos 6) k) 1 _) _ p.0 in
    let b = within_both (pos 2) (pos 6) k (none_told _ _ _ f.0) in
    let y = eqb-true (size_of k) (layer_lines ls) (none_told _ _ _ f.1) in
    let z : le_z (pos 0) k ≡ true = omega (zarith, b.0, one_side k) in
    let s = size_is k z in
    let h : size_of k ≤ 6 = omega (zarith, s, b.0, b.1, size-law k, one_side k) in
    let d = alike_all 2 no_counts none_yet ls i (omega arith) alike-none p.1 in
    let a = d.1 in
    let x = eqb-true d.0.due 0 (none_told _ _ _ d.2) in
    let u : Tally = add_lines none_yet ls in
    let l : nat_abs k ≡ u.layers = omega (arith, s, y, d.3) in
    let c : tally_cause k u ≡ 0 = rw (a.formed, a.good, eq-eqb u.due 0 (a.due ∙ x), b.0, b.1, eq-eqb (nat_abs k) u.layers l) in
    unless-zero (agrees (Plan k ∷ ls)) 9 (sym (verdict k ls i) ∙ c)
