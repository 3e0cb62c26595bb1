-- What the first pass decides: the causes 9 and 10, and the shape.
use mathlib.Core.Path.{◌≡◌, refl, sym, ap, ◌∙◌}
use mathlib.Core.List.{List, [], ◌∷◌}
use mathlib.Core.Bool.{Bool, true, false, ◌&&◌}
use Prim.Native.Nat.{ℕ, ◌≤◌}
use native.Mathlib.Omega.{arith}
use lib.Dec.{eqb, leb}
use lib.IntN.{ℤ, pos, negsuc}
use lib.ListN.{length}
use borrow.Author.Tests.{eqb-true, eq-eqb, leb-true, le-leb}
use Rattle.lists.proofs.Tests.{clash, both, same_test}
use Rattle.plan.specs.Plan.{plan_cause}
use Rattle.plan.specs.Causes.{unless}
use Rattle.plan.proofs.Plan.{checked}
use Rattle.line.specs.declared.Line.{Line}
use Rattle.line.specs.declared.Line.TheVariants.{Plan, Layer, Rectangle}
use Rattle.text.specs.declared.Tally.{Tally}
use Rattle.text.specs.Spelling.{all_inner}
use Rattle.text.specs.Plans.{layer_sizes, layer_margins, cells_in, shape_in, rects_agree, agrees}
use Rattle.text.specs.inner.Counting.{none_yet, add_layer, add_rect, add_lines, layers_right, tally_cause}
use Rattle.text.proofs.Counting.{layer-formed, rect-formed}
use Rattle.text.proofs.Sound.{Inside, passed-sound, sound-lines, lines-inside}
use Rattle.text.proofs.Passing.{Tallied, Passed, passes, passed}

still_formed : (t : Tally) (ls : List Line) → all_inner ls ≡ true → (add_lines t ls).formed ≡ t.formed
still_formed t [] i = refl
still_formed t (Plan k ∷ ls) i = clash i refl
still_formed t (Layer n m ∷ ls) i = still_formed (add_layer t n m) ls i ∙ layer-formed t n m
still_formed t (Rectangle r ∷ ls) i = still_formed (add_rect t r) ls i ∙ rect-formed t r

none-tallied : Tallied [] [] none_yet
none-tallied = record { formed = refl; layers = refl; beside = refl; rects = refl; sizes = refl; margins = refl }

-- the test behind the last line
abbrev right : ℤ → Tally → Bool
right k t = t.good && (eqb t.due 0 && layers_right k t.layers)

-- lines that agree: k, the layers counted, and what the tally says of them
pub record Agreed (k : ℕ) (ls : List Line) : Type 0 where
  pub low : 2 ≤ k
  pub high : k ≤ 6
  pub layers : length (layer_sizes ls) ≡ k
  pub count : rects_agree 0 ls ≡ true
  pub inside : Inside ls
  pub tally : Passed (layer_sizes ls) (layer_margins ls) (add_lines none_yet ls)

module _ (k : ℕ) (ls : List Line) where
  pub agreed : agrees (Plan (pos k) ∷ ls) ≡ true → Agreed k ls
  unfolding agrees shape_in
  agreed e =
      let b = both (eqb (length (layer_sizes ls)) k && rects_agree 0 ls) (eqb (plan_cause (shape_in (Plan (pos k) ∷ ls)) (cells_in ls)) 0) e in
      let c = both (eqb (length (layer_sizes ls)) k) (rects_agree 0 ls) b.0 in
      let l = eqb-true (length (layer_sizes ls)) k c.0 in
      let s = checked (shape_in (Plan (pos k) ∷ ls)) (cells_in ls) (passed-sound (Plan (pos k) ∷ ls) (eqb-true (plan_cause (shape_in (Plan (pos k) ∷ ls)) (cells_in ls)) 0 b.1)) in
      let i = lines-inside k ls l s.high c.1 s in
      record {
        low = s.low;
        high = s.high;
        layers = l;
        count = c.1;
        inside = i;
        tally = passes [] [] none_yet ls refl none-tallied (record { count = c.1; few = omega (arith, s.high); inside = i });
      }

  agree_right : Agreed k ls → right (pos k) (add_lines none_yet ls) ≡ true
  agree_right a =
      let p = a.tally in
      rw (p.good, eq-eqb (add_lines none_yet ls).due 0 p.due, le-leb 2 k a.low, le-leb k 6 a.high, eq-eqb k (add_lines none_yet ls).layers (sym (p.done.layers ∙ a.layers)))

  right-agree : all_inner ls ≡ true → right (pos k) (add_lines none_yet ls) ≡ true → agrees (Plan (pos k) ∷ ls) ≡ true
  unfolding agrees shape_in
  right-agree i e =
      let t : Tally = add_lines none_yet ls in
      let b = both t.good (eqb t.due 0 && layers_right (pos k) t.layers) e in
      let c = both (eqb t.due 0) (layers_right (pos k) t.layers) b.1 in
      let d = both (leb 2 k) (leb k 6 && eqb k t.layers) c.1 in
      let g = both (leb k 6) (eqb k t.layers) d.1 in
      let f = passed none_yet ls i b.0 (eqb-true t.due 0 c.0) (omega arith) in
      let p = passes [] [] none_yet ls refl none-tallied f in
      let l : length (layer_sizes ls) ≡ k = sym p.done.layers ∙ sym (eqb-true k t.layers g.1) in
      let h = leb-true k 6 g.0 in
      let s = sound-lines k ls l h f.count (leb-true 2 k d.0) f.inside in
      rw (eq-eqb (length (layer_sizes ls)) k l, f.count, eq-eqb (plan_cause (shape_in (Plan (pos k) ∷ ls)) (cells_in ls)) 0 s)

pub verdict : (k : ℤ) (ls : List Line) → all_inner ls ≡ true → tally_cause k (add_lines none_yet ls) ≡ unless (agrees (Plan k ∷ ls)) 10
unfolding tally_cause agrees
verdict k ls i = rw (still_formed none_yet ls i) (ap (λ (b : Bool). unless b 10) (same k))
  where
    never : (k : ℕ) → agrees (Plan (negsuc k) ∷ ls) ≡ true → right (negsuc k) (add_lines none_yet ls) ≡ true
    never k e = clash e refl

    same : (k : ℤ) → right k (add_lines none_yet ls) ≡ agrees (Plan k ∷ ls)
    same (pos k) = same_test _ _ (right-agree k ls i) (λ e. agree_right k ls (agreed k ls e))
    same (negsuc k) =
        let t : Tally = add_lines none_yet ls in
        same_test (right (negsuc k) t) (agrees (Plan (negsuc k) ∷ ls)) (λ e. clash (both (eqb t.due 0) false (both t.good (eqb t.due 0 && false) e).1).1 refl) (λ e. never k e)
