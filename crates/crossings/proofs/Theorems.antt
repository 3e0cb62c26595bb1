-- The promises on classes hold of every plan of segments, for every k.
use mathlib.Core.Path.{◌≡◌, refl, ◌∙◌, subst}
use mathlib.Core.List.{List, Memᴰ}
use mathlib.Core.Logic.{◌↔◌}
use mathlib.Core.Bool.{Bool, true, false, ◌&&◌}
use Prim.Native.Nat.{ℕ, suc, ◌-◌, ◌≤◌}
use native.Mathlib.Omega.{arith}
use lib.IntN.{ℤ}
use lib.Dec.{eqb}
use borrow.Author.Tests.{eqb-true, eq-eqb}
use lib.ListN.{length, get_or}
use Rattle.lists.specs.Lists.{Tells}
use Rattle.lists.proofs.Tests.{both, and-true, never_true, tells, le-tells, below_at, below_all}
use Rattle.geometry.specs.declared.Rect.{Rect}
use Rattle.plan.specs.declared.Shape.{Shape}
use Rattle.plan.specs.Causes.{Check, Passed}
use Rattle.plan.specs.Theorems.{PlanChecks}
use Rattle.plan.specs.Plan.{Layer, layers_of, layers, sizes_of, plan_cause, Typed, Sound, grown}
use Rattle.plan.specs.Spots.{layer_at}
use Rattle.plan.proofs.Plan.{or-else-zero}
use Rattle.plan.proofs.Causes.{check-last, check-then}
use Rattle.plan.proofs.Growing.{framed}
use Rattle.plan.proofs.Theorems.{plans, plan-then, plan-last}
use Rattle.plan.proofs.Spots.{layers-long}
use Rattle.join.specs.Join.{rects}
use Rattle.join.proofs.Join.{same_true, same-yes}
use Rattle.join.specs.Table.{plan_table}
use Rattle.join.proofs.Theorems.{tables}
use Rattle.rows.specs.RowCall.{is_row}
use Rattle.rows.proofs.Theorems.{rows}
use Rattle.std.specs.Prelude.{Some, None, Ok, Err}
use Rattle.crossings.specs.Crossings.{class_of, class_in}
use Rattle.crossings.specs.ClassCall.{lies, segmented, unwidened, crossing_cause, class_call}
use Rattle.crossings.specs.inner.Ends.{all_lie}
use Rattle.crossings.specs.Theorems.{of_layer, IsClass, Segments, ClassHolds, Crossings}
use Rattle.crossings.proofs.Reading.{row-shares, rects-long}
use Rattle.crossings.proofs.Answers.{cause-sound, cause-three}
use Rattle.crossings.proofs.Numbers.{covers-in, in-covers, is-class}

-- ---- the checks
lies-level : (r : Rect) → lies true r ≡ true → r.bottom ≡ r.top
unfolding lies
lies-level r e = same_true r.bottom r.top e

level-lies : (r : Rect) → r.bottom ≡ r.top → lies true r ≡ true
unfolding lies
level-lies r e = same-yes r.bottom r.top e

lies-upright : (r : Rect) → lies false r ≡ true → r.left ≡ r.right
unfolding lies
lies-upright r e = same_true r.left r.right e

upright-lies : (r : Rect) → r.left ≡ r.right → lies false r ≡ true
unfolding lies
upright-lies r e = same-yes r.left r.right e

segments-tell : (s : Shape) (cells : List ℤ) → Sound s cells → Tells (Segments s cells) (unwidened s.margins s.k && segmented (layers_of (sizes_of s) cells))
unfolding unwidened segmented
segments-tell s cells sound = rw k (tells _ to from)
  where
    k : length (layers_of (sizes_of s) cells) ≡ s.k
    k = layers-long (sizes_of s) cells ∙ (plans.frames s cells sound).2

    h : Layer
    h = layer_at (layers_of (sizes_of s) cells) (s.k - 2)

    v : Layer
    v = layer_at (layers_of (sizes_of s) cells) (s.k - 1)

    level : Bool
    level = all_lie true h.size h.rect

    upright : Bool
    upright = all_lie false v.size v.rect

    m : ℕ
    m = get_or s.margins (s.k - 2) 0

    n : ℕ
    n = get_or s.margins (s.k - 1) 0

    to : ((eqb m 0 && eqb n 0) && (level && upright)) ≡ true → Segments s cells
    to e =
        let b = both (eqb m 0 && eqb n 0) (level && upright) e in
        let w = both (eqb m 0) (eqb n 0) b.0 in
        let l = both level upright b.1 in (
          (eqb-true m 0 w.0, λ p i. lies-level _ (below_at (λ q. lies true (h.rect q)) h.size p l.0 i)),
          (eqb-true n 0 w.1, λ p i. lies-upright _ (below_at (λ q. lies false (v.rect q)) v.size p l.1 i)),
        )

    from : Segments s cells → ((eqb m 0 && eqb n 0) && (level && upright)) ≡ true
    from g =
        and-true (eqb m 0 && eqb n 0) (level && upright) (and-true (eqb m 0) (eqb n 0) (eq-eqb m 0 g.0.0) (eq-eqb n 0 g.1.0))
        (and-true level upright (below_all (λ q. lies true (h.rect q)) h.size (λ p l. level-lies _ (g.0.1 p l))) (below_all (λ q. lies false (v.rect q)) v.size (λ p l. upright-lies _ (g.1.1 p l))))

crossing-causes : (s : Shape) (cells : List ℤ) → Typed s → PlanChecks s cells (Check 15 (3 ≤ s.k) (Check 16 (Segments s cells) Passed)) (crossing_cause s cells)
unfolding crossing_cause
crossing-causes s cells typed =
    plan-then s cells (Check 15 (3 ≤ s.k) Passed) (Check 15 (3 ≤ s.k) (Check 16 (Segments s cells) Passed)) _ _
    (check-then 15 _ _ (omega arith) (λ e. check-last 16 _ (segments-tell s cells (record { typed = typed; passed = (or-else-zero (plan_cause s cells) _ e).0 })) e))
    (plan-last s cells 15 (λ e. le-tells 3 s.k))

-- ---- the class call
module _ (s : Shape) (cells : List ℤ) (row : List ℕ) (passed : crossing_cause s cells ≡ 0) where
  pub call-class : is_row (layers s cells) row ≡ true → class_call s cells row ≡ Ok (Some (class_in (layers s cells) row))
  unfolding class_call
  call-class e = rw (passed, e)

  call_none : is_row (layers s cells) row ≡ false → class_call s cells row ≡ Ok None
  unfolding class_call
  call_none e = rw (passed, e)

module _ (s : Shape) (cells : List ℤ) (typed : Typed s) (e : crossing_cause s cells ≡ 0) (row : List ℕ) where
  sound : Sound s cells
  sound = cause-sound s cells typed e

  many : length (sizes_of s) ≡ s.k
  many = (plans.frames s cells sound).2

  named : (is_row (layers s cells) row ≡ true) ↔ Memᴰ row (plan_table s cells)
  named =
      let is = (tables.tables (sizes_of s) (grown s cells) (framed s cells sound).1).is in
      let n = (rows.rows s cells sound).names row in
      (λ q. is.complete row (n.0 q), λ m. n.1 (is.sound row m))

  -- what the call answers for a row of the table
  pub row-class : Memᴰ row (plan_table s cells) → let rs = rects (layers s cells) row in
      (class_call s cells row ≡ Ok (Some (class_of rs))) × IsClass rs (of_layer rs (s.k - 1)) (of_layer rs s.k) (class_of rs) × (length rs ≡ s.k)
  row-class m =
      let q = named.1 m in
      let k = rects-long (sizes_of s) (grown s cells) row q ∙ many in
      let rs = rects (layers s cells) row in (
        call-class s cells row e q,
        subst (λ (n : ℕ). IsClass rs (of_layer rs (n - 1)) (of_layer rs n) (class_of rs)) k (is-class _ (row-shares (sizes_of s) (grown s cells) row q (omega (arith, many, cause-three s cells e)))),
        k,
      )

  classes-hold : ClassHolds s cells row (rects (layers s cells) row) (class_call s cells row)
  classes-hold = record {
    class = λ m. let c = row-class m in (class_of (rects (layers s cells) row), c.0, c.1, c.2);
    others = λ m. call_none s cells row e (never_true (is_row (layers s cells) row) (λ q. m (named.0 q)));
  }

class-refusals : (s : Shape) (cells : List ℤ) (row : List ℕ) (n : ℕ) → crossing_cause s cells ≡ suc n → class_call s cells row ≡ Err (suc n)
unfolding class_call
class-refusals s cells row n e = rw e

pub crossings : Crossings
crossings = record { covers = λ r x y. (covers-in r x y, in-covers r x y); causes = crossing-causes; refused = class-refusals; classes = classes-hold; values = λ n. (refl, refl, refl) }
