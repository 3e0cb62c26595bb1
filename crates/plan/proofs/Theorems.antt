-- The promises on causes hold of every plan.
use mathlib.Core.Path.{◌≡◌, refl, sym, ap, ◌∙◌}
use mathlib.Core.List.{List, [], ◌∷◌, ◌++◌}
use mathlib.Core.Bool.{Bool, true, false, ◌&&◌, ◌||◌}
use mathlib.Core.Logic.{◌↔◌, ◌⊎◌, inl, inr}
use Prim.Native.Nat.{ℕ, zero, suc, ◌+◌, ◌*◌, ◌≤◌, ◌<◌, zero-le}
use native.Mathlib.Omega.{arith}
use lib.IntN.{ℤ, pos}
use lib.Dec.{eqb, leb, ltb}
use lib.ListN.{length, get_or}
use lib.Seq.{length-take-le, get_or-append-add, get_or-take}
use borrow.Author.Tests.{le-leb, leb-true, eq-eqb, eqb-true, le-ltb, lt-ltb}
use Rattle.lists.specs.Lists.{Tells, sum}
use Rattle.lists.proofs.Tests.{both, and-true, total, tells, below_at, below_all}
use Rattle.geometry.specs.declared.Rect.{Rect}
use Rattle.geometry.specs.Rectangles.{held, in_range}
use Rattle.geometry.proofs.Rectangles.{ranged, in-range, old-range}
use Rattle.plan.specs.declared.Shape.{Shape}
use Rattle.plan.specs.Causes.{unless, ◌or_else◌, Check, fails, passes, Passed}
use Rattle.plan.specs.Plan.{rect_at, count, fits_at, all_fit, all_ranged, plan_cause}
use Rattle.plan.specs.Theorems.{Bounded, AllIn, PlanChecks, OldCells, Plans}
use Rattle.plan.proofs.Plan.{front-sum, checked}
use Rattle.plan.proofs.Causes.{number-one, number-above, check-last, check-then, check-held, check-past}
use Rattle.plan.proofs.Growing.{framed, grows}

-- ---- the cells of a rectangle
fields : (p : ℕ) (front : List ℤ) (r : Rect) (rest : List ℤ) → length front ≡ 4 * p → rect_at (front ++ r.left ∷ r.bottom ∷ r.right ∷ r.top ∷ rest) p ≡ r
unfolding rect_at
fields p front r rest e = rw (at (4 * p) 0 (omega arith), at (4 * p + 1) 1 (omega arith), at (4 * p + 2) 2 (omega arith), at (4 * p + 3) 3 (omega arith))
  where
    at : (m i : ℕ) → m ≡ length front + i → get_or (front ++ r.left ∷ r.bottom ∷ r.right ∷ r.top ∷ rest) m (pos 0) ≡ get_or (r.left ∷ r.bottom ∷ r.right ∷ r.top ∷ rest) i (pos 0)
    at m i q = ap (λ (n : ℕ). get_or (front ++ r.left ∷ r.bottom ∷ r.right ∷ r.top ∷ rest) n (pos 0)) q ∙ get_or-append-add front _ i (pos 0)

-- ---- causes
-- what each test tells
layered : (s : Shape) → Tells ((2 ≤ s.k) × (s.k ≤ 6)) (leb 2 s.k && leb s.k 6)
layered s =
    tells _ (λ e. let h = both (leb 2 s.k) (leb s.k 6) e in (leb-true 2 s.k h.0, leb-true s.k 6 h.1))
    (λ h. and-true (leb 2 s.k) (leb s.k 6) (le-leb 2 s.k h.0) (le-leb s.k 6 h.1))

-- of the numbers from that of layer i on
abbrev FitFrom : ℕ → ℕ → ℕ → List ℕ → Type 0
FitFrom m k i ns = (j : ℕ) → (get_or ns j 0 ≤ m) × (k ≤ i + j → get_or ns j 0 ≡ 0)

module _ (m k : ℕ) where
  fit-from : (i : ℕ) (ns : List ℕ) → all_fit m k i ns ≡ true → FitFrom m k i ns
  unfolding fits_at
  fit-from i [] e j = (zero-le, λ h. refl)
  fit-from i (n ∷ ns) e zero =
      let b = both (leb n m) (ltb i k || eqb n 0) (both (fits_at m k i n) (all_fit m k (suc i) ns) e).0 in
      (leb-true n m b.0, λ h. eqb-true n 0 (rw (le-ltb i k (omega arith)) at b.1))
  fit-from i (n ∷ ns) e (suc j) = let r = fit-from (suc i) ns (both (fits_at m k i n) (all_fit m k (suc i) ns) e).1 j in (r.0, λ h. r.1 (omega arith))

  from-fit : (i : ℕ) (ns : List ℕ) → FitFrom m k i ns → all_fit m k i ns ≡ true
  unfolding fits_at
  from-fit i [] f = refl
  from-fit i (n ∷ ns) f = and-true (fits_at m k i n) _ (fit (total k i)) (from-fit (suc i) ns (λ j. ((f (suc j)).0, λ h. (f (suc j)).1 (omega arith))))
    where
      fit : (k ≤ i) ⊎ (i < k) → (leb n m && (ltb i k || eqb n 0)) ≡ true
      fit (inl h) = rw (le-leb n m (f 0).0, le-ltb i k h, eq-eqb n 0 ((f 0).1 (omega arith)))
      fit (inr h) = rw (le-leb n m (f 0).0, lt-ltb i k h)

  fit-tells : (ns : List ℕ) → Tells (Bounded m k ns) (all_fit m k 0 ns)
  fit-tells ns =
      tells _ (λ e j. let r = fit-from 0 ns e j in (r.0, λ h. r.1 (omega arith))) (λ h. from-fit 0 ns (λ j. ((h j).0, λ l. (h j).1 (omega arith))))

-- five checks, one behind the other
five : {P Q M R S : Type 0} {a b m c d : Bool} → Tells P a → Tells Q b → Tells M m → Tells R c → Tells S d
    → Check 1 P (Check 2 Q (Check 17 M (Check 3 R (Check 4 S Passed)))) (unless a 1 or_else unless b 2 or_else unless m 17 or_else unless c 3 or_else unless d 4)
five {a = false} p q v r s = fails refl (p.if_false refl)
five {a = true} {b = false} p q v r s = passes (p.if_true refl) (fails refl (q.if_false refl))
five {a = true} {b = true} {m = false} p q v r s = passes (p.if_true refl) (passes (q.if_true refl) (fails refl (v.if_false refl)))
five {a = true} {b = true} {m = true} {c = false} p q v r s =
    passes (p.if_true refl) (passes (q.if_true refl) (passes (v.if_true refl) (fails refl (r.if_false refl))))
five {a = true} {b = true} {m = true} {c = true} p q v r s =
    passes (p.if_true refl) (passes (q.if_true refl) (passes (v.if_true refl) (passes (r.if_true refl) (check-last 4 0 s refl))))

module _ (s : Shape) (cells : List ℤ) where
  filled : Tells (length cells ≡ 4 * sum s.sizes) (eqb (length cells) (4 * sum s.sizes))
  filled = tells _ (eqb-true (length cells) (4 * sum s.sizes)) (eq-eqb (length cells) (4 * sum s.sizes))

  all_in : Tells (AllIn cells) (all_ranged (count cells) cells)
  all_in =
      tells _ (λ e i h. ranged _ (below_at (λ j. in_range (rect_at cells j)) (count cells) i e h))
      (λ h. below_all (λ j. in_range (rect_at cells j)) (count cells) (λ i k. in-range _ (h i k)))

  -- more checks behind a plan's
  pub plan-then : (N M : ℕ → Type 0) (a b : ℕ) → (N a → M (a or_else b)) → PlanChecks s cells N a → PlanChecks s cells M (a or_else b)
  plan-then N M a b f =
      check-then 1 a b (omega arith) (check-then 2 a b (omega arith) (check-then 17 a b (omega arith) (check-then 3 a b (omega arith) (check-then 4 a b (omega arith) f))))

  pub plan-checks : PlanChecks s cells Passed (plan_cause s cells)
  unfolding plan_cause
  plan-checks = five (layered s) (fit-tells 512 s.k s.sizes) (fit-tells 50000 s.k s.margins) filled all_in

  -- the checks let a plan through exactly where all lines hold
  pub plan-passed : (plan_cause s cells ≡ 0) ↔ (((2 ≤ s.k) × (s.k ≤ 6)) × Bounded 512 s.k s.sizes × Bounded 50000 s.k s.margins × (length cells ≡ 4 * sum s.sizes) × AllIn cells)
  plan-passed = (
    λ e.
        let a = check-held 1 (omega arith) e plan-checks in
        let b = check-held 2 (omega arith) e a.1 in
        let c = check-held 17 (omega arith) e b.1 in
        let d = check-held 3 (omega arith) e c.1 in
        (a.0, b.0, c.0, d.0, (check-held 4 (omega arith) e d.1).0),
    λ h. check-past h.4 (check-past h.3 (check-past h.2 (check-past h.1 (check-past h.0 plan-checks)))),
  )

  -- one check more, behind a plan's
  pub plan-last : {P : Type 0} (n : ℕ) {t : Bool} → (plan_cause s cells ≡ 0 → Tells P t) → PlanChecks s cells (Check n P Passed) (plan_cause s cells or_else unless t n)
  plan-last {P} n f = plan-then Passed (Check n P Passed) _ _ (λ e. check-last n _ (f e) e) plan-checks

-- ---- the old range
old-at : (cells : List ℤ) → OldCells cells → (i : ℕ) → in_range (rect_at cells i) ≡ held (pos 1000000) (rect_at cells i)
unfolding rect_at
old-at cells h i = old-range (rect_at cells i) (h (4 * i)) (h (4 * i + 1)) (h (4 * i + 2)) (h (4 * i + 3))

old-in : (cells : List ℤ) → OldCells cells → AllIn cells ↔ ((i : ℕ) → i < count cells → held (pos 1000000) (rect_at cells i) ≡ true)
old-in cells o = (λ h i k. sym (old-at cells o i) ∙ in-range _ (h i k), λ h i k. ranged _ (old-at cells o i ∙ h i k))

pub plans : Plans
plans = record {
  numbered = number-one;
  never = number-above;
  figures = refl;
  tells = λ n c. (refl, refl, refl, refl);
  reads = λ f n m. (refl, refl);
  fields = fields;
  sizes = λ s j h. get_or-take s.k s.sizes j 0 h;
  causes = plan-checks;
  old = old-in;
  grows = grows;
  frames = λ s cells h.
      let f = framed s cells h in
      (f.1, front-sum s cells (checked s cells h), length-take-le s.k s.sizes f.0);
}
