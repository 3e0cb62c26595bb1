-- Laws of lefts: a rectangle is the left guard of a row exactly where the lefts of the others pass the walk's tests.
use mathlib.Core.Path.{◌≡◌, refl, sym, ◌∙◌}
use mathlib.Core.List.{List, [], ◌∷◌}
use mathlib.Core.Bool.{Bool, true, false, cond, ◌&&◌}
use Prim.Native.Nat.{ℕ, zero, suc, ◌≤◌}
use native.Mathlib.Omega.{arith}
use lib.IntN.{ℤ}
use lib.Signed.{le_z, lt_z, ◌≤ℤ◌}
use lib.Dec.{eqb, eqb-zero-suc, eqb-suc-zero, eqb-suc-suc}
use lib.ListN.{length}
use Rattle.lists.specs.Lists.{All, none_left, ◌and◌}
use Rattle.lists.proofs.Tests.{clash, both, and-true, same_test}
use Rattle.geometry.specs.declared.Rect.{Rect}
use Rattle.geometry.proofs.Integers.{zarith, refl-le}
use Rattle.join.specs.Join.{cut, same_z, first_at, guard_layer}
use Rattle.join.proofs.Join.{cut-above, same_true, same-yes, cut-least}
use Rattle.walk.specs.Walk.{insert_at}
use Rattle.walk.proofs.Inserted.{common-insert}

-- the first i lefts are below x, the later ones at most x
abbrev pub lefts : ℤ → ℕ → List Rect → Bool
lefts x i [] = true
lefts x zero (r ∷ rs) = le_z r.left x && lefts x zero rs
lefts x (suc i) (r ∷ rs) = lt_z r.left x && lefts x i rs

lefts-below : (x : ℤ) (i : ℕ) (rs : List Rect) → lefts x i rs ≡ true → All (λ r. r.left ≤ℤ x) rs
lefts-below x i [] e = none_left
lefts-below x zero (r ∷ rs) e =
    let h = both (le_z r.left x) (lefts x zero rs) e in ◌and◌ {a = r} (omega zarith) (lefts-below x zero rs h.1)
lefts-below x (suc i) (r ∷ rs) e =
    let h = both (lt_z r.left x) (lefts x i rs) e in ◌and◌ {a = r} (omega zarith) (lefts-below x i rs h.1)

below-lefts : (x : ℤ) {rs : List Rect} → All (λ r. r.left ≤ℤ x) rs → lefts x zero rs ≡ true
below-lefts x none_left = refl
below-lefts x (◌and◌ {a = r} {l = rs} h hs) = and-true (le_z r.left x) (lefts x zero rs) (omega zarith) (below-lefts x hs)

-- where no left is beyond x, the first at x is the one put in at i exactly where the others pass and its left is x
first-insert : (x : ℤ) (g : Rect) (i : ℕ) {rs : List Rect} → i ≤ length rs → All (λ r. r.left ≤ℤ x) rs
    → eqb (first_at x (insert_at i g rs)) i ≡ (lefts x i rs && same_z g.left x)
first-insert x g zero {rs} h k = rw (below-lefts x k) (go (same_z g.left x))
  where
    go : (t : Bool) → eqb (cond t 0 (suc (first_at x rs))) 0 ≡ t
    go true = refl
    go false = eqb-suc-zero (first_at x rs)
first-insert x g (suc i) h none_left = absurd (omega arith)
first-insert x g (suc i) h (◌and◌ {a = r} {l = rs} k ks) = go (same_z r.left x) refl (lt_z r.left x) refl (first-insert x g i (omega arith) ks)
  where
    go : (t : Bool) → same_z r.left x ≡ t → (u : Bool) → lt_z r.left x ≡ u → eqb (first_at x (insert_at i g rs)) i ≡ (lefts x i rs && same_z g.left x)
        → eqb (cond t 0 (suc (first_at x (insert_at i g rs)))) (suc i) ≡ ((u && lefts x i rs) && same_z g.left x)
    go true e true f n = absurd (omega (zarith, same_true r.left x e))
    go true e false f n = eqb-zero-suc i
    go false e true f n = eqb-suc-suc (first_at x (insert_at i g rs)) i ∙ n
    go false e false f n = clash (same-yes r.left x (omega zarith)) e

-- the guard's layer is i exactly where the others pass
pub guard-lefts : (g : Rect) (i : ℕ) (rs : List Rect) → i ≤ length rs → eqb (guard_layer (insert_at i g rs)) i ≡ lefts g.left i rs
guard-lefts g i rs h = rw (common-insert g i rs) (first-insert x g i h (cut-above g rs).1 ∙ same_test _ _ there back)
  where
    x : ℤ
    x = (cut g rs).left

    there : (lefts x i rs && same_z g.left x) ≡ true → lefts g.left i rs ≡ true
    there e = let b = both (lefts x i rs) (same_z g.left x) e in rw (same_true g.left x b.1) b.0

    back : lefts g.left i rs ≡ true → (lefts x i rs && same_z g.left x) ≡ true
    back e =
        let u = cut-least g.left g (refl-le g.left) (lefts-below g.left i rs e) in
        let v = (cut-above g rs).0 in
        let q : x ≡ g.left = omega zarith in
        and-true (lefts x i rs) (same_z g.left x) (rw q e) (same-yes g.left x (sym q))
