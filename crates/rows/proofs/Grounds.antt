-- Laws of what rectangles share, found one by one: the row call's loop.
use mathlib.Core.Path.{◌≡◌, refl, sym, ap, ◌∙◌}
use mathlib.Core.List.{List, [], ◌∷◌}
use mathlib.Core.Bool.{Bool, true, false, cond}
use Prim.Native.Nat.{ℕ, suc, ◌+◌, ◌*◌, ◌≤◌, ◌<◌}
use native.Mathlib.Omega.{arith}
use native.Mathlib.Numerals.{add-one}
use lib.IntN.{ℤ}
use lib.Signed.{lt_z, ◌≤ℤ◌}
use lib.ListN.{length, get_or, take, drop}
use Rattle.lists.specs.Lists.{All, ◌and◌}
use Rattle.lists.proofs.Tests.{clash, never_true}
use Rattle.geometry.specs.declared.Rect.{Rect}
use Rattle.geometry.specs.declared.Kind.{Kind}
use Rattle.std.specs.Prelude.{Option, None, Some}
use Rattle.geometry.specs.Rectangles.{max_z, common, nonempty, meets, kind_of, meeting}
use Rattle.geometry.proofs.Integers.{zarith}
use Rattle.geometry.proofs.Rectangles.{max-law, common-same, meeting-apart, meeting-common}
use Rattle.plan.specs.Plan.{rect_at, layers_of}
use Rattle.plan.specs.Frames.{Framed}
use Rattle.rows.specs.declared.Ground.{Ground}
use Rattle.join.specs.Join.{rects, cut, same_z, first_at}
use Rattle.rows.specs.RowCall.{fits}
use Rattle.rows.specs.inner.Layers.{Reached, rects_from}
use Rattle.rows.specs.inner.Grounds.{take_in, ground_by, shared_by}
use Rattle.join.proofs.Join.{cut-some, cut-above, same-yes, same_true}
use Rattle.rows.proofs.Layers.{reached-next, rects-next, rects-end, rects-solid}

-- ---- one rectangle more
module _ (g : Ground) (r : Rect) (i : ℕ) (m : Option (Rect × Kind)) (made : m ≡ meeting g.common r) where
  pub take-apart : m ≡ None → None ≡ take_in g r i
  unfolding take_in
  take-apart e = rw (meeting-apart g.common r m made e)

  pub take_more : (c : Rect) (kind : Kind) (n : ℕ) → m ≡ Some (c, kind) → n ≡ cond (lt_z g.common.left r.left) i g.guard → Some (record { common = c; kind = kind; guard = n }) ≡ take_in g r i
  unfolding take_in
  take_more c kind n e q = let k = meeting-common g.common r m made c kind e in rw (k.0, k.1, k.2, q)

-- ---- one rectangle, met with itself
module _ (r : Rect) (m : Option (Rect × Kind)) (made : m ≡ meeting r r) where
  pub alone-none : m ≡ None → None ≡ shared_by (r ∷ [])
  unfolding shared_by meets
  alone-none e = rw (sym (ap nonempty (common-same r)) ∙ meeting-apart r r m made e)

  pub alone-some : (c : Rect) (kind : Kind) → m ≡ Some (c, kind) → Some (record { common = c; kind = kind; guard = 0 }) ≡ shared_by (r ∷ [])
  unfolding shared_by meets
  alone-some c kind e =
      let k = meeting-common r r m made c kind e in
      let s = common-same r in
      rw (sym (ap nonempty s) ∙ k.0, same-yes r.left r.left refl, k.2, k.1, s)

-- ---- rectangle by rectangle
-- what is shared after all of the rectangles, which are those of layer i and the later ones
abbrev onward : (Ground → Option Ground) → Option Ground → Option Ground
onward f None = None
onward f (Some g) = f g

abbrev walked : Ground → ℕ → List Rect → Option Ground
walked g i [] = Some g
walked g i (r ∷ rs) = onward (λ h. walked h (suc i) rs) (take_in g r i)

-- the guard so far stays, where the next left is not greater
guard-step : (x y m : ℤ) (i g n : ℕ) → max_z x y ≤ℤ m → cond (same_z (max_z x y) m) (cond (lt_z x y) i g) (suc i + n) ≡ cond (same_z x m) g (i + cond (same_z y m) 0 (suc n))
guard-step x y m i g n h = go (lt_z x y) refl (same_z x m) refl (same_z y m) refl
  where
    go : (t : Bool) → lt_z x y ≡ t → (u : Bool) → same_z x m ≡ u → (v : Bool) → same_z y m ≡ v → cond (same_z (max_z x y) m) (cond t i g) (suc i + n) ≡ cond u g (i + cond v 0 (suc n))
    go true e true f v k = let z = same_true x m f in absurd (omega (zarith, max-law x y))
    go true e false f true k = let p : max_z x y ≡ y = omega (zarith, max-law x y) in rw (p, k) (omega arith)
    go true e false f false k = let p : max_z x y ≡ y = omega (zarith, max-law x y) in rw (p, k) (omega arith)
    go false e true f v k = let p : max_z x y ≡ x = omega (zarith, max-law x y) in rw (p, f)
    go false e false f true k = let z = same_true y m k in clash (same-yes x m (omega (zarith, max-law x y))) f
    go false e false f false k = let p : max_z x y ≡ x = omega (zarith, max-law x y) in rw (p, f) (omega arith)

-- ---- the guard that is found: that of the first, if its left is the greatest, or the first of the others
abbrev ground : Ground → ℕ → List Rect → Ground
ground g i rs =
    record { common = cut g.common rs; kind = kind_of (cut g.common rs); guard = cond (same_z g.common.left (cut g.common rs).left) g.guard (i + first_at (cut g.common rs).left rs) }

walked-is : (g : Ground) (i : ℕ) (rs : List Rect) → nonempty g.common ≡ true → g.kind ≡ kind_of g.common → walked g i rs ≡ cond (nonempty (cut g.common rs)) (Some (ground g i rs)) None
unfolding take_in meets common
walked-is g i [] e k = rw (e, k, same-yes g.common.left g.common.left refl)
walked-is g i (r ∷ rs) e k = go (nonempty (common g.common r)) refl (λ q. walked-is (next r) (suc i) rs q refl)
  where
    next : Rect → Ground
    next r = record { common = common g.common r; kind = kind_of (common g.common r); guard = cond (lt_z g.common.left r.left) i g.guard }

    go : (t : Bool) → nonempty (common g.common r) ≡ t → (nonempty (common g.common r) ≡ true → walked (next r) (suc i) rs ≡ cond (nonempty (cut (common g.common r) rs)) (Some (ground (next r) (suc i) rs)) None)
        → onward (λ h. walked h (suc i) rs) (cond t (Some (next r)) None) ≡ cond (nonempty (cut (common g.common r) rs)) (Some (ground g i (r ∷ rs))) None
    go true q ih = ih q ∙ ap (λ (n : ℕ). cond (nonempty (cut (common g.common r) rs)) (Some (record { common = cut (common g.common r) rs; kind = kind_of (cut (common g.common r) rs); guard = n })) None) (guard-step g.common.left r.left _ i g.guard _ (cut-above (common g.common r) rs).0)
    go false q ih = rw (never_true (nonempty (cut (common g.common r) rs)) (λ p. clash (cut-some (common g.common r) rs p) q))

-- all of a row's rectangles, from the first on
walked_all : (r : Rect) (rs : List Rect) → nonempty r ≡ true → walked (ground_by (r ∷ [])) 1 rs ≡ shared_by (r ∷ rs)
unfolding shared_by
walked_all r rs e =
    let q : 1 + first_at (cut r rs).left rs ≡ suc (first_at (cut r rs).left rs) = omega arith in
    walked-is (ground_by (r ∷ [])) 1 rs e refl ∙ rw (same-yes r.left r.left refl, q)

-- ---- layer by layer: after j layers, which have `start` rectangles, those that are left lead to the whole
pub record Through (sizes : List ℕ) (cells : List ℤ) (row : List ℕ) (g : Ground) (start j : ℕ) : Type 0 where
  pub some : 1 ≤ j
  pub reached : Reached sizes start j
  pub same : walked g j (rects_from sizes cells row start j) ≡ shared_by (rects (layers_of sizes cells) row)

-- the first rectangle holds a point, and so it has a ground
first_some : (r : Rect) (g : Ground) → nonempty r ≡ true → Some g ≡ shared_by (r ∷ []) → g ≡ ground_by (r ∷ [])
unfolding shared_by
first_some r g e h = go (rw e at h)
  where
    go : Some g ≡ Some (ground_by (r ∷ [])) → g ≡ ground_by (r ∷ [])
    go q = cc

first-solid : (sizes : List ℕ) (cells : List ℤ) (row : List ℕ) (r : Rect) → Framed sizes cells → fits sizes row ≡ true
    → r ≡ rect_at (take (4 * get_or sizes 0 0) (drop (4 * 0) cells)) (get_or row 0 0) → nonempty r ≡ true
first-solid [] cells row r f e q = absurd (omega (arith, f.some))
first-solid (n ∷ ns) cells [] r f e q = clash e refl
first-solid (n ∷ ns) cells (p ∷ row) r f e q = go (rects-solid (n ∷ ns) cells (p ∷ row) e f.ranged)
  where
    go : All (λ z. nonempty z ≡ true) (rect_at (take (4 * n) cells) p ∷ rects (layers_of ns (drop (4 * n) cells)) row) → nonempty r ≡ true
    go (◌and◌ h hs) = ap nonempty q ∙ h

pub through-none : (sizes : List ℕ) (cells : List ℤ) (row : List ℕ) (r : Rect) → Framed sizes cells → fits sizes row ≡ true
    → r ≡ rect_at (take (4 * get_or sizes 0 0) (drop (4 * 0) cells)) (get_or row 0 0) → None ≡ shared_by (r ∷ []) → ⊥
unfolding shared_by
through-none sizes cells row r f e q h = go (rw (first-solid sizes cells row r f e q) at h)
  where
    go : None ≡ Some (ground_by (r ∷ [])) → ⊥
    go k = let z : ◌≡◌ {A = ℕ} 0 1 = cc in omega arith

pub through-first : (sizes : List ℕ) (cells : List ℤ) (row : List ℕ) (r : Rect) (g : Ground) → Framed sizes cells → fits sizes row ≡ true
    → r ≡ rect_at (take (4 * get_or sizes 0 0) (drop (4 * 0) cells)) (get_or row 0 0) → Some g ≡ shared_by (r ∷ []) → Through sizes cells row g (get_or sizes 0 0) 1
through-first [] cells row r g f e q h = absurd (omega (arith, f.some))
through-first (n ∷ ns) cells [] r g f e q h = clash e refl
through-first (n ∷ ns) cells (p ∷ row) r g f e q h =
    let k = first-solid (n ∷ ns) cells (p ∷ row) r f e q in
    let rs = rects (layers_of ns (drop (4 * n) cells)) row in
    record {
      some = omega arith;
      reached = record { within = omega (arith, f.some); sums = refl };
      same = ap (λ (z : Ground). walked z 1 rs) (first_some r g k h) ∙ walked_all r rs k ∙ ap (λ (z : Rect). shared_by (z ∷ rs)) q;
    }

module _ (sizes : List ℕ) (cells : List ℤ) (row : List ℕ) (g : Ground) (start j : ℕ) (t : Through sizes cells row g start j) (e : fits sizes row ≡ true) (h : j < length sizes) (r : Rect)
    (p : r ≡ rect_at (take (4 * get_or sizes j 0) (drop (4 * start) cells)) (get_or row j 0)) where
  abbrev rest : List Rect
  rest = rects_from sizes cells row (start + get_or sizes j 0) (j + 1)

  step : onward (λ d. walked d (suc j) rest) (take_in g r j) ≡ shared_by (rects (layers_of sizes cells) row)
  step = sym (ap (walked g j) (rects-next sizes start j t.reached h cells row e r p)) ∙ t.same

  pub through-more : (d : Ground) → Some d ≡ take_in g r j → Through sizes cells row d (start + get_or sizes j 0) (j + 1)
  through-more d q = record {
    some = omega arith;
    reached = reached-next sizes start j t.reached h;
    same = ap (λ (i : ℕ). walked d i rest) (add-one j) ∙ ap (onward (λ d. walked d (suc j) rest)) q ∙ step;
  }

  pub through-stop : None ≡ take_in g r j → None ≡ shared_by (rects (layers_of sizes cells) row)
  through-stop q = ap (onward (λ d. walked d (suc j) rest)) q ∙ step

pub through-last : (sizes : List ℕ) (cells : List ℤ) (row : List ℕ) (g : Ground) (start j : ℕ) → Through sizes cells row g start j → length sizes ≤ j
    → Some g ≡ shared_by (rects (layers_of sizes cells) row)
through-last sizes cells row g start j t h = sym (ap (walked g j) (rects-end sizes cells row start j h)) ∙ t.same
