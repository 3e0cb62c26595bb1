-- What an accepted call leaves, and that layers so made are a plan.
use mathlib.Core.Path.{◌≡◌, refl, sym, ap, ap₂, ◌∙◌, subst}
use mathlib.Core.List.{List, [], ◌∷◌, ◌++◌, map, flat_map, append-nil}
use mathlib.Core.Bool.{true}
use mathlib.Core.Logic.{◌⊎◌, inl, inr}
use Prim.Native.Nat.{ℕ, zero, suc, ◌+◌, ◌-◌, ◌*◌, ◌%◌, ◌≤◌, ◌<◌}
use native.Mathlib.Omega.{arith}
use lib.Dec.{eqb}
use lib.IntN.{ℤ, pos}
use lib.ListN.{length, get_or, drop, length-append, length-drop, get_or-append}
use lib.Seq.{get_or-append-add}
use lib.Ieee.{Float}
use Rattle.lists.specs.Lists.{All, none_left, ◌and◌, sum, padded, upto}
use Rattle.lists.proofs.Tests.{both, total}
use Rattle.lists.proofs.Lists.{all_map, all_get_d}
use Rattle.lists.proofs.Padding.{padded-zeros}
use Rattle.lists.proofs.Kept.{all_keep}
use Rattle.geometry.specs.declared.Rect.{Rect}
use Rattle.geometry.specs.Theorems.{Ranged}
use Rattle.plan.specs.declared.Shape.{Shape}
use Rattle.plan.specs.Plan.{rect_at, plan_cause}
use Rattle.plan.specs.Theorems.{Bounded, AllIn}
use Rattle.plan.proofs.Theorems.{plan-passed}
use Rattle.survey.specs.declared.Corners.{Corners}
use Rattle.survey.specs.declared.Strip.{Strip}
use Rattle.survey.specs.Records.{corners_at, records, cover_of, sound_record, all_sound, kept_by, cover_cells}
use Rattle.std.specs.Prelude.{Err}
use Rattle.survey.specs.CoverCall.{kept, cover_cause, layer_of, cover_answer, cover_after}
use Rattle.survey.specs.Theorems.{GoodLayer, CoverAccepted}
use Rattle.survey.proofs.Records.{all-sound→}
use Rattle.survey.proofs.CoverCall.{cells-long}
use Rattle.survey.proofs.Keeping.{surveyed}
use Rattle.survey.proofs.Causes.{tells-true, recorded, cover-held}

-- ---- an accepted call
-- the rectangle at a place of the layer, whatever comes behind it
rect-in : (cs : List Corners) (rest : List ℤ) (i : ℕ) (d : Corners) → i < length cs → rect_at (cover_cells cs ++ rest) i ≡ cover_of (get_or cs i d)
unfolding rect_at cover_of
rect-in [] rest i d h = absurd (omega arith)
rect-in (c ∷ cs) rest zero d h = refl
rect-in (c ∷ cs) rest (suc i) d h =
    let e₀ : 4 * suc i ≡ suc (suc (suc (suc (4 * i)))) = omega arith in
    let e₁ : 4 * suc i + 1 ≡ suc (suc (suc (suc (4 * i + 1)))) = omega arith in
    let e₂ : 4 * suc i + 2 ≡ suc (suc (suc (suc (4 * i + 2)))) = omega arith in
    let e₃ : 4 * suc i + 3 ≡ suc (suc (suc (suc (4 * i + 3)))) = omega arith in
    rw (e₁, e₂, e₃, e₀) (rect-in cs rest i d (omega arith))

-- the rectangles of sound records are in range
pub layer-in : (cs : List Corners) → All (λ c. sound_record c ≡ true) cs → (i : ℕ) → i < length cs → Ranged (rect_at (cover_cells cs) i)
layer-in cs h i k =
    let d = corners_at [] 0 in
    let e = rect-in cs [] i d k in
    subst Ranged (sym (rw append-nil at e)) (surveyed (get_or cs i d) (all_get_d d h i k)).2

-- the rectangles from place p on, one by one
rects-are : (cs : List Corners) (all : List ℤ) (p : ℕ) → ((i : ℕ) → i < length cs → (d : Corners) → rect_at all (p + i) ≡ cover_of (get_or cs i d)) → upto (rect_at all) p (length cs) ≡ map cover_of cs
rects-are [] all p f = refl
rects-are (c ∷ cs) all p f =
    ap₂ (λ (r : Rect) (l : List Rect). r ∷ l) (ap (rect_at all) (omega arith) ∙ f 0 (omega arith) c)
    (rects-are cs all (suc p) (λ i h d. ap (rect_at all) (omega arith) ∙ f (suc i) (omega arith) d))

-- those that an accepted call keeps are sound
pub kept-sound : (across upward : Strip) (corners : List Float) (room : ℕ) → cover_cause across upward corners room ≡ 0 → All (λ c. sound_record c ≡ true) (kept across upward corners)
kept-sound across upward corners room e =
    let h = (cover-held across upward corners room e).0 in
    let s = (both (eqb (length corners % 4) 0) (all_sound (records corners)) (tells-true _ (recorded corners) h)).1 in
    all_map (λ c p. p.0) (all_keep (kept_by across upward) (all-sound→ (records corners) s))

module _ (across upward : Strip) (corners : List Float) (cells : List ℤ) (e : cover_cause across upward corners (length cells) ≡ 0) where
  abbrev taken : List Corners
  taken = kept across upward corners

  abbrev layer : List ℤ
  layer = layer_of across upward corners

  after : cover_after across upward corners cells ≡ layer ++ drop (length layer) cells
  unfolding cover_after
  after = rw e

  pub accepted-is : CoverAccepted taken cells (cover_answer across upward corners (length cells)) (cover_after across upward corners cells)
  unfolding cover_answer
  accepted-is =
      let four = cells-long taken in
      let held = cover-held across upward corners (length cells) e in
      let room = held.2 in
      let rest = drop (length layer) cells in
      record {
        returned = rw e;
        layer = ap (λ (l : List ℤ). upto (rect_at l) 0 (length taken)) after ∙ rects-are taken (layer ++ rest) 0 (λ i h d. ap (rect_at (layer ++ rest)) (omega arith) ∙ rect-in taken rest i d h);
        good = (held.1, four, λ i h. layer-in taken (kept-sound across upward corners (length cells) e) i (omega arith));
        left = after ∙ ap (λ (n : ℕ). layer ++ drop n cells) four;
        long = ap length after ∙ (length-append layer rest ∙ omega (arith, length-drop (length layer) cells));
      }

pub refused-is : (across upward : Strip) (corners : List Float) (cells : List ℤ) (n : ℕ) → cover_cause across upward corners (length cells) ≡ suc n
    → (cover_answer across upward corners (length cells) ≡ Err (suc n)) × (cover_after across upward corners cells ≡ cells)
unfolding cover_answer cover_after
refused-is across upward corners cells n e = rw e (refl, refl)

-- ---- layers of several calls
-- a rectangle of the first of two parts, and one of the second
module _ (l m : List ℤ) (n i : ℕ) (e : length l ≡ 4 * n) where
  rect-front : i < n → rect_at (l ++ m) i ≡ rect_at l i
  unfolding rect_at
  rect-front h =
      rw (get_or-append l m (pos 0) (4 * i) (omega arith), get_or-append l m (pos 0) (4 * i + 1) (omega arith), get_or-append l m (pos 0) (4 * i + 2) (omega arith), get_or-append l m (pos 0) (4 * i + 3) (omega arith))

  rect-behind : rect_at (l ++ m) (n + i) ≡ rect_at m i
  unfolding rect_at
  rect-behind = rw (at 0 (4 * (n + i)) (4 * i) (omega arith), at 1 (4 * (n + i) + 1) (4 * i + 1) (omega arith), at 2 (4 * (n + i) + 2) (4 * i + 2) (omega arith), at 3 (4 * (n + i) + 3) (4 * i + 3) (omega arith))
    where
      at : (q a b : ℕ) → a ≡ length l + b → get_or (l ++ m) a (pos 0) ≡ get_or m b (pos 0)
      at q a b f = ap (λ (k : ℕ). get_or (l ++ m) k (pos 0)) f ∙ get_or-append-add l m b (pos 0)

-- all their cells are four for each rectangle
layers-long : {ls : List (List Corners)} → All GoodLayer ls → length (flat_map cover_cells ls) ≡ 4 * sum (map length ls)
unfolding flat_map
layers-long none_left = refl
layers-long (◌and◌ {a = cs} {l = ls} h hs) = omega (arith, length-append (cover_cells cs) (flat_map cover_cells ls), h.1, layers-long hs)

-- ... and each rectangle is in range: one of the first layer, or one behind it
layers-in : {ls : List (List Corners)} → All GoodLayer ls → AllIn (flat_map cover_cells ls)
unfolding flat_map
layers-in none_left i k = absurd (omega arith)
layers-in (◌and◌ {a = cs} {l = ls} h hs) i k = go (layers-in hs) (total (length cs) i)
  where
    rest : List ℤ
    rest = flat_map cover_cells ls

    go : AllIn rest → (length cs ≤ i) ⊎ (i < length cs) → Ranged (rect_at (cover_cells cs ++ rest) i)
    go behind (inl p) =
        let j = i - length cs in
        let e : i ≡ length cs + j = omega arith in
        subst Ranged (sym (ap (rect_at (cover_cells cs ++ rest)) e ∙ rect-behind (cover_cells cs) rest (length cs) j h.1))
        (behind j (omega (arith, k, length-append (cover_cells cs) rest, h.1)))
    go behind (inr p) = subst Ranged (sym (rect-front (cover_cells cs) rest (length cs) i h.1 p)) (h.2 i (omega (arith, h.1)))

sizes-long : (ls : List (List Corners)) → length (map length ls) ≡ length ls
sizes-long [] = refl
sizes-long (cs ∷ ls) = ap suc (sizes-long ls)

-- none are too many
small : {ls : List (List Corners)} (m j : ℕ) → All GoodLayer ls → get_or (padded m (map length ls)) j 0 ≤ 512
small zero j h = omega arith
small (suc m) zero none_left = omega arith
small (suc m) (suc j) none_left = small m j none_left
small (suc m) zero (◌and◌ h hs) = h.0
small (suc m) (suc j) (◌and◌ h hs) = small m j hs

sum-padded : (m : ℕ) (l : List ℕ) → length l ≤ m → sum (padded m l) ≡ sum l
sum-padded zero [] h = refl
sum-padded zero (a ∷ l) h = absurd (omega arith)
sum-padded (suc m) [] h = omega (arith, sum-padded m [] (omega arith))
sum-padded (suc m) (a ∷ l) h = ap (λ (k : ℕ). a + k) (sum-padded m l (omega arith))

pub plan-is : (ls : List (List Corners)) (margins : List ℕ) → let s : Shape = record { k = length ls; sizes = padded 6 (map length ls); margins = margins } in
    (2 ≤ s.k) × (s.k ≤ 6) → Bounded 50000 s.k s.margins → All GoodLayer ls → plan_cause s (flat_map cover_cells ls) ≡ 0
plan-is ls margins few wide h =
    let long = sizes-long ls in
    let high = few.1 in
    (plan-passed (record { k = length ls; sizes = padded 6 (map length ls); margins = margins }) (flat_map cover_cells ls)).1 (
      few,
      λ j. (small 6 j h, λ k. padded-zeros 6 (map length ls) j (omega arith)),
      wide,
      omega (arith, layers-long h, sum-padded 6 (map length ls) (omega arith)),
      layers-in h,
    )
