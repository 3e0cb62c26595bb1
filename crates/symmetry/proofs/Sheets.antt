-- A plan layer by layer: a plan that is put together from layers which the checks let through is let through, and has these layers.
use mathlib.Core.Path.{◌≡◌, refl, sym, ap, ap₂, ◌∙◌, subst}
use mathlib.Core.List.{List, [], ◌∷◌}
use mathlib.Core.Logic.{◌⊎◌, inl, inr}
use Prim.Native.Nat.{ℕ, zero, suc, ◌+◌, ◌*◌, ◌≤◌, ◌<◌, zero-le}
use native.Mathlib.Omega.{arith}
use lib.IntN.{ℤ}
use lib.ListN.{length, get_or, take}
use lib.Seq.{length-take-le, get_or-take}
use Rattle.lists.specs.Lists.{sum}
use Rattle.lists.proofs.Tests.{total}
use Rattle.geometry.specs.Theorems.{Ranged}
use Rattle.plan.specs.declared.Shape.{Shape}
use Rattle.plan.specs.Plan.{rect_at, count, Layer, layers_of, sizes_of, grown, layers, Typed, Sound}
use Rattle.plan.specs.Spots.{spot_of, layer_at, rect_of}
use Rattle.plan.specs.Theorems.{AllIn}
use Rattle.plan.proofs.Spots.{number_at, number_small, spot-number, rect-number, size_of, layers-long, has-layer}
use Rattle.plan.proofs.Theorems.{plans, plan-passed}
use Rattle.symmetry.specs.Plans.{parts, joined}
use Rattle.symmetry.proofs.Parts.{Fits, parts-fit, joined-parts, joined-long, drawn_layer, part-layer, grown_layer, grown-layer}

-- a layer that the checks let through
pub record Sheet (n g : ℕ) (part : List ℤ) : Type 0 where
  pub small : n ≤ 512
  pub margin : g ≤ 50000
  pub whole : length part ≡ 4 * n
  pub ranged : (p : ℕ) → p < n → Ranged (rect_at part p)

-- layers that make up a plan
pub record Sheets (s : Shape) (ps : List (List ℤ)) : Type 0 where
  pub typed : Typed s
  pub low : 2 ≤ s.k
  pub high : s.k ≤ 6
  pub past : (m : ℕ) → s.k ≤ m → (get_or s.sizes m 0 ≡ 0) × (get_or s.margins m 0 ≡ 0)
  pub long : length ps ≡ s.k
  pub sheet : (m : ℕ) → m < s.k → Sheet (get_or s.sizes m 0) (get_or s.margins m 0) (get_or ps m [])

-- ---- of a plan that is let through
module _ (s : Shape) (cells : List ℤ) (sound : Sound s cells) where
  pub sheets-of : Sheets s (parts (sizes_of s) cells)
  sheets-of =
      let c = (plan-passed s cells).0 sound.passed in
      let f = plans.frames s cells sound in
      let fit = parts-fit (sizes_of s) cells (omega (arith, c.3, f.1)) in
      record {
        typed = sound.typed;
        low = c.0.0;
        high = c.0.1;
        past = λ m h. ((c.1 m).1 h, (c.2 m).1 h);
        long = fit.long ∙ f.2;
        sheet = λ m h.
            let e = plans.sizes s m h in
            let l : m < length (sizes_of s) = omega (arith, f.2) in
            record { small = (c.1 m).0; margin = (c.2 m).0; whole = subst (λ (n : ℕ). length (get_or (parts (sizes_of s) cells) m []) ≡ 4 * n) e (fit.full m l); ranged = λ p q. ranged m l p (subst (λ (n : ℕ). p < n) (sym e) q) c.4 (omega (arith, c.3, f.1)) };
      }
    where
      ranged : (m : ℕ) → m < length (sizes_of s) → (p : ℕ) → p < get_or (sizes_of s) m 0 → AllIn cells → count cells ≡ sum (sizes_of s) → Ranged (rect_at (get_or (parts (sizes_of s) cells) m []) p)
      ranged m l p q all e =
          let i = number_at (sizes_of s) m p in
          let b = number_small (sizes_of s) m p q in
          let r = (rect-number (sizes_of s) cells i b).0 in
          let t = spot-number (sizes_of s) m p q in
          let u = ap (λ (z : Layer). z.rect p) (part-layer (sizes_of s) cells m l) in
          subst Ranged (sym r ∙ (ap (rect_of (layers_of (sizes_of s) cells)) t ∙ u)) (all i (omega (arith, b)))

  pub drawn-of : (m : ℕ) → m < s.k → layer_at (layers_of (sizes_of s) cells) m ≡ drawn_layer (get_or s.sizes m 0) (get_or (parts (sizes_of s) cells) m [])
  drawn-of m h =
      part-layer (sizes_of s) cells m (omega (arith, (plans.frames s cells sound).2)) ∙ ap (λ (n : ℕ). drawn_layer n (get_or (parts (sizes_of s) cells) m [])) (plans.sizes s m h)

  pub layer-of : (m : ℕ) → m < s.k → layer_at (layers s cells) m ≡ grown_layer (get_or s.sizes m 0) (get_or s.margins m 0) (get_or (parts (sizes_of s) cells) m [])
  unfolding grown
  layer-of m h =
      let e : 0 + m ≡ m = omega arith in
      grown-layer s.margins 0 (sizes_of s) cells m (omega (arith, (plans.frames s cells sound).2))
      ∙ ap₂ (λ (n q : ℕ). grown_layer n (get_or s.margins q 0) (get_or (parts (sizes_of s) cells) m [])) (plans.sizes s m h) e

  pub layers-count : length (layers s cells) ≡ s.k
  layers-count = layers-long (sizes_of s) (grown s cells) ∙ (plans.frames s cells sound).2

-- ---- of a plan that is put together
sum_past : (k : ℕ) (ns : List ℕ) → ((m : ℕ) → k ≤ m → get_or ns m 0 ≡ 0) → sum (take k ns) ≡ sum ns
sum_past zero [] f = refl
sum_past zero (n ∷ ns) f = omega (arith, f 0 zero-le, sum_past zero ns (λ m h. f (suc m) zero-le))
sum_past (suc k) [] f = refl
sum_past (suc k) (n ∷ ns) f = ap (λ (z : ℕ). n + z) (sum_past k ns (λ m h. f (suc m) (omega arith)))

module _ (s : Shape) (ps : List (List ℤ)) (hs : Sheets s ps) where
  count_of : length (sizes_of s) ≡ s.k
  count_of = length-take-le s.k s.sizes (omega (arith, hs.typed.sizes, hs.high))

  sizes-at : (m : ℕ) → m < s.k → get_or (sizes_of s) m 0 ≡ get_or s.sizes m 0
  sizes-at m h = get_or-take s.k s.sizes m 0 h

  fits : Fits (sizes_of s) ps
  fits = record { long = hs.long ∙ sym count_of; full = λ m h. let l : m < s.k = omega (arith, count_of) in (hs.sheet m l).whole ∙ ap (λ (n : ℕ). 4 * n) (sym (sizes-at m l)) }

  pub parts-back : parts (sizes_of s) (joined ps) ≡ ps
  parts-back = joined-parts (sizes_of s) ps fits

  pub sheets-sound : Sound s (joined ps)
  sheets-sound = record { typed = hs.typed; passed = (plan-passed s (joined ps)).1 ((hs.low, hs.high), sized, margined, filled, all_in) }
    where
      sized : (m : ℕ) → (get_or s.sizes m 0 ≤ 512) × (s.k ≤ m → get_or s.sizes m 0 ≡ 0)
      sized m = (go (total s.k m), λ h. (hs.past m h).0)
        where
          go : (s.k ≤ m) ⊎ (m < s.k) → get_or s.sizes m 0 ≤ 512
          go (inl h) = omega (arith, (hs.past m h).0)
          go (inr h) = (hs.sheet m h).small

      margined : (m : ℕ) → (get_or s.margins m 0 ≤ 50000) × (s.k ≤ m → get_or s.margins m 0 ≡ 0)
      margined m = (go (total s.k m), λ h. (hs.past m h).1)
        where
          go : (s.k ≤ m) ⊎ (m < s.k) → get_or s.margins m 0 ≤ 50000
          go (inl h) = omega (arith, (hs.past m h).1)
          go (inr h) = (hs.sheet m h).margin

      whole : sum (sizes_of s) ≡ sum s.sizes
      whole = sum_past s.k s.sizes (λ m h. (hs.past m h).0)

      filled : length (joined ps) ≡ 4 * sum s.sizes
      filled = omega (arith, joined-long (sizes_of s) ps fits, whole)

      all_in : AllIn (joined ps)
      all_in i h =
          let t = spot_of (sizes_of s) i in
          let r = rect-number (sizes_of s) (joined ps) i (omega (arith, filled, whole)) in
          let l : t.layer < length (sizes_of s) = omega (arith, layers-long (sizes_of s) (joined ps), has-layer (layers_of (sizes_of s) (joined ps)) t.layer t.place r.1) in
          let k : t.layer < s.k = omega (arith, count_of) in
          let e = ap (λ (z : Layer). z.rect t.place) (part-layer (sizes_of s) (joined ps) t.layer l) ∙ ap (λ (qs : List (List ℤ)). rect_at (get_or qs t.layer []) t.place) parts-back in
          let p : t.place < get_or s.sizes t.layer 0 = omega (arith, r.1, size_of (sizes_of s) (joined ps) t.layer, sizes-at t.layer k) in
          subst Ranged (sym e ∙ r.0) ((hs.sheet t.layer k).ranged t.place p)
