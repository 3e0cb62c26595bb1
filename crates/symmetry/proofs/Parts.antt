-- The part of the cells that is a layer's, and the layer, as drawn and grown, that it makes.
use mathlib.Core.Path.{◌≡◌, refl, ap, ap₂, ◌∙◌, subst}
use mathlib.Core.List.{List, [], ◌∷◌}
use Prim.Native.Nat.{ℕ, zero, suc, ◌+◌, ◌*◌, ◌<◌}
use native.Mathlib.Omega.{arith}
use lib.IntN.{ℤ}
use lib.ListN.{length, get_or, take, drop, length-append, length-drop}
use lib.Seq.{length-take-le, take_at, drop_at, take_all}
use Rattle.lists.specs.Lists.{sum}
use Rattle.geometry.specs.Rectangles.{grown_by}
use Rattle.plan.specs.Plan.{rect_at, Layer, layers_of, grown_from, grown_layers}
use Rattle.plan.specs.Spots.{layer_at}
use Rattle.plan.proofs.Growing.{layers-grown, first-grown}
use Rattle.symmetry.specs.Plans.{parts, joined}

-- ---- the cells
-- as many parts as layers, four cells for each rectangle
pub record Fits (ns : List ℕ) (ps : List (List ℤ)) : Type 0 where
  pub long : length ps ≡ length ns
  pub full : (m : ℕ) → m < length ns → length (get_or ps m []) ≡ 4 * get_or ns m 0

pub parts-fit : (ns : List ℕ) (cells : List ℤ) → length cells ≡ 4 * sum ns → Fits ns (parts ns cells)
parts-fit [] cells e = record { long = refl; full = λ m h. absurd (omega arith) }
parts-fit (n ∷ ns) cells e = go (parts-fit ns (drop (4 * n) cells) (omega (arith, length-drop (4 * n) cells)))
  where
    full : Fits ns (parts ns (drop (4 * n) cells)) → (m : ℕ) → m < suc (length ns) → length (get_or (take (4 * n) cells ∷ parts ns (drop (4 * n) cells)) m []) ≡ 4 * get_or (n ∷ ns) m 0
    full rest zero h = length-take-le (4 * n) cells (omega arith)
    full rest (suc m) h = rest.full m (omega arith)

    go : Fits ns (parts ns (drop (4 * n) cells)) → Fits (n ∷ ns) (parts (n ∷ ns) cells)
    go rest = record { long = ap suc rest.long; full = full rest }

fits-rest : {n : ℕ} {ns : List ℕ} {part : List ℤ} {ps : List (List ℤ)} → Fits (n ∷ ns) (part ∷ ps) → Fits ns ps
fits-rest f = record { long = omega (arith, f.long); full = λ m h. f.full (suc m) (omega arith) }

pub joined-parts : (ns : List ℕ) (ps : List (List ℤ)) → Fits ns ps → parts ns (joined ps) ≡ ps
joined-parts [] [] f = refl
joined-parts [] (part ∷ ps) f = absurd (omega (arith, f.long))
joined-parts (n ∷ ns) [] f = absurd (omega (arith, f.long))
joined-parts (n ∷ ns) (part ∷ ps) f =
    let e = f.full 0 (omega arith) in
    ap₂ ◌∷◌ (take_at part (joined ps) (4 * n) e) (ap (parts ns) (drop_at part (joined ps) (4 * n) e) ∙ joined-parts ns ps (fits-rest f))

pub joined-long : (ns : List ℕ) (ps : List (List ℤ)) → Fits ns ps → length (joined ps) ≡ 4 * sum ns
joined-long [] [] f = refl
joined-long [] (part ∷ ps) f = absurd (omega (arith, f.long))
joined-long (n ∷ ns) [] f = absurd (omega (arith, f.long))
joined-long (n ∷ ns) (part ∷ ps) f = omega (arith, length-append part (joined ps), f.full 0 (omega arith), joined-long ns ps (fits-rest f))

-- ---- the layers, as drawn and grown
abbrev pub drawn_layer : ℕ → List ℤ → Layer
drawn_layer n part = record { size = n; rect = rect_at part }

pub part-layer : (ns : List ℕ) (cells : List ℤ) (m : ℕ) → m < length ns → layer_at (layers_of ns cells) m ≡ drawn_layer (get_or ns m 0) (get_or (parts ns cells) m [])
part-layer [] cells m h = absurd (omega arith)
part-layer (n ∷ ns) cells zero h = refl
part-layer (n ∷ ns) cells (suc m) h = part-layer ns (drop (4 * n) cells) m (omega arith)

-- n rectangles with margin g
abbrev pub grown_layer : (n g : ℕ) → List ℤ → Layer
grown_layer n g part = record { size = n; rect = rect_at (grown_from g (rect_at part) 0 n) }

pub grown-layer : (gs : List ℕ) (j : ℕ) (ns : List ℕ) (cells : List ℤ) (m : ℕ) → m < length ns
    → layer_at (layers_of ns (grown_layers gs j (layers_of ns cells))) m ≡ grown_layer (get_or ns m 0) (get_or gs (j + m) 0) (get_or (parts ns cells) m [])
grown-layer gs j [] cells m h = absurd (omega arith)
grown-layer gs j (n ∷ ns) cells zero h =
    let e : j ≡ j + 0 = omega arith in
    ap (λ (ls : List Layer). layer_at ls 0) (layers-grown gs j n ns cells) ∙ ap (λ (q : ℕ). grown_layer n (get_or gs q 0) (take (4 * n) cells)) e
grown-layer gs j (n ∷ ns) cells (suc m) h =
    let e : suc j + m ≡ j + suc m = omega arith in
    ap (λ (ls : List Layer). layer_at ls (suc m)) (layers-grown gs j n ns cells)
    ∙ (grown-layer gs (suc j) ns (drop (4 * n) cells) m (omega arith) ∙ ap (λ (q : ℕ). grown_layer (get_or ns m 0) (get_or gs q 0) (get_or (parts ns (drop (4 * n) cells)) m [])) e)

pub grown-place : (n g : ℕ) (part : List ℤ) → length part ≡ 4 * n → (p : ℕ) → p < n → (grown_layer n g part).rect p ≡ grown_by g (rect_at part p)
grown-place n g part e p h =
    let t : take (4 * n) part ≡ part = take_all (4 * n) part (omega arith) in
    subst (λ (l : List ℤ). rect_at (grown_from g (rect_at l) 0 n) p ≡ grown_by g (rect_at l p)) t (first-grown (g ∷ []) 0 n [] part p h)
