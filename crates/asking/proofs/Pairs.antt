-- Laws of the plan of two layers: it is accepted, and its layers are the two of the plan.
use mathlib.Core.Path.{◌≡◌, refl, sym, ap, ap₂, ◌∙◌, subst}
use mathlib.Core.List.{List, [], ◌∷◌, ◌++◌, append-nil}
use Prim.Native.Nat.{ℕ, zero, suc, ◌+◌, ◌*◌, ◌<◌}
use native.Mathlib.Omega.{arith}
use lib.IntN.{ℤ}
use lib.ListN.{length, get_or, take, drop}
use lib.Seq.{drop-drop}
use Rattle.lists.specs.Lists.{sum}
use Rattle.lists.proofs.Padding.{padded-long, padded-zeros}
use Rattle.plan.specs.declared.Shape.{Shape}
use Rattle.plan.specs.Plan.{Layer, sizes_of, grown, layers, Sound}
use Rattle.plan.specs.Spots.{layer_at}
use Rattle.plan.proofs.Growing.{framed}
use Rattle.join.proofs.Theorems.{tables}
use Rattle.symmetry.specs.Plans.{parts, joined}
use Rattle.symmetry.proofs.Parts.{grown_layer}
use Rattle.symmetry.proofs.Sheets.{Sheet, Sheets, sheets-of, sheets-sound, layer-of, parts-back}
use Rattle.asking.specs.Pairs.{layer_cells, two_shape, two_cells}
use Rattle.asking.specs.Theorems.{two_layers, TwoHold}

-- the part of a layer lies behind the layers before it
part_at : (k : ℕ) (ns : List ℕ) (cells : List ℤ) (i : ℕ) → i < k → i < length ns
    → get_or (parts (take k ns) cells) i [] ≡ take (4 * get_or ns i 0) (drop (4 * sum (take i ns)) cells)
part_at zero ns cells i h l = absurd (omega arith)
part_at (suc k) [] cells i h l = absurd (omega arith)
part_at (suc k) (n ∷ ns) cells zero h l = refl
part_at (suc k) (n ∷ ns) cells (suc i) h l =
    let e : 4 * n + 4 * sum (take i ns) ≡ 4 * (n + sum (take i ns)) = omega arith in
    part_at k ns (drop (4 * n) cells) i (omega arith) (omega arith)
    ∙ ap (take (4 * get_or ns i 0)) (drop-drop (4 * sum (take i ns)) (4 * n) cells ∙ ap (λ (z : ℕ). drop z cells) e)

module _ (s : Shape) (cells : List ℤ) (sound : Sound s cells) where
  -- the layer at i, as it is drawn
  layer-part : (i : ℕ) → i < s.k → get_or (parts (sizes_of s) cells) i [] ≡ layer_cells s cells i
  layer-part i h = part_at s.k s.sizes cells i h (omega (arith, sound.typed.sizes, (sheets-of s cells sound).high))

  pub sheet-at : (i : ℕ) → i < s.k → Sheet (get_or s.sizes i 0) (get_or s.margins i 0) (layer_cells s cells i)
  sheet-at i h = subst (Sheet (get_or s.sizes i 0) (get_or s.margins i 0)) (layer-part i h) ((sheets-of s cells sound).sheet i h)

  grown-at : (i : ℕ) → i < s.k → layer_at (layers s cells) i ≡ grown_layer (get_or s.sizes i 0) (get_or s.margins i 0) (layer_cells s cells i)
  grown-at i h = layer-of s cells sound i h ∙ ap (grown_layer (get_or s.sizes i 0) (get_or s.margins i 0)) (layer-part i h)

  module _ (i j : ℕ) (a : i < s.k) (b : j < s.k) where
    -- the parts that it is put together from
    abbrev both-parts : List (List ℤ)
    both-parts = layer_cells s cells i ∷ layer_cells s cells j ∷ []

    two-sheets : Sheets (two_shape s i j) both-parts
    unfolding two_shape
    two-sheets = record {
      typed = record { sizes = padded-long 6 (get_or s.sizes i 0 ∷ get_or s.sizes j 0 ∷ []); margins = padded-long 6 (get_or s.margins i 0 ∷ get_or s.margins j 0 ∷ []) };
      low = omega arith;
      high = omega arith;
      past = λ m h. (padded-zeros 6 (get_or s.sizes i 0 ∷ get_or s.sizes j 0 ∷ []) m h, padded-zeros 6 (get_or s.margins i 0 ∷ get_or s.margins j 0 ∷ []) m h);
      long = refl;
      sheet = sheet;
    }
      where
        sheet : (m : ℕ) → m < 2 → Sheet (get_or (two_shape s i j).sizes m 0) (get_or (two_shape s i j).margins m 0) (get_or both-parts m [])
        sheet zero h = sheet-at i a
        sheet (suc zero) h = sheet-at j b
        sheet (suc (suc m)) h = absurd (omega arith)

    joined-two : joined both-parts ≡ two_cells s cells i j
    unfolding two_cells
    joined-two = ap (λ (l : List ℤ). layer_cells s cells i ++ l) (append-nil (layer_cells s cells j))

    pub two-sound : Sound (two_shape s i j) (two_cells s cells i j)
    two-sound = subst (Sound (two_shape s i j)) joined-two (sheets-sound (two_shape s i j) both-parts two-sheets)

    -- the layer at m of the two, grown
    two-layer : (m : ℕ) → m < 2 → layer_at (layers (two_shape s i j) (two_cells s cells i j)) m ≡ grown_layer (get_or (two_shape s i j).sizes m 0) (get_or (two_shape s i j).margins m 0) (get_or both-parts m [])
    unfolding two_shape
    two-layer m h =
        layer-of (two_shape s i j) (two_cells s cells i j) two-sound m h
        ∙ ap (λ (ps : List (List ℤ)). grown_layer (get_or (two_shape s i j).sizes m 0) (get_or (two_shape s i j).margins m 0) (get_or ps m [])) (ap (parts (sizes_of (two_shape s i j))) (sym joined-two) ∙ parts-back (two_shape s i j) both-parts two-sheets)

    pub two-layers : layers (two_shape s i j) (two_cells s cells i j) ≡ two_layers s cells i j
    unfolding two_shape
    two-layers = ap₂ (λ (x y : Layer). x ∷ y ∷ []) (two-layer 0 (omega arith) ∙ sym (grown-at i a)) (two-layer 1 (omega arith) ∙ sym (grown-at j b))

    pub two-hold : TwoHold s cells i j
    two-hold =
        let t = tables.tables (sizes_of (two_shape s i j)) (grown (two_shape s i j) (two_cells s cells i j)) (framed (two_shape s i j) (two_cells s cells i j) two-sound).1 in
        record { sound = two-sound; same = two-layers; table = rw (← two-layers) t.is }
