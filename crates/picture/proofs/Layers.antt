-- Laws of the layers, drawn one after the other.
use mathlib.Core.Path.{◌≡◌, refl, ap, ◌∙◌, subst}
use mathlib.Core.List.{List, ◌∷◌, ◌++◌}
use Prim.Native.Nat.{ℕ, suc, ◌+◌, ◌*◌, ◌≤◌, ◌<◌}
use native.Mathlib.Omega.{arith}
use native.Mathlib.Numerals.{add-one}
use lib.IntN.{ℤ, pos}
use lib.ListN.{length, get_or, take, drop, drop_of_length-le}
use lib.Seq.{drop-cons, drop-drop, length-take-le, get_or-take}
use Rattle.lists.specs.Lists.{sum}
use Rattle.plan.specs.Plan.{layers_of}
use Rattle.plan.proofs.Growing.{get-small, part-reach}
use Rattle.pens.specs.declared.Pen.{Pen}
use Rattle.pens.specs.Pens.{RoomFor, wrote}
use Rattle.pens.proofs.Pens.{Due, due-all, due-room, due-then, due-none}
use Rattle.picture.specs.declared.Frame.{Frame}
use Rattle.picture.specs.Pictures.{layer_parts}
use Rattle.picture.specs.inner.Parts.{LayerDrawable, LayersDrawable, layer_in}

-- ---- the loop over layers: what is written, and the layers from j on, give all
module _ (f : Frame) (ns ms : List ℕ) (cells : List ℤ) (first : Pen) where
  abbrev whole : List ℕ
  whole = layer_parts f ms 0 (layers_of ns cells)

  pub record Layered (pen : Pen) (start j : ℕ) : Type 0 where
    pub within : j ≤ length ns
    pub sums : start + sum (drop j ns) ≡ sum ns
    pub left : Due first whole pen (layer_parts f ms j (layers_of (drop j ns) (drop (4 * start) cells)))

  pub none-layered : RoomFor first whole → Layered first 0 0
  none-layered h = record { within = omega arith; sums = omega arith; left = due-all first whole h }

  module _ (pen : Pen) (start j : ℕ) (g : Layered pen start j) where
    pub all-layered : length ns ≤ j → pen ≡ wrote first whole
    all-layered h =
        due-none first whole pen
        (subst (λ (l : List ℕ). Due first whole pen (layer_parts f ms j (layers_of l (drop (4 * start) cells)))) (drop_of_length-le ns h) g.left)

    -- the layer at j, of size n, and its cells
    module _ (h : j < length ns) (n : ℕ) (is : get_or ns j 0 ≡ n) where
      cut : drop j ns ≡ n ∷ drop (suc j) ns
      cut = drop-cons ns j 0 h ∙ ap (λ (z : ℕ). z ∷ drop (suc j) ns) is

      pub layer-within : start + n ≤ sum ns
      layer-within = omega (arith, ap sum cut, g.sums)

      module _ (part : List ℤ) (e : part ≡ take (4 * n) (drop (4 * start) cells)) where
        abbrev layer : List ℕ
        layer = layer_in f (j + 1) (get_or ms j 0) part n

        step : Due first whole pen (layer ++ layer_parts f ms (suc j) (layers_of (drop (suc j) ns) (drop (4 * (start + n)) cells)))
        step =
            let q : 4 * start + 4 * n ≡ 4 * (start + n) = omega arith in
            rw (add-one, e)
            (subst (λ (l : List ℤ). Due first whole pen (layer_in f (suc j) (get_or ms j 0) (take (4 * n) (drop (4 * start) cells)) n ++ layer_parts f ms (suc j) (layers_of (drop (suc j) ns) l)))
            (drop-drop (4 * n) (4 * start) cells ∙ ap (λ (z : ℕ). drop z cells) q)
            (subst (λ (l : List ℕ). Due first whole pen (layer_parts f ms j (layers_of l (drop (4 * start) cells)))) cut g.left))

        pub next-layer-room : RoomFor pen layer
        next-layer-room = due-room _ _ _ layer _ step

        pub next-layered : (r : Pen) → r ≡ wrote pen layer → Layered r (start + n) (j + 1)
        next-layered r w =
            let i = due-then _ _ _ layer _ r step w in
            rw (add-one j) (record { within = h; sums = omega (arith, ap sum cut, g.sums); left = i })

-- ---- the same, as the code goes over the first k layers
module _ (f : Frame) (sizes ms : List ℕ) (k : ℕ) (cells : List ℤ) (first pen : Pen) (start j : ℕ)
    (g : Layered f (take k sizes) ms cells first pen start j) (d : LayersDrawable sizes ms k cells) where
  long : length (take k sizes) ≡ k
  long = length-take-le k sizes d.sized

  pub layers-end : k ≤ j → pen ≡ wrote first (whole f (take k sizes) ms cells first)
  layers-end h = all-layered f (take k sizes) ms cells first pen start j g (omega (arith, long))

  module _ (h : j < k) where
    one : j < length (take k sizes)
    one = omega (arith, long)

    size_is : get_or (take k sizes) j 0 ≡ get_or sizes j 0
    size_is = get_or-take k sizes j 0 h

    in-plan : start + get_or sizes j 0 ≤ sum (take k sizes)
    in-plan = layer-within f (take k sizes) ms cells first pen start j g one (get_or sizes j 0) size_is

    pub layer-inside : 4 * start + 4 * get_or sizes j 0 ≤ length cells
    layer-inside = omega (arith, in-plan, d.reach.whole)

    pub layer-short : start + get_or sizes j 0 ≤ 3072
    layer-short = omega (arith, in-plan, d.short)

    module _ (part : List ℤ) (e : part ≡ take (4 * get_or sizes j 0) (drop (4 * start) cells)) where
      pub layer-drawable : LayerDrawable (j + 1) (get_or ms j 0) part (get_or sizes j 0)
      layer-drawable =
          record {
            few = omega (arith, d.few);
            small = get-small d.small j;
            reach = part-reach cells (sum (take k sizes)) start (get_or sizes j 0) part d.reach in-plan e;
            short = omega (arith, layer-short);
          }

      pub layer-room : RoomFor pen (layer_in f (j + 1) (get_or ms j 0) part (get_or sizes j 0))
      layer-room = next-layer-room f (take k sizes) ms cells first pen start j g one (get_or sizes j 0) size_is part e

      pub layer-more : (r : Pen) → r ≡ wrote pen (layer_in f (j + 1) (get_or ms j 0) part (get_or sizes j 0))
          → Layered f (take k sizes) ms cells first r (start + get_or sizes j 0) (j + 1)
      layer-more = next-layered f (take k sizes) ms cells first pen start j g one (get_or sizes j 0) size_is part e
