-- When the plan that lines give is sound: k from 2 to 6, sizes of at most 512, margins of at most 50,000, and rectangles in range.
use mathlib.Core.Path.{◌≡◌, refl, sym, ap, ap₂, ◌∙◌}
use mathlib.Core.List.{List, [], ◌∷◌}
use mathlib.Core.Bool.{Bool, true, false, ◌&&◌}
use Prim.Native.Nat.{ℕ, zero, suc, ◌+◌, ◌*◌, ◌/◌, ◌≤◌, zero-le}
use native.Mathlib.Omega.{arith}
use lib.Dec.{eqb, leb}
use lib.IntN.{ℤ, pos, negsuc}
use lib.ListN.{length}
use borrow.Author.Tests.{eqb-true, eq-eqb, leb-true, le-leb, lt-ltb, le-ltb}
use Rattle.lists.specs.Lists.{sum, padded}
use Rattle.lists.proofs.Padding.{padded-long}
use Rattle.lists.proofs.Tests.{clash, both, and-true, below_all}
use Rattle.geometry.specs.declared.Rect.{Rect}
use Rattle.geometry.specs.Rectangles.{in_range}
use Rattle.plan.specs.declared.Shape.{Shape}
use Rattle.plan.specs.Plan.{rect_at, fits_at, all_fit, all_ranged, plan_cause, Sound}
use Rattle.plan.proofs.Plan.{Checked}
use Rattle.line.specs.declared.Line.{Line}
use Rattle.line.specs.declared.Line.TheVariants.{Plan, Layer, Rectangle}
use Rattle.text.specs.Plans.{layer_sizes, layer_margins, cells_in, shape_in, rects_agree}

-- each number is at most m
abbrev small : ℕ → List ℕ → Bool
small m [] = true
small m (n ∷ ns) = leb n m && small m ns

-- each rectangle is in range
abbrev ranged : List Line → Bool
ranged [] = true
ranged (Plan k ∷ ls) = ranged ls
ranged (Layer n m ∷ ls) = ranged ls
ranged (Rectangle r ∷ ls) = in_range r && ranged ls

-- all that lines give is in range
pub record Inside (ls : List Line) : Type 0 where
  pub sizes : small 512 (layer_sizes ls) ≡ true
  pub margins : small 50000 (layer_margins ls) ≡ true
  pub rects : ranged ls ≡ true

pub inside-none : Inside []
inside-none = record { sizes = refl; margins = refl; rects = refl }

module _ {ls : List Line} where
  module _ {n m : ℕ} where
    pub inside-layer : Inside (Layer (pos n) (pos m) ∷ ls) → (n ≤ 512) × (m ≤ 50000) × Inside ls
    inside-layer i =
        let s = both (leb n 512) (small 512 (layer_sizes ls)) i.sizes in
        let t = both (leb m 50000) (small 50000 (layer_margins ls)) i.margins in
        (leb-true n 512 s.0, leb-true m 50000 t.0, record { sizes = s.1; margins = t.1; rects = i.rects })

    pub layer-inside : n ≤ 512 → m ≤ 50000 → Inside ls → Inside (Layer (pos n) (pos m) ∷ ls)
    layer-inside h k i =
        record { sizes = and-true (leb n 512) _ (le-leb n 512 h) i.sizes; margins = and-true (leb m 50000) _ (le-leb m 50000 k) i.margins; rects = i.rects }

  module _ {r : Rect} where
    pub inside-rect : Inside (Rectangle r ∷ ls) → (in_range r ≡ true) × Inside ls
    inside-rect i = let b = both (in_range r) (ranged ls) i.rects in (b.0, record { sizes = i.sizes; margins = i.margins; rects = b.1 })

    pub rect-inside : in_range r ≡ true → Inside ls → Inside (Rectangle r ∷ ls)
    rect-inside h i = record { sizes = i.sizes; margins = i.margins; rects = and-true (in_range r) (ranged ls) h i.rects }

-- ---- numbers and zeros behind them
zeros-fit : (most m j k : ℕ) → k ≤ j → all_fit most k j (padded m []) ≡ true
unfolding fits_at
zeros-fit most zero j k h = refl
zeros-fit most (suc m) j k h = rw (le-leb 0 most zero-le, le-ltb j k h) (zeros-fit most m (suc j) k (omega arith))

and_yes : (b : Bool) → (b && true) ≡ b
and_yes true = refl
and_yes false = refl

padded-fit : (most m j k : ℕ) (ns : List ℕ) → j + length ns ≡ k → length ns ≤ m → all_fit most k j (padded m ns) ≡ small most ns
unfolding fits_at
padded-fit most m j k [] e h = zeros-fit most m j k (omega arith)
padded-fit most zero j k (n ∷ ns) e h = absurd (omega arith)
padded-fit most (suc m) j k (n ∷ ns) e h =
    rw (lt-ltb j k (omega arith), and_yes (leb n most), padded-fit most m (suc j) k ns (omega arith) (omega arith))

sum_zeros : (m : ℕ) → sum (padded m []) ≡ 0
sum_zeros zero = refl
sum_zeros (suc m) = omega (arith, sum_zeros m)

pub sum-padded : (m : ℕ) (ns : List ℕ) → length ns ≤ m → sum (padded m ns) ≡ sum ns
sum-padded m [] h = sum_zeros m
sum-padded zero (n ∷ ns) h = absurd (omega arith)
sum-padded (suc m) (n ∷ ns) h = ap (λ (k : ℕ). n + k) (sum-padded m ns (omega arith))

-- as many margins as sizes
pub margins-many : (ls : List Line) → length (layer_margins ls) ≡ length (layer_sizes ls)
margins-many [] = refl
margins-many (Plan k ∷ ls) = margins-many ls
margins-many (Layer n m ∷ ls) = ap suc (margins-many ls)
margins-many (Rectangle r ∷ ls) = margins-many ls

-- ---- cells
pub counted-cells : (due : ℕ) (ls : List Line) → rects_agree due ls ≡ true → length (cells_in ls) ≡ 4 * (due + sum (layer_sizes ls))
counted-cells due [] e = omega (arith, eqb-true due 0 e)
counted-cells due (Plan k ∷ ls) e = clash e refl
counted-cells due (Layer (pos n) (pos m) ∷ ls) e =
    let b = both (eqb due 0) (rects_agree n ls) e in
    omega (arith, eqb-true due 0 b.0, counted-cells n ls b.1)
counted-cells due (Layer (pos n) (negsuc m) ∷ ls) e = clash e refl
counted-cells due (Layer (negsuc n) m ∷ ls) e = clash e refl
counted-cells zero (Rectangle r ∷ ls) e = clash e refl
counted-cells (suc due) (Rectangle r ∷ ls) e = omega (arith, counted-cells due ls e)

pub next-rect : (a b c d : ℤ) (cells : List ℤ) (n : ℕ) → rect_at (a ∷ b ∷ c ∷ d ∷ cells) (suc n) ≡ rect_at cells n
unfolding rect_at
next-rect a b c d cells n =
    let e : 4 * suc n ≡ suc (suc (suc (suc (4 * n)))) = omega arith in
    let e₁ : 4 * suc n + 1 ≡ suc (suc (suc (suc (4 * n + 1)))) = omega arith in
    let e₂ : 4 * suc n + 2 ≡ suc (suc (suc (suc (4 * n + 2)))) = omega arith in
    let e₃ : 4 * suc n + 3 ≡ suc (suc (suc (suc (4 * n + 3)))) = omega arith in
    rw (e₁, e₂, e₃, e)

and_assoc : (a b c : Bool) → ((a && b) && c) ≡ (a && (b && c))
and_assoc true b c = refl
and_assoc false b c = refl

ranged-first : (r : Rect) (cells : List ℤ) (n : ℕ) → all_ranged (suc n) (r.left ∷ r.bottom ∷ r.right ∷ r.top ∷ cells) ≡ (in_range r && all_ranged n cells)
ranged-first r cells zero = unfold rect_at in sym (and_yes (in_range r))
ranged-first r cells (suc n) =
    ap₂ ◌&&◌ (ranged-first r cells n) (ap in_range (next-rect r.left r.bottom r.right r.top cells n))
    ∙ and_assoc (in_range r) (all_ranged n cells) (in_range (rect_at cells n))

ranged-is : (n : ℕ) (ls : List Line) → length (cells_in ls) ≡ 4 * n → all_ranged n (cells_in ls) ≡ ranged ls
ranged-is zero [] e = refl
ranged-is (suc n) [] e = absurd (omega arith)
ranged-is n (Plan k ∷ ls) e = ranged-is n ls e
ranged-is n (Layer k m ∷ ls) e = ranged-is n ls e
ranged-is zero (Rectangle r ∷ ls) e = absurd (omega arith)
ranged-is (suc n) (Rectangle r ∷ ls) e =
    ranged-first r (cells_in ls) n ∙ ap (λ (b : Bool). in_range r && b) (ranged-is n ls (omega arith))

-- ---- both together
pub passed-sound : (ls : List Line) → plan_cause (shape_in ls) (cells_in ls) ≡ 0 → Sound (shape_in ls) (cells_in ls)
unfolding shape_in
passed-sound ls e = record { typed = record { sizes = padded-long 6 (layer_sizes ls); margins = padded-long 6 (layer_margins ls) }; passed = e }

module _ (k : ℕ) (ls : List Line) (layers : length (layer_sizes ls) ≡ k) (high : k ≤ 6) (count : rects_agree 0 ls ≡ true) where
  abbrev shape : Shape
  shape = record { k = k; sizes = padded 6 (layer_sizes ls); margins = padded 6 (layer_margins ls) }

  whole : length (cells_in ls) ≡ 4 * sum (padded 6 (layer_sizes ls))
  whole = omega (arith, counted-cells 0 ls count, sum-padded 6 (layer_sizes ls) (omega arith))

  in-range : all_ranged (length (cells_in ls) / 4) (cells_in ls) ≡ ranged ls
  in-range = ranged-is (length (cells_in ls) / 4) ls (omega (arith, counted-cells 0 ls count))

  sizes-fit : all_fit 512 k 0 (padded 6 (layer_sizes ls)) ≡ small 512 (layer_sizes ls)
  sizes-fit = padded-fit 512 6 0 k (layer_sizes ls) (omega arith) (omega arith)

  margins-fit : all_fit 50000 k 0 (padded 6 (layer_margins ls)) ≡ small 50000 (layer_margins ls)
  margins-fit = padded-fit 50000 6 0 k (layer_margins ls) (omega (arith, margins-many ls)) (omega (arith, margins-many ls))

  pub sound-lines : 2 ≤ k → Inside ls → plan_cause shape (cells_in ls) ≡ 0
  unfolding plan_cause
  sound-lines low i =
      rw (le-leb 2 k low, le-leb k 6 high, sizes-fit ∙ i.sizes, margins-fit ∙ i.margins, eq-eqb (length (cells_in ls)) (4 * sum (padded 6 (layer_sizes ls))) whole, in-range ∙ i.rects)

  pub lines-inside : Checked shape (cells_in ls) → Inside ls
  lines-inside c =
      record { sizes = sym sizes-fit ∙ c.fit; margins = sym margins-fit ∙ c.margins; rects = sym in-range ∙ below_all (λ j. in_range (rect_at (cells_in ls) j)) (length (cells_in ls) / 4) c.ranged }
