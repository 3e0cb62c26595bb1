-- Laws of cells whose rectangles are grown as they are read.
use mathlib.Core.Path.{◌≡◌, refl, sym, ap, ap₂, ◌∙◌, subst}
use mathlib.Core.List.{List, [], ◌∷◌}
use mathlib.Core.Bool.{Bool, true, false}
use Prim.Native.Nat.{ℕ, suc, ◌+◌, ◌-◌, ◌*◌, ◌≤◌, ◌<◌, zero-le}
use native.Mathlib.Omega.{arith}
use lib.IntN.{ℤ}
use lib.Dec.{ltb}
use lib.ListN.{length, get_or, take, drop, take-append-drop}
use Rattle.std.specs.Prelude.{Option}
use Rattle.lists.specs.Lists.{All, none_left, ◌and◌, sum}
use Rattle.lists.proofs.Numbers.{sum-++}
use Rattle.lists.proofs.Tests.{both}
use Rattle.geometry.specs.declared.Rect.{Rect}
use Rattle.geometry.specs.Rectangles.{grown_by, in_extent}
use Rattle.geometry.proofs.Rectangles.{grown-none}
use Rattle.plan.specs.declared.Shape.{Shape}
use Rattle.plan.specs.Plan.{rect_at, Layer, layers_of, sizes_of, grown_layers, grown, Sound}
use Rattle.plan.specs.Frames.{Framed}
use Rattle.plan.specs.Spots.{rect_of, spot_of}
use Rattle.plan.proofs.Plan.{checked, front-sum, count-is, fit_small}
use Rattle.plan.proofs.Spots.{rect-take, rect-drop, rect-number, size_of, layer-at}
use Rattle.plan.proofs.Growing.{grown-rect, layers-grown, first-grown, layers-length, framed, get-small}
use Rattle.join.specs.Join.{rects}
use Rattle.rows.specs.declared.Ground.{Ground}
use Rattle.rows.specs.RowCall.{fits}
use Rattle.rows.specs.inner.Layers.{Reached}
use Rattle.rows.specs.inner.Grounds.{shared_by, ground_of}
use Rattle.rows.proofs.RowCall.{fits-at}
use Rattle.rows.proofs.Layers.{sum-next}
use Rattle.rows.proofs.Answers.{ground-misfit, ground-fit}
use Rattle.rows_code.specs.Reading.{widened, Widens, Readable}

-- ---- one layer
module _ (ns ms : List ℕ) (cells : List ℤ) (start j : ℕ) (t : Reached ns start j) (h : j < length ns) where
  read_at : (cs : List ℤ) (p : ℕ) → rect_of (layers_of ns cs) (record { layer = j; place = p }) ≡ rect_at (take (4 * get_or ns j 0) (drop (4 * start) cs)) p
  read_at cs p =
      let e : sum (take j ns) ≡ start = omega (arith, t.sums, ap sum (take-append-drop j ns), sum-++ (take j ns) (drop j ns)) in
      ap (λ (l : Layer). l.rect p) (layer-at ns cs j h) ∙ ap (λ (n : ℕ). rect_at (take (4 * get_or ns j 0) (drop (4 * n) cs)) p) e

  -- the rectangle of a row that is read and grown is that of the widened cells
  pub row-widened : (row : List ℕ) → fits ns row ≡ true → (r : Rect) → r ≡ grown_by (get_or ms j 0) (rect_at (take (4 * get_or ns j 0) (drop (4 * start) cells)) (get_or row j 0))
      → r ≡ rect_at (take (4 * get_or ns j 0) (drop (4 * start) (widened ns ms cells))) (get_or row j 0)
  row-widened row f r e =
      let p = get_or row j 0 in
      let z : j ≡ 0 + j = omega arith in
      e
      ∙ (ap (grown_by (get_or ms j 0)) (sym (read_at cells p))
      ∙ (ap (λ (i : ℕ). grown_by (get_or ms i 0) (rect_of (layers_of ns cells) (record { layer = j; place = p }))) z
      ∙ (sym (grown-rect ms 0 ns cells j p (fits-at ns row j f h)) ∙ read_at (widened ns ms cells) p)))

  -- the rectangle of a row there can be read and grown
  pub row-widens : (row : List ℕ) → fits ns row ≡ true → Readable ns ms cells
      → (4 * start + 4 * get_or ns j 0 ≤ length cells) × ((get_or row j 0 < get_or ns j 0) × Widens (rect_at (take (4 * get_or ns j 0) (drop (4 * start) cells)) (get_or row j 0)) (get_or ms j 0))
  row-widens row e f =
      let p = get_or row j 0 in
      let k : p < get_or ns j 0 = fits-at ns row j e h in
      let s = sum-next ns start j t h in
      let z : start + p - start ≡ p = omega arith in
      let q = rect-take (drop (4 * start) cells) (get_or ns j 0) p k ∙ (ap (rect_at (drop (4 * start) cells)) (sym z) ∙ rect-drop cells start (start + p) (omega arith)) in
      (omega (arith, f.whole, s), (k, subst (λ (r : Rect). Widens r (get_or ms j 0)) (sym q) (f.widens (start + p) j (omega arith))))

-- ---- a sound plan as it is drawn
pub readable : (s : Shape) (cells : List ℤ) → Sound s cells → Readable (sizes_of s) s.margins cells
unfolding grown
readable s cells h =
    let c = checked s cells h in
    let n = front-sum s cells c in
    record {
      framed = (framed s cells h).1;
      whole = omega (arith, c.whole);
      many = omega (arith, (framed s cells h).1.few, h.typed.margins);
      widens = λ i j k. record { small = get-small (fit_small 50000 s.k 0 s.margins c.margins) j; ranged = λ z. c.ranged i (omega (arith, count-is s cells c)) };
    }

-- ---- cells that are grown already: no margin
abbrev pub no_margins : List ℕ
no_margins = 0 ∷ 0 ∷ 0 ∷ 0 ∷ 0 ∷ 0 ∷ []

none : (j : ℕ) → get_or no_margins j 0 ≡ 0
none j = omega (arith, get-small small j)
  where
    small : All (λ n. n ≤ 0) no_margins
    small = ◌and◌ zero-le (◌and◌ zero-le (◌and◌ zero-le (◌and◌ zero-le (◌and◌ zero-le (◌and◌ zero-le none_left)))))

rect-none : (j : ℕ) (r : Rect) → grown_by (get_or no_margins j 0) r ≡ r
rect-none j r = ap (λ (m : ℕ). grown_by m r) (none j) ∙ grown-none r

-- the rectangles of a row
pub rects-none : (j : ℕ) (ns : List ℕ) (cells : List ℤ) (row : List ℕ) → fits ns row ≡ true → rects (layers_of ns (grown_layers no_margins j (layers_of ns cells))) row ≡ rects (layers_of ns cells) row
rects-none j [] cells row e = refl
rects-none j (n ∷ ns) cells [] e = refl
rects-none j (n ∷ ns) cells (p ∷ row) e =
    ap (λ (ls : List Layer). rects ls (p ∷ row)) (layers-grown no_margins j n ns cells)
    ∙ ap₂ (λ (r : Rect) (rs : List Rect). r ∷ rs) (first-grown no_margins j n ns cells p (fits-at (n ∷ ns) (p ∷ row) 0 e (omega arith)) ∙ rect-none j _)
    (rects-none (suc j) ns (drop (4 * n) cells) row (both (ltb p n) (fits ns row) e).1)

module _ (ns : List ℕ) (cells : List ℤ) where
  -- the rectangle with a number
  number-none : (i : ℕ) → i < sum ns → rect_at (widened ns no_margins cells) i ≡ rect_at cells i
  number-none i h =
      let t = spot_of ns i in
      let q = rect-number ns (widened ns no_margins cells) i h in
      let k : t.place < get_or ns t.layer 0 = subst (λ (n : ℕ). t.place < n) (size_of ns (widened ns no_margins cells) t.layer) q.1 in
      sym q.0 ∙ (grown-rect no_margins 0 ns cells t.layer t.place k ∙ (rect-none (0 + t.layer) _ ∙ (rect-number ns cells i h).0))

  pub readable-none : Framed ns cells → Readable ns no_margins cells
  readable-none f = record {
    framed = record { some = f.some; few = f.few; small = f.small; whole = layers-length no_margins 0 ns cells; ranged = λ i h. ap in_extent (number-none i h) ∙ f.ranged i h };
    whole = f.whole;
    many = omega (arith, f.few);
    widens = λ i j h. record { small = omega (arith, none j); ranged = λ z. absurd (z (none j)) };
  }

  pub ground-widened : (row : List ℕ) (r : Option Ground) → r ≡ ground_of (layers_of ns (widened ns no_margins cells)) row → r ≡ ground_of (layers_of ns cells) row
  ground-widened row r q = q ∙ go (fits ns row) refl
    where
      go : (t : Bool) → fits ns row ≡ t → ground_of (layers_of ns (widened ns no_margins cells)) row ≡ ground_of (layers_of ns cells) row
      go true e = sym (ground-fit ns (widened ns no_margins cells) row e _ refl) ∙ (ap shared_by (rects-none 0 ns cells row e) ∙ ground-fit ns cells row e _ refl)
      go false e = sym (ground-misfit ns (widened ns no_margins cells) row e) ∙ ground-misfit ns cells row e
