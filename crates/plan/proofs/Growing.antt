-- Laws of the grown plan: how its cells lie, what its rectangles are, and that the checks of a plan frame it.
use mathlib.Core.Path.{◌≡◌, refl, sym, ap, ap₂, ◌∙◌, subst}
use mathlib.Core.List.{List, [], ◌∷◌, ◌++◌}
use mathlib.Core.Bool.{true}
use Prim.Native.Nat.{ℕ, zero, suc, ◌+◌, ◌-◌, ◌*◌, ◌≤◌, ◌<◌, zero-le}
use native.Mathlib.Omega.{arith}
use native.Mathlib.Numerals.{add-one}
use lib.IntN.{ℤ, pos}
use lib.ListN.{length, get_or, take, drop, length-append, length-drop, take-append-drop, drop_of_length-le}
use lib.Seq.{drop-cons, drop-drop, length-take-le, take-append_seam, drop-append_seam}
use Rattle.lists.specs.Lists.{All, none_left, ◌and◌, sum}
use Rattle.lists.specs.inner.Stores.{Put}
use Rattle.lists.proofs.Lists.{all_take}
use Rattle.lists.proofs.Stores.{Left, left-all, left-put, left-none, left-room, put-start, put-length}
use Rattle.geometry.specs.declared.Rect.{Rect}
use Rattle.geometry.specs.Rectangles.{in_range, held, grown_by}
use Rattle.geometry.proofs.Rectangles.{grown-held, grown-none, range-extent}
use Rattle.plan.specs.declared.Shape.{Shape}
use Rattle.plan.specs.Plan.{rect_at, rect_cells, count, Layer, layers_of, sizes_of, grown_from, grown_layers, grown, layers, all_fit, Sound}
use Rattle.plan.specs.Spots.{spot_of, rect_of}
use Rattle.plan.specs.Theorems.{Grows}
use Rattle.plan.specs.Frames.{Framed}
use Rattle.plan.specs.inner.Growth.{InReach, Growable, Grown}
use Rattle.plan.proofs.Plan.{checked, front-sum, count-is, fit_small, few}
use Rattle.plan.proofs.Spots.{rect-number, rect-take, rect-drop, size_of}

-- ---- how they lie
pub from-length : (m : ℕ) (rect : ℕ → Rect) (p n : ℕ) → length (grown_from m rect p n) ≡ 4 * n
from-length m rect p zero = refl
from-length m rect p (suc n) = omega (arith, from-length m rect (suc p) n)

pub layers-length : (ms : List ℕ) (j : ℕ) (ns : List ℕ) (cells : List ℤ) → length (grown_layers ms j (layers_of ns cells)) ≡ 4 * sum ns
layers-length ms j [] cells = refl
layers-length ms j (n ∷ ns) cells =
    let e : 4 * n + 4 * sum ns ≡ 4 * (n + sum ns) = omega arith in
    rw (length-append, from-length, layers-length ms (suc j) ns (drop (4 * n) cells)) e

-- ---- what its rectangles are
rect-first : (r : Rect) (rest : List ℤ) → rect_at (rect_cells r ++ rest) 0 ≡ r
unfolding rect_at
rect-first r rest = refl

from-rect : (m : ℕ) (rect : ℕ → Rect) (p n i : ℕ) → i < n → rect_at (grown_from m rect p n) i ≡ grown_by m (rect (p + i))
from-rect m rect p zero i h = absurd (omega arith)
from-rect m rect p (suc n) zero h = let e : p + 0 ≡ p = omega arith in rw e (rect-first (grown_by m (rect p)) (grown_from m rect (suc p) n))
from-rect m rect p (suc n) (suc i) h =
    let e : suc p + i ≡ p + suc i = omega arith in
    let d : suc i - 1 ≡ i = omega arith in
    sym (rect-drop (grown_from m rect p (suc n)) 1 (suc i) (omega arith)) ∙ (ap (rect_at (grown_from m rect (suc p) n)) d ∙ (from-rect m rect (suc p) n i (omega arith) ∙ ap (λ (q : ℕ). grown_by m (rect q)) e))

-- the first layer of the grown plan, and those behind it
module _ (ms : List ℕ) (j n : ℕ) (ns : List ℕ) (cells : List ℤ) where
  abbrev first-and : List ℤ → List ℤ → List Layer
  first-and a b = record { size = n; rect = rect_at a } ∷ layers_of ns b

  pub layers-grown : layers_of (n ∷ ns) (grown_layers ms j (layers_of (n ∷ ns) cells))
      ≡ record { size = n; rect = rect_at (grown_from (get_or ms j 0) (rect_at (take (4 * n) cells)) 0 n) } ∷ layers_of ns (grown_layers ms (suc j) (layers_of ns (drop (4 * n) cells)))
  layers-grown =
      let f = grown_from (get_or ms j 0) (rect_at (take (4 * n) cells)) 0 n in
      let g = grown_layers ms (suc j) (layers_of ns (drop (4 * n) cells)) in
      let long : length f ≡ 4 * n = from-length (get_or ms j 0) (rect_at (take (4 * n) cells)) 0 n in
      ap₂ first-and (ap (λ (z : ℕ). take z (f ++ g)) (sym long) ∙ take-append_seam f g) (ap (λ (z : ℕ). drop z (f ++ g)) (sym long) ∙ drop-append_seam f g)

  -- the rectangle at a place of the first layer
  pub first-grown : (p : ℕ) → p < n → rect_at (grown_from (get_or ms j 0) (rect_at (take (4 * n) cells)) 0 n) p ≡ grown_by (get_or ms j 0) (rect_at (take (4 * n) cells) p)
  first-grown p h = let z : 0 + p ≡ p = omega arith in from-rect (get_or ms j 0) (rect_at (take (4 * n) cells)) 0 n p h ∙ ap (λ (q : ℕ). grown_by (get_or ms j 0) (rect_at (take (4 * n) cells) q)) z

-- the rectangle at place p of layer i, where the first layer's margin is that at j
pub grown-rect : (ms : List ℕ) (j : ℕ) (ns : List ℕ) (cells : List ℤ) (i p : ℕ) → p < get_or ns i 0
    → rect_of (layers_of ns (grown_layers ms j (layers_of ns cells))) (record { layer = i; place = p }) ≡ grown_by (get_or ms (j + i) 0) (rect_of (layers_of ns cells) (record { layer = i; place = p }))
grown-rect ms j [] cells i p h = absurd (omega arith)
grown-rect ms j (n ∷ ns) cells zero p h =
    let e : j ≡ j + 0 = omega arith in
    ap (λ (ls : List Layer). rect_of ls (record { layer = 0; place = p })) (layers-grown ms j n ns cells)
    ∙ (first-grown ms j n ns cells p h ∙ ap (λ (q : ℕ). grown_by (get_or ms q 0) (rect_at (take (4 * n) cells) p)) e)
grown-rect ms j (n ∷ ns) cells (suc i) p h =
    let e : suc j + i ≡ j + suc i = omega arith in
    ap (λ (ls : List Layer). rect_of ls (record { layer = suc i; place = p })) (layers-grown ms j n ns cells)
    ∙ (grown-rect ms (suc j) ns (drop (4 * n) cells) i p h ∙ ap (λ (q : ℕ). grown_by (get_or ms q 0) (rect_of (layers_of ns (drop (4 * n) cells)) (record { layer = i; place = p }))) e)

-- ---- with all margins 0 it is the plan
four-at : (cells : List ℤ) (p : ℕ) → 4 * suc p ≤ length cells → drop (4 * p) cells ≡ rect_cells (rect_at cells p) ++ drop (4 * suc p) cells
unfolding rect_at
four-at cells p h = step (4 * p) (4 * p + 1) (omega arith) (omega arith) (step (4 * p + 1) (4 * p + 2) (omega arith) (omega arith) (step (4 * p + 2) (4 * p + 3) (omega arith) (omega arith) (step (4 * p + 3) (4 * suc p) (omega arith) (omega arith) refl)))
  where
    step : (i j : ℕ) {rest : List ℤ} → i < length cells → suc i ≡ j → drop j cells ≡ rest → drop i cells ≡ get_or cells i (pos 0) ∷ rest
    step i j {rest} l q e = drop-cons cells i (pos 0) l ∙ ap (λ (t : List ℤ). get_or cells i (pos 0) ∷ t) (ap (λ (z : ℕ). drop z cells) q ∙ e)

from-none : (cells : List ℤ) (p n : ℕ) → 4 * (p + n) ≡ length cells → grown_from 0 (rect_at cells) p n ≡ drop (4 * p) cells
from-none cells p zero e = sym (drop_of_length-le cells {i = 4 * p} (omega arith))
from-none cells p (suc n) e =
    ap (λ (r : Rect). rect_cells r ++ grown_from 0 (rect_at cells) (suc p) n) (grown-none (rect_at cells p))
    ∙ (ap (λ (l : List ℤ). rect_cells (rect_at cells p) ++ l) (from-none cells (suc p) n (omega arith)) ∙ sym (four-at cells p (omega arith)))

layers-none : (ms : List ℕ) (j : ℕ) (ns : List ℕ) (cells : List ℤ) → ((i : ℕ) → get_or ms i 0 ≡ 0) → length cells ≡ 4 * sum ns → grown_layers ms j (layers_of ns cells) ≡ cells
layers-none ms j [] cells f e = sym (none cells e)
  where
    none : (l : List ℤ) → length l ≡ 4 * 0 → l ≡ []
    none [] q = refl
    none (x ∷ l) q = absurd (omega arith)
layers-none ms j (n ∷ ns) cells f e =
    ap (λ (m : ℕ). grown_from m (rect_at (take (4 * n) cells)) 0 n ++ grown_layers ms (suc j) (layers_of ns (drop (4 * n) cells))) (f j)
    ∙ (ap (λ (l : List ℤ). l ++ grown_layers ms (suc j) (layers_of ns (drop (4 * n) cells))) (from-none (take (4 * n) cells) 0 n (omega (arith, length-take-le (4 * n) cells (omega arith))))
    ∙ (ap (λ (l : List ℤ). take (4 * n) cells ++ l) (layers-none ms (suc j) ns (drop (4 * n) cells) f (omega (arith, length-drop (4 * n) cells)))
    ∙ take-append-drop (4 * n) cells))

-- ---- a plan that the checks let through
pub get-small : {m : ℕ} {ns : List ℕ} → All (λ n. n ≤ m) ns → (j : ℕ) → get_or ns j 0 ≤ m
get-small none_left j = zero-le
get-small (◌and◌ h hs) zero = h
get-small (◌and◌ h hs) (suc j) = get-small hs j

-- it has as many cells as the plan
pub grown-length : (s : Shape) (cells : List ℤ) → length (grown s cells) ≡ 4 * sum (sizes_of s)
unfolding grown
grown-length s cells = layers-length s.margins 0 (sizes_of s) cells

module _ (s : Shape) (cells : List ℤ) where
  pub grown-at : (j p : ℕ) → p < get_or (sizes_of s) j 0
      → rect_of (layers s cells) (record { layer = j; place = p }) ≡ grown_by (get_or s.margins j 0) (rect_of (layers_of (sizes_of s) cells) (record { layer = j; place = p }))
  unfolding grown
  grown-at j p h = let e : 0 + j ≡ j = omega arith in grown-rect s.margins 0 (sizes_of s) cells j p h ∙ ap (λ (q : ℕ). grown_by (get_or s.margins q 0) (rect_of (layers_of (sizes_of s) cells) (record { layer = j; place = p }))) e

  pub grows : Grows s cells
  unfolding grown
  grows = record {
    sizes = λ j. size_of (sizes_of s) (grown s cells) j;
    rects = λ t h. grown-at t.layer t.place (subst (λ (n : ℕ). t.place < n) (size_of (sizes_of s) (grown s cells) t.layer) h);
    none = λ h f. let c = checked s cells h in layers-none s.margins 0 (sizes_of s) cells f (omega (arith, c.whole, front-sum s cells c));
  }

  module _ (h : Sound s cells) where
    -- the rectangle with a number, where each as it is drawn is from −b to b
    pub grown-ranged : (b : ℕ) → ((i : ℕ) → i < count cells → held (pos b) (rect_at cells i) ≡ true) → (i : ℕ) → i < sum (sizes_of s) → held (pos (b + 50000)) (rect_at (grown s cells) i) ≡ true
    grown-ranged b drawn i p =
        let c = checked s cells h in
        let t = spot_of (sizes_of s) i in
        let q = rect-number (sizes_of s) (grown s cells) i p in
        let m = get_or s.margins t.layer 0 in
        let at : t.place < get_or (sizes_of s) t.layer 0 = subst (λ (n : ℕ). t.place < n) (size_of (sizes_of s) (grown s cells) t.layer) q.1 in
        let r = grown-at t.layer t.place at ∙ ap (grown_by m) (rect-number (sizes_of s) cells i p).0 in
        let e = grown-held b m (rect_at cells i) (drawn i (omega (arith, count-is s cells c, front-sum s cells c))) (get-small (fit_small 50000 s.k 0 s.margins c.margins) t.layer) in
        subst (λ (z : Rect). held (pos (b + 50000)) z ≡ true) (sym r ∙ q.0) e

    -- as the functions below the calls take it
    pub framed : (s.k ≤ length s.sizes) × Framed (sizes_of s) (grown s cells)
    framed =
        let six = h.typed.sizes in
        let c = checked s cells h in
        let l = length-take-le s.k s.sizes (omega arith) in (
          omega arith,
          record {
            some = omega arith;
            few = omega arith;
            small = all_take s.k (fit_small 512 s.k 0 s.sizes c.fit);
            whole = grown-length s cells;
            ranged = grown-ranged 10000000 c.ranged;
          },
        )

-- with no margin it is the plan
pub drawn-grown : (s : Shape) (cells : List ℤ) → Sound s cells → all_fit 0 6 0 s.margins ≡ true → cells ≡ grown s cells
drawn-grown s cells h e =
    let small = fit_small 0 6 0 s.margins e in
    sym ((grows s cells).none h (λ j. le-zero _ (get-small small j)))
  where
    le-zero : (n : ℕ) → n ≤ 0 → n ≡ 0
    le-zero n k = omega arith

-- the plan as it is drawn is framed too
pub drawn-framed : (s : Shape) (cells : List ℤ) → Sound s cells → (s.k ≤ length s.sizes) × Framed (sizes_of s) cells
drawn-framed s cells h =
    let f = framed s cells h in
    let c = checked s cells h in
    let n = front-sum s cells c in
    (f.0, record { some = f.1.some; few = f.1.few; small = f.1.small; whole = omega (arith, c.whole); ranged = λ i p. range-extent _ (c.ranged i (omega (arith, count-is s cells c))) })

-- ---- the loop over a layer: what is put, and the rectangles from p on, give the whole layer
module _ (m : ℕ) (rect : ℕ → Rect) (size : ℕ) (first : List ℤ) (start : ℕ) where
  pub record Enlarged (run : List ℤ) (to p : ℕ) : Type 0 where
    pub within : p ≤ size
    pub left : Left first start (grown_from m rect 0 size) run to (grown_from m rect p (size - p))

  pub enlarged-none : Enlarged first start 0
  enlarged-none = let e : size - 0 ≡ size = omega arith in record { within = zero-le; left = rw e (left-all first start (grown_from m rect 0 size)) }

  module _ (run : List ℤ) (to p : ℕ) (g : Enlarged run to p) where
    next : p < size → Left first start (grown_from m rect 0 size) run to (rect_cells (grown_by m (rect p)) ++ grown_from m rect (suc p) (size - suc p))
    next h = let e : size - p ≡ suc (size - suc p) = omega arith in subst (λ (n : ℕ). Left first start (grown_from m rect 0 size) run to (grown_from m rect p n)) e g.left

    pub enlarged-room : p < size → start + 4 * size ≤ length first → to + 4 ≤ length run
    enlarged-room h k =
        left-room first start (grown_from m rect 0 size) run to (rect_cells (grown_by m (rect p))) _ (omega (arith, from-length m rect 0 size)) (next h)

    pub enlarged-more : (last : List ℤ) (v : ℕ) (r : Rect) → p < size → r ≡ grown_by m (rect p) → Put run to (rect_cells r) last v → Enlarged last v (p + 1)
    enlarged-more last v r h e q =
        rw add-one (record { within = h; left = left-put first start (grown_from m rect 0 size) run to (rect_cells (grown_by m (rect p))) _ last v (subst (λ (z : Rect). Put run to (rect_cells z) last v) e q) (next h) })

    pub enlarged-all : size ≤ p → Put first start (grown_from m rect 0 size) run to
    enlarged-all h =
        let e : size - p ≡ 0 = omega arith in
        left-none first start (grown_from m rect 0 size) run to (subst (λ (n : ℕ). Left first start (grown_from m rect 0 size) run to (grown_from m rect p n)) e g.left)

-- a part of cells in reach is so too
pub part-reach : (cells : List ℤ) (size start n : ℕ) (part : List ℤ) → InReach cells size → start + n ≤ size → part ≡ take (4 * n) (drop (4 * start) cells) → InReach part n
part-reach cells size start n part r h e =
    rw e (record {
      whole = omega (arith, r.whole, length-take-le (4 * n) (drop (4 * start) cells) (omega (arith, r.whole, length-drop (4 * start) cells)));
      ranged = λ p k.
          let e : start + p - start ≡ p = omega arith in
          subst (λ (z : Rect). in_range z ≡ true) (sym (rect-take (drop (4 * start) cells) n p k ∙ (ap (rect_at (drop (4 * start) cells)) (sym e) ∙ rect-drop cells start (start + p) (omega arith)))) (r.ranged (start + p) (omega arith));
    })

-- ---- the loop over layers
module _ (ns ms : List ℕ) (cells first : List ℤ) where
  pub record Spread (run : List ℤ) (at start j : ℕ) : Type 0 where
    pub within : j ≤ length ns
    pub sums : start + sum (drop j ns) ≡ sum ns
    pub left : Left first 0 (grown_layers ms 0 (layers_of ns cells)) run at (grown_layers ms j (layers_of (drop j ns) (drop (4 * start) cells)))

  pub spread_none : Spread first 0 0 0
  spread_none = record { within = zero-le; sums = omega arith; left = left-all first 0 (grown_layers ms 0 (layers_of ns cells)) }

  module _ (run : List ℤ) (at start j : ℕ) (g : Spread run at start j) where
    -- the layer at j, of size n
    module _ (h : j < length ns) (n : ℕ) (is : get_or ns j 0 ≡ n) where
      split : drop j ns ≡ n ∷ drop (suc j) ns
      split = drop-cons ns j 0 h ∙ ap (λ (z : ℕ). z ∷ drop (suc j) ns) is

      abbrev layer : List ℤ
      layer = grown_from (get_or ms j 0) (rect_at (take (4 * n) (drop (4 * start) cells))) 0 n

      step : Left first 0 (grown_layers ms 0 (layers_of ns cells)) run at (layer ++ grown_layers ms (suc j) (layers_of (drop (suc j) ns) (drop (4 * (start + n)) cells)))
      step =
          let e : 4 * start + 4 * n ≡ 4 * (start + n) = omega arith in
          subst (λ (l : List ℤ). Left first 0 (grown_layers ms 0 (layers_of ns cells)) run at (layer ++ grown_layers ms (suc j) (layers_of (drop (suc j) ns) l)))
          (drop-drop (4 * n) (4 * start) cells ∙ ap (λ (z : ℕ). drop z cells) e)
          (subst (λ (l : List ℕ). Left first 0 (grown_layers ms 0 (layers_of ns cells)) run at (grown_layers ms j (layers_of l (drop (4 * start) cells)))) split g.left)

      pub spread-within : start + n ≤ sum ns
      spread-within = omega (arith, ap sum split, g.sums)

      pub spread-room : 4 * sum ns ≤ length first → at + 4 * n ≤ length run
      spread-room k =
          omega (arith, from-length (get_or ms j 0) (rect_at (take (4 * n) (drop (4 * start) cells))) 0 n, left-room first 0 (grown_layers ms 0 (layers_of ns cells)) run at layer _ (omega (arith, layers-length ms 0 ns cells)) step)

      pub spread-more : (part last : List ℤ) (v : ℕ) → part ≡ take (4 * n) (drop (4 * start) cells) → Put run at (grown_from (get_or ms j 0) (rect_at part) 0 n) last v → Spread last v (start + n) (j + 1)
      spread-more part last v e p =
          let q : Put run at layer last v = subst (λ (l : List ℤ). Put run at (grown_from (get_or ms j 0) (rect_at l) 0 n) last v) e p in
          rw add-one (record { within = h; sums = omega (arith, ap sum split, g.sums); left = left-put first 0 (grown_layers ms 0 (layers_of ns cells)) run at layer _ last v q step })

    pub spread-all : length ns ≤ j → Put first 0 (grown_layers ms 0 (layers_of ns cells)) run at
    spread-all h =
        left-none first 0 (grown_layers ms 0 (layers_of ns cells)) run at
        (subst (λ (l : List ℕ). Left first 0 (grown_layers ms 0 (layers_of ns cells)) run at (grown_layers ms j (layers_of l (drop (4 * start) cells)))) (drop_of_length-le ns h) g.left)

-- ---- the whole plan
module _ (s : Shape) (cells : List ℤ) (h : Sound s cells) where
  pub growable : (room : ℕ) → 12288 ≤ room → Growable s.sizes s.margins s.k cells room
  growable room m =
      let c = checked s cells h in
      record {
        sized = omega (arith, h.typed.sizes, c.high);
        margined = omega (arith, h.typed.margins, c.high);
        small = fit_small 50000 s.k 0 s.margins c.margins;
        reach = record { whole = omega (arith, c.whole, front-sum s cells c); ranged = λ p k. c.ranged p (omega (arith, count-is s cells c, front-sum s cells c)) };
        fits = omega (arith, few s cells h, count-is s cells c, front-sum s cells c);
      }

  pub grown-put : (first run : List ℤ) (r : ℕ) → 12288 ≤ length first → Put first 0 (grown_layers s.margins 0 (layers_of (sizes_of s) cells)) run r → Grown s cells run
  unfolding grown
  grown-put first run r long p =
      let c = checked s cells h in
      let g = grown_layers s.margins 0 (layers_of (sizes_of s) cells) in
      let l : length g ≡ length cells = omega (arith, layers-length s.margins 0 (sizes_of s) cells, c.whole, front-sum s cells c) in
      let f : length cells ≤ 12288 = omega (arith, few s cells h, count-is s cells c, c.whole) in
      record {
        fits = omega (arith, put-length first run g 0 r p);
        is = ap (take (length cells)) (put-start first run g r (omega arith) p) ∙ (ap (λ (z : ℕ). take z (g ++ drop (length g) first)) (sym l) ∙ take-append_seam g (drop (length g) first));
      }

-- ---- the part of a run that holds the grown plan, as calls hand it on
module _ (s : Shape) (cells run : List ℤ) (g : Grown s cells run) where
  pub part-long : length cells ≡ length (take (length cells) run)
  part-long = sym (length-take-le (length cells) run g.fits)
