-- Laws of spots: the number of each, and its rectangle as it lies in the cells.
use mathlib.Core.Path.{◌≡◌, refl, ap, ◌∙◌}
use mathlib.Core.List.{List, [], ◌∷◌}
use mathlib.Core.Bool.{Bool, true, false, cond}
use mathlib.Core.Logic.{◌⊎◌, inl, inr}
use Prim.Native.Nat.{ℕ, zero, suc, ◌+◌, ◌-◌, ◌*◌, ◌≤◌, ◌<◌}
use native.Mathlib.Omega.{arith}
use lib.IntN.{ℤ, pos}
use lib.Dec.{ltb}
use lib.ListN.{length, get_or, take, drop}
use lib.Seq.{drop-drop, get_or-drop, get_or-take}
use borrow.Author.Tests.{ltb-true, ltb-false, lt-ltb, le-ltb}
use Rattle.lists.specs.Lists.{All, none_left, ◌and◌, sum}
use Rattle.plan.specs.Plan.{rect_at, Layer, layers_of}
use Rattle.plan.specs.Spots.{Spot, next_layer, spot_of, layer_at, Has, rect_of}

-- ---- numbers and spots
-- the number of the rectangle at place p of layer i
abbrev pub number_at : List ℕ → ℕ → ℕ → ℕ
number_at ns i p = sum (take i ns) + p

pub number_small : (ns : List ℕ) (i p : ℕ) → p < get_or ns i 0 → number_at ns i p < sum ns
number_small [] i p h = absurd (omega arith)
number_small (n ∷ ns) zero p h = omega arith
number_small (n ∷ ns) (suc i) p h = omega (arith, number_small ns i p h)

pub spot-number : (ns : List ℕ) (i p : ℕ) → p < get_or ns i 0 → spot_of ns (number_at ns i p) ≡ record { layer = i; place = p }
spot-number [] i p h = absurd (omega arith)
spot-number (n ∷ ns) zero p h = let e : 0 + p ≡ p = omega arith in rw (e, lt-ltb p n h)
spot-number (n ∷ ns) (suc i) p h =
    let e : n + sum (take i ns) + p - n ≡ number_at ns i p = omega arith in
    rw (le-ltb (n + sum (take i ns) + p) n (omega arith), e) (ap next_layer (spot-number ns i p h))

-- a number is that of its layer and place
pub number-spot : (ns : List ℕ) (k : ℕ) → sum (take (spot_of ns k).layer ns) + (spot_of ns k).place ≡ k
number-spot [] k = omega arith
number-spot (n ∷ ns) k = go (ltb k n) refl (number-spot ns (k - n))
  where
    go : (t : Bool) → ltb k n ≡ t → sum (take (spot_of ns (k - n)).layer ns) + (spot_of ns (k - n)).place ≡ k - n
        → let s = cond t (record { layer = 0; place = k }) (next_layer (spot_of ns (k - n))) in sum (take s.layer (n ∷ ns)) + s.place ≡ k
    go true e i = omega arith
    go false e i = omega (arith, ltb-false k n e)

-- numbers ascend by layer, then place
abbrev pub Ahead : Spot → Spot → Type 0
Ahead a b = (a.layer < b.layer) ⊎ ((a.layer ≡ b.layer) × (a.place < b.place))

pub spots-ascend : (ns : List ℕ) (j k : ℕ) → j < k → Ahead (spot_of ns j) (spot_of ns k)
spots-ascend [] j k h = inr (refl, h)
spots-ascend (n ∷ ns) j k h = go (ltb j n) refl (ltb k n) refl (λ i. spots-ascend ns (j - n) (k - n) i)
  where
    up : {a b : Spot} → Ahead a b → Ahead (next_layer a) (next_layer b)
    up (inl p) = inl (omega arith)
    up (inr p) = inr (ap suc p.0, p.1)

    go : (t : Bool) → ltb j n ≡ t → (u : Bool) → ltb k n ≡ u → (j - n < k - n → Ahead (spot_of ns (j - n)) (spot_of ns (k - n)))
        → Ahead (cond t (record { layer = 0; place = j }) (next_layer (spot_of ns (j - n)))) (cond u (record { layer = 0; place = k }) (next_layer (spot_of ns (k - n))))
    go true e true f i = inr (refl, h)
    go true e false f i = inl (omega arith)
    go false e true f i = absurd (omega (arith, ltb-false j n e, ltb-true k n f))
    go false e false f i = up (i (omega (arith, ltb-false j n e)))

-- ---- rectangles of a part of the cells
same-rect : (part cells : List ℤ) (i j : ℕ) → ((k : ℕ) → k < 4 → get_or part (4 * i + k) (pos 0) ≡ get_or cells (4 * j + k) (pos 0)) → rect_at part i ≡ rect_at cells j
unfolding rect_at
same-rect part cells i j f = rw (first (f 0 (omega arith)), f 1 (omega arith), f 2 (omega arith), f 3 (omega arith))
  where
    first : get_or part (4 * i + 0) (pos 0) ≡ get_or cells (4 * j + 0) (pos 0) → get_or part (4 * i) (pos 0) ≡ get_or cells (4 * j) (pos 0)
    first e = let p : 4 * i + 0 ≡ 4 * i = omega arith in let q : 4 * j + 0 ≡ 4 * j = omega arith in rw (p, q) at e

pub rect-drop : (cells : List ℤ) (n k : ℕ) → n ≤ k → rect_at (drop (4 * n) cells) (k - n) ≡ rect_at cells k
rect-drop cells n k h = same-rect (drop (4 * n) cells) cells (k - n) k (λ i p. let e : 4 * n + (4 * (k - n) + i) ≡ 4 * k + i = omega arith in get_or-drop (4 * n) cells (4 * (k - n) + i) (pos 0) ∙ ap (λ (m : ℕ). get_or cells m (pos 0)) e)

pub rect-take : (cells : List ℤ) (n k : ℕ) → k < n → rect_at (take (4 * n) cells) k ≡ rect_at cells k
rect-take cells n k h = same-rect (take (4 * n) cells) cells k k (λ i p. get_or-take (4 * n) cells (4 * k + i) (pos 0) (omega arith))

-- the rectangle with number k, and that there is one
pub rect-number : (ns : List ℕ) (cells : List ℤ) (k : ℕ) → k < sum ns → (rect_of (layers_of ns cells) (spot_of ns k) ≡ rect_at cells k) × Has (layers_of ns cells) (spot_of ns k)
rect-number [] cells k h = absurd (omega arith)
rect-number (n ∷ ns) cells k h = go (ltb k n) refl (rect-number ns (drop (4 * n) cells) (k - n))
  where
    go : (t : Bool) → ltb k n ≡ t → (k - n < sum ns → (rect_of (layers_of ns (drop (4 * n) cells)) (spot_of ns (k - n)) ≡ rect_at (drop (4 * n) cells) (k - n)) × Has (layers_of ns (drop (4 * n) cells)) (spot_of ns (k - n)))
        → (rect_of (layers_of (n ∷ ns) cells) (cond t (record { layer = 0; place = k }) (next_layer (spot_of ns (k - n)))) ≡ rect_at cells k) × Has (layers_of (n ∷ ns) cells) (cond t (record { layer = 0; place = k }) (next_layer (spot_of ns (k - n))))
    go true e i = (rect-take cells n k (ltb-true k n e), ltb-true k n e)
    go false e i = let q = i (omega (arith, ltb-false k n e)) in (q.0 ∙ rect-drop cells n k (ltb-false k n e), q.1)

pub size_of : (ns : List ℕ) (cells : List ℤ) (i : ℕ) → (layer_at (layers_of ns cells) i).size ≡ get_or ns i 0
size_of [] cells i = refl
size_of (n ∷ ns) cells zero = refl
size_of (n ∷ ns) cells (suc i) = size_of ns (drop (4 * n) cells) i

-- where a layer lies in the cells
pub layer-at : (ns : List ℕ) (cells : List ℤ) (j : ℕ) → j < length ns
    → layer_at (layers_of ns cells) j ≡ record { size = get_or ns j 0; rect = rect_at (take (4 * get_or ns j 0) (drop (4 * sum (take j ns)) cells)) }
layer-at [] cells j h = absurd (omega arith)
layer-at (n ∷ ns) cells zero h = refl
layer-at (n ∷ ns) cells (suc j) h =
    let e : 4 * n + 4 * sum (take j ns) ≡ 4 * (n + sum (take j ns)) = omega arith in
    layer-at ns (drop (4 * n) cells) j (omega arith) ∙ rw (drop-drop (4 * sum (take j ns)) (4 * n) cells, e)

-- ... and that all of it lies there
pub layer-within : (ns : List ℕ) (j : ℕ) → sum (take j ns) + get_or ns j 0 ≤ sum ns
layer-within [] zero = omega arith
layer-within [] (suc j) = omega arith
layer-within (n ∷ ns) zero = omega arith
layer-within (n ∷ ns) (suc j) = omega (arith, layer-within ns j)

pub layers-long : (ns : List ℕ) (cells : List ℤ) → length (layers_of ns cells) ≡ length ns
layers-long [] cells = refl
layers-long (n ∷ ns) cells = ap suc (layers-long ns (drop (4 * n) cells))

pub has-layer : (ls : List Layer) (i p : ℕ) → p < (layer_at ls i).size → i < length ls
has-layer [] i p h = absurd (omega arith)
has-layer (l ∷ ls) zero p h = omega arith
has-layer (l ∷ ls) (suc i) p h = omega (arith, has-layer ls i p h)

pub layers-small : (m : ℕ) {ns : List ℕ} (cells : List ℤ) → All (λ n. n ≤ m) ns → All (λ l. l.size ≤ m) (layers_of ns cells)
layers-small m cells none_left = none_left
layers-small m cells (◌and◌ h hs) = ◌and◌ h (layers-small m _ hs)
