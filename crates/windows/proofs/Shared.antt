-- Laws of shared minutes, and of the windows of a plan's layers.
use mathlib.Core.Path.{◌≡◌, refl, ap, ap₂, ◌∙◌}
use mathlib.Core.List.{List, [], ◌∷◌}
use mathlib.Core.Bool.{true}
use Prim.Native.Nat.{ℕ, zero, suc, ◌+◌, ◌*◌, ◌<◌, max, min}
use native.Mathlib.Omega.{arith}
use lib.ListN.{length, get_or, take, drop}
use lib.Seq.{get_or-drop}
use borrow.Author.Tests.{ltb-true, lt-ltb}
use Rattle.lists.specs.Lists.{sum}
use Rattle.plan.specs.Spots.{spot_of}
use Rattle.plan.proofs.Spots.{number-spot}
use Rattle.windows.specs.declared.Window.{Window}
use Rattle.windows.specs.Windows.{window_at, both, is_open, within, layer_hours, windows_at}

-- ---- what windows share
pub both-comm : (v w : Window) → both v w ≡ both w v
both-comm v w =
    let e : max v.from w.from ≡ max w.from v.from = omega arith in
    let f : min v.to w.to ≡ min w.to v.to = omega arith in
    ap₂ (λ (a b : ℕ). record { from = a; to = b }) e f

pub both-swap : (u v w : Window) → both (both u v) w ≡ both (both u w) v
both-swap u v w =
    let e : max (max u.from v.from) w.from ≡ max (max u.from w.from) v.from = omega arith in
    let f : min (min u.to v.to) w.to ≡ min (min u.to w.to) v.to = omega arith in
    ap₂ (λ (a b : ℕ). record { from = a; to = b }) e f

pub open_is : (w : Window) → is_open w ≡ true → w.from < w.to
unfolding is_open
open_is w e = ltb-true w.from w.to e

pub is-open : (w : Window) → w.from < w.to → is_open w ≡ true
unfolding is_open
is-open w h = lt-ltb w.from w.to h

-- fewer windows share no less
pub within-open : (w : Window) (ws : List Window) → is_open (within w ws) ≡ true → is_open w ≡ true
within-open w [] e = e
within-open w (v ∷ vs) e = is-open w (omega (arith, open_is (both w v) (within-open (both w v) vs e)))

-- ---- layers
pub window-drop : (hours : List ℕ) (n k : ℕ) → window_at (drop (2 * n) hours) k ≡ window_at hours (n + k)
unfolding window_at
window-drop hours n k =
    let e : 2 * n + 2 * k ≡ 2 * (n + k) = omega arith in
    let f : 2 * n + (2 * k + 1) ≡ 2 * (n + k) + 1 = omega arith in
    rw (get_or-drop (2 * n) hours (2 * k) 0, get_or-drop (2 * n) hours (2 * k + 1) 0, e, f)

-- the window at place p of layer j is that of the rectangle there
pub window-layer : (ns hours : List ℕ) (j p : ℕ) (d : ℕ → Window) → j < length ns → get_or (layer_hours ns hours) j d p ≡ window_at hours (sum (take j ns) + p)
window-layer [] hours j p d h = absurd (omega arith)
window-layer (n ∷ ns) hours zero p d h = let e : 0 + p ≡ p = omega arith in rw e
window-layer (n ∷ ns) hours (suc j) p d h =
    let e : n + (sum (take j ns) + p) ≡ n + sum (take j ns) + p = omega arith in
    window-layer ns (drop (2 * n) hours) j p d (omega arith) ∙ (window-drop hours n (sum (take j ns) + p) ∙ ap (window_at hours) e)

pub hours-long : (ns hours : List ℕ) → length (layer_hours ns hours) ≡ length ns
hours-long [] hours = refl
hours-long (n ∷ ns) hours = ap suc (hours-long ns (drop (2 * n) hours))

-- the window of the rectangle with number k is that of its spot
pub window-spot : (ns hours : List ℕ) (k : ℕ) (d : ℕ → Window) → (spot_of ns k).layer < length ns → get_or (layer_hours ns hours) (spot_of ns k).layer d (spot_of ns k).place ≡ window_at hours k
window-spot ns hours k d h = window-layer ns hours (spot_of ns k).layer (spot_of ns k).place d h ∙ ap (window_at hours) (number-spot ns k)

-- ---- the windows of a row
pub windows-long : (fs : List (ℕ → Window)) (row : List ℕ) → length row ≡ length fs → length (windows_at fs row) ≡ length fs
windows-long [] row e = refl
windows-long (f ∷ fs) [] e = e
windows-long (f ∷ fs) (p ∷ row) e = ap suc (windows-long fs row (omega arith))

pub windows-nth : (fs : List (ℕ → Window)) (row : List ℕ) (j : ℕ) (w : Window) (d : ℕ → Window) → length row ≡ length fs → j < length fs
    → get_or (windows_at fs row) j w ≡ get_or fs j d (get_or row j 0)
windows-nth [] row j w d e h = absurd (omega arith)
windows-nth (f ∷ fs) [] j w d e h = absurd (omega arith)
windows-nth (f ∷ fs) (p ∷ row) zero w d e h = refl
windows-nth (f ∷ fs) (p ∷ row) (suc j) w d e h = windows-nth fs row j w d (omega arith) (omega arith)
