-- Windows of the whole week close no slot: the timed walk is then the old one. The tests of a guard's slots, by the cells of their windows.
use mathlib.Core.Path.{◌≡◌, ap, ◌∙◌, fun_ext}
use mathlib.Core.List.{List, [], map}
use mathlib.Core.Option.{Option, some}
use mathlib.Core.Bool.{Bool, true, false, cond}
use Prim.Native.Nat.{ℕ, suc, ◌+◌, ◌≤◌, ◌<◌}
use native.Mathlib.Omega.{arith}
use lib.IntN.{ℤ}
use lib.Dec.{ltb}
use lib.ListN.{length, get_or, take, drop, length-map, get_or-map}
use Rattle.lists.specs.Lists.{without, sum}
use Rattle.lists.proofs.Lists.{all-at, all-of-mem}
use Rattle.plan.specs.Plan.{count, layers_of}
use Rattle.plan.specs.Spots.{spot_of, Has, rect_of}
use Rattle.plan.specs.Frames.{Framed}
use Rattle.plan.proofs.Spots.{number_small, size_of, layers-long, has-layer}
use Rattle.sweep.specs.Sweep.{sweep_order}
use Rattle.sweep.proofs.Sweep.{sweep-is}
use Rattle.sweep.proofs.Spots.{plan-has}
use Rattle.search.specs.inner.Zipper.{size_in}
use Rattle.search.specs.Names.{Sublist, name_of, old_probe}
use Rattle.search.proofs.Narrowing.{Idle, idle-at}
use Rattle.search.proofs.Beside.{narrowed-old, narrowed-sub, sub-short}
use Rattle.walk.specs.Walk.{guard_at, walk_of}
use Rattle.walk.specs.Passes.{slot_layer}
use Rattle.walk.proofs.Passes.{others-at, slot-size}
use Rattle.windows.specs.declared.Window.{Window}
use Rattle.windows.specs.Windows.{window_at, both, layer_hours}
use Rattle.windows.specs.Theorems.{window_in}
use Rattle.windows.proofs.Shared.{is-open, window-layer}
use Rattle.timed.specs.Timed.{still_open, timed_walk_of}
use Rattle.timed.specs.Theorems.{WholeWeek}
use Rattle.timed.proofs.Minutes.{opened}
use Rattle.timed.proofs.Timed.{tests_of, slots-others, tests-long}

abbrev whole_week : Window
whole_week = record { from = 0; to = 10080 }

week-open : (w : Window) → w ≡ whole_week → opened (both whole_week w) ≡ some whole_week
week-open w e = rw (e, is-open whole_week (omega arith))

module _ (ns : List ℕ) (cells : List ℤ) (hours : List ℕ) (n : ℕ) (has : Has (layers_of ns cells) (spot_of ns n)) where
  -- the windows of the slot at j
  abbrev pub slot_windows : ℕ → ℕ → Window
  slot_windows j p = window_in hours (sum (take (slot_layer (spot_of ns n).layer j) ns) + p)

  layer-there : (j : ℕ) → j < length (guard_at (layers_of ns cells) n (spot_of ns n)).slots → (t : Bool) → cond t j (suc j) < length ns
  layer-there j h true = omega (arith, slots-others ns cells hours n has)
  layer-there j h false = omega (arith, slots-others ns cells hours n has)

  -- its test
  pub test_at : (j : ℕ) → j < length (guard_at (layers_of ns cells) n (spot_of ns n)).slots → get_or (tests_of ns hours n) j (still_open (window_at [])) ≡ still_open (slot_windows j)
  unfolding window_at
  test_at j h =
      let i = (spot_of ns n).layer in
      get_or-map still_open (without i (layer_hours ns hours)) j (window_at [])
      ∙ ap still_open (others-at i (layer_hours ns hours) j (window_at []) ∙ fun_ext (λ p. window-layer ns hours (slot_layer i j) p (window_at []) (layer-there j h (ltb j i))))

  -- a candidate of the slot at j is a rectangle of the plan
  candidate-there : Framed ns cells → (j : ℕ) → j < length (guard_at (layers_of ns cells) n (spot_of ns n)).slots → (p : ℕ)
      → p < size_in (drop j (guard_at (layers_of ns cells) n (spot_of ns n)).slots) → sum (take (slot_layer (spot_of ns n).layer j) ns) + p < count cells
  candidate-there frame j h p k =
      let i = (spot_of ns n).layer in
      let ls = layers_of ns cells in
      let l = slot_layer i j in
      let own = has-layer ls i (spot_of ns n).place has in
      let size = slot-size (rect_of ls (spot_of ns n)).left i ls own j (omega (arith, h, slots-others ns cells hours n has, layers-long ns cells)) in
      omega (arith, number_small ns l p (omega (arith, k, size, size_of ns cells l)), frame.whole)

  guard-idle : Framed ns cells → WholeWeek cells hours → Idle whole_week (guard_at (layers_of ns cells) n (spot_of ns n)).slots (tests_of ns hours n)
  guard-idle frame f =
      idle-at whole_week (guard_at (layers_of ns cells) n (spot_of ns n)).slots (tests_of ns hours n) (still_open (window_at [])) (tests-long ns cells hours n has)
      (λ j h p k. ap (λ (t : Window → ℕ → Option Window). t whole_week p) (test_at j h) ∙ week-open (slot_windows j p) (f _ (candidate-there frame j h p k)))

-- the timed walk is the old one where every window is the whole week
pub week-walk : (ns : List ℕ) (cells : List ℤ) (hours : List ℕ) → Framed ns cells → WholeWeek cells hours
    → map old_probe (timed_walk_of ns cells hours) ≡ walk_of ns cells
unfolding walk_of timed_walk_of window_at
week-walk ns cells hours frame f =
    narrowed-old whole_week (λ n. guard_at (layers_of ns cells) n (spot_of ns n)) (window_at hours) (tests_of ns hours)
    (all-of-mem (sweep_order cells) (λ n m. (f n (all-at (sweep-is cells).below m), guard-idle ns cells hours n (all-at (plan-has ns cells frame.whole) m) frame f)))

-- the timed walk's probes are, by name, some of the old one's
pub timed-sub : (ns : List ℕ) (cells : List ℤ) (hours : List ℕ) → Sublist (map name_of (timed_walk_of ns cells hours)) (map name_of (walk_of ns cells))
unfolding walk_of timed_walk_of
timed-sub ns cells hours = narrowed-sub (λ n. guard_at (layers_of ns cells) n (spot_of ns n)) (window_at hours) (tests_of ns hours) (sweep_order cells)

pub timed-less : (ns : List ℕ) (cells : List ℤ) (hours : List ℕ) → length (timed_walk_of ns cells hours) ≤ length (walk_of ns cells)
timed-less ns cells hours =
    omega (arith, sub-short (timed-sub ns cells hours), length-map (timed_walk_of ns cells hours) name_of, length-map (walk_of ns cells) name_of)
