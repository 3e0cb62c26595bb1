-- Theorem: the timed walk of a plan is the old one narrowed by its windows, and its rows are the timed table, for every k (02, Q-12). Proved in
-- proofs/Theorems.antt.
use Rattle.std.specs.Prelude.{◌≡◌, ◌↔◌, ℕ, ◌+◌, ◌≤◌, ◌<◌, max, min, ℤ, length, get_or, take}
use mathlib.Core.List.{List, [], ◌∷◌, map, Memᴰ}
use Rattle.std.proofs.Math.Option.{some}
use Rattle.lists.specs.Lists.{All, Pairwise, Distinct, sum}
use Rattle.geometry.specs.declared.Rect.{Rect}
use Rattle.plan.specs.Plan.{count, layers_of}
use Rattle.plan.specs.Spots.{spot_of}
use Rattle.plan.specs.Frames.{Framed}
use Rattle.join.specs.Table.{table_of, Precedes}
use Rattle.search.specs.Traversal.{Slot, Guard, Probe, row_of}
use Rattle.search.specs.Paging.{rows_of}
use Rattle.search.specs.Names.{Stands, Sublist, name_of, old_probe}
use Rattle.walk.specs.Walk.{guard_at, walk_of, places_of}
use Rattle.walk.specs.Passes.{slot_layer}
use Rattle.walk.specs.Theorems.{no_slot, WalkHolds}
use Rattle.windows.specs.declared.Window.{Window}
use Rattle.windows.specs.Windows.{layer_hours, windows_at, hours_of}
use Rattle.windows.specs.Theorems.{window_in, Share}
use Rattle.timed.specs.Timed.{timed_guard, timed_walk_of, timed_table_of}

-- a slot of the old walk and of the timed one, in which v are the minutes that the windows so far share
pub record SlotNarrowed (old : Slot Rect) (new : Slot (Rect × Window)) (window : ℕ → Window) : Type 0 where
  pub size : new.size ≡ old.size
  -- "a trial passes only if the windows so far share a minute", the candidate's among them. What goes on behind a pass: what the old one hands on, and the
  -- minutes of v that are in the candidate's window too
  pub pass : (c d : Rect) (v w : Window) (p : ℕ) → let u = window p in
      (new.pass (c, v) p ≡ some (d, w))
      ↔ ((old.pass c p ≡ some d) × Share (v ∷ u ∷ []) × (w ≡ record { from = max v.from u.from; to = min v.to u.to }))

-- the guard with number n: it starts with its rectangle and its window, and each slot has the windows of its own layer
pub record GuardNarrowed (ns : List ℕ) (hours : List ℕ) (n : ℕ) (old : Guard Rect) (new : Guard (Rect × Window)) : Type 0 where
  pub number : new.number ≡ old.number
  pub start : new.start ≡ (old.start, window_in hours n)
  pub others : length new.slots ≡ length old.slots
  pub slots : (j : ℕ) → j < length old.slots
      → SlotNarrowed (get_or old.slots j no_slot) (get_or new.slots j no_slot) (λ p. window_in hours (sum (take (slot_layer (spot_of ns n).layer j) ns) + p))

-- "the rows whose windows also share a minute" and none else, each once, in the order of the table
pub record IsTimedTable (ns : List ℕ) (cells : List ℤ) (hours : List ℕ) (rows : List (List ℕ)) : Type 0 where
  pub lists : (row : List ℕ) → Memᴰ row rows ↔ (Memᴰ row (table_of ns cells) × Share (windows_at (layer_hours ns hours) row))
  pub once : Distinct rows
  pub ordered : Pairwise (Precedes (layers_of ns cells)) rows

-- every window is the whole week
abbrev pub WholeWeek : List ℤ → (hours : List ℕ) → Type 0
WholeWeek cells hours = (n : ℕ) → n < count cells → window_in hours n ≡ record { from = 0; to = 10080 }

-- the timed walk w and the timed table of a plan
pub record TimedHolds (ns : List ℕ) (cells : List ℤ) (hours : List ℕ) (w : List (Probe (Rect × Window))) (table : List (List ℕ)) : Type 0 where
  -- 01's words of a walk hold of it, with the guards of the old one, narrowed
  pub walk : WalkHolds (λ c. c.0) (timed_guard ns cells hours) (λ n. GuardNarrowed ns hours n (guard_at (layers_of ns cells) n (spot_of ns n))) ns cells w table
  -- the minutes of each row are those that the windows of its places share
  pub minutes : All (λ r. r.state.1 ≡ hours_of ns hours (places_of ns r)) (rows_of row_of w)
  -- 02's words of the timed run's rows hold of the table, and of no other list
  pub is_table : IsTimedTable ns cells hours table
  pub only_table : (rows : List (List ℕ)) → IsTimedTable ns cells hours rows → rows ≡ table
  -- it begins as the old one: a first trial has no windows to pass yet
  pub begins : take 1 (map name_of w) ≡ take 1 (map name_of (walk_of ns cells))
  -- by guard, chosen places and place tried, its trials are some of the old one's, in the same order: no more of them, and what its tickets name, the old one
  -- has
  pub some : Sublist (map name_of w) (map name_of (walk_of ns cells))
  pub no_longer : length w ≤ length (walk_of ns cells)
  pub trials : (g : ℕ) (chosen : List ℕ) (tried : ℕ) → Stands w g chosen tried → Stands (walk_of ns cells) g chosen tried
  -- windows of the whole week leave the walk as it was, trial by trial with what each yields, and the table
  pub week : WholeWeek cells hours → (map old_probe w ≡ walk_of ns cells) × (table ≡ table_of ns cells)

pub record TimedWalks : Type 0 where
  pub walks : (ns : List ℕ) (cells : List ℤ) (hours : List ℕ) → Framed ns cells
      → TimedHolds ns cells hours (timed_walk_of ns cells hours) (timed_table_of ns cells hours)
