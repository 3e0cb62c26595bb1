-- What the checks and the class call answer, in each of their cases.
use mathlib.Core.Path.{◌≡◌, refl, ap}
use mathlib.Core.List.{List}
use mathlib.Core.Bool.{Bool, true, false}
use Prim.Native.Nat.{ℕ, zero, suc, ◌≤◌, ◌<◌}
use lib.IntN.{ℤ}
use lib.Dec.{leb}
use borrow.Author.Tests.{le-leb, lt-leb, leb-true}
use Rattle.plan.specs.declared.Shape.{Shape}
use Rattle.plan.specs.Causes.{unless, ◌or_else◌}
use Rattle.plan.specs.Plan.{Layer, layers_of, sizes_of, layers, plan_cause, Typed, Sound}
use Rattle.plan.proofs.Plan.{or-else-zero, unless-zero}
use Rattle.rows.specs.declared.Ground.{Ground}
use Rattle.rows.specs.inner.Grounds.{ground_of}
use Rattle.rows.proofs.Answers.{ground-none, ground-some}
use Rattle.std.specs.Prelude.{Option, Some, None, Ok, Err}
use Rattle.crossings.specs.Crossings.{class_in}
use Rattle.crossings.specs.ClassCall.{segmented, unwidened, crossing_cause, class_call}
use Rattle.crossings.specs.inner.Ends.{class_told}

-- ---- the cause
module _ (s : Shape) (cells : List ℤ) where
  pub cause-plan : (n : ℕ) → n ≡ plan_cause s cells → (n ≡ 0 → ⊥) → n ≡ crossing_cause s cells
  unfolding crossing_cause
  cause-plan zero e h = absurd (h refl)
  cause-plan (suc n) e h = rw (← e)

  module _ (sound : plan_cause s cells ≡ 0) where
    pub cause-layers : s.k < 3 → 15 ≡ crossing_cause s cells
    unfolding crossing_cause
    cause-layers h = rw (sound, lt-leb 3 s.k h)

    module _ (h : 3 ≤ s.k) where
      pub cause-margins : false ≡ unwidened s.margins s.k → 16 ≡ crossing_cause s cells
      unfolding crossing_cause
      cause-margins e = rw (sound, le-leb 3 s.k h, ← e)

      pub cause-segments : true ≡ unwidened s.margins s.k → (t : Bool) → t ≡ segmented (layers_of (sizes_of s) cells) → unless t 16 ≡ crossing_cause s cells
      unfolding crossing_cause
      cause-segments f t e = rw (sound, le-leb 3 s.k h, ← f, e)

-- what the checks let through
pub cause-sound : (s : Shape) (cells : List ℤ) → Typed s → crossing_cause s cells ≡ 0 → Sound s cells
unfolding crossing_cause
cause-sound s cells t e = record { typed = t; passed = (or-else-zero (plan_cause s cells) _ (or-else-zero (plan_cause s cells or_else unless (leb 3 s.k) 15) _ e).0).0 }

pub cause-three : (s : Shape) (cells : List ℤ) → crossing_cause s cells ≡ 0 → 3 ≤ s.k
unfolding crossing_cause
cause-three s cells e = leb-true 3 s.k (unless-zero (leb 3 s.k) 14 (or-else-zero (plan_cause s cells) _ (or-else-zero (plan_cause s cells or_else unless (leb 3 s.k) 15) _ e).0).1)

-- ---- the answer
module _ (ls : List Layer) (row : List ℕ) where
  pub told_none : None ≡ ground_of ls row → None ≡ class_told ls row
  unfolding class_told
  told_none e = rw (ground-none ls row e)

  pub told-class : (g : Ground) → Some g ≡ ground_of ls row → (c : ℕ) → c ≡ class_in ls row → Some c ≡ class_told ls row
  unfolding class_told
  told-class g e c q = rw ((ground-some ls row g e).0, q)

module _ (s : Shape) (cells : List ℤ) (row : List ℕ) where
  pub class-refused : (n : ℕ) → n ≡ crossing_cause s cells → (n ≡ 0 → ⊥) → Err n ≡ class_call s cells row
  unfolding class_call
  class-refused zero e h = absurd (h refl)
  class-refused (suc n) e h = rw (← e)

  pub class-accepted : (r : Option ℕ) → crossing_cause s cells ≡ 0 → r ≡ class_told (layers s cells) row → Ok r ≡ class_call s cells row
  unfolding class_call class_told
  class-accepted r h e = rw h (ap Ok e)
