-- The causes of the call, check by check.
use mathlib.Core.Path.{◌≡◌, refl}
use mathlib.Core.List.{List}
use mathlib.Core.Bool.{Bool, true, false, ◌&&◌}
use Prim.Native.Nat.{ℕ, ◌*◌, ◌/◌, ◌%◌, ◌≤◌}
use native.Mathlib.Omega.{arith}
use lib.Dec.{eqb}
use lib.ListN.{length}
use lib.Ieee.{Float}
use borrow.Author.Tests.{eq-eqb, eqb-true}
use Rattle.lists.specs.Lists.{Tells}
use Rattle.lists.proofs.Tests.{both, and-true, tells, le-tells}
use Rattle.plan.specs.Causes.{unless, ◌or_else◌, Check, fails, passes, Passed}
use Rattle.plan.proofs.Causes.{check-last, check-held}
use Rattle.survey.specs.declared.Strip.{Strip}
use Rattle.survey.specs.Strips.{sound_strip}
use Rattle.survey.specs.Records.{corners_at, records, all_sound}
use Rattle.survey.specs.CoverCall.{input_cause, kept, cover_cause}
use Rattle.survey.specs.Theorems.{SoundStops, Recorded}
use Rattle.survey.proofs.Records.{sound-at, sound-all}
use Rattle.survey.proofs.Strips.{stopped}
use Rattle.survey.proofs.Keeping.{surveyed, sound-of}

-- ---- causes
-- four checks, one behind the other
four : {P Q R S : Type 0} {a b c d : Bool} → Tells P a → Tells Q b → Tells R c → Tells S d
    → Check 21 P (Check 20 Q (Check 2 R (Check 11 S Passed))) (unless a 21 or_else unless b 20 or_else unless c 2 or_else unless d 11)
four {a = false} p q r s = fails refl (p.if_false refl)
four {a = true} {b = false} p q r s = passes (p.if_true refl) (fails refl (q.if_false refl))
four {a = true} {b = true} {c = false} p q r s = passes (p.if_true refl) (passes (q.if_true refl) (fails refl (r.if_false refl)))
four {a = true} {b = true} {c = true} p q r s = passes (p.if_true refl) (passes (q.if_true refl) (passes (r.if_true refl) (check-last 11 0 s refl)))

-- a test passes where what it tells holds
pub tells-true : {P : Type 0} (t : Bool) → Tells P t → P → t ≡ true
tells-true true p h = refl
tells-true false p h = absurd (p.if_false refl h)

pub recorded : (corners : List Float) → Tells (Recorded corners) (eqb (length corners % 4) 0 && all_sound (records corners))
recorded corners =
    tells _
    (λ e.
    let h = both (eqb (length corners % 4) 0) (all_sound (records corners)) e in
    let z = eqb-true (length corners % 4) 0 h.0 in
    ((length corners / 4, omega arith), λ i k. surveyed (corners_at corners i) (sound-at corners i h.1 k)))
    (λ h. and-true (eqb (length corners % 4) 0) (all_sound (records corners)) (eq-eqb (length corners % 4) 0 (whole h.0.0 h.0.1)) (sound-all corners (λ i k. sound-of (corners_at corners i) (h.1 i k))))
  where
    whole : (n : ℕ) → length corners ≡ 4 * n → length corners % 4 ≡ 0
    whole n e = omega arith

-- the call's checks, where `room` cells are lent
module _ (across upward : Strip) (corners : List Float) (room : ℕ) where
  abbrev taken : ℕ
  taken = length (kept across upward corners)

  stops : Tells (SoundStops across × SoundStops upward) (sound_strip across && sound_strip upward)
  stops =
      tells _ (λ e. let h = both (sound_strip across) (sound_strip upward) e in ((stopped across).if_true h.0, (stopped upward).if_true h.1))
      (λ h. and-true (sound_strip across) (sound_strip upward) (tells-true (sound_strip across) (stopped across) h.0) (tells-true (sound_strip upward) (stopped upward) h.1))

  pub cover-checks : Check 21 (SoundStops across × SoundStops upward) (Check 20 (Recorded corners) (Check 2 (taken ≤ 512) (Check 11 (4 * taken ≤ room) Passed))) (cover_cause across upward corners room)
  unfolding cover_cause input_cause
  cover-checks = four stops (recorded corners) (le-tells taken 512) (le-tells (4 * taken) room)

  -- what holds of an accepted call
  pub cover-held : cover_cause across upward corners room ≡ 0 → Recorded corners × (taken ≤ 512) × (4 * taken ≤ room)
  cover-held e =
      let a = check-held 21 (omega arith) e cover-checks in
      let b = check-held 20 (omega arith) e a.1 in
      let c = check-held 2 (omega arith) e b.1 in
      (b.0, c.0, (check-held 11 (omega arith) e c.1).0)
