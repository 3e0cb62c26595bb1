-- What the commands say as a whole: of a text by the laws of texts, of a plan by their definitions, of small surveys as these compute.
use mathlib.Core.Path.{◌≡◌, refl}
use mathlib.Core.Logic.{◌⊎◌, inl, inr}
use mathlib.Core.List.{List}
use Prim.Native.Nat.{ℕ, suc, ◌≤◌, ◌<◌}
use native.Mathlib.Omega.{arith}
use lib.IntN.{ℤ}
use lib.ListN.{length}
use lib.Ieee.{of_bits, of_int, le}
use borrow.Author.Tests.{le-leb, lt-leb}
use Rattle.lists.proofs.Tests.{total}
use Rattle.geometry.specs.Rectangles.{held, between, nonempty}
use Rattle.geometry.specs.declared.Rect.{Rect}
use Rattle.plan.specs.declared.Shape.{Shape}
use Rattle.plan.specs.Causes.{Check, fails, passes, Passed}
use Rattle.plan.specs.Limits.{most_cells}
use Rattle.plan.specs.Plan.{Sound}
use Rattle.decimal.specs.Numerals.{decimal, numeral, size}
use Rattle.text.specs.Plans.{text_of}
use Rattle.text.specs.Reader.{read_cause}
use Rattle.text.specs.Theorems.{Formed, PlanText}
use Rattle.text.proofs.Text.{measured}
use Rattle.text.proofs.Theorems.{shape-back, cells-back, read-causes, exactly}
use Rattle.floats.specs.Values.{floor_of, ceil_of}
use Rattle.survey.specs.Records.{corners_at, cover_of, sound_record, kept_by}
use Rattle.survey.specs.CoverCall.{input_cause, cover_cause}
use Rattle.outcomes.specs.Outcomes.{Outcome, done, refused}
use Rattle.listing.specs.Plans.{text_cause, on_plan}
use Rattle.listing.specs.Classes.{plan_classes}
use Rattle.listing.specs.Hours.{timed_said, plan_hours}
use Rattle.listing.specs.Cover.{float_at, corners_said, cover_said}
use Rattle.listing.specs.Whole.{TextSaid, ClassesSaid, HoursSaid, CoverCalled, CoverSaid, Whole}

module _ (t : List ℕ) where
  causes : Check 13 (length t ≤ 65536) (Check 9 (Formed t) (Check 10 (PlanText t) Passed)) (text_cause t)
  unfolding text_cause
  causes = size_of (total (length t) 65536)
    where
      same : length t ≤ 65536 → (n : ℕ) → read_cause most_cells t ≡ n → text_cause t ≡ n
      same h n e = rw (le-leb (length t) 65536 h) e

      whole : length t ≤ 65536 → PlanText t → text_cause t ≡ 0
      whole h p = let m = measured p.shape p.plan p.sound in same h 0 ((exactly most_cells t).1 (p, omega (arith, m.whole, m.few)))

      read : length t ≤ 65536 → Check 9 (Formed t) (Check 10 (PlanText t) (Check 11 ((p : PlanText t) → length p.plan ≤ most_cells) Passed)) (read_cause most_cells t)
          → Check 9 (Formed t) (Check 10 (PlanText t) Passed) (text_cause t)
      read h (fails e x) = fails (same h 9 e) x
      read h (passes f (fails e x)) = passes f (fails (same h 10 e) x)
      read h (passes f (passes p c)) = passes f (passes p (whole h p))

      size_of : (length t ≤ 65536) ⊎ (65536 < length t) → Check 13 (length t ≤ 65536) (Check 9 (Formed t) (Check 10 (PlanText t) Passed)) (text_cause t)
      size_of (inl h) = passes h (read h (read-causes most_cells t))
      size_of (inr h) = fails (rw (lt-leb (length t) 65536 h)) (λ l. omega arith)

refusal : (say : Shape → List ℤ → Outcome) (t : List ℕ) (n : ℕ) → text_cause t ≡ suc n → on_plan say t ≡ refused (suc n)
unfolding on_plan
refusal say t n e = rw e

planned : (say : Shape → List ℤ → Outcome) (s : Shape) (cells : List ℤ) → Sound s cells → length (text_of s cells) ≤ 65536 → on_plan say (text_of s cells) ≡ say s cells
unfolding on_plan text_cause
planned say s cells sound h =
    let p : PlanText (text_of s cells) = record { shape = s; plan = cells; sound = sound; text = refl } in
    let m = measured s cells sound in
    let e : read_cause most_cells (text_of s cells) ≡ 0 = (exactly most_cells (text_of s cells)).1 (p, omega (arith, m.whole, m.few)) in
    rw (le-leb (length (text_of s cells)) 65536 h, e, shape-back s cells sound, cells-back s cells sound)

texts : TextSaid
texts = record { causes = causes; refusal = refusal; planned = planned }

classes : (s : Shape) (cells : List ℤ) → ClassesSaid s cells
unfolding plan_classes done
classes s cells = record { done = λ e. rw e; refused = λ n e. rw e }

hours : (s : Shape) (cells : List ℤ) (windows : List ℕ) → HoursSaid s cells windows
unfolding plan_hours timed_said done
hours s cells windows = record { done = λ e f. rw (e, f); wrong = λ r e. rw e; refused = λ n e f. rw (e, f) }

called : (stops : Rect) (given : ℕ) (t : List ℕ) → CoverCalled stops given t
unfolding corners_said cover_said done
called stops given t =
    record {
      long = λ h. rw (lt-leb (length t) 65536 h);
      done = λ h e. rw (le-leb (length t) 65536 h, e);
      refused = λ n h e. rw (le-leb (length t) 65536 h, e);
    }

covers : CoverSaid
unfolding float_at corners_said cover_said input_cause cover_cause corners_at cover_of sound_record kept_by floor_of ceil_of decimal numeral size done of_bits of_int le held between nonempty
covers = record {
  free = refl;
  left = refl;
  bottom = refl;
  right = refl;
  top = refl;
  across = refl;
  upward = refl;
  left_over = refl;
  disorder = refl;
}

pub whole : Whole
whole = record { texts = texts; classes = classes; hours = hours; called = called; covers = covers }
