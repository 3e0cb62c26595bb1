-- Laws of strips: what is sound, and that a strip is met exactly where some value lies in both.
use mathlib.Core.Path.{◌≡◌, refl}
use mathlib.Core.Bool.{true}
use mathlib.Core.Logic.{◌⊎◌, inl, inr}
use lib.Ieee.{Float, le}
use lib.Ieee.Bits.{is_true}
use Rattle.lists.specs.Lists.{Tells}
use Rattle.lists.proofs.Tests.{tells, both, and-true}
use Rattle.floats.specs.Values.{finite}
use Rattle.floats.specs.Theorems.{AtMost}
use Rattle.floats.proofs.Values.{so, le_trans, le_total, le_refl}
use Rattle.survey.specs.declared.Strip.{Strip}
use Rattle.survey.specs.declared.Strip.TheVariants.{Free, From, To, Between}
use Rattle.survey.specs.Strips.{sound_strip, meets_strip}
use Rattle.survey.specs.Theorems.{InStrip, Meets, Ordered, SoundStops}
use Rattle.survey.proofs.Covers.{ordered→, →ordered}

-- the test of 21
pub stopped : (s : Strip) → Tells (SoundStops s) (sound_strip s)
stopped Free = tells true (λ e. tt) (λ h. refl)
stopped (From a) = tells (finite a) (so (finite a)) (is_true (finite a))
stopped (To b) = tells (finite b) (so (finite b)) (is_true (finite b))
stopped (Between a b) = tells _ (ordered→ a b) (→ordered a b)

-- ---- meeting
module _ (low high : Float) (o : Ordered low high) where
  low-in : (s : Strip) → InStrip s low → Meets s low high
  low-in s h = record { value = low; is_finite = o.low_finite; from_low = le_refl low o.low_finite; to_high = o.order; in_strip = h }

  pub meets→ : (s : Strip) → SoundStops s → meets_strip s low high ≡ true → Meets s low high
  meets→ Free k e = low-in Free tt
  meets→ (From a) k e = record { value = high; is_finite = o.high_finite; from_low = o.order; to_high = le_refl high o.high_finite; in_strip = so (le a high) e }
  meets→ (To b) k e = low-in (To b) (so (le low b) e)
  meets→ (Between a b) k e =
      let h = both (le a high) (le low b) e in
      go (so (le a high) h.0) (so (le low b) h.1) (le_total a low k.low_finite o.low_finite)
    where
      -- the value is the greater of low and the lower stop
      go : AtMost a high → AtMost low b → AtMost a low ⊎ AtMost low a → Meets (Between a b) low high
      go p q (inl h) = low-in (Between a b) (h, q)
      go p q (inr h) = record { value = a; is_finite = k.low_finite; from_low = h; to_high = p; in_strip = (le_refl a k.low_finite, k.order) }

  pub →meets : (s : Strip) → SoundStops s → Meets s low high → meets_strip s low high ≡ true
  →meets Free k m = refl
  →meets (From a) k m = is_true (le a high) (le_trans a m.value high k m.is_finite o.high_finite m.in_strip m.to_high)
  →meets (To b) k m = is_true (le low b) (le_trans low m.value b o.low_finite m.is_finite k m.from_low m.in_strip)
  →meets (Between a b) k m =
      and-true (le a high) (le low b) (is_true (le a high) (le_trans a m.value high k.low_finite m.is_finite o.high_finite m.in_strip.0 m.to_high))
      (is_true (le low b) (le_trans low m.value b o.low_finite m.is_finite k.high_finite m.from_low m.in_strip.1))
