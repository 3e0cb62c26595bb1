-- What the call answers, in each of its cases.
use mathlib.Core.Path.{◌≡◌, refl, sym}
use mathlib.Core.List.{List, [], ◌∷◌}
use mathlib.Core.Bool.{Bool, true, false, ◌&&◌}
use Prim.Native.Nat.{ℕ, zero, suc, ◌*◌, ◌%◌, ◌≤◌, ◌<◌}
use native.Mathlib.Omega.{arith}
use lib.Dec.{eqb}
use lib.IntN.{ℤ}
use lib.ListN.{length}
use lib.Ieee.{Float}
use borrow.Author.Tests.{eq-eqb, ne_eqb, le-leb, lt-leb}
use Rattle.lists.proofs.Tests.{both}
use Rattle.plan.specs.Causes.{unless}
use Rattle.plan.specs.Limits.{most_size}
use Rattle.plan.proofs.Plan.{or-else-zero, unless-zero}
use Rattle.lists.specs.inner.Stores.{Put}
use Rattle.lists.proofs.Stores.{put-start}
use Rattle.survey.specs.declared.Corners.{Corners}
use Rattle.survey.specs.declared.Strip.{Strip}
use Rattle.std.specs.Prelude.{Result, Ok, Err}
use Rattle.survey.specs.Strips.{sound_strip}
use Rattle.survey.specs.Records.{records, all_sound, cover_cells}
use Rattle.survey.specs.CoverCall.{input_cause, kept, cover_cause, layer_of, cover_answer, cover_after, cover_values}
use Rattle.survey.specs.inner.Puts.{LayerFits}

-- four cells a record
pub cells-long : (cs : List Corners) → length (cover_cells cs) ≡ 4 * length cs
cells-long [] = refl
cells-long (c ∷ cs) = omega (arith, cells-long cs)

module _ (across upward : Strip) (corners : List Float) where
  -- ---- 21 and 20
  pub across-bad : sound_strip across ≡ false → 21 ≡ input_cause across upward corners
  unfolding input_cause
  across-bad e = rw e

  module _ (e : sound_strip across ≡ true) where
    pub upward-bad : sound_strip upward ≡ false → 21 ≡ input_cause across upward corners
    unfolding input_cause
    upward-bad f = rw (e, f)

    module _ (f : sound_strip upward ≡ true) where
      pub length-bad : (length corners % 4 ≡ 0 → ⊥) → 20 ≡ input_cause across upward corners
      unfolding input_cause
      length-bad n = rw (e, f, ne_eqb (length corners % 4) 0 n)

      pub records-tell : (t : Bool) → length corners % 4 ≡ 0 → t ≡ all_sound (records corners) → unless t 20 ≡ input_cause across upward corners
      unfolding input_cause
      records-tell t n s = rw (e, f, eq-eqb (length corners % 4) 0 n, s)

  -- ---- the whole call
  module _ (cells : List ℤ) where
    abbrev Answered : Result ℕ ℕ → List ℤ → Type 0
    Answered r after =
        let told = cover_answer across upward corners (length cells) in
        (r ≡ told) × ((cover_values r ≡ cover_values told) × (((cover_values r).number ≡ cover_cause across upward corners (length cells)) × (after ≡ cover_after across upward corners cells)))

    refused : (cause : ℕ) → (cause ≡ 0 → ⊥) → cover_cause across upward corners (length cells) ≡ cause → Answered (Err cause) cells
    unfolding cover_answer cover_after
    refused zero n e = absurd (n refl)
    refused (suc cause) n e = rw e (refl, (refl, (refl, refl)))

    pub input-bad : (cause : ℕ) → (cause ≡ 0 → ⊥) → cause ≡ input_cause across upward corners → Answered (Err cause) cells
    unfolding cover_cause
    input-bad zero n e = absurd (n refl)
    input-bad (suc cause) n e = refused (suc cause) n (rw (sym e))

    module _ (good : 0 ≡ input_cause across upward corners) (n : ℕ) (counted : n ≡ length (kept across upward corners)) where
      records-good : all_sound (records corners) ≡ true
      unfolding input_cause
      records-good =
          let h = or-else-zero (unless (sound_strip across && sound_strip upward) 21) _ (sym good) in
          (both (eqb (length corners % 4) 0) (all_sound (records corners)) (unless-zero _ 19 h.1)).1

      pub too_many : most_size < n → Answered (Err 2) cells
      unfolding cover_cause
      too_many h = refused 2 (λ z. omega arith) (rw (sym good, sym counted, lt-leb n most_size h))

      pub too_few : n ≤ most_size → length cells < 4 * n → Answered (Err 11) cells
      unfolding cover_cause
      too_few h k = refused 11 (λ z. omega arith) (rw (sym good, sym counted, le-leb n most_size h, lt-leb (4 * n) (length cells) k))

      module _ (few : n ≤ most_size) (room : 4 * n ≤ length cells) where
        pub layer_fits : LayerFits across upward corners cells
        layer_fits = record { sound = records-good; room = omega (arith, cells-long (kept across upward corners)) }

        pub covered : (last : List ℤ) (r : ℕ) → Put cells 0 (layer_of across upward corners) last r → Answered (Ok n) last
        unfolding cover_cause cover_answer cover_after
        covered last r p =
            let e : cover_cause across upward corners (length cells) ≡ 0 = rw (sym good, sym counted, le-leb n most_size few, le-leb (4 * n) (length cells) room) in
            let w = put-start cells last (layer_of across upward corners) r (omega (arith, cells-long (kept across upward corners))) p in
            rw (e, counted) (refl, (refl, (refl, w)))
