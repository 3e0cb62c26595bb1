-- `capi::overlay_cover_records`: number, count and cells are those of the call with the strips in cells.
use mathlib.Core.Path.{◌≡◌, refl, ap, ◌∙◌, subst₂}
use mathlib.Core.List.{List}
use lib.IntN.{ℤ}
use lib.ListN.{length}
use lib.Ieee.{Float}
use Rattle.survey.specs.declared.Strip.{Strip}
use Prim.Native.Nat.{ℕ}
use Rattle.std.specs.Prelude.{Result, Ok, Err}
use Rattle.plan.specs.declared.cause.Cause.{Cause}
use Rattle.plan.specs.Causes.{number_of, refusal, by_number}
use Rattle.text.specs.Writer.{length_of}
use Rattle.survey.specs.CoverCall.{CoverValues, cover_cause, cover_answer, cover_values, cover_after}
use Rattle.capi.proofs.overlay_cover_records.Goals as goal

-- what the call says of two strips, it says of equal ones
module _ (s : List Float) (cells last : List ℤ) (r : Result ℕ ℕ) where
  abbrev Covered : Strip → Strip → Type 0
  Covered a u =
      let told = cover_answer a u s (length cells) in
      (r ≡ told) × ((cover_values r ≡ cover_values told) × (((cover_values r).number ≡ cover_cause a u s (length cells)) × (last ≡ cover_after a u s cells)))

  covered-as : {a b u v : Strip} → a ≡ b → u ≡ v → Covered a u → Covered b v
  covered-as e f h = subst₂ Covered e f h

-- the number of its refusal, and how many it tells
number : (r : Result ℕ Cause) → refusal r ≡ (cover_values (by_number r)).number
number (Ok a) = refl
number (Err c) = refl

kept : (r : Result ℕ ℕ) → length_of r ≡ (cover_values r).kept
kept (Ok a) = refl
kept (Err c) = refl

pub returns : goal.returns
returns c =
    let k = c.cover_records-answer.ensures in
    let e = covered-as c.args.corners.now c.args.cells.now _ (by_number c.cover_records-answer.result) c.strip_in-across.ensures c.strip_in-upward.ensures (k.answer, (k.values, (k.number, k.buffer))) in
    (c.number_of.ensures ∙ number c.cover_records-answer.result ∙ e.1.1.0, c.size_in.ensures number_of ∙ kept (by_number c.cover_records-answer.result) ∙ ap (λ (v : CoverValues). v.kept) e.1.0, e.1.1.1)
