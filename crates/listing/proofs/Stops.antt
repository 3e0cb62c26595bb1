-- Laws of the command `cover`: the strips of its stops, and what is said of bytes.
use mathlib.Core.Path.{◌≡◌, refl, ap, ◌∙◌}
use mathlib.Core.List.{List}
use mathlib.Core.Bool.{Bool, true, false}
use Prim.Native.Nat.{ℕ, ◌≤◌, ◌<◌}
use lib.IntN.{ℤ}
use lib.ListN.{length, take}
use lib.Ieee.{Float}
use borrow.Author.Tests.{le-leb, lt-leb}
use mir.Syntax.{w32}
use mir.Val.{SFits, to_z, of_z}
use mir.Facts.{to_z-of_z}
use Rattle.std.specs.Prelude.{Option}
use Rattle.lists.specs.inner.Stores.{Put}
use Rattle.geometry.specs.declared.Rect.{Rect}
use Rattle.survey.specs.declared.Strip.{Strip}
use Rattle.outcomes.specs.Outcomes.{refused}
use Rattle.listing.proofs.Floats.{stored-first}
use Rattle.listing.specs.inner.Parts.{stop_if, strip_between}
use Rattle.listing.specs.Cover.{strip_of, float_of, floats_in, across_of, upward_of, corners_said, cover_said}

-- ---- the strips of stops
strip-stops : (l u : Bool) (a b : Float) → strip_between (stop_if l a) (stop_if u b) ≡ strip_of l u a b
strip-stops false false a b = refl
strip-stops false true a b = refl
strip-stops true false a b = refl
strip-stops true true a b = refl

-- of whole numbers that are read back
pub strip-read : (l u : Bool) {y z : ℤ} → SFits w32 y → SFits w32 z → (lower upper : Option Float) → lower ≡ stop_if l (float_of (to_z w32 (of_z w32 y)))
    → upper ≡ stop_if u (float_of (to_z w32 (of_z w32 z))) → (s : Strip) → s ≡ strip_between lower upper → s ≡ strip_of l u (float_of y) (float_of z)
strip-read l u {y} {z} fy fz lower upper e f s g =
    let e' : lower ≡ stop_if l (float_of y) = e ∙ ap (λ (w : ℤ). stop_if l (float_of w)) (to_z-of_z fy) in
    let f' : upper ≡ stop_if u (float_of z) = f ∙ ap (λ (w : ℤ). stop_if u (float_of w)) (to_z-of_z fz) in
    let g' = rw (e', f') at g in
    g' ∙ strip-stops l u (float_of y) (float_of z)

-- ---- what is said of bytes
pub stored-said : (across upward : Strip) (t : List ℕ) (first last : List Float) (r : ℕ) → length t ≤ 65536 → length first ≡ 8192 → Put first 0 (floats_in t) last r
    → corners_said across upward (floats_in t) ≡ corners_said across upward (take r last)
stored-said across upward t first last r h l p = rw (stored-first t first last r h l p)

module _ (stops : Rect) (given : ℕ) (t : List ℕ) where
  pub cover-long : 65536 < length t → cover_said stops given t ≡ refused 13
  unfolding cover_said
  cover-long h = rw (lt-leb (length t) 65536 h)

  pub cover-corners : length t ≤ 65536 → (across upward : Strip) → across ≡ across_of stops given → upward ≡ upward_of stops given
      → cover_said stops given t ≡ corners_said across upward (floats_in t)
  unfolding cover_said
  cover-corners h across upward a u = rw (le-leb (length t) 65536 h, a, u)
