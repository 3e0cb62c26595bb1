-- Laws of the place where a line ends: what the first byte 10 parts is the first line and what stands behind it.
use mathlib.Core.Path.{◌≡◌, refl, ap, ◌∙◌}
use mathlib.Core.List.{List, [], ◌∷◌}
use mathlib.Core.Bool.{cond}
use Prim.Native.Nat.{ℕ, ◌+◌, ◌-◌, ◌≤◌}
use native.Mathlib.Omega.{arith}
use lib.Dec.{eqb}
use lib.ListN.{length, take, drop, length-append, length-drop}
use lib.Seq.{take_at}
use Rattle.outcomes.specs.Texts.{behind_first}
use Rattle.outcomes.specs.inner.Places.{GoesOnAt}
use Rattle.checking.specs.Places.{first_line, after_line, EndsAt}
use Rattle.checking.proofs.Lines.{first-after}

after-same : (t : List ℕ) → behind_first 10 t ≡ after_line t
unfolding behind_first
after-same [] = refl
after-same (b ∷ t) = ap (cond (eqb b 10) t) (after-same t)

pub ends_at : (s : List ℕ) (at r : ℕ) → at ≤ length s → GoesOnAt 10 s at r → EndsAt s at r
ends_at s at r h g =
    let t = drop at s in
    let left : length (drop r s) ≡ length (after_line t) = ap length (g.rest ∙ after-same t) in
    let all : length t ≡ length (first_line t) + length (after_line t) = ap length (first-after t) ∙ length-append (first_line t) (after_line t) in
    let n : r ≡ at + length (first_line t) = omega (arith, left, all, g.inside, length-drop r s, length-drop at s) in
    let m : r - at ≡ length (first_line t) = omega arith in
    record {
      bytes = rw m (ap (take (length (first_line t))) (first-after t) ∙ take_at (first_line t) (after_line t) (length (first_line t)) refl);
      after = omega arith;
      inside = g.inside;
    }
