-- The promises on covers, strips and the call hold.
use mathlib.Core.Path.{◌≡◌, refl, sym, ap, subst}
use mathlib.Core.List.{List}
use mathlib.Core.Logic.{◌↔◌}
use Prim.Native.Nat.{ℕ, ◌+◌, ◌*◌}
use native.Mathlib.Omega.{arith}
use lib.ListN.{length, get_or}
use lib.IntN.{pos, neg_ℤ}
use lib.Signed.{◌≤ℤ◌}
use lib.Ieee.{Float, nan, le, of_bits}
use Rattle.geometry.specs.declared.Rect.{Rect}
use Rattle.geometry.specs.Rectangles.{held, between, nonempty}
use Rattle.geometry.specs.Theorems.{Ranged}
use Rattle.geometry.proofs.Integers.{zarith}
use Rattle.geometry.proofs.Machine.{rect-eq}
use Rattle.floats.specs.Values.{exact, floor_of, ceil_of}
use Rattle.floats.proofs.Values.{floor-is, ceil-is, floor-from, ceil-from, le_trans, exact-back, exact-finite}
use Rattle.floats.specs.Theorems.{Finite}
use Rattle.survey.specs.declared.Corners.{Corners}
use Rattle.survey.specs.Records.{corners_at, cover_of, sound_record, kept_by}
use Rattle.survey.specs.CoverCall.{input_cause, cover_cause, cover_after}
use Rattle.survey.specs.Theorems.{Contains, IsCover, Ordered, Surveys}
use Rattle.survey.proofs.Keeping.{kept_at}
use Rattle.survey.proofs.Causes.{cover-checks}
use Rattle.survey.proofs.Layers.{accepted-is, plan-is, refused-is}

-- ---- covers
module _ (c : Corners) (l : Finite c.left) (b : Finite c.bottom) (r : Finite c.right) (t : Finite c.top) where
  cover-is : IsCover c (cover_of c)
  unfolding cover_of
  cover-is = record {
    contains = record {
      left = (floor-is c.left l).below;
      bottom = (floor-is c.bottom b).below;
      right = (ceil-is c.right r).above;
      top = (ceil-is c.top t).above;
    };
    smallest = λ s h. record {
      left = (floor-is c.left l).greatest s.left h.left;
      bottom = (floor-is c.bottom b).greatest s.bottom h.bottom;
      right = (ceil-is c.right r).least s.right h.right;
      top = (ceil-is c.top t).least s.top h.top;
    };
  }

  cover-only : (s : Rect) → IsCover c s → s ≡ cover_of c
  cover-only s k =
      let x = k.smallest (cover_of c) cover-is.contains in
      let y = cover-is.smallest s k.contains in
      rect-eq (omega (zarith, x.left, y.left)) (omega (zarith, x.bottom, y.bottom)) (omega (zarith, x.right, y.right)) (omega (zarith, x.top, y.top))

  cover-iff : (s : Rect) → IsCover c s ↔ (s ≡ cover_of c)
  cover-iff s = (cover-only s, λ e. subst (IsCover c) (sym e) cover-is)

-- the cover of an extent in order is in order
cover-order : (low high : Float) → Ordered low high → floor_of low ≤ℤ ceil_of high
cover-order low high o =
    let l = exact (floor_of low) in
    let r = exact (ceil_of high) in
    let f = o.low_finite in
    let g = o.high_finite in
    exact-back (floor_of low) (ceil_of high)
    (le_trans l low r (exact-finite (floor_of low)) f (exact-finite (ceil_of high)) (floor-is low f).below (le_trans low high r f g (exact-finite (ceil_of high)) o.order (ceil-is high g).above))

-- the widest rectangle in range
abbrev ten_million : Rect
ten_million = record { left = neg_ℤ (pos 10000000); bottom = neg_ℤ (pos 10000000); right = pos 10000000; top = pos 10000000 }

reach-is : (c : Corners) → Ordered c.left c.right → Ordered c.bottom c.top → Ranged (cover_of c) ↔ Contains ten_million c
unfolding cover_of
reach-is c a u = (
  λ r. record {
    left = floor-from c.left ten_million.left a.low_finite r.left.0;
    bottom = floor-from c.bottom ten_million.bottom u.low_finite r.bottom.0;
    right = ceil-from c.right ten_million.right a.high_finite r.right.1;
    top = ceil-from c.top ten_million.top u.high_finite r.top.1;
  },
  λ h.
      let i = (cover-is c a.low_finite u.low_finite a.high_finite u.high_finite).smallest ten_million h in
      let l = i.left in
      let b = i.bottom in
      let r = i.right in
      let t = i.top in
      let x = cover-order c.left c.right a in
      let y = cover-order c.bottom c.top u in
      record { left = (l, omega zarith); bottom = (b, omega zarith); right = (omega zarith, r); top = (omega zarith, t); across = x; upward = y },
)

-- the four floats of a record
corners-are : (s : List Float) (i : ℕ) → let at : ℕ → Float = λ j. get_or s (4 * i + j) nan in
    corners_at s i ≡ record { left = at 0; bottom = at 1; right = at 2; top = at 3 }
unfolding corners_at
corners-are s i =
    let e : 4 * i ≡ 4 * i + 0 = omega arith in
    ap {B = Corners} (λ m. record { left = get_or s m nan; bottom = get_or s (4 * i + 1) nan; right = get_or s (4 * i + 2) nan; top = get_or s (4 * i + 3) nan }) e

pub surveys : Surveys
unfolding of_bits le floor_of ceil_of held between nonempty corners_at cover_of sound_record kept_by input_cause cover_cause cover_after
surveys = record {
  cover = λ c s l b r t. cover-iff c l b r t s;
  reach = reach-is;
  calls = λ across upward corners cells. record {
    causes = cover-checks across upward corners (length cells);
    kept = kept_at across upward corners;
    accepted = accepted-is across upward corners cells;
    refused = refused-is across upward corners cells;
  };
  plan = plan-is;
  told = λ n. (refl, refl);
  corners = corners-are;
  example = refl;
}
