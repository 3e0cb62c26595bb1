-- Laws of records and covers: the four corners of a sound record can be taken to 32 bits, so the code's test is 20's.
use mathlib.Core.Path.{◌≡◌, sym}
use mathlib.Core.Bool.{true, false, ◌&&◌}
use lib.IntN.{pos, neg_ℤ}
use lib.Signed.{◌≤ℤ◌}
use lib.Ieee.{Float, le}
use lib.Ieee.Fits.{and_i}
use lib.Ieee.Bits.{is_true}
use Rattle.lists.proofs.Tests.{clash, both, and-true, never_true}
use Rattle.geometry.specs.Rectangles.{in_range}
use Rattle.geometry.proofs.Integers.{zarith}
use Rattle.geometry.proofs.Rectangles.{ranged}
use Rattle.floats.specs.Values.{finite, exact, floor_of, ceil_of}
use Rattle.floats.specs.Theorems.{AtMost}
use Rattle.floats.specs.Parts.{near, farthest}
use Rattle.floats.proofs.Values.{so, le_trans, floor-from, ceil-from}
use Rattle.floats.proofs.Patterns.{near-finite}
use Rattle.survey.specs.declared.Corners.{Corners}
use Rattle.survey.specs.Strips.{ordered}
use Rattle.survey.specs.Records.{cover_of, sound_record}
use Rattle.survey.specs.Theorems.{Ordered}
use Rattle.survey.specs.inner.Puts.{spanned, Near}

-- ---- two floats in order
pub ordered→ : (low high : Float) → ordered low high ≡ true → Ordered low high
ordered→ low high e =
    let h = both (finite low && finite high) (le low high) e in
    let f = both (finite low) (finite high) h.0 in
    record { low_finite = so (finite low) f.0; high_finite = so (finite high) f.1; order = so (le low high) h.1 }

pub →ordered : (low high : Float) → Ordered low high → ordered low high ≡ true
→ordered low high o =
    and-true (finite low && finite high) (le low high) (and-true (finite low) (finite high) (is_true (finite low) o.low_finite) (is_true (finite high) o.high_finite))
    (is_true (le low high) o.order)

-- those that the code takes are finite ..
pub spanned-ordered : (low high : Float) → spanned low high ≡ true → ordered low high ≡ true
spanned-ordered low high e =
    let h = both (near low && near high) (le low high) e in
    let n = both (near low) (near high) h.0 in
    →ordered low high (record { low_finite = near-finite low (so (near low) n.0); high_finite = near-finite high (so (near high) n.1); order = so (le low high) h.1 })

-- .. and those that are not covered too far are taken
ordered-spanned : (low high : Float) → Ordered low high → neg_ℤ (pos farthest) ≤ℤ floor_of low → ceil_of high ≤ℤ pos farthest → spanned low high ≡ true
ordered-spanned low high o f c =
    and-true (near low && near high) (le low high)
    (and-true (near low) (near high) (is_true (near low) (and_i (le lo low) (le low hi) a (le_trans low high hi o.low_finite o.high_finite tt o.order b)))
    (is_true (near high) (and_i (le lo high) (le high hi) (le_trans lo low high tt o.low_finite o.high_finite a o.order) b)))
    (is_true (le low high) o.order)
  where
    lo : Float
    lo = exact (neg_ℤ (pos farthest))

    hi : Float
    hi = exact (pos farthest)

    a : AtMost lo low
    a = floor-from low (neg_ℤ (pos farthest)) o.low_finite f

    b : AtMost high hi
    b = ceil-from high (pos farthest) o.high_finite c

-- ---- sound records
pub record Sound (c : Corners) : Type 0 where
  pub across : Ordered c.left c.right
  pub upward : Ordered c.bottom c.top
  pub held : in_range (cover_of c) ≡ true

pub sound→ : (c : Corners) → sound_record c ≡ true → Sound c
unfolding sound_record
sound→ c e =
    let h = both (ordered c.left c.right && ordered c.bottom c.top) (in_range (cover_of c)) e in
    let o = both (ordered c.left c.right) (ordered c.bottom c.top) h.0 in
    record { across = ordered→ c.left c.right o.0; upward = ordered→ c.bottom c.top o.1; held = h.1 }

pub →sound : (c : Corners) → Sound c → sound_record c ≡ true
unfolding sound_record
→sound c s =
    and-true (ordered c.left c.right && ordered c.bottom c.top) (in_range (cover_of c))
    (and-true (ordered c.left c.right) (ordered c.bottom c.top) (→ordered c.left c.right s.across) (→ordered c.bottom c.top s.upward))
    s.held

-- ---- what the code tests
-- both pairs are taken
record Taken (c : Corners) : Type 0 where
  across : spanned c.left c.right ≡ true
  upward : spanned c.bottom c.top ≡ true

taken : (c : Corners) → sound_record c ≡ true → Taken c
unfolding cover_of
taken c e =
    let s = sound→ c e in
    let r = ranged (cover_of c) s.held in
    record {
      across = ordered-spanned c.left c.right s.across (omega (zarith, r.left)) (omega (zarith, r.right));
      upward = ordered-spanned c.bottom c.top s.upward (omega (zarith, r.bottom)) (omega (zarith, r.top));
    }

pub taken-near : (c : Corners) → spanned c.left c.right ≡ true → spanned c.bottom c.top ≡ true → Near c
taken-near c a u =
    let h = both (near c.left) (near c.right) (both (near c.left && near c.right) (le c.left c.right) a).0 in
    let v = both (near c.bottom) (near c.top) (both (near c.bottom && near c.top) (le c.bottom c.top) u).0 in
    record { left = so (near c.left) h.0; bottom = so (near c.bottom) v.0; right = so (near c.right) h.1; top = so (near c.top) v.1 }

pub sound-near : (c : Corners) → sound_record c ≡ true → Near c
sound-near c e = let t = taken c e in taken-near c t.across t.upward

-- a pair that is not taken
pub across-not : (c : Corners) → spanned c.left c.right ≡ false → false ≡ sound_record c
across-not c e = sym (never_true (sound_record c) (λ s. clash (taken c s).across e))

pub upward-not : (c : Corners) → spanned c.bottom c.top ≡ false → false ≡ sound_record c
upward-not c e = sym (never_true (sound_record c) (λ s. clash (taken c s).upward e))

-- then the cover decides
pub cover-decides : (c : Corners) → spanned c.left c.right ≡ true → spanned c.bottom c.top ≡ true → in_range (cover_of c) ≡ sound_record c
unfolding sound_record
cover-decides c a u = rw (spanned-ordered c.left c.right a, spanned-ordered c.bottom c.top u)
