-- Laws of two runs of bytes that are put one behind the other.
use mathlib.Core.Path.{◌≡◌, ◌∙◌}
use mathlib.Core.List.{List, ◌++◌}
use Prim.Native.Nat.{ℕ, ◌+◌}
use native.Mathlib.Omega.{arith}
use lib.ListN.{length, set, length-append, length-set}
use Rattle.lists.specs.inner.Stores.{Put}
use Rattle.lists.proofs.Stores.{Left, left-all, left-put, left-last, left-room, put-length}
use Rattle.printing.specs.inner.Parts.{FitsAt}

module _ (buf : List ℕ) (at : ℕ) (xs ys : List ℕ) where
  -- where there is room for both, there is for the first
  pub room-first : FitsAt buf at (xs ++ ys) → FitsAt buf at xs
  room-first h = record { fits = omega (arith, h.fits, length-append xs ys) }

  pub room-front : (whole : List ℕ) → FitsAt buf at whole → whole ≡ xs ++ ys → FitsAt buf at xs
  room-front whole h e = room-first (rw e at h)

  module _ (mid : List ℕ) (m : ℕ) (whole : List ℕ) where
    -- and, behind it, for the second
    pub room-second : FitsAt buf at whole → Put buf at xs mid m → whole ≡ xs ++ ys → FitsAt mid m ys
    room-second h p e =
        let h' = rw e at h.fits in
        record { fits = omega (arith, length-append xs ys, p.place, put-length buf mid xs at m p) }

    -- both are put
    pub put_both : (last : List ℕ) (r : ℕ) → Put buf at xs mid m → Put mid m ys last r → whole ≡ xs ++ ys → Put buf at whole last r
    put_both last r p q e = rw e (left-last _ _ _ _ _ ys _ _ q (left-put _ _ _ _ _ xs _ _ _ p (left-all _ _ _)))

-- bytes that are the same, however they are made
pub put_same : (buf : List ℕ) (at : ℕ) (xs whole last : List ℕ) (r : ℕ) → Put buf at xs last r → whole ≡ xs → Put buf at whole last r
put_same buf at xs whole last r p e = rw e p

-- a byte and then others leave the buffer as long as it was
pub first-length : (buf last cells : List ℕ) (at r b : ℕ) → Put (set buf at b) (at + 1) cells last r → length last ≡ length buf
first-length buf last cells at r b p = put-length _ _ _ _ _ p ∙ length-set buf at b

-- where the whole has room, so has the first of what is left
pub room-left : (first : List ℕ) (start : ℕ) (whole buf : List ℕ) (at : ℕ) (cells rest : List ℕ) → FitsAt first start whole → Left first start whole buf at (cells ++ rest) → FitsAt buf at cells
room-left first start whole buf at cells rest h l = record { fits = left-room first start whole buf at cells rest h.fits l }
