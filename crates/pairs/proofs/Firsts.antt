-- The first pair in a list of rectangles, by their places in it, is what `first_pair` finds.
use mathlib.Core.Path.{◌≡◌, refl}
use mathlib.Core.List.{List, [], ◌∷◌}
use mathlib.Core.Bool.{Bool, true, false, cond}
use mathlib.Core.Logic.{◌⊎◌, inl, inr}
use Prim.Native.Nat.{ℕ, zero, suc, ◌+◌, ◌≤◌, ◌<◌}
use native.Mathlib.Omega.{arith}
use lib.Dec.{ltb}
use lib.ListN.{length, get_or}
use borrow.Author.Tests.{ltb-true, ltb-false}
use Rattle.lists.specs.Lists.{All, none_left, ◌and◌, Pairwise, done, ◌then◌}
use Rattle.lists.proofs.Lists.{all_get_d}
use Rattle.geometry.specs.declared.Rect.{Rect}
use Rattle.geometry.specs.Rectangles.{meets}
use Rattle.std.specs.Prelude.{Option, None}
use Rattle.pairs.specs.declared.Pair.{Pair}
use Rattle.pairs.specs.PairCall.{apart, apart_at, first_pair}

-- ---- one rectangle and those behind it
module _ (r d : Rect) where
  apart-before : (rs : List Rect) (j : ℕ) → j < length rs → j < apart_at r rs → meets r (get_or rs j d) ≡ true
  apart-before [] j l h = absurd (omega arith)
  apart-before (q ∷ qs) j l h = go (meets r q) refl j l h (apart-before qs)
    where
      go : (t : Bool) → meets r q ≡ t → (j : ℕ) → j < suc (length qs) → j < cond t (suc (apart_at r qs)) 0 → ((j : ℕ) → j < length qs → j < apart_at r qs → meets r (get_or qs j d) ≡ true)
          → meets r (get_or (q ∷ qs) j d) ≡ true
      go true e zero l h i = e
      go true e (suc j) l h i = i j (omega arith) (omega arith)
      go false e j l h i = absurd (omega arith)

  apart-here : (rs : List Rect) → apart_at r rs < length rs → meets r (get_or rs (apart_at r rs) d) ≡ false
  apart-here [] h = absurd (omega arith)
  apart-here (q ∷ qs) h = go (meets r q) refl h (apart-here qs)
    where
      go : (t : Bool) → meets r q ≡ t → cond t (suc (apart_at r qs)) 0 < suc (length qs) → (apart_at r qs < length qs → meets r (get_or qs (apart_at r qs) d) ≡ false)
          → meets r (get_or (q ∷ qs) (cond t (suc (apart_at r qs)) 0) d) ≡ false
      go true e k i = i (omega arith)
      go false e k i = e

  all_meet : (rs : List Rect) → length rs ≤ apart_at r rs → All (λ q. meets r q ≡ true) rs
  all_meet [] h = none_left
  all_meet (q ∷ qs) h = go (meets r q) refl h (all_meet qs)
    where
      go : (t : Bool) → meets r q ≡ t → suc (length qs) ≤ cond t (suc (apart_at r qs)) 0 → (length qs ≤ apart_at r qs → All (λ q. meets r q ≡ true) qs) → All (λ q. meets r q ≡ true) (q ∷ qs)
      go true e h i = ◌and◌ e (i (omega arith))
      go false e h i = absurd (omega arith)

-- ---- the first pair: places i and j of the list
pub record FirstAt (d : Rect) (rs : List Rect) (i j : ℕ) : Type 0 where
  pub order : i < j
  pub there : j < length rs
  pub apart : meets (get_or rs i d) (get_or rs j d) ≡ false
  pub earlier : (a b : ℕ) → a < b → b < length rs → (a < i) ⊎ ((a ≡ i) × (b < j)) → meets (get_or rs a d) (get_or rs b d) ≡ true

-- an answer for rectangles of layer n and later ones
pub data Found (d : Rect) (n : ℕ) (rs : List Rect) : Option Pair → Type 0 where
  none_apart : Pairwise (λ a b. meets a b ≡ true) rs → Found d n rs None
  apart_in : (i j a b : ℕ) → a ≡ n + i → b ≡ n + j → FirstAt d rs i j → Found d n rs (apart a b)

module _ (d r : Rect) (rs : List Rect) where
  -- it begins with the first rectangle
  first-here : apart_at r rs < length rs → FirstAt d (r ∷ rs) 0 (suc (apart_at r rs))
  first-here h = record { order = omega arith; there = omega arith; apart = apart-here r d rs h; earlier = earlier }
    where
      earlier : (a b : ℕ) → a < b → b < suc (length rs) → (a < 0) ⊎ ((a ≡ 0) × (b < suc (apart_at r rs))) → meets (get_or (r ∷ rs) a d) (get_or (r ∷ rs) b d) ≡ true
      earlier a b o l (inl z) = absurd (omega arith)
      earlier zero zero o l (inr z) = absurd (omega arith)
      earlier zero (suc b) o l (inr z) = apart-before r d rs b (omega arith) (omega (arith, z.1))
      earlier (suc a) b o l (inr z) = absurd (omega (arith, z.0))

  -- it begins behind it
  first-later : (i j : ℕ) → All (λ q. meets r q ≡ true) rs → FirstAt d rs i j → FirstAt d (r ∷ rs) (suc i) (suc j)
  first-later i j m f = record { order = omega (arith, f.order); there = omega (arith, f.there); apart = f.apart; earlier = earlier }
    where
      earlier : (a b : ℕ) → a < b → b < suc (length rs) → (a < suc i) ⊎ ((a ≡ suc i) × (b < suc j)) → meets (get_or (r ∷ rs) a d) (get_or (r ∷ rs) b d) ≡ true
      earlier a zero o l z = absurd (omega arith)
      earlier zero (suc b) o l z = all_get_d d m b (omega arith)
      earlier (suc a) (suc b) o l (inl z) = f.earlier a b (omega arith) (omega arith) (inl (omega arith))
      earlier (suc a) (suc b) o l (inr z) = f.earlier a b (omega arith) (omega arith) (inr (omega (arith, z.0), omega (arith, z.1)))

pub found : (d : Rect) (n : ℕ) (rs : List Rect) → Found d n rs (first_pair n rs)
found d n [] = none_apart done
found d n (r ∷ rs) = go (ltb (apart_at r rs) (length rs)) refl (found d (suc n) rs)
  where
    later : length rs ≤ apart_at r rs → {v : Option Pair} → Found d (suc n) rs v → Found d n (r ∷ rs) v
    later h (none_apart m) = none_apart (◌then◌ (all_meet r d rs h) m)
    later h (apart_in i j a b p q f) = apart_in (suc i) (suc j) a b (omega arith) (omega arith) (first-later d r rs i j (all_meet r d rs h) f)

    go : (t : Bool) → ltb (apart_at r rs) (length rs) ≡ t → Found d (suc n) rs (first_pair (suc n) rs) → Found d n (r ∷ rs) (cond t (apart n (suc n + apart_at r rs)) (first_pair (suc n) rs))
    go true e f = apart_in 0 (suc (apart_at r rs)) n (suc n + apart_at r rs) (omega arith) (omega arith) (first-here d r rs (ltb-true (apart_at r rs) (length rs) e))
    go false e f = later (ltb-false (apart_at r rs) (length rs) e) f
