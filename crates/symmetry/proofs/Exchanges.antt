-- Two layers exchanged: one arrangement of all of them.
use mathlib.Core.Path.{◌≡◌, refl, sym, ap, ◌∙◌, subst}
use mathlib.Core.List.{List, [], ◌∷◌, map}
use mathlib.Core.Bool.{Bool, true, false, cond}
use mathlib.Core.Logic.{◌⊎◌, inl, inr}
use Prim.Native.Nat.{ℕ, zero, suc, ◌≤◌, ◌<◌}
use native.Mathlib.Omega.{arith}
use lib.Dec.{eqb}
use lib.ListN.{length, get_or, set, length-set, length-map, get_or-append}
use lib.Seq.{get_or-set_same, get_or-set_other, get_or-append_seam, ext_get_or}
use borrow.Author.Tests.{eqb-true, eqb-false, eq-eqb, ne_eqb}
use Rattle.lists.specs.Lists.{numbers}
use Rattle.lists.proofs.Tests.{total}
use Rattle.lists.proofs.Lists.{all_map, all_of_map, pairwise-of-map}
use Rattle.lists.proofs.Numbers.{numbers-below, numbers-long, numbers-distinct}
use Rattle.symmetry.specs.Plans.{exchanging}
use Rattle.symmetry.specs.Theorems.{Exchange}
use Rattle.symmetry.proofs.Places.{here-or-else}
use Rattle.symmetry.proofs.Arrangements.{map_at}

-- i for j, j for i, and every other place as it is
other : (i j m : ℕ) → ℕ
other i j m = cond (eqb m j) i (cond (eqb m i) j m)

other-first : (i j : ℕ) → other i j i ≡ j
unfolding other
other-first i j = go (eqb i j) refl
  where
    go : (t : Bool) → eqb i j ≡ t → cond t i (cond (eqb i i) j i) ≡ j
    go true e = eqb-true i j e
    go false e = rw (eq-eqb i i refl)

other-second : (i j : ℕ) → other i j j ≡ i
unfolding other
other-second i j = rw (eq-eqb j j refl)

other-else : (i j m : ℕ) → (m ≡ i → ⊥) → (m ≡ j → ⊥) → other i j m ≡ m
unfolding other
other-else i j m p q = rw (ne_eqb m j q, ne_eqb m i p)

-- what holds at i, at j and elsewhere holds everywhere
by_place : (i j : ℕ) (P : ℕ → Type 0) → P i → P j → ((m : ℕ) → (m ≡ i → ⊥) → (m ≡ j → ⊥) → P m) → (m : ℕ) → P m
by_place i j P p q r = here-or-else i P p (λ m n. here-or-else j (λ z. (z ≡ i → ⊥) → P z) (λ x. q) (λ z y x. r z x y) m n)

other-twice : (i j m : ℕ) → other i j (other i j m) ≡ m
other-twice i j =
    by_place i j (λ m. other i j (other i j m) ≡ m) (ap (other i j) (other-first i j) ∙ other-second i j) (ap (other i j) (other-second i j) ∙ other-first i j)
    (λ m p q. ap (other i j) (other-else i j m p q) ∙ other-else i j m p q)

number-at : (k m : ℕ) → m < k → get_or (numbers k) m 0 ≡ m
number-at zero m h = absurd (omega arith)
number-at (suc k) m h = go (total k m) (number-at k m)
  where
    go : (k ≤ m) ⊎ (m < k) → (m < k → get_or (numbers k) m 0 ≡ m) → get_or (numbers (suc k)) m 0 ≡ m
    go (inl l) f =
        let e : m ≡ k = omega arith in
        rw e (subst (λ (n : ℕ). get_or (numbers (suc k)) n 0 ≡ k) (numbers-long k) (get_or-append_seam (numbers k) k [] 0))
    go (inr l) f = get_or-append (numbers k) (k ∷ []) 0 m (omega (arith, numbers-long k)) ∙ f l

module _ (k i j : ℕ) (p : i < k) (q : j < k) where
  other-below : (m : ℕ) → m < k → other i j m < k
  other-below = by_place i j (λ m. m < k → other i j m < k) (λ h. omega (arith, other-first i j)) (λ h. omega (arith, other-second i j)) (λ m x y h. omega (arith, other-else i j m x y))

  places-long : length (exchanging k i j) ≡ k
  unfolding exchanging
  places-long = length-set (set (numbers k) i j) j i ∙ (length-set (numbers k) i j ∙ numbers-long k)

  place_at : (m : ℕ) → m < k → get_or (exchanging k i j) m 0 ≡ other i j m
  unfolding exchanging other
  place_at m h = go (eqb m j) refl (eqb m i) refl
    where
      once : List ℕ
      once = set (numbers k) i j

      go : (t : Bool) → eqb m j ≡ t → (u : Bool) → eqb m i ≡ u → get_or (set once j i) m 0 ≡ cond t i (cond u j m)
      go true e u f = ap (λ (n : ℕ). get_or (set once j i) n 0) (eqb-true m j e) ∙ get_or-set_same once j i 0 (omega (arith, length-set (numbers k) i j, numbers-long k))
      go false e true f =
          get_or-set_other once j m i 0 (eqb-false m j e) ∙ (ap (λ (n : ℕ). get_or once n 0) (eqb-true m i f) ∙ get_or-set_same (numbers k) i j 0 (omega (arith, numbers-long k)))
      go false e false f =
          get_or-set_other once j m i 0 (eqb-false m j e) ∙ (get_or-set_other (numbers k) i m j 0 (eqb-false m i f) ∙ number-at k m h)

  -- so it is each number below k, moved
  places-are : exchanging k i j ≡ map (other i j) (numbers k)
  places-are =
      ext_get_or 0 (exchanging k i j) (map (other i j) (numbers k)) (places-long ∙ sym (length-map (numbers k) (other i j) ∙ numbers-long k))
      (λ m h. let l : m < k = omega (arith, places-long) in place_at m l ∙ sym (map_at (other i j) 0 0 (numbers k) m (omega (arith, numbers-long k)) ∙ ap (other i j) (number-at k m l)))

  pub exchange-is : Exchange k i j (exchanging k i j)
  exchange-is = record {
    arrangement = record {
      long = places-long;
      below = rw places-are (all_of_map (other i j) (all_map other-below (numbers-below k)));
      once = rw places-are (pairwise-of-map (other i j) (λ x y n e. n (sym (other-twice i j x) ∙ (ap (other i j) e ∙ other-twice i j y))) (numbers-distinct k));
    };
    first = place_at i p ∙ other-first i j;
    second = place_at j q ∙ other-second i j;
    others = λ m h x y. place_at m h ∙ other-else i j m x y;
  }
