-- Laws of the places that arguments are.
use mathlib.Core.Path.{◌≡◌, refl, sym, ap, ◌∙◌}
use mathlib.Core.List.{List, ◌∷◌, ◌++◌}
use Prim.Native.Nat.{ℕ, zero, suc, ◌+◌, ◌-◌, ◌≤◌, ◌<◌}
use native.Mathlib.Omega.{arith}
use lib.ListN.{length, take, set, length-set}
use Rattle.lists.proofs.Parts.{fill_step, fill_done}
use Rattle.commands.specs.Arguments.{argument, argument_value, natural_of, places_from}

module _ (args : List ℕ) (n : ℕ) where
  -- the first i stand in their cells
  pub record Placed (out : List ℕ) (i : ℕ) : Type 0 where
    pub long : length out ≡ n
    pub few : i ≤ n
    pub rest : take i out ++ places_from args (i + 1) (n - i) ≡ places_from args 1 n

  module _ (out : List ℕ) (i : ℕ) (p : Placed out i) where
    pub placed-more : i < length out → (x : ℕ) → x ≡ natural_of (argument_value (argument (i + 1) args)) → Placed (set out i x) (i + 1)
    unfolding places_from
    placed-more l x e =
        let h : i < n = omega (arith, p.long) in
        let k : n - i ≡ suc (n - (i + 1)) = omega arith in
        let j : suc (i + 1) ≡ i + 1 + 1 = omega arith in
        let rest = places_from args (i + 1 + 1) (n - (i + 1)) in
        let f : places_from args (i + 1) (n - i) ≡ x ∷ rest
        = ap (places_from args (i + 1)) k ∙ (ap (λ (m : ℕ). natural_of (argument_value (argument (i + 1) args)) ∷ places_from args m (n - (i + 1))) j
        ∙ ap (λ (y : ℕ). y ∷ rest) (sym e)) in
        record {
          long = length-set out i x ∙ p.long;
          few = omega arith;
          rest = fill_step out (places_from args 1 n) rest i x (omega (arith, p.long)) (ap (λ (l : List ℕ). take i out ++ l) (sym f) ∙ p.rest);
        }

    pub placed-all : length out ≤ i → out ≡ places_from args 1 n
    unfolding places_from
    placed-all h =
        let k : n - i ≡ 0 = omega (arith, p.long) in
        fill_done out (places_from args 1 n) (places_from args (i + 1) (n - i)) i (omega (arith, p.long)) (ap (places_from args (i + 1)) k) p.rest

-- the first n of more places
pub places-first : (args : List ℕ) (i n m : ℕ) → n ≤ m → take n (places_from args i m) ≡ places_from args i n
unfolding places_from
places-first args i zero m h = refl
places-first args i (suc n) zero h = absurd (omega (arith, h))
places-first args i (suc n) (suc m) h = ap (λ (l : List ℕ). natural_of (argument_value (argument i args)) ∷ l) (places-first args (suc i) n m (omega (arith, h)))

places-long : (args : List ℕ) (i n : ℕ) → length (places_from args i n) ≡ n
unfolding places_from
places-long args i zero = refl
places-long args i (suc n) = ap suc (places-long args (suc i) n)

pub places_count : (args places : List ℕ) (n : ℕ) → n ≤ 7 → places ≡ places_from args 1 7 → n ≡ length (take n places)
places_count args places n h e = sym (ap length (ap (take n) e ∙ places-first args 1 n 7 h) ∙ places-long args 1 n)
