-- Laws of how many things are told, and which.
use mathlib.Core.Path.{◌≡◌, refl, sym, ap, ◌∙◌}
use mathlib.Core.List.{List, [], ◌∷◌, ◌++◌, append_assoc}
use mathlib.Core.Logic.{◌⊎◌, inl, inr}
use Prim.Native.Nat.{ℕ, zero, suc, ◌+◌, ◌-◌, ◌≤◌, ◌<◌}
use native.Mathlib.Omega.{arith}
use lib.ListN.{length, take}
use Rattle.lists.proofs.Tests.{total}
use Rattle.checking.specs.Faults.{Note}
use Rattle.checking.specs.Check.{line_error, note_errors}
use Rattle.checking.specs.inner.Notes.{counted}

-- ---- lists
pub errors-join : (xs ys : List Note) → note_errors (xs ++ ys) ≡ note_errors xs ++ note_errors ys
errors-join [] ys = refl
errors-join (x ∷ xs) ys = ap (λ (l : List ℕ). line_error x.number x.words ++ l) (errors-join xs ys) ∙ sym (append_assoc (line_error x.number x.words) (note_errors xs) (note_errors ys))

pub take_none : (m : ℕ) → take {A = Note} m [] ≡ []
take_none zero = refl
take_none (suc m) = refl

pub take-join : (m : ℕ) (xs ys : List Note) → take m (xs ++ ys) ≡ take m xs ++ take (m - length (take m xs)) ys
take-join zero xs ys = refl
take-join (suc m) [] ys = let e : suc m - 0 ≡ suc m = omega arith in rw e
take-join (suc m) (x ∷ xs) ys =
    let e : suc m - suc (length (take m xs)) ≡ m - length (take m xs) = omega arith in
    rw e (ap (λ (l : List Note). x ∷ l) (take-join m xs ys))

pub take-few : (m : ℕ) (xs : List Note) → length (take m xs) ≡ m - (m - length xs)
take-few zero xs = omega arith
take-few (suc m) [] = omega arith
take-few (suc m) (x ∷ xs) = omega (arith, take-few m xs)

some_left : (told x : ℕ) → 64 - told - x ≡ 64 - (told + x)
some_left told x = omega arith

none_left : (told : ℕ) → 64 - told - (64 - told) ≡ 64 - 65
none_left told = omega arith

-- as many of them are left as were not told
pub told-left : (told x q a : ℕ) → a ≡ 64 - told - (64 - told - x) → q ≡ counted (told + x) → 64 - told - a ≡ 64 - q
told-left told x q a e f = go (total (told + x) 64)
  where
    go : (told + x ≤ 64) ⊎ (64 < told + x) → 64 - told - a ≡ 64 - q
    go (inl h) =
        let b : a ≡ x = omega (arith, e) in
        let c : q ≡ told + x = omega (arith, f) in
        rw (b, c) (some_left told x)
    go (inr h) =
        let b : a ≡ 64 - told = omega (arith, e) in
        let c : q ≡ 65 = omega (arith, f) in
        rw (b, c) (none_left told)

pub counted-both : (a b : ℕ) → counted (counted a + b) ≡ counted (a + b)
counted-both a b = go (total a 65)
  where
    go : (a ≤ 65) ⊎ (65 < a) → counted (counted a + b) ≡ counted (a + b)
    go (inl h) = let e : counted a ≡ a = omega arith in ap (λ (n : ℕ). counted (n + b)) e
    go (inr h) = omega arith
