-- What holds of each element or of each pair of a list, and the parts of lists that definitions above are made of.
use Rattle.std.specs.Prelude.{◌≡◌, List, [], ◌∷◌, ◌++◌, map, Bool, true, false, cond, ◌&&◌, ℕ, zero, suc, ◌+◌, ◌<◌, eqb}
use Rattle.std.proofs.Math.Option.{Option, none, some}

-- P holds of each element
pub data All {A : Type 0} (P : A → Type 0) : List A → Type 0 where
  none_left : All P []
  ◌and◌ : {a : A} {l : List A} → P a → All P l → All P (a ∷ l)

-- R holds of each element and each later one
pub data Pairwise {A : Type 0} (R : A → A → Type 0) : List A → Type 0 where
  done : Pairwise R []
  ◌then◌ : {a : A} {l : List A} → All (R a) l → Pairwise R l → Pairwise R (a ∷ l)

-- no element stands twice
abbrev pub Distinct : {A : Type 0} → List A → Type 0
Distinct l = Pairwise (λ a b. a ≡ b → ⊥) l

abbrev pub sum : List ℕ → ℕ
sum [] = 0
sum (n ∷ ns) = n + sum ns

-- the numbers below n, ascending
abbrev pub numbers : ℕ → List ℕ
numbers zero = []
numbers (suc n) = numbers n ++ n ∷ []

-- f at each of n numbers from p on, joined
abbrev pub each : {A : Type 0} → (ℕ → List A) → (p n : ℕ) → List A
each f p zero = []
each f p (suc n) = f p ++ each f (suc p) n

-- all rows of places below these sizes, ascending, the first compared first
abbrev pub rows_below : List ℕ → List (List ℕ)
rows_below [] = [] ∷ []
rows_below (n ∷ ns) = each (λ p. map (λ row. p ∷ row) (rows_below ns)) 0 n

-- the elements that pass a test, in their order
abbrev pub keep : {A : Type 0} → (A → Bool) → List A → List A
keep f [] = []
keep f (a ∷ l) = cond (f a) (a ∷ keep f l) (keep f l)

-- the list without its element at i
abbrev pub without : {A : Type 0} → ℕ → List A → List A
without i [] = []
without zero (a ∷ l) = l
without (suc i) (a ∷ l) = a ∷ without i l

-- the first m elements, filled up with 0
abbrev pub padded : ℕ → List ℕ → List ℕ
padded zero l = []
padded (suc m) [] = 0 ∷ padded m []
padded (suc m) (a ∷ l) = a ∷ padded m l

-- the two lists are equal, as a test
unfoldable pub same : List ℕ → List ℕ → Bool
same [] [] = true
same [] (y ∷ ys) = false
same (x ∷ xs) [] = false
same (x ∷ xs) (y ∷ ys) = eqb x y && same xs ys

-- ---- what may be there
module _ {A : Type 0} where
  -- there is one
  abbrev pub is_some : Option A → Bool
  is_some none = false
  is_some (some a) = true

  -- the list, empty where there is none
  abbrev pub list_in : Option (List A) → List A
  list_in none = []
  list_in (some l) = l

-- f at each of n numbers from p on
abbrev pub upto : {A : Type 0} → (ℕ → A) → (p n : ℕ) → List A
upto f p n = each (λ q. f q ∷ []) p n

-- the test holds at each number below n
abbrev pub holds_below : (ℕ → Bool) → ℕ → Bool
holds_below t zero = true
holds_below t (suc n) = holds_below t n && t n

-- ---- what no public call's contract cites
-- each number is below n
abbrev pub Below : ℕ → List ℕ → Type 0
Below n l = All (λ k. k < n) l

-- a test's result t says whether P holds
pub record Tells (P : Type 0) (t : Bool) : Type 0 where
  pub if_true : t ≡ true → P
  pub if_false : t ≡ false → P → ⊥
