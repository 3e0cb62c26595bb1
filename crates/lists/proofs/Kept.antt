-- Laws of kept elements, of parts joined, and of an element left out.
use mathlib.Core.Path.{◌≡◌, refl, sym, ap, ap₂, ◌∙◌, subst, fun_ext}
use mathlib.Core.List.Memᴰ
use mathlib.Core.List.{List, [], ◌∷◌, ◌++◌, map, append-nil, Memᴰ}
use mathlib.Core.Bool.{Bool, true, false, cond}
use mathlib.Core.Logic.{◌⊎◌, inl, inr}
use Prim.Native.Nat.{ℕ, zero, suc, ◌+◌, ◌*◌, ◌≤◌, ◌<◌}
use native.Mathlib.Nat.{suc-mul}
use native.Mathlib.Omega.{arith}
use lib.ListN.{length, get_or, length-append}
use Rattle.lists.specs.Lists.{All, none_left, ◌and◌, Pairwise, done, ◌then◌, each, upto, keep, without}
use Rattle.lists.proofs.Tests.{clash, total}
use Rattle.lists.proofs.Lists.{all_map, all-++, pairwise-++}

module _ {A : Type 0} where
  pub all_keep : {P : A → Type 0} (f : A → Bool) {l : List A} → All P l → All (λ a. P a × (f a ≡ true)) (keep f l)
  all_keep f none_left = none_left
  all_keep {P} f (◌and◌ {a = a} {l = l} h hs) = go (f a) refl (all_keep f hs)
    where
      go : (t : Bool) → f a ≡ t → All (λ a. P a × (f a ≡ true)) (keep f l) → All (λ a. P a × (f a ≡ true)) (cond t (a ∷ keep f l) (keep f l))
      go true e k = ◌and◌ (h, e) k
      go false e k = k

  pub pairwise-keep : {R : A → A → Type 0} (f : A → Bool) {l : List A} → Pairwise R l → Pairwise R (keep f l)
  pairwise-keep f done = done
  pairwise-keep {R} f (◌then◌ {a = a} {l = l} h hs) = go (f a) (pairwise-keep f hs)
    where
      go : (t : Bool) → Pairwise R (keep f l) → Pairwise R (cond t (a ∷ keep f l) (keep f l))
      go true k = ◌then◌ (all_map (λ b p. p.0) (all_keep f h)) k
      go false k = k

  pub mem-keep : (f : A → Bool) {a : A} {l : List A} → Memᴰ a l → f a ≡ true → Memᴰ a (keep f l)
  mem-keep f {a} {l = []} m e = absurd (Memᴰ.not-nil m)
  mem-keep f {a} {l = b ∷ l} m e = go (f b) refl (Memᴰ.cases_cons m) (λ k. mem-keep f {l = l} k e)
    where
      go : (t : Bool) → f b ≡ t → (a ≡ b) ⊎ Memᴰ a l → (Memᴰ a l → Memᴰ a (keep f l)) → Memᴰ a (cond t (b ∷ keep f l) (keep f l))
      go true q (inl z) r = Memᴰ.head z
      go true q (inr k) r = Memᴰ.tail (r k)
      go false q (inl z) r = clash (ap f (sym z) ∙ e) q
      go false q (inr k) r = r k

  pub keep-++ : (f : A → Bool) (l m : List A) → keep f (l ++ m) ≡ keep f l ++ keep f m
  keep-++ f [] m = refl
  keep-++ f (a ∷ l) m = go (f a) (keep-++ f l m)
    where
      go : (t : Bool) → keep f (l ++ m) ≡ keep f l ++ keep f m → cond t (a ∷ keep f (l ++ m)) (keep f (l ++ m)) ≡ cond t (a ∷ keep f l) (keep f l) ++ keep f m
      go true i = ap (λ (k : List A). a ∷ k) i
      go false i = i

  pub keep-each : (f : A → Bool) (h : ℕ → List A) (p n : ℕ) → keep f (each h p n) ≡ each (λ q. keep f (h q)) p n
  keep-each f h p zero = refl
  keep-each f h p (suc n) = keep-++ f (h p) (each h (suc p) n) ∙ ap (λ (l : List A). keep f (h p) ++ l) (keep-each f h (suc p) n)

  pub keep_same : (f g : A → Bool) {l : List A} → All (λ a. f a ≡ g a) l → keep f l ≡ keep g l
  keep_same f g none_left = refl
  keep_same f g (◌and◌ h hs) = rw (h, keep_same f g hs)

  pub keep-none : (f : A → Bool) (l : List A) → ((a : A) → f a ≡ false) → keep f l ≡ []
  keep-none f [] h = refl
  keep-none f (a ∷ l) h = rw (h a, keep-none f l h)

  -- ---- parts joined
  pub each_same : (f g : ℕ → List A) → ((q : ℕ) → f q ≡ g q) → (p n : ℕ) → each f p n ≡ each g p n
  each_same f g h p n = ap (λ (k : ℕ → List A). each k p n) (fun_ext h)

  pub each_none : (f : ℕ → List A) (x p n : ℕ) → x < p → ((q : ℕ) → (q ≡ x → ⊥) → f q ≡ []) → each f p n ≡ []
  each_none f x p zero h e = refl
  each_none f x p (suc n) h e = rw (e p (λ z. omega arith), each_none f x (suc p) n (omega arith) e)

  -- where only one part is not empty
  pub each-one : (f : ℕ → List A) (x p n : ℕ) → p ≤ x → x < p + n → ((q : ℕ) → (q ≡ x → ⊥) → f q ≡ []) → each f p n ≡ f x
  each-one f x p zero h k e = absurd (omega arith)
  each-one f x p (suc n) h k e = go (total x p) (λ q. each-one f x (suc p) n q (omega arith) e)
    where
      go : (x ≤ p) ⊎ (p < x) → (p < x → each f (suc p) n ≡ f x) → f p ++ each f (suc p) n ≡ f x
      go (inl q) i = let z : p ≡ x = omega arith in rw (z, each_none f x (suc x) n (omega arith) e) (append-nil (f x))
      go (inr q) i = rw (e p (λ z. omega arith)) (i q)

  pub all-each : {P : A → Type 0} (f : ℕ → List A) (p n : ℕ) → ((q : ℕ) → p ≤ q → q < p + n → All P (f q)) → All P (each f p n)
  all-each f p zero h = none_left
  all-each f p (suc n) h = all-++ (h p (omega arith) (omega arith)) (all-each f (suc p) n (λ q a b. h q (omega arith) (omega arith)))

  pub mem-each : {a : A} (f : ℕ → List A) (p n q : ℕ) → p ≤ q → q < p + n → Memᴰ a (f q) → Memᴰ a (each f p n)
  mem-each f p zero q h k m = absurd (omega arith)
  mem-each {a} f p (suc n) q h k m = go (total q p) (λ r. mem-each f (suc p) n q r (omega arith) m)
    where
      go : (q ≤ p) ⊎ (p < q) → (p < q → Memᴰ a (each f (suc p) n)) → Memᴰ a (f p ++ each f (suc p) n)
      go (inl r) i = Memᴰ.append_left (each f (suc p) n) (subst (λ (x : ℕ). Memᴰ a (f x)) (omega arith) m)
      go (inr r) i = Memᴰ.append_right (f p) (i r)

  -- parts joined, where each element tells its part
  pub pairwise-each : {R : A → A → Type 0} (In : ℕ → A → Type 0) (f : ℕ → List A) → ((p : ℕ) → All (In p) (f p)) → ((p : ℕ) → Pairwise R (f p))
      → ((p q : ℕ) (a b : A) → p < q → In p a → In q b → R a b) → (p n : ℕ) → Pairwise R (each f p n)
  pairwise-each In f h d apart p zero = done
  pairwise-each In f h d apart p (suc n) =
      pairwise-++ (d p)
      (all_map (λ a k. all-each f (suc p) n (λ q l m. all_map (λ b j. apart p q a b l k j) (h q))) (h p))
      (pairwise-each In f h d apart (suc p) n)

  pub each-short : (f : ℕ → List A) (b p n : ℕ) → ((q : ℕ) → length (f q) ≤ b) → length (each f p n) ≤ n * b
  each-short f b p zero h = omega arith
  each-short f b p (suc n) h = rw suc-mul (omega (arith, length-append (f p) (each f (suc p) n), h p, each-short f b (suc p) n h))

module _ {A B : Type 0} where
  pub map-++ : (g : A → B) (l m : List A) → map g (l ++ m) ≡ map g l ++ map g m
  map-++ g [] m = refl
  map-++ g (a ∷ l) m = ap (λ (k : List B). g a ∷ k) (map-++ g l m)

  pub map_each : (g : A → B) (h : ℕ → List A) (p n : ℕ) → map g (each h p n) ≡ each (λ q. map g (h q)) p n
  map_each g h p zero = refl
  map_each g h p (suc n) = map-++ g (h p) (each h (suc p) n) ∙ ap (λ (l : List B). map g (h p) ++ l) (map_each g h (suc p) n)

  pub keep-map : (f : B → Bool) (g : A → B) (l : List A) → keep f (map g l) ≡ map g (keep (λ a. f (g a)) l)
  keep-map f g [] = refl
  keep-map f g (a ∷ l) = go (f (g a)) (keep-map f g l)
    where
      go : (t : Bool) → keep f (map g l) ≡ map g (keep (λ a. f (g a)) l)
          → cond t (g a ∷ keep f (map g l)) (keep f (map g l)) ≡ map g (cond t (a ∷ keep (λ a. f (g a)) l) (keep (λ a. f (g a)) l))
      go true i = ap (λ (k : List B). g a ∷ k) i
      go false i = i

  pub map_same : (f g : A → B) {l : List A} → All (λ a. f a ≡ g a) l → map f l ≡ map g l
  map_same f g none_left = refl
  map_same f g (◌and◌ h hs) = ap₂ ◌∷◌ h (map_same f g hs)

module _ {A B C : Type 0} where
  pub map-map : (g : B → C) (f : A → B) (l : List A) → map g (map f l) ≡ map (λ a. g (f a)) l
  map-map g f [] = refl
  map-map g f (a ∷ l) = ap (λ (k : List C). g (f a) ∷ k) (map-map g f l)

-- ---- an element left out
pub without_all : {A : Type 0} {P : A → Type 0} (i : ℕ) {l : List A} → All P l → All P (without i l)
without_all i none_left = none_left
without_all zero (◌and◌ h hs) = hs
without_all (suc i) (◌and◌ h hs) = ◌and◌ h (without_all i hs)

pub length_without : {A : Type 0} (i : ℕ) (l : List A) → i < length l → suc (length (without i l)) ≡ length l
length_without i [] h = absurd (omega arith)
length_without zero (a ∷ l) h = refl
length_without (suc i) (a ∷ l) h = ap suc (length_without i l (omega arith))

-- a list without an element is no longer
pub without-short : {A : Type 0} (i : ℕ) (l : List A) → length (without i l) ≤ length l
without-short i [] = omega arith
without-short zero (a ∷ l) = omega arith
without-short (suc i) (a ∷ l) = omega (arith, without-short i l)

-- ---- f at each of n numbers
pub length-upto : {A : Type 0} (f : ℕ → A) (p m : ℕ) → length (upto f p m) ≡ m
length-upto f p zero = refl
length-upto f p (suc m) = ap suc (length-upto f (suc p) m)

pub get_d-upto : {A : Type 0} (f : ℕ → A) (p m n : ℕ) (d : A) → n < m → get_or (upto f p m) n d ≡ f (p + n)
get_d-upto f p zero n d h = absurd (omega arith)
get_d-upto f p (suc m) zero d h = let e : p + 0 ≡ p = omega arith in rw e
get_d-upto f p (suc m) (suc n) d h = let e : p + suc n ≡ suc p + n = omega arith in rw e (get_d-upto f (suc p) m n d (omega arith))
