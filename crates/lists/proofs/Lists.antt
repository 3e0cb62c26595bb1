-- Laws of `All` and `Pairwise`, also by places.
use mathlib.Core.Path.{◌≡◌, refl, sym, ap₂, ◌∙◌, subst, subst₂}
use mathlib.Core.List.Memᴰ
use mathlib.Core.List.{List, [], ◌∷◌, ◌++◌, map, Memᴰ}
use mathlib.Core.Logic.{◌⊎◌, inl, inr, ⊎_elim}
use Prim.Native.Nat.{ℕ, zero, suc, ◌+◌, ◌-◌, ◌≤◌, ◌<◌}
use native.Mathlib.Omega.{arith}
use lib.ListN.{length, get_or, take, drop}
use Rattle.lists.specs.Lists.{All, none_left, ◌and◌, Pairwise, done, ◌then◌}
use Rattle.lists.proofs.Tests.{total}

module _ {A : Type 0} where
  pub all_map : {P Q : A → Type 0} {l : List A} → ((a : A) → P a → Q a) → All P l → All Q l
  all_map f none_left = none_left
  all_map f (◌and◌ {a = a} h hs) = ◌and◌ (f a h) (all_map f hs)

  pub all-++ : {P : A → Type 0} {l m : List A} → All P l → All P m → All P (l ++ m)
  all-++ none_left k = k
  all-++ (◌and◌ h hs) k = ◌and◌ h (all-++ hs k)

  pub all-at : {P : A → Type 0} {a : A} {l : List A} → All P l → Memᴰ a l → P a
  all-at none_left m = absurd (Memᴰ.not-nil m)
  all-at {P} (◌and◌ h hs) m = ⊎_elim (λ e. subst P (sym e) h) (λ k. all-at hs k) (Memᴰ.cases_cons m)

  pub pairwise_map : {R S : A → A → Type 0} {l : List A} → ((a b : A) → R a b → S a b) → Pairwise R l → Pairwise S l
  pairwise_map f done = done
  pairwise_map f (◌then◌ {a = a} h hs) = ◌then◌ (all_map (f a) h) (pairwise_map f hs)

  pub pairwise-++ : {R : A → A → Type 0} {l m : List A} → Pairwise R l → All (λ a. All (R a) m) l → Pairwise R m → Pairwise R (l ++ m)
  pairwise-++ done none_left q = q
  pairwise-++ (◌then◌ h p) (◌and◌ k ks) q = ◌then◌ (all-++ h k) (pairwise-++ p ks q)

  pub all_take : {P : A → Type 0} {l : List A} (m : ℕ) → All P l → All P (take m l)
  all_take zero h = none_left
  all_take (suc m) none_left = none_left
  all_take {P} (suc m) (◌and◌ {a = a} {l = l} h hs) = ◌and◌ h (all_take {P = P} {l = l} m hs)

  pub all_drop : {P : A → Type 0} {l : List A} (m : ℕ) → All P l → All P (drop m l)
  all_drop zero h = h
  all_drop (suc m) none_left = none_left
  all_drop {P} (suc m) (◌and◌ {a = a} {l = l} h hs) = all_drop {P = P} {l = l} m hs

  -- ---- the same by places
  pub all_get_d : {P : A → Type 0} {l : List A} (d : A) → All P l → (k : ℕ) → k < length l → P (get_or l k d)
  all_get_d d none_left k h = absurd (omega arith)
  all_get_d d (◌and◌ p ps) zero h = p
  all_get_d d (◌and◌ p ps) (suc k) h = all_get_d d ps k (omega arith)

  pub get_d-all : {P : A → Type 0} (l : List A) (d : A) → ((k : ℕ) → k < length l → P (get_or l k d)) → All P l
  get_d-all [] d f = none_left
  get_d-all (a ∷ l) d f = ◌and◌ (f 0 (omega arith)) (get_d-all l d (λ k h. f (suc k) (omega arith)))

  -- R holds of each element and the next, before place i
  abbrev pub Adjacent : (A → A → Type 0) → List A → A → ℕ → Type 0
  Adjacent R l d i = (k : ℕ) → suc k < i → R (get_or l k d) (get_or l (suc k) d)

  pub adjacent-more : (R : A → A → Type 0) (l : List A) (d : A) (i : ℕ) → 0 < i → Adjacent R l d i → R (get_or l (i - 1) d) (get_or l i d) → Adjacent R l d (i + 1)
  adjacent-more R l d i p f r k h = go (total i (suc k))
    where
      go : (i ≤ suc k) ⊎ (suc k < i) → R (get_or l k d) (get_or l (suc k) d)
      go (inl q) = subst₂ (λ (m n : ℕ). R (get_or l m d) (get_or l n d)) (omega arith) (omega arith) r
      go (inr q) = f k q

  pub pairwise-adjacent : {R : A → A → Type 0} {l : List A} (d : A) → Pairwise R l → Adjacent R l d (length l)
  pairwise-adjacent d done k h = absurd (omega arith)
  pairwise-adjacent d (◌then◌ p ps) zero h = all_get_d d p 0 (omega arith)
  pairwise-adjacent d (◌then◌ p ps) (suc k) h = pairwise-adjacent d ps k (omega arith)

  pub adjacent-pairwise : {R : A → A → Type 0} → ((a b c : A) → R a b → R b c → R a c) → (l : List A) (d : A) → Adjacent R l d (length l) → Pairwise R l
  adjacent-pairwise t [] d f = done
  adjacent-pairwise t (a ∷ []) d f = ◌then◌ none_left done
  adjacent-pairwise {R} t (a ∷ b ∷ l) d f = go (adjacent-pairwise t (b ∷ l) d (λ k h. f (suc k) (omega arith)))
    where
      go : Pairwise R (b ∷ l) → Pairwise R (a ∷ b ∷ l)
      go (◌then◌ p ps) = let r = f 0 (omega arith) in ◌then◌ (◌and◌ r (all_map (λ c q. t a b c r q) p)) (◌then◌ p ps)

  pub all_any : {P : A → Type 0} → ((a : A) → P a) → (l : List A) → All P l
  all_any f [] = none_left
  all_any f (a ∷ l) = ◌and◌ (f a) (all_any f l)

  pub pairwise-with : {P : A → Type 0} {R S : A → A → Type 0} → ((a b : A) → P a → P b → R a b → S a b) → {l : List A} → All P l → Pairwise R l → Pairwise S l
  pairwise-with f none_left done = done
  pairwise-with {P} {R} {S} f (◌and◌ {a = a} p ps) (◌then◌ h hs) = ◌then◌ (go ps h) (pairwise-with f ps hs)
    where
      go : {l : List A} → All P l → All (R a) l → All (S a) l
      go none_left none_left = none_left
      go (◌and◌ {a = b} q qs) (◌and◌ k ks) = ◌and◌ (f a b p q k) (go qs ks)

  -- a list in a strict order is settled by its elements
  pub ordered-unique : {R : A → A → Type 0} (l m : List A) → ((a b : A) → R a b → R b a → ⊥) → Pairwise R l → Pairwise R m
      → ((a : A) → Memᴰ a l → Memᴰ a m) → ((a : A) → Memᴰ a m → Memᴰ a l) → l ≡ m
  ordered-unique [] [] x p q f g = refl
  ordered-unique [] (b ∷ m) x p q f g = absurd (Memᴰ.not-nil (g b (Memᴰ.head refl)))
  ordered-unique (a ∷ l) [] x p q f g = absurd (Memᴰ.not-nil (f a (Memᴰ.head refl)))
  ordered-unique {R} (a ∷ l) (b ∷ m) x (◌then◌ h p) (◌then◌ k q) f g =
      ap₂ ◌∷◌ heads
      (ordered-unique l m x p q
      (λ c i. other (λ e. absurd (self a c (e ∙ sym heads) (all-at h i))) (f c (Memᴰ.tail i)))
      (λ c i. other (λ e. absurd (self b c (e ∙ heads) (all-at k i))) (g c (Memᴰ.tail i))))
    where
      other : {c d : A} {n : List A} → (c ≡ d → Memᴰ c n) → Memᴰ c (d ∷ n) → Memᴰ c n
      other f i = ⊎_elim f (λ j. j) (Memᴰ.cases_cons i)

      self : (d c : A) → c ≡ d → R d c → ⊥
      self d c e r = let s = subst (λ (z : A). R d z) e r in x d d s s

      heads : a ≡ b
      heads =
          ⊎_elim (λ e. e) (λ i. ⊎_elim (λ e. sym e) (λ j. absurd (x a b (all-at h j) (all-at k i))) (Memᴰ.cases_cons (g b (Memᴰ.head refl))))
          (Memᴰ.cases_cons (f a (Memᴰ.head refl)))

module _ {A B : Type 0} where
  pub all_of_map : {P : B → Type 0} (g : A → B) {l : List A} → All (λ a. P (g a)) l → All P (map g l)
  all_of_map g none_left = none_left
  all_of_map g (◌and◌ h hs) = ◌and◌ h (all_of_map g hs)

  pub pairwise-of-map : {R : B → B → Type 0} {Q : A → A → Type 0} (g : A → B) → ((a b : A) → Q a b → R (g a) (g b)) → {l : List A} → Pairwise Q l → Pairwise R (map g l)
  pairwise-of-map g f done = done
  pairwise-of-map g f (◌then◌ {a = a} h hs) = ◌then◌ (all_of_map g (all_map (f a) h)) (pairwise-of-map g f hs)

module _ {A : Type 0} {P : A → Type 0} where
  -- what holds of each element holds of all
  pub all-of-mem : (l : List A) → ((a : A) → Memᴰ a l → P a) → All P l
  all-of-mem [] f = none_left
  all-of-mem (a ∷ l) f = ◌and◌ (f a (Memᴰ.head refl)) (all-of-mem l (λ b m. f b (Memᴰ.tail m)))

  -- what holds of two lists in a row holds of each of them
  pub all-parts : (l : List A) {m : List A} → All P (l ++ m) → All P l × All P m
  all-parts [] h = (none_left, h)
  all-parts (a ∷ l) (◌and◌ h hs) = let p = all-parts l hs in (◌and◌ h p.0, p.1)

-- what holds of the images of all holds of all, of their images
pub all_under : {A B : Type 0} {P : B → Type 0} (f : A → B) (l : List A) → All P (map f l) → All (λ a. P (f a)) l
all_under f [] h = none_left
all_under f (a ∷ l) (◌and◌ h hs) = ◌and◌ h (all_under f l hs)
