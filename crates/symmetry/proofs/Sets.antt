-- Two lists that hold the same elements, each once: what is added up over them is the same.
use mathlib.Core.Path.{◌≡◌, refl, sym, ap, ◌∙◌, subst}
use mathlib.Core.List.Memᴰ
use mathlib.Core.List.{List, [], ◌∷◌, map, Memᴰ}
use mathlib.Core.Logic.{◌⊎◌, inl, inr, ⊎_elim}
use Prim.Native.Nat.{ℕ, ◌+◌}
use native.Mathlib.Omega.{arith}
use lib.ListN.{length}
use Rattle.lists.specs.Lists.{All, ◌and◌, ◌then◌, Distinct, sum}
use Rattle.lists.proofs.Lists.{all_map, all-at}

-- ---- the first list without one of its elements, a, is the second
module _ {A : Type 0} where
  data Out (a : A) : List A → List A → Type 0 where
    here : {b : A} {l : List A} → a ≡ b → Out a (b ∷ l) l
    there : {b : A} {l m : List A} → Out a l m → Out a (b ∷ l) (b ∷ m)

  out_of : {a : A} (l : List A) → Memᴰ a l → (m : List A) × Out a l m
  out_of [] i = absurd (Memᴰ.not-nil i)
  out_of {a} (b ∷ l) i = go (Memᴰ.cases_cons i) (out_of l)
    where
      go : (a ≡ b) ⊎ Memᴰ a l → (Memᴰ a l → (m : List A) × Out a l m) → (m : List A) × Out a (b ∷ l) m
      go (inl e) f = (l, here e)
      go (inr k) f = let r = f k in (b ∷ r.0, there r.1)

  out-mem : {a c : A} {l m : List A} → Out a l m → Memᴰ c l → (c ≡ a) ⊎ Memᴰ c m
  out-mem (here e) i = ⊎_elim (λ q. inl (q ∙ sym e)) (λ k. inr k) (Memᴰ.cases_cons i)
  out-mem (there o) i = ⊎_elim (λ q. inr (Memᴰ.head q)) (λ k. ⊎_elim (λ q. inl q) (λ j. inr (Memᴰ.tail j)) (out-mem o k)) (Memᴰ.cases_cons i)

  mem-out : {a c : A} {l m : List A} → Out a l m → Memᴰ c m → Memᴰ c l
  mem-out (here e) i = Memᴰ.tail i
  mem-out (there o) i = ⊎_elim (λ q. Memᴰ.head q) (λ k. Memᴰ.tail (mem-out o k)) (Memᴰ.cases_cons i)

  out-all : {P : A → Type 0} {a : A} {l m : List A} → Out a l m → All P l → All P m × P a
  out-all {P} (here e) (◌and◌ h hs) = (hs, subst P (sym e) h)
  out-all (there o) (◌and◌ h hs) = let r = out-all o hs in (◌and◌ h r.0, r.1)

  out_once : {a : A} {l m : List A} → Out a l m → Distinct l → Distinct m × All (λ b. b ≡ a → ⊥) m
  out_once (here e) (◌then◌ h hs) = (hs, all_map (λ b n q. n (sym (q ∙ e))) h)
  out_once (there o) (◌then◌ h hs) = let r = out_once o hs in let k = out-all o h in (◌then◌ k.0 r.0, ◌and◌ k.1 r.1)

  out-sum : (f : A → ℕ) {a : A} {l m : List A} → Out a l m → sum (map f l) ≡ f a + sum (map f m)
  out-sum f (here {l = l} e) = ap (λ (z : A). f z + sum (map f l)) (sym e)
  out-sum f (there o) = omega (arith, out-sum f o)

  -- ---- one law for sums and counts
  pub same_sum : (f : A → ℕ) (l m : List A) → Distinct l → Distinct m → ((a : A) → Memᴰ a l → Memᴰ a m) → ((a : A) → Memᴰ a m → Memᴰ a l)
      → sum (map f l) ≡ sum (map f m)
  same_sum f [] [] p q g h = refl
  same_sum f [] (b ∷ m) p q g h = absurd (Memᴰ.not-nil (h b (Memᴰ.head refl)))
  same_sum f (a ∷ l) m (◌then◌ n p) q g h =
      let r = out_of m (g a (Memᴰ.head refl)) in
      let o = out_once r.1 q in
      ap (λ (z : ℕ). f a + z)
      (same_sum f l r.0 p o.0
      (λ b i. ⊎_elim (λ e. absurd (all-at n i (sym e))) (λ k. k) (out-mem r.1 (g b (Memᴰ.tail i))))
      (λ b i. ⊎_elim (λ e. absurd (all-at o.1 i e)) (λ k. k) (Memᴰ.cases_cons (h b (mem-out r.1 i)))))
      ∙ sym (out-sum f r.1)

  count-sum : (l : List A) → sum (map (λ a. 1) l) ≡ length l
  count-sum [] = refl
  count-sum (a ∷ l) = omega (arith, count-sum l)

  pub same_count : (l m : List A) → Distinct l → Distinct m → ((a : A) → Memᴰ a l → Memᴰ a m) → ((a : A) → Memᴰ a m → Memᴰ a l) → length l ≡ length m
  same_count l m p q g h = sym (count-sum l) ∙ (same_sum (λ a. 1) l m p q g h ∙ count-sum m)
