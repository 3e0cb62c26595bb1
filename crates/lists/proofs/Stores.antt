-- Laws of bytes that are put one run behind the other.
use mathlib.Core.Path.{◌≡◌, refl, sym, ap, ◌∙◌}
use mathlib.Core.List.{List, [], ◌∷◌, ◌++◌}
use Prim.Native.Nat.{ℕ, suc, ◌+◌, ◌≤◌, ◌<◌}
use native.Mathlib.Nat.{zero-add}
use native.Mathlib.Numerals.{add-one}
use native.Mathlib.Omega.{arith}
use lib.ListN.{length, set, drop, length-set, length-append}
use lib.Seq.{set_comm, sets, length-sets, sets-eq}
use Rattle.lists.specs.inner.Stores.{Put}

module _ {A : Type 0} where
  sets-append : (xs ys b : List A) (i : ℕ) → sets (sets b i xs) (i + length xs) ys ≡ sets b i (xs ++ ys)
  sets-append [] ys b i = let e : i + 0 ≡ i = omega arith in ap (λ (j : ℕ). sets b j ys) e
  sets-append (x ∷ xs) ys b i =
      let e : i + suc (length xs) ≡ suc i + length xs = omega arith in
      ap (λ (j : ℕ). sets (sets (set b i x) (suc i) xs) j ys) e ∙ sets-append xs ys (set b i x) (suc i)

  -- a cell before a run that has been put
  pub set_before : (xs b : List A) (i j : ℕ) (x : A) → j < i → set (sets b i xs) j x ≡ sets (set b j x) i xs
  set_before [] b i j x h = refl
  set_before (y ∷ xs) b i j x h =
      set_before xs (set b i y) (suc i) j x (omega arith) ∙ ap (λ (l : List A). sets l (suc i) xs) (set_comm b i j y x (λ e. omega arith))

  pub put-length : (buf last cells : List A) (at r : ℕ) → Put buf at cells last r → length last ≡ length buf
  put-length buf last cells at r p = ap length p.stored ∙ length-sets buf at cells

  pub put_one : (buf : List A) (at : ℕ) (b : A) → Put buf at (b ∷ []) (set buf at b) (at + 1)
  put_one buf at b = record { place = refl; stored = refl }

  pub put_four : (buf : List A) (i : ℕ) (a b c d : A) → Put buf i (a ∷ b ∷ c ∷ d ∷ []) (set (set (set (set buf i a) (i + 1) b) (i + 2) c) (i + 3) d) (i + 4)
  put_four buf i a b c d =
      let e₁ : i + 1 ≡ suc i = omega arith in
      let e₂ : i + 2 ≡ suc (suc i) = omega arith in
      let e₃ : i + 3 ≡ suc (suc (suc i)) = omega arith in
      record { place = refl; stored = rw (e₁, e₂, e₃) }

  -- a cell, and then the others from the next place on
  pub put_first : (buf last cells : List A) (at r : ℕ) (b : A) → Put (set buf at b) (at + 1) cells last r → Put buf at (b ∷ cells) last r
  put_first buf last cells at r b p = record { place = omega (arith, p.place); stored = rw add-one at p.stored }

  -- `whole` is xs, and ys behind them
  pub record Joined (xs ys whole : List A) : Type 0 where
    pub joins : xs ++ ys ≡ whole

  module _ {xs ys whole : List A} (j : Joined xs ys whole) where
    long : length whole ≡ length xs + length ys
    long = sym (ap length j.joins) ∙ length-append xs ys

    -- where the whole has room, so have xs ..
    pub first-room : (buf : List A) (at : ℕ) → at + length whole ≤ length buf → at + length xs ≤ length buf
    first-room buf at h = omega (arith, long)

    module _ {buf mid : List A} {at m : ℕ} (p : Put buf at xs mid m) where
      -- .. and ys behind them
      pub second-room : at + length whole ≤ length buf → m + length ys ≤ length mid
      second-room h = omega (arith, p.place, put-length buf mid xs at m p, long)

      pub put_then : {last : List A} {r : ℕ} → Put mid m ys last r → Put buf at whole last r
      put_then {last} {r} q =
          record {
            place = omega (arith, p.place, q.place, long);
            stored =
                q.stored
                ∙ (ap (λ (i : ℕ). sets mid i ys) p.place
                ∙ (ap (λ (b : List A). sets b (at + length xs) ys) p.stored ∙ (sets-append xs ys buf at ∙ ap (sets buf at) j.joins)));
          }

  -- `rest` is left to be put from `at` on, and then `whole` has been put into `first` from `start` on
  pub record Left (first : List A) (start : ℕ) (whole buf : List A) (at : ℕ) (rest : List A) : Type 0 where
    pub long : length buf ≡ length first
    pub place : at + length rest ≡ start + length whole
    pub gives : sets buf at rest ≡ sets first start whole

  pub left-all : (buf : List A) (at : ℕ) (whole : List A) → Left buf at whole buf at whole
  left-all buf at whole = record { long = refl; place = refl; gives = refl }

  module _ (first : List A) (start : ℕ) (whole buf : List A) (at : ℕ) where
    pub left-byte : (b : A) (rest : List A) → Left first start whole buf at (b ∷ rest) → Left first start whole (set buf at b) (at + 1) rest
    left-byte b rest l = record { long = length-set buf at b ∙ l.long; place = omega (arith, l.place); gives = rw add-one l.gives }

    pub left-put : (cells rest last : List A) (r : ℕ) → Put buf at cells last r → Left first start whole buf at (cells ++ rest) → Left first start whole last r rest
    left-put cells rest last r p l =
        record {
          long = put-length buf last cells at r p ∙ l.long;
          place = omega (arith, p.place, l.place, length-append cells rest);
          gives =
              ap (λ (j : ℕ). sets last j rest) p.place
              ∙ (ap (λ (b : List A). sets b (at + length cells) rest) p.stored ∙ (sets-append cells rest buf at ∙ l.gives));
        }

    pub left-none : Left first start whole buf at [] → Put first start whole buf at
    left-none l = record { place = omega (arith, l.place); stored = l.gives }

    -- where the whole has room, so has each part that is left
    pub left-room : (cells rest : List A) → start + length whole ≤ length first → Left first start whole buf at (cells ++ rest) → at + length cells ≤ length buf
    left-room cells rest h l = omega (arith, l.place, l.long, length-append cells rest)

    -- all that is left is put
    pub left-last : (cells last : List A) (r : ℕ) → Put buf at cells last r → Left first start whole buf at cells → Put first start whole last r
    left-last cells last r p l = record { place = omega (arith, p.place, l.place); stored = p.stored ∙ l.gives }

  -- what is put at the start stands before the rest of the buffer
  pub put-start : (buf last cells : List A) (r : ℕ) → length cells ≤ length buf → Put buf 0 cells last r → last ≡ cells ++ drop (length cells) buf
  put-start buf last cells r h p =
      p.stored ∙ (sets-eq cells buf 0 (omega arith) ∙ ap (λ (k : ℕ). cells ++ drop k buf) (zero-add (length cells)))
