-- Laws of parts of texts, and of looking for them place by place.
use mathlib.Core.Path.{◌≡◌, refl, sym, ap, ◌∙◌}
use mathlib.Core.List.{List, [], ◌∷◌}
use mathlib.Core.Bool.{Bool, true, false, cond}
use Prim.Native.Nat.{ℕ, zero, suc, ◌+◌, ◌-◌, ◌≤◌, ◌<◌}
use native.Mathlib.Omega.{arith}
use lib.Dec.{eqb, ltb}
use lib.ListN.{length, take, drop, drop_of_length-le, length-drop}
use lib.Seq.{drop-drop}
use borrow.Author.Tests.{ltb-false}
use Rattle.std.specs.Prelude.{None, Some}
use Rattle.std.specs.List.{position, position_or_len}
use Rattle.std.proofs.lemmas.Option.{none-some, cond_some}
use Rattle.std.proofs.lemmas.List.Recursion.{is_position_or_len}
use Rattle.outcomes.specs.Texts.{up_to, behind_first, text_part}
use Rattle.outcomes.specs.inner.Places.{EndsAt, GoesOnAt, StartsAt}

-- what stands before the first e is the start of the text
pub up-to-take : (e : ℕ) (t : List ℕ) → take (length (up_to e t)) t ≡ up_to e t
unfolding up_to
up-to-take e [] = refl
up-to-take e (b ∷ t) = go (eqb b e) (up-to-take e t)
  where
    go : (v : Bool) → take (length (up_to e t)) t ≡ up_to e t → take (length (cond v [] (b ∷ up_to e t))) (b ∷ t) ≡ cond v [] (b ∷ up_to e t)
    go true h = refl
    go false h = ap (λ (l : List ℕ). b ∷ l) h

pub up-to-few : (e : ℕ) (t : List ℕ) → length (up_to e t) ≤ length t
unfolding up_to
up-to-few e [] = omega arith
up-to-few e (b ∷ t) = go (eqb b e) (up-to-few e t)
  where
    go : (v : Bool) → length (up_to e t) ≤ length t → length (cond v [] (b ∷ up_to e t)) ≤ suc (length t)
    go true h = omega arith
    go false h = omega arith

-- what stands behind it is the rest but one byte
behind-drop : (e : ℕ) (t : List ℕ) → behind_first e t ≡ drop (suc (length (up_to e t))) t
unfolding up_to behind_first
behind-drop e [] = refl
behind-drop e (b ∷ t) = go (eqb b e) (behind-drop e t)
  where
    go : (v : Bool) → behind_first e t ≡ drop (suc (length (up_to e t))) t → cond v t (behind_first e t) ≡ drop (suc (length (cond v [] (b ∷ up_to e t)))) (b ∷ t)
    go true h = refl
    go false h = h

behind-few : (e : ℕ) (t : List ℕ) → length (behind_first e t) ≤ length t
behind-few e t = omega (arith, ap length (behind-drop e t), length-drop (suc (length (up_to e t))) t)

-- a part is no longer than the text
pub part-few : (e n : ℕ) (t : List ℕ) → length (text_part e n t) ≤ length t
unfolding text_part
part-few e zero t = up-to-few e t
part-few e (suc n) t = omega (arith, part-few e n (behind_first e t), behind-few e t)

pub up-to-none : (e : ℕ) → up_to e [] ≡ []
unfolding up_to
up-to-none e = refl

-- it is as long as the library counts, from 0, to the first e
up-to-position : (e : ℕ) (t : List ℕ) → length (up_to e t) ≡ position_or_len (λ b. eqb b e) t
unfolding up_to
up-to-position e = is_position_or_len (λ t. length (up_to e t)) (λ b. eqb b e) (ap length (up-to-none e)) (λ b t. go (eqb b e) b t)
  where
    go : (v : Bool) (b : ℕ) (t : List ℕ) → length (cond v [] (b ∷ up_to e t)) ≡ cond v 0 (1 + length (up_to e t))
    go true b t = refl
    go false b t = omega arith

no_some : (b : Bool) (n : ℕ) → cond b (Some n) None ≡ None → b ≡ false
no_some true n e = absurd (none-some n (sym e))
no_some false n e = refl

module _ (e : ℕ) (text : List ℕ) where
  -- by what `position` answers of the bytes from a place on
  pub found_at : (from n : ℕ) → from ≤ length text → Some n ≡ position (λ b. eqb b e) (drop from text) → EndsAt e text from (from + n)
  found_at from n h p =
      let t = drop from text in
      let f = cond_some (ltb (position_or_len (λ b. eqb b e) t) (length t)) _ n (sym p) in
      let l : length (up_to e t) ≡ n = up-to-position e t ∙ f.1 in
      record { place = omega (arith, l); inside = omega (arith, l, up-to-few e t, length-drop from text) }

  pub found_none : (from : ℕ) → from ≤ length text → None ≡ position (λ b. eqb b e) (drop from text) → EndsAt e text from (length text)
  found_none from h p =
      let t = drop from text in
      let l : length t ≤ position_or_len (λ b. eqb b e) t = ltb-false _ _ (no_some (ltb (position_or_len (λ b. eqb b e) t) (length t)) _ (sym p)) in
      record { place = omega (arith, l, up-to-position e t, up-to-few e t, length-drop from text); inside = omega arith }

  -- the bytes between a place and where its part ends
  pub part_bytes : (from r : ℕ) → EndsAt e text from r → take (r - from) (drop from text) ≡ up_to e (drop from text)
  part_bytes from r h =
      let g : r - from ≡ length (up_to e (drop from text)) = omega (arith, h.place) in
      ap (λ (n : ℕ). take n (drop from text)) g ∙ up-to-take e (drop from text)

  module _ (from r : ℕ) (h : EndsAt e text from r) where
    rest-is : behind_first e (drop from text) ≡ drop (r + 1) text
    rest-is =
        let g : from + suc (length (up_to e (drop from text))) ≡ r + 1 = omega (arith, h.place) in
        behind-drop e (drop from text) ∙ (drop-drop (suc (length (up_to e (drop from text)))) from text ∙ ap (λ (n : ℕ). drop n text) g)

    pub goes_on : r < length text → GoesOnAt e text from (r + 1)
    goes_on k = record { inside = omega arith; rest = sym rest-is }

    pub goes-nowhere : length text ≤ r → GoesOnAt e text from r
    goes-nowhere k =
        record {
          inside = h.inside;
          rest = drop_of_length-le text k ∙ sym (rest-is ∙ drop_of_length-le text {i = r + 1} (omega arith));
        }

  -- i parts are passed, and from `from` on stands the rest
  pub record Skipped (n i from : ℕ) : Type 0 where
    pub few : i ≤ n
    pub inside : from ≤ length text
    pub rest : text_part e (n - i) (drop from text) ≡ text_part e n text

  pub skipped-none : (n : ℕ) → Skipped n 0 0
  skipped-none n =
      let k : n - 0 ≡ n = omega arith in
      record { few = omega arith; inside = omega arith; rest = ap (λ (j : ℕ). text_part e j text) k }

  module _ (n i from : ℕ) (s : Skipped n i from) where
    pub skipped-more : i < n → (r : ℕ) → GoesOnAt e text from r → Skipped n (i + 1) r
    unfolding text_part
    skipped-more h r g =
        let m = n - (i + 1) in
        let k : n - i ≡ suc m = omega arith in
        record {
          few = omega arith;
          inside = g.inside;
          rest = ap (text_part e m) g.rest ∙ (sym (ap (λ (j : ℕ). text_part e j (drop from text)) k) ∙ s.rest);
        }

    pub skipped-all : n ≤ i → StartsAt e n text from
    unfolding text_part
    skipped-all h =
        let k : 0 ≡ n - i = omega arith in
        record { inside = s.inside; part = ap (λ (j : ℕ). text_part e j (drop from text)) k ∙ s.rest }
