-- Laws of the numbers that stand first among the arguments, and of `-` where it may stand for none.
use mathlib.Core.Path.{◌≡◌, refl, sym, ap, ◌∙◌}
use mathlib.Core.List.{List}
use mathlib.Core.Bool.{Bool, true, false, not, cond}
use Prim.Native.Nat.{ℕ, suc, ◌+◌, ◌-◌, ◌≤◌, ◌<◌}
use lib.Dec.{leb}
use Rattle.std.specs.Prelude.{min}
use native.Mathlib.Omega.{arith}
use borrow.Author.Tests.{eq-eqb, ne_eqb, leb-true, leb-false, not-true, not-false}
use Rattle.lists.specs.Lists.{same}
use Rattle.outcomes.specs.Texts.{ascii}
use Rattle.commands.specs.Arguments.{argument, is_number, is_taken, leading_numbers, weight_at, given_in, looked}

-- ---- words that are taken for numbers
module _ (dash : ℕ) (word : List ℕ) (v : Bool) (e : v ≡ is_number word) where
  pub taken-number : v ≡ true → true ≡ is_taken dash word
  unfolding is_taken
  taken-number h = rw (← e, h) refl

  pub taken_none : v ≡ false → (dash ≡ 1 → ⊥) → false ≡ is_taken dash word
  unfolding is_taken
  taken_none h k = rw (← e, h, ne_eqb dash 1 k) refl

  pub taken-dash : v ≡ false → dash ≡ 1 → (w : Bool) → w ≡ same word (ascii "-") → w ≡ is_taken dash word
  unfolding is_taken
  taken-dash h k w f = rw (← e, h, eq-eqb dash 1 k) f

-- ---- which stops are given
module _ (args : List ℕ) (i weight : ℕ) (v : Bool) (e : v ≡ is_number (argument i args)) where
  pub weight-some : v ≡ true → weight ≡ weight_at args i weight
  weight-some h = sym (rw (← e, h) refl)

  pub weight-none : v ≡ false → 0 ≡ weight_at args i weight
  weight-none h = sym (rw (← e, h) refl)

pub given_is : (args : List ℕ) (a b c d : ℕ) → a ≡ weight_at args 1 1 → b ≡ weight_at args 2 2 → c ≡ weight_at args 3 4 → d ≡ weight_at args 4 8
    → a + b + c + d ≡ given_in args
given_is args a b c d e f g h = rw (e, f, g, h) refl

-- ---- how many stand first
module _ (dash : ℕ) (args : List ℕ) (most : ℕ) where
  -- the first n are taken for numbers
  pub record Numbered (n : ℕ) : Type 0 where
    pub few : n ≤ most
    pub rest : n + leading_numbers dash args (n + 1) (most - n) ≡ leading_numbers dash args 1 most

  module _ (n : ℕ) (c : Numbered n) where
    next-number : n < most → (v : Bool) → v ≡ is_taken dash (argument (n + 1) args)
        → leading_numbers dash args (n + 1) (most - n) ≡ cond v (suc (leading_numbers dash args (n + 1 + 1) (most - (n + 1)))) 0
    unfolding leading_numbers
    next-number h v e =
        let k : most - n ≡ suc (most - (n + 1)) = omega arith in
        let j : suc (n + 1) ≡ n + 1 + 1 = omega arith in
        ap (leading_numbers dash args (n + 1)) k ∙ (ap (λ (t : Bool). cond t (suc (leading_numbers dash args (suc (n + 1)) (most - (n + 1)))) 0) (sym e)
        ∙ ap (λ (i : ℕ). cond v (suc (leading_numbers dash args i (most - (n + 1)))) 0) j)

    pub numbered_more : n < most → (v : Bool) → v ≡ is_taken dash (argument (n + 1) args) → not v ≡ false → Numbered (n + 1)
    numbered_more h v e f = record { few = omega arith; rest = omega (arith, c.rest, next-number h true (sym (not-false v f) ∙ e)) }

    pub numbered-stop : n < most → (v : Bool) → v ≡ is_taken dash (argument (n + 1) args) → not v ≡ true → n ≡ leading_numbers dash args 1 most
    numbered-stop h v e f = omega (arith, c.rest, next-number h false (sym (not-true v f) ∙ e))

    pub numbered-all : most ≤ n → n ≡ leading_numbers dash args 1 most
    unfolding leading_numbers
    numbered-all h =
        let k : most - n ≡ 0 = omega arith in
        let e : leading_numbers dash args (n + 1) (most - n) ≡ 0 = ap (leading_numbers dash args (n + 1)) k in
        omega (arith, c.rest, e)

pub looked-least : (count n : ℕ) → n ≡ min (count - 1) 7 → n ≡ looked count
unfolding looked
looked-least count n e = go (leb count 8) refl
  where
    go : (t : Bool) → leb count 8 ≡ t → n ≡ cond t (count - 1) 7
    go true h = omega (arith, e, leb-true count 8 h)
    go false h = omega (arith, e, leb-false count 8 h)
