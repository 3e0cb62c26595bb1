-- Laws of the arguments: counting and finding them step by step.
use mathlib.Core.Path.{◌≡◌, refl, sym, ap, ◌∙◌}
use mathlib.Core.List.{List}
use mathlib.Core.Bool.{Bool, true, false, cond}
use Prim.Native.Nat.{ℕ, suc, ◌+◌, ◌-◌, ◌≤◌, ◌<◌}
use native.Mathlib.Omega.{arith}
use lib.Dec.{eqb}
use Rattle.std.specs.List.{count_by}
use Rattle.std.proofs.lemmas.List.Recursion.{is_sum_by}
use Rattle.lists.specs.Lists.{same}
use Rattle.outcomes.specs.Texts.{text_part}
use Rattle.commands.specs.Commands.{most_commands, command_words}
use Rattle.commands.specs.Arguments.{ended, argument_count, command_from, command_number}

-- ---- how many there are: as many as bytes 0
pub ended_count : (args : List ℕ) → count_by (λ b. eqb b 0) args ≡ argument_count args
unfolding argument_count
ended_count args = sym (is_sum_by argument_count ended refl (λ b t. refl) args)

-- ---- a part of the commands' words
pub command-word : (word part words : List ℕ) (i n : ℕ) (v : Bool) → words ≡ command_words → i ≡ n → part ≡ text_part 0 i words → v ≡ same word part
    → v ≡ same word (text_part 0 n command_words)
command-word word part words i n v e g p f =
    let q = rw (e, g) at p in
    f ∙ ap (same word) q

-- ---- which command a word is
module _ (word : List ℕ) where
  -- it is none of those before i
  pub record Sought (i : ℕ) : Type 0 where
    pub few : i ≤ most_commands
    pub rest : command_from word i (most_commands - i) ≡ command_number word

  module _ (i : ℕ) (s : Sought i) where
    next_word : i < most_commands → (v : Bool) → v ≡ same word (text_part 0 i command_words)
        → command_from word i (most_commands - i) ≡ cond v i (command_from word (i + 1) (most_commands - (i + 1)))
    unfolding command_from
    next_word h v e =
        let k : most_commands - i ≡ suc (most_commands - (i + 1)) = omega arith in
        let j : suc i ≡ i + 1 = omega arith in
        ap (command_from word i) k ∙ (ap (λ (t : Bool). cond t i (command_from word (suc i) (most_commands - (i + 1)))) (sym e)
        ∙ ap (λ (n : ℕ). cond v i (command_from word n (most_commands - (i + 1)))) j)

    pub sought-more : i < most_commands → (v : Bool) → v ≡ same word (text_part 0 i command_words) → v ≡ false → Sought (i + 1)
    sought-more h v e f = record { few = omega arith; rest = sym (next_word h false (sym f ∙ e)) ∙ s.rest }

    pub sought-here : i < most_commands → (v : Bool) → v ≡ same word (text_part 0 i command_words) → v ≡ true → i ≡ command_number word
    sought-here h v e f = sym (next_word h true (sym f ∙ e)) ∙ s.rest

    pub sought-all : most_commands ≤ i → i ≡ command_number word
    unfolding command_from
    sought-all h =
        let k : 0 ≡ most_commands - i = omega arith in
        ap (command_from word i) k ∙ s.rest
