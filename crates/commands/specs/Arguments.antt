-- The arguments of the program, as bytes: each is followed by a byte 0. Behind the command's word stand its numbers, and behind these its names.
use Rattle.std.specs.Prelude.{List, [], ◌∷◌, Bool, cond, ◌&&◌, ◌||◌, ℕ, zero, suc, ◌+◌, ◌-◌, eqb, leb, ltb, ℤ, pos, negsuc}
use Rattle.std.proofs.Math.Option.{Option, none, some}
use Rattle.lists.specs.Lists.{same, is_some}
use Rattle.geometry.specs.declared.Rect.{Rect}
use Rattle.decimal.specs.Reading.{Reading, number}
use Rattle.outcomes.specs.Texts.{ascii, text_part}
use Rattle.commands.specs.declared.Call.{Call}
use Rattle.commands.specs.Commands.{most_commands, number_of_named, command_words, limit}

-- how many arguments a byte ends
abbrev pub ended : (byte : ℕ) → ℕ
ended byte = cond (eqb byte 0) 1 0

-- how many arguments there are
unfoldable pub argument_count : List ℕ → ℕ
argument_count [] = 0
argument_count (b ∷ t) = ended b + argument_count t

-- the argument of a number, from 0; the first is the command's word
abbrev pub argument : (i : ℕ) → List ℕ → List ℕ
argument i args = text_part 0 i args

-- the number that a word is, spelled as in a plan text
abbrev pub whole : Reading ℤ → Option ℤ
whole none = none
whole (some (z, [])) = some z
whole (some (z, b ∷ t)) = none

unfoldable pub is_number : List ℕ → Bool
is_number word = is_some (whole (number word))

-- the number that a word starts with, or 0
abbrev pub value_in : Reading ℤ → ℤ
value_in none = pos 0
value_in (some (z, t)) = z

unfoldable pub argument_value : List ℕ → ℤ
argument_value word = value_in (number word)

-- the box of the four numbers behind the command's word
unfoldable pub box_of : (args : List ℕ) → Rect
box_of args =
    record {
      left = argument_value (argument 1 args);
      bottom = argument_value (argument 2 args);
      right = argument_value (argument 3 args);
      top = argument_value (argument 4 args);
    }

-- a number as that of a layer or a place; one below 0 is none of these
abbrev pub natural_of : ℤ → ℕ
natural_of (pos n) = n
natural_of (negsuc n) = 4294967295

-- a layer's number, where it is from 1 on: a 0 that is given is none, so that it does not ask for all
abbrev pub from_one : ℕ → ℕ
from_one n = cond (eqb n 0) 4294967295 n

-- the layer that is given behind the command's word, or 0 where none is
abbrev pub layer_in : (numbers : ℕ) (args : List ℕ) → ℕ
layer_in numbers args = cond (eqb numbers 0) 0 (from_one (natural_of (argument_value (argument 1 args))))

-- the places that the n arguments from i on are
unfoldable pub places_from : (args : List ℕ) (i n : ℕ) → List ℕ
places_from args i zero = []
places_from args i (suc n) = natural_of (argument_value (argument i args)) ∷ places_from args (suc i) n

-- a word that is taken for a number: one, or `-` where that may stand for none
unfoldable pub is_taken : (dash : ℕ) → List ℕ → Bool
is_taken dash word = is_number word || (eqb dash 1 && same word (ascii "-"))

-- how many of the f arguments from i on are taken for numbers, up to the first that is not
unfoldable pub leading_numbers : (dash : ℕ) (args : List ℕ) (i f : ℕ) → ℕ
leading_numbers dash args i zero = 0
leading_numbers dash args i (suc f) = cond (is_taken dash (argument i args)) (suc (leading_numbers dash args (suc i) f)) 0

-- the weight of an argument that is a number; one that is none, as `-`, has no weight
abbrev pub weight_at : (args : List ℕ) (i weight : ℕ) → ℕ
weight_at args i weight = cond (is_number (argument i args)) weight 0

-- which of the four stops behind the command's word are given, as `cover` takes it: a sum of weights, 1 left, 2 bottom, 4 right, 8 top
abbrev pub given_in : (args : List ℕ) → ℕ
given_in args = weight_at args 1 1 + weight_at args 2 2 + weight_at args 3 4 + weight_at args 4 8

-- the first of the f commands from i on whose word this is, or the number behind the last
unfoldable pub command_from : (word : List ℕ) (i f : ℕ) → ℕ
command_from word i zero = i
command_from word i (suc f) = cond (same word (text_part 0 i command_words)) i (command_from word (suc i) f)

abbrev pub command_number : (word : List ℕ) → ℕ
command_number word = command_from word 0 most_commands

-- how many of so many arguments are looked at for numbers: at most seven behind the first, since no command takes more than six
unfoldable pub looked : (count : ℕ) → ℕ
looked count = cond (leb count 8) (count - 1) 7

-- a limit of a command; 0 where the word is no command's
unfoldable pub limit_or : (command column : ℕ) → ℕ
limit_or command column = cond (ltb command most_commands) (limit command column) 0

-- the lesser of two
abbrev pub fewer : (n m : ℕ) → ℕ
fewer n m = cond (leb n m) n m

-- how many numbers there are behind the word of a command: what stands behind as many as the command takes is a name, though it be spelled as a number
unfoldable pub numbers_in : (command : ℕ) → List ℕ → ℕ
numbers_in command args = leading_numbers (limit_or command 5) args 1 (fewer (limit_or command 1) (looked (argument_count args)))

-- what the arguments ask for: the number of the command, how many numbers stand behind its word, and how many names behind these
pub record CallValues : Type 0 where
  pub command : ℕ
  pub numbers : ℕ
  pub names : ℕ

-- a call, its command by its number
abbrev pub call_told : Call → CallValues
call_told c = record { command = number_of_named c.command; numbers = c.numbers; names = c.names }

-- what the arguments ask for
unfoldable pub command_call : List ℕ → CallValues
command_call args =
    let command = command_number (argument 0 args) in
    let n = numbers_in command args in
    record { command = command; numbers = n; names = argument_count args - 1 - n }

-- a number is from the low one to the high one
abbrev pub is_between : (low n high : ℕ) → Bool
is_between low n high = leb low n && leb n high

-- the command is one, and takes as many numbers and names as there are
unfoldable pub takes_all : CallValues → Bool
takes_all c =
    let n = c.command in
    ltb n most_commands && (is_between (limit n 0) c.numbers (limit n 1) && is_between (limit n 2) c.names (limit n 3))

-- where the text comes from: 0 from nowhere, 1 from standard input, n above 1 from the file that the program's argument n names, its own name being
-- argument 0: the last one, where there are more names than the command must have
unfoldable pub text_source : List ℕ → ℕ
text_source args =
    let c = command_call args in
    cond (takes_all c && eqb (limit c.command 4) 1) (cond (ltb (limit c.command 2) c.names) (argument_count args) 1) 0

-- where the second text comes from, likewise: from the first name, where the command must have one
unfoldable pub second_source : List ℕ → ℕ
second_source args =
    let c = command_call args in
    cond (takes_all c && ltb 0 (limit c.command 2)) (2 + c.numbers) 0
