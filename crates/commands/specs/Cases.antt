-- Theorem: calls of the program, computed: which command, how many numbers and names, where the texts come from, and what is said of words. Proved in
-- proofs/Cases.antt.
use Rattle.std.specs.Prelude.{◌≡◌, [], ◌∷◌, ◌++◌, Bool, true, false, ℕ, pos, negsuc}
use Prim.Native.String.{String}
use Rattle.outcomes.specs.Texts.{ascii, up_to}
use Rattle.outcomes.specs.Outcomes.{cause_text}
use Rattle.commands.specs.Commands.{usage, help_text}
use Rattle.commands.specs.Arguments.{box_of, layer_in, places_from, given_in, command_call, takes_all, text_source, second_source}
use Rattle.commands.specs.Outcomes.{command_of}

-- arguments, the command that they ask for, its numbers and names, whether they fit, and where its texts come from
pub record Asks (arguments : String) (command numbers names : ℕ) (fit : Bool) (text second : ℕ) : Type 0 where
  pub call : command_call (ascii arguments) ≡ record { command = command; numbers = numbers; names = names }
  pub fitting : takes_all (command_call (ascii arguments)) ≡ fit
  pub text_from : text_source (ascii arguments) ≡ text
  pub second_from : second_source (ascii arguments) ≡ second

-- each command with and without a file, and calls that fit none
pub record Cases : Type 0 where
  pub none : Asks "" 11 0 0 false 0 0
  pub unknown : Asks "rows\0" 11 0 0 false 0 0
  pub report : Asks "report\0" 0 0 0 true 1 0
  pub report_file : Asks "report\0a\0" 0 0 1 true 2 0
  pub report_number : Asks "report\07\0" 0 0 1 true 2 0
  pub report_two : Asks "report\0a\0b\0" 0 0 2 false 0 0
  pub check_file : Asks "check\0a\0" 1 0 1 true 2 0
  pub pairs : Asks "pairs\0" 2 0 0 true 1 0
  pub pairs_layer : Asks "pairs\06\0" 2 1 0 true 1 0
  pub pairs_file : Asks "pairs\06\0a\0" 2 1 1 true 3 0
  pub nearest : Asks "nearest\01\0-2\03\04\0a\0" 3 4 1 true 6 0
  pub nearest_number : Asks "nearest\01\02\03\04\05\0" 3 4 1 true 6 0
  pub nearest_three : Asks "nearest\01\02\03\0a\0" 3 3 1 false 0 0
  pub apart : Asks "apart\00\01\0a\0" 4 2 1 true 4 0
  pub classes : Asks "classes\0a\0" 5 0 1 true 2 0
  pub hours_none : Asks "hours\0" 6 0 0 false 0 0
  pub hours_one : Asks "hours\0w\0" 6 0 1 true 1 2
  pub hours_two : Asks "hours\0w\0a\0" 6 0 2 true 3 2
  pub cover : Asks "cover\00\0-\020000\0-\0" 7 4 0 true 1 0
  pub cover_file : Asks "cover\0-\0-\0-\0-\0-\0" 7 4 1 true 6 0
  pub cover_three : Asks "cover\01\02\0-\0a\0" 7 3 1 false 0 0
  pub cover_word : Asks "cover\01\0--\03\04\0" 7 1 3 false 0 0
  pub nearest_dash : Asks "nearest\01\0-\03\04\0" 3 1 3 false 0 0
  pub picture_file : Asks "picture\0a\0" 8 0 1 true 2 0
  pub help : Asks "help\0check\0" 9 0 1 true 0 0
  pub version : Asks "version\0" 10 0 0 true 0 0
  -- the numbers in their order; a layer 0 that is given is none, and so is a place below 0
  pub box : box_of (ascii "nearest\01\0-2\03\04\0") ≡ record { left = pos 1; bottom = negsuc 1; right = pos 3; top = pos 4 }
  pub layer : (layer_in 0 (ascii "pairs\0") ≡ 0) × (layer_in 1 (ascii "pairs\06\0") ≡ 6) × (layer_in 1 (ascii "pairs\00\0") ≡ 4294967295)
  -- which stops are given; one that is not has the value 0
  pub given : (given_in (ascii "cover\00\0-\020000\0-\0") ≡ 5) × (given_in (ascii "cover\0-\01\0-\02\0") ≡ 10)
  pub stops : box_of (ascii "cover\05\0-\0-6\0-\0") ≡ record { left = pos 5; bottom = pos 0; right = negsuc 5; top = pos 0 }
  pub places : places_from (ascii "apart\05\00\0-1\0") 1 3 ≡ 5 ∷ 0 ∷ 4294967295 ∷ []
  -- what is wanted of each command, and where the word is none of theirs
  pub usages : (usage 0 ≡ ascii "wanted: overlay report [FILE]")
      × (usage 1 ≡ ascii "wanted: overlay check [FILE]")
      × (usage 2 ≡ ascii "wanted: overlay pairs [LAYER] [FILE] (a layer by its number from 1 on, no plus, no leading zero)")
      × (usage 3 ≡ ascii "wanted: overlay nearest LEFT BOTTOM RIGHT TOP [FILE] (whole millimetres, at most eight digits, no plus, no leading zero)")
      × (usage 4 ≡ ascii "wanted: overlay apart PLACE.. [FILE], with a place for each layer (from 0 on, at most six, no plus, no leading zero)")
      × (usage 5 ≡ ascii "wanted: overlay classes [FILE]")
      × (usage 6 ≡ ascii "wanted: overlay hours WINDOWS-FILE [FILE]")
      × (usage 7
      ≡ ascii "wanted: overlay cover LEFT BOTTOM RIGHT TOP [FILE], with a whole number of millimetres or - for each stop "
      ++ ascii "(at most eight digits, no plus, no leading zero)")
      × (usage 8 ≡ ascii "wanted: overlay picture [FILE]")
      × (usage 9 ≡ ascii "wanted: overlay help [COMMAND]")
      × (usage 10 ≡ ascii "wanted: overlay version")
      × (usage 11
      ≡ ascii "wanted: overlay COMMAND [ARGUMENTS] [FILE], with a command of: "
      ++ ascii "report, check, pairs, nearest, apart, classes, hours, cover, picture, help, version")
  -- the help of each command begins with how it is called
  pub helps : (up_to 10 (help_text 0) ≡ ascii "overlay report [FILE]")
      × (up_to 10 (help_text 1) ≡ ascii "overlay check [FILE]")
      × (up_to 10 (help_text 2) ≡ ascii "overlay pairs [LAYER] [FILE]")
      × (up_to 10 (help_text 3) ≡ ascii "overlay nearest LEFT BOTTOM RIGHT TOP [FILE]")
      × (up_to 10 (help_text 4) ≡ ascii "overlay apart PLACE.. [FILE]")
      × (up_to 10 (help_text 5) ≡ ascii "overlay classes [FILE]")
      × (up_to 10 (help_text 6) ≡ ascii "overlay hours WINDOWS-FILE [FILE]")
      × (up_to 10 (help_text 7) ≡ ascii "overlay cover LEFT BOTTOM RIGHT TOP [FILE]")
      × (up_to 10 (help_text 8) ≡ ascii "overlay picture [FILE]")
      × (up_to 10 (help_text 9) ≡ ascii "overlay help [COMMAND]")
      × (up_to 10 (help_text 10) ≡ ascii "overlay version")
  pub help_version : help_text 10 ≡ ascii "overlay version\nThe version: that of the interface, OVERLAY_VERSION in overlay.h.\n"
  -- each cause in words, and any other number
  pub causes : (cause_text 1 ≡ ascii "the plan has not 2 to 6 layers")
      × (cause_text 2 ≡ ascii "a layer has more than 512 rectangles, or more than 512 records are kept")
      × (cause_text 3 ≡ ascii "the cells are not four for each rectangle")
      × (cause_text 4 ≡ ascii "a coordinate is not from -10000000 to 10000000, left is greater than right or bottom greater than top")
      × (cause_text 5 ≡ ascii "the order is not the sweep order of the plan")
      × (cause_text 6 ≡ ascii "the ticket is none of this plan")
      × (cause_text 7 ≡ ascii "there are more rows than 12288 / k, k being the number of layers; overlay pairs has no such limit")
      × (cause_text 8 ≡ ascii "the order buffer has not one cell for each rectangle")
      × (cause_text 9 ≡ ascii "the text is not well formed (overlay check tells the line)")
      × (cause_text 10
      ≡ ascii "the text is well formed, but layers or rectangles are miscounted, or a number is out of range or out of order "
      ++ ascii "(overlay check tells the line)")
      × (cause_text 11 ≡ ascii "the cells are too few")
      × (cause_text 12 ≡ ascii "the text is longer than the buffer")
      × (cause_text 13 ≡ ascii "the input has more than 65536 bytes")
      × (cause_text 14 ≡ ascii "the box has left greater than right, bottom greater than top or a coordinate out of range")
      × (cause_text 15 ≡ ascii "the plan has fewer than three layers")
      × (cause_text 16
      ≡ ascii "the last two layers are not segments without margin: east to west (bottom = top) in the last but one, "
      ++ ascii "north to south (left = right) in the last")
      × (cause_text 17 ≡ ascii "a margin is greater than 50000")
      × (cause_text 18 ≡ ascii "the ticket is not the newest of its run")
      × (cause_text 19 ≡ ascii "the work buffer is shorter than two cells for each row")
      × (cause_text 20 ≡ ascii "the corners are not four a record, or one is not finite, out of order or beyond ten million")
      × (cause_text 21 ≡ ascii "a stop is not finite, or the lower one of a strip is greater than the upper one")
      × (cause_text 22 ≡ ascii "a round has not 1 to 16 clients, or its budget or its records are wrong")
      × (cause_text 23 ≡ ascii "there is not one place for each layer, or a place is not in its layer")
      × (cause_text 24 ≡ ascii "there is not one window for each rectangle, or one does not end behind its start within the week of 10080 minutes")
      × (cause_text 25 ≡ ascii "other")
  -- status and standard error of wrong arguments and of `version`
  pub misused_version : command_of (ascii "version\0a\0") [] [] ≡ record { status = 2; out = []; err = ascii "overlay: wanted: overlay version\n" }
  pub done_version : command_of (ascii "version\0") [] [] ≡ record { status = 0; out = ascii "overlay 14\n"; err = [] }
