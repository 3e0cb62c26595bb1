-- The commands, by number from 0: their words, what they take, and what is said of them.
use Rattle.std.specs.Prelude.{List, [], ◌∷◌, ◌++◌, ℕ, ◌+◌, ◌*◌, get_or, Option, Some, None}
use Rattle.outcomes.specs.Texts.{ascii, text_part}
use Rattle.commands.specs.declared.command.Command.{Command}
use Rattle.commands.specs.declared.command.Command.TheVariants as command

-- how many there are
abbrev pub most_commands : ℕ
most_commands = 11

-- the number of each
abbrev pub number_of_command : Command → ℕ
number_of_command command.Report = 0
number_of_command command.Check = 1
number_of_command command.Pairs = 2
number_of_command command.Nearest = 3
number_of_command command.Apart = 4
number_of_command command.Classes = 5
number_of_command command.Hours = 6
number_of_command command.Cover = 7
number_of_command command.Picture = 8
number_of_command command.Help = 9
number_of_command command.Version = 10

-- the number of what a word names: the number behind the last where it is no command's
abbrev pub number_of_named : Option Command → ℕ
number_of_named None = most_commands
number_of_named (Some c) = number_of_command c

-- the word of each, ended by byte 0
unfoldable pub command_words : List ℕ
command_words = ascii "report\0check\0pairs\0nearest\0apart\0classes\0hours\0cover\0picture\0help\0version\0"

-- for each: the fewest and the most numbers behind its word, the fewest and the most names behind these, whether it reads a text, and whether `-` may
-- stand where a number does
unfoldable pub limits : List ℕ
limits =
    0 ∷ 0 ∷ 0 ∷ 1 ∷ 1 ∷ 0
    ∷ 0 ∷ 0 ∷ 0 ∷ 1 ∷ 1 ∷ 0
    ∷ 0 ∷ 1 ∷ 0 ∷ 1 ∷ 1 ∷ 0
    ∷ 4 ∷ 4 ∷ 0 ∷ 1 ∷ 1 ∷ 0
    ∷ 1 ∷ 6 ∷ 0 ∷ 1 ∷ 1 ∷ 0
    ∷ 0 ∷ 0 ∷ 0 ∷ 1 ∷ 1 ∷ 0
    ∷ 0 ∷ 0 ∷ 1 ∷ 2 ∷ 1 ∷ 0
    ∷ 4 ∷ 4 ∷ 0 ∷ 1 ∷ 1 ∷ 1
    ∷ 0 ∷ 0 ∷ 0 ∷ 1 ∷ 1 ∷ 0
    ∷ 0 ∷ 0 ∷ 0 ∷ 1 ∷ 0 ∷ 0
    ∷ 0 ∷ 0 ∷ 0 ∷ 0 ∷ 0 ∷ 0
    ∷ []

-- one of the six of a command
abbrev pub limit : (command column : ℕ) → ℕ
limit command column = get_or limits (6 * command + column) 0

-- how each is called, and behind them what is wanted where the word is none of theirs: a line each
unfoldable pub usage_lines : List ℕ
usage_lines =
    ascii "wanted: overlay report [FILE]\n"
    ++ ascii "wanted: overlay check [FILE]\n"
    ++ ascii "wanted: overlay pairs [LAYER] [FILE] (a layer by its number from 1 on, no plus, no leading zero)\n"
    ++ ascii "wanted: overlay nearest LEFT BOTTOM RIGHT TOP [FILE] (whole millimetres, at most eight digits, no plus, no leading zero)\n"
    ++ ascii "wanted: overlay apart PLACE.. [FILE], with a place for each layer (from 0 on, at most six, no plus, no leading zero)\n"
    ++ ascii "wanted: overlay classes [FILE]\n"
    ++ ascii "wanted: overlay hours WINDOWS-FILE [FILE]\n"
    ++ ascii "wanted: overlay cover LEFT BOTTOM RIGHT TOP [FILE], with a whole number of millimetres or - for each stop "
    ++ ascii "(at most eight digits, no plus, no leading zero)\n"
    ++ ascii "wanted: overlay picture [FILE]\n"
    ++ ascii "wanted: overlay help [COMMAND]\n"
    ++ ascii "wanted: overlay version\n"
    ++ ascii "wanted: overlay COMMAND [ARGUMENTS] [FILE], with a command of: "
    ++ ascii "report, check, pairs, nearest, apart, classes, hours, cover, picture, help, version\n"

abbrev pub usage : (command : ℕ) → List ℕ
usage command = text_part 10 command usage_lines

-- what `help` says of each, and behind them what it says of all; each ended by byte 0
unfoldable pub help_texts : List ℕ
help_texts =
    ascii "overlay report [FILE]\n"
    ++ ascii "The rows of a plan text: ROW, the layer of the left guard, the places, the area in square millimetres, the kind;\n"
    ++ ascii "then TOTAL, the rows, the trials, the ground of all rows in square metres, ground under several rows counted once.\n\0"
    ++ ascii "overlay check [FILE]\n"
    ++ ascii "Whether a text is a plan's: PLAN, layers, rectangles; or the line that is wrong and why, on standard error.\n\0"
    ++ ascii "overlay pairs [LAYER] [FILE]\n"
    ++ ascii "The rows of each two layers, or of each two of which one is LAYER: PAIR, both layers, both places, the area, the kind; then TOTAL.\n\0"
    ++ ascii "overlay nearest LEFT BOTTOM RIGHT TOP [FILE]\n"
    ++ ascii "What lies nearest to a box in each layer: NEAR, the layer, the place, the squared gap, the gap in millimetres; or NONE, the layer.\n\0"
    ++ ascii "overlay apart PLACE.. [FILE]\n"
    ++ ascii "Whether the rectangles at these places, one a layer, share a point: SHARE; or APART and the first two layers that do not.\n\0"
    ++ ascii "overlay classes [FILE]\n"
    ++ ascii "The crossing report: each ROW with its class at the end; CLASS, class, count for each class that has rows; TOTAL.\n\0"
    ++ ascii "overlay hours WINDOWS-FILE [FILE]\n"
    ++ ascii "The timed run of a plan text with a windows text, which has a line WINDOW, from, to for each rectangle, in minutes of the week:\n"
    ++ ascii "each ROW with the first minute that its windows share and the first after these at the end; TOTAL.\n"
    ++ ascii "Of a windows text that is wrong, the first wrong line is told.\n\0"
    ++ ascii "overlay cover LEFT BOTTOM RIGHT TOP [FILE]\n"
    ++ ascii "The covers of the corner records that meet the stops, - being no stop: LAYER, their number, 0; then RECT and four corners for each.\n"
    ++ ascii "The input is bytes: left, bottom, right, top of each record in millimetres, as 64-bit floats, the little end first;\n"
    ++ ascii "at most 65536 bytes, which are 2048 records, of which at most 512 are kept.\n\0"
    ++ ascii "overlay picture [FILE]\n"
    ++ ascii "A picture of a plan text as SVG: the layers, the common ground of every row, a legend and a scale.\n"
    ++ ascii "A plan that the report refuses has no picture.\n\0"
    ++ ascii "overlay help [COMMAND]\n"
    ++ ascii "What a command does, or all commands.\n\0"
    ++ ascii "overlay version\n"
    ++ ascii "The version: that of the interface, OVERLAY_VERSION in overlay.h.\n\0"
    ++ ascii "overlay COMMAND [ARGUMENTS] [FILE]\n"
    ++ ascii "The text is the file named last, or standard input where none is named; - is a file's name.\n"
    ++ ascii "Exit status: 0 done, 1 refused, 2 wrong arguments, 3 not read or not written.\n"
    ++ ascii "report [FILE]                           the rows in which all layers meet\n"
    ++ ascii "check [FILE]                            whether a text is a plan's, and what is wrong in which line\n"
    ++ ascii "pairs [LAYER] [FILE]                    the rows of each two layers\n"
    ++ ascii "nearest LEFT BOTTOM RIGHT TOP [FILE]    what lies nearest to a box in each layer\n"
    ++ ascii "apart PLACE.. [FILE]                    whether rectangles, one a layer, share a point\n"
    ++ ascii "classes [FILE]                          the rows with their classes\n"
    ++ ascii "hours WINDOWS-FILE [FILE]               the rows that are there at the same time, with their minutes\n"
    ++ ascii "cover LEFT BOTTOM RIGHT TOP [FILE]      the covers of corner records, as a layer of a plan text\n"
    ++ ascii "picture [FILE]                          a picture of a plan as SVG\n"
    ++ ascii "help [COMMAND]                          what a command does\n"
    ++ ascii "version                                 the version of the interface\n\0"

abbrev pub help_text : (command : ℕ) → List ℕ
help_text command = text_part 0 command help_texts

-- what `version` says: the version of the interface that include/overlay.h has
unfoldable pub version_line : List ℕ
version_line = ascii "overlay 14\n"
