-- What is wrong with a line that is not well formed, in words: the first of the usual things that it has.
use Rattle.std.specs.Prelude.{List, [], ◌∷◌, Bool, false, cond, ◌&&◌, ◌||◌, ℕ, suc, eqb, leb, length, drop}
use Rattle.lists.specs.Lists.{is_some}
use Rattle.line.specs.Lines.{PLAN, LAYER, RECT}
use Rattle.line.specs.Parsing.{line}
use Rattle.line.specs.Places.{starts_with}
use Rattle.outcomes.specs.Texts.{ascii}

-- a byte stands in a line
abbrev pub has : (byte : ℕ) → List ℕ → Bool
has byte [] = false
has byte (b ∷ l) = eqb b byte || has byte l

-- a digit 0 to 9
unfoldable pub digit : (byte : ℕ) → Bool
digit b = leb 48 b && leb b 57

-- the next byte is a digit
abbrev pub digit_next : List ℕ → Bool
digit_next [] = false
digit_next (b ∷ l) = digit b

-- a number starts with 0 and goes on: behind `before`, which is a minus, or a tab, the byte b is 0, and behind a tab a digit follows
unfoldable pub zero_leads : (before b : ℕ) → List ℕ → Bool
zero_leads before b l = eqb b 48 && (eqb before 45 || (eqb before 9 && digit_next l))

-- ... somewhere in a line, whose byte before these is `before`
abbrev pub leading_zero : (before : ℕ) → List ℕ → Bool
leading_zero before [] = false
leading_zero before (b ∷ l) = zero_leads before b l || leading_zero b l

-- how many digits stand in a row up to the byte b, where `run` did before it
unfoldable pub run_on : (run b : ℕ) → ℕ
run_on run b = cond (digit b) (suc run) 0

-- nine digits or more stand in a row somewhere in a line, where `run` did before these bytes
abbrev pub long_number : (run : ℕ) → List ℕ → Bool
long_number run [] = false
long_number run (b ∷ l) = leb 9 (run_on run b) || long_number (run_on run b) l

-- the three bytes that some editors put before a text
abbrev pub byte_order_mark : List ℕ
byte_order_mark = 239 ∷ 187 ∷ 191 ∷ []

-- a line starts with one of the three words, and a tab
unfoldable pub worded : List ℕ → Bool
worded l = starts_with RECT l || (starts_with LAYER l || starts_with PLAN l)

-- a line starts with one of the three words and a space, or with a space
unfoldable pub spaced : List ℕ → Bool
spaced l = starts_with (ascii " ") l || (starts_with (ascii "RECT ") l || (starts_with (ascii "LAYER ") l || starts_with (ascii "PLAN ") l))

-- digits, if any, and the line end stand there
abbrev pub digits_end : List ℕ → Bool
digits_end [] = false
digits_end (b ∷ l) = cond (digit b) (digits_end l) (eqb b 10)

-- a LAYER line with one number. 02, Q-4: "old LAYER lines are no longer well formed"
unfoldable pub one_number : List ℕ → Bool
one_number l = starts_with LAYER l && (digit_next (drop 6 l) && digits_end (drop 6 l))

-- what is wrong with a line whose numbers are not at fault one by one
unfoldable pub count_reason : List ℕ → List ℕ
count_reason l =
    cond (one_number l) (ascii "a LAYER line with one number")
    (cond (has 10 l) (ascii "not the numbers that its word wants: PLAN 1, LAYER 2, RECT 4, each behind one tab")
    (ascii "no line end at the end of the text"))

-- what is wrong with the numbers of a line
unfoldable pub number_reason : List ℕ → List ℕ
number_reason l =
    cond (has 43 l) (ascii "a number with a plus")
    (cond (has 46 l) (ascii "a number with a point")
    (cond (leading_zero 0 l) (ascii "a number with a leading zero")
    (cond (long_number 0 l) (ascii "a number of nine digits or more")
    (count_reason l))))

-- what is wrong with a line behind its word and tab
unfoldable pub worded_reason : List ℕ → List ℕ
worded_reason l = cond (has 32 l) (ascii "a space: fields are parted by one tab and nothing else") (number_reason l)

-- what is wrong with its word, else with its fields
unfoldable pub field_reason : List ℕ → List ℕ
field_reason l =
    cond (worded l) (worded_reason l)
    (cond (spaced l) (ascii "a space: fields are parted by one tab and nothing else")
    (ascii "a word that is none of PLAN, LAYER and RECT, or no tab behind it"))

-- what is wrong with a line of the three that may not stand where it does
unfoldable pub place_reason : (first : Bool) → List ℕ
place_reason first = cond first (ascii "the first line is no PLAN line") (ascii "a second PLAN line")

-- what is wrong with a line, the first of a text or another
unfoldable pub reason_of : (first : Bool) → List ℕ → List ℕ
reason_of first l =
    cond (eqb (length l) 0) (ascii "the text is empty")
    (cond (starts_with byte_order_mark l) (ascii "a byte order mark")
    (cond (has 13 l) (ascii "a carriage return")
    (cond (starts_with (10 ∷ []) l) (ascii "a blank line")
    (cond (is_some (line l)) (place_reason first)
    (field_reason l)))))
