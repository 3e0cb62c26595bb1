-- What is wrong in a windows text, in words; and which of these is wrong with a line that is not well formed: the first of the usual things that it has, as
-- `check` tells it of a plan text.
use Rattle.std.specs.Prelude.{List, [], ◌∷◌, ◌++◌, cond, ℕ}
use Rattle.line.specs.Places.{starts_with}
use Rattle.outcomes.specs.Texts.{ascii, text_part}
use Rattle.checking.specs.Reasons.{has, leading_zero, long_number, byte_order_mark}
use Rattle.listing.specs.declared.reason.Reason.{Reason}
use Rattle.listing.specs.declared.reason.Reason.TheVariants as reason

-- the word WINDOW and its tab
abbrev pub WINDOW : List ℕ
WINDOW = 87 ∷ 73 ∷ 78 ∷ 68 ∷ 79 ∷ 87 ∷ 9 ∷ []

-- the number of each; 0 stands for nothing wrong
abbrev pub reason_number : Reason → ℕ
reason_number reason.OtherNumbers = 1
reason_number reason.WrongWindow = 2
reason_number reason.ManyWindows = 3
reason_number reason.FewWindows = 4
reason_number reason.ByteOrderMark = 5
reason_number reason.CarriageReturn = 6
reason_number reason.BlankLine = 7
reason_number reason.Space = 8
reason_number reason.OtherWord = 9
reason_number reason.Plus = 10
reason_number reason.Point = 11
reason_number reason.LeadingZero = 12
reason_number reason.LongNumber = 13
reason_number reason.NoLineEnd = 14

-- the words, a line each, by number; 0 has none
unfoldable pub window_reasons : List ℕ
window_reasons =
    ascii "\n"
    ++ ascii "not the two numbers that WINDOW takes, each behind one tab\n"
    ++ ascii "from is less than 0 or not less than to, or to is greater than 10080\n"
    ++ ascii "more windows than rectangles\n"
    ++ ascii "fewer windows than rectangles\n"
    ++ ascii "a byte order mark\n"
    ++ ascii "a carriage return\n"
    ++ ascii "a blank line\n"
    ++ ascii "a space: fields are parted by one tab and nothing else\n"
    ++ ascii "a word that is not WINDOW, or no tab behind it\n"
    ++ ascii "a number with a plus\n"
    ++ ascii "a number with a point\n"
    ++ ascii "a number with a leading zero\n"
    ++ ascii "a number of nine digits or more\n"
    ++ ascii "no line end at the end of the text\n"

unfoldable pub window_words : (number : ℕ) → List ℕ
window_words number = text_part 10 number window_reasons

-- ---- a line that is not well formed: the number of its words, less one
-- what is wrong with its numbers
unfoldable pub numbers_reason : List ℕ → ℕ
numbers_reason l = cond (leading_zero 0 l) 11 (cond (long_number 0 l) 12 (cond (has 10 l) 0 13))

-- what is wrong behind its word and tab
unfoldable pub fields_reason : List ℕ → ℕ
fields_reason l = cond (has 32 l) 7 (cond (has 43 l) 9 (cond (has 46 l) 10 (numbers_reason l)))

-- what is wrong where its word is another: a space before it or behind it, or the word
unfoldable pub word_reason : List ℕ → ℕ
word_reason l = cond (starts_with (ascii " ") l) 7 (cond (starts_with (ascii "WINDOW ") l) 7 8)

-- what is wrong with it
unfoldable pub line_reason : List ℕ → ℕ
line_reason l =
    cond (starts_with byte_order_mark l) 4
    (cond (has 13 l) 5
    (cond (starts_with (10 ∷ []) l) 6
    (cond (starts_with WINDOW l) (fields_reason l) (word_reason l))))
