-- Theorem: small texts, and what `check` says of them. Proved in proofs/Cases.antt.
use Rattle.std.specs.Prelude.{◌≡◌, List, [], ◌++◌, ℕ, zero, suc, drop}
use Prim.Native.String.{String}
use Rattle.outcomes.specs.Texts.{ascii}
use Rattle.outcomes.specs.Outcomes.{error_line}
use Rattle.checking.specs.Reasons.{byte_order_mark}
use Rattle.checking.specs.Check.{more_error, check_of}

-- a text, and what is put on standard output and on standard error
pub record Says (t : List ℕ) (out err : String) : Type 0 where
  pub output : (check_of t).out ≡ ascii out
  pub error : (check_of t).err ≡ ascii err

-- a text, and the one line on standard error
abbrev pub Errs : (t words : List ℕ) → Type 0
Errs t words = (check_of t).err ≡ error_line words

-- words that several cases have
abbrev pub not_the_numbers : List ℕ
not_the_numbers = ascii "not the numbers that its word wants: PLAN 1, LAYER 2, RECT 4, each behind one tab"

abbrev pub a_space : List ℕ
a_space = ascii "a space: fields are parted by one tab and nothing else"

abbrev pub other_word : List ℕ
other_word = ascii "a word that is none of PLAN, LAYER and RECT, or no tab behind it"

-- bytes, so many times
abbrev pub times : ℕ → List ℕ → List ℕ
times zero l = []
times (suc n) l = l ++ times n l

-- the words of `check`, one case for each
pub record Cases : Type 0 where
  pub plan : Says (ascii "PLAN\t2\nLAYER\t1\t0\nRECT\t0\t0\t1\t1\nLAYER\t0\t50000\n") "PLAN\t2\t1\n" ""
  pub empty : Says (ascii "") "REFUSED\t9\n" "overlay: line 1: the text is empty\n"
  pub mark : Says (byte_order_mark ++ ascii "PLAN\t2\n") "REFUSED\t9\n" "overlay: line 1: a byte order mark\n"
  pub return : Says (ascii "PLAN\t2\r\n") "REFUSED\t9\n" "overlay: line 1: a carriage return\n"
  pub blank : Says (ascii "PLAN\t2\n\nLAYER\t0\t0\n") "REFUSED\t9\n" "overlay: line 2: a blank line\n"
  pub no_plan : Says (ascii "LAYER\t0\t0\n") "REFUSED\t9\n" "overlay: line 1: the first line is no PLAN line\n"
  pub second_plan : Says (ascii "PLAN\t2\nLAYER\t0\t0\nPLAN\t2\n") "REFUSED\t9\n" "overlay: line 3: a second PLAN line\n"
  pub space : Says (ascii "PLAN\t2\nLAYER 0\t0\n") "REFUSED\t9\n" "overlay: line 2: a space: fields are parted by one tab and nothing else\n"
  pub word : Says (ascii "PLAN\t2\nZONE\t0\t0\n") "REFUSED\t9\n" "overlay: line 2: a word that is none of PLAN, LAYER and RECT, or no tab behind it\n"
  pub one_number : Says (ascii "PLAN\t2\nLAYER\t0\n") "REFUSED\t9\n" "overlay: line 2: a LAYER line with one number\n"
  pub plus : Says (ascii "PLAN\t+2\n") "REFUSED\t9\n" "overlay: line 1: a number with a plus\n"
  pub point : Says (ascii "PLAN\t2\nLAYER\t1\t0\nRECT\t0\t0\t1.5\t1\n") "REFUSED\t9\n" "overlay: line 3: a number with a point\n"
  pub leading_zero : Says (ascii "PLAN\t02\n") "REFUSED\t9\n" "overlay: line 1: a number with a leading zero\n"
  pub minus_zero : Says (ascii "PLAN\t2\nLAYER\t1\t0\nRECT\t-0\t0\t1\t1\n") "REFUSED\t9\n" "overlay: line 3: a number with a leading zero\n"
  pub nine_digits : Says (ascii "PLAN\t2\nLAYER\t1\t0\nRECT\t0\t0\t100000000\t1\n") "REFUSED\t9\n" "overlay: line 3: a number of nine digits or more\n"
  pub no_line : Says (ascii "PLAN\t2\nRECT\t0\t0\n") "REFUSED\t9\n"
      "overlay: line 2: not the numbers that its word wants: PLAN 1, LAYER 2, RECT 4, each behind one tab\n"
  -- a number too many, a tab too many, something that is no number
  pub third : Errs (ascii "PLAN\t2\t3\n") (ascii "line 1: " ++ not_the_numbers)
  pub tab_behind : Errs (ascii "PLAN\t2\t\n") (ascii "line 1: " ++ not_the_numbers)
  pub letter : Errs (ascii "PLAN\t2\nRECT\t0\t0\tx\t1\n") (ascii "line 2: " ++ not_the_numbers)
  -- LAYER lines with no number
  pub no_number : Errs (ascii "PLAN\t2\nLAYER\t\n") (ascii "line 2: " ++ not_the_numbers)
  pub letters : Errs (ascii "PLAN\t2\nLAYER\tabc\n") (ascii "line 2: " ++ not_the_numbers)
  pub plus_alone : Errs (ascii "PLAN\t2\nLAYER\t+5\n") (ascii "line 2: a number with a plus")
  -- spaces
  pub space_first : Errs (ascii " PLAN\t2\n") (ascii "line 1: " ++ a_space)
  pub space_behind : Errs (ascii "PLAN\t2 \n") (ascii "line 1: " ++ a_space)
  pub plan_space : Errs (ascii "PLAN 7\n") (ascii "line 1: " ++ a_space)
  pub comment : Errs (ascii "PLAN\t2\n# a comment\n") (ascii "line 2: " ++ other_word)
  pub zone : Errs (ascii "PLAN\t2\nZONE A\t1\n") (ascii "line 2: " ++ other_word)
  pub word_alone : Errs (ascii "PLAN\n") (ascii "line 1: " ++ other_word)
  pub no_end : Says (ascii "PLAN\t2\nLAYER\t0\t0") "REFUSED\t9\n" "overlay: line 2: no line end at the end of the text\n"
  pub few_layers : Says (ascii "PLAN\t1\nLAYER\t0\t0\n") "REFUSED\t10\n" "overlay: line 1: a plan of fewer than 2 layers, or more than 6\n"
  pub layers : Says (ascii "PLAN\t3\nLAYER\t0\t0\nLAYER\t0\t0\n") "REFUSED\t10\n" "overlay: line 1: the PLAN line says another number of LAYER lines\n"
  pub size : Says (ascii "PLAN\t2\nLAYER\t-1\t0\nLAYER\t0\t0\n") "REFUSED\t10\n" "overlay: line 2: a layer of more than 512 rectangles, or fewer than 0\n"
  pub margin : Says (ascii "PLAN\t2\nLAYER\t0\t50001\nLAYER\t0\t0\n") "REFUSED\t10\n" "overlay: line 2: a margin above 50000 or below 0\n"
  pub fewer : Says (ascii "PLAN\t2\nLAYER\t1\t0\nLAYER\t0\t0\n") "REFUSED\t10\n" "overlay: line 2: fewer RECT lines than this LAYER line says\n"
  -- told of the first line too many, not of the next
  pub more : Says (ascii "PLAN\t2\nLAYER\t0\t0\nLAYER\t0\t0\nRECT\t0\t0\t1\t1\nRECT\t0\t0\t1\t1\n") "REFUSED\t10\n"
      "overlay: line 4: more RECT lines than the LAYER line says\n"
  pub before : Says (ascii "PLAN\t2\nRECT\t0\t0\t1\t1\nLAYER\t0\t0\nLAYER\t0\t0\n") "REFUSED\t10\n" "overlay: line 2: a RECT line before any LAYER line\n"
  pub order : Says (ascii "PLAN\t2\nLAYER\t0\t0\nLAYER\t1\t0\nRECT\t1\t0\t0\t1\n") "REFUSED\t10\n" "overlay: line 4: left above right\n"
  pub range : Says (ascii "PLAN\t2\nLAYER\t0\t0\nLAYER\t1\t0\nRECT\t0\t0\t10000001\t1\n") "REFUSED\t10\n"
      "overlay: line 4: a coordinate above 10000000 or below -10000000\n"
  pub upright : Errs (ascii "PLAN\t2\nLAYER\t0\t0\nLAYER\t1\t0\nRECT\t0\t1\t0\t0\n") (ascii "line 4: bottom above top")
  -- all of them, line by line
  pub several : (check_of (ascii "PLAN\t7\nLAYER\t2\t60000\nRECT\t3\t0\t1\t1\n")).err
      ≡ ascii "overlay: line 1: a plan of fewer than 2 layers, or more than 6\n"
      ++ (ascii "overlay: line 1: the PLAN line says another number of LAYER lines\n"
      ++ (ascii "overlay: line 2: a margin above 50000 or below 0\n"
      ++ (ascii "overlay: line 3: left above right\n"
      ++ ascii "overlay: line 2: fewer RECT lines than this LAYER line says\n")))
  -- a last line behind 64 others
  pub enough : more_error 64 ≡ []
  pub one_more : more_error 65 ≡ ascii "overlay: more is wrong\n"
  -- a text with 67 things wrong, two for each LAYER line and one for the PLAN line: behind the bytes of 64 of them
  pub many : drop 3872 (check_of (ascii "PLAN\t2\n" ++ times 33 (ascii "LAYER\t-1\t-1\n"))).err ≡ ascii "overlay: more is wrong\n"
  -- a rectangle with everything wrong
  pub all_sides : (check_of (ascii "PLAN\t2\nLAYER\t0\t0\nLAYER\t1\t0\nRECT\t20000000\t6\t5\t5\n")).err
      ≡ ascii "overlay: line 4: left above right\n"
      ++ (ascii "overlay: line 4: bottom above top\n"
      ++ ascii "overlay: line 4: a coordinate above 10000000 or below -10000000\n")
