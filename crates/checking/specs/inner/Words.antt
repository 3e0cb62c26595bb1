-- The reasons by number, as the code tells them; no public call's contract cites this.
use Rattle.std.specs.Prelude.{List, ◌++◌, ℕ}
use Rattle.outcomes.specs.Texts.{ascii, text_part}
use Rattle.checking.specs.declared.reason.Reason.{Reason}
use Rattle.checking.specs.declared.reason.Reason.TheVariants as reason

-- the number of each
abbrev pub reason_number : Reason → ℕ
reason_number reason.EmptyText = 0
reason_number reason.ByteOrderMark = 1
reason_number reason.CarriageReturn = 2
reason_number reason.BlankLine = 3
reason_number reason.NoPlanLine = 4
reason_number reason.SecondPlanLine = 5
reason_number reason.Space = 6
reason_number reason.OtherWord = 7
reason_number reason.OneNumber = 8
reason_number reason.Plus = 9
reason_number reason.Point = 10
reason_number reason.LeadingZero = 11
reason_number reason.LongNumber = 12
reason_number reason.OtherNumbers = 13
reason_number reason.NoLineEnd = 14
reason_number reason.WrongLayerCount = 15
reason_number reason.OtherLayerCount = 16
reason_number reason.WrongSize = 17
reason_number reason.WrongMargin = 18
reason_number reason.FewRects = 19
reason_number reason.ManyRects = 20
reason_number reason.EarlyRect = 21
reason_number reason.LeftAboveRight = 22
reason_number reason.BottomAboveTop = 23
reason_number reason.OutOfRange = 24

-- all reasons, a line each, from 0
unfoldable pub reason_lines : List ℕ
reason_lines = ascii "the text is empty\n"
    ++ ascii "a byte order mark\n"
    ++ ascii "a carriage return\n"
    ++ ascii "a blank line\n"
    ++ ascii "the first line is no PLAN line\n"
    ++ ascii "a second PLAN line\n"
    ++ ascii "a space: fields are parted by one tab and nothing else\n"
    ++ ascii "a word that is none of PLAN, LAYER and RECT, or no tab behind it\n"
    ++ ascii "a LAYER line with one number\n"
    ++ ascii "a number with a plus\n"
    ++ ascii "a number with a point\n"
    ++ ascii "a number with a leading zero\n"
    ++ ascii "a number of nine digits or more\n"
    ++ ascii "not the numbers that its word wants: PLAN 1, LAYER 2, RECT 4, each behind one tab\n"
    ++ ascii "no line end at the end of the text\n"
    ++ ascii "a plan of fewer than 2 layers, or more than 6\n"
    ++ ascii "the PLAN line says another number of LAYER lines\n"
    ++ ascii "a layer of more than 512 rectangles, or fewer than 0\n"
    ++ ascii "a margin above 50000 or below 0\n"
    ++ ascii "fewer RECT lines than this LAYER line says\n"
    ++ ascii "more RECT lines than the LAYER line says\n"
    ++ ascii "a RECT line before any LAYER line\n"
    ++ ascii "left above right\n"
    ++ ascii "bottom above top\n"
    ++ ascii "a coordinate above 10000000 or below -10000000\n"

-- the words of a reason
unfoldable pub reason_text : Reason → List ℕ
reason_text r = text_part 10 (reason_number r) reason_lines
