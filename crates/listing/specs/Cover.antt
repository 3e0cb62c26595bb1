-- What the command `cover` says: the covers of corner records (02, Q-9) as a layer of a plan text. The records are bytes, the stops are whole numbers.
use Rattle.std.specs.Prelude.{List, [], ◌∷◌, Bool, true, false, cond, ℕ, ◌+◌, ◌*◌, ◌/◌, ◌%◌, eqb, leb, ℤ, pos, length, take, drop, Float}
use Rattle.std.specs.Float.{nan, binary64}
use Rattle.std.specs.Float.Ieee.{of_bits, of_int}
use Rattle.lists.specs.Lists.{upto}
use Rattle.geometry.specs.declared.Rect.{Rect}
use Rattle.plan.specs.Causes.{unless, on_cause}
use Rattle.line.specs.declared.Line.TheVariants.{Layer}
use Rattle.text.specs.Spelling.{spell}
use Rattle.text.specs.Plans.{rect_lines}
use Rattle.survey.specs.declared.Strip.{Strip}
use Rattle.survey.specs.declared.Strip.TheVariants.{Free, From, To, Between}
use Rattle.survey.specs.CoverCall.{kept, cover_cause, layer_of}
use Rattle.outcomes.specs.Outcomes.{Outcome, done, refused}

-- ---- records
-- bytes as a number, the little end first
abbrev pub word_of : List ℕ → ℕ
word_of [] = 0
word_of (b ∷ bs) = b + 256 * word_of bs

-- the 64-bit float whose pattern is in eight bytes; fewer are not a number
unfoldable pub float_at : List ℕ → ℕ → Float
float_at t i = cond (leb (8 * i + 8) (length t)) (of_bits binary64 (word_of (take 8 (drop (8 * i) t)))) nan

-- all of them, in their order; bytes that are left over are one more
abbrev pub floats_in : List ℕ → List Float
floats_in t = upto (float_at t) 0 ((length t + 7) / 8)

-- ---- stops
-- the strip of a lower and an upper stop, each where it is given
abbrev pub strip_of : (lower upper : Bool) → Float → Float → Strip
strip_of false false a b = Free
strip_of true false a b = From a
strip_of false true a b = To b
strip_of true true a b = Between a b

-- a whole number as a 64-bit float, which is exact up to 2 ^ 53
abbrev pub float_of : ℤ → Float
float_of z = of_int binary64 z

-- which stops are given, as a sum of weights: 1 left, 2 bottom, 4 right, 8 top
abbrev pub is_given : (given weight : ℕ) → Bool
is_given given weight = eqb (given / weight % 2) 1

-- the strip across, of the left and the right stop
abbrev pub across_of : Rect → (given : ℕ) → Strip
across_of stops given = strip_of (is_given given 1) (is_given given 4) (float_of stops.left) (float_of stops.right)

-- the strip upward, of the bottom and the top stop
abbrev pub upward_of : Rect → (given : ℕ) → Strip
upward_of stops given = strip_of (is_given given 2) (is_given given 8) (float_of stops.bottom) (float_of stops.top)

-- ---- the layer
-- its LAYER line, with margin 0, and its RECT lines
abbrev pub layer_text : (across upward : Strip) → List Float → List ℕ
layer_text across upward corners = spell (Layer (pos (length (kept across upward corners))) (pos 0) ∷ rect_lines (layer_of across upward corners))

-- what is said of corners: 21, 20 and 2 refuse them, where cells for any layer are lent
unfoldable pub corners_said : (across upward : Strip) → List Float → Outcome
corners_said across upward corners = on_cause (cover_cause across upward corners 2048) (done (layer_text across upward corners)) refused

-- what is said of the bytes of records: 13 comes first
unfoldable pub cover_said : (stops : Rect) (given : ℕ) → List ℕ → Outcome
cover_said stops given t =
    on_cause (unless (leb (length t) 65536) 13) (corners_said (across_of stops given) (upward_of stops given) (floats_in t)) refused
