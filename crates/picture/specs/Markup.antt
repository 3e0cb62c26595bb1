-- Well-formed markup, of the kind that a picture is made of: elements and attributes with names of letters, values between apostrophes, no entities, and
-- only bytes that are printed, tabs and line ends.
use Rattle.std.specs.Prelude.{List, [], ◌∷◌, ◌++◌, Bool, cond, ◌&&◌, ◌||◌, ℕ, eqb, leb}

-- how far a document is read; `opened` are the names of the elements that are not ended yet, the innermost first
pub data State : Type 0 where
  -- at its start
  start : State
  -- between two tags
  text : (opened : List (List ℕ)) → State
  -- in the name of a tag, whose bytes so far these are
  tag : (name : List ℕ) (opened : List (List ℕ)) → State
  -- in a start tag, behind a space
  spaced : (name : List ℕ) (opened : List (List ℕ)) → State
  -- in the name of an attribute
  attribute : (name : List ℕ) (opened : List (List ℕ)) → State
  -- behind the = of an attribute
  given : (name : List ℕ) (opened : List (List ℕ)) → State
  -- in its value
  value : (name : List ℕ) (opened : List (List ℕ)) → State
  -- behind its value
  behind : (name : List ℕ) (opened : List (List ℕ)) → State
  -- behind the / of an element without content
  empty : (opened : List (List ℕ)) → State
  -- in an end tag, with these bytes of the name to come
  ending : (rest : List ℕ) (opened : List (List ℕ)) → State
  -- behind the document's one element
  end : State
  -- not well formed
  wrong : State

-- a letter of a name: 65 to 90, 97 to 122
abbrev pub is_letter : ℕ → Bool
is_letter b = (leb 65 b && leb b 90) || (leb 97 b && leb b 122)

-- a byte of a text or a value: 32 to 126, 9 is a tab, 10 ends a line
abbrev pub is_printed : ℕ → Bool
is_printed b = (leb 32 b && leb b 126) || (eqb b 9 || eqb b 10)

-- behind an element
abbrev pub left : List (List ℕ) → State
left [] = end
left (n ∷ opened) = text (n ∷ opened)

-- at an end tag, which is that of the innermost element
abbrev pub closing : List (List ℕ) → State
closing [] = wrong
closing (n ∷ opened) = ending n opened

-- a byte of a tag's name: 47 is /, 62 is >, 32 is a space
abbrev pub in_tag : (name : List ℕ) (opened : List (List ℕ)) → ℕ → State
in_tag [] opened b = cond (eqb b 47) (closing opened) (cond (is_letter b) (tag (b ∷ []) opened) wrong)
in_tag (c ∷ n) opened b =
    cond (eqb b 47) (empty opened)
    (cond (eqb b 62) (text ((c ∷ n) ∷ opened)) (cond (eqb b 32) (spaced (c ∷ n) opened) (cond (is_letter b) (tag (c ∷ n ++ b ∷ []) opened) wrong)))

-- a byte of an end tag
abbrev pub in_end : (rest : List ℕ) (opened : List (List ℕ)) → ℕ → State
in_end [] opened b = cond (eqb b 62) (left opened) wrong
in_end (c ∷ n) opened b = cond (eqb b c) (ending n opened) wrong

-- a byte more: 60 is <, 61 is =, 38 is &, 39 is the apostrophe
unfoldable pub step : State → ℕ → State
step start b = cond (eqb b 60) (tag [] []) wrong
step (text opened) b = cond (eqb b 60) (tag [] opened) (cond (eqb b 62 || eqb b 38) wrong (cond (is_printed b) (text opened) wrong))
step (tag n opened) b = in_tag n opened b
step (spaced n opened) b = cond (is_letter b) (attribute n opened) wrong
step (attribute n opened) b = cond (eqb b 61) (given n opened) (cond (is_letter b) (attribute n opened) wrong)
step (given n opened) b = cond (eqb b 39) (value n opened) wrong
step (value n opened) b = cond (eqb b 39) (behind n opened) (cond (eqb b 60 || eqb b 38) wrong (cond (is_printed b) (value n opened) wrong))
step (behind n opened) b = cond (eqb b 32) (spaced n opened) (cond (eqb b 62) (text (n ∷ opened)) (cond (eqb b 47) (empty opened) wrong))
step (empty opened) b = cond (eqb b 62) (left opened) wrong
step (ending n opened) b = in_end n opened b
step end b = cond (eqb b 10) end wrong
step wrong b = wrong

-- bytes more
abbrev pub scan : State → List ℕ → State
scan s [] = s
scan s (b ∷ t) = scan (step s b) t
