-- Laws of the lines on standard error: how a line's number and a reason are put, and that there is room for them.
use mathlib.Core.Path.{◌≡◌, ap, ◌∙◌}
use mathlib.Core.List.{List, [], ◌∷◌, ◌++◌, append_assoc}
use Prim.Native.Nat.{ℕ, ◌+◌, ◌-◌, ◌≤◌}
use native.Mathlib.Omega.{arith}
use lib.ListN.{length, take, drop, length-append}
use Rattle.lists.specs.inner.Stores.{Put}
use Rattle.decimal.specs.Numerals.{decimal}
use Rattle.decimal.proofs.Numerals.{length-decimal, size-most}
use Rattle.printing.specs.inner.Parts.{FitsAt}
use Rattle.outcomes.specs.Texts.{ascii, text_part}
use Rattle.outcomes.specs.inner.Places.{EndsAt, StartsAt}
use Rattle.outcomes.specs.inner.Rooms.{room_for_words}
use Rattle.outcomes.proofs.Texts.{part_bytes, part-few}
use Rattle.checking.specs.Check.{line_error}
use Rattle.checking.specs.declared.reason.Reason.{Reason}
use Rattle.checking.specs.inner.Words.{reason_number, reason_lines, reason_text}

-- ---- a line of a text by its number
module _ (buf : List ℕ) (at n : ℕ) (text : List ℕ) (from end : ℕ) (s : StartsAt 10 n text from) (f : EndsAt 10 text from end) where
  part_same : take (end - from) (drop from text) ≡ text_part 10 n text
  part_same = part_bytes 10 text from end f ∙ s.part

  pub part_room : FitsAt buf at (text_part 10 n text ++ 10 ∷ []) → FitsAt buf at (take (end - from) (drop from text) ++ 10 ∷ [])
  part_room h = rw part_same h

  pub part-put : (last : List ℕ) (r : ℕ) → Put buf at (take (end - from) (drop from text) ++ 10 ∷ []) last r → Put buf at (text_part 10 n text ++ 10 ∷ []) last r
  part-put last r p = rw part_same at p

-- ---- a line's number and words
error-parts : (number : ℕ) (words : List ℕ) → line_error number words ≡ ascii "overlay: line " ++ (decimal number ++ (ascii ": " ++ (words ++ 10 ∷ [])))
unfolding line_error
error-parts number words = simp append_assoc

-- the words being a line of the table
pub error-is : (number : ℕ) (reason : Reason) (n : ℕ) (lines : List ℕ) → lines ≡ reason_lines → n ≡ reason_number reason
    → line_error number (reason_text reason) ≡ ascii "overlay: line " ++ (decimal number ++ (ascii ": " ++ (text_part 10 n lines ++ 10 ∷ [])))
unfolding reason_text
error-is number reason n lines e f = rw (e, f) (error-parts number (reason_text reason))

-- there is room for the words before the number
pub word_first : (buf : List ℕ) (at number : ℕ) (words : List ℕ) → FitsAt buf at (line_error number words) → at + 14 ≤ length buf
word_first buf at number words h = omega (arith, h.fits, ap length (error-parts number words))

reason-few : (reason : Reason) → length (reason_text reason) ≤ 866
unfolding reason_text reason_lines
reason-few reason = part-few 10 (reason_number reason) reason_lines

-- no number has more than twenty digits
pub error-few : (number : ℕ) (reason : Reason) → length (line_error number (reason_text reason)) ≤ 903
error-few number reason =
    let words = reason_text reason ++ 10 ∷ [] in
    rw (error-parts number (reason_text reason))
    (omega (
      arith,
      length-append (decimal number) (ascii ": " ++ words),
      length-decimal number,
      size-most 19 number,
      length-append (reason_text reason) (10 ∷ []),
      reason-few reason,
    ))

pub error-room : (err : List ℕ) (number : ℕ) (reason : Reason) → room_for_words ≤ length err → FitsAt err 0 (line_error number (reason_text reason))
error-room err number reason h = record { fits = omega (arith, error-few number reason) }
