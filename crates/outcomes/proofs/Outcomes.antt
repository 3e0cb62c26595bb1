-- Laws of outcomes: how one is told, by bytes put at the start of the two buffers.
use mathlib.Core.Path.{◌≡◌, refl, sym, ap, ◌∙◌}
use mathlib.Core.List.{List, [], ◌∷◌, ◌++◌}
use Prim.Native.Nat.{ℕ, ◌+◌, ◌-◌, ◌≤◌, ◌<◌}
use native.Mathlib.Omega.{arith}
use lib.ListN.{length, take, drop, length-append}
use borrow.Author.Tests.{le-leb, lt-leb}
use Rattle.lists.specs.inner.Stores.{Put}
use Rattle.lists.proofs.Stores.{put-start, put-length}
use Rattle.plan.specs.declared.cause.Cause.{Cause}
use Rattle.plan.specs.declared.cause.Cause.TheVariants as cause
use Rattle.plan.specs.Causes.{number_of}
use Rattle.outcomes.specs.declared.Status.{Status}
use Rattle.outcomes.specs.declared.Status.TheVariants as status
use Rattle.outcomes.specs.declared.Reply.{Reply}
use Rattle.printing.specs.inner.Parts.{FitsAt}
use Rattle.printing.specs.Lines.{refused_line}
use Rattle.printing.proofs.Lines.{refused-few}
use Rattle.printing.proofs.Puts.{put_same}
use Rattle.outcomes.specs.Texts.{ascii, text_part}
use Rattle.outcomes.specs.inner.Places.{EndsAt, StartsAt}
use Rattle.outcomes.specs.inner.Rooms.{Room, room_for_words}
use Rattle.outcomes.specs.Outcomes.{Outcome, exit_status, done_reply, refused_reply, misused_reply, Told, error_line, cause_lines, cause_line, cause_text, refused_with, refused, misused, done}
use Rattle.outcomes.proofs.Texts.{part-few, part_bytes}

-- nothing is put
pub put-none : (buf : List ℕ) → Put buf 0 [] buf 0
put-none buf = record { place = refl; stored = refl }

module _ (o : Outcome) (out err out_after errAfter : List ℕ) where
  -- both are put
  pub told-both : (status : Status) (m n : ℕ) → exit_status status ≡ o.status → length o.out ≤ length out → Put out 0 o.out out_after m → length o.err ≤ length err
      → Put err 0 o.err errAfter n → Told o out err out_after errAfter (record { status = status; out = m; err = n })
  told-both status m n s h p k q =
      record {
        status = s;
        out_size = omega (arith, p.place);
        err_size = omega (arith, q.place);
        out_bytes = put-start out out_after o.out m h p;
        err_bytes = put-start err errAfter o.err n k q;
      }

  -- another outcome that is the same
  pub told_same : (r : Reply) (same : Outcome) → Told o out err out_after errAfter r → same ≡ o → Told same out err out_after errAfter r
  told_same r same t e = rw e t

module _ (out err : List ℕ) where
  -- an answer stands in the first n bytes
  pub told-done : (bytes out_after : List ℕ) (n : ℕ) → length bytes ≤ length out → Put out 0 bytes out_after n
      → Told (done bytes) out err out_after err (done_reply n)
  unfolding done
  told-done bytes out_after n h p = told-both (done bytes) out err out_after err status.Done n 0 refl h p (omega arith) (put-none err)

-- ---- lengths
pub error-length : (words : List ℕ) → length (error_line words) ≡ length words + 10
error-length words = omega (arith, length-append (ascii "overlay: ") (words ++ 10 ∷ []), length-append words (10 ∷ []))

-- words stand on standard error alone
pub told-misused : (out err words errAfter : List ℕ) (n : ℕ) → length words + 10 ≤ length err → Put err 0 (error_line words) errAfter n
    → Told (misused words) out err out errAfter (misused_reply n)
unfolding misused
told-misused out err words errAfter n h p =
    told-both (misused words) out err out errAfter status.Misused 0 n refl (omega arith) (put-none out) (omega (arith, error-length words)) p

cause-lines-few : length cause_lines + 10 ≤ room_for_words
unfolding cause_lines
cause-lines-few = omega arith

cause-few : (cause : ℕ) → length (cause_text cause) ≤ length cause_lines
unfolding cause_text
cause-few cause = part-few 10 (cause_line cause) cause_lines

pub refused-room : (out err : List ℕ) (cause : ℕ) → Room out err → FitsAt out 0 (refused_line cause)
refused-room out err cause r = record { fits = omega (arith, r.answer, refused-few cause) }

-- a refusal's line and the lines that say why are put
pub told-refused-with : (out err out_after errAfter lines : List ℕ) (cause m n : ℕ) → Room out err → length lines ≤ length err
    → Put out 0 (refused_line cause) out_after m → Put err 0 lines errAfter n
    → Told (refused_with cause lines) out err out_after errAfter (refused_reply m n)
unfolding refused_with
told-refused-with out err out_after errAfter lines cause m n r h p q =
    told-both (refused_with cause lines) out err out_after errAfter status.Refused m n refl (omega (arith, r.answer, refused-few cause)) p h q

-- a refusal's line and its meaning are put
pub told-refused : (out err out_after errAfter : List ℕ) (cause m n : ℕ) → Room out err → Put out 0 (refused_line cause) out_after m
    → Put err 0 (error_line (cause_text cause)) errAfter n → Told (refused cause) out err out_after errAfter (refused_reply m n)
unfolding refused
told-refused out err out_after errAfter cause m n r p q =
    let h : length (error_line (cause_text cause)) ≤ length err
    = omega (arith, r.words, error-length (cause_text cause), cause-few cause, cause-lines-few) in
    told-refused-with out err out_after errAfter (error_line (cause_text cause)) cause m n r h p q

-- ---- words put as a line
module _ (buf : List ℕ) (at : ℕ) (xs ys : List ℕ) (h : FitsAt buf at (xs ++ ys)) where
  -- where there is room for both, there is for the first ..
  pub word_room : at + length xs ≤ length buf
  word_room = omega (arith, h.fits, length-append xs ys)

  -- .. and, behind it, for the second
  pub next-room : (mid : List ℕ) (m : ℕ) → Put buf at xs mid m → m + length ys ≤ length mid
  next-room mid m p = omega (arith, h.fits, length-append xs ys, p.place, put-length buf mid xs at m p)

-- behind the program's name there is room for the words
pub name-then : (err mid words : List ℕ) (m : ℕ) → length words + 10 ≤ length err → Put err 0 (ascii "overlay: ") mid m → FitsAt mid m (words ++ 10 ∷ [])
name-then err mid words m h p =
    record { fits = omega (arith, length-append words (10 ∷ []), p.place, put-length err mid (ascii "overlay: ") 0 m p) }

-- the part of a text that starts and ends at these places
pub part-between : (text : List ℕ) (e n from end : ℕ) → StartsAt e n text from → EndsAt e text from end → take (end - from) (drop from text) ≡ text_part e n text
part-between text e n from end s f = part_bytes e text from end f ∙ s.part

-- there is room for it where there is room for the text
pub part_room : (part text : List ℕ) (e n at room : ℕ) → part ≡ text_part e n text → at + length text ≤ room → at + length part ≤ room
part_room part text e n at room p h = omega (arith, ap length p, part-few e n text)

pub error-room : (part text : List ℕ) (e n room : ℕ) → part ≡ text_part e n text → length text + 10 ≤ room → length part + 10 ≤ room
error-room part text e n room p h = omega (arith, ap length p, part-few e n text)

pub part-error : (err errAfter part text : List ℕ) (e n r : ℕ) → part ≡ text_part e n text → Put err 0 (error_line part) errAfter r → Put err 0 (error_line (text_part e n text)) errAfter r
part-error err errAfter part text e n r q p = put_same err 0 _ _ errAfter r p (ap error_line (sym q))

-- the line of a cause
pub cause-put : (err errAfter lines : List ℕ) (cause n r : ℕ) → lines ≡ cause_lines → n ≡ cause_line cause
    → Put err 0 (error_line (text_part 10 n lines)) errAfter r → Put err 0 (error_line (cause_text cause)) errAfter r
unfolding cause_text
cause-put err errAfter lines cause n r e f p = rw (e, f) at p

-- the number of a cause is at most 24
pub number-most : (c : Cause) → number_of c ≤ 24
number-most cause.WrongLayerCount = omega arith
number-most cause.WrongSize = omega arith
number-most cause.WrongCellCount = omega arith
number-most cause.WrongRectangle = omega arith
number-most cause.WrongOrder = omega arith
number-most cause.WrongTicket = omega arith
number-most cause.SmallTable = omega arith
number-most cause.WrongOrderLength = omega arith
number-most cause.MalformedText = omega arith
number-most cause.WrongPlanText = omega arith
number-most cause.FewCells = omega arith
number-most cause.SmallTextBuffer = omega arith
number-most cause.LongInput = omega arith
number-most cause.WrongBox = omega arith
number-most cause.FewLayers = omega arith
number-most cause.WrongSegment = omega arith
number-most cause.WrongMargin = omega arith
number-most cause.WrongCounter = omega arith
number-most cause.SmallWork = omega arith
number-most cause.WrongRecord = omega arith
number-most cause.WrongStops = omega arith
number-most cause.WrongRound = omega arith
number-most cause.WrongPlaces = omega arith
number-most cause.WrongWindow = omega arith

pub line_known : (cause : ℕ) → cause ≤ 24 → cause ≡ cause_line cause
line_known cause h = rw (le-leb cause 24 h) refl

pub line_other : (cause : ℕ) → 24 < cause → 0 ≡ cause_line cause
line_other cause h = rw (lt-leb cause 24 h) refl

pub part-put : (buf last part text : List ℕ) (at e n r : ℕ) → part ≡ text_part e n text → Put buf at part last r → Put buf at (text_part e n text) last r
part-put buf last part text at e n r q p = put_same buf at _ _ last r p (sym q)
