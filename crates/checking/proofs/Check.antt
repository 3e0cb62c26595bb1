-- Laws of what `check` says, one for each return of the code.
use mathlib.Core.Path.{◌≡◌, refl, sym, ap, ◌∙◌}
use mathlib.Core.List.{List, [], ◌∷◌, ◌++◌}
use Prim.Native.Nat.{ℕ, zero, suc, ◌-◌, ◌≤◌, ◌<◌}
use native.Mathlib.Omega.{arith}
use lib.Dec.{eqb}
use lib.ListN.{length, take, drop, length-append}
use borrow.Author.Tests.{eq-eqb, ne_eqb, le-leb, lt-leb}
use Rattle.lists.specs.Lists.{sum, list_in}
use Rattle.lists.specs.inner.Stores.{Put}
use Rattle.decimal.specs.Numerals.{decimal}
use Rattle.decimal.proofs.Numerals.{length-decimal, size-most}
use Rattle.plan.specs.declared.Shape.{Shape}
use Rattle.plan.specs.Causes.{on_cause}
use Rattle.plan.specs.Limits.{most_cells}
use Rattle.text.specs.Reader.{ReadValues}
use Rattle.text.specs.Parsing.{lines_of}
use Rattle.text.specs.Reader.{read_cause, text_shape, read_answer, read_values}
use Rattle.printing.specs.Lines.{line_of, refused_line}
use Rattle.printing.specs.inner.Parts.{FitsAt}
use Rattle.printing.proofs.Puts.{put_same}
use Rattle.outcomes.specs.declared.Reply.{Reply}
use Rattle.outcomes.specs.Texts.{ascii}
use Rattle.outcomes.specs.Outcomes.{Told, error_line, cause_lines, cause_line, cause_text, done, refused_with, refused, done_reply, refused_reply}
use Rattle.outcomes.specs.inner.Rooms.{Room, room_for_all, room_for_words}
use Rattle.outcomes.proofs.Texts.{part-few}
use Rattle.outcomes.proofs.Outcomes.{error-length, told_same, told-done, told-refused-with}
use Rattle.checking.specs.declared.Spot.{Spot}
use Rattle.checking.specs.declared.reason.Reason.{Reason}
use Rattle.checking.specs.Lines.{bad_line}
use Rattle.checking.specs.Places.{EndsAt, Spotted, PutWords}
use Rattle.checking.specs.Reasons.{reason_of}
use Rattle.checking.specs.inner.Words.{reason_text}
use Rattle.checking.proofs.Words.{error-few}
use Rattle.checking.specs.Check.{check_cause, plan_found, line_error, bad_error, why_lines, fault_errors, check_of}

-- ---- the plan that was found
pub found-room : (out : List ℕ) (k n : ℕ) → room_for_all ≤ length out → FitsAt out 0 (line_of (ascii "PLAN") (decimal k ∷ decimal n ∷ []))
unfolding line_of
found-room out k n h =
    record {
      fits =
          omega (
            arith,
            length-append (decimal k) (9 ∷ decimal n ++ 10 ∷ []),
            length-append (decimal n) (10 ∷ []),
            length-decimal k,
            length-decimal n,
            size-most 19 k,
            size-most 19 n,
          );
    }

found-fits : (s : Shape) (out : List ℕ) → room_for_all ≤ length out → length (plan_found s) ≤ length out
unfolding plan_found
found-fits s out h = omega (arith, (found-room out s.k (sum s.sizes) h).fits)

pub found-put : (s : Shape) (n : ℕ) (out out_after : List ℕ) (r : ℕ) → n ≡ sum s.sizes
    → Put out 0 (line_of (ascii "PLAN") (decimal s.k ∷ decimal n ∷ [])) out_after r → Put out 0 (plan_found s) out_after r
unfolding plan_found
found-put s n out out_after r e p = rw e at p

-- ---- the first line that is not well formed
pub bad-put : (t : List ℕ) (s : Spot) (end : ℕ) (reason : Reason) (err last : List ℕ) (r : ℕ) → Spotted t s → EndsAt t s.at end
    → reason_text reason ≡ reason_of (eqb s.number 1) (take (end - s.at) (drop s.at t))
    → Put err 0 (line_error s.number (reason_text reason)) last r → PutWords err (bad_error (bad_line t)) last r
unfolding bad_error
bad-put t s end reason err last r p q e w =
    let b : bad_error (bad_line t) ≡ line_error s.number (reason_text reason)
    = ap bad_error p.line ∙ sym (ap (line_error s.number) (e ∙ ap (reason_of (eqb s.number 1)) q.bytes)) in
    record { put = put_same err 0 _ _ last r w b; few = omega (arith, ap length b, error-few s.number reason) }

-- ---- why a text is refused
cause-few : (cause : ℕ) → length (error_line (cause_text cause)) ≤ room_for_words
unfolding cause_text cause_lines
cause-few cause = omega (arith, error-length (cause_text cause), part-few 10 (cause_line cause) cause_lines)

module _ (t err last : List ℕ) (cause r : ℕ) where
  pub why-bad : cause ≡ 9 → PutWords err (bad_error (bad_line t)) last r → PutWords err (why_lines cause t) last r
  unfolding why_lines
  why-bad e p = rw (eq-eqb cause 9 e) p

  pub why-faults : cause ≡ 10 → PutWords err (fault_errors (list_in (lines_of t))) last r → PutWords err (why_lines cause t) last r
  unfolding why_lines
  why-faults e p = rw (ne_eqb cause 9 (λ f. omega arith), eq-eqb cause 10 e) p

  pub why-other : (cause ≡ 9 → ⊥) → (cause ≡ 10 → ⊥) → Put err 0 (error_line (cause_text cause)) last r → PutWords err (why_lines cause t) last r
  unfolding why_lines
  why-other n m p = rw (ne_eqb cause 9 n, ne_eqb cause 10 m) (record { put = p; few = cause-few cause })

-- ---- the whole
pub told-long : (t out err out_after errAfter : List ℕ) (r : Reply) → 65536 < length t → Told (refused 13) out err out_after errAfter r
    → Told (check_of t) out err out_after errAfter r
unfolding check_of check_cause why_lines refused
told-long t out err out_after errAfter r h p = told_same (refused 13) out err out_after errAfter r (check_of t) p (rw (lt-leb (length t) 65536 h))

module _ (t : List ℕ) (a : ReadValues) (short : length t ≤ 65536) (room : ℕ) (most : room ≡ most_cells) (answer : a ≡ read_values (read_answer room t)) (number : a.number ≡ read_cause room t) (out err : List ℕ) (lent : Room out err) where
  cause-is : check_cause t ≡ a.number
  unfolding check_cause
  cause-is = rw (le-leb (length t) 65536 short) (sym (number ∙ ap (λ (m : ℕ). read_cause m t) most))

  -- an accepted text
  pub told-plan : (out_after : List ℕ) (n : ℕ) → a.number ≡ 0 → Put out 0 (plan_found a.shape) out_after n
      → Told (check_of t) out err out_after err (done_reply n)
  unfolding check_of
  told-plan out_after n z p =
      let x : a ≡ record { number = 0; shape = text_shape t } = answer ∙ rw (sym number ∙ z) in
      let y : a.shape ≡ text_shape t = ap (λ (w : ReadValues). w.shape) x in
      let e : check_of t ≡ done (plan_found a.shape) = rw (cause-is, z, y) in
      told_same (done (plan_found a.shape)) out err out_after err _ (check_of t) (told-done out err (plan_found a.shape) out_after n (found-fits a.shape out lent.answer) p) e

  -- a refused one
  pub told-why : (out_after errAfter : List ℕ) (m n : ℕ) → (a.number ≡ 0 → ⊥) → Put out 0 (refused_line a.number) out_after m
      → PutWords err (why_lines a.number t) errAfter n → Told (check_of t) out err out_after errAfter (refused_reply m n)
  unfolding check_of
  told-why out_after errAfter m n z p q =
      let o = refused_with a.number (why_lines a.number t) in
      let e : check_of t ≡ o = rw cause-is (on-refused a.number z) in
      told_same o out err out_after errAfter _ (check_of t)
      (told-refused-with out err out_after errAfter (why_lines a.number t) a.number m n lent (omega (arith, q.few, lent.words)) p q.put) e
    where
      on-refused : (cause : ℕ) → (cause ≡ 0 → ⊥)
          → on_cause cause (done (plan_found (text_shape t))) (λ c. refused_with c (why_lines c t)) ≡ refused_with cause (why_lines cause t)
      on-refused zero n = absurd (n refl)
      on-refused (suc c) n = refl
