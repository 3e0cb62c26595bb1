-- Laws of what the commands say.
use mathlib.Core.Path.{◌≡◌, refl, sym, ap, ◌∙◌}
use mathlib.Core.List.{List}
use mathlib.Core.Bool.{Bool, true, false, ◌&&◌}
use Prim.Native.Nat.{ℕ, zero, suc, ◌+◌, ◌≤◌}
use native.Mathlib.Omega.{arith}
use lib.Dec.{leb, ltb}
use lib.ListN.{length, take}
use borrow.Author.Tests.{lt-leb}
use Rattle.std.specs.Prelude.{Option, Some, None}
use Rattle.std.specs.Option.{is_none}
use Rattle.lists.specs.inner.Stores.{Put}
use Rattle.plan.specs.Causes.{refusal, on_cause}
use Rattle.printing.specs.Lines.{refused_line}
use Rattle.printing.proofs.Puts.{put_same}
use Rattle.reporting.specs.declared.Printout.{Printout}
use Rattle.reporting.specs.Report.{report_cause, report_of, table_report}
use Rattle.reporting.specs.inner.Parts.{Printed}
use Rattle.reporting.proofs.Texts.{never-longer}
use Rattle.text.specs.Reader.{text_shape, text_cells}
use Rattle.outcomes.specs.declared.Reply.{Reply}
use Rattle.outcomes.specs.Texts.{text_part}
use Rattle.outcomes.specs.Outcomes.{Told, error_line, cause_text, done, refused, misused, done_reply, refused_reply, misused_reply}
use Rattle.outcomes.specs.inner.Rooms.{Room}
use Rattle.outcomes.proofs.Texts.{part-few}
use Rattle.outcomes.proofs.Outcomes.{told-done, told-misused, told-refused, told_same}
use Rattle.asking.specs.Answers.{apart_of}
use Rattle.commands.specs.declared.command.Command.{Command}
use Rattle.commands.specs.Commands.{most_commands, number_of_command, number_of_named, usage_lines, usage, help_texts, help_text, version_line}
use Rattle.commands.specs.Arguments.{places_from}
use Rattle.commands.specs.Outcomes.{report_outcome, help_outcome}
use Rattle.commands.proofs.Calls.{number-below}
use Rattle.commands.proofs.Places.{places-first}

-- ---- what is wanted
usage-few : length usage_lines + 10 ≤ 65536
unfolding usage_lines
usage-few = omega arith

pub told-wanted : (out err errAfter lines : List ℕ) (command text n : ℕ) → Room out err → lines ≡ usage_lines → text ≡ command
    → Put err 0 (error_line (text_part 10 text lines)) errAfter n → Told (misused (usage command)) out err out errAfter (misused_reply n)
told-wanted out err errAfter lines command text n r e f p =
    told-misused out err (usage command) errAfter n (omega (arith, r.words, part-few 10 command usage_lines, usage-few)) (rw (e, f) at p)

-- ---- report
module _ (t out err out_after : List ℕ) (r : Printout) (room : Room out err) (p : Printed (report_cause t) (report_of t) out out_after r) where
  pub report-done : refusal r.told ≡ 0 → Told (report_outcome t) out err out_after err (done_reply r.size)
  unfolding report_outcome
  report-done e =
      told_same (done (report_of t)) out err out_after err _ _ (told-done out err (report_of t) out_after r.size (omega (arith, room.answer, never-longer t)) p.put)
      (ap (λ (n : ℕ). on_cause n (done (report_of t)) refused) (sym p.number ∙ e))

  pub report-refused : (errAfter : List ℕ) (n : ℕ) → (refusal r.told ≡ 0 → ⊥) → Put err 0 (error_line (cause_text (refusal r.told))) errAfter n
      → Told (report_outcome t) out err out_after errAfter (refused_reply r.size n)
  unfolding report_outcome report_of
  report-refused errAfter n h q = go (refusal r.told) h p.number p.put q
    where
      go : (cause : ℕ) → (cause ≡ 0 → ⊥) → cause ≡ report_cause t → Put out 0 (report_of t) out_after r.size → Put err 0 (error_line (cause_text cause)) errAfter n
          → Told (report_outcome t) out err out_after errAfter (refused_reply r.size n)
      go zero h' e p' q' = absurd (h' refl)
      go (suc cause) h' e p' q' =
          let f : report_of t ≡ refused_line (suc cause) = ap (λ (k : ℕ). on_cause k (table_report (text_shape t) (text_cells t)) refused_line) (sym e) in
          told_same (refused (suc cause)) out err out_after errAfter _ _
          (told-refused out err out_after errAfter (suc cause) r.size n room (put_same out 0 _ _ out_after r.size p' (sym f)) q')
          (ap (λ (k : ℕ). on_cause k (done (report_of t)) refused) (sym e))

-- ---- help and version
none-last : (command : Option Command) → is_none command ≡ leb most_commands (number_of_named command)
none-last None = refl
none-last (Some c) = sym (lt-leb most_commands (number_of_command c) (number-below c))

pub unknown-none : (names : ℕ) (b : Bool) → ltb 0 names ≡ false → ltb 0 names ≡ (ltb 0 names && b)
unknown-none names b h = rw h

pub unknown-named : (names : ℕ) (command : Option Command) (v : Bool) → ltb 0 names ≡ true → v ≡ is_none command
    → v ≡ (ltb 0 names && leb most_commands (number_of_named command))
unknown-named names command v h e = rw h (e ∙ none-last command)

help-few : length help_texts ≤ 65536
unfolding help_texts
help-few = omega arith

module _ (names command : ℕ) (out err : List ℕ) (v : Bool) (e : v ≡ (ltb 0 names && leb most_commands command)) where
  pub help-unknown : (out_after errAfter : List ℕ) (r : Reply) → v ≡ true → Told (misused (usage most_commands)) out err out_after errAfter r
      → Told (help_outcome names command) out err out_after errAfter r
  unfolding help_outcome
  help-unknown out_after errAfter r h t = rw (← e, h) t

  pub help-done : (out_after texts : List ℕ) (text n : ℕ) → v ≡ false → Room out err → texts ≡ help_texts → text ≡ command → Put out 0 (text_part 0 text texts) out_after n
      → Told (help_outcome names command) out err out_after err (done_reply n)
  unfolding help_outcome
  help-done out_after texts text n h room f g p =
      rw (← e, h)
      (told-done out err (help_text command) out_after n (omega (arith, room.answer, part-few 0 command help_texts, help-few)) (rw (f, g) at p))

pub version-done : (out err out_after line : List ℕ) (n : ℕ) → Room out err → line ≡ version_line → Put out 0 line out_after n
    → Told (done version_line) out err out_after err (done_reply n)
unfolding version_line
version-done out err out_after line n room e p = told-done out err version_line out_after n (omega (arith, room.answer)) (rw e at p)

-- ---- apart
pub apart-first : (args text places out err out_after errAfter : List ℕ) (n : ℕ) (r : Reply) → n ≤ 7 → places ≡ places_from args 1 7
    → Told (apart_of text (take n places)) out err out_after errAfter r → Told (apart_of text (places_from args 1 n)) out err out_after errAfter r
apart-first args text places out err out_after errAfter n r h e t = rw (← places-first args 1 n 7 h, ← e) t
