-- Laws of the program: wrong arguments, and what each command says. A command more is a law more here.
use mathlib.Core.Path.{◌≡◌, sym, ap, ◌∙◌}
use mathlib.Core.List.{List}
use mathlib.Core.Bool.{true, false}
use Prim.Native.Nat.{ℕ}
use lib.ListN.{get_or}
use Rattle.std.specs.Prelude.{Option, Some, None}
use Rattle.std.specs.Option.{is_some}
use Rattle.outcomes.specs.declared.Reply.{Reply}
use Rattle.outcomes.specs.Outcomes.{Told, done, misused}
use Rattle.geometry.specs.declared.Rect.{Rect}
use Rattle.checking.specs.Check.{check_of}
use Rattle.asking.specs.Answers.{apart_of, nearest_said, pairs_of}
use Rattle.listing.specs.Classes.{classes_said}
use Rattle.listing.specs.Hours.{hours_said}
use Rattle.listing.specs.Cover.{cover_said}
use Rattle.picture.specs.Pictures.{picture_said}
use Rattle.commands.specs.declared.command.Command.{Command}
use Rattle.commands.specs.declared.command.Command.TheVariants as command
use Rattle.commands.specs.declared.Call.{Call}
use Rattle.commands.specs.Commands.{number_of_command, number_of_named, usage, version_line}
use Rattle.commands.specs.inner.Calls.{Fitting}
use Rattle.commands.specs.Arguments.{CallValues, call_told, argument, box_of, layer_in, places_from, given_in, command_number, command_call, takes_all}
use Rattle.commands.specs.Outcomes.{report_outcome, help_outcome, answers, wanted, command_of}

-- ---- the program
module _ (args text second out err out_after errAfter : List ℕ) (c : Call) (r : Reply) (fitting : Option Command) (e : call_told c ≡ command_call args) (f : Fitting c fitting) where
  pub command-wanted : fitting ≡ None → Told (misused (usage (number_of_named c.command))) out err out_after errAfter r
      → Told (command_of args text second) out err out_after errAfter r
  unfolding command_of
  command-wanted h t =
      let u : takes_all (call_told c) ≡ false = sym f.fits ∙ ap is_some h in
      rw (← e, u) t

  pub command-answer : (x : Command) → fitting ≡ Some x
      → Told (get_or (answers (call_told c) args text second) (number_of_command x) (wanted (call_told c))) out err out_after errAfter r
      → Told (command_of args text second) out err out_after errAfter r
  unfolding command_of
  command-answer x h t =
      let u : takes_all (call_told c) ≡ true = sym f.fits ∙ ap is_some h in
      let t' = rw (f.command x h) at t in
      rw (← e, u, f.command x h) t'

-- ---- what each says
module _ (x : Command) (c : CallValues) (args text second out err out_after errAfter : List ℕ) (r : Reply) where
  -- the outcome of the call's command is told
  abbrev Says : Type 0
  Says = Told (get_or (answers c args text second) (number_of_command x) (wanted c)) out err out_after errAfter r

  pub says-report : x ≡ command.Report → Told (report_outcome text) out err out_after errAfter r → Says
  says-report e t = rw e t

  pub says-check : x ≡ command.Check → Told (check_of text) out err out_after errAfter r → Says
  says-check e t = rw e t

  pub says-pairs : x ≡ command.Pairs → (layer : ℕ) → layer ≡ layer_in c.numbers args → Told (pairs_of text layer) out err out_after errAfter r → Says
  says-pairs e layer f t = rw (e, ← f) t

  pub says-nearest : x ≡ command.Nearest → (box : Rect) → box ≡ box_of args → Told (nearest_said text box) out err out_after errAfter r → Says
  says-nearest e box f t = rw (e, ← f) t

  pub says-apart : x ≡ command.Apart → Told (apart_of text (places_from args 1 c.numbers)) out err out_after errAfter r → Says
  says-apart e t = rw e t

  pub says-classes : x ≡ command.Classes → Told (classes_said text) out err out_after errAfter r → Says
  says-classes e t = rw e t

  pub says-hours : x ≡ command.Hours → Told (hours_said text second) out err out_after errAfter r → Says
  says-hours e t = rw e t

  pub says-cover : x ≡ command.Cover → (stops : Rect) (given : ℕ) → stops ≡ box_of args → given ≡ given_in args
      → Told (cover_said stops given text) out err out_after errAfter r → Says
  says-cover e stops given f g t = rw (e, ← f, ← g) t

  pub says-picture : x ≡ command.Picture → Told (picture_said text) out err out_after errAfter r → Says
  says-picture e t = rw e t

  pub says-help : x ≡ command.Help → (n : ℕ) → n ≡ command_number (argument 1 args) → Told (help_outcome c.names n) out err out_after errAfter r → Says
  says-help e n f t = rw (e, ← f) t

  pub says-version : x ≡ command.Version → Told (done version_line) out err out_after errAfter r → Says
  says-version e t = rw e t
