-- Calls that fit their command, as the code asks for them; no public call's contract cites this.
use Rattle.std.specs.Prelude.{◌≡◌, Option, Some}
use Rattle.std.specs.Option.{is_some}
use Rattle.commands.specs.declared.command.Command.{Command}
use Rattle.commands.specs.declared.Call.{Call}
use Rattle.commands.specs.Arguments.{call_told, takes_all}

-- r is the command of a call that fits it, and none of a call that doesn't
pub record Fitting (c : Call) (r : Option Command) : Type 0 where
  pub fits : is_some r ≡ takes_all (call_told c)
  pub command : (x : Command) → r ≡ Some x → c.command ≡ Some x
