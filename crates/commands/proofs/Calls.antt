-- Laws of what the arguments ask for, whether it fits a command, and where the texts come from.
use mathlib.Core.Path.{◌≡◌, refl, sym, ap, ◌∙◌}
use mathlib.Core.List.{List}
use mathlib.Core.Bool.{Bool, true, false}
use Prim.Native.Nat.{ℕ, zero, suc, ◌+◌, ◌-◌, ◌*◌, ◌≤◌, ◌<◌}
use native.Mathlib.Omega.{arith}
use lib.ListN.{get_or}
use borrow.Author.Tests.{eq-eqb, ne_eqb, lt-ltb, le-ltb}
use Rattle.std.specs.Prelude.{Option, Some, None}
use Rattle.std.specs.Option.{is_some}
use Rattle.std.proofs.lemmas.Option.{none-some}
use Rattle.commands.specs.declared.command.Command.{Command}
use Rattle.commands.specs.declared.command.Command.TheVariants as command
use Rattle.commands.specs.declared.Call.{Call}
use Rattle.commands.specs.Commands.{most_commands, number_of_command, number_of_named, limits, limit}
use Rattle.commands.specs.inner.Calls.{Fitting}
use Rattle.commands.specs.Arguments.{CallValues, call_told, argument_count, argument, leading_numbers, command_number, looked, limit_or, fewer, numbers_in, command_call, is_between, takes_all, text_source, second_source}

-- ---- what the arguments ask for
pub numbers-are : (args : List ℕ) (command count seen takes dash most numbers : ℕ) → count ≡ argument_count args → seen ≡ looked count → takes ≡ limit_or command 1
    → dash ≡ limit_or command 5 → most ≡ fewer takes seen → numbers ≡ leading_numbers dash args 1 most → numbers ≡ numbers_in command args
unfolding numbers_in
numbers-are args command count seen takes dash most numbers e k t d m f = rw (f, m, t, d, k, e)

pub call-is : (args : List ℕ) (count numbers names : ℕ) (command : Option Command) → count ≡ argument_count args → numbers ≡ numbers_in (number_of_named command) args
    → number_of_named command ≡ command_number (argument 0 args) → names ≡ count - 1 - numbers
    → call_told (record { command = command; numbers = numbers; names = names }) ≡ command_call args
unfolding command_call
call-is args count numbers names command e f g h = rw (h, f, g, e)

-- ---- the limits of a command
pub number-below : (x : Command) → number_of_command x < most_commands
number-below command.Report = omega arith
number-below command.Check = omega arith
number-below command.Pairs = omega arith
number-below command.Nearest = omega arith
number-below command.Apart = omega arith
number-below command.Classes = omega arith
number-below command.Hours = omega arith
number-below command.Cover = omega arith
number-below command.Picture = omega arith
number-below command.Help = omega arith
number-below command.Version = omega arith

pub limit-none : (command : Option Command) (column : ℕ) → command ≡ None → 0 ≡ limit_or (number_of_named command) column
unfolding limit_or
limit-none command column e = rw e refl

pub limit-some : (command : Option Command) (x : Command) (column n : ℕ) → command ≡ Some x → n ≡ limit (number_of_command x) column → n ≡ limit_or (number_of_named command) column
unfolding limit_or
limit-some command x column n e f = rw (e, lt-ltb (number_of_command x) most_commands (number-below x)) f

pub limit_is : (table : List ℕ) (command n column : ℕ) → table ≡ limits → n ≡ command → get_or table (6 * n + column) 0 ≡ limit command column
limit_is table command n column e f = rw (e, f) refl

-- ---- whether the call fits
module _ (x : Command) (numbers names low high : ℕ) (v : Bool) (e : low ≡ limit (number_of_command x) 0) (f : high ≡ limit (number_of_command x) 1) (g : v ≡ is_between low numbers high) where
  abbrev Takes : Bool → Type 0
  Takes w = w ≡ takes_all (record { command = number_of_command x; numbers = numbers; names = names })

  pub fits-numbers : v ≡ false → Takes false
  unfolding takes_all
  fits-numbers k = rw (lt-ltb (number_of_command x) most_commands (number-below x), ← e, ← f, ← g, k) refl

  pub fits-names : (low' high' : ℕ) (w : Bool) → v ≡ true → low' ≡ limit (number_of_command x) 2 → high' ≡ limit (number_of_command x) 3 → w ≡ is_between low' names high'
      → Takes w
  unfolding takes_all
  fits-names low' high' w k e' f' g' = rw (lt-ltb (number_of_command x) most_commands (number-below x), ← e, ← f, ← g, k, ← e', ← f', ← g') refl

module _ (c : Call) where
  pub fitting-none : c.command ≡ None → Fitting c None
  unfolding takes_all
  fitting-none e = record { fits = rw e refl; command = λ x h. absurd (none-some x h) }

  module _ (x : Command) (e : c.command ≡ Some x) (v : Bool) (f : v ≡ takes_all (record { command = number_of_command x; numbers = c.numbers; names = c.names })) where
    pub fitting-some : v ≡ true → Fitting c (Some x)
    fitting-some h = record { fits = rw e (sym h ∙ f); command = λ y k. e ∙ k }

    pub fitting-other : v ≡ false → Fitting c None
    fitting-other h = record { fits = rw e (sym h ∙ f); command = λ y k. absurd (none-some y k) }

-- ---- where the texts come from
module _ (args : List ℕ) (c : Call) (r : Option Command) (e : call_told c ≡ command_call args) (f : Fitting c r) where
  -- the call fits none
  unfit : r ≡ None → takes_all (command_call args) ≡ false
  unfit h = rw (← e) (sym f.fits ∙ ap is_some h)

  pub text-misused : r ≡ None → 0 ≡ text_source args
  unfolding text_source
  text-misused h = rw (unfit h) refl

  pub second-misused : r ≡ None → 0 ≡ second_source args
  unfolding second_source
  second-misused h = rw (unfit h) refl

  module _ (x : Command) (h : r ≡ Some x) (n : ℕ) where
    -- the call is of this command, and fits it
    abbrev called : CallValues
    called = record { command = number_of_command x; numbers = c.numbers; names = c.names }

    abbrev by_command : Option Command → CallValues
    by_command o = record { command = number_of_named o; numbers = c.numbers; names = c.names }

    call_is : command_call args ≡ called
    call_is = sym e ∙ ap by_command (f.command x h)

    fit : takes_all called ≡ true
    fit = ap takes_all (sym call_is ∙ sym e) ∙ (sym f.fits ∙ ap is_some h)

    pub second_none : n ≡ limit (number_of_command x) 2 → n ≡ 0 → 0 ≡ second_source args
    unfolding second_source
    second_none g k = rw (call_is, fit, ← g, le-ltb 0 n (omega (arith, k))) refl

    pub second-some : n ≡ limit (number_of_command x) 2 → (n ≡ 0 → ⊥) → 2 + c.numbers ≡ second_source args
    unfolding second_source
    second-some g k = rw (call_is, fit, ← g, lt-ltb 0 n (above n k)) refl
      where
        above : (m : ℕ) → (m ≡ 0 → ⊥) → 0 < m
        above zero k' = absurd (k' refl)
        above (suc m) k' = omega arith

    pub text-none : n ≡ limit (number_of_command x) 4 → (n ≡ 1 → ⊥) → 0 ≡ text_source args
    unfolding text_source
    text-none g k = rw (call_is, fit, ← g, ne_eqb n 1 k) refl

    module _ (g : n ≡ limit (number_of_command x) 4) (k : n ≡ 1) (m : ℕ) (j : m ≡ limit (number_of_command x) 2) where
      pub text-named : m < c.names → (count : ℕ) → count ≡ argument_count args → count ≡ text_source args
      unfolding text_source
      text-named l count o = rw (call_is, fit, ← g, eq-eqb n 1 k, ← j, lt-ltb m c.names l) o

      pub text-input : c.names ≤ m → 1 ≡ text_source args
      unfolding text_source
      text-input l = rw (call_is, fit, ← g, eq-eqb n 1 k, ← j, le-ltb m c.names l) refl
