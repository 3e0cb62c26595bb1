-- `rounds_code::serving::after_client`.
use mathlib.Core.Path.{sym, ◌∙◌}
use native.Mathlib.Numerals.{add-one}
use Rattle.rounds.proofs.Shares.{after_last, after_next}
use Rattle.rounds_code.proofs.serving.after_client.Goals as goal

pub returns-then-t-m : goal.returns-then-t-m
returns-then-t-m c = sym (after_last c.args.m c.args.t c.if-t-m.true)

pub returns : goal.returns
returns c = add-one c.args.t ∙ sym (after_next c.args.m c.args.t c.if-t-m.false)
