-- `take_fields` reads two fields, the second from where the first ended.
use mathlib.Core.Path.{sym, ◌∙◌}
use Rattle.line.proofs.Words.{tab-alone, end-alone}
use Rattle.line.proofs.Places.{field-on, field-bad}
use Rattle.listing.proofs.WindowLines.{no-from, no-to, fields-take}
use Rattle.listing_code.proofs.windows_text.take_fields.Goals as goal

pub returns-in_default : goal.returns-in_default
returns-in_default c = no-from c.args.t.now c.args.at (field-bad _ _ 9 (sym c.in_default.is ∙ c.read_field.ensures 9 tab-alone))

pub returns-in_default-read_field : goal.returns-in_default-read_field
returns-in_default-read_field c = no-to c.args.t.now c.args.at _ _ (field-on _ _ 9 _ _ (sym c.in-Some.is ∙ c.read_field.ensures 9 tab-alone)) (field-bad _ _ 10 (sym c.in_default-read_field.is ∙ c.read_field-2.ensures 10 end-alone))

pub returns : goal.returns
returns c =
    fields-take c.args.t.now c.args.at _ _ (field-on _ _ 9 _ _ (sym c.in-Some.is ∙ c.read_field.ensures 9 tab-alone)) _ _ (field-on _ _ 10 _ _ (sym c.in-Some-read_field.is ∙ c.read_field-2.ensures 10 end-alone)) _ _
    c.minute_of.ensures c.minute_of-2.ensures c.judge.result c.judge.ensures
