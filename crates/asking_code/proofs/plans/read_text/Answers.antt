-- `read_text` refuses a text that is too long, and reads any other.
use Rattle.std.proofs.Common.{refl, ap, ◌∙◌}
use Rattle.text.specs.Reader.{read_values}
use Rattle.asking_code.proofs.Texts.{long-read, short-read, told-number}
use Rattle.asking_code.proofs.plans.read_text.Goals as goal

pub returns-then-text-gt-LONGEST_INPUT : goal.returns-then-text-gt-LONGEST_INPUT
returns-then-text-gt-LONGEST_INPUT c = long-read _ _ _ c.if-text-gt-LONGEST_INPUT.true refl

pub returns : goal.returns
returns c =
    let r = c.read.ensures in
    short-read _ _ _ _ c.if-text-gt-LONGEST_INPUT.false c.requires (ap read_values r.answer) (told-number _ ∙ r.number) r.buffer
