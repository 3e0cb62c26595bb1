-- `capi::overlay_read_text`: number and shape are those of the answer.
use mathlib.Core.Path.{ap, ◌∙◌}
use Rattle.text.specs.Reader.{ReadValues, read_values}
use Rattle.capi.proofs.overlay_read_text.Goals as goal

pub returns-in-Ok : goal.returns-in-Ok
returns-in-Ok c =
    let k = c.in-Ok.ensures in
    let e = ap read_values k.answer in
    (k.number, ap (λ (r : ReadValues). r.shape.k) e, ap (λ (r : ReadValues). r.shape.sizes) e, ap (λ (r : ReadValues). r.shape.margins) e, k.buffer)

pub returns-in-Err : goal.returns-in-Err
returns-in-Err c =
    let k = c.in-Err.ensures in
    let e = ap read_values k.answer in
    (c.from.ensures ∙ k.number, ap (λ (r : ReadValues). r.shape.k) e, ap (λ (r : ReadValues). r.shape.sizes) e, ap (λ (r : ReadValues). r.shape.margins) e, k.buffer)
