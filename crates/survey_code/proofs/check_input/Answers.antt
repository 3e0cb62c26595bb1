-- `survey_code::check_input`: the strips, the length, the records.
use mathlib.Core.Path.{◌≡◌, sym, ◌∙◌}
use mathlib.Core.Bool.{true, false}
use Rattle.survey.specs.Strips.{sound_strip}
use borrow.Author.Tests.{not-false}
use Rattle.survey.proofs.CoverCall.{across-bad, upward-bad, length-bad, records-tell}
use Rattle.survey_code.proofs.check_input.Goals as goal

pub returns-then-not-sound_strip : goal.returns-then-not-sound_strip
returns-then-not-sound_strip c = across-bad c.args.across c.args.upward _ (sym c.sound_strip.ensures ∙ c.if-not-sound_strip.true)

pub returns-then-not-sound_strip-2 : goal.returns-then-not-sound_strip-2
returns-then-not-sound_strip-2 c =
    let across-good : sound_strip c.args.across ≡ true = sym c.sound_strip.ensures ∙ c.if-not-sound_strip.false in
    upward-bad c.args.across c.args.upward _ across-good (sym c.sound_strip-2.ensures ∙ c.if-not-sound_strip-2.true)

pub returns-then-corners-ne0 : goal.returns-then-corners-ne0
returns-then-corners-ne0 c =
    let across-good : sound_strip c.args.across ≡ true = sym c.sound_strip.ensures ∙ c.if-not-sound_strip.false in
    let upward-good : sound_strip c.args.upward ≡ true = sym c.sound_strip-2.ensures ∙ c.if-not-sound_strip-2.false in
    length-bad c.args.across c.args.upward _ across-good upward-good c.if-corners-ne0.true

pub returns : goal.returns
returns c =
    let across-good : sound_strip c.args.across ≡ true = sym c.sound_strip.ensures ∙ c.if-not-sound_strip.false in
    let upward-good : sound_strip c.args.upward ≡ true = sym c.sound_strip-2.ensures ∙ c.if-not-sound_strip-2.false in
    records-tell c.args.across c.args.upward _ across-good upward-good true c.if-corners-ne0.false (sym c.if-not-all_sound.false ∙ c.all_sound.ensures)

pub returns-then-not-all_sound : goal.returns-then-not-all_sound
returns-then-not-all_sound c =
    let across-good : sound_strip c.args.across ≡ true = sym c.sound_strip.ensures ∙ c.if-not-sound_strip.false in
    let upward-good : sound_strip c.args.upward ≡ true = sym c.sound_strip-2.ensures ∙ c.if-not-sound_strip-2.false in
    records-tell c.args.across c.args.upward _ across-good upward-good false c.if-corners-ne0.false (sym c.if-not-all_sound.true ∙ c.all_sound.ensures)
