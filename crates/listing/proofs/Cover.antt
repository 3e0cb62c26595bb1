-- Laws of the command `cover`: the layer of the covers.
use mathlib.Core.Path.{◌≡◌, refl, sym, ap, ◌∙◌}
use mathlib.Core.List.{List, [], ◌∷◌}
use mathlib.Core.Bool.{Bool, true, false}
use Prim.Native.Nat.{ℕ, zero, suc, ◌+◌, ◌*◌, ◌≤◌, ◌<◌}
use native.Mathlib.Omega.{arith}
use lib.IntN.{ℤ, pos}
use lib.ListN.{length, take}
use lib.Seq.{take_at}
use lib.Ieee.{Float}
use Rattle.lists.specs.Lists.{All, none_left, ◌and◌}
use Rattle.lists.proofs.Tests.{clash}
use Rattle.lists.specs.inner.Stores.{Put}
use Rattle.line.specs.declared.Line.TheVariants.{Layer, Rectangle}
use Rattle.line.proofs.Lengths.{layer-most, rect-most, spell-length}
use Rattle.text.specs.Spelling.{spell, all_short}
use Rattle.text.specs.Plans.{rect_lines}
use Rattle.text.proofs.Sizes.{rect-short}
use Rattle.survey.specs.declared.Corners.{Corners}
use Rattle.survey.specs.declared.Strip.{Strip}
use Rattle.std.specs.Prelude.{Result, Ok, Err}
use Rattle.survey.specs.Records.{cover_of, sound_record, cover_cells}
use Rattle.survey.specs.Theorems.{CoverAccepted}
use Rattle.survey.specs.CoverCall.{kept, cover_cause, layer_of, cover_answer, cover_after, cover_values}
use Rattle.survey.proofs.Covers.{sound→}
use Rattle.survey.proofs.CoverCall.{cells-long}
use Rattle.survey.proofs.Layers.{kept-sound, accepted-is, refused-is}
use Rattle.outcomes.specs.Outcomes.{Told, done, refused, done_reply}
use Rattle.outcomes.specs.inner.Rooms.{Room, room_for_all}
use Rattle.outcomes.proofs.Outcomes.{told_same, told-done}
use Rattle.listing.specs.Cover.{layer_text, corners_said}

-- ---- the layer
covers-short : {cs : List Corners} → All (λ c. sound_record c ≡ true) cs → all_short (rect_lines (cover_cells cs)) ≡ true
covers-short none_left = refl
covers-short (◌and◌ {a = c} h hs) = rw (rect-short (cover_of c) (sound→ c h).held) (covers-short hs)

covers-few : (cs : List Corners) → length (spell (rect_lines (cover_cells cs))) ≤ 93 * length cs
covers-few [] = omega arith
covers-few (c ∷ cs) = omega (arith, spell-length (Rectangle (cover_of c)) (spell (rect_lines (cover_cells cs))), rect-most (cover_of c), covers-few cs)

abbrev is-kept : Result ℕ ℕ → Bool
is-kept (Ok n) = true
is-kept (Err c) = false

module _ (across upward : Strip) (corners : List Float) (cells : List ℤ) (long : length cells ≡ 2048) where
  abbrev its : ℕ
  its = cover_cause across upward corners (length cells)

  -- a refusal
  pub corners-refused : (c : ℕ) → Err c ≡ cover_answer across upward corners (length cells) → corners_said across upward corners ≡ refused c
  unfolding corners_said
  corners-refused c e = go its refl
    where
      go : (n : ℕ) → its ≡ n → corners_said across upward corners ≡ refused c
      go zero z = clash refl (sym (ap is-kept (e ∙ (accepted-is across upward corners cells z).returned)))
      go (suc n) z =
          let q : c ≡ suc n = ap (λ (x : Result ℕ ℕ). (cover_values x).number) (e ∙ (refused-is across upward corners cells n z).0) in
          rw (rw long at z) (ap refused (sym q))

  module _ (n : ℕ) (e : Ok n ≡ cover_answer across upward corners (length cells)) (after : List ℤ) (g : after ≡ cover_after across upward corners cells) where
    zero-cause : its ≡ 0
    zero-cause = go its refl
      where
        go : (m : ℕ) → its ≡ m → its ≡ 0
        go zero z = z
        go (suc m) z = clash refl (ap is-kept (e ∙ (refused-is across upward corners cells m z).0))

    accepted : CoverAccepted (kept across upward corners) cells (cover_answer across upward corners (length cells)) (cover_after across upward corners cells)
    accepted = accepted-is across upward corners cells zero-cause

    many : n ≡ length (kept across upward corners)
    many = ap (λ (x : Result ℕ ℕ). (cover_values x).kept) (e ∙ accepted.returned)

    pub kept_small : n ≤ 512
    kept_small = omega (arith, many, accepted.good.0)

    pub kept-mul : 4 * n < 18446744073709551616
    kept-mul = omega (arith, kept_small)

    pub kept-cast : n < 4294967296
    kept-cast = omega (arith, kept_small)

    pub kept-inside : 4 * n ≤ length after
    kept-inside = omega (arith, kept_small, ap length g, accepted.long)

    long-layer : length (layer_of across upward corners) ≡ 4 * n
    long-layer = omega (arith, many, cells-long (kept across upward corners))

    layer-first : take (4 * n) after ≡ layer_of across upward corners
    layer-first = ap (take (4 * n)) (g ∙ accepted.left) ∙ take_at (layer_of across upward corners) _ (4 * n) long-layer

    pub kept-long : 4 * n ≡ length (take (4 * n) after)
    kept-long = omega (arith, ap length layer-first, long-layer)

    -- the lines that are put
    abbrev lines : List ℕ
    lines = spell (Layer (pos n) (pos 0) ∷ rect_lines (take (4 * n) after))

    lines_are : layer_text across upward corners ≡ lines
    lines_are = rw (layer-first, many)

    lines-few : length lines ≤ room_for_all
    lines-few =
        rw layer-first (omega (
          arith,
          spell-length (Layer (pos n) (pos 0)) (spell (rect_lines (layer_of across upward corners))),
          layer-most n 0,
          covers-few (kept across upward corners),
          many,
          kept_small,
        ))

    pub kept-cells : length (take (4 * n) after) ≡ 4 * n
    kept-cells = sym kept-long

    pub kept-short : all_short (rect_lines (take (4 * n) after)) ≡ true
    kept-short = rw layer-first (covers-short (kept-sound across upward corners (length cells) zero-cause))

    pub kept-room : (out err : List ℕ) → Room out err → 0 + length lines ≤ length out
    kept-room out err r = omega (arith, lines-few, r.answer)

    pub kept-told : (out err last : List ℕ) (m : ℕ) → Room out err → Put out 0 lines last m
        → Told (corners_said across upward corners) out err last err (done_reply m)
    unfolding corners_said
    kept-told out err last m r p =
        told_same (done lines) out err last err _ (corners_said across upward corners) (told-done out err lines last m (omega (arith, lines-few, r.answer)) p)
        (rw (rw long at zero-cause) (ap done lines_are))
