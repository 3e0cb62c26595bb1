-- Laws of lines that are spelled, and written, one behind the other.
use mathlib.Core.Path.{◌≡◌, refl, sym, ap, ◌∙◌, subst}
use mathlib.Core.List.{List, [], ◌∷◌, ◌++◌, append_assoc}
use Prim.Native.Nat.{ℕ}
use Rattle.pens.specs.declared.Pen.{Pen}
use Rattle.pens.specs.Pens.{RoomFor, wrote}
use Rattle.pens.proofs.Pens.{Due, due-room, due-then}
use Rattle.line.specs.declared.Line.{Line}
use Rattle.line.specs.Lines.{spell_to}
use Rattle.line.proofs.Lines.{spell-front}
use Rattle.text.specs.Spelling.{spell}

-- a line in front of bytes, and more bytes behind them
pub line-then : (l : Line) (a b : List ℕ) → spell_to l (a ++ b) ≡ spell_to l a ++ b
line-then l a b = spell-front l (a ++ b) ∙ (sym (append_assoc (spell_to l []) a b) ∙ ap (λ (r : List ℕ). r ++ b) (sym (spell-front l a)))

pub spell-++ : (ls ms : List Line) → spell (ls ++ ms) ≡ spell ls ++ spell ms
spell-++ [] ms = refl
spell-++ (l ∷ ls) ms = ap (spell_to l) (spell-++ ls ms) ∙ line-then l (spell ls) (spell ms)

-- ---- lines that are left to be written
module _ (first : Pen) (whole : List ℕ) (p : Pen) (ls ms : List Line) (d : Due first whole p (spell (ls ++ ms))) where
  parts : Due first whole p (spell ls ++ spell ms)
  parts = subst (λ (r : List ℕ). Due first whole p r) (spell-++ ls ms) d

  pub lines-room : RoomFor p (spell ls)
  lines-room = due-room first whole p (spell ls) (spell ms) parts

  pub lines-then : (q : Pen) → q ≡ wrote p (spell ls) → Due first whole q (spell ms)
  lines-then q e = due-then first whole p (spell ls) (spell ms) q parts e
