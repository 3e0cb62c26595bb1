-- Laws of the loop over all lines of a well formed text, and of what comes before it.
use mathlib.Core.Path.{◌≡◌, refl, sym, ap, ◌∙◌}
use mathlib.Core.List.{List, [], ◌∷◌, ◌++◌, append_assoc}
use mathlib.Core.Option.{Option, none, some, some-injective, none-ne-some}
use mathlib.Core.Bool.{true}
use Prim.Native.Nat.{ℕ, suc, ◌+◌, ◌≤◌, ◌<◌}
use native.Mathlib.Omega.{arith}
use native.Mathlib.Numerals.{add-one}
use lib.ListN.{length, drop, length-drop, drop_of_length-le}
use Rattle.lists.specs.Lists.{is_some, list_in}
use Rattle.lists.proofs.Tests.{clash}
use Rattle.lists.proofs.Stores.{put-length}
use Rattle.line.specs.declared.Line.{Line}
use Rattle.line.specs.Parsing.{line}
use Rattle.line.specs.Places.{Line-at}
use Rattle.line.proofs.Lines.{next-some}
use Rattle.text.specs.Parsing.{all_lines}
use Rattle.text.proofs.Parsing.{first_then, first-none}
use Rattle.checking.specs.declared.Counts.{Counts}
use Rattle.checking.specs.declared.Pen.{Pen}
use Rattle.checking.specs.Faults.{Note, no_counts, counted_with, line_faults, missing, faults_from}
use Rattle.checking.specs.inner.Notes.{PenIn, Noted, LinesFrom}
use Rattle.checking.proofs.Notes.{noted-none, noted-then}

-- there are lines
pub some-list : {A : Type 0} (o : Option (List A)) → is_some o ≡ true → o ≡ some (list_in o)
some-list none e = clash e refl
some-list (some l) e = refl

-- the loop: what was told, and what the lines from a place on still give
pub record Noting (s : List ℕ) (from : ℕ) (first : List ℕ) (start : Pen) (buf : List ℕ) (at number : ℕ) (pen : Pen) (c : Counts) : Type 0 where
  pub lines : List Line
  pub reads : all_lines (drop at s) ≡ some lines
  pub told : List Note
  pub noted : Noted first start told buf pen
  pub gives : told ++ faults_from number c lines ≡ faults_from 2 no_counts (list_in (all_lines (drop from s)))
  pub inside : at ≤ length s
  pub short : length s ≤ 65536
  pub few : number ≤ suc at
  pub long : length buf ≡ length first

pub noting-start : (s : List ℕ) (from : ℕ) (buf : List ℕ) (pen : Pen) → LinesFrom s from → PenIn buf pen → Noting s from buf pen buf from 2 pen no_counts
noting-start s from buf pen l p =
    record {
      lines = list_in (all_lines (drop from s));
      reads = some-list (all_lines (drop from s)) l.formed;
      told = [];
      noted = noted-none buf pen p;
      gives = refl;
      inside = l.inside;
      short = l.short;
      few = omega (arith, l.behind);
      long = refl;
    }

module _ (s : List ℕ) (from : ℕ) (first : List ℕ) (start : Pen) (buf : List ℕ) (at number : ℕ) (pen : Pen) (c : Counts)
    (n : Noting s from first start buf at number pen c) where
  -- a line is there
  pub noting-none : {X : Type 0} → at < length s → line (drop at s) ≡ none → X
  noting-none h e = absurd (none-ne-some n.lines (sym (first-none (drop at s) (simp length-drop (omega arith)) e) ∙ n.reads))

  -- the end
  pub noting-end : (last : List ℕ) (r : Pen) → length s ≤ at → Noted buf pen (missing c) last r
      → Noted first start (faults_from 2 no_counts (list_in (all_lines (drop from s)))) last r
  noting-end last r h p =
      let e : [] ≡ n.lines = some-injective [] n.lines (sym (ap all_lines (drop_of_length-le s {i = at} h)) ∙ n.reads) in
      let g : n.told ++ missing c ≡ faults_from 2 no_counts (list_in (all_lines (drop from s)))
      = ap (λ (ls : List Line). n.told ++ faults_from number c ls) e ∙ n.gives in
      rw g at (noted-then first buf last start pen r n.told (missing c) n.noted p)

  -- one line more
  pub noting-more : (l : Line) (i : ℕ) (last : List ℕ) (r : Pen) (d : Counts) → Line-at s at l i → Noted buf pen (line_faults number c l) last r → d ≡ counted_with number c l
      → Noting s from first start last i (number + 1) r d
  noting-more l i last r d f p e =
      let q = next-some (all_lines (drop i s)) _ n.lines (sym (first_then (drop at s) (l, drop i s) f.reads) ∙ n.reads) in
      let w : l ∷ q.0 ≡ n.lines = some-injective (l ∷ q.0) n.lines q.2 in
      let rest = faults_from (suc number) (counted_with number c l) q.0 in
      record {
        lines = q.0;
        reads = q.1;
        told = n.told ++ line_faults number c l;
        noted = noted-then first buf last start pen r n.told (line_faults number c l) n.noted p;
        gives = rw (e, add-one) (append_assoc n.told (line_faults number c l) rest ∙ ap (λ (ls : List Line). n.told ++ faults_from number c ls) w ∙ n.gives);
        inside = f.inside;
        short = n.short;
        few = omega (arith, n.few, f.after);
        long = put-length buf last _ pen.at r.at p.put ∙ n.long;
      }
