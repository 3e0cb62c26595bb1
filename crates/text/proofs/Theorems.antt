-- Plan texts are read back, only they are accepted, and "well formed" is what 01 says.
use mathlib.Core.Path.{◌≡◌, refl, sym, ap, ap₂, ◌∙◌, subst}
use mathlib.Core.List.Memᴰ
use mathlib.Core.List.{List, [], ◌∷◌, ◌++◌, Memᴰ}
use mathlib.Core.Option.{Option, none, some, some-injective, none-ne-some}
use mathlib.Core.Logic.{◌↔◌, ◌⊎◌, inl, inr}
use mathlib.Core.Bool.{Bool, true, false, ◌&&◌}
use Prim.Native.Nat.{ℕ, zero, suc, ◌*◌, ◌≤◌}
use native.Mathlib.Omega.{arith}
use lib.Dec.{eqb, leb}
use lib.IntN.{ℤ, pos, negsuc}
use lib.Signed.{◌≤ℤ◌}
use lib.ListN.{length, take, drop}
use borrow.Author.Tests.{eqb-true, le-leb, leb-true, leb-false}
use Rattle.lists.proofs.Tests.{clash, both, and-true, le-tells}
use Rattle.lists.specs.Lists.{padded, sum}
use Rattle.geometry.specs.declared.Rect.{Rect}
use Rattle.geometry.specs.Theorems.{Ranged}
use Rattle.geometry.proofs.Integers.{zarith}
use Rattle.geometry.proofs.Rectangles.{ranged}
use Rattle.plan.specs.declared.Shape.{Shape}
use Rattle.plan.specs.Causes.{unless, ◌or_else◌, Check, fails, passes, Passed}
use Rattle.plan.specs.Plan.{plan_cause, Sound}
use Rattle.plan.specs.Theorems.{PlanChecks}
use Rattle.plan.proofs.Plan.{checked, unless-zero}
use Rattle.plan.proofs.Causes.{check-held}
use Rattle.plan.proofs.Theorems.{plan-last}
use Rattle.decimal.specs.Numerals.{short}
use Rattle.decimal.specs.Theorems.{Spells}
use Rattle.line.specs.declared.Line.{Line}
use Rattle.line.specs.declared.Line.TheVariants.{Plan, Layer, Rectangle}
use Rattle.line.specs.Lines.{LAYER, spell_to, short_line}
use Rattle.line.specs.Theorems.{Starts}
use Rattle.line.proofs.Theorems.{starts, started, old-line}
use Rattle.text.specs.Spelling.{spell, inner, all_inner, headed, all_short}
use Rattle.text.specs.Parsing.{lines_of}
use Rattle.text.specs.Plans.{layer_lines, plan_lines, text_of, layer_sizes, layer_margins, cells_in, shape_in, rects_agree, well_counted, agrees}
use Rattle.text.specs.Reader.{lines_cause, read_cause, text_shape, text_cells, read_answer, read_values, cells_after}
use Rattle.text.specs.Theorems.{Others, layer, rect, Formed, PlanText, RoundTrip}
use Rattle.text.specs.Theorems as Theorems
use Rattle.text.specs.Writer.{write_cause}
use Rattle.text.proofs.Parsing.{only, Spelled, lines-of-spelling, spelling-of-lines, first-none, none-behind}
use Rattle.text.proofs.Verdict.{agreed}
use Rattle.text.proofs.Sound.{Inside, inside-layer, inside-rect, margins-many, passed-sound}
use Rattle.lists.proofs.Padding.{take-padded}
use Rattle.text.proofs.Plans.{plan-shape, plan-cells, plan-agrees, plan-short, plan-long, plan-headed, lines_are}

-- ---- the text of a sound plan
module _ (s : Shape) (plan : List ℤ) (sound : Sound s plan) where
  lines-back : lines_of (text_of s plan) ≡ some (plan_lines s plan)
  unfolding text_of
  lines-back = lines-of-spelling (plan_lines s plan) (plan-headed s plan sound) (plan-short s plan sound)

  -- it has at most the cause 11
  text-cause : (room : ℕ) → read_cause room (text_of s plan) ≡ unless (leb (length plan) room) 11
  unfolding read_cause
  text-cause room = rw (lines-back, plan-agrees s plan sound, plan-cells s plan sound)

  -- its shape and cells are the plan's
  pub shape-back : text_shape (text_of s plan) ≡ s
  unfolding text_shape
  shape-back = rw lines-back (plan-shape s plan sound)

  pub cells-back : text_cells (text_of s plan) ≡ plan
  unfolding text_cells
  cells-back = rw lines-back (plan-cells s plan sound)

  back : (cells : List ℤ) → length plan ≤ length cells
      → (read_values (read_answer (length cells) (text_of s plan)) ≡ record { number = 0; shape = s }) × (cells_after (text_of s plan) cells ≡ plan ++ drop (length plan) cells)
  back cells h =
      let e : read_cause (length cells) (text_of s plan) ≡ 0 = rw (text-cause (length cells), le-leb (length plan) (length cells) h) in
      (rw (e, shape-back), rw (e, cells-back))

-- ---- an accepted text
headed-lines : (ls : List Line) → agrees ls ≡ true → ls ≡ plan_lines (shape_in ls) (cells_in ls)
unfolding agrees plan_lines shape_in
headed-lines [] e = clash e refl
headed-lines (Layer n m ∷ ls) e = clash e refl
headed-lines (Rectangle r ∷ ls) e = clash e refl
headed-lines (Plan (negsuc k) ∷ ls) e = clash e refl
headed-lines (Plan (pos k) ∷ ls) e =
    let b = both (eqb (length (layer_sizes ls)) k && rects_agree 0 ls) (eqb (plan_cause (shape_in (Plan (pos k) ∷ ls)) (cells_in ls)) 0) e in
    let c = both (eqb (length (layer_sizes ls)) k) (rects_agree 0 ls) b.0 in
    let l = eqb-true (length (layer_sizes ls)) k c.0 in
    let f = checked (shape_in (Plan (pos k) ∷ ls)) (cells_in ls) (passed-sound (Plan (pos k) ∷ ls) (eqb-true (plan_cause (shape_in (Plan (pos k) ∷ ls)) (cells_in ls)) 0 b.1)) in
    let n = front (layer_sizes ls) k l f.high in
    let m = front (layer_margins ls) k (margins-many ls ∙ l) f.high in
    ap (λ (m : List Line). Plan (pos k) ∷ m) (lines_are 0 ls c.1 ∙ ap₂ (λ (ns ms : List ℕ). layer_lines ns ms (cells_in ls)) (sym n) (sym m))
  where
    front : (ns : List ℕ) (k : ℕ) → length ns ≡ k → k ≤ 6 → take k (padded 6 ns) ≡ ns
    front ns k l h = sym (ap (λ (i : ℕ). take i (padded 6 ns)) l) ∙ take-padded 6 ns (omega arith)

agrees-sound : (ls : List Line) → agrees ls ≡ true → Sound (shape_in ls) (cells_in ls)
unfolding agrees
agrees-sound ls e = passed-sound ls (eqb-true (plan_cause (shape_in ls) (cells_in ls)) 0 (both (well_counted ls) (eqb (plan_cause (shape_in ls) (cells_in ls)) 0) e).1)

-- a text is, byte for byte, the text of the sound plan that it gives; this has 4n cells, and they fit
pub record OfPlan (room : ℕ) (t : List ℕ) : Type 0 where
  pub text : t ≡ text_of (text_shape t) (text_cells t)
  pub sound : Sound (text_shape t) (text_cells t)
  pub four : length (text_cells t) ≡ 4 * sum (text_shape t).sizes
  pub fits : length (text_cells t) ≤ room

pub of-plan : (room : ℕ) (t : List ℕ) → read_cause room t ≡ 0 → OfPlan room t
unfolding read_cause text_shape text_cells text_of
of-plan room t e = go (lines_of t) refl e
  where
    fits : (ls : List Line) (a b : Bool) → agrees ls ≡ a → leb (length (cells_in ls)) room ≡ b → lines_of t ≡ some ls → ◌≡◌ {A = ℕ} (unless a 10 or_else unless b 11) 0 → OfPlan room t
    fits ls false b x y q z = absurd (omega arith)
    fits ls true false x y q z = absurd (omega arith)
    fits ls true true x y q z =
        record {
          text = rw q ((spelling-of-lines t ls q).text ∙ ap spell (headed-lines ls x));
          sound = rw q (agrees-sound ls x);
          four = rw q (checked (shape_in ls) (cells_in ls) (agrees-sound ls x)).whole;
          fits = rw q (leb-true (length (cells_in ls)) room y);
        }

    go : (o : Option (List Line)) → lines_of t ≡ o → lines_cause room o ≡ 0 → OfPlan room t
    go none q z = absurd (omega arith)
    go (some ls) q z = fits ls (agrees ls) (leb (length (cells_in ls)) room) refl refl q z

-- ---- well formed: the bytes, and the lines that are read
others-of : (ls : List Line) → all_inner ls ≡ true → all_short ls ≡ true → Others ls (spell ls)
others-of [] i h = Theorems.none
others-of (Plan k ∷ ls) i h = clash i refl
others-of (Layer n m ∷ ls) i h = let s = both (short_line (Layer n m)) (all_short ls) h in layer (starts (Layer n m) (spell ls) s.0) (others-of ls i s.1)
others-of (Rectangle r ∷ ls) i h = let s = both (short_line (Rectangle r)) (all_short ls) h in rect (starts (Rectangle r) (spell ls) s.0) (others-of ls i s.1)

formed-of : (ls : List Line) → headed ls ≡ true → all_short ls ≡ true → Formed (spell ls)
formed-of [] i h = clash i refl
formed-of (Layer n m ∷ ls) i h = clash i refl
formed-of (Rectangle r ∷ ls) i h = clash i refl
formed-of (Plan k ∷ ls) i h =
    let s = both (short_line (Plan k)) (all_short ls) h in
    record { k = k; others = ls; rest = spell ls; first = starts (Plan k) (spell ls) s.0; followed = others-of ls i s.1 }

-- LAYER and RECT lines are spelled so
pub record Behind (ls : List Line) (t : List ℕ) : Type 0 where
  pub text : t ≡ spell ls
  pub inner : all_inner ls ≡ true
  pub few : all_short ls ≡ true

behind-one : {rest t : List ℕ} (l : Line) (ls : List Line) → inner l ≡ true → Starts rest l t → Behind ls rest → Behind (l ∷ ls) t
behind-one l ls i p b =
    let s = started p in
    record { text = s.1 ∙ ap (spell_to l) b.text; inner = and-true (inner l) (all_inner ls) i b.inner; few = and-true (short_line l) (all_short ls) s.0 b.few }

behind-of : {ls : List Line} {t : List ℕ} → Others ls t → Behind ls t
behind-of Theorems.none = record { text = refl; inner = refl; few = refl }
behind-of (layer {n} {m} {ls} p o) = behind-one (Layer n m) ls refl p (behind-of o)
behind-of (rect {r} {ls} p o) = behind-one (Rectangle r) ls refl p (behind-of o)

module _ (t : List ℕ) (f : Formed t) where
  abbrev lines : List Line
  lines = Plan f.k ∷ f.others

  spelled : Spelled t lines
  spelled =
      let b = behind-of f.followed in
      let s = started f.first in
      record { text = s.1 ∙ ap (spell_to (Plan f.k)) b.text; first = b.inner; few = and-true (short f.k) (all_short f.others) s.0 b.few }

  lines-of : lines_of t ≡ some lines
  lines-of = ap lines_of spelled.text ∙ lines-of-spelling lines spelled.first spelled.few

-- ---- the causes
-- the text of a plan has at most the cause 11
plan-cause : (room : ℕ) (t : List ℕ) (p : PlanText t) → read_cause room t ≡ unless (leb (length p.plan) room) 11
plan-cause room t p = ap (read_cause room) p.text ∙ text-cause p.shape p.plan p.sound room

module _ (room : ℕ) (t : List ℕ) where
  fitting : (p : PlanText t) (b : Bool) → leb (length p.plan) room ≡ b → Check 11 ((q : PlanText t) → length q.plan ≤ room) Passed (read_cause room t)
  fitting p true e =
      let z : read_cause room t ≡ 0 = plan-cause room t p ∙ rw e in
      passes (λ q. leb-true (length q.plan) room (unless-zero _ 10 (sym (plan-cause room t q) ∙ z))) z
  fitting p false e = fails (plan-cause room t p ∙ rw e) (λ h. let l = leb-false (length p.plan) room e in omega (arith, h p))

  pub read-causes : Check 9 (Formed t) (Check 10 (PlanText t) (Check 11 ((p : PlanText t) → length p.plan ≤ room) Passed)) (read_cause room t)
  unfolding read_cause text_of
  read-causes = go (lines_of t) refl
    where
      some-lines : (ls : List Line) (a : Bool) → agrees ls ≡ a → lines_of t ≡ some ls → Check 10 (PlanText t) (Check 11 ((p : PlanText t) → length p.plan ≤ room) Passed) (read_cause room t)
      some-lines ls true x q =
          let p : PlanText t = record { shape = shape_in ls; plan = cells_in ls; sound = agrees-sound ls x; text = (spelling-of-lines t ls q).text ∙ ap spell (headed-lines ls x) } in
          passes p (fitting p (leb (length p.plan) room) refl)
      some-lines ls false x q =
          fails (rw (q, x)) (λ p.
          let l : lines_of t ≡ some (plan_lines p.shape p.plan) = ap lines_of p.text ∙ lines-back p.shape p.plan p.sound in
          let e : ls ≡ plan_lines p.shape p.plan = some-injective ls (plan_lines p.shape p.plan) (sym q ∙ l) in
          clash (plan-agrees p.shape p.plan p.sound) (ap agrees (sym e) ∙ x))

      go : (o : Option (List Line)) → lines_of t ≡ o → Check 9 (Formed t) (Check 10 (PlanText t) (Check 11 ((p : PlanText t) → length p.plan ≤ room) Passed)) (read_cause room t)
      go none q = fails (rw q) (λ f. none-ne-some _ (sym q ∙ lines-of t f))
      go (some ls) q =
          let s = spelling-of-lines t ls q in
          passes (subst Formed (sym s.text) (formed-of ls s.first s.few)) (some-lines ls (agrees ls) refl q)

  pub exactly : (read_cause room t ≡ 0) ↔ ((p : PlanText t) × (length p.plan ≤ room))
  exactly = (
    λ e.
        let p = check-held 10 (omega arith) e (check-held 9 (omega arith) e read-causes).1 in
        (p.0, (check-held 11 (omega arith) e p.1).0 p.0),
    λ h. plan-cause room t h.0 ∙ rw (le-leb (length h.0.plan) room h.1),
  )

-- ---- LAYER lines
old : (room : ℕ) (t : List ℕ) → Formed t → (a : List ℕ) (n : ℤ) (rest : List ℕ) → Spells a n → read_cause room (t ++ (LAYER ++ (a ++ 10 ∷ rest))) ≡ 9
unfolding read_cause lines_of
old room t f a n rest p =
    let s = spelled t f in
    let after : List ℕ = LAYER ++ (a ++ 10 ∷ rest) in
    ap (λ (l : List ℕ). read_cause room (l ++ after)) s.text
    ∙ ap (λ (o : Option (List Line)). lines_cause room (only o))
    (none-behind (lines t f) after s.few (first-none after (omega arith) (old-line a n rest p)))

-- ---- numbers out of range
-- lines behind others are counted and in range where all are
part-inside : (due : ℕ) (front rest : List Line) → rects_agree due (front ++ rest) ≡ true → Inside (front ++ rest) → (d : ℕ) × (rects_agree d rest ≡ true) × Inside rest
part-inside due [] rest c i = (due, c, i)
part-inside due (Plan k ∷ front) rest c i = clash c refl
part-inside due (Layer (negsuc a) b ∷ front) rest c i = clash c refl
part-inside due (Layer (pos a) (negsuc b) ∷ front) rest c i = clash c refl
part-inside due (Layer (pos a) (pos b) ∷ front) rest c i = part-inside a front rest (both (eqb due 0) (rects_agree a (front ++ rest)) c).1 (inside-layer i).2
part-inside zero (Rectangle r ∷ front) rest c i = clash c refl
part-inside (suc due) (Rectangle r ∷ front) rest c i = part-inside due front rest c (inside-rect i).1

part-agrees : (front : List Line) (l : Line) (back : List Line) → inner l ≡ true → agrees (front ++ l ∷ back) ≡ true → (d : ℕ) × (rects_agree d (l ∷ back) ≡ true) × Inside (l ∷ back)
part-agrees [] (Plan k) back i e = clash i refl
part-agrees [] (Layer n m) back i e = clash e (unfold agrees in refl)
part-agrees [] (Rectangle r) back i e = clash e (unfold agrees in refl)
part-agrees (Layer a b ∷ front) l back i e = clash e (unfold agrees in refl)
part-agrees (Rectangle r ∷ front) l back i e = clash e (unfold agrees in refl)
part-agrees (Plan (negsuc k) ∷ front) l back i e = clash e (unfold agrees in refl)
part-agrees (Plan (pos k) ∷ front) l back i e = let a = agreed k (front ++ l ∷ back) e in part-inside 0 front (l ∷ back) a.count a.inside

-- a margin is from 0 to 50,000
margin-inside : (due : ℕ) (n m : ℤ) (back : List Line) → rects_agree due (Layer n m ∷ back) ≡ true → Inside (Layer n m ∷ back) → (pos 0 ≤ℤ m) × (m ≤ℤ pos 50000)
margin-inside due (negsuc n) m back c i = clash c refl
margin-inside due (pos n) (negsuc m) back c i = clash c refl
margin-inside due (pos n) (pos m) back c i = let b = inside-layer i in (omega zarith, omega (zarith, b.1))

-- well formed lines that do not agree are 10
disagree : (room : ℕ) (t : List ℕ) (f : Formed t) → (agrees (lines t f) ≡ true → ⊥) → read_cause room t ≡ 10
unfolding read_cause
disagree room t f x = rw (lines-of t f) (go (agrees (lines t f)) x)
  where
    go : (b : Bool) → (b ≡ true → ⊥) → (unless b 10 or_else unless (leb (length (cells_in (lines t f))) room) 11) ≡ 10
    go true x = absurd (x refl)
    go false x = refl

-- a member stands behind some lines and before others
pub record Parted (l : Line) (ls : List Line) : Type 0 where
  pub front : List Line
  pub back : List Line
  pub whole : ls ≡ front ++ l ∷ back

parted : (l : Line) (ls : List Line) → Memᴰ l ls → Parted l ls
parted l [] m = absurd (Memᴰ.not-nil m)
parted l (k ∷ ls) m = go (λ n. parted l ls n) (Memᴰ.cases_cons m)
  where
    go : (Memᴰ l ls → Parted l ls) → (l ≡ k) ⊎ Memᴰ l ls → Parted l (k ∷ ls)
    go f (inl e) = record { front = []; back = ls; whole = ap (λ (j : Line). j ∷ ls) (sym e) }
    go f (inr n) = let p = f n in record { front = k ∷ p.front; back = p.back; whole = ap (λ (js : List Line). k ∷ js) p.whole }

-- a line of lines that agree is counted and in range
member-inside : (k : ℤ) (ls : List Line) (l : Line) → inner l ≡ true → Memᴰ l ls → agrees (Plan k ∷ ls) ≡ true
    → (back : List Line) × (d : ℕ) × (rects_agree d (l ∷ back) ≡ true) × Inside (l ∷ back)
member-inside k ls l i m e =
    let p = parted l ls m in
    let h = part-agrees (Plan k ∷ p.front) l p.back i (subst (λ (js : List Line). agrees (Plan k ∷ js) ≡ true) p.whole e) in
    (p.back, h.0, h.1, h.2)

margin : (room : ℕ) (t : List ℕ) (f : Formed t) (n m : ℤ) → Memᴰ (Layer n m) f.others → ((pos 0 ≤ℤ m) × (m ≤ℤ pos 50000) → ⊥) → read_cause room t ≡ 10
margin room t f n m i x =
    disagree room t f (λ e.
    let k = member-inside f.k f.others (Layer n m) refl i e in
    x (margin-inside k.1 n m k.0 k.2 k.3))

coordinate : (room : ℕ) (t : List ℕ) (f : Formed t) (r : Rect) → Memᴰ (Rectangle r) f.others → (Ranged r → ⊥) → read_cause room t ≡ 10
coordinate room t f r i x = disagree room t f (λ e. x (ranged r (inside-rect (member-inside f.k f.others (Rectangle r) refl i e).3).0))

-- ---- the writer
write-causes : (s : Shape) (plan : List ℤ) (room : ℕ) → PlanChecks s plan (Check 12 (length (text_of s plan) ≤ room) Passed) (write_cause s plan room)
unfolding write_cause
write-causes s plan room = plan-last s plan 12 (λ z. le-tells (length (text_of s plan)) room)

-- ---- the longest text
longest : (s : Shape) (plan : List ℤ) → Sound s plan → length (text_of s plan) ≤ 138343
unfolding text_of
longest s plan sound = plan-long s plan sound

pub round_trip : RoundTrip
round_trip = record {
  texts = λ room t. record { exactly = exactly room t; causes = read-causes room t; old = old room t; margin = margin room t; coordinate = coordinate room t };
  plans = λ s plan. record {
    back = λ cells sound h. back s plan sound cells h;
    causes = write-causes s plan;
    written = λ buf e. (rw e, rw e);
    refused = λ buf n e. (rw e, rw e);
    longest = longest s plan;
  };
  refused = λ t cells n e. (rw e, rw e);
  read = λ s n. (refl, refl);
  values = λ n. (refl, refl, refl, refl);
}
