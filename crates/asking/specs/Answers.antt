-- What the commands say of a text.
use Rattle.std.specs.Prelude.{List, cond, ℕ, leb, ℤ, length, Option, Some, None, Result, Ok, Err}
use Rattle.geometry.specs.declared.Rect.{Rect}
use Rattle.plan.specs.declared.Shape.{Shape}
use Rattle.plan.specs.Causes.{unless, ◌or_else◌, on_cause}
use Rattle.plan.specs.Limits.{most_cells}
use Rattle.text.specs.Reader.{read_cause, text_shape, text_cells}
use Rattle.nearest.specs.Nearest.{nearest_call, nearest_values}
use Rattle.pairs.specs.declared.Pair.{Pair}
use Rattle.pairs.specs.PairCall.{pair_call}
use Rattle.outcomes.specs.Texts.{ascii}
use Rattle.outcomes.specs.Outcomes.{Outcome, refused, misused, done}
use Rattle.asking.specs.Lines.{share_line, apart_line, near_lines, pair_lines}

-- 13, "input above 65,536 bytes", comes "before all others"; then the reader's causes, where it is lent cells for any plan
unfoldable pub text_cause : List ℕ → ℕ
text_cause t = unless (leb (length t) 65536) 13 or_else read_cause most_cells t

-- what is said of the plan of a text, or that the text is refused
unfoldable pub on_plan : List ℕ → (Shape → List ℤ → Outcome) → Outcome
on_plan t told = on_cause (text_cause t) (told (text_shape t) (text_cells t)) refused

-- ---- `apart PLACE..`: what the pair call answers for the places
unfoldable pub pair_outcome : Result (Option Pair) ℕ → Outcome
pair_outcome (Err cause) = refused cause
pair_outcome (Ok None) = done share_line
pair_outcome (Ok (Some pair)) = done (apart_line pair.lower pair.higher)

abbrev pub apart_of : List ℕ → (places : List ℕ) → Outcome
apart_of t places = on_plan t (λ s cells. pair_outcome (pair_call s cells places))

-- ---- `nearest LEFT BOTTOM RIGHT TOP`: what lies nearest to the box in each layer of the plan
unfoldable pub near_outcome : Shape → List ℤ → Rect → Outcome
near_outcome s cells box = let r = nearest_values (nearest_call s cells box) in on_cause r.number (done (near_lines s.k r.layers)) refused

abbrev pub nearest_said : List ℕ → (box : Rect) → Outcome
nearest_said t box = on_plan t (λ s cells. near_outcome s cells box)

-- ---- `pairs [LAYER]`: the rows of each two layers; with a number, of each two of which one has it. 0 stands for no number. A plan has no layer past k
unfoldable pub pairs_outcome : Shape → List ℤ → (layer : ℕ) → Outcome
pairs_outcome s cells layer = cond (leb layer s.k) (done (pair_lines s cells layer)) (misused (ascii "the plan has no layer of this number"))

abbrev pub pairs_of : List ℕ → (layer : ℕ) → Outcome
pairs_of t layer = on_plan t (λ s cells. pairs_outcome s cells layer)
