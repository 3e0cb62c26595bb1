-- What the readers and writers of cells need.
use mathlib.Core.Path.{◌≡◌, refl, sym, ap, ◌∙◌}
use mathlib.Core.List.{List, [], ◌∷◌, ◌++◌}
use mathlib.Core.Bool.{Bool, cond}
use Prim.Native.Nat.{ℕ, zero, suc, ◌<◌}
use lib.Dec.{leb}
use lib.ListN.{length, get_or, length-append}
use lib.IntN.{pos}
use lib.Ieee.{Float, binary64, of_bits}
use native.Mathlib.Omega.{arith}
use mir.Syntax.{w32}
use mir.Val.{to_z, of_z}
use mir.Facts.{to_z-of_z, to_z_pos}
use borrow.Author.Tests.{lt-leb}
use Rattle.lists.specs.Lists.{padded}
use Rattle.lists.proofs.Padding.{padded-long}
use Rattle.geometry.specs.declared.Rect.{Rect}
use Rattle.geometry.specs.declared.Kind.{Kind}
use Rattle.geometry.specs.declared.Kind.TheVariants.{Ground, Edge, Point}
use Rattle.geometry.specs.Rectangles.{letter_of}
use Rattle.geometry.proofs.Machine.{Fitting}
use Rattle.plan.specs.Causes.{on_cause}
use Rattle.totals.specs.declared.Total.{Total}
use Rattle.totals.specs.Totals.{total_of}
use Rattle.survey.specs.declared.Strip.TheVariants.{Between}
use Rattle.paging.specs.Answers.{Run}
use Rattle.std.specs.Prelude.{Err}
use Rattle.paging.specs.Answers.{ran}
use Rattle.paging.specs.declared.Cursor.{Cursor}
use Rattle.paging.specs.Answers.{PageValues}
use Rattle.paging.specs.declared.Ticket.{Ticket}
use Rattle.paging.specs.Calls.{stop_number, run_values}
use Rattle.c_cells.specs.Cells.{ticket_cells, no_cursor, cursor_in, ticket_after, run_cells, strip_in}

-- five cells, one by one
pub five-cells : (l : List ℕ) → get_or l 0 0 ∷ get_or l 1 0 ∷ get_or l 2 0 ∷ get_or l 3 0 ∷ get_or l 4 0 ∷ [] ≡ padded 5 l
five-cells [] = refl
five-cells (a ∷ []) = refl
five-cells (a ∷ b ∷ []) = refl
five-cells (a ∷ b ∷ c ∷ []) = refl
five-cells (a ∷ b ∷ c ∷ d ∷ []) = refl
five-cells (a ∷ b ∷ c ∷ d ∷ e ∷ l) = refl

-- a ticket has twelve: four, whatever they are, five, one and two
twelve : (n : ℕ) (l last : List ℕ) → length last ≡ 2 → length (0 ∷ 0 ∷ 0 ∷ 0 ∷ padded 5 l ++ n ∷ [] ++ last) ≡ 12
twelve n l last two = omega (arith, length-append (padded 5 l ++ n ∷ []) last, length-append (padded 5 l) (n ∷ []), padded-long 5 l)

pub ticket-long : (t : Ticket) → length (ticket_cells t) ≡ 12
ticket-long t = twelve _ t.cursor.chosen _ refl

-- cells whose first is above 1 are no cursor
none-at : (flag : ℕ) (c : Cursor) → 1 < flag → no_cursor ≡ cond (leb flag 1) c no_cursor
none-at flag c high = sym (ap (λ (t : Bool). cond t c no_cursor) (lt-leb flag 1 high))

pub in-none : (l : List ℕ) → 1 < get_or l 0 0 → no_cursor ≡ cursor_in l
in-none l high = none-at (get_or l 0 0) _ high

choice : {A : Type 0} (n : ℕ) (a b : A) → (n ≡ 0 → ⊥) → b ≡ on_cause n a (λ m. b)
choice zero a b some = absurd (some refl)
choice (suc n) a b some = refl

-- a refusal keeps the ticket's cells
pub after-refused : (given : List ℕ) (p : PageValues) (n : ℕ) → n ≡ stop_number p.stop → (n ≡ 0 → ⊥) → given ≡ ticket_after given p
after-refused given p n told some = choice (stop_number p.stop) (ticket_cells p.ticket) given (λ none. some (told ∙ none))

-- an accepted page leaves the ticket for what is due next
pub after-due : (given : List ℕ) (p : PageValues) (n : ℕ) → n ≡ stop_number p.stop → n ≡ 0 → ticket_cells p.ticket ≡ ticket_after given p
after-due given p n told none = sym (ap (λ m. on_cause m (ticket_cells p.ticket) (λ i. given)) (sym told ∙ none))

-- ---- whole runs
-- a refusal has cells of 0
pub run_none : {r : Run} {cause : ℕ} → Err cause ≡ r → 0 ∷ 0 ∷ 0 ∷ 0 ∷ 0 ∷ 0 ∷ [] ≡ run_cells (run_values r)
unfolding total_of
run_none e = ap (λ (a : Run). run_cells (run_values a)) e

-- an acceptance those of its values
pub run-some : {r : Run} {rows probes : ℕ} {area ground : Total} → ran rows probes area ground ≡ r → rows ∷ probes ∷ area.metres ∷ area.rest ∷ ground.metres ∷ ground.rest ∷ [] ≡ run_cells (run_values r)
run-some e = ap (λ (a : Run). run_cells (run_values a)) e

-- ---- a row's common ground
letter-small : (k : Kind) → letter_of k < 128
letter-small Ground = omega arith
letter-small Edge = omega arith
letter-small Point = omega arith

-- its sides and its letter as they are read
pub ground-read : (r : Rect) (k : Kind) (byte : ℕ) → Fitting r → byte ≡ letter_of k
    → to_z w32 (of_z w32 r.left) ∷ to_z w32 (of_z w32 r.bottom) ∷ to_z w32 (of_z w32 r.right) ∷ to_z w32 (of_z w32 r.top) ∷ to_z w32 byte ∷ []
    ≡ r.left ∷ r.bottom ∷ r.right ∷ r.top ∷ pos (letter_of k) ∷ []
ground-read r k byte f e =
    let z : to_z w32 byte ≡ pos byte = to_z_pos w32 (omega (arith, letter-small k)) in
    rw (to_z-of_z f.left, to_z-of_z f.bottom, to_z-of_z f.right, to_z-of_z f.top, z, e)

-- a kind above 3 is no strip
pub strip-none : (kind : ℕ) (lower upper : Float) → (kind ≡ 0 → ⊥) → (kind ≡ 1 → ⊥) → (kind ≡ 2 → ⊥) → (kind ≡ 3 → ⊥) → Between (of_bits binary64 0x3ff0_0000_0000_0000) (of_bits binary64 0) ≡ strip_in kind lower upper
unfolding of_bits
strip-none zero lower upper a b c d = absurd (a refl)
strip-none (suc zero) lower upper a b c d = absurd (b refl)
strip-none (suc (suc zero)) lower upper a b c d = absurd (c refl)
strip-none (suc (suc (suc zero))) lower upper a b c d = absurd (d refl)
strip-none (suc (suc (suc (suc kind)))) lower upper a b c d = refl
