-- Laws of pens: what is written behind what was written.
use mathlib.Core.Path.{◌≡◌, refl, sym, ap, ◌∙◌}
use mathlib.Core.List.{List, ◌++◌, [], ◌∷◌, append_assoc}
use Prim.Native.Nat.{ℕ, ◌+◌}
use native.Mathlib.Omega.{arith}
use lib.ListN.{length, length-append}
use lib.Seq.{length-sets}
use Rattle.lists.specs.inner.Stores.{Put}
use Rattle.lists.proofs.Stores.{put_then}
use Rattle.pens.specs.declared.Pen.{Pen}
use Rattle.pens.specs.Pens.{RoomFor, place, capacity, wrote}

pub place-wrote : (p : Pen) (a : List ℕ) → place (wrote p a) ≡ place p + length a
unfolding wrote place
place-wrote p a = refl

pub capacity-wrote : (p : Pen) (a : List ℕ) → capacity (wrote p a) ≡ capacity p
unfolding wrote capacity
capacity-wrote p a = length-sets p.buf.now p.at a

-- what was put into the buffer is written
pub wrote-put : (p : Pen) (bytes last : List ℕ) (r : ℕ) → Put p.buf.now p.at bytes last r → record p { buf = record p.buf { now = last }; at = r } ≡ wrote p bytes
unfolding wrote
wrote-put p bytes last r h = rw (h.place, h.stored)

-- what is written behind what was written is written in one
pub wrote-then : (p : Pen) (a b : List ℕ) → wrote (wrote p a) b ≡ wrote p (a ++ b)
unfolding wrote
wrote-then p a b =
    wrote-put p (a ++ b) _ _ (put_then {xs = a} {ys = b} (record { joins = refl }) (record { place = refl; stored = refl }) (record { place = refl; stored = refl }))

pub wrote-nothing : (p : Pen) → wrote p [] ≡ p
unfolding wrote
wrote-nothing p =
    let e : p.at + 0 ≡ p.at = omega arith in
    rw e

-- what a check needs of a body that puts one run behind the other
pub ruleset writing = (place-wrote, capacity-wrote, wrote-then, length-append, append_assoc)

-- bytes that are the same, however they are made
module _ (p : Pen) (xs whole : List ℕ) (e : whole ≡ xs) where
  pub room-same : RoomFor p whole → RoomFor p xs
  room-same h = rw e at h

  pub wrote-same : (q : Pen) → q ≡ wrote p xs → q ≡ wrote p whole
  wrote-same q f = rw e f

-- where there is room for two runs, there is for the first
pub room-first : (p : Pen) (a b : List ℕ) → RoomFor p (a ++ b) → RoomFor p a
room-first p a b h = omega (arith, length-append a b, h)

-- two runs, one behind the other
module _ (p q : Pen) (a b : List ℕ) (e : q ≡ wrote p a) where
  pub room-behind : RoomFor p (a ++ b) → RoomFor q b
  room-behind h = rw e (omega (arith, length-append a b, h, place-wrote p a, capacity-wrote p a))

  pub wrote-both : (r : Pen) → r ≡ wrote q b → r ≡ wrote p (a ++ b)
  wrote-both r f = f ∙ (ap (λ (i : Pen). wrote i b) e ∙ wrote-then p a b)

-- `rest` is left to be written, and then `whole` has been by the pen `first`
pub record Due (first : Pen) (whole : List ℕ) (p : Pen) (rest : List ℕ) : Type 0 where
  pub room : RoomFor p rest
  pub gives : wrote p rest ≡ wrote first whole

pub due-all : (p : Pen) (whole : List ℕ) → RoomFor p whole → Due p whole p whole
due-all p whole h = record { room = h; gives = refl }

module _ (first : Pen) (whole : List ℕ) (p : Pen) where
  -- there is room for the first of what is left
  pub due-room : (a b : List ℕ) → Due first whole p (a ++ b) → RoomFor p a
  due-room a b d = room-first p a b d.room

  -- it is written
  pub due-then : (a b : List ℕ) (q : Pen) → Due first whole p (a ++ b) → q ≡ wrote p a → Due first whole q b
  due-then a b q d e =
      record { room = room-behind p q a b e d.room; gives = wrote-both p q a b e (wrote q b) refl ∙ d.gives }

  -- nothing is left
  pub due-none : Due first whole p [] → p ≡ wrote first whole
  due-none d = sym (wrote-nothing p) ∙ d.gives
