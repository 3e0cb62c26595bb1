-- What is due at a cursor: the cursor of each probe of a walk says which it is, and what a cursor says leads back to it.
use mathlib.Core.Path.{◌≡◌, refl, sym, ap, ◌∙◌}
use mathlib.Core.List.{List, [], ◌∷◌, Memᴰ}
use mathlib.Core.Option.{Option, none, some}
use mathlib.Core.Bool.{true}
use Prim.Native.Nat.{ℕ}
use native.Mathlib.Omega.{arith}
use lib.IntN.{ℤ}
use lib.ListN.{length, take, drop, take-append-drop}
use lib.Seq.{length-take-le, drop-append_seam}
use Rattle.lists.specs.Lists.{All, ◌and◌, Tells, is_some, padded}
use Rattle.lists.proofs.Tests.{clash, tells}
use Rattle.lists.proofs.Lists.{all-at, all-of-mem, all-parts}
use Rattle.lists.proofs.Padding.{padded-long, padded-zeros, padded-front}
use Rattle.plan.proofs.Spots.{rect-number}
use Rattle.search.specs.Traversal.{Guard, Probe}
use Rattle.search.proofs.Stands.{named-short}
use Rattle.paging.specs.declared.Cursor.{Cursor}
use Rattle.paging.specs.Overlays.{Overlay}
use Rattle.paging.specs.Cursors.{cursor_of, due_cursor, resume}
use Rattle.paging.specs.Theorems.{Says, Due, over, next, Good}
use Rattle.paging.proofs.Cursors.{cursor-chosen}
use Rattle.paging.proofs.Overlays.{OfPlan}
use Rattle.paging.proofs.Resume.{walk-deep, resume-is, resume-due}

-- ---- what a cursor says
module _ {S : Type 0} (ns : List ℕ) where
  -- a cursor that says a probe is its cursor
  says_is : (c : Cursor) (t : Probe S) → Says ns c t → c ≡ cursor_of ns t
  says_is c t h = λ i. record {
    ended = h.going i;
    layer = h.layer i;
    place = h.place i;
    filled = filled i;
    chosen = chosen i;
    next = h.next i;
  }
    where
      filled : c.filled ≡ length t.chosen
      filled = sym (length-take-le c.filled c.chosen (omega (arith, h.few, h.five))) ∙ ap length h.chosen

      chosen : c.chosen ≡ padded 5 t.chosen
      chosen = sym (padded-front 5 c.filled c.chosen h.five h.zeros) ∙ ap (padded 5) h.chosen

  -- so it is the one of what is due
  pub due-is : {c : Cursor} {w : List (Probe S)} → Due ns c w → c ≡ due_cursor ns w
  due-is over = refl
  due-is (next {c = c} {t = t} h) = says_is c t h

  -- and back
  is-due : (w : List (Probe S)) → All (λ t. Says ns (cursor_of ns t) t) w → Due ns (due_cursor ns w) w
  is-due [] h = over
  is-due (t ∷ w) (◌and◌ h hs) = next h

-- ---- of a plan
module _ {S : Type 0} {guard : ℕ → Guard S} {cells : List ℤ} (o : Overlay S) (of : OfPlan guard cells o) where
  -- the cursor of each probe says its guard and its candidates
  cursor-says : All (λ t. Says o.sizes (cursor_of o.sizes t) t) o.walk
  cursor-says = all-of-mem o.walk one
    where
      one : (t : Probe S) → Memᴰ t o.walk → Says o.sizes (cursor_of o.sizes t) t
      one t m =
          let h = (of.is.probes t.guard t.chosen t.tried).0 (t.yields, m) in
          let short = named-short h.1 in
          let slots = of.slots t.guard (rect-number o.sizes cells t.guard (omega (arith, h.0, of.frame.whole))).1 in
          record {
            going = refl;
            layer = refl;
            place = refl;
            few = omega (arith, short, slots, of.frame.few);
            slots = omega (arith, short, slots);
            five = padded-long 5 t.chosen;
            zeros = padded-zeros 5 t.chosen;
            chosen = cursor-chosen o.sizes t (all-at (walk-deep o of.laws) m);
            next = refl;
          }

  -- what is left after any number of probes is due at its cursor
  pub left-due : (n : ℕ) → Due o.sizes (due_cursor o.sizes (drop n o.walk)) (drop n o.walk)
  left-due n = is-due o.sizes (drop n o.walk) (all-parts (take n o.walk) (rw (take-append-drop n o.walk) cursor-says)).1

  -- a cursor resumes something exactly where it is good
  pub resumes : (c : Cursor) → Tells (Good o c) (is_some (resume o c))
  resumes c = tells (is_some (resume o c)) (λ e. to (resume o c) refl e) (λ h. rw (due-is o.sizes h.1, resume-due o of.laws h.0))
    where
      to : (r : Option (List (Probe S))) → resume o c ≡ r → is_some r ≡ true → Good o c
      to none e h = clash h refl
      to (some w) e h =
          let k = resume-is o c w e in
          let n = length k.before in
          let z : drop n o.walk ≡ w = ap (drop n) (sym k.splits) ∙ drop-append_seam k.before w in
          let d : due_cursor o.sizes (drop n o.walk) ≡ c = ap (due_cursor o.sizes) z ∙ k.due in
          (n, rw d at (left-due n))
