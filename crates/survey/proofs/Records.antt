-- Laws of the loops over records: what is done and what is left give the whole.
use mathlib.Core.Path.{◌≡◌, refl, sym, ap, ◌∙◌, subst}
use mathlib.Core.List.{List, [], ◌∷◌, ◌++◌}
use mathlib.Core.Bool.{Bool, true, false, cond, ◌&&◌}
use Prim.Native.Nat.{ℕ, suc, ◌+◌, ◌-◌, ◌/◌, ◌≤◌, ◌<◌}
use native.Mathlib.Omega.{arith}
use native.Mathlib.Numerals.{add-one}
use lib.IntN.{ℤ}
use lib.ListN.{length}
use lib.Ieee.{Float}
use Rattle.geometry.specs.declared.Rect.{Rect}
use Rattle.lists.specs.Lists.{All, none_left, ◌and◌, upto, keep}
use Rattle.lists.proofs.Tests.{both, and-true}
use Rattle.lists.proofs.Lists.{all_get_d}
use Rattle.lists.proofs.Kept.{all-each, length-upto, get_d-upto}
use Rattle.lists.specs.inner.Stores.{Put}
use Rattle.lists.proofs.Stores.{Left, left-all, left-put, left-room, left-none}
use Rattle.survey.specs.declared.Corners.{Corners}
use Rattle.survey.specs.declared.Strip.{Strip}
use Rattle.survey.specs.Records.{corners_at, records, cover_of, sound_record, all_sound, kept_by, cover_cells}
use Rattle.survey.specs.CoverCall.{kept, layer_of}
use Rattle.survey.specs.inner.Puts.{cells_of, RecordFits, LayerFits}

-- ---- all records are sound
pub all-sound→ : (cs : List Corners) → all_sound cs ≡ true → All (λ c. sound_record c ≡ true) cs
all-sound→ [] e = none_left
all-sound→ (c ∷ cs) e = let h = both (sound_record c) (all_sound cs) e in ◌and◌ h.0 (all-sound→ cs h.1)

pub →all-sound : {cs : List Corners} → All (λ c. sound_record c ≡ true) cs → all_sound cs ≡ true
→all-sound none_left = refl
→all-sound (◌and◌ {a = c} {l = cs} h hs) = and-true (sound_record c) (all_sound cs) h (→all-sound hs)

pub sound-at : (s : List Float) (i : ℕ) → all_sound (records s) ≡ true → i < length s / 4 → sound_record (corners_at s i) ≡ true
sound-at s i e h =
    let d = corners_at s 0 in
    subst (λ (c : Corners). sound_record c ≡ true) (get_d-upto (corners_at s) 0 (length s / 4) i d h ∙ ap (corners_at s) (omega arith))
    (all_get_d d (all-sound→ (records s) e) i (omega (arith, length-upto (corners_at s) 0 (length s / 4))))

pub sound-all : (s : List Float) → ((i : ℕ) → i < length s / 4 → sound_record (corners_at s i) ≡ true) → all_sound (records s) ≡ true
sound-all s f = →all-sound (all-each (λ q. corners_at s q ∷ []) 0 (length s / 4) (λ q a b. ◌and◌ (f q (omega arith)) none_left))

module _ (s : List Float) where
  -- the records from i on
  abbrev pub rest : ℕ → List Corners
  rest i = upto (corners_at s) i (length s / 4 - i)

  rest_all : rest 0 ≡ records s
  rest_all = let e : length s / 4 - 0 ≡ length s / 4 = omega arith in rw e

  rest_more : (i : ℕ) → i < length s / 4 → rest i ≡ corners_at s i ∷ rest (i + 1)
  rest_more i h = let e : length s / 4 - i ≡ suc (length s / 4 - suc i) = omega arith in rw (add-one, e)

  rest_end : (i : ℕ) → length s / 4 ≤ i → rest i ≡ []
  rest_end i h = let e : length s / 4 - i ≡ 0 = omega arith in rw e

  -- ---- whether all are sound
  pub record Judging (i : ℕ) : Type 0 where
    pub seen : i ≤ length s / 4
    pub left : all_sound (rest i) ≡ all_sound (records s)

  pub judging-none : Judging 0
  judging-none = record { seen = omega arith; left = ap all_sound rest_all }

  module _ (i : ℕ) (j : Judging i) (h : i < length s / 4) where
    split : (sound_record (corners_at s i) && all_sound (rest (i + 1))) ≡ all_sound (records s)
    split = sym (ap all_sound (rest_more i h)) ∙ j.left

    pub judging-more : sound_record (corners_at s i) ≡ true → Judging (i + 1)
    judging-more e = record { seen = omega arith; left = rw e at split }

    pub judging-not : sound_record (corners_at s i) ≡ false → false ≡ all_sound (records s)
    judging-not e = rw e at split

  pub judging-end : (i : ℕ) → Judging i → length s / 4 ≤ i → true ≡ all_sound (records s)
  judging-end i j h = sym (ap all_sound (rest_end i h)) ∙ j.left

  module _ (across upward : Strip) where
    abbrev keeps : List Corners → List Corners
    keeps l = keep (kept_by across upward) l

    -- ---- how many are kept
    pub record Counting (k i : ℕ) : Type 0 where
      pub seen : i ≤ length s / 4
      pub few : k ≤ i
      pub left : k + length (keeps (rest i)) ≡ length (kept across upward s)

    pub counting-none : Counting 0 0
    counting-none = record { seen = omega arith; few = omega arith; left = ap (λ (l : List Corners). 0 + length (keeps l)) rest_all ∙ omega arith }

    pub counting_more : (k i : ℕ) (b : Bool) (r : ℕ) → Counting k i → i < length s / 4 → b ≡ kept_by across upward (corners_at s i) → r ≡ cond b 1 0 → Counting (k + r) (i + 1)
    counting_more k i b r n h e f = go b e f
      where
        whole : k + length (keeps (corners_at s i ∷ rest (i + 1))) ≡ length (kept across upward s)
        whole = sym (ap (λ (l : List Corners). k + length (keeps l)) (rest_more i h)) ∙ n.left

        go : (b : Bool) → b ≡ kept_by across upward (corners_at s i) → r ≡ cond b 1 0 → Counting (k + r) (i + 1)
        go true e f = let w = rw (sym e) at whole in record { seen = omega arith; few = omega (arith, n.few); left = omega arith }
        go false e f = let w = rw (sym e) at whole in record { seen = omega arith; few = omega (arith, n.few); left = omega arith }

    pub counting-end : (k i : ℕ) → Counting k i → length s / 4 ≤ i → k ≡ length (kept across upward s)
    counting-end k i n h = omega (arith, n.left, ap (λ (l : List Corners). length (keeps l)) (rest_end i h))

    -- ---- their cells
    cells-more : (c : Corners) (l : List Corners) → cover_cells (keeps (c ∷ l)) ≡ cells_of across upward c ++ cover_cells (keeps l)
    cells-more c l = go (kept_by across upward c)
      where
        go : (b : Bool) → cover_cells (cond b (c ∷ keeps l) (keeps l)) ≡ cond b (cover_cells (c ∷ [])) [] ++ cover_cells (keeps l)
        go true = refl
        go false = refl

    pub record Filling (first cells : List ℤ) (at i : ℕ) : Type 0 where
      pub seen : i ≤ length s / 4
      pub left : Left first 0 (layer_of across upward s) cells at (cover_cells (keeps (rest i)))

    pub filling-none : (first : List ℤ) → Filling first first 0 0
    filling-none first = record { seen = omega arith; left = subst (λ (l : List Corners). Left first 0 (layer_of across upward s) first 0 (cover_cells (keeps l))) (sym rest_all) (left-all first 0 (layer_of across upward s)) }

    module _ (first cells : List ℤ) (at i : ℕ) (f : Filling first cells at i) (h : i < length s / 4) where
      due : Left first 0 (layer_of across upward s) cells at (cells_of across upward (corners_at s i) ++ cover_cells (keeps (rest (i + 1))))
      due = subst (Left first 0 (layer_of across upward s) cells at) (ap (λ (l : List Corners). cover_cells (keeps l)) (rest_more i h) ∙ cells-more (corners_at s i) (rest (i + 1))) f.left

      pub filling-fits : LayerFits across upward s first → (c : Corners) → c ≡ corners_at s i → RecordFits across upward c cells at
      filling-fits q c e =
          subst (λ (d : Corners). RecordFits across upward d cells at) (sym e)
          (record { sound = sound-at s i q.sound h; room = left-room first 0 (layer_of across upward s) cells at (cells_of across upward (corners_at s i)) (cover_cells (keeps (rest (i + 1)))) (omega (arith, q.room)) due })

      pub filling-more : (last : List ℤ) (r : ℕ) (c : Corners) → c ≡ corners_at s i → Put cells at (cells_of across upward c) last r → Filling first last r (i + 1)
      filling-more last r c e p =
          record {
            seen = omega arith;
            left = left-put first 0 (layer_of across upward s) cells at (cells_of across upward (corners_at s i)) (cover_cells (keeps (rest (i + 1)))) last r (subst (λ (d : Corners). Put cells at (cells_of across upward d) last r) e p) due;
          }

    pub filling-end : (first cells : List ℤ) (at i : ℕ) → Filling first cells at i → length s / 4 ≤ i → Put first 0 (layer_of across upward s) cells at
    filling-end first cells at i f h =
        left-none first 0 (layer_of across upward s) cells at (subst (λ (l : List Corners). Left first 0 (layer_of across upward s) cells at (cover_cells (keeps l))) (rest_end i h) f.left)

-- ---- the cells of one record
module _ (across upward : Strip) (c : Corners) where
  pub room-kept : (cells : List ℤ) (at : ℕ) → RecordFits across upward c cells at → kept_by across upward c ≡ true → at + 4 ≤ length cells
  room-kept cells at f e = let h = f.room in rw e at h

  pub put-yes : (buf last : List ℤ) (at v : ℕ) (r : Rect) → kept_by across upward c ≡ true → r ≡ cover_of c → Put buf at (r.left ∷ r.bottom ∷ r.right ∷ r.top ∷ []) last v → Put buf at (cells_of across upward c) last v
  put-yes buf last at v r e q p = rw e (subst (λ (z : Rect). Put buf at (z.left ∷ z.bottom ∷ z.right ∷ z.top ∷ []) last v) q p)

  pub put-no : (buf : List ℤ) (at : ℕ) → kept_by across upward c ≡ false → Put buf at (cells_of across upward c) buf at
  put-no buf at e = rw e (record { place = omega arith; stored = refl })
