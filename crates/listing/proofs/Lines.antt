-- Laws of lines with more fields: the longer line stands where the shorter one was put, over the byte that ended it; and how long lines may be.
use mathlib.Core.Path.{◌≡◌, refl, sym, ap, ◌∙◌}
use mathlib.Core.List.{List, [], ◌∷◌, ◌++◌, map, append_assoc, append-nil}
use Prim.Native.Nat.{ℕ, suc, ◌+◌, ◌-◌, ◌≤◌}
use native.Mathlib.Omega.{arith}
use lib.ListN.{length, set, length-append}
use lib.Seq.{sets, set-set}
use Rattle.decimal.specs.Numerals.{decimal}
use Rattle.lists.specs.inner.Stores.{Put}
use Rattle.lists.proofs.Stores.{put-length}
use Rattle.plan.specs.Plan.{Layer}
use Rattle.join.specs.Join.{rects, area_in, kind_in, guard_layer}
use Rattle.crossings.specs.Crossings.{class_in}
use Rattle.printing.specs.Lines.{ROW, fields_end, line_of, row_fields, row_line}
use Rattle.printing.specs.inner.Parts.{FitsAt}
use Rattle.listing.specs.Lines.{row_line_with, classed_line}

-- fields, each behind its tab
abbrev pub parted : List (List ℕ) → List ℕ
parted [] = []
parted (f ∷ fs) = 9 ∷ f ++ parted fs

fields-more : (fs gs : List (List ℕ)) → fields_end (fs ++ gs) ≡ parted fs ++ fields_end gs
fields-more [] gs = refl
fields-more (f ∷ fs) gs = ap (λ (l : List ℕ). 9 ∷ l) (ap (λ (l : List ℕ). f ++ l) (fields-more fs gs) ∙ sym (append_assoc f (parted fs) (fields_end gs)))

-- a line with more fields is the line without its last byte, and then the others
line-more : (word : List ℕ) (fs gs : List (List ℕ)) → line_of word (fs ++ gs) ≡ (word ++ parted fs) ++ fields_end gs
unfolding line_of
line-more word fs gs = ap (λ (l : List ℕ). word ++ l) (fields-more fs gs) ∙ sym (append_assoc word (parted fs) (fields_end gs))

-- the ROW line up to the byte that ends it
abbrev pub front : List Layer → List ℕ → List ℕ
front ls row = ROW ++ parted (row_fields (suc (guard_layer (rects ls row))) row (area_in ls row) (kind_in ls row))

pub row-front : (ls : List Layer) (row : List ℕ) → row_line ls row ≡ front ls row ++ 10 ∷ []
row-front ls row =
    let fs = row_fields (suc (guard_layer (rects ls row))) row (area_in ls row) (kind_in ls row) in
    ap (λ (l : List (List ℕ)). line_of ROW l) (sym (append-nil fs)) ∙ line-more ROW fs []

-- ---- put over the last byte
over : (xs : List ℕ) (x y : ℕ) (ys buf : List ℕ) (i : ℕ) → sets (sets buf i (xs ++ x ∷ [])) (i + length xs) (y ∷ ys) ≡ sets buf i (xs ++ y ∷ ys)
over [] x y ys buf i =
    let e : i + 0 ≡ i = omega arith in
    ap (λ (j : ℕ). sets (set buf i x) j (y ∷ ys)) e ∙ ap (λ (l : List ℕ). sets l (suc i) ys) (set-set buf i x y)
over (z ∷ xs) x y ys buf i =
    let e : i + suc (length xs) ≡ suc i + length xs = omega arith in
    ap (λ (j : ℕ). sets (sets (set buf i z) (suc i) (xs ++ x ∷ [])) j (y ∷ ys)) e ∙ over xs x y ys (set buf i z) (suc i)

-- fields are never nothing
pub fields-some : (fs : List (List ℕ)) → (y : ℕ) × (ys : List ℕ) × (fields_end fs ≡ y ∷ ys)
fields-some [] = (10, [], refl)
fields-some (f ∷ fs) = (9, f ++ fields_end fs, refl)

module _ (xs : List ℕ) (x : ℕ) (fs : List (List ℕ)) (buf : List ℕ) (at : ℕ) where
  put-over : (mid last : List ℕ) (m r : ℕ) → Put buf at (xs ++ x ∷ []) mid m → Put mid (m - 1) (fields_end fs) last r → Put buf at (xs ++ fields_end fs) last r
  put-over mid last m r p q =
      let e = fields-some fs in
      let i : m - 1 ≡ at + length xs = omega (arith, p.place, length-append xs (x ∷ [])) in
      record {
        place = omega (arith, q.place, i, length-append xs (fields_end fs));
        stored =
            q.stored
            ∙ (ap (λ (j : ℕ). sets mid j (fields_end fs)) i
            ∙ (ap (λ (b : List ℕ). sets b (at + length xs) (fields_end fs)) p.stored
            ∙ rw e.2 (over xs x e.0 e.1 buf at)));
      }

  room-over : FitsAt buf at (xs ++ fields_end fs) → FitsAt buf at (xs ++ x ∷ [])
  room-over h =
      let e = fields-some fs in
      record { fits = omega (arith, h.fits, length-append xs (x ∷ []), length-append xs (fields_end fs), ap length e.2) }

  room-last : (mid : List ℕ) (m : ℕ) → Put buf at (xs ++ x ∷ []) mid m → FitsAt buf at (xs ++ fields_end fs) → FitsAt mid (m - 1) (fields_end fs)
  room-last mid m p h =
      record { fits = omega (arith, h.fits, p.place, length-append xs (x ∷ []), length-append xs (fields_end fs), put-length buf mid (xs ++ x ∷ []) at m p) }

-- ---- a row's line, and then more fields
module _ (more : List ℕ → List ℕ) (ls : List Layer) (row buf : List ℕ) (at : ℕ) where
  pub with-front : row_line_with more ls row ≡ front ls row ++ fields_end (map decimal (more row))
  with-front = line-more ROW (row_fields (suc (guard_layer (rects ls row))) row (area_in ls row) (kind_in ls row)) (map decimal (more row))

  -- where the whole has room, so has the report's line
  pub row_first : FitsAt buf at (row_line_with more ls row) → FitsAt buf at (row_line ls row)
  row_first h = rw (row-front ls row) (room-over (front ls row) 10 (map decimal (more row)) buf at (rw with-front at h))

  module _ (mid : List ℕ) (m : ℕ) (p : Put buf at (row_line ls row) mid m) where
    pub row-some : 1 ≤ m
    row-some = omega (arith, p.place, ap length (row-front ls row), length-append (front ls row) (10 ∷ []))

    module _ (fs : List (List ℕ)) (e : fs ≡ map decimal (more row)) where
      pub row_last : FitsAt buf at (row_line_with more ls row) → FitsAt mid (m - 1) (fields_end fs)
      row_last h = rw e (room-last (front ls row) 10 (map decimal (more row)) buf at mid m (rw (row-front ls row) at p) (rw with-front at h))

      pub row_more : (last : List ℕ) (r : ℕ) → Put mid (m - 1) (fields_end fs) last r → Put buf at (row_line_with more ls row) last r
      row_more last r q = rw with-front (put-over (front ls row) 10 (map decimal (more row)) buf at mid last m r (rw (row-front ls row) at p) (rw e at q))

-- how long the two are, over the same front
pub row-length : (ls : List Layer) (row : List ℕ) → length (row_line ls row) ≡ length (front ls row) + 1
row-length ls row = omega (arith, ap length (row-front ls row), length-append (front ls row) (10 ∷ []))

pub with-length : (more : List ℕ → List ℕ) (ls : List Layer) (row : List ℕ) → length (row_line_with more ls row) ≡ length (front ls row) + length (fields_end (map decimal (more row)))
with-length more ls row = omega (arith, ap length (with-front more ls row [] 0), length-append (front ls row) (fields_end (map decimal (more row))))

-- .. its class
module _ (ls : List Layer) (row buf : List ℕ) (at : ℕ) where
  abbrev class : List ℕ → List ℕ
  class r = class_in ls r ∷ []

  pub classed-first : FitsAt buf at (classed_line ls row) → FitsAt buf at (row_line ls row)
  classed-first h = row_first class ls row buf at h

  module _ (mid : List ℕ) (m : ℕ) (p : Put buf at (row_line ls row) mid m) where
    pub classed-some : 1 ≤ m
    classed-some = row-some class ls row buf at mid m p

    module _ (n : ℕ) (e : n ≡ class_in ls row) where
      pub classed-last : FitsAt buf at (classed_line ls row) → FitsAt mid (m - 1) (fields_end (decimal n ∷ []))
      classed-last h = row_last class ls row buf at mid m p (decimal n ∷ []) (rw e) h

      pub classed-more : (last : List ℕ) (r : ℕ) → Put mid (m - 1) (fields_end (decimal n ∷ [])) last r → Put buf at (classed_line ls row) last r
      classed-more last r q = row_more class ls row buf at mid m p (decimal n ∷ []) (rw e) last r q
