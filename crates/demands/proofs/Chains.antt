-- Lists of page calls on an overlay are chains of the search's calls, and do what these do.
use mathlib.Core.Path.{◌≡◌, refl, ap, ◌∙◌}
use mathlib.Core.List.{List, [], ◌∷◌, map}
use mathlib.Core.Option.{some}
use Prim.Native.Nat.{ℕ, zero, suc}
use lib.ListN.{length}
use Rattle.lists.specs.Lists.{All, none_left, ◌and◌, sum}
use Rattle.lists.proofs.Lists.{all_map}
use Rattle.lists.proofs.Kept.{map-++, map_same, keep_same}
use Rattle.lists.proofs.Numbers.{sum-++}
use Rattle.totals.specs.Totals.{value_of}
use Rattle.search.specs.Traversal.{Probe, Row, row_of}
use Rattle.search.specs.Paging.{Paged, page}
use Rattle.search.proofs.Chains.{Delivered}
use Rattle.search.proofs.Chains as Search
use Rattle.search.proofs.Calls.{delivered}
use Rattle.paging.specs.declared.Cursor.{Cursor}
use Rattle.paging.specs.declared.Ticket.{Ticket}
use Rattle.paging.specs.Overlays.{Overlay}
use Rattle.paging.specs.Cursors.{due_cursor, resume}
use Rattle.paging.specs.Pages.{room}
use Rattle.paging.specs.Theorems.{Call, cause, answer}
use Rattle.demands.specs.Theorems.{handed, reported, allowing}
use Rattle.paging.proofs.Overlays.{placed, Lawful}
use Rattle.paging.proofs.Resume.{resume-due}
use Rattle.paging.proofs.Calls.{page_if, page_on, answered, Serves, Agrees, answered-none, answered-some, agrees}

-- calls on one overlay, each of them refused or with the ticket that is due; t is that of the first
pub data Linked {S : Type 0} (o : Overlay S) : Ticket → List Call → Type 0 where
  end : {t : Ticket} → Linked o t []
  refused : {t : Ticket} {x : Call} {xs : List Call} → Serves o x → (cause x ≡ 0 → ⊥) → Linked o t xs → Linked o t (x ∷ xs)
  accepted : {t : Ticket} {x : Call} {xs : List Call} → Serves o x → cause x ≡ 0 → x.ticket ≡ t → Linked o (answer x).ticket xs → Linked o t (x ∷ xs)

module _ {S : Type 0} (o : Overlay S) where
  -- ---- lists of calls that agree with the search's
  -- they report as many probes
  pub reported-same : {xs : List Call} → All (Agrees o) xs → reported xs ≡ Search.reported (answered o) xs
  reported-same h = ap sum (map_same _ _ (all_map (λ x a. a.probes) h))

  -- as many of them allow a probe and a row
  pub allowing-same : {xs : List Call} → All (Agrees o) xs → allowing o xs ≡ Search.allowing (answered o) (λ x. x.budget) (λ x. room o x.table) xs
  allowing-same h = ap length (keep_same _ _ (all_map (λ x a. a.allowed) h))

  -- they hand out the same rows, as places
  pub handed-same : {xs : List Call} → All (Agrees o) xs → handed (length o.sizes) xs ≡ placed o (Search.handed (answered o) xs)
  handed-same none_left = refl
  handed-same (◌and◌ h hs) = rw (map-++, h.rows, handed-same hs)

  -- the areas that they report are those of the rows that they hand out
  pub areas-same : {xs : List Call} → All (Agrees o) xs → sum (map (λ x. value_of (answer x).area) xs) ≡ sum (map o.area (handed (length o.sizes) xs))
  areas-same none_left = refl
  areas-same (◌and◌ h hs) = rw (map-++, sum-++, h.area, areas-same hs)

  -- ---- chains
  -- what demand 3 says of the calls as the search's
  abbrev pub Delivers : List Call → Type 0
  Delivers xs = Delivered row_of o.walk (due_cursor o.sizes) (λ x. x.budget) (λ x. room o x.table) (answered o) xs

  module _ (l : Lawful o) where
    -- each call agrees with the search's
    pub linked-agrees : {t : Ticket} {xs : List Call} → Linked o t xs → All (Agrees o) xs
    linked-agrees end = none_left
    linked-agrees (refused {x = x} v r h) = ◌and◌ (agrees o l x v) (linked-agrees h)
    linked-agrees (accepted {x = x} v e k h) = ◌and◌ (agrees o l x v) (linked-agrees h)

    -- the search's chain
    linked-search : {t : Ticket} {xs : List Call} (d : Cursor) → t.cursor ≡ d → Linked o t xs → Search.Chain (due_cursor o.sizes) (λ x. x.ticket.cursor) (answered o) d xs
    linked-search d q end = Search.end
    linked-search d q (refused {x = x} v r h) = Search.refused (answered-none o x r) (linked-search d q h)
    linked-search d q (accepted {x = x} v e k h) =
        Search.accepted (answered-some o x e) (ap (λ (u : Ticket). u.cursor) k ∙ q) (linked-search (due_cursor o.sizes (page_on o x).rest) (ap (λ (u : Ticket). u.cursor) ((agrees o l x v).ticket e)) h)

    -- so what is proved of the search's calls holds of these
    pub linked-delivered : {t : Ticket} {xs : List Call} → t.cursor ≡ due_cursor o.sizes o.walk → Linked o t xs → Delivers xs
    linked-delivered q h =
        delivered row_of o.walk (due_cursor o.sizes) (resume o) (λ n b. resume-due o l n)
        (λ x. x.ticket.cursor) (λ x. x.budget) (λ x. room o x.table) (answered o) one (linked-search (due_cursor o.sizes o.walk) q h)
      where
        one : (x : Call) (p : Paged (Probe S) (Row S)) (w : List (Probe S)) → answered o x ≡ some p → resume o x.ticket.cursor ≡ some w → p ≡ page row_of x.budget (room o x.table) w
        one x p w e r = go (cause x) (rw r at e)
          where
            go : (c : ℕ) → page_if c (page row_of x.budget (room o x.table) w) ≡ some p → p ≡ page row_of x.budget (room o x.table) w
            go zero e = cc
            go (suc c) e = cc
