-- With windows of the whole week a timed call answers what the untimed one answers: its overlay is the old one, probe by probe, but for the minutes.
use mathlib.Core.Path.{◌≡◌, refl, sym, ap, ap₂, ◌∙◌}
use mathlib.Core.List.{List, [], ◌∷◌, map}
use mathlib.Core.Option
use mathlib.Core.Option.{Option, none, some}
use mathlib.Core.Bool.{Bool, true, false, cond}
use Prim.Native.Nat.{ℕ, zero, suc, ◌+◌}
use lib.IntN.{ℤ}
use lib.ListN.{length, length-map}
use Rattle.lists.specs.Lists.{is_some, list_in}
use Rattle.lists.proofs.Kept.{map-map}
use Rattle.geometry.specs.declared.Rect.{Rect}
use Rattle.plan.specs.declared.Shape.{Shape}
use Rattle.plan.specs.Causes.{unless, ◌or_else◌}
use Rattle.plan.specs.Plan.{Layer, sizes_of, grown, layers, Sound}
use Rattle.plan.proofs.Growing.{framed}
use Rattle.join.specs.Join.{area_in}
use Rattle.search.specs.Traversal.{Probe, Row, row_of}
use Rattle.search.specs.Paging.{Paged, page}
use Rattle.search.specs.Names.{old_probe}
use Rattle.search.proofs.Beside.{old_row, old-page}
use Rattle.rows.specs.Tables.{fill}
use Rattle.walk.specs.Walk.{places_of}
use Rattle.windows.specs.HoursCall.{hours_cause}
use Rattle.windows.specs.Theorems.{Stated}
use Rattle.windows.proofs.Theorems.{hours-passed}
use Rattle.timed.specs.Theorems.{WholeWeek}
use Rattle.timed.proofs.Theorems.{timed-walks}
use Rattle.paging.specs.declared.Cursor.{Cursor}
use Rattle.paging.specs.declared.Ticket.{Ticket}
use Rattle.paging.specs.Answers.{Run, ran}
use Rattle.paging.specs.Overlays.{Overlay, overlay, timed_overlay}
use Rattle.paging.specs.Cursors.{cursor_of, due_cursor, ended_cursor, same_cursor, find_in, resume}
use Rattle.paging.specs.Pages.{paged, page_of, area_sum}
use Rattle.paging.specs.Calls.{current, ground_once, page_cause, page_call, page_table, page_counter, run_cause, run_call, run_table}
use Rattle.paging.specs.Inner.{cause_before, page_cause_on, page_call_on, page_counter_on, page_table_on, run_cause_on, run_call_on, run_table_on}

is-some : {A B : Type 0} (f : A → B) (o : Option A) → is_some (Option.map f o) ≡ is_some o
is-some f none = refl
is-some f (some a) = refl

-- ---- pages of probes without their second state
module _ {S T : Type 0} where
  -- one page is the other without it
  pub record Alike (p : Paged (Probe (S × T)) (Row (S × T))) (q : Paged (Probe S) (Row S)) : Type 0 where
    pub stop : p.stop ≡ q.stop
    pub done : p.done ≡ q.done
    pub rows : map old_row p.rows ≡ q.rows
    pub rest : map old_probe p.rest ≡ q.rest

  page-alike : (b m : ℕ) (w : List (Probe (S × T))) → Alike (page row_of b m w) (page row_of b m (map old_probe w))
  page-alike b m w = rw (old-page b m w) (record { stop = refl; done = refl; rows = refl; rest = refl })

  -- the places of its rows, and the cursor of what it leaves
  places-alike : (ns : List ℕ) (rs : List (Row (S × T))) → map (places_of ns) (map old_row rs) ≡ map (places_of ns) rs
  places-alike ns rs = map-map (places_of ns) old_row rs

  due-alike : (ns : List ℕ) (w : List (Probe (S × T))) → due_cursor ns (map old_probe w) ≡ due_cursor ns w
  due-alike ns [] = refl
  due-alike ns (t ∷ w) = refl

  -- ---- what a cursor finds
  find-alike : (ns : List ℕ) (c : Cursor) (w : List (Probe (S × T))) → find_in ns c (map old_probe w) ≡ Option.map (map old_probe) (find_in ns c w)
  find-alike ns c [] = refl
  find-alike ns c (t ∷ w) = go (same_cursor (cursor_of ns t) c) (find-alike ns c w)
    where
      go : (b : Bool) → find_in ns c (map old_probe w) ≡ Option.map (map old_probe) (find_in ns c w)
          → cond b (some (map old_probe (t ∷ w))) (find_in ns c (map old_probe w)) ≡ Option.map (map old_probe) (cond b (some (t ∷ w)) (find_in ns c w))
      go true h = refl
      go false h = h

  list-in : (o : Option (List (Probe (S × T)))) → list_in (Option.map (map old_probe) o) ≡ map old_probe (list_in o)
  list-in none = refl
  list-in (some w) = refl

  -- ---- the overlay without it
  abbrev pub old : Overlay (S × T) → Overlay S
  old o = record { sizes = o.sizes; walk = map old_probe o.walk; table = o.table; area = o.area }

  module _ (o : Overlay (S × T)) where
    resume-alike : (c : Cursor) → resume (old o) c ≡ Option.map (map old_probe) (resume o c)
    unfolding resume
    resume-alike c = go (same_cursor ended_cursor c)
      where
        go : (b : Bool) → cond b (some []) (find_in o.sizes c (map old_probe o.walk)) ≡ Option.map (map old_probe) (cond b (some []) (find_in o.sizes c o.walk))
        go true = refl
        go false = find-alike o.sizes c o.walk

    module _ (t : Ticket) (budget : ℕ) (table : List ℕ) where
      abbrev its : Paged (Probe (S × T)) (Row (S × T))
      its = paged o t.cursor budget table

      paged-alike : Alike its (paged (old o) t.cursor budget table)
      paged-alike = rw (resume-alike t.cursor, list-in (resume o t.cursor)) (page-alike budget _ (list_in (resume o t.cursor)))

      rows_alike : map (places_of o.sizes) its.rows ≡ map (places_of o.sizes) (paged (old o) t.cursor budget table).rows
      rows_alike = sym (places-alike o.sizes its.rows) ∙ ap (map (places_of o.sizes)) paged-alike.rows

      page-same : page_of o t.count its ≡ page_of (old o) t.count (paged (old o) t.cursor budget table)
      page-same = λ i. record {
        stop = paged-alike.stop i;
        rows = (sym (length-map its.rows old_row) ∙ ap length paged-alike.rows) i;
        probes = paged-alike.done i;
        area = ap (area_sum o) rows_alike i;
        ticket = record {
          cursor = (sym (due-alike o.sizes its.rest) ∙ ap (due_cursor o.sizes) paged-alike.rest) i;
          count = ap (λ (n : ℕ). t.count + n) paged-alike.done i;
        };
      }

      module _ (first : ℕ) (counter : List ℕ) where
        cause-same : page_cause_on o first t counter ≡ page_cause_on (old o) first t counter
        cause-same =
            ap (λ (b : Bool). first or_else unless b 6 or_else unless (current t.count counter) 18)
            (sym (is-some (map old_probe) (resume o t.cursor)) ∙ ap is_some (sym (resume-alike t.cursor)))

        call_same : page_call_on o (page_cause_on o first t counter) t budget table ≡ page_call_on (old o) (page_cause_on (old o) first t counter) t budget table
        call_same = go (page_cause_on o first t counter) ∙ ap (λ (c : ℕ). page_call_on (old o) c t budget table) cause-same
          where
            go : (c : ℕ) → page_call_on o c t budget table ≡ page_call_on (old o) c t budget table
            go zero = page-same
            go (suc c) = refl

        counter-same : page_counter_on o (page_cause_on o first t counter) t counter budget table ≡ page_counter_on (old o) (page_cause_on (old o) first t counter) t counter budget table
        counter-same = go (page_cause_on o first t counter) ∙ ap (λ (c : ℕ). page_counter_on (old o) c t counter budget table) cause-same
          where
            go : (c : ℕ) → page_counter_on o c t counter budget table ≡ page_counter_on (old o) c t counter budget table
            go zero = ap (λ (n : ℕ). (t.count + n) ∷ []) paged-alike.done
            go (suc c) = refl

        table_same : page_table_on o (page_cause_on o first t counter) t budget table ≡ page_table_on (old o) (page_cause_on (old o) first t counter) t budget table
        table_same = go (page_cause_on o first t counter) ∙ ap (λ (c : ℕ). page_table_on (old o) c t budget table) cause-same
          where
            go : (c : ℕ) → page_table_on o c t budget table ≡ page_table_on (old o) c t budget table
            go zero = ap (λ (rows : List (List ℕ)). fill rows table) rows_alike
            go (suc c) = refl

    run-same : (c : ℕ) (ls : List Layer) → run_call_on o c ls ≡ run_call_on (old o) c ls
    run-same zero ls = ap (λ (n : ℕ). ran (length o.table) n (area_sum o o.table) (ground_once ls o.table)) (sym (length-map o.walk old_probe))
    run-same (suc c) ls = refl

-- ---- a plan with windows of the whole week
module _ (s : Shape) (cells : List ℤ) (hours : List ℕ) (sound : Sound s cells) (stated : Stated s hours) (week : WholeWeek (grown s cells) hours) (order : List ℕ) where
  -- its overlay is the old one
  week-old : old (timed_overlay s cells hours) ≡ overlay s cells
  week-old =
      let h = timed-walks.walks (sizes_of s) (grown s cells) hours (framed s cells sound).1 in
      ap₂ (λ (w : List (Probe Rect)) (l : List (List ℕ)). record { sizes = sizes_of s; walk = w; table = l; area = area_in (layers s cells) }) (h.week week).0 (h.week week).1

  -- none of the plan's causes applies
  week-plan : hours_cause none s cells ≡ 0
  unfolding hours_cause
  week-plan = sound.passed

  -- and 24 does not
  week-first : cause_before (some hours) s cells order ≡ cause_before none s cells order
  week-first = rw ((hours-passed s cells hours).1 (sound.passed, stated), week-plan)

  module _ (t : Ticket) (counter : List ℕ) (budget : ℕ) (table : List ℕ) where
    pub week-call : page_call (some hours) s cells order t counter budget table ≡ page_call none s cells order t counter budget table
    unfolding page_cause page_call
    week-call =
        call_same (timed_overlay s cells hours) t budget table (cause_before (some hours) s cells order) counter
        ∙ ap₂ (λ (v : Overlay Rect) (first : ℕ). page_call_on v (page_cause_on v first t counter) t budget table) week-old week-first

    pub week-table : page_table (some hours) s cells order t counter budget table ≡ page_table none s cells order t counter budget table
    unfolding page_cause page_table
    week-table =
        table_same (timed_overlay s cells hours) t budget table (cause_before (some hours) s cells order) counter
        ∙ ap₂ (λ (v : Overlay Rect) (first : ℕ). page_table_on v (page_cause_on v first t counter) t budget table) week-old week-first

    pub week-counter : page_counter (some hours) s cells order t counter budget table ≡ page_counter none s cells order t counter budget table
    unfolding page_cause page_counter
    week-counter =
        counter-same (timed_overlay s cells hours) t budget table (cause_before (some hours) s cells order) counter
        ∙ ap₂ (λ (v : Overlay Rect) (first : ℕ). page_counter_on v (page_cause_on v first t counter) t counter budget table) week-old week-first

  module _ (table : List ℕ) (work : ℕ) where
    pub week-run : run_call (some hours) s cells order table work ≡ run_call none s cells order table work
    unfolding run_cause run_call
    week-run =
        run-same (timed_overlay s cells hours) (run_cause_on (timed_overlay s cells hours) (cause_before (some hours) s cells order) table work) (layers s cells)
        ∙ ap₂ (λ (v : Overlay Rect) (first : ℕ). run_call_on v (run_cause_on v first table work) (layers s cells)) week-old week-first

    pub week-rows : run_table (some hours) s cells order table work ≡ run_table none s cells order table work
    unfolding run_cause run_table
    week-rows = ap₂ (λ (v : Overlay Rect) (first : ℕ). run_table_on v (run_cause_on v first table work) table) week-old week-first
