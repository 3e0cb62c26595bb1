-- Laws of the command `picture`: what the run's answer and its table tell.
use mathlib.Core.Path.{◌≡◌, sym, ap, ◌∙◌}
use mathlib.Core.List.{List, ◌++◌}
use mathlib.Core.Option.{none}
use Prim.Native.Nat.{ℕ, ◌*◌, ◌≤◌}
use native.Mathlib.Omega.{arith}
use lib.IntN.{ℤ}
use lib.ListN.{length}
use Rattle.lists.specs.Lists.{sum}
use Rattle.lists.specs.inner.Stores.{Put}
use Rattle.totals.specs.declared.Total.{Total}
use Rattle.geometry.specs.declared.Rect.{Rect}
use Rattle.plan.specs.declared.Shape.{Shape}
use Rattle.plan.specs.Plan.{layers_of, sizes_of, layers, count, Sound, grown}
use Rattle.plan.proofs.Plan.{checked, front-sum, count-is, few}
use Rattle.plan.proofs.Growing.{framed, growable}
use Rattle.sweep.specs.Sweep.{sweep_order}
use Rattle.join.specs.Table.{plan_table}
use Rattle.rows.specs.Tables.{rows_in}
use Rattle.rows.specs.inner.TableRows.{TableRows}
use Rattle.rows.proofs.TableRows.{table-rows}
use Rattle.paging.specs.Answers.{Run}
use Rattle.std.specs.Prelude.{Err}
use Rattle.paging.specs.Answers.{ran as told_run}
use Rattle.paging.specs.Calls.{run_cause, run_call, run_table}
use Rattle.printing.specs.inner.Parts.{FitsAt}
use Rattle.reporting.specs.Report.{run_table_cells, run_work_cells, empty_table}
use Rattle.reporting.proofs.Runs.{refusal}
use Rattle.outcomes.specs.Outcomes.{Told, done, refused, done_reply}
use Rattle.outcomes.specs.inner.Rooms.{Room, room_for_all}
use Rattle.outcomes.proofs.Outcomes.{told_same, told-done}
use Rattle.listing.specs.inner.Parts.{Ran}
use Rattle.listing.proofs.Runs.{same-cause, Finished, finished}
use Rattle.picture.specs.declared.Frame.{Frame}
use Rattle.picture.specs.Frames.{ground_of, frame_of}
use Rattle.picture.specs.Templates.{fill}
use Rattle.picture.specs.Texts.{head_text, rows_text, tail_text}
use Rattle.picture.specs.Pictures.{layer_parts, row_parts, moved, seen, scale, picture, picture_of, plan_picture}
use Rattle.picture.specs.inner.Parts.{LayersDrawable, body_part}
use Rattle.picture.proofs.Lengths.{picture-few}

-- the run's answer and its table
pub ran : (s : Shape) (cells : List ℤ) (order lent : List ℕ) (run : Run) (table : List ℕ)
    → Sound s cells → order ≡ sweep_order (grown s cells) → length lent ≡ run_table_cells
    → run ≡ run_call none s cells order lent run_work_cells → table ≡ run_table none s cells order lent run_work_cells → Ran none s cells run table
ran s cells order lent run table sound o long e f =
    record { sound = sound; lent = lent; long = long; answer = rw o at e; filled = rw o at f }

-- where there is room for bytes, there is for the same by another name
pub room-same : (buf : List ℕ) (at : ℕ) (xs ys : List ℕ) → FitsAt buf at xs → xs ≡ ys → FitsAt buf at ys
room-same buf at xs ys h e = rw e at h

-- the picture of a plan, with its frame and its grown cells by other names
pub over-is : (s : Shape) (cells run : List ℤ) (table : List ℕ) (n : ℕ) (g : Rect) (f : Frame) → g ≡ ground_of run → f ≡ frame_of g → n ≡ length (rows_in s.k n table)
    → picture_of (frame_of (ground_of run)) s.margins (layers_of (sizes_of s) cells) (layers_of (sizes_of s) run) (rows_in s.k n table)
    ≡ fill head_text (seen f) ++ body_part f s cells run table n
unfolding picture_of
over-is s cells run table n g f e₁ e₂ h =
    let q = e₂ ∙ ap frame_of e₁ in
    rw q (ap (λ (m : ℕ). whole m) (sym h))
  where
    w : Frame
    w = frame_of (ground_of run)

    whole : ℕ → List ℕ
    whole m =
        fill head_text (seen w)
        ++ (layer_parts w s.margins 0 (layers_of (sizes_of s) cells)
        ++ (fill rows_text (moved w) ++ (row_parts w.unit (layers_of (sizes_of s) run) (rows_in s.k n table) ++ fill tail_text (scale w m))))

module _ (s : Shape) (cells : List ℤ) (h : Sound s cells) where
  -- it has no more rectangles than the largest plan
  plan-short : sum (sizes_of s) ≤ 3072
  plan-short = omega (arith, few s cells h, count-is s cells (checked s cells h), front-sum s cells (checked s cells h))

  -- its layers can be drawn
  pub plan-drawable : LayersDrawable s.sizes s.margins s.k cells
  plan-drawable =
      let g = growable s cells h 12288 (omega arith) in
      record { sized = g.sized; margined = g.margined; few = omega (arith, (checked s cells h).high); small = g.small; reach = g.reach; short = plan-short }

  -- the grown cells are four for each rectangle
  pub grown-whole : (run : List ℤ) → run ≡ grown s cells → length run ≡ 4 * count run
  grown-whole run e =
      let w = (framed s cells h).1.whole in
      rw e (omega (arith, w))

module _ (s : Shape) (cells : List ℤ) (run : Run) (table : List ℕ) (h : Ran none s cells run table) where
  -- what is said where it refuses
  pub picture-refused : (c : ℕ) → run ≡ Err c → plan_picture s cells ≡ refused c
  unfolding plan_picture run_call
  picture-refused c e =
      refusal _ _ _ _ (done (picture s cells)) refused (run_cause none s cells (sweep_order (grown s cells)) empty_table run_work_cells) c
      (rw (same-cause none s cells h.lent h.long) at (sym e ∙ h.answer))

  module _ (rows probes : ℕ) (area total : Total) (e : run ≡ told_run rows probes area total) where
    fin : Finished none s cells rows probes total table
    fin = finished none s cells h.sound h.lent h.long run table h.answer h.filled rows probes area total e

    -- what is drawn where it is done
    abbrev pub drawn : List ℕ
    drawn = picture_of (frame_of (ground_of (grown s cells))) s.margins (layers_of (sizes_of s) cells) (layers s cells) (rows_in s.k rows table)

    picture-is : plan_picture s cells ≡ done drawn
    unfolding plan_picture
    picture-is = rw (fin.passed, fin.read)

    pub run-many : rows ≡ length (rows_in s.k rows table)
    run-many = rw fin.read fin.many

    pub run-rows : TableRows s.sizes s.k (grown s cells) table rows
    run-rows = table-rows s cells table rows h.sound fin.read

    drawn-few : length drawn ≤ room_for_all
    drawn-few =
        let f = (framed s cells h.sound).1 in
        let n = plan-short s cells h.sound in
        rw fin.read (omega (
          arith,
          picture-few (frame_of (ground_of (grown s cells))) s.margins (sizes_of s) cells (layers s cells) (plan_table s cells),
          f.few,
          n,
          fin.many,
          fin.few.0,
          fin.few.1,
        ))

    pub picture-room : (out err : List ℕ) → Room out err → FitsAt out 0 drawn
    picture-room out err r = record { fits = omega (arith, drawn-few, r.answer) }

    pub picture-told : (out err after : List ℕ) (n : ℕ) → Room out err → Put out 0 drawn after n → Told (plan_picture s cells) out err after err (done_reply n)
    picture-told out err after n r p =
        told_same (done drawn) out err after err _ (plan_picture s cells) (told-done out err drawn after n (omega (arith, drawn-few, r.answer)) p) picture-is
