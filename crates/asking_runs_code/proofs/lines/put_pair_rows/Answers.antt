use mathlib.Core.Path.{◌≡◌}
use Prim.Native.Nat.{ℕ, ◌+◌, ◌*◌}
use native.Mathlib.Nat.{suc-mul}
use native.Mathlib.Numerals.{add-one}
use native.Mathlib.Omega.{arith}
use Rattle.asking_runs_code.proofs.PairLines.{none-listed, all_listed, row-there, is-row, next-room, next_row}
use Rattle.asking_runs_code.proofs.lines.put_pair_rows.Goals as goal

row-end : (i k : ℕ) → (i + 1) * k ≡ i * k + k
row-end i k = rw (add-one i, suc-mul i k)

pub loop-i-init : goal.loop-i-init
loop-i-init c =
    let z : 0 * c.args.k ≡ 0 = omega arith in
    rw z (none-listed _ _ _ _ _ _ _ _ c.requires.table_rows.0 c.requires.room)

pub overflow_mul-i : goal.overflow_mul-i
overflow_mul-i c =
    let there = row-there _ _ _ _ _ _ _ _ _ _ _ c.loop-i.invariant c.loop-i-test.true c.requires.table_rows.0 in
    omega (arith, there, c.well_formed)

pub row_at-requires : goal.row_at-requires
row_at-requires c = row-there _ _ _ _ _ _ _ _ _ _ _ c.loop-i.invariant c.loop-i-test.true c.requires.table_rows.0

pub put_pair-requires : goal.put_pair-requires
put_pair-requires c =
    let i = c.loop-i.invariant in
    let h = c.loop-i-test.true in
    let e = c.row_at.ensures.0 in
    record {
      k_in_bounds = (c.requires.table_rows.0.inside, c.requires.table_rows.0.framed, c.requires.table_rows.1, c.requires.table_rows.2);
      row_value = is-row _ _ _ _ _ _ _ _ _ _ _ i h _ e;
      room = next-room _ _ _ _ _ _ _ _ _ _ _ i h _ e;
    }

pub loop-i-preserved : goal.loop-i-preserved
loop-i-preserved c =
    let e = c.row_at.ensures.0 in
    let z : (c.loop-i.i + 1) * c.args.k ≡ c.loop-i.i * c.args.k + c.args.k = row-end c.loop-i.i c.args.k in
    rw z (next_row _ _ _ _ _ _ _ _ _ _ _ c.loop-i.invariant c.loop-i-test.true _ e _ c.put_pair.ensures)

pub returns : goal.returns
returns c = all_listed _ _ _ _ _ _ _ _ _ _ _ c.loop-i.invariant c.loop-i-test.false
