use Rattle.std.proofs.Common.{sym, ◌∙◌, arith}
use Rattle.cpc_native_frames.proofs.Leaving.{size_more, size_not, size_end, cells_told, can_leave, cannot_leave}
use Rattle.cpc_native_frames.proofs.cells.slots_cells.Goals as goal

pub loop-slot-preserved : goal.loop-slot-preserved
loop-slot-preserved c = record {
  low = omega arith;
  rest = size_more c.args.store.now c.args.slots.now c.loop-slot.slot-index _ c.loop-slot.total c.loop-slot-test.true c.in_ok-cells.cells c.saturating_add-total.result c.in_ok-cells.ensures c.saturating_add-total.ensures ∙ c.loop-slot.invariant.rest;
}

pub returns-in_err-cells-clause-leaves : goal.returns-in_err-cells-clause-leaves
returns-in_err-cells-clause-leaves c = λ names rise.
    let none = sym c.loop-slot.invariant.rest ∙ size_not c.args.store.now c.args.slots.now c.loop-slot.slot-index _ c.loop-slot.total c.loop-slot-test.true c.in_err-cells.ensures in
    rw c.from_residual.ensures (cannot_leave names c.args.store.now c.args.slots.now rise none)

pub returns-clause-cells : goal.returns-clause-cells
returns-clause-cells c = λ names.
    let all = sym c.loop-slot.invariant.rest ∙ size_end c.args.store.now c.args.slots.now c.loop-slot.slot-index c.loop-slot.total c.loop-slot-test.false c.loop-slot.invariant.low in
    cells_told names c.args.store.now c.args.slots.now c.loop-slot.total all

pub returns-clause-leaves : goal.returns-clause-leaves
returns-clause-leaves c = λ names rise.
    let all = sym c.loop-slot.invariant.rest ∙ size_end c.args.store.now c.args.slots.now c.loop-slot.slot-index c.loop-slot.total c.loop-slot-test.false c.loop-slot.invariant.low in
    can_leave names c.args.store.now c.args.slots.now rise c.loop-slot.total all
