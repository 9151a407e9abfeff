use Rattle.std.proofs.Common.{sym, ◌∙◌}
use Rattle.cpc_meaning.specs.Slots.{first_cells}
use Rattle.cpc_eval_values.specs.Shown.{value_of}
use Rattle.cpc_native_frames.proofs.Rising.{next_seen}
use Rattle.cpc_native_frames.proofs.making.make_slot.Goals as goal

pub returns-clause-alone : goal.returns-clause-alone
returns-clause-alone c = λ names. (
  c.in_ok-number.ensures.number ∙ sym (next_seen names c.args.store.now),
  (first_cells c.unwrap_or-cells.result (value_of names c.args.first), c.in_ok-number.ensures.store names),
)
