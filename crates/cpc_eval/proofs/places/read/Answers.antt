use Rattle.std.proofs.Common.{map}
use Rattle.cpc_tree.specs.Erase.{type_of}
use Rattle.cpc_eval_values.specs.Shown.{store_of}
use Rattle.cpc_eval.specs.Around.{slot_of}
use Rattle.cpc_eval.proofs.Spotting.{read_slot}
use Rattle.cpc_eval.proofs.places.read.Goals as goal

pub returns-in-Slot-clause-value : goal.returns-in-Slot-clause-value
returns-in-Slot-clause-value c = λ names.
    rw (c.in-Some.is, c.in-Slot.is) (rw (read_slot (map (slot_of names) c.args.slots.now) (store_of names c.args.store.now) (type_of names c.in-Some.of.now) c.in-Slot.slot) (c.slot_value.ensures.value names))
