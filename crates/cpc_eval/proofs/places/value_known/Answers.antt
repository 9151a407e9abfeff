use Rattle.std.proofs.Common.{map}
use Rattle.cpc_eval_values.specs.Shown.{store_of}
use Rattle.cpc_eval.specs.Around.{slot_of}
use Rattle.cpc_eval.specs.Spots.{spot_of}
use Rattle.cpc_eval.proofs.Spotting.{local_read, global_read, code_read}
use Rattle.cpc_eval.proofs.places.value_known.Goals as goal

pub returns-in_ok-spot-in-Local-clause-value : goal.returns-in_ok-spot-in-Local-clause-value
returns-in_ok-spot-in-Local-clause-value c = λ names.
    local_read names c.args.meant (map (slot_of names) c.args.slots.now) (store_of names c.args.store.now) (names c.args.name) _ c.in-Local.of (spot_of c.in_ok-spot-in-Local.spot) _ c.in-Local.is
    (c.in_ok-spot-in-Local.ensures.value names) (c.read.ensures.value names)

pub returns-in-Global-clause-value : goal.returns-in-Global-clause-value
returns-in-Global-clause-value c = λ names.
    global_read names c.args.meant (map (slot_of names) c.args.slots.now) (store_of names c.args.store.now) (names c.args.name) c.in-Global.block c.in-Global.of _ _ c.in-Global.is
    c.first_cell.ensures.spot (c.read-in-Global.ensures.value names)

pub returns-in-Function-clause-value : goal.returns-in-Function-clause-value
returns-in-Function-clause-value c = λ names.
    code_read names c.args.meant (map (slot_of names) c.args.slots.now) (store_of names c.args.store.now) (names c.args.name) c.in-Function.mode _ _ _ c.in-Function.is (c.code_of.ensures.value names)
