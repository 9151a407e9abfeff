use Rattle.std.proofs.Common.{map}
use Rattle.cpc_meaning.specs.Eval as E
use Rattle.cpc_eval_index.specs.Meanings.{meant_if}
use Rattle.cpc_eval_values.proofs.Meeting.{meets_then}
use Rattle.cpc_eval.specs.Around.{slot_of}
use Rattle.cpc_eval.specs.Spots.{spot_of}
use Rattle.cpc_eval.proofs.places.address_of.Goals as goal

pub returns-clause-value : goal.returns-clause-value
returns-clause-value c = λ names.
    meets_then (spot_of c.in_ok-spot.spot) (E.spot_named (map (slot_of names) c.args.slots.now) (meant_if names c.args.meant)) E.pointer_to _ (c.in_ok-spot.ensures.value names) (c.pointer_to.ensures.value names)
