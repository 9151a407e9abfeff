use Rattle.std.proofs.Common.{map}
use Rattle.cpc_store.specs.Store.{empty_store}
use Rattle.cpc_eval.specs.Around.{slot_of}
use Rattle.cpc_eval.proofs.Spotting.{code_address}
use Rattle.cpc_eval.proofs.places.address_known.Goals as goal

pub returns-in-Function-clause-value : goal.returns-in-Function-clause-value
returns-in-Function-clause-value c = λ names.
    code_address names c.args.meant (map (slot_of names) c.args.slots.now) empty_store (names c.args.name) c.in-Function.mode _ _ _ c.in-Function.is (c.code_of.ensures.value names)
