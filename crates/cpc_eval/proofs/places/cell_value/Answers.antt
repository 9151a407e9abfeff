use Rattle.cpc_tree.specs.Erase.{type_of}
use Rattle.cpc_eval.proofs.Spotting.{cell_loaded}
use Rattle.cpc_eval.proofs.places.cell_value.Goals as goal

pub returns-in-Some-clause-value : goal.returns-in-Some-clause-value
returns-in-Some-clause-value c = λ names.
    cell_loaded names (type_of names c.args.of.now) c.in-Some.wanted c.args.block.class c.args.block.number c.args.offset c.args.store.now c.load.result (c.in-Some.ensures names) c.load.ensures.value
