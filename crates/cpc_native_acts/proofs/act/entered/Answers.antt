use Rattle.std.proofs.Common.{sym}
use Rattle.cpc_tree.specs.Erase.{function_of}
use Rattle.cpc_meaning.proofs.Functions.{found_again}
use Rattle.cpc_eval_index.specs.Indexed.{items_of}
use Rattle.cpc_native_acts.proofs.act.entered.Goals as goal

pub returns-in-Some-clause-own : goal.returns-in-Some-clause-own
returns-in-Some-clause-own c = λ names apart.
    found_again (items_of names c.args.index.now) (names c.args.name) (function_of names c.in-Some.function.now) (sym (c.in-Some.ensures names apart))
