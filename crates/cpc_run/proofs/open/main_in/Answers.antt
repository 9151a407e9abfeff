use Rattle.std.proofs.Common.{◌≡◌, ◌∷◌, sym, subst, ◌∙◌}
use Rattle.cpc_tree.specs.Erase.{in_table, item_of}
use Rattle.cpc_tree.specs.Typing.{function_named}
use Rattle.cpc_meaning.specs.Start.{main_name}
use Rattle.cpc_run.proofs.Ends.{no_function, other_function}
use Rattle.cpc_run.proofs.open.main_in.Goals as goal

pub returns-in_default-clause-none : goal.returns-in_default-clause-none
returns-in_default-clause-none c = λ rest. no_function (in_table c.args.names.now) c.args.item.now main_name c.in_default.not-Function rest

pub returns-clause-none : goal.returns-clause-none
returns-clause-none c = λ rest.
    let table = in_table c.args.names.now in
    subst (λ i. function_named (item_of table i ∷ rest) main_name ≡ function_named rest main_name) (sym c.in-Function.is)
    (other_function table c.in-Function.function main_name (sym c.is_main.ensures.same ∙ c.if-is_main.false) rest)
