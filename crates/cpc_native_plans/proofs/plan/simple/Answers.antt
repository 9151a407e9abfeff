use Rattle.std.proofs.Common.{sym, subst}
use Rattle.cpc_tree.specs.Erase.{type_of, stmt_of}
use Rattle.cpc_tree.specs.declared.program.Statement.{Statement}
use Rattle.cpc_meaning.specs.Act as M
use Rattle.cpc_eval_index.specs.Indexed.{items_of}
use Rattle.cpc_eval.specs.Around.{context_of}
use Rattle.cpc_eval.specs.Numbers.{StmtNumbers}
use Rattle.cpc_native_plans.specs.Plans.{Lays}
use Rattle.cpc_native_plans.proofs.plan.simple.Goals as goal

pub returns-in-Declare-clause-value : goal.returns-in-Declare-clause-value
returns-in-Declare-clause-value c = λ names told spells program served n.
    let k = context_of names c.args.around.now in
    let t = type_of names c.args.of.now in
    let S : Statement → Type 0 = λ s. Lays names k c.declares.result (M.simple_act k t (stmt_of names s)) in
    let N : Statement → Type 0 = λ s. StmtNumbers (items_of names c.args.around.now.index.now) (stmt_of names s) in
    subst S (sym c.in-Declare.is) (c.declares.ensures.value names t (type_of names c.in-Declare.of) told (subst N c.in-Declare.is n))
