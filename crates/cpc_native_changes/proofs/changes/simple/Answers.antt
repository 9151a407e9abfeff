use Rattle.cpc_tree.specs.Erase.{type_of, stmt_of}
use Rattle.cpc_tree.specs.Points as P
use Rattle.cpc_meaning.specs.Act as M
use Rattle.cpc_eval.specs.Around.{context_of}
use Rattle.cpc_native_changes.proofs.Standing.{simple_stays}
use Rattle.cpc_native_changes.proofs.changes.simple.Goals as goal

pub returns-in_default : goal.returns-in_default
returns-in_default c = record {
  value = λ names told spells program served n.
      simple_stays names (context_of names c.args.around.now) (M.AtStatement (P.Simple (stmt_of names c.args.statement.now))) (type_of names c.args.of.now) c.args.statement.now c.in_default.not-Call c.in_default.not-Return;
  own = tt;
}
