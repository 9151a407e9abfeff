use Rattle.cpc_tree.specs.Erase.{type_of}
use Rattle.cpc_meaning.specs.Act as M
use Rattle.cpc_native_points.specs.Finds.{found_of}
use Rattle.cpc_eval.specs.Around.{context_of}
use Rattle.cpc_native_changes.proofs.Standing.{found_stays}
use Rattle.cpc_native_changes.proofs.changes.found.Goals as goal

pub returns-in_default : goal.returns-in_default
returns-in_default c = record {
  value = λ names told spells program served n.
      found_stays names (context_of names c.args.around.now) (M.AtStatement (found_of names c.args.there)) (type_of names c.args.of.now) c.args.there c.in_default.not-Simple;
  own = tt;
}
