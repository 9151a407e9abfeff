use Rattle.std.proofs.Common.{sym, subst}
use Rattle.cpc_tree.specs.Erase.{exprs_of}
use Rattle.cpc_meaning.specs.Act as M
use Rattle.cpc_native_points.specs.Finds.{found_of}
use Rattle.cpc_eval.specs.Around.{context_of}
use Rattle.cpc_native_builtins.specs.declared.call.Call.{Call}
use Rattle.cpc_native_changes.specs.Foreseen.{Foresees}
use Rattle.cpc_native_plans.specs.Plans.{asks_for}
use Rattle.cpc_native_changes.specs.declared.changes.Change.TheVariants as C
use Rattle.cpc_native_changes.proofs.Requesting.{host_asked}
use Rattle.cpc_native_changes.proofs.changes.asks.Goals as goal

pub returns-in-Host-clause-value : goal.returns-in-Host-clause-value
returns-in-Host-clause-value c = λ names told n hes.
    let k = context_of names c.args.around.now in
    let es = exprs_of names c.args.arguments.now in
    let stood = M.AtStatement (found_of names c.args.there) in
    let P : Call → Type 0 = λ call. Foresees names k stood C.Stays (asks_for names k call es) in
    subst P (sym c.in-Host.is) (host_asked names k stood _ es)
