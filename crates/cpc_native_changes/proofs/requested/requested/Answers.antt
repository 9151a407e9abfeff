use Rattle.std.proofs.Common.{Option, subst}
use Rattle.cpc_base.specs.Bytes.{Text}
use Rattle.cpc_tree.specs.Erase.{exprs_of}
use Rattle.cpc_meaning.specs.Act as M
use Rattle.cpc_native_points.specs.Finds.{found_of}
use Rattle.cpc_tree.specs.PrimitiveNames.{primitive_of}
use Rattle.cpc_eval.specs.Around.{context_of}
use Rattle.cpc_native_changes.specs.Foreseen.{Foresees}
use Rattle.cpc_native_changes.proofs.Requesting.{maker_no_text, freer_no_text, other_asked}
use Rattle.cpc_native_changes.proofs.requested.requested.Goals as goal

pub returns-in-Some-clause-value : goal.returns-in-Some-clause-value
returns-in-Some-clause-value c = λ names told m n.
    let k = context_of names c.args.around.now in
    let es = exprs_of names c.args.arguments.now in
    let prim = primitive_of c.args.builtin in
    let Q : Option Text → Type 0 = λ o. Foresees names k (M.AtStatement (found_of names c.args.there)) c.makes.result (M.asks_with k prim es o) in
    subst Q (maker_no_text prim c.in-Some.class es c.in-Some.ensures) (c.makes.ensures.value names prim c.in-Some.ensures told m n)

pub returns-in-Some-class_freed-clause-value : goal.returns-in-Some-class_freed-clause-value
returns-in-Some-class_freed-clause-value c = λ names told m n.
    let k = context_of names c.args.around.now in
    let es = exprs_of names c.args.arguments.now in
    let prim = primitive_of c.args.builtin in
    let stood = M.AtStatement (found_of names c.args.there) in
    let e = c.in-Some-class_freed.ensures in
    let Q : Option Text → Type 0 = λ o. Foresees names k stood c.frees.result (M.asks_with k prim es o) in
    subst Q (freer_no_text prim c.in-Some-class_freed.class es e) (c.frees.ensures.value names stood prim e told n)

pub returns-in-None-class_freed-clause-value : goal.returns-in-None-class_freed-clause-value
returns-in-None-class_freed-clause-value c = λ names told m n.
    let es = exprs_of names c.args.arguments.now in
    let prim = primitive_of c.args.builtin in
    other_asked names (context_of names c.args.around.now) (M.AtStatement (found_of names c.args.there)) prim es (M.puts_text prim es) c.in-None.ensures c.in-None-class_freed.ensures
