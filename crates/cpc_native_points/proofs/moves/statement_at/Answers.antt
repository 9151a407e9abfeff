use Rattle.std.proofs.Common.{◌∙◌, refl, sym, ap, arith}
use Rattle.cpc_tree.specs.Erase.{stmt_of}
use Rattle.cpc_native_points.specs.Seen.{maybe_seen}
use Rattle.cpc_native_points.proofs.Walking.{along_all, along_more, along_none}
use Rattle.cpc_native_points.proofs.moves.statement_at.Goals as goal

pub loop-part-init : goal.loop-part-init
loop-part-init c = λ names. refl

pub returns-in_err-at : goal.returns-in_err-at
returns-in_err-at c = λ names.
    let l = c.loop-part in
    ap (maybe_seen names) c.from_residual.ensures ∙ sym (along_none (stmt_of names l.at.now) c.args.path.now l.part-index _ c.loop-part-test.true (sym (c.in_err-at.ensures names))) ∙ l.invariant names

pub loop-part-preserved : goal.loop-part-preserved
loop-part-preserved c = λ names.
    let l = c.loop-part in
    sym (along_more (stmt_of names l.at.now) c.args.path.now l.part-index _ (stmt_of names c.in_ok-at.at.now) c.loop-part-test.true (sym (c.in_ok-at.ensures names))) ∙ l.invariant names

pub returns : goal.returns
returns c = λ names.
    let l = c.loop-part in
    sym (along_all (stmt_of names l.at.now) c.args.path.now l.part-index (omega arith)) ∙ l.invariant names
