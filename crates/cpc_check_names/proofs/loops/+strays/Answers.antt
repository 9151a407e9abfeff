use Rattle.std.proofs.Common.{arith}
use Rattle.cpc_check_rules.specs.Noted.{first_of}
use Rattle.cpc_check_names.proofs.Strays.{stray_block, stray_else, stray_more}
use Rattle.cpc_check_names.proofs.loops.+strays.Goals as goal

pub loop_rules-returns-in-Block : goal.loop_rules-returns-in-Block
loop_rules-returns-in-Block t c = λ names.
    let e = stray_block names (first_of c.args.first.now) c.args.body.now _ _ c.in-Block.is in
    let k = c.stray_row.ensures names in
    let v = c.deref.ensures.value in
    cc

pub loop_rules-returns-in-Some : goal.loop_rules-returns-in-Some
loop_rules-returns-in-Some t c = λ names.
    let e = stray_else names (first_of c.args.first.now) c.args.body.now _ _ _ _ _ c.in-If.is c.in-Some.is in
    let k = c.loop_rules.ensures names in
    let m = c.loop_rules-in-Some.ensures names in
    cc

pub stray_row-loop-s-preserved : goal.stray_row-loop-s-preserved
stray_row-loop-s-preserved t c = λ names.
    let e = stray_more names (first_of c.loop-s.first) c.args.row.now c.loop-s.s-index c.s-item.result (omega arith) c.s-item.is in
    let i = c.loop-s.invariant names in
    let k = c.loop_rules.ensures names in
    cc
