use Rattle.cpc_lexer.proofs.Rows.{one_answer}
use Rattle.cpc_lexer.proofs.Lists.{cut_begun, cut_goes, cut_grown, cut_kept, cut_room}
use Rattle.cpc_lexer.proofs.text.tokens.Goals as goal

pub loop-rest-init : goal.loop-rest-init
loop-rest-init c = rw c.new-tokens.ensures.items (cut_begun c.args.dialect c.args.text.now c.args.names.now)

pub returns-in_err-kind-clause-grown : goal.returns-in_err-kind-clause-grown
returns-in_err-kind-clause-grown c = rw c.in_err-kind.ensures.unchanged (cut_kept _ _ _ _ _ _ _ 0 c.loop-rest.invariant)

pub returns-in_err-kind-clause-one_answer : goal.returns-in_err-kind-clause-one_answer
returns-in_err-kind-clause-one_answer c = one_answer c.args.text.now c.args.dialect

pub returns-in_err-keep-clause-grown : goal.returns-in_err-keep-clause-grown
returns-in_err-keep-clause-grown c = cut_grown _ _ _ _ _ _ _ 0 c.loop-rest.invariant c.piece.new.names c.in_ok-kind.kind c.in_ok-kind.ensures.table

pub returns-in_err-keep-clause-one_answer : goal.returns-in_err-keep-clause-one_answer
returns-in_err-keep-clause-one_answer c = one_answer c.args.text.now c.args.dialect

pub loop-rest-preserved : goal.loop-rest-preserved
loop-rest-preserved c =
    rw (c.in_ok-keep.ensures, c.place_behind-place.ensures, c.split_at.ensures.front, c.split_at.ensures.back)
    (cut_goes _ _ _ _ _ _ _ c.in_ok-kind.n c.loop-rest.invariant c.piece.new.names c.in_ok-kind.kind c.in_ok-kind.ensures.longest c.in_ok-kind.ensures.table c.in_ok-kind.ensures.below)

pub returns-clause-grown : goal.returns-clause-grown
returns-clause-grown c = cut_kept _ _ _ _ _ _ _ 0 c.loop-rest.invariant

pub returns-clause-one_answer : goal.returns-clause-one_answer
returns-clause-one_answer c = one_answer c.args.text.now c.args.dialect

pub returns-in_err-keep-clause-room : goal.returns-in_err-keep-clause-room
returns-in_err-keep-clause-room c = cut_room _ _ _ _ _ _ _ c.in_ok-kind.n c.loop-rest.invariant c.piece.new.names c.in_ok-kind.kind c.in_ok-kind.ensures.longest c.in_ok-kind.ensures.table
