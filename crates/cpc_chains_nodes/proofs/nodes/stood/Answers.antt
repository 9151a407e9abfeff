use Rattle.std.proofs.Common.{◌∙◌, sym, ap, refl, List, None, option_map}
use Rattle.std.specs.Borrow.{Bor}
use Rattle.cpc_tree.specs.Erase.{expr_of, stmt_of}
use Rattle.cpc_tree.specs.Points as P
use Rattle.cpc_tree.specs.declared.program.Expr as GExpr
use Rattle.cpc_forms_code.specs.Seen.{manner_seen}
use Rattle.cpc_chains_event.specs.Lines as L
use Rattle.cpc_chains_lines.specs.Around.{reads}
use Rattle.cpc_chains_lines.specs.Written.{written, puts}
use Rattle.cpc_chains_lines.specs.Puts.{statements_before}
use Rattle.cpc_chains_nodes.proofs.Read.{told, at_test, at_arrival, at_end, arrival_read, test_read}
use Rattle.cpc_chains_nodes.proofs.nodes.stood.Goals as goal

pub returns-in_ok-statement-in-Simple : goal.returns-in_ok-statement-in-Simple
returns-in_ok-statement-in-Simple c = λ source from to p r st known.
    rw c.in-Simple.is (c.in_ok-statement-in-Simple.ensures source from to p r st known c.in-Simple.is)

pub returns-in_ok-empty-in-Empty : goal.returns-in_ok-empty-in-Empty
returns-in_ok-empty-in-Empty c = λ source from to p r st known.
    rw c.in-Empty.is (c.in_ok-empty-in-Empty.ensures source from to p r st known)

pub returns-in_ok-test-in-Test : goal.returns-in_ok-test-in-Test
returns-in_ok-test-in-Test c = λ source from to p r st known.
    rw c.in-Test.is (
    c.in_ok-test-in-Test.ensures source from to p r st known.yes known.no (test_read from to c.args.node c.in-Test.t known.texts c.in-Test.is)
    ∙ ap (λ (ls : List L.Line). puts (written to c.args.out.now) (statements_before c.args.following ls)) (sym (at_test p r (reads from r c.args.around c.args.node.scope) (manner_seen c.args.node.manner) (option_map (λ (x : Bor GExpr.Expr). expr_of from x.now) c.in-Test.t) c.args.node.yes c.args.node.no c.args.node.arrival)))

pub returns-in_ok-arrive-in-Arrival : goal.returns-in_ok-arrive-in-Arrival
returns-in_ok-arrive-in-Arrival c = λ source from to p r st known.
    rw c.in-Arrival.is (
    c.in_ok-arrive-in-Arrival.ensures source from to p r st known.yes (arrival_read from to c.args.node c.in-Arrival.s known.texts c.in-Arrival.is)
    ∙ ap (λ (ls : List L.Line). puts (written to c.args.out.now) (statements_before c.args.following ls)) (sym (at_arrival p r (reads from r c.args.around c.args.node.scope) (manner_seen c.args.node.manner) (P.Simple (stmt_of from c.in-Arrival.s.now)) c.args.node.yes c.args.node.no c.args.node.arrival)))

pub returns-in_ok-leave-in-End : goal.returns-in_ok-leave-in-End
returns-in_ok-leave-in-End c = λ source from to p r st known.
    let names = reads from r c.args.around c.args.node.scope in
    rw c.in-End.is (
    told c.args.following (written to c.args.out.now) _ (L.leave_lines r names None) (c.in_ok-leave-in-End.ensures source from to p r st refl)
    ∙ ap (λ (ls : List L.Line). puts (written to c.args.out.now) (statements_before c.args.following ls)) (sym (at_end p r names (manner_seen c.args.node.manner) c.args.node.yes c.args.node.no c.args.node.arrival)))
