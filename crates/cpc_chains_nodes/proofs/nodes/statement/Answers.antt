use Rattle.std.proofs.Common.{◌∙◌, ap}
use Rattle.cpc_tree.specs.Erase.{in_table, stmt_of}
use Rattle.cpc_tree.specs.Points as P
use Rattle.cpc_tree.specs.Syntax as S
use Rattle.cpc_meaning.specs.Act as A
use Rattle.cpc_forms_code.specs.Seen.{stood_seen}
use Rattle.cpc_chains_event.specs.Lines as L
use Rattle.cpc_chains_lines.specs.Around.{reads}
use Rattle.cpc_chains_lines.specs.Written.{written}
use Rattle.cpc_chains_nodes.proofs.Read.{told, simple_read}
use Rattle.cpc_chains_nodes.proofs.nodes.statement.Goals as goal

pub returns-in_ok-simple-in-InPlace : goal.returns-in_ok-simple-in-InPlace
returns-in_ok-simple-in-InPlace c = λ source from to p r st known is.
    rw c.in-InPlace.is (c.in_ok-simple-in-InPlace.ensures source from to p r st known.yes (simple_read from to c.args.node c.args.s known.texts is) (simple_read (in_table source) to c.args.node c.args.s known.table is))

pub returns-in_ok-framed-in-ByFrame : goal.returns-in_ok-framed-in-ByFrame
returns-in_ok-framed-in-ByFrame c = λ source from to p r st known is.
    rw c.in-ByFrame.is (
    c.in_ok-framed-in-ByFrame.ensures source from to p r c.args.node.arrival st (c.behind-next.ensures.leads source from to p r st) (c.behind-next.ensures.is source from to p r st) (simple_read from to c.args.node c.args.s known.texts is))

pub returns-in_ok-waiting-in-AsCps : goal.returns-in_ok-waiting-in-AsCps
returns-in_ok-waiting-in-AsCps c = λ source from to p r st known is.
    rw c.in-AsCps.is (
    told c.args.following (written to c.args.out.now) _ (L.cps_lines p r (reads from r c.args.around c.args.node.scope) (stmt_of from c.args.s.now) c.args.node.arrival)
    (c.in_ok-waiting-in-AsCps.ensures source from to p r st known.arrival
    (λ o f es e. (known.waits c.in-AsCps.is).statement o f es (ap (stood_seen from) is ∙ ap (λ (x : S.Stmt). A.AtStatement (P.Simple x)) e))
    (simple_read from to c.args.node c.args.s known.texts is)))
