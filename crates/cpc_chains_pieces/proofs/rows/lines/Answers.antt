use Rattle.std.proofs.Common.{ap, sym, map, ◌∙◌}
use Rattle.std.proofs.lemmas.Result.{on_ok_weaker}
use Rattle.cpc_chains_event.specs.Rows.{put_statement, put_lines, lines_by}
use Rattle.cpc_chains_lines.specs.Written.{written, puts}
use Rattle.cpc_chains_pieces.proofs.rows.lines.Goals as goal

pub returns : goal.returns
returns c = on_ok_weaker c.stub.result (λ h source from to p r st is within.
    h source from to p r st within c.args.following
    ∙ ap (λ b. puts (written to c.args.out.now) (map put_statement (put_lines c.args.following (lines_by b p r c.args.number)))) (sym c.if-is_own.false ∙ c.is_own.ensures r is)) c.stub.ensures
