use Rattle.std.proofs.Common.{map}
use Rattle.cpc_forms_code.specs.Splits.{place_of}
use Rattle.cpc_chains_event.specs.Rows.{put_statement, put_lines, row_of}
use Rattle.cpc_chains_lines.specs.Written.{written}
use Rattle.cpc_chains_opening.proofs.Written.{row_written}
use Rattle.cpc_chains_pieces.proofs.rows.row.Goals as goal

pub returns : goal.returns
returns c = λ source from to p r st is within.
    row_written (written to c.args.out.now) (written to c.label_next.new.self) (written to c.lines.new.out) (written to c.label_next-2.new.self)
    (map put_statement (put_lines c.args.ways.0 (row_of p r (place_of c.args.owner) c.args.number).lines)) c.args.ways.1 c.args.number _
    (c.label_next.ensures to) (c.label.ensures source from to p r st within) (c.in_ok-lines.ensures source from to p r st is within) (c.label_next-2.ensures to)
