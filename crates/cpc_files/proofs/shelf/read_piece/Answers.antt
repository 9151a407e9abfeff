use Rattle.cpc_files.proofs.ReadLemmas.{piece_read}
use Rattle.cpc_files.proofs.shelf.read_piece.Goals as goal

pub returns-clause-bytes : goal.returns-clause-bytes
returns-clause-bytes g c =
    piece_read _ _ _ (g.O.Opener.files c.args.opener.now) c.args.name.now c.in_ok-file.file c.seek.new.self c.read.new.self c.args.offset c.in_ok-seek.field-0 c.read.new.buf c.read.result
    c.in_ok-file.ensures c.in_ok-seek.ensures.moves c.in_ok-seek.ensures.bytes c.read.ensures.bytes c.read.ensures.bound
