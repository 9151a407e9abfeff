use Rattle.cpc_forms_code.specs.Splits.{place_of}
use Rattle.cpc_chains_items.specs.Listed.{listed}
use Rattle.cpc_chains_pieces.specs.Written.{written}
use Rattle.cpc_chains_pieces.proofs.Made.{piece_made}
use Rattle.cpc_chains_code.proofs.pieces.piece.Goals as goal

pub returns : goal.returns
returns c = λ source from to p r st w of.
    piece_made p r (place_of c.args.owner) (listed to c.args.items.now) (listed to c.piece.new.self) (to c.owner_name-name.result) (written to c.in_ok-out.out).done (c.owner_name-name.ensures source from to p r st w of)
    (c.in_ok-out.ensures source from to p r st w of) (c.in_ok-piece.ensures source to st.book)
