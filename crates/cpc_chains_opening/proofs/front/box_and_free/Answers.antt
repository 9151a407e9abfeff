use Rattle.std.proofs.Common.{[], ◌∷◌}
use Rattle.cpc_forms_code.specs.Splits.{place_of}
use Rattle.cpc_chains_store_laws.specs.Frames.{frees_frame}
use Rattle.cpc_convert_routines.specs.Names.{pointer_name}
use Rattle.cpc_chains_event.specs.Pieces.{boxing_of}
use Rattle.cpc_chains_lines.specs.Written.{written}
use Rattle.cpc_chains_lines.proofs.Puts.{behind}
use Rattle.cpc_chains_opening.proofs.front.box_and_free.Goals as goal

pub returns : goal.returns
returns c = λ source from to p r st.
    behind (written to c.args.out.now) (written to c.box_here.new.out) (written to c.free_frame.new.out) (boxing_of r (place_of c.args.owner)) (frees_frame pointer_name ∷ []) (c.in_ok-box_here.ensures source from to p r st)
    (c.in_ok-free_frame.ensures source from to p r st)
