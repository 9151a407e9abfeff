use Rattle.std.proofs.Common.{sym, subst, All, [], ◌∷◌, ◌++◌}
use Rattle.cpc_forms_code.specs.Splits.{place_of}
use Rattle.cpc_chains_store_laws.specs.Frames.{frees_frame}
use Rattle.cpc_convert_routines.specs.Names.{pointer_name}
use Rattle.cpc_chains_event.specs.Pieces.{boxing_of}
use Rattle.cpc_chains_lines.specs.Around.{IsVariable}
use Rattle.cpc_chains_lines.specs.Written.{written}
use Rattle.cpc_chains_opening.specs.Parts.{loading_of, declaring_of}
use Rattle.cpc_chains_opening.proofs.Knowing.{loaded_within}
use Rattle.cpc_chains_opening.proofs.Written.{three_written}
use Rattle.cpc_chains_opening.proofs.front.opening.Goals as goal

pub returns : goal.returns
returns c = λ source from to p r st w of nodes leaders.
    let l = place_of c.args.owner in
    let kept = c.kept-kept.ensures from p r w of in
    three_written (written to c.args.out.now) (written to c.load.new.out) (written to c.declare.new.out) (written to c.box_and_free.new.out) (loading_of p r l) (declaring_of p r l) (boxing_of r l ++ frees_frame pointer_name ∷ [])
    (c.in_ok-load.ensures source from to p r st (c.owner_name-name.ensures source from to p r st w of) (subst (All (IsVariable c.args.around)) (sym kept) (w.complete.kept l)) (loaded_within from p r c.args.around c.args.stepped.now l w) kept)
    (c.in_ok-declare.ensures source from to p r st w kept nodes leaders) (c.in_ok-box_and_free.ensures source from to p r st)
