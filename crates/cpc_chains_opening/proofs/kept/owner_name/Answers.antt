use Rattle.std.proofs.Common.{ap, sym, subst, ◌∙◌}
use Rattle.cpc_forms_code.specs.Splits.{place_of}
use Rattle.cpc_convert_routines.specs.Names.{piece_name, leader_name}
use Rattle.cpc_chains_opening.proofs.Knowing.{called_is, owner_within}
use Rattle.cpc_convert_rows.specs.Steps.{IsOwner}
use Rattle.cpc_chains_opening.proofs.kept.owner_name.Goals as goal

pub returns-in-Leader : goal.returns-in-Leader
returns-in-Leader c = λ source from to p r st w of.
    let n = c.in-Leader.number in
    let here = owner_within from p r c.args.around c.args.stepped.now n w (subst (λ o. IsOwner c.args.stepped.now o) c.in-Leader.is of) in
    c.piece.ensures to st.called here ∙ (ap (λ f. leader_name f n) (called_is source from to p r c.args.around st) ∙ ap (λ o. piece_name r.function.called (place_of o)) (sym c.in-Leader.is))
