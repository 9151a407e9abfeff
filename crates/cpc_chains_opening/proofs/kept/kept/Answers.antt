use Rattle.std.proofs.Common.{ap, ◌∙◌, get_or, []}
use Rattle.cpc_forms_code.specs.Splits.{place_of}
use Rattle.cpc_convert_routines.specs.Routines.{owner_number}
use Rattle.cpc_chains_opening.specs.Whole.{rows_in}
use Rattle.cpc_chains_opening.proofs.Knowing.{kept_by, keeper_below}
use Rattle.cpc_chains_opening.proofs.kept.kept.Goals as goal

pub returns : goal.returns
returns c = λ from p r w of.
    c.closure.ensures ∙ (ap (λ l. get_or (rows_in c.args.around) (owner_number l) []) (c.keeper.ensures r w.stepped)
    ∙ kept_by from p r c.args.around c.args.stepped.now (place_of c.args.owner) w (keeper_below from p r c.args.around c.args.stepped.now c.args.owner w of))
