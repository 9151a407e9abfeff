use Rattle.std.proofs.Common.{ap, sym, ◌&&◌, ◌∙◌}
use Rattle.cpc_convert_routines.specs.Routines.{is_plain}
use Rattle.cpc_chains_opening.proofs.kept.is_passed.Goals as goal

pub returns-then-is_parameter : goal.returns-then-is_parameter
returns-then-is_parameter c = λ source from to p r st v.
    c.is_plain.ensures source from to p r st v
    ∙ ap (λ b. b && is_plain r c.args.number) (sym c.if-is_parameter.true ∙ c.is_parameter.ensures source from to p r st)

pub returns-else-is_parameter : goal.returns-else-is_parameter
returns-else-is_parameter c = λ source from to p r st v.
    c.if-is_parameter.false ∙ ap (λ b. b && is_plain r c.args.number) (sym c.if-is_parameter.false ∙ c.is_parameter.ensures source from to p r st)
