use Rattle.std.proofs.Common.{ap, sym, not, ◌&&◌, ◌∙◌}
use Rattle.cpc_convert_routines.specs.Routines.{is_plain}
use Rattle.cpc_chains_opening.proofs.kept.is_begun.Goals as goal

pub returns-then-not-is_parameter : goal.returns-then-not-is_parameter
returns-then-not-is_parameter c = λ source from to p r st v.
    c.is_plain.ensures source from to p r st v
    ∙ ap (λ b. not b && is_plain r c.args.number) (sym c.if-not-is_parameter.true ∙ c.is_parameter.ensures source from to p r st)

pub returns-else-not-is_parameter : goal.returns-else-not-is_parameter
returns-else-not-is_parameter c = λ source from to p r st v.
    ap not c.if-not-is_parameter.false ∙ ap (λ b. not b && is_plain r c.args.number) (sym c.if-not-is_parameter.false ∙ c.is_parameter.ensures source from to p r st)
