use Rattle.std.proofs.Common.{ap, sym, subst, map, All, ◌∙◌}
use Rattle.cpc_convert_flat_laws.specs.Locals.{declares_one}
use Rattle.cpc_convert_routines.specs.Routines.{locals_of}
use Rattle.cpc_chains_lines.specs.Written.{written, puts}
use Rattle.cpc_chains_lines.specs.Around.{IsVariable}
use Rattle.cpc_chains_opening.proofs.front.declare_begun.Goals as goal

pub returns : goal.returns
returns c = λ source from to p r st all here k.
    let e = c.deref.ensures.value ∙ c.in_ok-begun.ensures source from to p r st all k in
    c.in_ok-declare_variables.ensures source from to p r st (subst (All (IsVariable c.args.around)) (sym e) here)
    ∙ ap (λ ks. puts (written to c.args.out.now) (map declares_one (locals_of r ks))) e
