use Rattle.std.proofs.Common.{Bool, true, false, [], refl, sym, ap, ◌∙◌}
use Rattle.std.proofs.lemmas.Bool.{and_parts}
use Rattle.cpc_tree.specs.Typing.{is_scalar}
use Rattle.cpc_chains_event.specs.Pieces.{boxing_lines}
use Rattle.cpc_convert_routines.specs.Routines.{is_parameter, variable_of}
use Rattle.cpc_forms_code.specs.Lifts.{unless}
use Rattle.cpc_chains_lines.specs.Written.{written, puts}
use Rattle.cpc_chains_lines.proofs.Framing.{box_made}
use Rattle.cpc_chains_opening.proofs.taking.box_unless.Goals as goal

pub returns-then-is_passed : goal.returns-then-is_passed
returns-then-is_passed c = λ source from to p r st is.
    let k = c.args.number in
    let passed = sym (c.is_passed.ensures source from to p r st is) ∙ c.if-is_passed.true in
    let parameter = (and_parts (is_parameter r.function k) (is_scalar (variable_of r k).type) passed).0 in
    box_made r k true (written to c.args.out.now) _ _ passed (c.in_ok-make_box.ensures source from to p r st is) (c.in_ok-fill_box.ensures source from to p r st is parameter)
    ∙ ap (λ (b : Bool). puts (written to c.args.out.now) (boxing_lines r (unless b k []))) (sym c.if-is_register.false)

pub returns : goal.returns
returns c = λ source from to p r st is.
    let k = c.args.number in
    let passed = sym (c.is_passed.ensures source from to p r st is) ∙ c.if-is_passed.false in
    box_made r k false (written to c.args.out.now) _ _ passed (c.in_ok-make_box.ensures source from to p r st is) refl
    ∙ ap (λ (b : Bool). puts (written to c.args.out.now) (boxing_lines r (unless b k []))) (sym c.if-is_register.false)
