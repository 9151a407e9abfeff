use Rattle.std.proofs.Common.{◌∙◌, ◌≡◌, sym, ap, true, false}
use Rattle.cpc_tree.specs.Syntax as S
use Rattle.cpc_convert_routines.specs.Routines.{is_plain, variable_of}
use Rattle.cpc_convert_routines.specs.Names.{box_tag}
use Rattle.cpc_convert_image_laws.specs.Locals as I
use Rattle.cpc_convert_names.specs.Called.{variables_in}
use Rattle.cpc_chains_lines.proofs.Standing.{read, variable_at}
use Rattle.cpc_chains_lines.proofs.around.local_type.Goals as goal

pub returns-then-variable : goal.returns-then-variable
returns-then-variable c = λ source from to p r st lt.
    let k = c.args.number in
    let v = c.in-Some.variable.now in
    let at = read (variables_in c.args.around.called.now.lifted.now) _ k v c.variables.ensures c.in-Some.ensures.lookup.0 c.in-Some.ensures.lookup.1 in
    let plain : is_plain r k ≡ true = sym (st.routine.marks k v at) ∙ c.if-variable.true in
    c.in_ok-t-in-Some.ensures to ∙ (sym (ap (λ (x : S.Variable). x.type) (variable_at source from to p r c.args.around st k v at)) ∙ ap (λ b. I.local_type b (variable_of r k).type (box_tag r.function.called k)) (sym plain))

pub returns-in_ok-t-in-Some-2 : goal.returns-in_ok-t-in-Some-2
returns-in_ok-t-in-Some-2 c = λ source from to p r st lt.
    let k = c.args.number in
    let v = c.in-Some.variable.now in
    let at = read (variables_in c.args.around.called.now.lifted.now) _ k v c.variables.ensures c.in-Some.ensures.lookup.0 c.in-Some.ensures.lookup.1 in
    let plain : is_plain r k ≡ false = sym (st.routine.marks k v at) ∙ c.if-variable.false in
    c.in_ok-t-in-Some-2.ensures to ∙ (ap (λ x. S.TyPointer (S.TyStruct x)) (c.tag.ensures source from to p r st lt) ∙ ap (λ b. I.local_type b (variable_of r k).type (box_tag r.function.called k)) (sym plain))
