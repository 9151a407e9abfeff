use Rattle.std.proofs.Common.{◌≡◌, option_map, sym, ap, ◌∙◌}
use Rattle.cpc_tree.specs.Erase.{text_of}
use Rattle.cpc_tree.specs.Registers.{or_empty}
use Rattle.cpc_tree.specs.Syntax as S
use Rattle.cpc_convert_routines.specs.Names.{frame_name}
use Rattle.cpc_convert_routines.specs.Routines.{local_of, variable_of}
use Rattle.cpc_convert_names.specs.Called.{variables_in}
use Rattle.cpc_chains_lines.proofs.Single.{assigned_so}
use Rattle.cpc_chains_lines.proofs.Standing.{read, variable_at}
use Rattle.cpc_chains_opening.proofs.taking.fill_box.Goals as goal

pub returns : goal.returns
returns c = λ source from to p r st is parameter.
    let a = c.args.around in
    let k = c.args.number in
    let v = c.in-Some.of.now in
    let at = read (variables_in a.called.now.lifted.now) _ k v c.variables.ensures c.in-Some.ensures.lookup.0 c.in-Some.ensures.lookup.1 in
    let called : to c.in-Some-name.name ≡ (variable_of r k).called =
    sym (ap (λ (x : S.Variable). x.called) (variable_at source from to p r a st k v at) ∙ ap (λ o. or_empty (option_map (text_of to) o)) c.in-Some-name.is) in
    let pointer = c.named-pointer.ensures to ∙ ap (λ x. S.ENamed x) (c.local.ensures source from to p r st is) in
    let target = c.in_ok-target.ensures to ∙ (ap (λ e. S.EArrow e (to c.in-Some-name.name)) pointer ∙ ap (λ x. S.EArrow (S.ENamed (local_of r k).called) x) called) in
    let frame = c.named-frame.ensures to ∙ ap (λ x. S.ENamed x) st.book.own.frame in
    let value = c.in_ok-value.ensures to ∙ (ap (λ e. S.EArrow e (to c.local-2.result)) frame ∙ ap (λ x. S.EArrow (S.ENamed frame_name) x) (c.local-2.ensures source from to p r st is)) in
    assigned_so _ _ _ _ _ _ target value (c.in_ok-assign.ensures to)
