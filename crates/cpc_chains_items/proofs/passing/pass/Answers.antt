use Rattle.std.proofs.Common.{◌≡◌, ◌<◌, ◌≤◌, ◌∙◌, ◌++◌, List, true, false, None, Some, map, length, slice_get, option_map, subst, refl, sym, ap, arith}
use Rattle.std.proofs.lemmas.List.{append-nil}
use Rattle.std.proofs.lemmas.Option.{slice_get_past, slice_get_read}
use Rattle.cpc_tree.specs.Erase.{field_of, type_of}
use Rattle.cpc_tree.specs.Registers.{variables}
use Rattle.cpc_tree.specs.Typing.{is_scalar}
use Rattle.cpc_forms_code.specs.declared.boxed.Variable as V
use Rattle.cpc_chains_lines.specs.Known.{plain_seen}
use Rattle.cpc_convert_names.specs.Called.{variables_in}
use Rattle.cpc_chains_items.specs.Passed.{passed_one}
use Rattle.cpc_chains_items.proofs.Passes.{passed_scalar, passed_no_value}
use Rattle.cpc_chains_items.proofs.Standing.{there}
use Rattle.cpc_chains_items.proofs.passing.pass.Goals as goal

pub returns-then-number-variables : goal.returns-then-number-variables
returns-then-number-variables c = λ source from to p r s.
    let k = c.args.number in
    let vs = c.variables-variables.result.now in
    let old = map (field_of to) c.args.fields.now.items in
    let past : length vs ≤ k = omega (arith, c.if-number-variables.true) in
    let at : slice_get (variables_in c.args.around.called.now.lifted.now) k ≡ None = ap (λ (l : List V.Variable). slice_get l k) (sym c.variables-variables.ensures) ∙ slice_get_past vs k past in
    sym (append-nil old) ∙ ap (λ o. old ++ passed_one k o) (sym (there source from to p r c.args.around s k ∙ ap (option_map (plain_seen to)) at))

pub returns-then-not-is_scalar : goal.returns-then-not-is_scalar
returns-then-not-is_scalar c = λ source from to p r s.
    let k = c.args.number in
    let vs = c.variables-variables.result.now in
    let v = c.index-variables-number.result in
    let old = map (field_of to) c.args.fields.now.items in
    let within : k < length vs = omega (arith, c.if-number-variables.false) in
    let at : slice_get (variables_in c.args.around.called.now.lifted.now) k ≡ Some v = subst (λ l. slice_get l k ≡ Some v) c.variables-variables.ensures (slice_get_read vs (length vs) k v refl within c.index-variables-number.is) in
    let seen = there source from to p r c.args.around s k ∙ ap (option_map (plain_seen to)) at in
    let other : is_scalar (type_of to v.of.now) ≡ false = sym (c.is_scalar.ensures to) ∙ c.if-not-is_scalar.true in
    sym (append-nil old) ∙ ap (λ u. old ++ u) (sym (passed_no_value k (slice_get (variables r.function) k) (plain_seen to v) seen other))

pub returns : goal.returns
returns c = λ source from to p r s.
    let k = c.args.number in
    let vs = c.variables-variables.result.now in
    let v = c.index-variables-number.result in
    let old = map (field_of to) c.args.fields.now.items in
    let within : k < length vs = omega (arith, c.if-number-variables.false) in
    let at : slice_get (variables_in c.args.around.called.now.lifted.now) k ≡ Some v = subst (λ l. slice_get l k ≡ Some v) c.variables-variables.ensures (slice_get_read vs (length vs) k v refl within c.index-variables-number.is) in
    let seen = there source from to p r c.args.around s k ∙ ap (option_map (plain_seen to)) at in
    let scalar : is_scalar (type_of to v.of.now) ≡ true = sym (c.is_scalar.ensures to) ∙ c.if-not-is_scalar.false in
    c.in_ok-pass_value.ensures source from to p r s at ∙ ap (λ u. old ++ u) (passed_scalar k (slice_get (variables r.function) k) (plain_seen to v) seen scalar)
