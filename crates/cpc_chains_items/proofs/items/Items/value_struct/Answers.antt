use Rattle.std.proofs.Common.{◌≡◌, ◌∙◌, [], ◌∷◌, ◌++◌, true, false, map, sym, ap}
use Rattle.std.proofs.lemmas.List.{append-nil}
use Rattle.std.proofs.lemmas.Result.{on_ok_weaker}
use Rattle.cpc_tree.specs.Erase.{field_of, type_of}
use Rattle.cpc_tree.specs.declared.program.Function as GFunction
use Rattle.cpc_tree.specs.Syntax.{StructItem, Function}
use Rattle.cpc_tree.specs.Typing.{is_scalar}
use Rattle.cpc_chains_store_laws.specs.Driver.{head_fields}
use Rattle.cpc_chains_event.specs.Frames.{value_struct_if}
use Rattle.cpc_convert_routines.specs.Names.{value_tag}
use Rattle.cpc_chains_items.specs.Listed.{listed}
use Rattle.cpc_chains_items.proofs.Standing.{function_is, called_is}
use Rattle.cpc_chains_items.proofs.items.Items.value_struct.Goals as goal

pub returns-then-not-is_scalar : goal.returns-then-not-is_scalar
returns-then-not-is_scalar c = λ source from to p r s.
    let old = listed to c.args.self.now in
    let f = r.function in
    let given : type_of to c.function.result.now.result ≡ f.result = ap (λ (g : GFunction.Function). type_of to g.result) c.function.ensures ∙ sym (ap (λ (g : Function). g.result) (function_is source from to p r c.args.around s)) in
    let other : is_scalar f.result ≡ false = sym (ap is_scalar given) ∙ (sym (c.is_scalar.ensures to) ∙ c.if-not-is_scalar.true) in
    sym (append-nil old) ∙ ap (λ b. old ++ value_struct_if b f.called f.result) (sym other)

pub returns : goal.returns
returns c = on_ok_weaker c.add_struct.result (λ h source from to p r s.
    let old = listed to c.args.self.now in
    let f = r.function in
    let given : type_of to c.function.result.now.result ≡ f.result = ap (λ (g : GFunction.Function). type_of to g.result) c.function.ensures ∙ sym (ap (λ (g : Function). g.result) (function_is source from to p r c.args.around s)) in
    let scalar : is_scalar f.result ≡ true = sym (ap is_scalar given) ∙ (sym (c.is_scalar.ensures to) ∙ c.if-not-is_scalar.false) in
    let named = s.called.value ∙ ap value_tag (sym (called_is source from to p r c.args.around s)) in
    let fields : map (field_of to) c.in_ok-fields.fields.items ≡ head_fields f.result [] = c.in_ok-fields.ensures source to s.book ∙ ap (λ t. head_fields t []) (c.in_ok-of.ensures to ∙ given) in
    h to ∙ (ap (λ u. old ++ StructItem u (map (field_of to) c.in_ok-fields.fields.items) ∷ []) named ∙ (ap (λ fs. old ++ StructItem (value_tag f.called) fs ∷ []) fields
    ∙ ap (λ b. old ++ value_struct_if b f.called f.result) (sym scalar)))) c.add_struct.ensures
