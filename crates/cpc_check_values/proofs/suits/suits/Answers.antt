use Rattle.std.proofs.Common.{Bool, ◌&&◌, [], ◌∷◌, sym, ap, ◌∙◌}
use Rattle.cpc_num.specs.declared.kinds.Kind.TheVariants.{Int}
use Rattle.cpc_tree.specs.Syntax.{Ty, TyVoid, TyInt}
use Rattle.cpc_tree.specs.Located.{bare_expr}
use Rattle.cpc_tree.specs.Locate.{located_expr}
use Rattle.cpc_tree.specs.Primitives as P
use Rattle.cpc_tree.specs.Typing.{function_type}
use Rattle.cpc_check_rules.specs.Scopes.{takes_typed}
use Rattle.cpc_check_rules.specs.Calls as C
use Rattle.cpc_types.specs.Scoped.{scope_of}
use Rattle.cpc_check_values.specs.declared.wants.Wanted.{Wanted}
use Rattle.cpc_check_values.specs.Wants.{want_of}
use Rattle.cpc_check_values.proofs.suits.suits.Goals as goal

pub returns-in_ok-any_pointer-in-Pointer : goal.returns-in_ok-any_pointer-in-Pointer
returns-in_ok-any_pointer-in-Pointer c = λ names apart d e.
    let s = scope_of names c.args.scope.now in
    let v = located_expr names c.args.e.now in
    c.takes_found-in-Pointer.ensures names apart d e
    ∙ ap (λ (t : Ty). takes_typed t (bare_expr v) d) (c.in_ok-any_pointer-in-Pointer.ensures names)
    ∙ sym (ap (λ (w : Wanted). C.suits s (want_of names w) v d) c.in-Pointer.is)

pub returns-in_ok-callback_type-in-Callback : goal.returns-in_ok-callback_type-in-Callback
returns-in_ok-callback_type-in-Callback c = λ names apart d e.
    let s = scope_of names c.args.scope.now in
    let v = located_expr names c.args.e.now in
    let t : Ty = function_type TyVoid (P.any_pointer ∷ TyInt Int ∷ []) in
    c.takes_found-then-is_function_name.ensures names apart d e
    ∙ ap (λ (u : Ty). takes_typed u (bare_expr v) d) (c.in_ok-callback_type-in-Callback.ensures names)
    ∙ ap (λ (b : Bool). b && takes_typed t (bare_expr v) d) (sym c.if-is_function_name.true ∙ c.is_function_name.ensures names apart)
    ∙ sym (ap (λ (w : Wanted). C.suits s (want_of names w) v d) c.in-Callback.is)
