use Rattle.std.proofs.Common.{◌∙◌, [], ◌∷◌, ◌++◌, ap}
use Rattle.cpc_tree.specs.Erase.{type_of}
use Rattle.cpc_tree.specs.Syntax.{TyCode, AndTy, NoTy}
use Rattle.cpc_chains_store_laws.specs.Driver.{any_pointer}
use Rattle.cpc_chains_items.proofs.Codes.{all_types, code_is}
use Rattle.cpc_chains_items.proofs.parts.piece_type.Goals as goal

pub returns : goal.returns
returns c = λ to.
    let given = ap (type_of to) c.in_ok-given.ensures.ok ∙ c.in_ok-any_pointer.ensures to in
    let row = ap (all_types to) (c.in_ok-push.ensures.items ∙ ap (λ u. u ++ c.in_ok-any_pointer-2.field-0 ∷ []) c.new-parameters.ensures.items) ∙ ap (λ u. AndTy u NoTy) (c.in_ok-any_pointer-2.ensures to) in
    code_is to c.in_ok-given.given c.push.new.self ∙ (ap (λ u. TyCode u (all_types to c.push.new.self.items)) given ∙ ap (TyCode any_pointer) row)
