use Rattle.std.proofs.Common.{[], ◌∷◌, ◌++◌, map, refl, ap, ◌∙◌}
use Rattle.std.proofs.lemmas.Bool.{eq-eqb}
use Rattle.cpc_tree.specs.Syntax.{TyStruct}
use Rattle.cpc_tree.specs.Typing.{size}
use Rattle.cpc_tree.specs.Located.{bare_item, LStruct}
use Rattle.cpc_tree.specs.Locate.{ident, located_field}
use Rattle.cpc_check_rules.specs.declared.rule.Rule.TheVariants.{Twice, Incomplete}
use Rattle.cpc_check_rules.specs.Rule.{at_if}
use Rattle.cpc_check_rules.specs.Noted.{noted, first_of}
use Rattle.cpc_check_rules.specs.FunctionRules as F
use Rattle.cpc_check_rules.specs.ItemRules as R
use Rattle.cpc_types.specs.Scoped.{scope_of}
use Rattle.cpc_check_items.proofs.Notes.{in_turn, fields_alone, oversized_is}
use Rattle.cpc_check_parts.proofs.heads.struct_own.Goals as goal

pub returns : goal.returns
returns c = λ names s.
    let w = c.args.tag in
    let tag = names w.name in
    let p = (scope_of names c.args.scope.now).items in
    let fs = map (located_field names) c.args.fields.now in
    let d = c.args.ground.now.dialect in
    let over = at_if (R.is_oversized (size (p ++ bare_item (LStruct (ident names w) fs) ∷ []) (TyStruct tag))) w.place Incomplete in
    let again = F.repeated Twice [] (R.field_names fs) in
    let sizes = R.fields_breaks (R.outside d p).scope fs in
    in_turn _ _ _ (F.reserved_breaks d (ident names w ∷ [])) (over ++ (again ++ sizes)) (c.name_rules.ensures.spelled names s)
    (in_turn _ _ _ over (again ++ sizes)
    (c.note_if.ensures ∙ ap (λ b. noted (first_of c.name_rules.new.first) (at_if b w.place Incomplete)) (c.are_oversized-is_oversized.ensures names s.apart ∙ oversized_is names p tag c.args.fields.now (s.apart.told w.name w.name ∙ eq-eqb w.name.0 w.name.0 refl)))
    (in_turn _ _ _ again sizes
    (c.in_ok-repeated_rules.ensures names s.apart ∙ ap (λ l. noted (first_of c.note_if.new.self) (F.repeated Twice [] l)) (ap (map (ident names)) c.deref.ensures.value ∙ c.in_ok-words.ensures names))
    (c.field_rules.ensures names s.apart ∙ ap (noted (first_of c.repeated_rules.new.first)) (fields_alone (scope_of names c.args.scope.now) fs))))
