use Rattle.std.proofs.Common.{◌≡◌, ap, sym, subst, map, ◌∙◌}
use Rattle.cpc_tree.specs.Locate.{ident, located_field, located_expr}
use Rattle.cpc_tree.specs.Erase.{type_of}
use Rattle.std.specs.Prelude.{option_map}
use Rattle.cpc_check_rules.specs.ItemRules as R
use Rattle.cpc_check_rules.specs.Noted.{noted, first_of}
use Rattle.cpc_types.specs.Scoped.{all_items, first_items, scope_of}
use Rattle.cpc_check_items.specs.Pasts.{AreEarlier}
use Rattle.cpc_check_items.specs.Parts.{global_parts}
use Rattle.cpc_check_items.proofs.Grouped.{global_whole}
use Rattle.cpc_check.proofs.Parts.{noted_two}
use Rattle.cpc_check.proofs.items.item_rules.Goals as goal

pub returns-in_ok-struct_rules-in-Struct-clause-noted : goal.returns-in_ok-struct_rules-in-Struct-clause-noted
returns-in_ok-struct_rules-in-Struct-clause-noted c = λ names spells earlier.
    let dialect = c.args.ground.now.dialect in
    let items : (scope_of names c.args.scope.now).items ≡ first_items names c.args.count (all_items c.args.scope.now) = ap (λ s. s.items) (c.requires.entered names) in
    let here = subst (λ b. first_of c.struct_rules.new.first ≡ noted (first_of c.args.first.now) (R.struct_breaks dialect b (ident names c.in-Struct.tag) (map (located_field names) c.deref.result.now))) items (c.in_ok-struct_rules-in-Struct.ensures names spells) in
    rw c.in-Struct.is (subst (λ fs. first_of c.struct_rules.new.first ≡ noted (first_of c.args.first.now) (R.struct_breaks dialect (first_items names c.args.count (all_items c.args.scope.now)) (ident names c.in-Struct.tag) (map (located_field names) fs))) c.deref.ensures.value here)

pub returns-in_ok-global_start-in-Global-clause-noted : goal.returns-in_ok-global_start-in-Global-clause-noted
returns-in_ok-global_start-in-Global-clause-noted c = λ names spells earlier.
    let dialect = c.args.ground.now.dialect in
    let before = first_items names c.args.count (all_items c.args.scope.now) in
    let x = ident names c.in-Global.word in
    let t = type_of names c.in-Global.of in
    let start = option_map (located_expr names) c.in-Global.start in
    let items : (scope_of names c.args.scope.now).items ≡ before = ap (λ s. s.items) (c.requires.entered names) in
    let parts : first_of c.global_rules.new.first ≡ noted (first_of c.args.first.now) (global_parts dialect before x t) =
    subst (λ b. first_of c.global_rules.new.first ≡ noted (first_of c.args.first.now) (global_parts dialect b x t)) items
    (c.global_rules.ensures names spells (subst (λ b. AreEarlier names b c.args.earlier.now) (sym items) earlier)) in
    rw c.in-Global.is
    (noted_two (first_of c.args.first.now) (first_of c.global_rules.new.first) (first_of c.global_start.new.first) (global_parts dialect before x t) (R.global_start (R.outside dialect before) x t start)
    parts (c.in_ok-global_start-in-Global.ensures names before spells (c.requires.entered names))
    ∙ ap (noted (first_of c.args.first.now)) (sym (global_whole dialect before x t start)))
