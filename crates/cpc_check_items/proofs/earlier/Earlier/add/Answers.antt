use Rattle.std.proofs.Common.{◌∷◌, ◌++◌, [], false, true, map, ap, sym, refl, ◌∙◌, subst, option_map}
use Rattle.cpc_tree.specs.declared.program.Item.{Item}
use Rattle.cpc_tree.specs.Erase.{type_of, item_of, field_of, parameter_of, expr_of, function_of}
use Rattle.cpc_check_items.specs.Signatures.{types_of}
use Rattle.cpc_check_items.specs.Pasts.{AreEarlier}
use Rattle.cpc_check_items.proofs.Telling.{types_are, signed, struct_added, global_added, prototype_added, function_added}
use Rattle.cpc_check_items.proofs.earlier.Earlier.add.Goals as goal

pub returns-in-Struct : goal.returns-in-Struct
returns-in-Struct c = λ names apart before d.
    let P : Item → Type 0 = λ x. AreEarlier names (before ++ item_of names x ∷ []) c.args.self.now in
    subst P (sym c.in-Struct.is) (struct_added names before (names c.in-Struct.tag.name) (map (field_of names) c.in-Struct.fields.items) c.args.self.now d)

pub returns-in_ok-put-in-Global : goal.returns-in_ok-put-in-Global
returns-in_ok-put-in-Global c = λ names apart before d.
    let P : Item → Type 0 = λ x. AreEarlier names (before ++ item_of names x ∷ []) c.put.new.self in
    let w = c.in-Global in
    subst P (sym w.is) (global_added names apart before w.word.name (type_of names w.of) (option_map (expr_of names) w.start) c.args.self.now c.put.new.self d c.in_ok-put-in-Global.ensures)

pub returns-in_ok-declare-in-Prototype : goal.returns-in_ok-declare-in-Prototype
returns-in_ok-declare-in-Prototype c = λ names apart before d.
    let P : Item → Type 0 = λ x. AreEarlier names (before ++ item_of names x ∷ []) c.declare.new.self in
    let w = c.in-Prototype in
    let ps = map (parameter_of names) w.parameters.items in
    let same = ap (λ l. signed w.mode (type_of names w.given) false (types_of names l)) c.deref.ensures.value ∙ ap (signed w.mode (type_of names w.given) false) (sym (types_are names w.parameters.items)) in
    subst P (sym w.is) (prototype_added names apart before w.word.name w.mode (type_of names w.given) ps _ c.args.self.now c.declare.new.self d same (c.in_ok-declare-in-Prototype.ensures names apart))

pub returns-in_ok-declare-in-Function : goal.returns-in_ok-declare-in-Function
returns-in_ok-declare-in-Function c = λ names apart before d.
    let P : Item → Type 0 = λ x. AreEarlier names (before ++ item_of names x ∷ []) c.declare-in-Function.new.self in
    let w = c.in-Function in
    let f = w.function in
    let same = c.of.ensures names ∙ ap (signed f.mode (type_of names f.result) true) (sym (types_are names f.parameters.items)) in
    subst P (sym w.is) (function_added names apart before f.word.name (function_of names f) c.of.result c.args.self.now c.declare-in-Function.new.self d refl same (c.in_ok-declare-in-Function.ensures names apart))
