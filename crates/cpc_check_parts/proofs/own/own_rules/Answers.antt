use Rattle.std.proofs.Common.{◌≡◌, ap, subst, map}
use Rattle.cpc_tree.specs.Locate.{ident, located_field}
use Rattle.cpc_check_rules.specs.Noted.{noted, first_of}
use Rattle.cpc_types.specs.Scoped.{all_items, first_items, scope_of}
use Rattle.cpc_check_parts.specs.ItemParts as P
use Rattle.cpc_check_parts.proofs.own.own_rules.Goals as goal

pub returns-in_ok-struct_own-in-Struct-clause-noted : goal.returns-in_ok-struct_own-in-Struct-clause-noted
returns-in_ok-struct_own-in-Struct-clause-noted c = λ names spells.
    let dialect = c.args.ground.now.dialect in
    let before = first_items names c.args.count (all_items c.args.scope.now) in
    let items : (scope_of names c.args.scope.now).items ≡ before = ap (λ s. s.items) (c.requires.entered names) in
    let here = subst (λ b. first_of c.struct_own.new.first ≡ noted (first_of c.args.first.now) (P.struct_own dialect b (ident names c.in-Struct.tag) (map (located_field names) c.deref.result.now))) items (c.in_ok-struct_own-in-Struct.ensures names spells) in
    rw c.in-Struct.is (subst (λ fs. first_of c.struct_own.new.first ≡ noted (first_of c.args.first.now) (P.struct_own dialect before (ident names c.in-Struct.tag) (map (located_field names) fs))) c.deref.ensures.value here)

pub returns-in_ok-global_own-in-Global-clause-noted : goal.returns-in_ok-global_own-in-Global-clause-noted
returns-in_ok-global_own-in-Global-clause-noted c = λ names spells.
    rw c.in-Global.is (c.in_ok-global_own-in-Global.ensures names (first_items names c.args.count (all_items c.args.scope.now)) spells (c.requires.entered names))
