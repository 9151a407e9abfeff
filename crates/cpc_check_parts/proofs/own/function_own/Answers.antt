use Rattle.std.proofs.Common.{◌≡◌, ◌++◌, ap, sym, subst}
use Rattle.cpc_tree.specs.Locate.{located_function}
use Rattle.cpc_check_rules.specs.ItemRules as R
use Rattle.cpc_check_rules.specs.Noted.{noted, first_of}
use Rattle.cpc_types.specs.Scoped.{all_items, first_items, scope_of, items_of}
use Rattle.cpc_types.proofs.Scopes.{items_are}
use Rattle.cpc_check_items.specs.Parts.{tail_parts}
use Rattle.cpc_check.proofs.Parts.{body_stands, noted_two}
use Rattle.cpc_check_parts.specs.ItemParts.{head_own}
use Rattle.cpc_check_parts.proofs.own.function_own.Goals as goal

pub returns-clause-noted : goal.returns-clause-noted
returns-clause-noted c = λ names spells.
    let dialect = c.args.ground.now.dialect in
    let xs = all_items c.args.scope.now in
    let before = first_items names c.args.count xs in
    let f = located_function names c.args.function.now in
    let items : (scope_of names c.args.scope.now).items ≡ before = ap (λ s. s.items) (c.requires.entered names) in
    let head : first_of c.head_own.new.first ≡ noted (first_of c.args.first.now) (head_own dialect before f) =
    subst (λ b. first_of c.head_own.new.first ≡ noted (first_of c.args.first.now) (head_own dialect b f)) items (c.in_ok-head_own.ensures names spells) in
    let stands = body_stands names dialect c.args.function.now xs c.args.count (scope_of names c.enter_items.new.self) (scope_of names c.enter_function.new.self) (items_of names c.enter_items.new.self)
    c.requires.stands (sym (items_are names c.enter_items.new.self)) (c.enter_items.ensures.scope names) (c.in_ok-enter_function.ensures.ok names) in
    let body = subst (λ w. first_of c.body_rules.new.first ≡ noted (first_of c.head_own.new.first) (R.body_breaks w f.body)) stands (c.in_ok-body_rules.ensures.noted names spells) in
    noted_two (first_of c.args.first.now) (first_of c.head_own.new.first) (first_of c.tail_rules.new.first) (head_own dialect before f) (R.body_breaks (R.in_body dialect before f) f.body ++ tail_parts dialect f) head
    (noted_two (first_of c.head_own.new.first) (first_of c.body_rules.new.first) (first_of c.tail_rules.new.first) (R.body_breaks (R.in_body dialect before f) f.body) (tail_parts dialect f) body (c.in_ok-tail_rules.ensures names spells))
