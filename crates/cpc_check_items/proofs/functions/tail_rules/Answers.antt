use Rattle.std.proofs.Common.{◌++◌, map, sym, ap, ◌∙◌}
use Rattle.cpc_tree.specs.Locate.{ident, located_function, located_parameter}
use Rattle.cpc_check_rules.specs.Noted.{noted, first_of}
use Rattle.cpc_check_rules.specs.FunctionRules as F
use Rattle.cpc_check_items.proofs.Notes.{in_turn, reserved_both}
use Rattle.cpc_check_items.proofs.functions.tail_rules.Goals as goal

pub returns : goal.returns
returns c = λ names s.
    let f = located_function names c.args.function.now in
    let d = c.args.dialect in
    let many = F.many_breaks d f.parameters f.body in
    let stray = F.stray_breaks f.body in
    let labels = F.label_breaks f.body in
    let first = F.reserved_breaks d (F.locals f.body) in
    let second = F.reserved_breaks d (F.labels f.body) in
    in_turn _ _ _ (F.reserved_breaks d (F.locals f.body ++ F.labels f.body)) (labels ++ (stray ++ many))
    (in_turn _ _ _ first second
    (c.name_rules.ensures.spelled names s ∙ ap (λ l. noted (first_of c.args.first.now) (F.reserved_breaks d l)) (ap (map (ident names)) c.deref.ensures.value ∙ c.in_ok-locals.ensures names))
    (c.name_rules-2.ensures.spelled names s ∙ ap (λ l. noted (first_of c.name_rules.new.first) (F.reserved_breaks d l)) (ap (map (ident names)) c.deref-2.ensures.value ∙ c.in_ok-labels.ensures names))
    ∙ ap (noted (first_of c.args.first.now)) (sym (reserved_both d (F.locals f.body) (F.labels f.body))))
    (in_turn _ _ _ labels (stray ++ many) (c.in_ok-label_rules.ensures names s.apart)
    (in_turn _ _ _ stray many (c.loop_rules.ensures names)
    (c.in_ok-many_rules.ensures names ∙ ap (λ l. noted (first_of c.loop_rules.new.first) (F.many_breaks d (map (located_parameter names) l) f.body)) c.deref-3.ensures.value)))
