use Rattle.std.proofs.Common.{◌≡◌, [], map, refl, ap, sym, subst, ◌∙◌}
use Rattle.cpc_tree.specs.Erase.{in_table}
use Rattle.cpc_tree.specs.Locate.{located_item}
use Rattle.cpc_parser_reading.specs.Reading.{Read, Fault, Deep}
use Rattle.cpc_parser_types.specs.Views.{placed, Refuses}
use Rattle.cpc_parser.specs.ItemViews.{flat, program_whole}
use Rattle.cpc_parser.proofs.Loop.{same_read}
use Rattle.cpc_parser.proofs.Parsed.{read_program, is_read, syntax_place, deep_place, no_syntax, no_depth}
use Rattle.cpc_parser.proofs.program.parse.Goals as goal

pub returns-in-Ok-clause-program : goal.returns-in-Ok-clause-program
returns-in-Ok-clause-program c =
    let ts = placed (in_table c.args.names) c.args.tokens.now in
    let v = map (located_item (in_table c.args.names)) c.in-Ok.items.items in
    (refl, read_program c.args.dialect ts c.args.end v (subst (λ d. flat (program_whole d) ts ≡ Read (v, 0, [])) c.nesting_limit.ensures (c.in-Ok.ensures (in_table c.args.names))))

pub returns-in-Ok-clause-complete : goal.returns-in-Ok-clause-complete
returns-in-Ok-clause-complete c = λ q p.
    let ts = placed (in_table c.args.names) c.args.tokens.now in
    let v = map (located_item (in_table c.args.names)) c.in-Ok.items.items in
    is_read c.args.dialect ts c.args.end v q (subst (λ d. flat (program_whole d) ts ≡ Read (v, 0, [])) c.nesting_limit.ensures (c.in-Ok.ensures (in_table c.args.names))) p

pub returns-in-Ok-clause-alike : goal.returns-in-Ok-clause-alike
returns-in-Ok-clause-alike c = λ a b e.
    ap (λ u. u.0) (same_read (map (located_item a) c.in-Ok.items.items, 0, []) (map (located_item b) c.in-Ok.items.items, 0, []) (sym (c.in-Ok.ensures a) ∙ (ap (flat (program_whole c.nesting_limit.result)) e ∙ c.in-Ok.ensures b)))

pub returns-in-Err-Syntax-clause-fault : goal.returns-in-Err-Syntax-clause-fault
returns-in-Err-Syntax-clause-fault c =
    let ts = placed (in_table c.args.names) c.args.tokens.now in
    let g = subst (λ r. Refuses r (flat (program_whole c.nesting_limit.result) ts)) c.in-Err-Syntax.field-0-is (c.in-Err-Syntax.ensures (in_table c.args.names)) in
    syntax_place c.args.dialect ts c.args.end c.in-Err-Syntax.left c.place_before.result (λ front rest e l. c.place_before.ensures (in_table c.args.names) front rest e (l ∙ sym c.in-Err-Syntax.left-is)) g.0 g.1 (subst (λ d. flat (program_whole d) ts ≡ Fault g.0) c.nesting_limit.ensures g.2)

pub returns-in-Err-Syntax-clause-complete : goal.returns-in-Err-Syntax-clause-complete
returns-in-Err-Syntax-clause-complete c = λ q p.
    let ts = placed (in_table c.args.names) c.args.tokens.now in
    let g = subst (λ r. Refuses r (flat (program_whole c.nesting_limit.result) ts)) c.in-Err-Syntax.field-0-is (c.in-Err-Syntax.ensures (in_table c.args.names)) in
    no_syntax c.args.dialect ts c.args.end q g.0 p (subst (λ d. flat (program_whole d) ts ≡ Fault g.0) c.nesting_limit.ensures g.2)

pub returns-clause-fault : goal.returns-clause-fault
returns-clause-fault c =
    let ts = placed (in_table c.args.names) c.args.tokens.now in
    let g = subst (λ r. Refuses r (flat (program_whole c.nesting_limit.result) ts)) c.in-Err-Deep.field-0-is (c.in-Err-Deep.ensures (in_table c.args.names)) in
    deep_place c.args.dialect ts c.args.end c.in-Err-Deep.left c.place_before-in-Err-Deep.result (λ front rest e l. c.place_before-in-Err-Deep.ensures (in_table c.args.names) front rest e (l ∙ sym c.in-Err-Deep.left-is)) g.0 g.1 (subst (λ d. flat (program_whole d) ts ≡ Deep g.0) c.nesting_limit.ensures g.2)

pub returns-clause-complete : goal.returns-clause-complete
returns-clause-complete c = λ q p.
    let ts = placed (in_table c.args.names) c.args.tokens.now in
    let g = subst (λ r. Refuses r (flat (program_whole c.nesting_limit.result) ts)) c.in-Err-Deep.field-0-is (c.in-Err-Deep.ensures (in_table c.args.names)) in
    no_depth c.args.dialect ts c.args.end q g.0 p (subst (λ d. flat (program_whole d) ts ≡ Deep g.0) c.nesting_limit.ensures g.2)
