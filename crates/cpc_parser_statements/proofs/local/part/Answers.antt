use Rattle.std.proofs.Common.{sym, ◌∙◌, arith}
use Rattle.cpc_parser_types.specs.TypeViews.{base_type}
use Rattle.cpc_parser_statements.specs.CodeViews.{seen, variable_seen}
use Rattle.cpc_parser_statements.proofs.LocalSteps.{part_plain, part_set_at}
use Rattle.cpc_parser_statements.proofs.local.part.Goals as goal

pub returns-then-begins_mark-clause-gives : goal.returns-then-begins_mark-clause-gives
returns-then-begins_mark-clause-gives c = λ names.
    rw (part_set_at names (base_type names c.args.base) c.args.depth c.args.place (seen names c.args.all.items) _ c.in_ok-word.rest.now _ c.in_ok-behind.behind.now _ _ (c.in_ok-word.ensures.gives names) c.in_ok-behind.ensures.first (omega (arith, c.if-depth-lt2.false)))
    (c.started.ensures.gives names)

pub returns-clause-gives : goal.returns-clause-gives
returns-clause-gives c = λ names.
    part_plain (base_type names c.args.base) c.args.depth c.args.place (seen names c.args.all.items) (seen names c.in_ok-all.all.items) _ _ (variable_seen names c.in_ok-word.word c.in_ok-word.of) c.in_ok-word.nest
    (c.in_ok-word.ensures.gives names) (sym (c.begins_mark.ensures names) ∙ c.if-begins_mark.false) (c.in_ok-all.ensures.is names)
