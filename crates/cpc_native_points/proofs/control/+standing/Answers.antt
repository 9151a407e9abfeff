use Rattle.std.proofs.Common.{sym, ◌∙◌}
use Rattle.cpc_tree.specs.Erase.{stmt_of}
use Rattle.cpc_native_points.proofs.Finding.{child_found, part_found, none_found}
use Rattle.cpc_native_points.proofs.control.+standing.Goals as goal

pub returns-in-Some-child : goal.returns-in-Some-child
returns-in-Some-child t c = λ names.
    c.standing.ensures names ∙ sym (child_found (stmt_of names c.args.s.now) c.args.path.now c.in-Some.part.now c.in-Some.rest.now (stmt_of names c.in-Some-child.inner.now) c.in-Some.ensures.cases.0 (sym (c.in-Some-child.ensures names)))

pub returns-then-is_empty : goal.returns-then-is_empty
returns-then-is_empty t c = λ names.
    c.test_at.ensures names ∙ sym (part_found (stmt_of names c.args.s.now) c.args.path.now c.in-Some.part.now c.in-Some.rest.now c.in-Some.ensures.cases.0 (sym c.is_empty.ensures ∙ c.if-is_empty.true) (sym (c.in-None-child.ensures names)))

pub returns-else-is_empty : goal.returns-else-is_empty
returns-else-is_empty t c = λ names.
    sym (none_found (stmt_of names c.args.s.now) c.args.path.now c.in-Some.part.now c.in-Some.rest.now c.in-Some.ensures.cases.0 (sym c.is_empty.ensures ∙ c.if-is_empty.false) (sym (c.in-None-child.ensures names)))
