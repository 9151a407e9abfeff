use Rattle.std.proofs.Common.{sym, arith}
use Rattle.std.proofs.lemmas.Grind.{common_steps}
use Rattle.cpc_tree.specs.Erase.{type_of}
use Rattle.cpc_shapes.specs.Listed.{listed_of}
use Rattle.cpc_shapes.proofs.CodeParts.{code_at, code_same, lengths_differ}
use Rattle.cpc_shapes.proofs.shapes.+sameness.Goals as goal

pub same_type-returns-then-same_type : goal.same_type-returns-then-same_type
same_type-returns-then-same_type t c = λ names apart.
    let e = code_at names c.args.a.now _ _ c.in-Code.is in
    let f = code_same (type_of names c.in-Code.given.value) (listed_of names c.in-Code.parameters.items) (type_of names c.args.b.now) _ _ (c.in-Some-signature.ensures names) in
    let g = c.if-same_type.ensures names apart in
    let h = c.same_types.ensures names apart in
    grind (arith, common_steps, e, f, g, h)

pub same_types-returns-then-list-others : goal.same_types-returns-then-list-others
same_types-returns-then-list-others t c = λ names apart. sym (lengths_differ names c.args.list.now c.args.others.now (λ e. omega arith))
