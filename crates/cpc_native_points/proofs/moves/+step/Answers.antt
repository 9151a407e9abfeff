use Rattle.std.proofs.Common.{◌∷◌, sym}
use Rattle.cpc_tree.specs.Erase.{stmt_of}
use Rattle.cpc_native_points.specs.Seen.{part_of, path_of}
use Rattle.cpc_native_points.proofs.Moving.{none_after, child_after, part_after, path_length}
use Rattle.cpc_native_points.proofs.moves.+step.Goals as goal

pub returns-in-None : goal.returns-in-None
returns-in-None t c = λ names. none_after names (stmt_of names c.args.s.now) c.args.path.now c.args.holds c.leaf.result c.in-None.ensures.cases (c.leaf.ensures names (path_of c.args.path.now))

pub returns-in-Some-child : goal.returns-in-Some-child
returns-in-Some-child t c = λ names.
    let e = c.in-Some.ensures.cases.0 in
    child_after names (stmt_of names c.args.s.now) c.args.path.now c.in-Some.part.now c.in-Some.rest.now c.args.holds (stmt_of names c.in-Some-child.inner.now) c.out_of.result e (sym (c.in-Some-child.ensures names))
    (c.out_of.ensures names (path_of c.in-Some.rest.now) _ (path_length c.args.path.now c.in-Some.part.now c.in-Some.rest.now e) (c.step.ensures names))

pub returns-in-None-child : goal.returns-in-None-child
returns-in-None-child t c = λ names.
    let e = c.in-Some.ensures.cases.0 in
    let path = part_of c.in-Some.part.now ∷ path_of c.in-Some.rest.now in
    let long = path_length c.args.path.now c.in-Some.part.now c.in-Some.rest.now e in
    part_after names (stmt_of names c.args.s.now) c.args.path.now c.in-Some.part.now c.in-Some.rest.now c.args.holds c.or_else.result e (sym (c.in-None-child.ensures names))
    (c.or_else.ensures names (part_of c.in-Some.part.now ∷ path_of c.in-Some.rest.now) _ _ (c.leaf-in-None-child.ensures names _) (c.at_part.ensures names _ long))
