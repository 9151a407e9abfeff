use Rattle.std.proofs.Common.{◌∙◌, List, drop, length, map, refl, ap, sym, subst}
use Rattle.std.proofs.Math.Logic.{∥∥₁_elim}
use Rattle.cpc_tree.specs.Erase.{stmt_of, parameter_of}
use Rattle.cpc_tree.specs.declared.program.Parameter.{Parameter}
use Rattle.cpc_native_points.specs.Seen.{path_of}
use Rattle.cpc_eval_variables.specs.Told.{IsTold}
use Rattle.cpc_eval_locals.specs.Held.{held_among}
use Rattle.cpc_eval_locals.specs.Locals.{held_of}
use Rattle.cpc_eval_locals.specs.Marks.{own_of, own_after, look}
use Rattle.cpc_eval_locals.specs.Owners.{owner_of}
use Rattle.cpc_eval_locals.specs.Seen.{marks_seen}
use Rattle.cpc_eval_locals.proofs.Types.{held_set}
use Rattle.cpc_eval_locals.proofs.Whole.{at_is}
use Rattle.cpc_eval_locals.proofs.locals.Locals.at.Goals as goal

pub returns : goal.returns
returns c = λ names told.
    let f = owner_of c.args.self.now in
    let x = names c.args.name in
    let path = c.args.path.now in
    let before = c.outside-before.result in
    let known = c.outside-before.ensures in
    let rows = c.deref.ensures.value in
    let ms = marks_seen names c.deref-2.result.now in
    let P : List Parameter → Type 0 = IsTold names in
    ∥∥₁_elim c.args.self.now.tabled (held_set _ _) (λ tabled.
    at_is names f x (path_of path) before.count (held_among x 0 (map (parameter_of names) f.parameters.items)) (held_of names before.held) (held_of names c.look.result) (own_of (stmt_of names f.body)) ms
    (known.count ∙ ap length rows) known.few refl refl
    (known.held names (subst P (sym rows) told) ∙ ap (λ ps. own_after x before.count (held_among x 0 (map (parameter_of names) ps)) (own_of (stmt_of names f.body))) rows)
    (ap (marks_seen names) c.deref-2.ensures.value ∙ tabled.marked names)
    (c.look.ensures names told.apart ∙ ap (λ d. look x before.count (held_of names before.held) d (path_of (drop d path)) ms) known.depth))
