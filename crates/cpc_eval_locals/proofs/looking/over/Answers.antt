use Rattle.std.proofs.Common.{drop, sym}
use Rattle.std.specs.declared.cmp.Ordering.TheVariants.{Equal}
use Rattle.std.proofs.lemmas.Cmp.{ranked}
use Rattle.cpc_native_points.specs.Seen.{path_of}
use Rattle.cpc_eval_locals.specs.Locals.{held_of}
use Rattle.cpc_eval_locals.specs.Seen.{mark_seen}
use Rattle.cpc_eval_locals.proofs.Marking.{look_less, look_more}
use Rattle.cpc_eval_locals.proofs.looking.over.Goals as goal

pub returns-in-Less : goal.returns-in-Less
returns-in-Less c = λ names apart rest.
    let at = c.args.at in
    sym (look_less (names c.args.name) at.count (held_of names at.held) at.depth (path_of (drop at.depth c.args.path.now)) (mark_seen names c.args.mark.now) rest (sym c.in-Less.ensures))

pub returns-in-Equal : goal.returns-in-Equal
returns-in-Equal c = λ names apart rest. c.level.ensures names apart rest (ranked c.args.at.depth c.args.mark.now.depth Equal c.in-Equal.ensures)

pub returns-in-Greater : goal.returns-in-Greater
returns-in-Greater c = λ names apart rest.
    let at = c.args.at in
    sym (look_more (names c.args.name) at.count (held_of names at.held) at.depth (path_of (drop at.depth c.args.path.now)) (mark_seen names c.args.mark.now) rest (sym c.in-Greater.ensures))
