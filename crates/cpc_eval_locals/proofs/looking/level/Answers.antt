use Rattle.std.proofs.Common.{sym, arith}
use Rattle.std.proofs.lemmas.Option.{slice_get_within}
use Rattle.cpc_eval_locals.specs.Locals.{held_of}
use Rattle.cpc_eval_locals.specs.Seen.{mark_seen}
use Rattle.cpc_eval_locals.proofs.Stepping.{at_end}
use Rattle.cpc_eval_locals.proofs.looking.level.Goals as goal

pub at_part-requires : goal.at_part-requires
at_part-requires c =
    let few = c.part_at.ensures.few in
    let within = slice_get_within c.args.path.now c.args.at.depth c.in-Some.part (sym c.in-Some.ensures.part) in
    omega (arith, few, within)

pub returns-in-Some : goal.returns-in-Some
returns-in-Some c = λ names apart rest same. c.at_part.ensures names apart c.args.path.now rest same (sym c.in-Some.ensures.part)

pub returns-in-None : goal.returns-in-None
returns-in-None c = λ names apart rest same.
    let at = c.args.at in
    sym (at_end (names c.args.name) at.count (held_of names at.held) at.depth c.args.path.now (mark_seen names c.args.mark.now) rest same (sym c.in-None.ensures.part))
