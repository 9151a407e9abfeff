use Rattle.std.proofs.Common.{sym, subst, refl, ◌<◌}
use Rattle.cpc_split.specs.Seen.{spread_of}
use Rattle.cpc_split.proofs.Once.{entry_inside}
use Rattle.cpc_split.proofs.Flags.{begins}
use Rattle.cpc_split.proofs.Turns.{ended}
use Rattle.cpc_split.proofs.owning.owners.Goals as goal

pub begun-requires : goal.begun-requires
begun-requires c = subst (λ n. c.args.entry < n) (sym c.requires.length) (entry_inside c.args.entry c.args.steps.now c.requires.inside c.args.entry refl)

pub loop-marks-init : goal.loop-marks-init
loop-marks-init c = begins c.args.entry c.args.steps.now c.requires.inside c.args.leads.now c.requires.length c.requires.flags (spread_of c.in_ok-marks.marks) c.in_ok-marks.ensures

pub returns : goal.returns
returns c = ended c.args.entry c.args.steps.now c.requires.inside c.turn.new.marks.owners.items c.turn.new.marks.waiting.items c.in_ok-turn.ensures.spread (c.in_ok-turn.ensures.ends c.if-branch.false)
