use Rattle.std.proofs.Common.{subst, sym, ◌<◌}
use Rattle.cpc_split.proofs.Flags.{marks_long}
use Rattle.cpc_split.proofs.beginning.begun.Goals as goal

pub visit-requires : goal.visit-requires
visit-requires c = subst (λ n. c.args.entry < n) (sym (marks_long _ _ c.in_ok-leader_marks.ensures)) c.requires
