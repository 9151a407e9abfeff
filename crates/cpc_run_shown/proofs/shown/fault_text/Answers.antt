use Rattle.std.proofs.Common.{◌∙◌}
use Rattle.cpc_base.proofs.Lists.{found_within, none_not_some}
use Rattle.cpc_run_shown.proofs.shown.fault_text.Goals as goal

pub unreachable-requires : goal.unreachable-requires
unreachable-requires c = let there = found_within c.args.table.now c.args.function.0 c.requires in none_not_some there.0 (c.in_default.ensures.text ∙ there.1)
