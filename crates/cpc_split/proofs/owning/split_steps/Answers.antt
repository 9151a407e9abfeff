use Rattle.std.proofs.Common.{◌∙◌, ap}
use Rattle.cpc_split.specs.Flags.{flag_leaders}
use Rattle.cpc_split.proofs.Flags.{numbers_told}
use Rattle.cpc_split.proofs.owning.split_steps.Goals as goal

pub returns-clause-leaders : goal.returns-clause-leaders
returns-clause-leaders c =
    c.in_ok-leaders.ensures ∙ ap (flag_leaders 0) c.deref-2.ensures.value
    ∙ numbers_told c.args.entry c.args.steps.now c.in_ok-leads.leads.items c.in_ok-leads.ensures.length c.in_ok-leads.ensures.flags
