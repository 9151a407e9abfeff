use Rattle.std.proofs.Common.{◌≡◌}
use Rattle.std.specs.Arc.{arc_value}
use Rattle.std.proofs.lemmas.List.Elements.{All-pop}
use Rattle.crossbeam_channel.specs.Ends.{sends_on, receives_on}
use Rattle.cpc_pool.proofs.Lists.{counted}
use Rattle.cpc_pool.proofs.staff.last.Goals as goal

pub returns-clause-ours : goal.returns-clause-ours
returns-clause-ours g c =
    (All-pop (λ h. (receives_on h.handle.promise.jobs.value ≡ sends_on c.args.sender.now) × (arc_value h.handle.promise.dones.value ≡ arc_value c.args.crew.now.dones)) c.args.started.now.items c.pop.new.self.items c.pop.result c.pop.ensures.items c.requires.ours).0

pub returns-clause-last : goal.returns-clause-last
returns-clause-last g c =
    (All-pop (λ h. (receives_on h.handle.promise.jobs.value ≡ sends_on c.args.sender.now) × (arc_value h.handle.promise.dones.value ≡ arc_value c.args.crew.now.dones)) c.args.started.now.items c.pop.new.self.items c.pop.result c.pop.ensures.items c.requires.ours).1

pub returns-clause-len : goal.returns-clause-len
returns-clause-len g c = counted c.pop.result _ _ c.pop.ensures.cases
