use Rattle.std.proofs.Common.{◌≡◌, map, ap, sym, ◌∙◌, rules}
use Rattle.std.specs.Map.{values_of}
use Rattle.std.specs.Map.Iter.{deref}
use Rattle.std.proofs.lemmas.Map.Iter.{iter_end}
use Rattle.cpc_base.proofs.Lists.{map_of_map}
use Rattle.cpc_agenda_queues.specs.Queued as Q
use Rattle.cpc_agenda_queues.proofs.queues.Queues.waited.Goals as goal

pub returns : goal.returns
returns g c =
    let e : map deref c.loop-waiter.yielded ≡ values_of c.self.inside.by_arrival.entries = search (rules, iter_end) in
    c.loop-waiter.invariant ∙ sym (map_of_map Q.key_of deref c.loop-waiter.yielded) ∙ ap (map Q.key_of) e ∙ ap (λ s. map Q.key_of (Q.Queued.waiting s)) c.self.view_is
