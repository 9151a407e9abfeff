use Rattle.std.proofs.Common.{◌≡◌, ap, sym, ◌∙◌, subst}
use Rattle.std.specs.Map.{remove_entry}
use Rattle.std.specs.BTreeMap.{is_at}
use Rattle.std.specs.Ordering.{nat_cmp}
use Rattle.cpc_agenda_queues.specs.Queued as Q
use Rattle.cpc_agenda_queues.proofs.QueueLemmas.{insert_last, remove_last}
use Rattle.cpc_agenda_queues.proofs.IndexLemmas.{IsIndexed-kept, IsIndexed-more, view_more}
use Rattle.cpc_agenda_queues.proofs.queues.Queues.wait.Goals as goal

pub invariant_of-self-in-Ok-push : goal.invariant_of-self-in-Ok-push
invariant_of-self-in-Ok-push g c =
    let last = c.in-Ok.ensures.entries ∙ insert_last c.self.inside.arrived (c.args.key, c.args.item) c.self.inside.by_arrival.entries c.self.invariant.below in
    IsIndexed-more g.met.K.Ord.total c.args.key c.args.item c.self.inside.by_arrival.entries c.insert.new.self.entries c.self.inside.numbers c.push.new.self c.self.inside.arrived c.self.invariant last c.in-Ok.ensures.ordered c.in-Ok-push.ensures.ok

pub returns-in-Ok-push-clause-ok : goal.returns-in-Ok-push-clause-ok
returns-in-Ok-push-clause-ok g c =
    let last = c.in-Ok.ensures.entries ∙ insert_last c.self.inside.arrived (c.args.key, c.args.item) c.self.inside.by_arrival.entries c.self.invariant.below in
    view_more c.args.key c.args.item c.self.inside.by_arrival.entries c.insert.new.self.entries c.self.inside.numbers c.push.new.self c.self.inside.arrived last c.in-Ok-push.ensures.keys
    ∙ ap (Q.wait c.args.key c.args.item) c.self.view_is

-- the new waiter was taken out again
back : (g : _) (c : goal.In-Some g) → c.remove.new.self.entries ≡ c.self.inside.by_arrival.entries
back g c =
    c.remove.ensures.entries
    ∙ ap (remove_entry (is_at (nat_cmp c.self.inside.arrived))) (c.in-Ok.ensures.entries ∙ insert_last c.self.inside.arrived (c.args.key, c.args.item) c.self.inside.by_arrival.entries c.self.invariant.below)
    ∙ remove_last c.self.inside.arrived (c.args.key, c.args.item) c.self.inside.by_arrival.entries c.self.invariant.below

pub invariant_of-self-in-Err-push : goal.invariant_of-self-in-Err-push
invariant_of-self-in-Err-push g c =
    subst (λ es. Q.IsIndexed g.K.Ord.cmp es c.push.new.self c.self.inside.arrived) (sym (back g c))
    (IsIndexed-kept g.met.K.Ord.total c.args.key c.self.inside.by_arrival.entries c.self.inside.numbers c.push.new.self c.self.inside.arrived c.self.invariant c.in-Err-push.ensures.err)

pub returns-in-Some-clause-err : goal.returns-in-Some-clause-err
returns-in-Some-clause-err g c =
    ap (λ es. Q.queued_of es c.push.new.self c.self.inside.arrived) (back g c)
    ∙ ap (λ ks. record { waiting = Q.waiting_of c.self.inside.by_arrival.entries; keys = ks; arrived = c.self.inside.arrived }) c.in-Err-push.ensures.keys
    ∙ c.self.view_is
