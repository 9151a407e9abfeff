use Rattle.std.proofs.Common.{[], Some, cond, ap, sym, ◌∙◌}
use Rattle.std.specs.Map.{keys_of}
use Rattle.std.specs.BTreeMap.{is_at}
use Rattle.cpc_agenda_queues.specs.Numbers.{queues_of, queue_at}
use Rattle.cpc_agenda_queues.specs.Queued.{put_key}
use Rattle.cpc_agenda_queues.proofs.NumberLemmas.{keys_queues, queue_put, keys_put}
use Rattle.cpc_agenda_queues.proofs.numbers.Numbers.open.Goals as goal

pub returns-in-Ok-clause-keys : goal.returns-in-Ok-clause-keys
returns-in-Ok-clause-keys g c =
    keys_queues _ c.insert.new.self.entries ∙ ap keys_of c.in-Ok.ensures.entries ∙ keys_put g.K.Ord.cmp c.args.key _ c.self.inside.by_key.entries
    ∙ ap (put_key g.K.Ord.cmp c.args.key) (sym (keys_queues _ c.self.inside.by_key.entries) ∙ ap keys_of c.self.view_is)

pub returns-in-Ok-clause-queues : goal.returns-in-Ok-clause-queues
returns-in-Ok-clause-queues g c q =
    queue_put _ g.K.Ord.cmp q c.self.inside.by_key.entries c.insert.new.self.entries (is_at (g.K.Ord.cmp c.args.key) q) (Some c.new.result) (c.in-Ok.ensures.updates.0 q)
    ∙ ap (λ xs. cond (is_at (g.K.Ord.cmp c.args.key) q) xs (queue_at g.K.Ord.cmp q (queues_of (λ v. v.items) c.self.inside.by_key.entries))) c.new.ensures.items
    ∙ ap (λ ns. cond (is_at (g.K.Ord.cmp c.args.key) q) [] (queue_at g.K.Ord.cmp q ns)) c.self.view_is
