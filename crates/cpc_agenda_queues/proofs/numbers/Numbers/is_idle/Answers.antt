use Rattle.std.proofs.Common.{◌≡◌, [], ap, sym, ◌∙◌, subst, refl, IsTrue, deque_len}
use Rattle.std.specs.Prelude.{◌↔◌, ◌==◌}
use Rattle.std.specs.Option.{option_map, unwrap_or}
use Rattle.cpc_agenda_queues.specs.Numbers.{queue_at}
use Rattle.cpc_agenda_queues.proofs.NumberLemmas.{queue_is, idle_is}
use Rattle.cpc_agenda_queues.proofs.numbers.Numbers.is_idle.Goals as goal

pub returns-in-Some : goal.returns-in-Some
returns-in-Some g c =
    let e : queue_at g.K.Ord.cmp c.args.key c.args.self.now ≡ c.in-Some.queue.now.items =
    sym (ap (queue_at g.K.Ord.cmp c.args.key) c.self.view_is) ∙ queue_is _ g.K.Ord.cmp c.args.key c.self.inside.by_key.entries ∙ ap (λ o. unwrap_or (option_map (λ q. q.items) o) []) (sym c.in-Some.ensures.value) in
    subst (λ b. IsTrue b ↔ (queue_at g.K.Ord.cmp c.args.key c.args.self.now ≡ [])) (sym c.is_empty.ensures)
    (subst (λ xs. IsTrue (deque_len c.in-Some.queue.now == 0) ↔ (xs ≡ [])) (sym e) (idle_is (deque_len c.in-Some.queue.now) c.in-Some.queue.now.items c.in-Some.queue.now.ok.0))

pub returns-in-None : goal.returns-in-None
returns-in-None g c =
    let e : queue_at g.K.Ord.cmp c.args.key c.args.self.now ≡ [] =
    sym (ap (queue_at g.K.Ord.cmp c.args.key) c.self.view_is) ∙ queue_is _ g.K.Ord.cmp c.args.key c.self.inside.by_key.entries ∙ ap (λ o. unwrap_or (option_map (λ q. q.items) o) []) (sym c.in-None.ensures.value) in
    (λ _. e, λ _. refl)
