use Rattle.std.proofs.Common.{◌≡◌, [], Some, cond, ap, sym, ◌∙◌, subst, refl}
use Rattle.std.specs.Prelude.{◌<◌, IsSome}
use Rattle.std.specs.Option.{option_map, unwrap_or}
use Rattle.std.specs.Map.{keys_of}
use Rattle.std.specs.BTreeMap.{is_at}
use Rattle.cpc_agenda_queues.specs.Numbers.{queues_of, queue_at}
use Rattle.cpc_agenda_queues.specs.Queued.{first_of, rest_of}
use Rattle.cpc_agenda_queues.proofs.NumberLemmas.{keys_queues, queue_is, queue_put, none_taken, popped}
use Rattle.cpc_agenda_queues.proofs.numbers.Numbers.pop.Goals as goal

-- the queue as it was
was : (g : _) (c : goal.After-self-2-1 g) → queue_at g.K.Ord.cmp c.args.key c.args.self.now ≡ c.in-Some.queue.now.items
was g c = sym (ap (queue_at g.K.Ord.cmp c.args.key) c.self.view_is) ∙ queue_is _ g.K.Ord.cmp c.args.key c.self.inside.by_key.entries ∙ ap (λ o. unwrap_or (option_map (λ q. q.items) o) []) (sym c.in-Some.ensures.value)

pub returns-clause-keys : goal.returns-clause-keys
returns-clause-keys g c =
    let w = c.pop_front.new.self in
    keys_queues _ (c.get_mut.follows.lender w).entries ∙ (c.get_mut.follows.holds w).1 ∙ sym (keys_queues _ c.self.inside.by_key.entries) ∙ ap keys_of c.self.view_is

-- the queues afterwards
now : (g : _) (c : goal.After-self-2-1 g) (q : g.row.K.Denot) → queue_at g.K.Ord.cmp q (queues_of (λ v. v.items) (c.get_mut.follows.lender c.pop_front.new.self).entries) ≡ cond (is_at (g.K.Ord.cmp c.args.key) q) c.pop_front.new.self.items (queue_at g.K.Ord.cmp q c.args.self.now)
now g c q =
    queue_put _ g.K.Ord.cmp q c.self.inside.by_key.entries (c.get_mut.follows.lender c.pop_front.new.self).entries (is_at (g.K.Ord.cmp c.args.key) q) (Some c.pop_front.new.self) (((c.get_mut.follows.holds c.pop_front.new.self).3 (subst IsSome c.in-Some.ensures.value refl)).0 q)
    ∙ ap (λ ns. cond (is_at (g.K.Ord.cmp c.args.key) q) c.pop_front.new.self.items (queue_at g.K.Ord.cmp q ns)) c.self.view_is

-- what was taken, and what is left
taken : (g : _) (c : goal.After-self-2-1 g) → (c.pop_front.result ≡ first_of c.in-Some.queue.now.items) × (c.pop_front.new.self.items ≡ rest_of c.in-Some.queue.now.items)
taken g c = popped c.in-Some.queue.now.items c.pop_front.new.self.items c.pop_front.result c.pop_front.ensures.items (λ l. c.pop_front.ensures.variant.1 (subst (λ n. 0 < n) (sym c.in-Some.queue.now.ok.0) l))

pub returns-clause-number : goal.returns-clause-number
returns-clause-number g c = (taken g c).0 ∙ ap first_of (sym (was g c))

pub returns-clause-queues : goal.returns-clause-queues
returns-clause-queues g c q = now g c q ∙ ap (λ xs. cond (is_at (g.K.Ord.cmp c.args.key) q) xs (queue_at g.K.Ord.cmp q c.args.self.now)) ((taken g c).1 ∙ ap rest_of (sym (was g c)))

-- there is no queue
none : (g : _) (c : goal.After-self-in_default-2-1 g) → queue_at g.K.Ord.cmp c.args.key c.args.self.now ≡ []
none g c = sym (ap (queue_at g.K.Ord.cmp c.args.key) c.self.view_is) ∙ queue_is _ g.K.Ord.cmp c.args.key c.self.inside.by_key.entries ∙ ap (λ o. unwrap_or (option_map (λ q. q.items) o) []) (sym c.in_default.ensures.value)

pub returns-in_default-clause-number : goal.returns-in_default-clause-number
returns-in_default-clause-number g c = sym (ap first_of (none g c))

pub returns-in_default-clause-queues : goal.returns-in_default-clause-queues
returns-in_default-clause-queues g c q =
    ap (λ m. queue_at g.K.Ord.cmp q (queues_of (λ v. v.items) m.entries)) c.get_mut.follows.holds-at-none ∙ ap (queue_at g.K.Ord.cmp q) c.self.view_is
    ∙ none_taken g.met.K.Ord.total c.args.key q c.args.self.now (none g c)
