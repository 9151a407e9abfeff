use Rattle.std.proofs.Common.{◌≡◌, [], ◌∷◌, ◌++◌, Some, false, cond, ap, sym, ◌∙◌, subst, refl, is_some}
use Rattle.std.specs.Prelude.{IsSome}
use Rattle.std.proofs.lemmas.Result.{on_ok_weaker, on_err_weaker}
use Rattle.std.proofs.lemmas.Bool.{false≢true}
use Rattle.std.specs.Option.{option_map, unwrap_or}
use Rattle.std.specs.Map.{keys_of}
use Rattle.std.specs.List.{list_any}
use Rattle.std.specs.BTreeMap.{is_at}
use Rattle.cpc_agenda_queues.specs.Numbers.{queues_of, queue_at}
use Rattle.cpc_agenda_queues.proofs.NumberLemmas.{keys_queues, queue_is, queue_put, any_lookup}
use Rattle.cpc_agenda_queues.proofs.numbers.Numbers.push.Goals as goal

-- the queue as it was
was : (g : _) (c : goal.After-self-2-1 g) → queue_at g.K.Ord.cmp c.args.key c.args.self.now ≡ c.in-Some.queue.now.items
was g c = sym (ap (queue_at g.K.Ord.cmp c.args.key) c.self.view_is) ∙ queue_is _ g.K.Ord.cmp c.args.key c.self.inside.by_key.entries ∙ ap (λ o. unwrap_or (option_map (λ q. q.items) o) []) (sym c.in-Some.ensures.value)

pub returns-clause-keys : goal.returns-clause-keys
returns-clause-keys g c =
    let w = c.put.new.queue in
    keys_queues _ (c.get_mut.follows.lender w).entries ∙ (c.get_mut.follows.holds w).1 ∙ sym (keys_queues _ c.self.inside.by_key.entries) ∙ ap keys_of c.self.view_is

-- the queues afterwards
now : (g : _) (c : goal.After-self-2-1 g) (q : g.row.K.Denot) → queue_at g.K.Ord.cmp q (queues_of (λ v. v.items) (c.get_mut.follows.lender c.put.new.queue).entries) ≡ cond (is_at (g.K.Ord.cmp c.args.key) q) c.put.new.queue.items (queue_at g.K.Ord.cmp q c.args.self.now)
now g c q =
    queue_put _ g.K.Ord.cmp q c.self.inside.by_key.entries (c.get_mut.follows.lender c.put.new.queue).entries (is_at (g.K.Ord.cmp c.args.key) q) (Some c.put.new.queue) (((c.get_mut.follows.holds c.put.new.queue).3 (subst IsSome c.in-Some.ensures.value refl)).0 q)
    ∙ ap (λ ns. cond (is_at (g.K.Ord.cmp c.args.key) q) c.put.new.queue.items (queue_at g.K.Ord.cmp q ns)) c.self.view_is

pub returns-clause-ok : goal.returns-clause-ok
returns-clause-ok g c =
    on_ok_weaker c.put.result (λ e q. now g c q ∙ ap (λ xs. cond (is_at (g.K.Ord.cmp c.args.key) q) xs (queue_at g.K.Ord.cmp q c.args.self.now)) (e ∙ ap (λ xs. xs ++ c.args.number ∷ []) (sym (was g c)))) c.put.ensures.ok

pub returns-clause-err : goal.returns-clause-err
returns-clause-err g c =
    on_err_weaker c.put.result (λ e q. now g c q ∙ ap (λ xs. cond (is_at (g.K.Ord.cmp c.args.key) q) xs (queue_at g.K.Ord.cmp q c.args.self.now)) (e ∙ sym (was g c))) c.put.ensures.err

pub returns-in_default-clause-ok : goal.returns-in_default-clause-ok
returns-in_default-clause-ok g c =
    let e : list_any (is_at (g.K.Ord.cmp c.args.key)) (keys_of c.args.self.now) ≡ false =
    ap (λ ns. list_any (is_at (g.K.Ord.cmp c.args.key)) (keys_of ns)) (sym c.self.view_is) ∙ ap (list_any (is_at (g.K.Ord.cmp c.args.key))) (keys_queues _ c.self.inside.by_key.entries)
    ∙ any_lookup (is_at (g.K.Ord.cmp c.args.key)) c.self.inside.by_key.entries ∙ ap is_some (sym c.in_default.ensures.value) in
    absurd (false≢true (sym e ∙ c.requires))
