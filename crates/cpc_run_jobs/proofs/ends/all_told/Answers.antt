use Rattle.std.proofs.Common.{map, subst}
use Rattle.cpc_tree.specs.Erase.{item_of}
use Rattle.cpc_meaning.specs.Agenda.{completed}
use Rattle.cpc_meaning.specs.Copies.{collect}
use Rattle.cpc_meaning.specs.Trees.{trees}
use Rattle.cpc_eval_values.specs.Shown.{values_of, store_of}
use Rattle.cpc_run_jobs.specs.Held.{are_out, left_out}
use Rattle.cpc_run_jobs.specs.Telling.{Reached, ReachedNext}
use Rattle.cpc_run_jobs.proofs.Told.{all_gave}
use Rattle.cpc_run_jobs.proofs.ends.all_told.Goals as goal

pub returns-in-Some-2-clause-collected : goal.returns-in-Some-2-clause-collected
returns-in-Some-2-clause-collected g c = λ program of names runs jobs made outs held.
    let p = trees (map (item_of names) program.items.items) in
    let whole = collect p g.S.Sections.bound jobs (are_out (completed c.args.events.now) outs) (store_of names c.args.store.now) in
    let last = left_out (completed c.args.events.now) outs in
    let vs = values_of names c.events.values.items in
    let s = store_of names c.events.store in
    let here = subst (λ es. Reached names p g.S.Sections.bound jobs made whole last c.events.out vs s es) c.in-Some.ensures.cases.0 (c.events.invariant program of names runs jobs made outs held) in
    let next = Reached names p g.S.Sections.bound jobs made whole last c.told.new.out (values_of names c.told.new.values.items) (store_of names c.told.new.store) c.in-Some.tail.now in
    subst (λ o. ReachedNext names o whole next) c.in-Some-2.is (c.in_ok-fault.ensures program of names runs jobs made whole last c.in-Some.tail.now here)

pub events-preserved : goal.events-preserved
events-preserved g c = λ program of names runs jobs made outs held.
    let p = trees (map (item_of names) program.items.items) in
    let whole = collect p g.S.Sections.bound jobs (are_out (completed c.args.events.now) outs) (store_of names c.args.store.now) in
    let last = left_out (completed c.args.events.now) outs in
    let vs = values_of names c.events.values.items in
    let s = store_of names c.events.store in
    let here = subst (λ es. Reached names p g.S.Sections.bound jobs made whole last c.events.out vs s es) c.in-Some.ensures.cases.0 (c.events.invariant program of names runs jobs made outs held) in
    let next = Reached names p g.S.Sections.bound jobs made whole last c.told.new.out (values_of names c.told.new.values.items) (store_of names c.told.new.store) c.in-Some.tail.now in
    subst (λ o. ReachedNext names o whole next) c.in_default-2.is (c.in_ok-fault.ensures program of names runs jobs made whole last c.in-Some.tail.now here)

pub returns-clause-collected : goal.returns-clause-collected
returns-clause-collected g c = λ program of names runs jobs made outs held.
    let p = trees (map (item_of names) program.items.items) in
    let whole = collect p g.S.Sections.bound jobs (are_out (completed c.args.events.now) outs) (store_of names c.args.store.now) in
    let last = left_out (completed c.args.events.now) outs in
    (all_gave names p g.S.Sections.bound jobs made whole last c.events.out (values_of names c.events.values.items) (store_of names c.events.store) c.events.rest.now c.in_default.ensures.cases
    (c.events.invariant program of names runs jobs made outs held)).0

pub returns-clause-holds : goal.returns-clause-holds
returns-clause-holds g c = λ program of names runs jobs made outs held.
    let p = trees (map (item_of names) program.items.items) in
    let whole = collect p g.S.Sections.bound jobs (are_out (completed c.args.events.now) outs) (store_of names c.args.store.now) in
    let last = left_out (completed c.args.events.now) outs in
    (all_gave names p g.S.Sections.bound jobs made whole last c.events.out (values_of names c.events.values.items) (store_of names c.events.store) c.events.rest.now c.in_default.ensures.cases
    (c.events.invariant program of names runs jobs made outs held)).1
