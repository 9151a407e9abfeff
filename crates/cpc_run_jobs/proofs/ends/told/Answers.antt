use Rattle.std.proofs.Common.{◌∷◌, map, sym, subst, ◌∙◌}
use Rattle.cpc_tree.specs.Erase.{item_of}
use Rattle.cpc_meaning.specs.Trees.{trees}
use Rattle.cpc_eval_values.specs.Shown.{values_of, store_of}
use Rattle.cpc_run_jobs.specs.Telling.{Reached}
use Rattle.cpc_run_jobs.proofs.Told.{end_is, end_lawful, gave, failed, more_values, passed_over}
use Rattle.cpc_run_jobs.proofs.ends.told.Goals as goal

pub collect_one-requires : goal.collect_one-requires
collect_one-requires g c = record { job = c.in-Some.ensures.lawful; end = end_lawful g.S.Sections.program g.S.Sections.bound c.in-Some.job c.in_ok-end.end c.requires c.in_ok-end.ensures }

pub returns-in_default-take : goal.returns-in_default-take
returns-in_default-take g c = λ program of names runs jobs made whole last rest reached.
    let p = trees (map (item_of names) program.items.items) in
    let vs = values_of names c.args.values.now.items in
    let s = store_of names c.args.store.now in
    let here = subst (λ e. Reached names p g.S.Sections.bound jobs made whole last c.args.out.now vs s (e ∷ rest)) c.in-Done.is reached in
    passed_over names p g.S.Sections.bound jobs made whole last c.args.out.now c.take.new.self vs s c.in-Done.number rest here (sym c.take.ensures.job ∙ c.in_default-take.is) c.take.ensures.taken

pub returns-in-Ok : goal.returns-in-Ok
returns-in-Ok g c = λ program of names runs jobs made whole last rest reached.
    let p = trees (map (item_of names) program.items.items) in
    let vs = values_of names c.args.values.now.items in
    let s = store_of names c.args.store.now in
    let t = store_of names c.collect_one.new.store in
    let here = subst (λ e. Reached names p g.S.Sections.bound jobs made whole last c.args.out.now vs s (e ∷ rest)) c.in-Done.is reached in
    subst (λ ws. Reached names p g.S.Sections.bound jobs made whole last c.take.new.self ws t rest) (sym (more_values names c.args.values.now.items c.push.new.self.items c.in-Ok.value c.in_ok-push-in-Ok.ensures.items))
    (gave names p g.S.Sections.bound jobs made whole last c.args.out.now c.take.new.self vs s t c.in-Done.number rest here c.in-Some.job (sym c.in-Some.ensures.job) c.in_ok-end.end ((end_is g.S.Sections.program g.S.Sections.bound c.in-Some.job c.in_ok-end.end program of c.in_ok-end.ensures).told names runs)
    c.collect_one.result (c.collect_one.ensures names) c.in-Ok.value c.in-Ok.is c.take.ensures.taken)

pub returns : goal.returns
returns g c = λ program of names runs jobs made whole last rest reached.
    let p = trees (map (item_of names) program.items.items) in
    let vs = values_of names c.args.values.now.items in
    let s = store_of names c.args.store.now in
    let t = store_of names c.collect_one.new.store in
    let here = subst (λ e. Reached names p g.S.Sections.bound jobs made whole last c.args.out.now vs s (e ∷ rest)) c.in-Done.is reached in
    failed names p g.S.Sections.bound jobs made whole last c.args.out.now c.take.new.self vs s t c.in-Done.number rest here c.in-Some.job (sym c.in-Some.ensures.job) c.in_ok-end.end ((end_is g.S.Sections.program g.S.Sections.bound c.in-Some.job c.in_ok-end.end program of c.in_ok-end.ensures).told names runs)
    c.collect_one.result (c.collect_one.ensures names) c.in-Err.failed c.in-Err.is
