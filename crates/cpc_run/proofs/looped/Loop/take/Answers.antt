use Rattle.std.proofs.Common.{[], ◌≤◌, sym, subst}
use Rattle.cpc_eval_values.specs.Shown.{value_of}
use Rattle.cpc_meaning.specs.Events.{starts_callback}
use Rattle.cpc_meaning.specs.Machine.{runs}
use Rattle.cpc_meaning.specs.Trees.{trees}
use Rattle.cpc_run.specs.declared.step.Step.TheVariants.{On}
use Rattle.cpc_run.specs.States.{CameTo, settles, program_in, callback_of}
use Rattle.cpc_run.specs.Shorts.{Counts, IsBeyond}
use Rattle.cpc_run.proofs.Shorts.{calls_count, err_more, ok_more}
use Rattle.cpc_run.proofs.Steps.{calls_with}
use Rattle.cpc_run.proofs.looped.Loop.take.Goals as goal

pub returns-in-With-clause-did : goal.returns-in-With-clause-did
returns-in-With-clause-did c = ok_more _ _ c.starts-in-With.result (λ h names fits printed s stands.
    let l = c.args.self.now in
    let at = c.in-With.callback in
    subst (λ item. CameTo names On c.starts-in-With.new.self printed s (settles names l s (starts_callback (trees (program_in names l)) (callback_of names item) (value_of names c.args.waited) s))) (sym c.in-With.is)
    (calls_with names l c.starts-in-With.new.self printed s (names at.function) (value_of names at.pointer) (value_of names c.args.waited) (value_of names c.waited_for.result) (c.waited_for.ensures.value names)
    (h names fits printed s stands))) c.starts-in-With.ensures.did

pub returns-in-With-clause-short : goal.returns-in-With-clause-short
returns-in-With-clause-short c = err_more _ _ c.starts-in-With.result (λ short h names fits sent s stands.
    let l = c.args.self.now in
    subst (λ item. Counts (IsBeyond c.args.cap short) (settles names l s (starts_callback (trees (program_in names l)) (callback_of names item) (value_of names c.args.waited) s))) (sym c.in-With.is)
    (calls_count (IsBeyond c.args.cap short) names l s (names c.in-With.callback.function) (value_of names c.in-With.callback.pointer) (value_of names c.args.waited) (value_of names c.waited_for.result) (c.waited_for.ensures.value names)
    (h names fits sent s stands))) c.starts-in-With.ensures.short

pub returns-in-With-clause-capped : goal.returns-in-With-clause-capped
returns-in-With-clause-capped c = ok_more _ _ c.starts-in-With.result (λ h names fits sent s stands.
    let l = c.args.self.now in
    subst (λ item. Counts (λ n. n ≤ c.args.cap) (settles names l s (starts_callback (trees (program_in names l)) (callback_of names item) (value_of names c.args.waited) s))) (sym c.in-With.is)
    (calls_count (λ n. n ≤ c.args.cap) names l s (names c.in-With.callback.function) (value_of names c.in-With.callback.pointer) (value_of names c.args.waited) (value_of names c.waited_for.result) (c.waited_for.ensures.value names)
    (h names fits sent s stands))) c.starts-in-With.ensures.capped

pub returns-in-Main-clause-did : goal.returns-in-Main-clause-did
returns-in-Main-clause-did c = ok_more _ _ c.starts.result (λ h names fits printed s stands.
    let l = c.args.self.now in
    let new = c.starts.new.self in
    subst (λ item. CameTo names On new printed s (settles names l s (starts_callback (trees (program_in names l)) (callback_of names item) (value_of names c.args.waited) s))) (sym c.in-Main.is)
    (subst (λ f. CameTo names On new printed s (settles names l s (runs (trees (program_in names l)) f [] s))) fits.main (h names fits printed s stands))) c.starts.ensures.did

pub returns-in-Main-clause-short : goal.returns-in-Main-clause-short
returns-in-Main-clause-short c = err_more _ _ c.starts.result (λ short h names fits sent s stands.
    let l = c.args.self.now in
    subst (λ item. Counts (IsBeyond c.args.cap short) (settles names l s (starts_callback (trees (program_in names l)) (callback_of names item) (value_of names c.args.waited) s))) (sym c.in-Main.is)
    (subst (λ f. Counts (IsBeyond c.args.cap short) (settles names l s (runs (trees (program_in names l)) f [] s))) fits.main (h names fits sent s stands))) c.starts.ensures.short

pub returns-in-Main-clause-capped : goal.returns-in-Main-clause-capped
returns-in-Main-clause-capped c = ok_more _ _ c.starts.result (λ h names fits sent s stands.
    let l = c.args.self.now in
    subst (λ item. Counts (λ n. n ≤ c.args.cap) (settles names l s (starts_callback (trees (program_in names l)) (callback_of names item) (value_of names c.args.waited) s))) (sym c.in-Main.is)
    (subst (λ f. Counts (λ n. n ≤ c.args.cap) (settles names l s (runs (trees (program_in names l)) f [] s))) fits.main (h names fits sent s stands))) c.starts.ensures.capped
