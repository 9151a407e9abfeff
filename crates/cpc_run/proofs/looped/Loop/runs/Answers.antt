use Rattle.std.proofs.Common.{[], ◌++◌, ◌≤◌, ◌^◌, ◌-◌, arith, refl, sym, ap, subst, ◌∙◌}
use Rattle.std.proofs.lemmas.List.{append-nil}
use Rattle.cpc_meaning.specs.Events.{callbacks}
use Rattle.cpc_meaning.specs.Machine.{try_step}
use Rattle.cpc_run.specs.Answers.{CameAnswered}
use Rattle.cpc_run_code.specs.Code.{stack_in}
use Rattle.cpc_run.specs.States.{Came, Stands, program_in, where_running}
use Rattle.cpc_run.proofs.Steps.{code_step_is}
use Rattle.cpc_run.specs.Shorts.{Counts, IsBeyond}
use Rattle.cpc_run.proofs.Weighed.{made_on, made_full, made_over, behind_all}
use Rattle.cpc_run.proofs.looped.Loop.runs.Goals as goal

pub returns-in-Ok-Some-clause-made : goal.returns-in-Ok-Some-clause-made
returns-in-Ok-Some-clause-made g c =
    let h = c.in-Ok-Some.ensures.did in (
      h.0,
      λ names fits spells sent s within stands rest left.
          let l = c.args.self.now in
          let front = sent ++ c.args.pending.now.items in
          let none = sym (append-nil front) ∙ ap (λ t. front ++ t) (sym c.new-text.ensures.items) in
          let running = stands.running ∙ ap (λ b. where_running b (stack_in names l.machine)) c.requires.running in
          let did = subst (λ o. CameAnswered names g.R.HostRule.answers h.0 rest c.in-Ok-Some.field-0 c.goes_on.new.self (front ++ c.goes_on.new.pending.items) s o) (code_step_is names l s running)
          (h.1 names fits spells front s within (subst (λ t. Stands names l t s) none stands) rest left) in
          let printed = front ++ c.goes_on.new.pending.items in (
            made_over names c.args.cap c.goes_on.new.self s front printed front c.in-Ok-Some.outcome (try_step (callbacks (program_in names l)) s)
                (subst (λ o. Came names o c.goes_on.new.self printed s (try_step (callbacks (program_in names l)) s)) c.in-Ok-Some.field-0-is did.0) refl,
            did.1,
          ),
    )

pub returns-in-Ok-None-clause-made : goal.returns-in-Ok-None-clause-made
returns-in-Ok-None-clause-made g c =
    let h = c.in-Ok-None.ensures.did in (
      h.0,
      λ names fits spells sent s within stands rest left.
          let l = c.args.self.now in
          let front = sent ++ c.args.pending.now.items in
          let none = sym (append-nil front) ∙ ap (λ t. front ++ t) (sym c.new-text.ensures.items) in
          let running = stands.running ∙ ap (λ b. where_running b (stack_in names l.machine)) c.requires.running in
          let did = subst (λ o. CameAnswered names g.R.HostRule.answers h.0 rest c.in-Ok-None.field-0 c.goes_on.new.self (front ++ c.goes_on.new.pending.items) s o) (code_step_is names l s running)
          (h.1 names fits spells front s within (subst (λ t. Stands names l t s) none stands) rest left) in
          let printed = front ++ c.goes_on.new.pending.items in
          let more = c.in_ok-extend_from_slice-in-Ok-None.ensures.items ∙ ap (λ t. c.args.pending.now.items ++ t) c.as_slice.ensures.value in (
            made_on names c.args.cap c.goes_on.new.self s front printed (sent ++ c.extend_from_slice.new.self.items) c.cells.result (2 ^ 64 - 1) (try_step (callbacks (program_in names l)) s)
                (behind_all sent c.args.pending.now.items c.goes_on.new.pending.items c.extend_from_slice.new.self.items more)
                (subst (λ o. Came names o c.goes_on.new.self printed s (try_step (callbacks (program_in names l)) s)) c.in-Ok-None.field-0-is did.0)
                (λ t i. c.cells.ensures names printed t i) (omega (arith, c.requires.cap)) (subst (Counts (λ n. n ≤ c.args.cap)) (code_step_is names l s running) (c.in-Ok-None.ensures.capped names fits front s within stands)),
            did.1,
          ),
    )

pub returns-in-Err-Beyond-clause-made : goal.returns-in-Err-Beyond-clause-made
returns-in-Err-Beyond-clause-made g c = (
  [],
  λ names fits spells sent s within stands rest left.
      let l = c.args.self.now in
      let front = sent ++ c.args.pending.now.items in
      let o = try_step (callbacks (program_in names l)) s in (
        made_full names c.args.cap c.goes_on.new.self s front front c.in-Err-Beyond.cells o
            (subst (λ short. Counts (IsBeyond c.args.cap short) o) c.in-Err-Beyond.field-0-is (subst (Counts (IsBeyond c.args.cap c.in-Err-Beyond.field-0)) (code_step_is names l s (stands.running ∙ ap (λ b. where_running b (stack_in names l.machine)) c.requires.running)) (c.in-Err-Beyond.ensures.short names fits front s within stands))) refl,
        refl,
      ),
)
