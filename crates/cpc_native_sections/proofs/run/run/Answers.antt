use Rattle.std.proofs.Common.{◌≡◌, ◌-◌, refl, subst, ◌∙◌, arith}
use Rattle.cpc_num.specs.declared.kinds.Fault.TheVariants as F
use Rattle.cpc_sections.specs.Jobs.{EndsAs}
use Rattle.cpc_sections.specs.declared.job.SectionEnd.TheVariants as D
use Rattle.cpc_native_sections.specs.Led.{LeadsTo, StaysWell, step_of, run_of}
use Rattle.cpc_native_sections.proofs.Running.{still_running, ends_in_step, goes_after_step, ends_late}
use Rattle.cpc_native_sections.proofs.run.run.Goals as goal

pub loop-step-init : goal.loop-step-init
loop-step-init c =
    let all : c.args.bound - 0 ≡ c.args.bound = omega arith in
    record {
      well = c.requires;
      index = refl;
      texts = refl;
      told = λ names runs end h. subst (λ n. EndsAs names end (run_of names c.args.machine.now (names c.args.function) c.args.no_copy n)) all h;
    }

pub goes-requires : goal.goes-requires
goes-requires c = c.loop-step.invariant.well

pub returns-in-Some-clause-end : goal.returns-in-Some-clause-end
returns-in-Some-clause-end c = λ names runs.
    let m = c.loop-step.machine in
    let new = c.goes.new.machine in
    let f = names c.args.function in
    let running = still_running names c.args.machine.now m c.loop-step.invariant.index c.loop-step.invariant.texts runs in
    let led = subst (λ o. LeadsTo names new o (step_of names m f c.args.no_copy)) c.in-Some.is (c.in_ok-end.ensures.led names running) in
    c.loop-step.invariant.told names runs c.in-Some.end (ends_in_step names m new f c.args.no_copy c.args.bound c.loop-step._step c.in-Some.end c.loop-step-test.true led)

pub loop-step-preserved : goal.loop-step-preserved
loop-step-preserved c =
    let m = c.loop-step.machine in
    let new = c.goes.new.machine in
    record {
      well = subst (λ o. StaysWell o new) c.in-None.is c.in_ok-end.ensures.well;
      index = c.in_ok-end.ensures.index ∙ c.loop-step.invariant.index;
      texts = c.in_ok-end.ensures.texts ∙ c.loop-step.invariant.texts;
      told = λ names runs end h.
          let f = names c.args.function in
          let running = still_running names c.args.machine.now m c.loop-step.invariant.index c.loop-step.invariant.texts runs in
          let led = subst (λ o. LeadsTo names new o (step_of names m f c.args.no_copy)) c.in-None.is (c.in_ok-end.ensures.led names running) in
          c.loop-step.invariant.told names runs end (goes_after_step names m new f c.args.no_copy c.args.bound c.loop-step._step end c.loop-step-test.true led c.in_ok-end.ensures.index h);
    }

pub returns-clause-end : goal.returns-clause-end
returns-clause-end c = λ names runs.
    c.loop-step.invariant.told names runs (D.Faulted F.SectionSteps c.args.function) (ends_late names c.loop-step.machine c.args.function c.args.no_copy c.args.bound c.loop-step._step c.loop-step-test.false)
