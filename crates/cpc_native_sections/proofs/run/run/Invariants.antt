use Rattle.std.proofs.Common.{◌≡◌, ◌-◌}
use Rattle.cpc_tree.specs.Erase.{Names}
use Rattle.cpc_native.specs.Well.{IsWell}
use Rattle.cpc_sections.specs.Jobs.{EndsAs}
use Rattle.cpc_sections.specs.declared.job.SectionEnd.{SectionEnd}
use Rattle.cpc_native_sections.specs.Led.{IsRunning, run_of}
use Rattle.cpc_native_sections.proofs.run.run.Given as goal

-- what the machine comes to within the steps that are left is what the section comes to
abbrev pub invariant-loop-step : goal.invariant-loop-step
invariant-loop-step l = record {
  well : IsWell l.machine;
  index : l.machine.index ≡ l.fn.machine.index;
  texts : l.machine.texts ≡ l.fn.machine.texts;
  told : (names : Names) → IsRunning names l.fn.machine → (end : SectionEnd) → EndsAs names end (run_of names l.machine (names l.function) l.no_copy (l.bound - l._step))
      → EndsAs names end (run_of names l.fn.machine (names l.function) l.no_copy l.bound);
}
