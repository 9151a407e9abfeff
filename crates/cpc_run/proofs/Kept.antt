-- What the loop keeps where other lists and other sections stand in it.
use Rattle.std.proofs.Common.{◌≡◌, ℕ, Option, Some, refl, sym, ap, ◌∙◌}
use Rattle.cpc_tree.specs.Erase.{Names}
use Rattle.cpc_tree.specs.declared.program.Program.{Program}
use Rattle.cpc_run_jobs.specs.declared.jobs.Jobs.{Jobs}
use Rattle.cpc_run_jobs.specs.Holding.{KeepsJobs, IsAssigned}
use Rattle.cpc_agenda_turns.specs.declared.turns.Turns.{Turns}
use Rattle.cpc_run_code.specs.declared.code.Code.{Code}
use Rattle.cpc_run_code.specs.declared.items.Item.{Item}
use Rattle.cpc_run.specs.declared.looped.Loop.{Loop}
use Rattle.cpc_run_code.specs.Code.{items_in, Runs}
use Rattle.cpc_run.specs.States.{Keeps}

-- what two steps keep
pub kept_then : (l mid new : Loop) → Keeps l mid → Keeps mid new → Keeps l new
kept_then l mid new h k = record {
  program = λ names. k.program names ∙ h.program names;
  runs = λ names fits. k.runs names (h.runs names fits);
  assigned = λ p bound is. k.assigned p bound (h.assigned p bound is);
  trace = k.trace ∙ h.trace;
  polls = k.polls ∙ h.polls;
}

-- whoever runs the sections of jobs runs those of what they become
still_assigned : (old new : Jobs) → KeepsJobs old new → (p : Option Program) (bound : ℕ) → IsAssigned p bound old → IsAssigned p bound new
still_assigned old new k p bound is = record { program = is.program ∙ ap Some (sym k.program); steps = is.steps ∙ sym k.bound }

-- the lists are others
pub turns_kept : (l : Loop) (turns : Turns Item) → Keeps l (record l { turns = turns })
turns_kept l turns = record {
  program = λ names. refl;
  runs = λ names fits. record { runs = fits.runs; main = fits.main; serves = fits.serves; items = fits.items };
  assigned = λ p bound is. record { program = is.program; steps = is.steps };
  trace = refl;
  polls = refl;
}

-- the lists are others, and so are the jobs, which are of the same program
pub relisted_keeps : (l : Loop) (turns : Turns Item) (jobs : Jobs) → KeepsJobs l.jobs jobs → Keeps l (record l { turns = turns; jobs = jobs })
relisted_keeps l turns jobs k = record {
  program = λ names. refl;
  runs = λ names fits. record { runs = fits.runs; main = fits.main; serves = k.serves names fits.serves; items = k.items names ∙ fits.items };
  assigned = still_assigned l.jobs jobs k;
  trace = refl;
  polls = refl;
}

-- and so is the machine, of the same program
pub moved_keeps : (l : Loop) (m : Code) (turns : Turns Item) (jobs : Jobs) → ((names : Names) → items_in names m ≡ items_in names l.machine) → ((names : Names) → Runs names l.machine → Runs names m) → KeepsJobs l.jobs jobs
    → Keeps l (record l { machine = m; turns = turns; jobs = jobs })
moved_keeps l m turns jobs items runs k = record {
  program = items;
  runs = λ names fits. record { runs = runs names fits.runs; main = fits.main; serves = k.serves names fits.serves; items = k.items names ∙ fits.items ∙ sym (items names) };
  assigned = still_assigned l.jobs jobs k;
  trace = refl;
  polls = refl;
}
