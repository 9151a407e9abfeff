use Rattle.std.proofs.Common.{◌≡◌, ◌≤◌, ◌-◌, ◌+◌, ◌++◌, ℤ, List, length}
use Rattle.std.specs.Io.KnownBytes.{append_known}
use Rattle.cpc_base.specs.Bytes.{Text}
use Rattle.cpc_check_rules.specs.Apart.{Spells}
use Rattle.cpc_tree.specs.Erase.{Names}
use Rattle.cpc_tree.specs.Syntax.{Program}
use Rattle.cpc_meaning.specs.History.{History}
use Rattle.cpc_run_jobs.specs.Holding.{IsAssigned}
use Rattle.cpc_run.specs.Answers.{HasSaid}
use Rattle.cpc_run.specs.Hosts.{with_answers}
use Rattle.cpc_run.specs.States.{IsSteady}
use Rattle.cpc_run.specs.Reports.{Begins, Reached, run_of}
use Rattle.cpc_run.proofs.run.run_on.Given as goal

abbrev pub invariant-steps : goal.invariant-steps
invariant-steps g l = record {
  steady : IsSteady l.run;
  assigned : IsAssigned g.S.Sections.program g.S.Sections.bound l.run.jobs;
  within : l.steps ≤ l.limits.steps;
  later : g.O.Sink.faults l.fn.out ≤ g.O.Sink.faults l.out;
  counted : l.polls + length l.run.turns.polls.now ≡ l.run.polls;
  so_far : (given : List ℤ) × ((names : Names) (q : Program) (h : History) → Spells l.table names → ((answers : List ℤ) → Begins names q (with_answers h answers) l.fn.run l.fn.first)
      → (sent : Text) × (g.O.Sink.taken l.out ≡ append_known (g.O.Sink.taken l.fn.out) sent) × ((rest : List ℤ)
      → Reached names q (with_answers h (given ++ rest)) l.limits.cells l.fn.run.trace l.run (sent ++ l.pending.items) l.steps l.cells × HasSaid g.R.HostRule.answers given rest (run_of q (with_answers h (given ++ rest)) l.steps)));
}

abbrev pub decreases-steps : goal.decreases-steps
decreases-steps g l = l.limits.steps - l.steps
