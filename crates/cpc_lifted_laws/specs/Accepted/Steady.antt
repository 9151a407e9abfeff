-- What threaded runs keep over split graphs, and that they are never stuck, as statements.
use Rattle.std.specs.Prelude.{ℕ}
use Rattle.cpc_tree.specs.Syntax.{Program}
use Rattle.cpc_tree.specs.Trace.{is_over}
use Rattle.cpc_meaning_matching.specs.Systems.{run, NeverStuck}
use Rattle.cpc_meaning.specs.History.{History}
use Rattle.cpc_meaning.specs.Matching.{thread_system}
use Rattle.cpc_meaning.specs.Ways.{ways}
use Rattle.cpc_forms.specs.Split.{split_form}
use Rattle.cpc_check_laws.specs.Kept.Kept.{IsSteady}
use Rattle.cpc_check_laws.specs.Kept.Laws.{StepsHold}
use Rattle.cpc_check_laws.specs.Kept.Layers.{KeepsModes, Holds}
use Rattle.cpc_lifted_laws.specs.Accepted.Accepted.{OfAccepted}
use Rattle.cpc_lifted_laws.specs.Accepted.Lifted.{lifted_threads}

-- code of split graphs is steady and keeps modes where that of the text does
pub record SplitsKeep (p : Program) : Type 0 where
  pub steady : IsSteady (ways p) → IsSteady (split_form p)
  pub modes : KeepsModes (ways p) → KeepsModes (split_form p)

abbrev pub SplitsAreSteady : Type 0
SplitsAreSteady = (p : Program) → SplitsKeep p

-- what the threads of split graphs keep: in each step, and so in each state of their runs
pub record SplitHolds (p : Program) (h : History) : Type 0 where
  pub steps : StepsHold (split_form p) h
  pub runs : (n : ℕ) → Holds p (run (thread_system (split_form p) h) n)

abbrev pub AcceptedSplitsHold : Type 0
AcceptedSplitsHold = OfAccepted (λ p. (h : History) → SplitHolds p h)

-- neither these threads nor the lifted machine are ever stuck
pub record GoesOnward (p : Program) (h : History) : Type 0 where
  pub graphs : NeverStuck is_over (thread_system (split_form p) h)
  pub lifted : NeverStuck is_over (lifted_threads p h)

abbrev pub AcceptedNeverStuck : Type 0
AcceptedNeverStuck = OfAccepted (λ p. (h : History) → GoesOnward p h)
