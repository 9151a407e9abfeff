-- That the bodies of what is made of an accepted program break no rule, as statements.
use Rattle.std.specs.Prelude.{[], ◌∷◌, ◌++◌}
use Rattle.cpc_tree.specs.Syntax.{Function, Program}
use Rattle.cpc_convert_common.specs.Converted.{function_item}
use Rattle.cpc_convert_routines.specs.Named.{IsCps}
use Rattle.cpc_chains_event.specs.Pieces.{spawner_function}
use Rattle.cpc_lifted_laws.specs.Accepted.Accepted.{OfAccepted}
use Rattle.cpc_chains_laws.specs.Rules.Laws.{Knows, BodyFine}

-- the body of each spawner breaks none, wherever what it names is known
abbrev pub SpawnersFine : Type 0
SpawnersFine = OfAccepted (λ p. (f : Function) → IsCps p f → (before : Program) → Knows p (before ++ function_item (spawner_function f) ∷ []) → BodyFine before (spawner_function f))
