use Rattle.std.proofs.Common.{◌≡◌, ◌++◌, ◌≤◌, drop, take, length}
use Rattle.cpc_tree.specs.Erase.{Names, list_of}
use Rattle.cpc_tree.specs.Points.{locals_in, extended_all}
use Rattle.cpc_tree.specs.Registers.{addresses_in}
use Rattle.cpc_eval_variables.specs.Told.{IsTold}
use Rattle.cpc_eval_variables.specs.Scoped.{scope_of}
use Rattle.cpc_eval_variables.specs.Typed.{types_in, types_of}
use Rattle.cpc_eval_variables.proofs.walk.Walk.+walked.Given as goal

-- with what is left, all of the row is walked through
abbrev pub invariant-row-loop-s : goal.invariant-row-loop-s
invariant-row-loop-s l = record {
  before : l.n ≤ length l.self.types.items;
  parameters : l.self.scope.parameters.now ≡ l.initial.self.scope.parameters.now;
  kept : take (length l.initial.self.scope.locals.items) l.self.scope.locals.items ≡ l.initial.self.scope.locals.items;
  counted : take (length l.initial.self.types.items) l.self.types.items ≡ l.initial.self.types.items;
  scope : (names : Names) → extended_all (scope_of names l.self.scope) l.n (list_of names (drop l.s-index l.row)) ≡ extended_all (scope_of names l.initial.self.scope) l.initial.n (list_of names l.row);
  types : (names : Names) → types_of names l.self.types.items ++ types_in (locals_in (list_of names (drop l.s-index l.row))) ≡ types_of names l.initial.self.types.items ++ types_in (locals_in (list_of names l.row));
  addressed : (names : Names) → IsTold names l.initial.self.scope.parameters.now
      → l.self.addressed.items ++ addresses_in (scope_of names l.self.scope) l.n (list_of names (drop l.s-index l.row)) ≡ l.initial.self.addressed.items ++ addresses_in (scope_of names l.initial.self.scope) l.initial.n (list_of names l.row);
}
