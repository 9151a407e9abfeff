-- What a machine keeps where its store alone may differ, and what it runs.
use Rattle.std.proofs.Common.{◌≡◌, sym, ap, subst, ◌∙◌}
use Rattle.cpc_tree.specs.Erase.{Names, Table}
use Rattle.cpc_tree.specs.Syntax.{Program}
use Rattle.cpc_native.specs.declared.machine.Machine.{Machine}
use Rattle.cpc_native.specs.Runs.{Runs}
use Rattle.cpc_native.specs.Stacks.{stack_of, stack_at}
use Rattle.cpc_native.specs.Well.{IsSameBut}

-- where the store alone may differ, the stack is the same
pub same_stack : (names : Names) (old new : Machine) → IsSameBut old new → stack_of names new ≡ stack_of names old
same_stack names old new h = ap (λ fs. stack_at names fs new.arriving) h.calls ∙ ap (stack_at names old.calls.frames.items) h.arriving

-- the same of another table and program that are these
pub runs_same : (names : Names) (table other : Table) (q r : Program) → other ≡ table → r ≡ q → Runs names table q → Runs names other r
runs_same names table other q r e f h = subst (λ t. Runs names t r) (sym e) (subst (Runs names table) (sym f) h)
