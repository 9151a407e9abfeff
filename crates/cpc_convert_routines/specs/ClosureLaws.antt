-- That what a routine keeps is what the lifted machine keeps, as a statement.
use Rattle.std.specs.Prelude.{◌≡◌, Bool, true, false, not, List, [], is_some, Option, Some, None}
use Rattle.cpc_tree.specs.Syntax.{Function, Program}
use Rattle.cpc_forms.specs.Flow.{Place}
use Rattle.cpc_forms.specs.Split.{Split, splits, Position, InTree, InGraph, split_form}
use Rattle.cpc_lift_laws.specs.Lift as L
use Rattle.cpc_lift_laws.specs.Lift.{closure_in}
use Rattle.cpc_convert_routines.specs.Routines.{routine_of, closure_of, owner_number, keeper, position_owner, positions_from}
use Rattle.cpc_convert_routines.specs.Nodes.{is_own}
use Rattle.cpc_convert_routines.specs.Named.{IsNamed, IsCps}

-- the positions of a split graph, where there is one
abbrev pub positions_where : Option Split → List Position
positions_where None = []
positions_where (Some s) = positions_from 0 s.owners

-- whether code may stand at a position: in trees where there is no graph, and else at a node in the piece of its owner
abbrev pub may_stand : Option Split → Position → Bool
may_stand None (InTree point) = true
may_stand None (InGraph l n) = false
may_stand (Some s) (InTree point) = false
may_stand (Some s) (InGraph l n) = is_own s l n

-- a program as it is lifted: the nodes of its cps functions with their owners; other functions are whole
abbrev pub lifting : Program → L.Split Position
lifting p = record {
  there = λ x. may_stand (splits p x);
  owner = λ x. position_owner;
  nodes = λ x. positions_where (splits p x);
  whole = λ x. not (is_some (splits p x));
}

-- the closures of a routine are those of the lifted program
abbrev pub ClosuresAreLifted : Type 0
ClosuresAreLifted = (p : Program) → IsNamed p → (f : Function) → IsCps p f → (l : Place) → closure_of (routine_of p f) l ≡ closure_in (split_form p) (lifting p) f.called (owner_number (keeper (routine_of p f).split l))
