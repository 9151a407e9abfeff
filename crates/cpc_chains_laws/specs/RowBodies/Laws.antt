-- The rows of the pieces of a program, their bodies, and the whole event program, as statements.
use Rattle.std.specs.Prelude.{◌<◌, ◌^◌, length}
use Rattle.cpc_tree.specs.Syntax.{Function, Program}
use Rattle.cpc_chains_laws.specs.Complete.Flat.{Distinct, AllOf, labels_of, gotos_of}
use Rattle.cpc_forms.specs.Flow.{Place}
use Rattle.cpc_forms.specs.Graph.{graph_of}
use Rattle.cpc_convert_routines.specs.Named.{IsOwner}
use Rattle.cpc_convert_routines.specs.Routines.{routine_of}
use Rattle.cpc_chains_event.specs.Rows.{piece_statements}
use Rattle.cpc_lifted_laws.specs.Accepted.Accepted.{OfAccepted}
use Rattle.cpc_chains_laws.specs.Rules.Laws.{BodiesFine, Unbroken}

-- no two labels of a piece are one
abbrev pub LabelsStandOnce : Type 0
LabelsStandOnce = (p : Program) (f : Function) (l : Place) → length (graph_of p f).nodes < 2 ^ 63 → Distinct (labels_of (piece_statements p (routine_of p f) l))

-- each goto of a piece leads to a label in it
abbrev pub GotosLead : Type 0
GotosLead = (p : Program) (f : Function) (l : Place) → IsOwner (routine_of p f) l → AllOf (labels_of (piece_statements p (routine_of p f) l)) (gotos_of (piece_statements p (routine_of p f) l))

-- the bodies of what is made of an accepted program break no rule, wherever what they name is known
abbrev pub BodiesAreFine : Type 0
BodiesAreFine = OfAccepted BodiesFine

-- an accepted program is converted to a program that breaks no rule of the dialect Event, at whatever places it stands
abbrev pub ConvertedUnbroken : Type 0
ConvertedUnbroken = OfAccepted Unbroken
