-- What is known of a cps function of an accepted program, so that pieces can stand for its frames.
use Rattle.std.specs.Prelude.{◌≡◌, ◌<◌, ◌≤◌, ◌^◌, length, Some}
use Rattle.cpc_base.specs.Bytes.{Text}
use Rattle.cpc_tree.specs.Primitives.{Primitive, primitive_named}
use Rattle.cpc_tree.specs.Registers.{variables}
use Rattle.cpc_tree.specs.Syntax.{Function, Program}
use Rattle.cpc_tree.specs.Typing.{NotMeant, item_named, function_named}
use Rattle.cpc_check_laws.specs.Sound.Control.{StaysIn}
use Rattle.cpc_forms.specs.Flow.{Place}
use Rattle.cpc_forms.specs.Graph.{graph_of}
use Rattle.cpc_convert_routines.specs.Addressed.{AddressesAreBoxes, ResultsAreScalar}
use Rattle.cpc_convert_routines.specs.Named.{IsNamed, IsCps}
use Rattle.cpc_convert_routines.specs.Routines.{routine_of}

-- a cps function that is found by its name
pub record IsFound (p : Program) (g : Function) : Type 0 where
  pub cps : IsCps p g
  pub named : function_named p g.called ≡ Some g

-- names are what the conversion asks, the function is found by its name, its nodes and variables are few, no item has the name of a primitive,
-- only boxes have their addresses taken, control stays in the body, and values that are returned are scalar
pub record CpsKnown (p : Program) (f : Function) : Type 0 where
  pub names : IsNamed p
  pub found : IsFound p f
  pub few_nodes : length (graph_of p f).nodes < 2 ^ 63
  pub few_variables : length (variables f) ≤ 255
  pub primitives : (x : Text) (prim : Primitive) → primitive_named x ≡ Some prim → item_named 0 p x ≡ NotMeant
  pub addresses : AddressesAreBoxes p f
  pub stays : StaysIn f.body
  pub results : (l : Place) → ResultsAreScalar (routine_of p f) l
