-- The names of what is made of a cps function, by their texts.
use Rattle.std.specs.Prelude.{◌≡◌, List, map, length}
use Rattle.cpc_base.specs.Bytes.{Text}
use Rattle.cpc_tree.specs.Erase.{Names, Table, in_table, text_of}
use Rattle.cpc_tree.specs.declared.program.Function.{Function}
use Rattle.cpc_forms_code.specs.declared.boxed.Variable.{Variable}
use Rattle.cpc_forms_code.specs.declared.graph.Node.{Node}
use Rattle.cpc_forms_code.specs.declared.lifted.LiftedFunction.{LiftedFunction}
use Rattle.cpc_convert_common.specs.Converted.{spawner_name}
use Rattle.cpc_convert_routines.specs.Names.{start_name, leader_name, value_tag, box_tag, node_label}
use Rattle.cpc_convert_names.specs.Counted.{counted, called_of, locals_from}
use Rattle.cpc_convert_names.specs.declared.called.Called.{Called}

-- ---- the parts of a lifted function

-- the function
abbrev pub function_in : LiftedFunction → Function
function_in l = l.split.now.graph.now.boxed.now.function.now

-- its variables
abbrev pub variables_in : LiftedFunction → List Variable
variables_in l = l.split.now.graph.now.boxed.now.variables.items

-- its nodes
abbrev pub nodes_in : LiftedFunction → List Node
nodes_in l = l.split.now.graph.now.nodes.items

-- ---- its names

-- the text of its name
abbrev pub name_in : Names → LiftedFunction → Text
name_in to l = to (function_in l).word.name

-- the names of a function; a piece and a label for each node, whether it is a leader or not, and a tag for each variable, as if it were a box
pub record AreCalled (to : Names) (c : Called) : Type 0 where
  pub spawner : to c.spawner ≡ spawner_name (name_in to c.lifted.now)
  pub start : to c.start ≡ start_name (name_in to c.lifted.now)
  pub value : to c.value ≡ value_tag (name_in to c.lifted.now)
  pub pieces : map (text_of to) c.pieces.items ≡ counted (leader_name (name_in to c.lifted.now)) 0 (length (nodes_in c.lifted.now))
  pub labels : map (text_of to) c.labels.items ≡ counted node_label 0 (length (nodes_in c.lifted.now))
  pub locals : map (text_of to) c.locals.items ≡ locals_from to 0 (variables_in c.lifted.now)
  pub tags : map (text_of to) c.tags.items ≡ counted (box_tag (name_in to c.lifted.now)) 0 (length (variables_in c.lifted.now))

-- the names of a function and of its variables are in a table as these texts have them
pub record IsNamed (source : Table) (to : Names) (l : LiftedFunction) : Type 0 where
  pub function : in_table source (function_in l).word.name ≡ to (function_in l).word.name
  pub variables : map (called_of (in_table source)) (variables_in l) ≡ map (called_of to) (variables_in l)
