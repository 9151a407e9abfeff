-- What is asked of the addresses and of the results of a cps function.
use Rattle.std.specs.Prelude.{◌≡◌, ℕ, Bool, true, false, ◌&&◌, slice_get, Option, Some, None}
use Rattle.cpc_base.specs.Bytes.{Text}
use Rattle.cpc_tree.specs.Syntax.{Stmt, Declare, Assign, Call, Detach, Spawn, Return, Function, Program}
use Rattle.cpc_tree.specs.Points.{Found, Simple, Test, Nothing}
use Rattle.cpc_tree.specs.Typing.{is_scalar}
use Rattle.cpc_meaning.specs.Act.{Stood, AtStatement, AtArrival, AtEnd}
use Rattle.cpc_convert_common.specs.Marks.{has_marks}
use Rattle.cpc_convert_image_laws.specs.Images.{Reading, AsLocal, AsField}
use Rattle.cpc_forms.specs.Graph.{Node, graph_of}
use Rattle.cpc_forms.specs.Flow.{Place}
use Rattle.cpc_convert_flat_laws.specs.Addresses.{avoids, avoids_all, avoids_if}
use Rattle.cpc_convert_routines.specs.Routines.{Routine, routine_of, readings_of}
use Rattle.cpc_convert_routines.specs.Nodes.{rows_nodes}
use Rattle.cpc_convert_routines.specs.Taken.{any_node, is_result}

-- whether a name that is read so may not have an address: a register has none, nor has what no item is called
abbrev pub bars : Option Reading → Text → Bool
bars None x = has_marks x
bars (Some (AsLocal y)) x = true
bars (Some (AsField y f)) x = false

-- no `&` is applied in a simple statement to one of these names
abbrev pub avoids_simple : (Text → Bool) → Stmt → Bool
avoids_simple L (Declare x t start) = avoids_if L start
avoids_simple L (Assign e op v) = avoids L e && avoids L v
avoids_simple L (Call to f es) = avoids_if L to && (avoids L f && avoids_all L es)
avoids_simple L (Detach to f es) = avoids_if L to && avoids_all L es
avoids_simple L (Spawn f es) = avoids_all L es
avoids_simple L (Return v) = avoids_if L v
avoids_simple L s = true

-- nor in what stands at a node
abbrev pub avoids_found : (Text → Bool) → Found → Bool
avoids_found L (Simple s) = avoids_simple L s
avoids_found L (Test t) = avoids_if L t
avoids_found L Nothing = true

abbrev pub avoids_stood : (Text → Bool) → Stood → Bool
avoids_stood L (AtStatement x) = avoids_found L x
avoids_stood L (AtArrival x) = avoids_found L x
avoids_stood L AtEnd = true

-- `&` is applied to boxes, globals and functions alone
abbrev pub AddressesAreBoxes : Program → Function → Type 0
AddressesAreBoxes p f = (n : ℕ) (node : Node) → slice_get (graph_of p f).nodes n ≡ Some node → avoids_stood (λ x. bars (readings_of (routine_of p f) node.scope x) x) node.stood ≡ true

-- where a function returns values, they are scalar
abbrev pub ResultsAreScalar : Routine → Place → Type 0
ResultsAreScalar r l = any_node r (λ node. is_result node.stood) (rows_nodes r.split l) ≡ true → is_scalar r.function.result ≡ true
