-- A cps function with what is computed of it, and in which locals its variables stand.
use Rattle.std.specs.Prelude.{ℕ, zero, suc, Bool, true, false, not, List, [], ◌∷◌, map, length, slice_get, Option, Some, None, nat_lt}
use Rattle.cpc_tree.specs.Lists.{holds_number}
use Rattle.cpc_tree.specs.Syntax.{TyVoid, Variable, Function, Program}
use Rattle.cpc_tree.specs.Typing.{Scope, is_scalar}
use Rattle.cpc_tree.specs.Registers.{variables}
use Rattle.cpc_meaning.specs.Ways.{ways}
use Rattle.cpc_convert_image_laws.specs.Images.{Readings}
use Rattle.cpc_convert_image_laws.specs.Locals.{readings_in, local_type}
use Rattle.cpc_forms.specs.Graph.{graph_of}
use Rattle.cpc_forms.specs.Flow.{Place, Start, At}
use Rattle.cpc_forms.specs.Split.{Split, split_of, owner_or}
pub use Rattle.cpc_forms.specs.Split.{owner_number, position_owner, positions_from, code_of, number_if as number_before}
use Rattle.cpc_lift_laws.specs.Search.{Link, closure}
use Rattle.cpc_lift_laws.specs.Nodes.{ways_of_nodes, uses_of_nodes}
use Rattle.cpc_lift_laws.specs.Lift.{boxes}
use Rattle.cpc_convert_routines.specs.Names.{box_tag, variable_name}

-- ---- what is computed

-- a cps function, its graph with its owners, the numbers of its variables that are boxes, and the ways and the uses of its owners
pub record Routine : Type 0 where
  pub function : Function
  pub split : Split
  pub boxes : List ℕ
  pub ways : List Link
  pub uses : List Link

-- a function with this graph and these boxes
abbrev pub routine_with : Program → Function → Split → List ℕ → Routine
routine_with p f s bs = record {
  function = f;
  split = s;
  boxes = bs;
  ways = ways_of_nodes (code_of p s) f.called position_owner (positions_from 0 s.owners);
  uses = uses_of_nodes (code_of p s) f.called position_owner bs (positions_from 0 s.owners);
}

-- a cps function of a program
abbrev pub routine_of : Program → Function → Routine
routine_of p f = routine_with p f (split_of (graph_of p f)) (boxes p f.called)

-- the owner whose variables an owner keeps: its own; a start that owns nothing, since the first node leads, keeps those of that leader
abbrev pub keeper : Split → Place → Place
keeper s Start = owner_or Start (slice_get s.owners s.graph.entry)
keeper s (At n) = At n

-- the variables that the frames of an owner keep, in order
abbrev pub closure_of : Routine → Place → List ℕ
closure_of r l = closure r.ways r.uses (length (variables r.function)) (owner_number (keeper r.split l))

-- ---- variables

-- whether a variable is a register
abbrev pub is_plain : Routine → ℕ → Bool
is_plain r k = not (holds_number r.boxes k)

-- how the names of a scope are read
abbrev pub readings_of : Routine → Scope → Readings
readings_of r scope = readings_in (is_plain r) variable_name scope

-- a variable that may be absent
abbrev pub variable_or : Option Variable → Variable
variable_or None = record { called = []; type = TyVoid }
variable_or (Some x) = x

-- a variable in its local: called by its name and its number, a register of its type, a box a pointer to the struct of the box
abbrev pub stood_variable : Routine → ℕ → Variable → Variable
stood_variable r k x = record { called = variable_name k x.called; type = local_type (is_plain r k) x.type (box_tag r.function.called k) }

-- the variable of a number
abbrev pub variable_of : Routine → ℕ → Variable
variable_of r k = variable_or (slice_get (variables r.function) k)

-- the variable of a number, in its local
abbrev pub local_of : Routine → ℕ → Variable
local_of r k = stood_variable r k (variable_of r k)

-- these variables, in their locals
abbrev pub locals_of : Routine → List ℕ → List Variable
locals_of r ks = map (local_of r) ks

-- ---- parameters

-- a variable before others, where it is so
abbrev pub variable_if : Bool → Variable → List Variable → List Variable
variable_if true x rest = x ∷ rest
variable_if false x rest = rest

-- these parameters, the first of which is the k-th, as they are passed: under the names of their locals. No value of a struct type is passed
abbrev pub passed_from : (k : ℕ) → (count : ℕ) → List Variable → List Variable
passed_from k zero xs = []
passed_from k (suc n) [] = []
passed_from k (suc n) (x ∷ xs) = variable_if (is_scalar x.type) (record { called = variable_name k x.called; type = x.type }) (passed_from (suc k) n xs)

-- the parameters of a function, as they are passed
abbrev pub passed : Function → List Variable
passed f = passed_from 0 (length f.parameters) (variables f)

-- whether a variable is a parameter
abbrev pub is_parameter : Function → ℕ → Bool
is_parameter f k = nat_lt k (length f.parameters)

-- those of these numbers of which a test holds
abbrev pub chosen : (ℕ → Bool) → List ℕ → List ℕ
chosen test [] = []
chosen test (k ∷ ks) = number_before (test k) k (chosen test ks)
