-- What has to be known of the functions and the nodes of a lifted program, by texts of its names.
use Rattle.std.specs.Prelude.{◌≡◌, ℕ, suc, ◌<◌, List, [], ◌∷◌, map, length, slice_get, get_or, Option, Some, option_map, All}
use Rattle.cpc_base.specs.Bytes.{Text}
use Rattle.cpc_tree.specs.Erase.{Names, Table, in_table, type_of, function_of}
use Rattle.cpc_tree.specs.Points.{Simple}
use Rattle.cpc_tree.specs.Registers as R
use Rattle.cpc_tree.specs.Syntax.{Expr, ENamed, Exprs, Call, Variable, Program}
use Rattle.cpc_tree.specs.Typing.{function_named}
use Rattle.cpc_forms.specs.Flow.{At}
use Rattle.cpc_meaning.specs.Act.{Stood, AtStatement, AtArrival}
use Rattle.cpc_forms_code.specs.declared.boxed.Manner.TheVariants.{AsCps}
use Rattle.cpc_forms_code.specs.declared.boxed.Variable as V
use Rattle.cpc_forms_code.specs.declared.graph.Node.{Node}
use Rattle.cpc_forms_code.specs.declared.lifted.LiftedFunction.{LiftedFunction}
use Rattle.cpc_forms_code.specs.Seen.{stood_seen, AreNamed}
use Rattle.cpc_forms_code.specs.Graphs.{node_seen}
use Rattle.cpc_forms_code.specs.Lifts.{unless}
use Rattle.cpc_convert_rows.specs.Routines.{Routine, is_plain, closure_of}
use Rattle.cpc_convert_names.specs.Counted.{called_of}
use Rattle.cpc_convert_names.specs.Called.{function_in, variables_in, nodes_in}
use Rattle.cpc_convert_names.specs.Book.{find}
use Rattle.cpc_convert_names.specs.declared.called.Called.{Called}

-- ---- functions

-- a variable without its mark
abbrev pub plain_seen : Names → V.Variable → Variable
plain_seen names v = record { called = called_of names v; type = type_of names v.of.now }

-- a function with its variables reads alike by the texts of the source and by those of the event program
pub record IsAlike (from to : Names) (l : LiftedFunction) : Type 0 where
  pub function : function_of from (function_in l) ≡ function_of to (function_in l)
  pub variables : map (plain_seen from) (variables_in l) ≡ map (plain_seen to) (variables_in l)
  pub are : map (plain_seen from) (variables_in l) ≡ R.variables (function_of from (function_in l))

-- a name stands for the cps function that is found, or for no function
abbrev pub MeansFound : (from : Names) → Program → List Called → Text → Type 0
MeansFound from p cs x = function_named p x ≡ option_map (λ (c : Called). function_of from (function_in c.lifted.now)) (find from cs x)

-- ---- nodes

-- what waits, and the arrival of its value, call a name that stands for the cps function that is found, or for no function
pub record Waits (from : Names) (p : Program) (cs : List Called) (stood : Stood) : Type 0 where
  pub statement : (o : Option Expr) (f : Text) (es : Exprs) → stood ≡ AtStatement (Simple (Call o (ENamed f) es)) → MeansFound from p cs f
  pub arrival : (o : Option Expr) (f : Text) (es : Exprs) → stood ≡ AtArrival (Simple (Call o (ENamed f) es)) → MeansFound from p cs f

-- a node among so many reads alike by the texts of the source, its table, and the texts of the event program; its ways lead to nodes
pub record IsKnown (source : Table) (from to : Names) (p : Program) (cs : List Called) (count : ℕ) (n : Node) : Type 0 where
  pub texts : stood_seen from n.stood ≡ stood_seen to n.stood
  pub table : stood_seen (in_table source) n.stood ≡ stood_seen to n.stood
  pub waits : n.manner ≡ AsCps → Waits from p cs (stood_seen from n.stood)
  pub yes : (m : ℕ) → n.yes ≡ Some m → m < count
  pub no : (m : ℕ) → n.no ≡ Some m → m < count
  pub arrival : (m : ℕ) → n.arrival ≡ Some m → m < count

-- ---- routines

-- the numbers of the variables that are no registers
abbrev pub boxes_among : (k : ℕ) → List V.Variable → List ℕ
boxes_among k [] = []
boxes_among k (v ∷ vs) = unless v.is_register k (boxes_among (suc k) vs)

-- a routine is what the definitions compute of this function, with these closures
pub record IsRoutine (source : Table) (from to : Names) (p : Program) (cs : List Called) (l : LiftedFunction) (r : Routine) : Type 0 where
  pub named : AreNamed from (variables_in l)
  pub alike : IsAlike from to l
  pub function : r.function ≡ function_of from (function_in l)
  pub marks : (k : ℕ) (v : V.Variable) → slice_get (variables_in l) k ≡ Some v → v.is_register ≡ is_plain r k
  pub boxes : r.boxes ≡ boxes_among 0 (variables_in l)
  pub nodes : map (node_seen from (variables_in l)) (nodes_in l) ≡ r.split.graph.nodes
  pub leaders : r.split.leaders ≡ l.split.now.leaders.items
  pub led : All (λ n. n < length (nodes_in l)) l.split.now.leaders.items
  pub known : All (IsKnown source from to p cs (length (nodes_in l))) (nodes_in l)
  pub closures : (n : ℕ) → n < length (nodes_in l) → get_or (map (λ row. row.items) l.closures.items) (suc n) [] ≡ closure_of r (At n)
