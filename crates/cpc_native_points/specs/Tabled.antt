-- What a table says of the labels of a body.
use Rattle.std.specs.Prelude.{◌≡◌, ℕ, ◌≤◌, length, List, [], ◌∷◌, ◌++◌, Option, Some, None, option_map, slice_get, nat_eq}
use Rattle.std.specs.HashMap as hash
use Rattle.cpc_base.specs.Bytes.{Text}
use Rattle.cpc_base.specs.declared.names.Name.{Name}
pub use Rattle.cpc_base.specs.Lists.{or_place, IsBefore}
use Rattle.cpc_tree.specs.declared.program.Statement.{Statement}
use Rattle.cpc_tree.specs.Erase.{Names, stmt_of}
use Rattle.cpc_tree.specs.Syntax.{Stmt, Present}
use Rattle.cpc_tree.specs.Points.{Path, enter, labelled, or_else}
use Rattle.cpc_check_rules.specs.Apart.{AreApart}
use Rattle.cpc_native_points.specs.declared.labels.BodyTable.{BodyTable}
use Rattle.cpc_native_points.specs.declared.parts.Part.{Part}
use Rattle.cpc_native_points.specs.declared.table.Node.{Node}
use Rattle.cpc_native_points.specs.declared.table.Table.{Table}
use Rattle.cpc_native_points.specs.Depth.{capped, depth}
use Rattle.cpc_native_points.specs.Parts.{statement_at}
use Rattle.cpc_native_points.specs.Seen.{path_of}

-- the number of what the label of a name is put before
abbrev pub place_at : Table → ℕ → Option ℕ
place_at t x = hash.get nat_eq t.places x

-- ---- ways

-- the parts to take to a statement, from the body on
pub data IsWay (nodes : List Node) : Option ℕ → List Part → Type 0 where
  AtBody : IsWay nodes None []
  AtNode : (k : ℕ) (n : Node) (way : List Part) → slice_get nodes k ≡ Some n → IsBefore n.above k → IsWay nodes n.above way → IsWay nodes (Some k) (way ++ n.part ∷ [])

-- there is a way, which has no more parts than there is room for
pub record HasWay (nodes : List Node) (at : Option ℕ) (room : ℕ) : Type 0 where
  pub way : List Part
  pub is : IsWay nodes at way
  pub fits : length way ≤ room

-- each way of a table is one of the other
abbrev pub Grows : Table → Table → Type 0
Grows old new = (at : Option ℕ) (way : List Part) → IsWay old.nodes.items at way → IsWay new.nodes.items at way

-- ---- labels

-- a label of a body leads to where the statement of this number begins
pub record IsLed (body : Stmt) (nodes : List Node) (number : ℕ) (o : Option Path) : Type 0 where
  pub way : List Part
  pub is : IsWay nodes (Some number) way
  pub inner : Stmt
  pub there : statement_at body (path_of way) ≡ Present inner
  pub whole : o ≡ Some (path_of way ++ enter inner)

abbrev pub LeadsTo : Stmt → List Node → Option ℕ → Option Path → Type 0
LeadsTo body nodes None o = o ≡ None
LeadsTo body nodes (Some number) o = IsLed body nodes number o

-- where the table says that the label of a name leads in a body
abbrev pub Tells : Stmt → Table → Name → Option Path → Type 0
Tells body t x o = LeadsTo body t.nodes.items (place_at t x.0) o

-- the path behind a way
abbrev pub under_way : List Part → Option Path → Option Path
under_way way o = option_map (λ (p : Path). path_of way ++ p) o

-- labels in a statement were added behind those that there were, whatever the body is in which it stands at the number
abbrev pub Gathers : Names → Table → Table → Option ℕ → Stmt → (Text → Option Path) → Type 0
Gathers names old new at s label = (body : Stmt) (way : List Part) → IsWay old.nodes.items at way → statement_at body (path_of way) ≡ Present s
    → (x : Name) (o : Option Path) → Tells body old x o → Tells body new x (or_else o (under_way way (label (names x))))

-- a table of the labels of a body
pub record AreLabels (body : Statement) (t : Table) : Type 0 where
  pub each : (names : Names) → AreApart names → (x : Name) → Tells (stmt_of names body) t x (labelled (names x) (stmt_of names body))

-- the table has the labels of a body, and says how deep it is
pub record IsBodyTable (body : Statement) (t : BodyTable) : Type 0 where
  pub labels : AreLabels body t.table
  pub deep : (names : Names) → t.depth ≡ capped (depth (stmt_of names body))
