-- What holds of graphs and of split graphs, as statements.
use Rattle.std.specs.Prelude.{◌≡◌, ◌↔◌, ℕ, ◌<◌, Bool, true, false, ◌||◌, nat_le, [], length, slice_get, Option, Some, None}
use Rattle.cpc_tree.specs.Syntax.{Stmt, Function, Program}
use Rattle.cpc_tree.specs.Points.{Path, Point, Here, Arrival, Found, begin}
use Rattle.cpc_tree.specs.Lists.{holds_number}
use Rattle.cpc_tree.specs.Trace.{is_over}
use Rattle.cpc_meaning_matching.specs.Simulation.{one, Follows}
use Rattle.cpc_meaning.specs.Act.{AtStatement}
use Rattle.cpc_meaning.specs.Ways.{ByFrame, AsCps, manner_at, ways}
use Rattle.cpc_meaning.specs.Trees.{trees}
use Rattle.cpc_meaning.specs.Matching.{thread_system}
use Rattle.cpc_forms.specs.Order.{is_in, number_of}
use Rattle.cpc_forms.specs.Graph.{Node, graph_of, graph_form}
use Rattle.cpc_forms.specs.Flow.{Place, Start, At, Flow, Inside, flow_of, exits, goes_to, sources, is_leader, is_owner, owner_of, owner_by}
use Rattle.cpc_forms.specs.Split.{leaders_from, split_form}
use Rattle.cpc_forms.specs.Table.{table_graph}
use Rattle.cpc_forms.specs.Marks.{counted, Marks}
use Rattle.cpc_forms.specs.Control as C

-- threads over the graphs of a program's cps functions match those over its text, step by step
abbrev pub GraphsFollow : Type 0
GraphsFollow = (p : Program) → Follows is_over (thread_system (ways p)) (thread_system (graph_form p)) one one

-- threads over the split graphs match those over the graphs, step by step
abbrev pub SplitsFollow : Type 0
SplitsFollow = (p : Program) → Follows is_over (thread_system (graph_form p)) (thread_system (split_form p)) one one

-- ---- leaders and owners

-- the place of a node of control
abbrev pub place_of : Stmt → C.Node → Place
place_of body C.Entry = Start
place_of body (C.At point) = At (number_of body point)

-- whether something stands at a node of control
abbrev pub is_node : Stmt → C.Node → Bool
is_node body C.Entry = true
is_node body (C.At point) = is_in body point

-- the flow of the graph of a function
abbrev pub flow_in : Program → Function → Flow
flow_in p f = flow_of (graph_of p f)

-- control goes from a node to a point just where it goes from its place to the number of the point
abbrev pub WaysAreWays : Type 0
WaysAreWays =
    (p : Program) (f : Function) (a : C.Node) (point : Point) → is_node f.body a ≡ true → is_in f.body point ≡ true
    → (goes_to (flow_in p f) (place_of f.body a) (number_of f.body point) ≡ true) ↔ C.Goes p f a point

-- the leaders that are computed are the leaders
abbrev pub LeadersAreLeaders : Type 0
LeadersAreLeaders =
    (p : Program) (f : Function) (point : Point) → is_in f.body point ≡ true
    → (is_leader (flow_in p f) (number_of f.body point) ≡ true) ↔ C.IsLeader p f point

-- the owner that is computed is the owner; what has no owner has none computed
abbrev pub OwnersAreOwners : Type 0
OwnersAreOwners =
    (p : Program) (f : Function) (l : C.Node) (point : Point) → is_node f.body l ≡ true → is_in f.body point ≡ true
    → (owner_of (flow_in p f) (number_of f.body point) ≡ Some (place_of f.body l)) ↔ C.Owns p f l point

-- ---- what later passes ask of graphs

-- the value of a call that is left over a frame arrives where no other way leads, in the piece of the call
abbrev pub ArrivalsStay : Type 0
ArrivalsStay =
    (p : Program) (f : Function) (n m : ℕ) (node : Node) → slice_get (graph_of p f).nodes n ≡ Some node → node.manner ≡ ByFrame → node.arrival ≡ Some m
    → ((a : Place) → goes_to (flow_in p f) a m ≡ true → a ≡ At n) × (is_leader (flow_in p f) m ≡ false) × (owner_of (flow_in p f) m ≡ owner_of (flow_in p f) n)

-- from a cps statement control goes nowhere; its value arrives where no way leads, at a leader
abbrev pub CpsStatementsWait : Type 0
CpsStatementsWait =
    (p : Program) (f : Function) (n : ℕ) (node : Node) (x : Found) → slice_get (graph_of p f).nodes n ≡ Some node → node.stood ≡ AtStatement x → node.manner ≡ AsCps
    → (node.yes ≡ None) × (node.no ≡ None) × (exits node ≡ [])
    × ((m : ℕ) × (node.arrival ≡ Some m) × (sources (flow_in p f) m ≡ []) × (is_leader (flow_in p f) m ≡ true) × (owner_of (flow_in p f) m ≡ Some (At m)))

-- a way from what l owns leads to a leader, which owns itself, or stays with l
abbrev pub WaysStayOrLead : Type 0
WaysStayOrLead =
    (p : Program) (f : Function) (n m : ℕ) (node : Node) (l : Place) → slice_get (graph_of p f).nodes n ≡ Some node → owner_of (flow_in p f) n ≡ Some l → holds_number (exits node) m ≡ true
    → (m < length (graph_of p f).nodes) × (owner_of (flow_in p f) m ≡ Some (owner_by (is_leader (flow_in p f) m) l m))

-- a function begins at its first node, and the start leads to that node alone
abbrev pub EntriesAreFirst : Type 0
EntriesAreFirst =
    (p : Program) (f : Function)
    → ((graph_of p f).entry ≡ 0) × (0 < length (graph_of p f).nodes) × ((n : ℕ) → goes_to (flow_in p f) Start n ≡ true → n ≡ 0)
    × (owner_of (flow_in p f) 0 ≡ Some (owner_by (is_leader (flow_in p f) 0) Start 0))

-- an owner is the start or a leader, which is a node and owns itself
abbrev pub OwnersLead : Type 0
OwnersLead =
    (p : Program) (f : Function)
    → ((n : ℕ) (l : Place) → owner_of (flow_in p f) n ≡ Some l → is_owner (flow_in p f) l ≡ true)
    × ((n : ℕ) → is_leader (flow_in p f) n ≡ true → (n < length (graph_of p f).nodes) × (owner_of (flow_in p f) n ≡ Some (At n)))

-- ---- in one

-- threads over the split graphs match those over the ways of the text, and those over the text, step by step
abbrev pub PositionsFollow : Type 0
PositionsFollow =
    (p : Program)
    → Follows is_over (thread_system (ways p)) (thread_system (split_form p)) one one × Follows is_over (thread_system (trees p)) (thread_system (split_form p)) one one

-- ---- what code makes

-- the graph that is made by recursion over the statements is the graph
abbrev pub TablesAreGraphs : Type 0
TablesAreGraphs = (p : Program) (f : Function) → graph_of p f ≡ table_graph p f

-- a node is a leader where control resumes there, or where two of the start and the nodes lead there, counted in order
abbrev pub LeadersAreCounted : Type 0
LeadersAreCounted = (flow : Flow) (n : ℕ) → is_leader flow n ≡ (flow.resumes n || nat_le 2 (counted flow n flow.size))

-- a leader owns itself, and control goes to a leader or stays with the owner
abbrev pub OwnersGoOn : Type 0
OwnersGoOn =
    (flow : Flow) → Inside flow
    → ((n : ℕ) → is_leader flow n ≡ true → owner_of flow n ≡ Some (At n))
    × ((n : ℕ) → goes_to flow Start n ≡ true → owner_of flow n ≡ Some (owner_by (is_leader flow n) Start n))
    × ((n m : ℕ) (l : Place) → owner_of flow n ≡ Some l → goes_to flow (At n) m ≡ true → owner_of flow m ≡ Some (owner_by (is_leader flow m) l m))

-- marks that cannot be continued, of which none is wrong, are the owners
abbrev pub MarksAreOwners : Type 0
MarksAreOwners = (flow : Flow) (mark : ℕ → Option Place) → Marks flow mark → (n : ℕ) → mark n ≡ owner_of flow n

-- the list of the leaders holds them
abbrev pub LeadersAreListed : Type 0
LeadersAreListed = (flow : Flow) → Inside flow → (n : ℕ) → holds_number (leaders_from flow 0 flow.size) n ≡ is_leader flow n

-- ---- what is reached

-- control comes to a point, from the entry or when a wait ends
pub data Reached (p : Program) (f : Function) : Point → Type 0 where
  Begins : Reached p f (begin f.body)
  GoesOn : (a b : Point) → Reached p f a → C.Goes p f (C.At a) b → Reached p f b
  Resumes : (path : Path) → Reached p f (Here path) → C.IsThere f path → manner_at p f path ≡ AsCps → Reached p f (Arrival path)

-- what control comes to has an owner
abbrev pub ReachedIsOwned : Type 0
ReachedIsOwned = (p : Program) (f : Function) (point : Point) → Reached p f point → (l : C.Node) × C.Owns p f l point
