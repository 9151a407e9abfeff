-- The rows of a piece: the lines of each node that its owner owns, and those that go to another leader, each behind a label of its number.
use Rattle.std.specs.Prelude.{ℕ, Bool, true, false, not, ◌||◌, ◌&&◌, ◌==◌, if◌then◌else◌, List, [], ◌∷◌, ◌++◌, map, slice_get, Option, Some, None}
use Rattle.cpc_base.specs.Bytes.{Text}
use Rattle.cpc_tree.specs.Lists.{holds_number}
use Rattle.cpc_tree.specs.Syntax.{Expr, Stmt, Empty, If, Goto, Label, Absent, Program}
use Rattle.cpc_meaning.specs.Ways.{Manner, ByFrame}
use Rattle.cpc_forms.specs.Graph.{Node, at_node}
use Rattle.cpc_forms.specs.Flow.{Place, At, as_list}
use Rattle.cpc_forms.specs.Pieces.{first_of}
pub use Rattle.cpc_forms.specs.Pieces.{is_next}
use Rattle.cpc_convert_routines.specs.Names.{to_name, node_label}
use Rattle.cpc_convert_routines.specs.Routines.{Routine, chosen}
use Rattle.cpc_chains_event.specs.Lines.{Line, Does, Goes, Tests, Passes, frame_lines, hands_over, node_lines, all_do, behind_arrival}
pub use Rattle.cpc_convert_routines.specs.Nodes.{is_own, stands_with, has_row, rows_nodes}
pub use Rattle.cpc_forms.specs.Spread.{known as owner_at}

-- ---- the leaders to which a piece goes

-- where control goes on behind a call that is left over a frame
abbrev pub behind_call : Routine → Manner → Option ℕ → Option ℕ
behind_call r ByFrame a = behind_arrival r a
behind_call r manner a = None

-- where control goes on behind the lines of a node
abbrev pub onwards : Routine → Node → List ℕ
onwards r node = as_list node.yes ++ (as_list node.no ++ as_list (behind_call r node.manner node.arrival))

-- the same, of a list of nodes
abbrev pub onwards_all : Routine → List ℕ → List ℕ
onwards_all r [] = []
onwards_all r (n ∷ ns) = at_node [] (onwards r) (slice_get r.split.graph.nodes n) ++ onwards_all r ns

-- where a piece goes: to where its owner begins, and on from its nodes
abbrev pub reached : Routine → Place → List ℕ
reached r l = first_of r.split l ∷ onwards_all r (rows_nodes r.split l)

-- the leaders among these that are not its own, in their order
abbrev pub stubs_of : Routine → Place → List ℕ
stubs_of r l = chosen (λ n. holds_number (reached r l) n && not (is_own r.split l n)) r.split.leaders

-- ---- rows

-- a row: the lines behind one label, with the number of a node of the piece, or of the leader to which they go
pub record Row : Type 0 where
  pub number : ℕ
  pub lines : List Line

-- the lines that go to a leader: its frame, given to the driver
abbrev pub stub_lines : Routine → ℕ → List Line
stub_lines r n = all_do (frame_lines r to_name (At n) ++ (hands_over to_name ∷ []))

-- the lines of a number: those of a node of the piece, or those that go to a leader
abbrev pub lines_by : (is_own : Bool) → Program → Routine → ℕ → List Line
lines_by true p r n = at_node [] (node_lines p r) (slice_get r.split.graph.nodes n)
lines_by false p r n = stub_lines r n

-- the row of a number in the piece of l
abbrev pub row_of : Program → Routine → Place → ℕ → Row
row_of p r l n = record { number = n; lines = lines_by (is_own r.split l n) p r n }

-- where control falls behind lines
abbrev pub falls_to : Line → Option ℕ
falls_to (Goes n) = Some n
falls_to (Passes n) = Some n
falls_to x = None

abbrev pub falls : List Line → Option ℕ
falls [] = None
falls (x ∷ []) = falls_to x
falls (x ∷ y ∷ xs) = falls (y ∷ xs)

-- a number, where it is so
abbrev pub number_where : Bool → ℕ → List ℕ
number_where true n = n ∷ []
number_where false n = []

-- the one of these leaders that stands behind lines which fall to it, unless it has a place already
abbrev pub stub_behind : (stubs placed : List ℕ) → (falls : Option ℕ) → List ℕ
stub_behind stubs placed None = []
stub_behind stubs placed (Some n) = number_where (holds_number stubs n && not (holds_number placed n)) n

-- nodes, each with the leader behind it to which it is the first to fall; some of these leaders have a place already
abbrev pub numbers_from : Program → Routine → Place → (stubs placed : List ℕ) → List ℕ → List ℕ
numbers_from p r l stubs placed [] = []
numbers_from p r l stubs placed (n ∷ ns) =
    n ∷ (stub_behind stubs placed (falls (row_of p r l n).lines) ++ numbers_from p r l stubs (stub_behind stubs placed (falls (row_of p r l n).lines) ++ placed) ns)

-- these numbers, and then the leaders that are not among them
abbrev pub completed : (stubs : List ℕ) → List ℕ → List ℕ
completed stubs ns = ns ++ chosen (λ n. not (holds_number ns n)) stubs

-- the numbers of a piece's rows: its nodes, each leader to which it goes behind the first node that falls to it, and then the other leaders
abbrev pub numbers_of : Program → Routine → Place → List ℕ
numbers_of p r l = completed (stubs_of r l) (numbers_from p r l (stubs_of r l) [] (rows_nodes r.split l))

-- the rows of a piece
abbrev pub rows_of : Program → Routine → Place → List Row
rows_of p r l = map (row_of p r l) (numbers_of p r l)

-- ---- ways

-- a line whose ways are known
pub data Put : Type 0 where
  Plain : Stmt → Put
  Jump : ℕ → Put
  JumpIf : Expr → ℕ → Put

-- a line before this number
abbrev pub put_line : (following : Option ℕ) → Line → List Put
put_line o (Does x) = Plain x ∷ []
put_line o (Goes n) = if is_next n o then [] else Jump n ∷ []
put_line o (Tests e n) = JumpIf e n ∷ []
put_line o (Passes n) = if is_next n o then Plain Empty ∷ [] else Jump n ∷ []

-- lines before this number
abbrev pub put_lines : (following : Option ℕ) → List Line → List Put
put_lines o [] = []
put_lines o (x ∷ xs) = put_line o x ++ put_lines o xs

-- a row whose ways are known
pub record PutRow : Type 0 where
  pub number : ℕ
  pub puts : List Put

-- the number of the first of these rows
abbrev pub first_number : List Row → Option ℕ
first_number [] = None
first_number (r ∷ rs) = Some r.number

-- rows, each before the next
abbrev pub put_rows : List Row → List PutRow
put_rows [] = []
put_rows (r ∷ rs) = record { number = r.number; puts = put_lines (first_number rs) r.lines } ∷ put_rows rs

-- ---- labels

-- whether a line goes to this number
abbrev pub leads : ℕ → Put → Bool
leads n (Plain x) = false
leads n (Jump m) = m == n
leads n (JumpIf e m) = m == n

-- whether one of these does
abbrev pub any_leads : ℕ → List Put → Bool
any_leads n [] = false
any_leads n (x ∷ xs) = leads n x || any_leads n xs

-- whether a line of one of these rows does
abbrev pub is_wanted : ℕ → List PutRow → Bool
is_wanted n [] = false
is_wanted n (r ∷ rs) = any_leads n r.puts || is_wanted n rs

-- a line as a statement
abbrev pub put_statement : Put → Stmt
put_statement (Plain x) = x
put_statement (Jump n) = Goto (node_label n)
put_statement (JumpIf e n) = If e (Goto (node_label n)) Absent

-- a label before the first of these, where it is wanted
abbrev pub label_if : (is_wanted : Bool) → Text → List Stmt → List Stmt
label_if true l (s ∷ ss) = Label l s ∷ ss
label_if b l ss = ss

-- the statements of a row, among all rows of its piece
abbrev pub row_statements : List PutRow → PutRow → List Stmt
row_statements all r = label_if (is_wanted r.number all) (node_label r.number) (map put_statement r.puts)

-- those of these rows
abbrev pub rows_statements : (all : List PutRow) → List PutRow → List Stmt
rows_statements all [] = []
rows_statements all (r ∷ rs) = row_statements all r ++ rows_statements all rs

-- the statements of a piece behind its opening
abbrev pub piece_statements : Program → Routine → Place → List Stmt
piece_statements p r l = rows_statements (put_rows (rows_of p r l)) (put_rows (rows_of p r l))
