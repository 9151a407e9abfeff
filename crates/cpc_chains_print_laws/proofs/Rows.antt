-- The rows of a piece can be printed: each of its numbers is small, and each line.
use Rattle.std.proofs.Common.{◌≡◌, ℕ, ◌+◌, ◌≤◌, ◌<◌, ◌^◌, Bool, true, false, if◌then◌else◌, List, [], ◌∷◌, ◌++◌, map, length, slice_get, Option, Some, None, refl}
use Rattle.cpc_base.specs.Bytes.{Text}
use Rattle.cpc_tree.specs.Registers.{variables}
use Rattle.cpc_tree.specs.Syntax.{Empty, Goto, Function, Program}
use Rattle.cpc_tree.specs.Typing.{function_named}
use Rattle.cpc_convert_common.specs.Members.{Has, OnTop, Below}
use Rattle.cpc_forms.specs.Flow.{Place}
use Rattle.cpc_forms.specs.Graph.{Node, at_node}
use Rattle.cpc_convert_routines.specs.Names.{node_label}
use Rattle.cpc_convert_routines.specs.Routines.{Routine, routine_of, closure_of}
use Rattle.cpc_chains_event.specs.Lines.{Line, Does, Goes, Tests, Passes, node_lines, behind_arrival}
use Rattle.cpc_convert_routines.specs.Nodes.{is_own}
use Rattle.cpc_chains_event.specs.Rows.{Row, lines_by, row_of, numbers_of, rows_of, Put, Plain, Jump, JumpIf, is_next, put_line, put_lines, PutRow, first_number, put_rows, is_wanted, put_statement, label_if, row_statements, rows_statements, piece_statements}
use Rattle.cpc_convert_routines.proofs.Numbers.{AllBelow, NoneBelow, OneBelow}
use Rattle.cpc_chains_print_laws.proofs.Names.{label_is_name}
use Rattle.cpc_chains_print_laws.proofs.Known.{FunctionReads, StoodPrints}
use Rattle.cpc_chains_print_laws.proofs.Made.{ExprMade, RowMade, EachIn, both_in, row_in, label_made, line_row, empty_made, goto_made, if_made}
use Rattle.cpc_chains_print_laws.proofs.Lines.{ScopeSmall, StoodSound, LinePrints, EachLine, SmallIf, AllVariables, stub_made, stood_made}

-- ---- numbers

pub all_below : (high : ℕ) (ns : List ℕ) → ((n : ℕ) → Has n ns → n < high) → AllBelow high ns
all_below high [] h = NoneBelow
all_below high (n ∷ ns) h = OneBelow n ns (h n (OnTop n ns)) (all_below high ns (λ m a. h m (Below m n ns a)))

-- ---- rows as statements

module _ (tight : Bool) (H : ℕ) (room : 8 ≤ H) where
  abbrev pub PutMade : Put → Type 0
  PutMade (Plain s) = RowMade tight H room s
  PutMade (Jump n) = n < 2 ^ 64
  PutMade (JumpIf e n) = ExprMade tight H room e × (n < 2 ^ 64)

  abbrev pub EachPut : List Put → Type 0
  EachPut [] = Unit {0}
  EachPut (x ∷ xs) = PutMade x × EachPut xs

  both_puts : (xs ys : List Put) → EachPut xs → EachPut ys → EachPut (xs ++ ys)
  both_puts [] ys a b = b
  both_puts (x ∷ xs) ys a b = (a.0, both_puts xs ys a.1 b)

  jump_if : (b : Bool) (n : ℕ) → n < 2 ^ 64 → EachPut (if b then [] else Jump n ∷ [])
  jump_if true n h = tt
  jump_if false n h = (h, tt)

  pass_if : (b : Bool) (n : ℕ) → n < 2 ^ 64 → EachPut (if b then Plain Empty ∷ [] else Jump n ∷ [])
  pass_if true n h = (line_row tight H room Empty (empty_made tight H room), tt)
  pass_if false n h = (h, tt)

  puts_line : (o : Option ℕ) (x : Line) → LinePrints tight H room x → EachPut (put_line o x)
  puts_line o (Does s) a = (a, tt)
  puts_line o (Goes n) a = jump_if (is_next n o) n a
  puts_line o (Tests e n) a = (a, tt)
  puts_line o (Passes n) a = pass_if (is_next n o) n a

  puts_lines : (o : Option ℕ) (xs : List Line) → EachLine tight H room xs → EachPut (put_lines o xs)
  puts_lines o [] a = tt
  puts_lines o (x ∷ xs) a = both_puts (put_line o x) (put_lines o xs) (puts_line o x a.0) (puts_lines o xs a.1)

  put_row_made : (x : Put) → PutMade x → RowMade tight H room (put_statement x)
  put_row_made (Plain s) a = a
  put_row_made (Jump n) a = line_row tight H room _ (goto_made tight H room (node_label n) (label_is_name n a))
  put_row_made (JumpIf e n) a = if_made tight H room e (Goto (node_label n)) a.0 (goto_made tight H room (node_label n) (label_is_name n a.1))

  puts_in : (xs : List Put) → EachPut xs → EachIn tight H room (map put_statement xs)
  puts_in [] a = tt
  puts_in (x ∷ xs) a = (row_in tight H room (put_statement x) (put_row_made x a.0), puts_in xs a.1)

  labelled : (b : Bool) (n : ℕ) → n < 2 ^ 64 → (xs : List Put) → EachPut xs → EachIn tight H room (label_if b (node_label n) (map put_statement xs))
  labelled true n h [] a = tt
  labelled true n h (x ∷ xs) a = (label_made tight H room (node_label n) (put_statement x) (label_is_name n h) (put_row_made x a.0), puts_in xs a.1)
  labelled false n h xs a = puts_in xs a

  abbrev pub EachPutRow : List PutRow → Type 0
  EachPutRow [] = Unit {0}
  EachPutRow (x ∷ xs) = (x.number < 2 ^ 64) × EachPut x.puts × EachPutRow xs

  rows_in : (all rows : List PutRow) → EachPutRow rows → EachIn tight H room (rows_statements all rows)
  rows_in all [] a = tt
  rows_in all (x ∷ xs) a = both_in tight H room (row_statements all x) (rows_statements all xs) (labelled (is_wanted x.number all) x.number a.0 x.puts a.1) (rows_in all xs a.2)

  abbrev pub EachRowPrints : List Row → Type 0
  EachRowPrints [] = Unit {0}
  EachRowPrints (x ∷ xs) = (x.number < 2 ^ 64) × EachLine tight H room x.lines × EachRowPrints xs

  put_rows_made : (rows : List Row) → EachRowPrints rows → EachPutRow (put_rows rows)
  put_rows_made [] a = tt
  put_rows_made (x ∷ xs) a = (a.0, puts_lines (first_number xs) x.lines a.1, put_rows_made xs a.2)

  -- ---- the rows of a piece

  -- what is known of a node
  pub record NodePrints (h : ℕ) (r : Routine) (node : Node) : Type 0 where
    pub stood : StoodPrints tight h node.stood
    pub sound : StoodSound node.stood
    pub scope : ScopeSmall node.scope
    pub yes : SmallIf tight H room node.yes
    pub no : SmallIf tight H room node.no
    pub arrival : SmallIf tight H room node.arrival
    pub behind : SmallIf tight H room (behind_arrival r node.arrival)

  module _ (h : ℕ) (below : h + 3 ≤ H) (p : Program) (f : Function) (reads : FunctionReads tight h f) (few : length (variables f) ≤ 255)
      (kept : (l : Place) → AllVariables tight H room h below p f reads few (closure_of (routine_of p f) l)) (boxes : AllVariables tight H room h below p f reads few (routine_of p f).boxes)
      (all : (x : Text) (g : Function) → function_named p x ≡ Some g → FunctionReads tight h g × (length (variables g) ≤ 255))
      (nodes : (n : ℕ) (node : Node) → slice_get (routine_of p f).split.graph.nodes n ≡ Some node → NodePrints h (routine_of p f) node) where
    abbrev r : Routine
    r = routine_of p f

    node_made : (n : ℕ) (o : Option Node) → slice_get r.split.graph.nodes n ≡ o → EachLine tight H room (at_node [] (node_lines p r) o)
    node_made n None e = tt
    node_made n (Some node) e =
        let k = nodes n node e in
        stood_made tight H room h below p f reads few kept node.scope k.scope boxes all node.manner node.stood k.stood k.sound node.yes node.no node.arrival k.yes k.no k.arrival k.behind

    by_made : (b : Bool) (n : ℕ) → n < 2 ^ 64 → EachLine tight H room (lines_by b p r n)
    by_made true n small = node_made n (slice_get r.split.graph.nodes n) refl
    by_made false n small = stub_made tight H room h below p f reads few kept n small

    rows_made : (l : Place) (ns : List ℕ) → AllBelow (2 ^ 64) ns → EachRowPrints (map (row_of p r l) ns)
    rows_made l _ NoneBelow = tt
    rows_made l _ (OneBelow n ns small a) = (small, by_made (is_own r.split l n) n small, rows_made l ns a)

    -- the statements of a piece behind its opening
    pub statements_in : (l : Place) → AllBelow (2 ^ 64) (numbers_of p r l) → EachIn tight H room (piece_statements p r l)
    statements_in l small = rows_in (put_rows (rows_of p r l)) (put_rows (rows_of p r l)) (put_rows_made (rows_of p r l) (rows_made l (numbers_of p r l) small))
