-- Where the lines of a node lead, without the lines: the way of a test, and where control falls behind them.
use Rattle.std.specs.Prelude.{ℕ, Bool, false, not, ◌||◌, ◌&&◌, ◌==◌, Option, Some, None}
use Rattle.cpc_tree.specs.Syntax.{Expr, Stmt, Return}
use Rattle.cpc_tree.specs.Points.{Simple, Test, Nothing}
use Rattle.cpc_meaning.specs.Act.{Stood, AtStatement, AtArrival, AtEnd}
use Rattle.cpc_meaning.specs.Ways.{Manner, InPlace, ByFrame, AsCps}
use Rattle.cpc_forms.specs.Graph.{Node}
use Rattle.cpc_convert_routines.specs.Routines.{Routine}
use Rattle.cpc_chains_event.specs.Lines.{behind_arrival}
use Rattle.cpc_chains_event.specs.Rows.{is_next}

-- the way of a test, where there is one
abbrev pub test_of : Stood → (yes : Option ℕ) → Option ℕ
test_of (AtStatement (Test (Some e))) n = n
test_of stood n = None

-- where control falls behind a test
abbrev pub test_falls : Option Expr → (yes no : Option ℕ) → Option ℕ
test_falls (Some e) (Some n) m = m
test_falls t n m = n

-- where it falls behind a simple statement in place
abbrev pub simple_falls : Stmt → (next : Option ℕ) → Option ℕ
simple_falls (Return o) n = None
simple_falls s n = n

-- where it falls behind what stands at a node; `behind` is where it goes on behind a call that is left over a frame
abbrev pub stood_falls : Manner → Stood → (yes no behind : Option ℕ) → Option ℕ
stood_falls w AtEnd n m b = None
stood_falls w (AtArrival x) n m b = n
stood_falls w (AtStatement (Test t)) n m b = test_falls t n m
stood_falls InPlace (AtStatement (Simple s)) n m b = simple_falls s n
stood_falls ByFrame (AtStatement (Simple s)) n m b = b
stood_falls AsCps (AtStatement (Simple s)) n m b = None
stood_falls w (AtStatement Nothing) n m b = n

-- where it falls behind a node
abbrev pub falls_of : Routine → Node → Option ℕ
falls_of r node = stood_falls node.manner node.stood node.yes node.no (behind_arrival r node.arrival)

-- whether a way behind lines is a goto to a number, where this one stands next
abbrev pub jumps_to : ℕ → (following : Option ℕ) → Option ℕ → Bool
jumps_to k o None = false
jumps_to k o (Some n) = not (is_next n o) && (n == k)

-- whether lines with this test and this fall lead to a number
abbrev pub ways_lead : ℕ → (following test falls : Option ℕ) → Bool
ways_lead k o t f = is_next k t || jumps_to k o f
