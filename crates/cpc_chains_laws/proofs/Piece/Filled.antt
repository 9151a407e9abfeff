-- Each row of a piece has a line, so that its label has a place.
use Rattle.std.proofs.Common.{◌≡◌, ℕ, Bool, true, false, cond, List, [], ◌∷◌, ◌++◌, slice_get, Option, Some, None, refl, sym, ◌∙◌, ap, subst}
use Rattle.cpc_tree.specs.Points.{Point, Here, Arrival, End, Found, Simple, Test, Nothing, found}
use Rattle.cpc_tree.specs.Registers.{scope_in_function}
use Rattle.cpc_tree.specs.Syntax.{Expr, ENamed, Stmt, Empty, Declare, Assign, Call, Detach, Spawn, Return, Function, Program}
use Rattle.cpc_tree.specs.Typing.{Scope, function_named}
use Rattle.cpc_meaning.specs.Act.{Stood, AtStatement, AtArrival, AtEnd, target_of}
use Rattle.cpc_meaning.specs.Ways.{Manner, InPlace, ByFrame, AsCps, manner_of, manner_at}
use Rattle.cpc_convert_image_laws.specs.Images.{Readings}
use Rattle.cpc_forms.specs.Flow.{Place, At}
use Rattle.cpc_forms.specs.Graph.{Node, node_of, graph_of, at_node}
use Rattle.cpc_graph_laws.proofs.Formed.{node_comes}
use Rattle.cpc_chains_event.specs.Lines.{Line, passes, all_do, frame_lines, frame_lines_if, hands_over, hands_nothing, waits_lines, cps_lines, unbox_lines, result_lines, patch_lines, leave_lines, simple_lines, test_lines, arrival_lines, behind_arrival, framed_lines, stood_lines, node_lines}
use Rattle.cpc_convert_routines.specs.Names.{next_name, to_name, under_name}
use Rattle.cpc_convert_routines.specs.Routines.{Routine, routine_of, readings_of}
use Rattle.cpc_chains_event.specs.Rows.{Put, Plain, Jump, JumpIf, is_next, put_lines, lines_by}
use Rattle.cpc_convert_routines.specs.Nodes.{is_own}
use Rattle.cpc_chains_laws.specs.Piece.Rows.{next_number, RowAt}
use Rattle.cpc_chains_laws.proofs.Piece.Places.{IsFilled}

-- these lines begin with one, whatever stands next
abbrev pub Starts : List Line → Type 0
Starts ls = (o : Option ℕ) → (x : Put) × (xs : List Put) × (put_lines o ls ≡ x ∷ xs)

passes_start : (n : Option ℕ) → Starts (passes n ∷ [])
passes_start None o = (Plain Empty, [], refl)
passes_start (Some m) o = go (is_next m o)
  where
    go : (b : Bool) → (x : Put) × (xs : List Put) × ((cond b (Plain Empty ∷ []) (Jump m ∷ []) ++ []) ≡ x ∷ xs)
    go true = (Plain Empty, [], refl)
    go false = (Jump m, [], refl)

-- there is a statement
abbrev pub HasOne : List Stmt → Type 0
HasOne ss = (s : Stmt) × (rest : List Stmt) × (ss ≡ s ∷ rest)

one_behind : (xs ys : List Stmt) → HasOne ys → HasOne (xs ++ ys)
one_behind [] ys h = h
one_behind (x ∷ xs) ys h = (x, xs ++ ys, refl)

all_start : (ss : List Stmt) → HasOne ss → Starts (all_do ss)
all_start ss h o = (Plain h.0, put_lines o (all_do h.1), ap (λ xs. put_lines o (all_do xs)) h.2)

module _ (p : Program) (r : Routine) (names : Readings) where
  leave_start : (o : Option Expr) → HasOne (leave_lines r names o)
  leave_start o = one_behind (result_lines names o) _ (one_behind (unbox_lines r) _ (one_behind (patch_lines o) _ (hands_over next_name, [], refl)))

  cps_start : (scope : Scope) (s : Stmt) (a : Option ℕ) → manner_of p scope (Simple s) ≡ AsCps → HasOne (cps_lines p r names s a)
  cps_start scope (Call to (ENamed f) es) a e = go (function_named p f)
    where
      go : (o : Option Function) → HasOne (waits_lines r names a f o es)
      go None = one_behind (frame_lines_if r to_name a) _ (_, hands_nothing ∷ [], refl)
      go (Some g) = one_behind (frame_lines_if r under_name a) _ (_, _, refl)
  cps_start scope (Detach to f es) a e = one_behind (frame_lines_if r to_name a) _ (_, hands_nothing ∷ [], refl)
  cps_start scope s a e = absurd (cc)

  simple_start : (s : Stmt) (n : Option ℕ) → Starts (simple_lines r names s n)
  simple_start (Return o) n = all_start (leave_lines r names o) (leave_start o)
  simple_start (Spawn f es) n = λ o. (Plain _, _, refl)
  simple_start (Declare x t (Some e)) n = λ o. (Plain _, _, refl)
  simple_start (Declare x t None) n = passes_start n
  simple_start (Assign e op v) n = λ o. (Plain _, _, refl)
  simple_start (Call to f es) n = λ o. (Plain _, _, refl)
  simple_start s n = passes_start n

  framed_start : (s : Stmt) (a : Option ℕ) → Starts (framed_lines r names s a)
  framed_start (Call to f es) a = λ o. (Plain _, _, refl)
  framed_start s a = passes_start (behind_arrival r a)

  test_start : (t : Option Expr) (n m : Option ℕ) → Starts (test_lines names t n m)
  test_start None n m = passes_start n
  test_start (Some e) None m = passes_start None
  test_start (Some e) (Some n) m = λ o. (JumpIf _ n, _, refl)

  arrival_start : (t : Option (Option Expr)) (n : Option ℕ) → Starts (arrival_lines names t n)
  arrival_start None n = passes_start n
  arrival_start (Some None) n = passes_start n
  arrival_start (Some (Some e)) n = λ o. (Plain _, _, refl)

  stood_start : (w : Manner) (stood : Stood) (n m a : Option ℕ) → (w ≡ AsCps → (s : Stmt) → stood ≡ AtStatement (Simple s) → HasOne (cps_lines p r names s a)) → Starts (stood_lines p r names w stood n m a)
  stood_start w AtEnd n m a h = all_start (leave_lines r names None) (leave_start None)
  stood_start w (AtArrival x) n m a h = arrival_start (target_of x) n
  stood_start w (AtStatement (Test t)) n m a h = test_start t n m
  stood_start InPlace (AtStatement (Simple s)) n m a h = simple_start s n
  stood_start ByFrame (AtStatement (Simple s)) n m a h = framed_start s a
  stood_start AsCps (AtStatement (Simple s)) n m a h = all_start (cps_lines p r names s a) (h refl s refl)
  stood_start w (AtStatement Nothing) n m a h = passes_start n

-- what stands where a statement does
abbrev pub what_stands : Stood → Found
what_stands (AtStatement x) = x
what_stands s = Nothing

pub no_arrival : (x y : Found) → AtArrival x ≡ AtStatement y → ⊥
no_arrival x y e = absurd (cc)

pub no_end : (y : Found) → AtEnd ≡ AtStatement y → ⊥
no_end y e = absurd (cc)

module _ (p : Program) (f : Function) where
  abbrev r : Routine
  r = routine_of p f

  point_start : (names : Readings) (point : Point) → Starts (stood_lines p r names (node_of p f point).manner (node_of p f point).stood (node_of p f point).yes (node_of p f point).no (node_of p f point).arrival)
  point_start names (Here path) =
      stood_start p r names (manner_at p f path) (AtStatement (found f.body path)) (node_of p f (Here path)).yes (node_of p f (Here path)).no (node_of p f (Here path)).arrival waits
    where
      waits : manner_at p f path ≡ AsCps → (s : Stmt) → AtStatement (found f.body path) ≡ AtStatement (Simple s) → HasOne (cps_lines p r names s (node_of p f (Here path)).arrival)
      waits e s i = cps_start p r names (scope_in_function f path) s (node_of p f (Here path)).arrival (ap (manner_of p (scope_in_function f path)) (sym (ap what_stands i)) ∙ e)
  point_start names (Arrival path) =
      stood_start p r names (node_of p f (Arrival path)).manner (AtArrival (found f.body path)) (node_of p f (Arrival path)).yes (node_of p f (Arrival path)).no (node_of p f (Arrival path)).arrival (λ e s i. absurd (no_arrival (found f.body path) (Simple s) i))
  point_start names End = stood_start p r names (node_of p f End).manner AtEnd (node_of p f End).yes (node_of p f End).no (node_of p f End).arrival (λ e s i. absurd (no_end (Simple s) i))

  pub node_start : (n : ℕ) (node : Node) → slice_get (graph_of p f).nodes n ≡ Some node → Starts (node_lines p r node)
  node_start n node there =
      let from = node_comes p f n node there in
      subst (λ (k : Node). Starts (stood_lines p r (readings_of r node.scope) k.manner k.stood k.yes k.no k.arrival)) from.2 (point_start (readings_of r node.scope) from.0)

  -- the row of a node has a line, and so has that of another leader
  pub row_filled : (l : Place) (m : ℕ) (node : Node) → slice_get (graph_of p f).nodes m ≡ Some node → (b : RowAt p r l m) → IsFilled p f l m b
  row_filled l m node there b = go (is_own r.split l m)
    where
      go : (c : Bool) → (x : Put) × (xs : List Put) × (put_lines (next_number b.back) (lines_by c p r m) ≡ x ∷ xs)
      go true = let s = node_start m node there (next_number b.back) in (s.0, s.1, ap (λ o. put_lines (next_number b.back) (at_node [] (node_lines p r) o)) there ∙ s.2)
      go false = all_start (frame_lines r to_name (At m) ++ (hands_over to_name ∷ [])) (_, _, refl) (next_number b.back)
