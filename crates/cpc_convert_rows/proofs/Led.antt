-- The ways of a node are those of its lines.
use Rattle.std.proofs.Common.{◌≡◌, ℕ, Bool, true, false, not, ◌||◌, ◌&&◌, ◌==◌, if◌then◌else◌, List, [], ◌∷◌, ◌++◌, Option, Some, None, refl, ap}
use Rattle.cpc_base.proofs.Truth.{or_with_false}
use Rattle.cpc_tree.specs.Syntax.{Expr, Stmt, Block, Empty, Declare, Assign, Call, Detach, Spawn, If, While, DoWhile, For, Goto, Label, Break, Continue, Return, Program}
use Rattle.cpc_tree.specs.Points.{Simple, Test, Nothing}
use Rattle.cpc_meaning.specs.Act.{Stood, AtStatement, AtArrival, AtEnd, target_of}
use Rattle.cpc_meaning.specs.Ways.{Manner, InPlace, ByFrame, AsCps}
use Rattle.cpc_chains_event.specs.Images.{Readings}
use Rattle.cpc_forms.specs.Graph.{Node}
use Rattle.cpc_convert_routines.specs.Routines.{Routine, readings_of}
use Rattle.cpc_chains_event.specs.Lines as L
use Rattle.cpc_chains_event.specs.Lines.{Line, Does, Goes, Tests, Passes, all_do, goes, passes, node_lines, stood_lines, behind_arrival}
use Rattle.cpc_chains_event.specs.Rows.{Plain, Jump, falls, put_lines, any_leads, is_next}
use Rattle.cpc_convert_rows.specs.Ways.{test_of, test_falls, simple_falls, stood_falls, falls_of, jumps_to, ways_lead}

-- lines fall to this way, and those before the last lead by this test alone
record HasWays (ls : List Line) (t f : Option ℕ) : Type 0 where
  pub falls : falls ls ≡ f
  pub leads : (k : ℕ) (o : Option ℕ) → any_leads k (put_lines o ls) ≡ ways_lead k o t f

done_falls : (ss : List Stmt) → falls (all_do ss) ≡ None
done_falls [] = refl
done_falls (s ∷ []) = refl
done_falls (s ∷ t ∷ ss) = done_falls (t ∷ ss)

pub done_leads : (k : ℕ) (o : Option ℕ) (ss : List Stmt) → any_leads k (put_lines o (all_do ss)) ≡ false
done_leads k o [] = refl
done_leads k o (s ∷ ss) = done_leads k o ss

done : (ss : List Stmt) → HasWays (all_do ss) None None
done ss = record { falls = done_falls ss; leads = λ k o. done_leads k o ss }

-- a goto, unless the number stands next
jump_leads : (k n : ℕ) (o : Option ℕ) → any_leads k (put_lines o (Goes n ∷ [])) ≡ jumps_to k o (Some n)
jump_leads k n o = go (is_next n o)
  where
    go : (b : Bool) → any_leads k ((if b then [] else Jump n ∷ []) ++ []) ≡ (not b && (n == k))
    go true = refl
    go false = or_with_false (n == k)

pass_leads : (k n : ℕ) (o : Option ℕ) → any_leads k (put_lines o (Passes n ∷ [])) ≡ jumps_to k o (Some n)
pass_leads k n o = go (is_next n o)
  where
    go : (b : Bool) → any_leads k ((if b then Plain Empty ∷ [] else Jump n ∷ []) ++ []) ≡ (not b && (n == k))
    go true = refl
    go false = or_with_false (n == k)

passed : (n : Option ℕ) → HasWays (passes n ∷ []) None n
passed None = record { falls = refl; leads = λ k o. refl }
passed (Some n) = record { falls = refl; leads = λ k o. pass_leads k n o }

-- a statement and a way
then_goes : (s : Stmt) (n : Option ℕ) → HasWays (Does s ∷ goes n) None n
then_goes s None = record { falls = refl; leads = λ k o. refl }
then_goes s (Some n) = record { falls = refl; leads = λ k o. jump_leads k n o }

-- a test and a way
tested : (e : Expr) (n : ℕ) (m : Option ℕ) → HasWays (Tests e n ∷ goes m) (Some n) m
tested e n None = record { falls = refl; leads = λ k o. refl }
tested e n (Some m) = record { falls = refl; leads = λ k o. ap (λ b. (n == k) || b) (jump_leads k m o) }

test_has : (names : Readings) (t : Option Expr) (n m : Option ℕ) → HasWays (L.test_lines names t n m) (test_of (AtStatement (Test t)) n) (test_falls t n m)
test_has names None n m = passed n
test_has names (Some e) None m = record { falls = refl; leads = λ k o. refl }
test_has names (Some e) (Some n) m = tested _ n m

arrival_has : (names : Readings) (x : Option (Option Expr)) (n : Option ℕ) → HasWays (L.arrival_lines names x n) None n
arrival_has names None n = passed n
arrival_has names (Some None) n = passed n
arrival_has names (Some (Some e)) n = then_goes _ n

simple_has : (r : Routine) (names : Readings) (s : Stmt) (n : Option ℕ) → HasWays (L.simple_lines r names s n) None (simple_falls s n)
simple_has r names (Return o) n = done (L.leave_lines r names o)
simple_has r names (Spawn f es) n = then_goes _ n
simple_has r names (Declare x t (Some e)) n = then_goes _ n
simple_has r names (Declare x t None) n = passed n
simple_has r names (Assign e op v) n = then_goes _ n
simple_has r names (Call to f es) n = then_goes _ n
simple_has r names (Block x) n = passed n
simple_has r names Empty n = passed n
simple_has r names (Detach to f es) n = passed n
simple_has r names (If e a b) n = passed n
simple_has r names (While e a) n = passed n
simple_has r names (DoWhile a e) n = passed n
simple_has r names (For a b x y) n = passed n
simple_has r names (Goto x) n = passed n
simple_has r names (Label x y) n = passed n
simple_has r names Break n = passed n
simple_has r names Continue n = passed n

framed_has : (r : Routine) (names : Readings) (s : Stmt) (a : Option ℕ) → HasWays (L.framed_lines r names s a) None (behind_arrival r a)
framed_has r names (Call to f es) a = then_goes _ (behind_arrival r a)
framed_has r names (Return o) a = passed (behind_arrival r a)
framed_has r names (Spawn f es) a = passed (behind_arrival r a)
framed_has r names (Declare x t e) a = passed (behind_arrival r a)
framed_has r names (Assign e op v) a = passed (behind_arrival r a)
framed_has r names (Block x) a = passed (behind_arrival r a)
framed_has r names Empty a = passed (behind_arrival r a)
framed_has r names (Detach to f es) a = passed (behind_arrival r a)
framed_has r names (If e x y) a = passed (behind_arrival r a)
framed_has r names (While e x) a = passed (behind_arrival r a)
framed_has r names (DoWhile x e) a = passed (behind_arrival r a)
framed_has r names (For x y z w) a = passed (behind_arrival r a)
framed_has r names (Goto x) a = passed (behind_arrival r a)
framed_has r names (Label x y) a = passed (behind_arrival r a)
framed_has r names Break a = passed (behind_arrival r a)
framed_has r names Continue a = passed (behind_arrival r a)

stood_has : (p : Program) (r : Routine) (names : Readings) (w : Manner) (x : Stood) (n m a : Option ℕ)
    → HasWays (stood_lines p r names w x n m a) (test_of x n) (stood_falls w x n m (behind_arrival r a))
stood_has p r names w AtEnd n m a = done (L.leave_lines r names None)
stood_has p r names w (AtArrival x) n m a = arrival_has names (target_of x) n
stood_has p r names InPlace (AtStatement (Test t)) n m a = test_has names t n m
stood_has p r names ByFrame (AtStatement (Test t)) n m a = test_has names t n m
stood_has p r names AsCps (AtStatement (Test t)) n m a = test_has names t n m
stood_has p r names InPlace (AtStatement (Simple s)) n m a = simple_has r names s n
stood_has p r names ByFrame (AtStatement (Simple s)) n m a = framed_has r names s a
stood_has p r names AsCps (AtStatement (Simple s)) n m a = done (L.cps_lines p r names s a)
stood_has p r names InPlace (AtStatement Nothing) n m a = passed n
stood_has p r names ByFrame (AtStatement Nothing) n m a = passed n
stood_has p r names AsCps (AtStatement Nothing) n m a = passed n

-- where control falls behind a node's lines
pub node_falls : (p : Program) (r : Routine) (node : Node) → falls (node_lines p r node) ≡ falls_of r node
node_falls p r node = (stood_has p r (readings_of r node.scope) node.manner node.stood node.yes node.no node.arrival).falls

-- where its lines lead
pub node_leads : (p : Program) (r : Routine) (node : Node) (k : ℕ) (o : Option ℕ) → any_leads k (put_lines o (node_lines p r node)) ≡ ways_lead k o (test_of node.stood node.yes) (falls_of r node)
node_leads p r node = (stood_has p r (readings_of r node.scope) node.manner node.stood node.yes node.no node.arrival).leads
