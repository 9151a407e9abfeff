-- What stands at the nodes of an accepted cps function that can be printed, and the numbers of its nodes and variables.
use Rattle.std.proofs.Common.{◌≡◌, ℕ, zero, suc, ◌+◌, ◌≤◌, ◌<◌, ◌^◌, Bool, true, false, List, [], ◌∷◌, ◌++◌, map, length, slice_get, option_map, Option, Some, None, refl, sym, subst, ap, ◌∙◌, arith}
use Rattle.std.proofs.lemmas.List.{length-append}
use Rattle.std.proofs.lemmas.Option.{slice_get-map}
use Rattle.cpc_base.specs.declared.stop.Dialect.TheVariants as D
use Rattle.cpc_check_laws.specs.Sound.Typed.{Gets, AllGet, EachGets, GetsTaken, AllGetTaken, TakesArguments, Calls, CallsHost, CallsFunction, CallsPrimitive, CallsPointer, is_for, IsTyped}
use Rattle.cpc_tree.specs.declared.program.Mode.{Mode}
use Rattle.cpc_tree.specs.Primitives.{Primitive, Print, Putc, Puts, Now, CondNew, CondFree, Signal, SignalAll, Exit, Malloc, Free, Yield, Sleep, IoWait, Wait, RtFrame, RtBox, RtFrameFree, RtUnbox, RtReady, RtWait, RtSleep, RtIo, RtDetach, Taken, AnyInteger, SetOf, FreeOf, takes_first}
use Rattle.cpc_tree.specs.Points.{Nth, TheTest, TheYes, TheNo, TheStep, TheBody, Path, Point, Here, Arrival, End, Simple, Test, Nothing}
use Rattle.cpc_tree.specs.Syntax.{Ty, TyVoid, TyInt, TyCondvar, TyPointer, TyCode, TyStruct, TyArray, Expr, ENamed, EInteger, ECharacter, EText, EUnary, EBinary, EAnd, EOr, EChoose, ECast, ESizeOf, EIndex, EMember, EArrow, ECall, Exprs, NoExpr, AndExpr, Stmt, Block, Empty, Declare, Assign, Call, Detach, Spawn, If, While, DoWhile, For, Goto, Label, Break, Continue, Return, Stmts, NoStmt, AndStmt, MaybeStmt, Absent, Present, Function, Program}
use Rattle.cpc_tree.specs.Typing.{Scope, Typed, typing, function_named}
use Rattle.cpc_tree.specs.StmtGrammar.{is_call}
use Rattle.cpc_meaning.specs.Act.{Stood, AtStatement, AtArrival, AtEnd}
use Rattle.cpc_meaning.specs.Trees.{scope_from}
use Rattle.cpc_meaning.specs.Threads.{is_cps_mode}
use Rattle.cpc_meaning.specs.Ways.{way_from, arrival_from, ways}
use Rattle.cpc_lift_laws.proofs.Scopes.{scopes_are_below}
use Rattle.cpc_forms.specs.Flow.{Start}
use Rattle.cpc_forms.specs.Graph.{Node, graph_of, graph_if, graph_where, node_of, at_node}
use Rattle.cpc_forms.specs.Order.{points_of, points_in, points_arm, points, within, one_later, number, number_in, number_arm, number_of, of_one}
use Rattle.cpc_forms.proofs.Counts.{row_count}
use Rattle.cpc_convert_routines.specs.Named.{IsCps}
use Rattle.cpc_convert_routines.specs.Routines.{routine_of}
use Rattle.cpc_chains_event.specs.Lines.{behind_arrival}
use Rattle.cpc_lifted_laws.specs.Accepted.Names.{HasNames}
use Rattle.cpc_lifted_laws.specs.Accepted.Points.{PositionsKnown}
use Rattle.cpc_lifted_laws.proofs.Accepted.Counts.{same_many}
use Rattle.cpc_chains_print_laws.proofs.Known.{FunctionReads, StoodPrints, stood_prints}
use Rattle.cpc_chains_print_laws.proofs.Lines.{AllNoCalls, SimpleSound, StoodSound, ScopeSmall, SmallIf}
use Rattle.cpc_chains_print_laws.proofs.Rows.{NodePrints}
use Rattle.cpc_forms.specs.Split.{split_of, split_form, InGraph, position_stood}

-- ---- the numbers of points

at_most : (b : Bool) → of_one b ≤ 1
at_most true = omega arith
at_most false = omega arith

-- a statement has a point
some_point : (s : Stmt) → 1 ≤ length (points_of s)
some_point (Block NoStmt) = omega arith
some_point (Block (AndStmt s ss)) = let a = some_point s in let b = same_many (Nth 0) (points_of s) in let c = length-append (within (Nth 0) (points_of s)) (map one_later (points_in ss)) in omega (arith, a, b, c)
some_point (Call to f es) = omega arith
some_point (Detach to f es) = omega arith
some_point (If t a b) = omega arith
some_point (While t s) = omega arith
some_point (DoWhile s t) = let a = length-append (within TheBody (points_of s)) (Here (TheTest ∷ []) ∷ []) in omega (arith, a)
some_point (For first t step s) = let a = length-append (points_in first) (Here (TheTest ∷ []) ∷ (within TheStep (points_arm step) ++ within TheBody (points_of s))) in omega (arith, a)
some_point (Label l s) = let a = some_point s in let b = same_many TheBody (points_of s) in omega (arith, a, b)
some_point Empty = omega arith
some_point (Declare x t start) = omega arith
some_point (Assign e op v) = omega arith
some_point (Spawn f es) = omega arith
some_point (Goto l) = omega arith
some_point Break = omega arith
some_point Continue = omega arith
some_point (Return v) = omega arith

-- how many points an if has, and a for
if_points : (t : Expr) (a : Stmt) (b : MaybeStmt) → length (points_of (If t a b)) ≡ suc (length (points_of a) + length (points_arm b))
if_points t a b = let x = length-append (within TheYes (points_of a)) (within TheNo (points_arm b)) in let y = same_many TheYes (points_of a) in let z = same_many TheNo (points_arm b) in omega (arith, x, y, z)

for_points : (first : Stmts) (t : Option Expr) (step : MaybeStmt) (s : Stmt) → length (points_of (For first t step s)) ≡ length (points_in first) + suc (length (points_arm step) + length (points_of s))
for_points first t step s =
    let w = length-append (points_in first) (Here (TheTest ∷ []) ∷ (within TheStep (points_arm step) ++ within TheBody (points_of s))) in
    let x = length-append (within TheStep (points_arm step)) (within TheBody (points_of s)) in
    let y = same_many TheStep (points_arm step) in
    let z = same_many TheBody (points_of s) in
    omega (arith, w, x, y, z)

do_points : (s : Stmt) (t : Expr) → length (points_of (DoWhile s t)) ≡ length (points_of s) + 1
do_points s t = let a = length-append (within TheBody (points_of s)) (Here (TheTest ∷ []) ∷ []) in let b = same_many TheBody (points_of s) in omega (arith, a, b)

one_of : (s : Stmt) (b : Bool) → of_one b ≤ length (points_of s)
one_of s b = let a = at_most b in let c = some_point s in omega (arith, a, c)

mutual
  number_most : (s : Stmt) (path : Path) (b : Bool) → number s path b ≤ length (points_of s)
  number_most (Block NoStmt) path b = at_most b
  number_most (Block (AndStmt s ss)) (Nth k ∷ path) b = number_in_most (AndStmt s ss) k path b
  number_most (Block (AndStmt s ss)) [] b = one_of (Block (AndStmt s ss)) b
  number_most (Block (AndStmt s ss)) (TheTest ∷ path) b = one_of (Block (AndStmt s ss)) b
  number_most (Block (AndStmt s ss)) (TheYes ∷ path) b = one_of (Block (AndStmt s ss)) b
  number_most (Block (AndStmt s ss)) (TheNo ∷ path) b = one_of (Block (AndStmt s ss)) b
  number_most (Block (AndStmt s ss)) (TheStep ∷ path) b = one_of (Block (AndStmt s ss)) b
  number_most (Block (AndStmt s ss)) (TheBody ∷ path) b = one_of (Block (AndStmt s ss)) b
  number_most (If t a c) (TheYes ∷ path) b = let x = number_most a path b in let y = if_points t a c in omega (arith, x, y)
  number_most (If t a c) (TheNo ∷ path) b = let x = number_arm_most c path b in let y = if_points t a c in omega (arith, x, y)
  number_most (If t a c) [] b = one_of (If t a c) b
  number_most (If t a c) (Nth k ∷ path) b = one_of (If t a c) b
  number_most (If t a c) (TheTest ∷ path) b = one_of (If t a c) b
  number_most (If t a c) (TheStep ∷ path) b = one_of (If t a c) b
  number_most (If t a c) (TheBody ∷ path) b = one_of (If t a c) b
  number_most (While t s) (TheBody ∷ path) b = let x = number_most s path b in let y = same_many TheBody (points_of s) in omega (arith, x, y)
  number_most (While t s) [] b = one_of (While t s) b
  number_most (While t s) (Nth k ∷ path) b = one_of (While t s) b
  number_most (While t s) (TheTest ∷ path) b = one_of (While t s) b
  number_most (While t s) (TheYes ∷ path) b = one_of (While t s) b
  number_most (While t s) (TheNo ∷ path) b = one_of (While t s) b
  number_most (While t s) (TheStep ∷ path) b = one_of (While t s) b
  number_most (DoWhile s t) (TheBody ∷ path) b = let x = number_most s path b in let y = do_points s t in omega (arith, x, y)
  number_most (DoWhile s t) (TheTest ∷ path) b = let y = do_points s t in omega (arith, y)
  number_most (DoWhile s t) [] b = one_of (DoWhile s t) b
  number_most (DoWhile s t) (Nth k ∷ path) b = one_of (DoWhile s t) b
  number_most (DoWhile s t) (TheYes ∷ path) b = one_of (DoWhile s t) b
  number_most (DoWhile s t) (TheNo ∷ path) b = one_of (DoWhile s t) b
  number_most (DoWhile s t) (TheStep ∷ path) b = one_of (DoWhile s t) b
  number_most (For first t step s) (Nth k ∷ path) b = let x = number_in_most first k path b in let y = for_points first t step s in omega (arith, x, y)
  number_most (For first t step s) (TheTest ∷ path) b = let y = for_points first t step s in omega (arith, y)
  number_most (For first t step s) (TheStep ∷ path) b = let x = number_arm_most step path b in let y = for_points first t step s in omega (arith, x, y)
  number_most (For first t step s) (TheBody ∷ path) b = let x = number_most s path b in let y = for_points first t step s in omega (arith, x, y)
  number_most (For first t step s) [] b = one_of (For first t step s) b
  number_most (For first t step s) (TheYes ∷ path) b = one_of (For first t step s) b
  number_most (For first t step s) (TheNo ∷ path) b = one_of (For first t step s) b
  number_most (Label l s) (TheBody ∷ path) b = let x = number_most s path b in let y = same_many TheBody (points_of s) in omega (arith, x, y)
  number_most (Label l s) [] b = one_of (Label l s) b
  number_most (Label l s) (Nth k ∷ path) b = one_of (Label l s) b
  number_most (Label l s) (TheTest ∷ path) b = one_of (Label l s) b
  number_most (Label l s) (TheYes ∷ path) b = one_of (Label l s) b
  number_most (Label l s) (TheNo ∷ path) b = one_of (Label l s) b
  number_most (Label l s) (TheStep ∷ path) b = one_of (Label l s) b
  number_most (Call to f es) path b = one_of (Call to f es) b
  number_most (Detach to f es) path b = one_of (Detach to f es) b
  number_most Empty path b = one_of Empty b
  number_most (Declare x t start) path b = one_of (Declare x t start) b
  number_most (Assign e op v) path b = one_of (Assign e op v) b
  number_most (Spawn f es) path b = one_of (Spawn f es) b
  number_most (Goto l) path b = one_of (Goto l) b
  number_most Break path b = one_of Break b
  number_most Continue path b = one_of Continue b
  number_most (Return v) path b = one_of (Return v) b

  number_in_most : (ss : Stmts) (k : ℕ) (path : Path) (b : Bool) → number_in ss k path b ≤ length (points_in ss)
  number_in_most NoStmt k path b = omega arith
  number_in_most (AndStmt s ss) zero path b = let x = number_most s path b in let y = row_count s ss in omega (arith, x, y)
  number_in_most (AndStmt s ss) (suc k) path b = let x = number_in_most ss k path b in let y = row_count s ss in omega (arith, x, y)

  number_arm_most : (r : MaybeStmt) (path : Path) (b : Bool) → number_arm r path b ≤ length (points_arm r)
  number_arm_most Absent path b = omega arith
  number_arm_most (Present s) path b = number_most s path b

pub number_small : (body : Stmt) (q : Point) → length (points body) ≤ 1000001 → number_of body q < 2 ^ 64
number_small body (Here path) few = let a = number_most body path false in let b = length-append (points_of body) (End ∷ []) in omega (arith, a, b, few)
number_small body (Arrival path) few = let a = number_most body path true in let b = length-append (points_of body) (End ∷ []) in omega (arith, a, b, few)
number_small body End few = let b = length-append (points_of body) (End ∷ []) in omega (arith, b, few)

-- ---- what is no call

-- what has a type is none
typed_no_call : (p : Program) (scope : Scope) (e : Expr) (t : Typed) → typing p scope e ≡ Some t → is_call e ≡ false
typed_no_call p scope (ECall f es) t h = absurd cc
typed_no_call p scope (ENamed x) t h = refl
typed_no_call p scope (EInteger kind z) t h = refl
typed_no_call p scope (ECharacter z) t h = refl
typed_no_call p scope (EText bytes) t h = refl
typed_no_call p scope (EUnary op v) t h = refl
typed_no_call p scope (EBinary op v w) t h = refl
typed_no_call p scope (EAnd v w) t h = refl
typed_no_call p scope (EOr v w) t h = refl
typed_no_call p scope (EChoose c v w) t h = refl
typed_no_call p scope (ECast u v) t h = refl
typed_no_call p scope (ESizeOf u) t h = refl
typed_no_call p scope (EIndex v w) t h = refl
typed_no_call p scope (EMember v x) t h = refl
typed_no_call p scope (EArrow v x) t h = refl

gets_no_call : (p : Program) (scope : Scope) (t : Ty) (e : Expr) → Gets p scope t e → is_call e ≡ false
gets_no_call p scope t e g = typed_no_call p scope e g.typed g.is_typed

taken_no_call : (p : Program) (scope : Scope) (t : Taken) (e : Expr) → GetsTaken p scope t e → is_call e ≡ false
taken_no_call p scope t (ENamed x) g = refl
taken_no_call p scope t (EInteger kind z) g = refl
taken_no_call p scope t (ECharacter z) g = refl
taken_no_call p scope t (EText bytes) g = refl
taken_no_call p scope t (EUnary op v) g = refl
taken_no_call p scope t (EBinary op v w) g = refl
taken_no_call p scope t (EAnd v w) g = refl
taken_no_call p scope t (EOr v w) g = refl
taken_no_call p scope t (EChoose c v w) g = refl
taken_no_call p scope t (ECast u v) g = refl
taken_no_call p scope t (ESizeOf u) g = refl
taken_no_call p scope t (EIndex v w) g = refl
taken_no_call p scope t (EMember v x) g = refl
taken_no_call p scope t (EArrow v x) g = refl
taken_no_call p scope AnyInteger (ECall f es) g = gets_no_call p scope _ (ECall f es) g
taken_no_call p scope (FreeOf t) (ECall f es) g = gets_no_call p scope t (ECall f es) g
taken_no_call p scope (SetOf (TyCode r ts)) (ECall f es) g = absurd g
taken_no_call p scope (SetOf TyVoid) (ECall f es) g = gets_no_call p scope TyVoid (ECall f es) g
taken_no_call p scope (SetOf (TyInt kind)) (ECall f es) g = gets_no_call p scope (TyInt kind) (ECall f es) g
taken_no_call p scope (SetOf TyCondvar) (ECall f es) g = gets_no_call p scope TyCondvar (ECall f es) g
taken_no_call p scope (SetOf (TyPointer t)) (ECall f es) g = gets_no_call p scope (TyPointer t) (ECall f es) g
taken_no_call p scope (SetOf (TyStruct tag)) (ECall f es) g = gets_no_call p scope (TyStruct tag) (ECall f es) g
taken_no_call p scope (SetOf (TyArray t n)) (ECall f es) g = gets_no_call p scope (TyArray t n) (ECall f es) g

all_get_none : (p : Program) (scope : Scope) (ts : List Ty) (es : Exprs) → AllGet p scope ts es → AllNoCalls es
all_get_none p scope [] NoExpr g = tt
all_get_none p scope (t ∷ ts) (AndExpr e es) g = (gets_no_call p scope t e g.0, all_get_none p scope ts es g.1)
all_get_none p scope [] (AndExpr e es) g = absurd g
all_get_none p scope (t ∷ ts) NoExpr g = absurd g

each_gets_none : (p : Program) (scope : Scope) (t : Ty) (es : Exprs) → EachGets p scope t es → AllNoCalls es
each_gets_none p scope t NoExpr g = tt
each_gets_none p scope t (AndExpr e es) g = (gets_no_call p scope t e g.0, each_gets_none p scope t es g.1)

all_taken_none : (p : Program) (scope : Scope) (ts : List Taken) (es : Exprs) → AllGetTaken p scope ts es → AllNoCalls es
all_taken_none p scope [] NoExpr g = tt
all_taken_none p scope (t ∷ ts) (AndExpr e es) g = (taken_no_call p scope t e g.0, all_taken_none p scope ts es g.1)
all_taken_none p scope [] (AndExpr e es) g = absurd g
all_taken_none p scope (t ∷ ts) NoExpr g = absurd g

puts_none : (p : Program) (scope : Scope) (es : Exprs) → TakesArguments p scope Puts es → AllNoCalls es
puts_none p scope (AndExpr (EText bytes) NoExpr) g = (refl, tt)
puts_none p scope (AndExpr (EText bytes) (AndExpr e es)) g = absurd g
puts_none p scope NoExpr g = absurd g
puts_none p scope (AndExpr (ENamed x) es) g = absurd g
puts_none p scope (AndExpr (EInteger kind z) es) g = absurd g
puts_none p scope (AndExpr (ECharacter z) es) g = absurd g
puts_none p scope (AndExpr (EUnary op v) es) g = absurd g
puts_none p scope (AndExpr (EBinary op v w) es) g = absurd g
puts_none p scope (AndExpr (EAnd v w) es) g = absurd g
puts_none p scope (AndExpr (EOr v w) es) g = absurd g
puts_none p scope (AndExpr (EChoose c v w) es) g = absurd g
puts_none p scope (AndExpr (ECast u v) es) g = absurd g
puts_none p scope (AndExpr (ESizeOf u) es) g = absurd g
puts_none p scope (AndExpr (EIndex v w) es) g = absurd g
puts_none p scope (AndExpr (EMember v x) es) g = absurd g
puts_none p scope (AndExpr (EArrow v x) es) g = absurd g
puts_none p scope (AndExpr (ECall f vs) es) g = absurd g

arguments_none : (p : Program) (scope : Scope) (prim : Primitive) (es : Exprs) → is_for D.Cpc prim ≡ true → TakesArguments p scope prim es → AllNoCalls es
arguments_none p scope Puts es i g = puts_none p scope es g
arguments_none p scope RtDetach es i g = absurd cc
arguments_none p scope Print es i g = all_taken_none p scope (takes_first Print) es g
arguments_none p scope Putc es i g = all_taken_none p scope (takes_first Putc) es g
arguments_none p scope Now es i g = all_taken_none p scope (takes_first Now) es g
arguments_none p scope CondNew es i g = all_taken_none p scope (takes_first CondNew) es g
arguments_none p scope CondFree es i g = all_taken_none p scope (takes_first CondFree) es g
arguments_none p scope Signal es i g = all_taken_none p scope (takes_first Signal) es g
arguments_none p scope SignalAll es i g = all_taken_none p scope (takes_first SignalAll) es g
arguments_none p scope Exit es i g = all_taken_none p scope (takes_first Exit) es g
arguments_none p scope Malloc es i g = all_taken_none p scope (takes_first Malloc) es g
arguments_none p scope Free es i g = all_taken_none p scope (takes_first Free) es g
arguments_none p scope Yield es i g = all_taken_none p scope (takes_first Yield) es g
arguments_none p scope Sleep es i g = all_taken_none p scope (takes_first Sleep) es g
arguments_none p scope IoWait es i g = all_taken_none p scope (takes_first IoWait) es g
arguments_none p scope Wait es i g = all_taken_none p scope (takes_first Wait) es g
arguments_none p scope RtFrame es i g = all_taken_none p scope (takes_first RtFrame) es g
arguments_none p scope RtBox es i g = all_taken_none p scope (takes_first RtBox) es g
arguments_none p scope RtFrameFree es i g = all_taken_none p scope (takes_first RtFrameFree) es g
arguments_none p scope RtUnbox es i g = all_taken_none p scope (takes_first RtUnbox) es g
arguments_none p scope RtReady es i g = all_taken_none p scope (takes_first RtReady) es g
arguments_none p scope RtWait es i g = all_taken_none p scope (takes_first RtWait) es g
arguments_none p scope RtSleep es i g = all_taken_none p scope (takes_first RtSleep) es g
arguments_none p scope RtIo es i g = all_taken_none p scope (takes_first RtIo) es g

calls_none : (p : Program) (around : Mode) (scope : Scope) (f : Expr) (es : Exprs) (r : Ty) → Calls D.Cpc p around scope f es r → AllNoCalls es
calls_none p around scope _ es _ (CallsHost x r ps _ d m g many) = each_gets_none p scope _ es g
calls_none p around scope _ es _ (CallsFunction x mode r ps k _ o m n d c g) = all_get_none p scope _ es g
calls_none p around scope _ es _ (CallsPrimitive x prim _ m n i d c g) = arguments_none p scope prim es i g
calls_none p around scope f es r (CallsPointer _ typed _ ps _ d i t u g) = all_get_none p scope _ es g

-- ---- nodes

simple_sound : (p : Program) (f : Function) (scope : Scope) (s : Stmt) → IsTyped D.Cpc p f scope s → SimpleSound s
simple_sound p f scope (Call to (ENamed g) es) t = calls_none p f.mode scope (ENamed g) es t.0 t.1
simple_sound p f scope (Return (Some e)) t = gets_no_call p scope f.result e t
simple_sound p f scope _ t = tt

-- what stands at a position of a cps function
stood_there : (p : Program) (f : Function) (n : ℕ) (node : Node) → function_named p f.called ≡ Some f → is_cps_mode f.mode ≡ true → slice_get (graph_of p f).nodes n ≡ Some node → (split_form p).code.stood f.called (InGraph Start n) ≡ node.stood
stood_there p f n node named mode e =
    ap (λ o. position_stood ((ways p).code.stood f.called) (option_map split_of (graph_where p o)) (InGraph Start n)) named
    ∙ (ap (λ b. position_stood ((ways p).code.stood f.called) (option_map split_of (graph_if b p f)) (InGraph Start n)) mode ∙ ap (at_node (AtStatement Nothing) (λ node. node.stood)) e)

module _ (tight : Bool) (H : ℕ) (room : 8 ≤ H) (h : ℕ) (p : Program) (names : HasNames p) (positions : PositionsKnown p) (f : Function) (reads : FunctionReads tight h f) (cps : IsCps p f) where
  few : length (points f.body) ≤ 1000001
  few = names.points f cps.has cps.mode

  way_small : (o : Option Point) → SmallIf tight H room (option_map (number_of f.body) o)
  way_small None = tt
  way_small (Some q) = number_small f.body q few

  -- each node is that of a point
  point_of : (n : ℕ) (node : Node) → slice_get (graph_of p f).nodes n ≡ Some node → (q : Point) × (node ≡ node_of p f q)
  point_of n node e = go (slice_get (points f.body) n) (sym (slice_get-map (node_of p f) (points f.body) n) ∙ e)
    where
      go : (o : Option Point) → option_map (node_of p f) o ≡ Some node → (q : Point) × (node ≡ node_of p f q)
      go None e = absurd cc
      go (Some q) e = (q, sym (let z : node_of p f q ≡ node = cc in z))

  sound_there : (n : ℕ) (node : Node) → slice_get (graph_of p f).nodes n ≡ Some node → StoodSound node.stood
  sound_there n node e = go node.stood refl
    where
      go : (s : Stood) → node.stood ≡ s → StoodSound s
      go (AtStatement (Simple s)) i = simple_sound p f _ s (positions.typed f.called f (InGraph Start n) (Simple s) (names.functions f cps.has).found (stood_there p f n node (names.functions f cps.has).found cps.mode e ∙ i))
      go (AtStatement (Test t)) i = tt
      go (AtStatement Nothing) i = tt
      go (AtArrival x) i = tt
      go AtEnd i = tt

  scope_small : (q : Point) → ScopeSmall (scope_from (Some f) q)
  scope_small (Here path) x k h = let a = scopes_are_below f path x k h in let b = (names.functions f cps.has).few in omega (arith, a, b)
  scope_small (Arrival path) x k h = let a = scopes_are_below f path x k h in let b = (names.functions f cps.has).few in omega (arith, a, b)
  scope_small End x k h = absurd cc

  behind_small : (a : Option ℕ) → SmallIf tight H room (behind_arrival (routine_of p f) a)
  behind_small None = tt
  behind_small (Some a) = go (slice_get (graph_of p f).nodes a) refl
    where
      go : (o : Option Node) → slice_get (graph_of p f).nodes a ≡ o → SmallIf tight H room (at_node None (λ node. node.yes) o)
      go None e = tt
      go (Some node) e = let q = point_of a node e in subst (λ (n : Node). SmallIf tight H room n.yes) (sym q.1) (way_small (way_from p (Some f) q.0 true))

  pub node_prints : (n : ℕ) (node : Node) → slice_get (graph_of p f).nodes n ≡ Some node → NodePrints tight H room h (routine_of p f) node
  node_prints n node e =
      let q = point_of n node e in
      record {
        stood = subst (λ (n : Node). StoodPrints tight h n.stood) (sym q.1) (stood_prints tight h f reads q.0);
        sound = sound_there n node e;
        scope = subst (λ (n : Node). ScopeSmall n.scope) (sym q.1) (scope_small q.0);
        yes = subst (λ (n : Node). SmallIf tight H room n.yes) (sym q.1) (way_small (way_from p (Some f) q.0 true));
        no = subst (λ (n : Node). SmallIf tight H room n.no) (sym q.1) (way_small (way_from p (Some f) q.0 false));
        arrival = subst (λ (n : Node). SmallIf tight H room n.arrival) (sym q.1) (way_small (arrival_from p (Some f) q.0));
        behind = behind_small node.arrival;
      }
