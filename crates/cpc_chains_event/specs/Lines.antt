-- What stands for a node in its piece: lines, in which control goes to nodes by their numbers.
use Rattle.std.specs.Prelude.{ℕ, suc, List, [], ◌∷◌, ◌++◌, map, pos, codes, slice_get, Option, Some, None}
use Rattle.cpc_base.specs.Bytes.{Text}
use Rattle.cpc_num.specs.declared.kinds.Kind.TheVariants.{Int}
use Rattle.cpc_tree.specs.Syntax.{Expr, ENamed, EInteger, Exprs, AndExpr, Stmt, Empty, Declare, Assign, Call, Detach, Spawn, Return, Variable, Function, Program}
use Rattle.cpc_tree.specs.Points.{Simple, Test, Nothing}
use Rattle.cpc_tree.specs.Typing.{function_named}
use Rattle.cpc_tree.specs.Registers.{variables}
use Rattle.cpc_tree.specs.Primitives.{Primitive, Sleep, IoWait, Wait, primitive_named}
use Rattle.cpc_meaning.specs.Act.{Stood, AtStatement, AtArrival, AtEnd, target_of}
use Rattle.cpc_meaning.specs.Ways.{Manner, InPlace, ByFrame, AsCps}
use Rattle.cpc_convert_common.specs.Converted.{spawner_name}
use Rattle.cpc_convert_image_laws.specs.Images.{Readings, image, images, image_stmt, followed}
use Rattle.cpc_forms.specs.Graph.{Node, at_node}
use Rattle.cpc_forms.specs.Flow.{Place, At}
use Rattle.cpc_convert_flat_laws.specs.Locals.{Save}
use Rattle.cpc_chains_store_laws.specs.Frames.{asks_block, fills_frame, frame_through, Give, fills_call}
use Rattle.cpc_convert_flat_laws.specs.Boxes.{unboxes_one}
use Rattle.cpc_chains_store_laws.specs.Driver.{drive_name, code_field, next_field, patches, detaches}
use Rattle.cpc_convert_routines.specs.Names.{start_name, piece_name, variable_name, next_name, value_name, to_name, under_name, result_name}
use Rattle.cpc_convert_routines.specs.Routines.{Routine, readings_of, closure_of, local_of}

-- A line: a statement; a way behind one, which is a goto, unless the node stands next; a test with a goto; or a way in place of a statement that
-- changes nothing, which is a goto, or an empty statement where the node stands next.
pub data Line : Type 0 where
  Does : Stmt → Line
  Goes : ℕ → Line
  Tests : Expr → ℕ → Line
  Passes : ℕ → Line

-- a way behind a statement, where there is one
abbrev pub goes : Option ℕ → List Line
goes None = []
goes (Some n) = Goes n ∷ []

-- in place of a statement that changes nothing
abbrev pub passes : Option ℕ → Line
passes None = Does Empty
passes (Some n) = Passes n

-- statements, as lines
abbrev pub all_do : List Stmt → List Line
all_do ss = map (λ s. Does s) ss

-- ---- frames

-- a variable, saved in the field of its name
abbrev pub save_of : Variable → Save
save_of x = record { field = x.called; variable = x.called }

-- a new frame of an owner, over the frame below
abbrev pub frame_lines : Routine → (pointer : Text) → Place → List Stmt
frame_lines r to l =
    asks_block to (piece_name r.function.called l)
    ∷ fills_frame (ENamed to) (frame_through to (piece_name r.function.called l)) code_field next_field (piece_name r.function.called l) (ENamed next_name) (map (λ k. save_of (local_of r k)) (closure_of r l))

-- the same, where the owner may be missing
abbrev pub frame_lines_if : Routine → (pointer : Text) → Option ℕ → List Stmt
frame_lines_if r to None = []
frame_lines_if r to (Some n) = frame_lines r to (At n)

-- the arguments of a call, each with the field of its parameter, the first of which is the k-th
abbrev pub gives_from : (k : ℕ) → List Variable → Readings → Exprs → List Give
gives_from k (x ∷ xs) names (AndExpr e es) = record { field = variable_name k x.called; expression = image names e } ∷ gives_from (suc k) xs names es
gives_from k _ names _ = []

-- the first frame of a call of g
abbrev pub call_lines : Function → Readings → Exprs → List Stmt
call_lines g names es =
    asks_block to_name (start_name g.called)
    ∷ fills_call (ENamed to_name) (frame_through to_name (start_name g.called)) code_field next_field (start_name g.called) (ENamed under_name) (gives_from 0 (variables g) names es)

-- ---- what waits

-- a frame is given to the driver
abbrev pub hands_over : Text → Stmt
hands_over to = Return (Some (ENamed to))

-- no frame is
abbrev pub hands_nothing : Stmt
hands_nothing = Return (Some (EInteger Int (pos 0)))

-- the wait for a callback that stands for a wait
abbrev pub runtime_name : Option Primitive → Text
runtime_name (Some Sleep) = codes "rt_sleep"
runtime_name (Some IoWait) = codes "rt_io"
runtime_name (Some Wait) = codes "rt_wait"
runtime_name prim = codes "rt_ready"

-- a wait of the driver, with the frame of the arrival
abbrev pub wait_lines : Routine → Readings → (arrival : Option ℕ) → Option Primitive → Exprs → List Stmt
wait_lines r names a prim es =
    frame_lines_if r to_name a ++ (Call None (ENamed (runtime_name prim)) (followed (images names es) (ENamed drive_name) (ENamed to_name)) ∷ hands_nothing ∷ [])

-- a section
abbrev pub section_lines : Routine → Readings → (arrival : Option ℕ) → Text → Exprs → List Stmt
section_lines r names a f es = frame_lines_if r to_name a ++ (detaches to_name f (images names es) ∷ hands_nothing ∷ [])

-- a call of a cps function: the frame of the arrival, and above it the first frame of the call, which the driver is given
abbrev pub enter_lines : Routine → Readings → (arrival : Option ℕ) → Function → Exprs → List Stmt
enter_lines r names a g es = frame_lines_if r under_name a ++ (call_lines g names es ++ (hands_over to_name ∷ []))

-- what a name that waits stands for: a cps function, or else a primitive
abbrev pub waits_lines : Routine → Readings → (arrival : Option ℕ) → Text → Option Function → Exprs → List Stmt
waits_lines r names a f None es = wait_lines r names a (primitive_named f) es
waits_lines r names a f (Some g) es = enter_lines r names a g es

-- ---- what returns

-- the boxes are given back
abbrev pub unbox_lines : Routine → List Stmt
unbox_lines r = map (λ k. unboxes_one (local_of r k).called) r.boxes

-- the value of a return, and its way to the frame below
abbrev pub result_lines : Readings → Option Expr → List Stmt
result_lines names None = []
result_lines names (Some e) = Assign (ENamed result_name) None (image names e) ∷ []

abbrev pub patch_lines : Option Expr → List Stmt
patch_lines None = []
patch_lines (Some e) = patches next_name (ENamed result_name) ∷ []

-- the function is left
abbrev pub leave_lines : Routine → Readings → Option Expr → List Stmt
leave_lines r names o = result_lines names o ++ (unbox_lines r ++ (patch_lines o ++ (hands_over next_name ∷ [])))

-- ---- nodes

-- a simple statement in place
abbrev pub simple_lines : Routine → Readings → Stmt → (next : Option ℕ) → List Line
simple_lines r names (Return o) n = all_do (leave_lines r names o)
simple_lines r names (Spawn f es) n = Does (Call None (ENamed (spawner_name f)) (images names es)) ∷ goes n
simple_lines r names (Declare x t (Some e)) n = Does (image_stmt names (Declare x t (Some e))) ∷ goes n
simple_lines r names (Assign e op v) n = Does (image_stmt names (Assign e op v)) ∷ goes n
simple_lines r names (Call to f es) n = Does (image_stmt names (Call to f es)) ∷ goes n
simple_lines r names s n = passes n ∷ []

-- a statement that waits
abbrev pub cps_lines : Program → Routine → Readings → Stmt → (arrival : Option ℕ) → List Stmt
cps_lines p r names (Call to (ENamed f) es) a = waits_lines r names a f (function_named p f) es
cps_lines p r names (Detach to f es) a = section_lines r names a f es
cps_lines p r names s a = []

-- a test; an absent one is passed
abbrev pub test_lines : Readings → Option Expr → (yes no : Option ℕ) → List Line
test_lines names (Some e) (Some n) m = Tests (image names e) n ∷ goes m
test_lines names t n m = passes n ∷ []

-- the place for the value that arrives
abbrev pub arrival_lines : Readings → Option (Option Expr) → (next : Option ℕ) → List Line
arrival_lines names (Some (Some e)) n = Does (Assign (image names e) None (ENamed value_name)) ∷ goes n
arrival_lines names o n = passes n ∷ []

-- where control goes on from the arrival of a native call
abbrev pub behind_arrival : Routine → Option ℕ → Option ℕ
behind_arrival r None = None
behind_arrival r (Some a) = at_node None (λ node. node.yes) (slice_get r.split.graph.nodes a)

-- a call that is left over a frame, with its arrival
abbrev pub framed_lines : Routine → Readings → Stmt → (arrival : Option ℕ) → List Line
framed_lines r names (Call to f es) a = Does (image_stmt names (Call to f es)) ∷ goes (behind_arrival r a)
framed_lines r names s a = passes (behind_arrival r a) ∷ []

-- the lines of what stands at a node
abbrev pub stood_lines : Program → Routine → Readings → Manner → Stood → (yes no arrival : Option ℕ) → List Line
stood_lines p r names w AtEnd n m a = all_do (leave_lines r names None)
stood_lines p r names w (AtArrival x) n m a = arrival_lines names (target_of x) n
stood_lines p r names w (AtStatement (Test t)) n m a = test_lines names t n m
stood_lines p r names InPlace (AtStatement (Simple s)) n m a = simple_lines r names s n
stood_lines p r names ByFrame (AtStatement (Simple s)) n m a = framed_lines r names s a
stood_lines p r names AsCps (AtStatement (Simple s)) n m a = all_do (cps_lines p r names s a)
stood_lines p r names w (AtStatement Nothing) n m a = passes n ∷ []

-- the lines of a node
abbrev pub node_lines : Program → Routine → Node → List Line
node_lines p r node = stood_lines p r (readings_of r node.scope) node.manner node.stood node.yes node.no node.arrival
