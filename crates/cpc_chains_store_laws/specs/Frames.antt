-- Statements that make, take up and patch frames, and what they need.
use Rattle.std.specs.Prelude.{◌≡◌, ℕ, suc, ◌+◌, List, [], ◌∷◌, map, length, slice_set, codes, Some, None}
use Rattle.cpc_base.specs.Bytes.{Text}
use Rattle.cpc_tree.specs.Syntax.{Ty, TyPointer, TyStruct, Expr, ENamed, ECast, ESizeOf, EArrow, NoExpr, AndExpr, Stmt, Declare, Assign, Call, Stmts, AndStmt, Variable, Program}
use Rattle.cpc_tree.specs.Typing.{Scope, field}
use Rattle.cpc_store.specs.declared.values.Class.TheVariants.{Frame}
use Rattle.cpc_store.specs.Store.{Value, At, Store, alloc}
use Rattle.cpc_num.specs.declared.kinds.Fault.{Fault}
use Rattle.cpc_meaning.specs.Answer.{Gives, Faults}
use Rattle.cpc_meaning.specs.Eval.{Slot, Register, value, assigned}
use Rattle.cpc_convert_flat_laws.specs.Flat.{before}
pub use Rattle.cpc_convert_flat_laws.specs.Locals.{saves_one}
use Rattle.cpc_convert_flat_laws.specs.Locals.{Save, at, Load, loads_one, loaded_scope, declares_one, declared_scope}

-- ---- a frame is made

-- a frame through a pointer of another type
abbrev pub frame_through : (pointer tag : Text) → Expr
frame_through to tag = ECast (TyPointer (TyStruct tag)) (ENamed to)

-- `pointer = rt_frame(sizeof(struct T));`
abbrev pub asks_block : (pointer tag : Text) → Stmt
asks_block to tag = Call (Some (ENamed to)) (ENamed (codes "rt_frame")) (AndExpr (ESizeOf (TyStruct tag)) NoExpr)

-- the code, the frame below and the values of a new frame, the first two through a pointer to what it begins as
abbrev pub fills_frame : (start frame : Expr) → (code next : Text) → (piece : Text) → (below : Expr) → List Save → List Stmt
fills_frame start f code next piece below saves = Assign (EArrow start code) None (ENamed piece) ∷ Assign (EArrow start next) None below ∷ map (saves_one f) saves

-- the slots with a pointer to the newest block
abbrev pub pointed_slots : List Slot → ℕ → ℕ → List Slot
pointed_slots slots i b = slice_set slots i (Register (At Frame b 0))

-- ---- a frame is taken up

-- `rt_frame_free(pointer);`
abbrev pub frees_frame : Text → Stmt
frees_frame k = Call None (ENamed (codes "rt_frame_free")) (AndExpr (ENamed k) NoExpr)

-- a piece takes its frame, loads these fields, and declares these locals
abbrev pub opens_frame : (parameter frame tag : Text) → List Load → List Variable → Stmts → Stmts
opens_frame k e tag ls ds rest = AndStmt (Declare e (TyPointer (TyStruct tag)) (Some (ENamed k))) (before (map (loads_one e) ls) (before (map declares_one ds) rest))

-- and gives the frame back
abbrev pub takes_frame : (parameter frame tag : Text) → List Load → List Variable → Stmts → Stmts
takes_frame k e tag ls ds rest = opens_frame k e tag ls ds (AndStmt (frees_frame k) rest)

-- the scope behind it
abbrev pub taken_scope : Scope → ℕ → (frame tag : Text) → List Load → List Variable → Scope
taken_scope scope n e tag ls ds = declared_scope (loaded_scope (record { called = e; type = TyPointer (TyStruct tag); slot = n } ∷ scope) (suc n) ls) (suc n + length ls) ds

-- ---- arguments

-- a field of a frame, and the expression whose value it gets
pub record Give : Type 0 where
  pub field : Text
  pub expression : Expr

-- an argument is evaluated into its field
abbrev pub gives_one : (frame : Expr) → Give → Stmt
gives_one f p = Assign (EArrow f p.field) None p.expression

-- the code, the frame below and the arguments of a new frame, likewise
abbrev pub fills_call : (start frame : Expr) → (code next : Text) → (piece : Text) → (below : Expr) → List Give → List Stmt
fills_call start f code next piece below gives = Assign (EArrow start code) None (ENamed piece) ∷ Assign (EArrow start next) None below ∷ map (gives_one f) gives

-- these expressions have values, whatever the new frame holds already, which are assigned to the fields from the i-th on
pub data Giving (q : Program) (scope : Scope) (slots : List Slot) (tag : Text) (s : Store) : (i : ℕ) → List Give → List Value → Type 0 where
  NoGiving : (i : ℕ) → Giving q scope slots tag s i [] []
  AndGiving : (i : ℕ) (p : Give) (t : Ty) (u v : Value) (ps : List Give) (vs : List Value) → field q tag p.field ≡ Some (i, t) → ((cells : List Value) → value (at q scope slots (alloc Frame cells s)) p.expression ≡ Gives u) → assigned t u ≡ Gives v
      → Giving q scope slots tag s (suc i) ps vs → Giving q scope slots tag s i (p ∷ ps) (v ∷ vs)

-- the first of them that has no value faults
pub data GivingFaults (q : Program) (scope : Scope) (slots : List Slot) (tag : Text) (s : Store) (fault : Fault) : (i : ℕ) → List Give → Type 0 where
  FirstFaults : (i : ℕ) (p : Give) (ps : List Give) → ((cells : List Value) → value (at q scope slots (alloc Frame cells s)) p.expression ≡ Faults fault) → GivingFaults q scope slots tag s fault i (p ∷ ps)
  LaterFaults : (i : ℕ) (p : Give) (t : Ty) (u v : Value) (ps : List Give) → field q tag p.field ≡ Some (i, t) → ((cells : List Value) → value (at q scope slots (alloc Frame cells s)) p.expression ≡ Gives u) → assigned t u ≡ Gives v
      → GivingFaults q scope slots tag s fault (suc i) ps → GivingFaults q scope slots tag s fault i (p ∷ ps)
