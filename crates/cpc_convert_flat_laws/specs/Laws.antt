-- The laws of live blocks, of values, of structs and of flat bodies, as statements.
use Rattle.std.specs.Prelude.{◌≡◌, ℕ, suc, ◌+◌, ◌<◌, Bool, true, false, List, [], ◌∷◌, ◌++◌, length, slice_get, slice_set, Some, None}
use Rattle.cpc_base.specs.Bytes.{Text}
use Rattle.cpc_meaning_matching.specs.Simulation.{one, Path}
use Rattle.cpc_tree.specs.Syntax.{Ty, Expr, Item, StructItem, Stmt, If, Stmts, AndStmt, Absent, Variable, Function, Program}
use Rattle.cpc_tree.specs.Typing.{Scope, is_scalar}
use Rattle.cpc_tree.specs.Points.{Nth, Path as PointPath, Here, found, enter, Out, ToLabel, extended, declared, next_point}
use Rattle.cpc_tree.specs.Registers.{scope_in_function}
use Rattle.cpc_tree.specs.Trace.{Mark}
use Rattle.cpc_store.specs.declared.values.Class.{Class}
use Rattle.cpc_store.specs.Store.{Value, Blocks, Store, cells_of}
use Rattle.cpc_meaning.specs.Answer.{Gives}
use Rattle.cpc_meaning.specs.Eval.{Slot, assigned, InCell, read, Fits}
use Rattle.cpc_meaning.specs.Machine.{next}
use Rattle.cpc_meaning.specs.Events.{callbacks}
use Rattle.cpc_convert_flat_laws.specs.Blocks.{count, lives, Owns}
use Rattle.cpc_convert_flat_laws.specs.Structs.{NoStruct, ScalarFields, IsStruct}
use Rattle.cpc_convert_flat_laws.specs.Flat.{point_at, dropped, bare, standing, onward, is_test, arm, label_in, Stands, LineAt}
use Rattle.cpc_convert_flat_laws.specs.Walks.{Here as State, Quiet, Walk}

-- the live blocks are those that are owned: one more where one is made, one less where one is freed, the same where one is written
pub record LiveBlocksAreOwned : Type 0 where
  pub made : (bs : Blocks) (cells : List Value) (owned : List ℕ) → Owns bs owned → Owns (bs ++ Some cells ∷ []) (length bs ∷ owned)
  pub freed : (bs : Blocks) (c : ℕ) (owned : List ℕ) → Owns bs (c ∷ owned) → Owns (slice_set bs c None) owned
  pub written : (bs : Blocks) (c : ℕ) (cells : List Value) (owned : List ℕ) → lives bs c ≡ 1 → Owns bs owned → Owns (slice_set bs c (Some cells)) owned
  pub reordered : (bs : Blocks) (xs ys : List ℕ) → ((b : ℕ) → count b xs ≡ count b ys) → Owns bs xs → Owns bs ys
  pub apart : (bs : Blocks) (xs ys : List ℕ) → Owns bs (xs ++ ys) → (b : ℕ) → 0 < count b xs → count b ys ≡ 0

-- what is assigned to a type is assigned to it again as it is, and is read back so from a cell of it
pub record ValuesFit : Type 0 where
  pub assigned : (t : Ty) (v w : Value) → assigned t v ≡ Gives w → Fits t w
  pub read : (t : Ty) (slots : List Slot) (s : Store) (c : Class) (n k : ℕ) (cells : List Value) (v : Value) → is_scalar t ≡ true → cells_of c n s ≡ Some cells → slice_get cells k ≡ Some v → Fits t v
      → read slots s (Some t) (InCell c n k) ≡ Gives v

-- a struct of scalar fields of different names has a cell for each
abbrev pub StructsHaveFields : Type 0
StructsHaveFields = (front back : List Item) (tag : Text) (fs : List Variable) → NoStruct tag back → ScalarFields fs → IsStruct (front ++ StructItem tag fs ∷ back) tag fs

-- a statement of a flat body: the position behind it, what stands there, the scope, and where control goes
pub record FlatBodies : Type 0 where
  pub behind : (g : Function) (body : Stmts) (k : ℕ) (scope : Scope) (n : ℕ) (s : Stmt) (rest : Stmts) → Stands g body k scope n (AndStmt s rest) → Stands g body (suc k) (extended scope n s) (n + declared s) rest
  pub stands : (g : Function) (body : Stmts) (k : ℕ) (scope : Scope) (n : ℕ) (s : Stmt) (rest : Stmts) → Stands g body k scope n (AndStmt s rest) → found g.body (Nth k ∷ enter s) ≡ standing (bare s)
  pub scope : (g : Function) (body : Stmts) (k : ℕ) (scope : Scope) (n : ℕ) (s : Stmt) (rest : Stmts) → Stands g body k scope n (AndStmt s rest) → (p : PointPath) → scope_in_function g (Nth k ∷ p) ≡ extended scope n s
  pub goes_on : (g : Function) (body : Stmts) (k : ℕ) (scope : Scope) (n : ℕ) (x : Stmt) (rest : Stmts) (w : LineAt g body k scope n x rest) (h : Bool) → is_test x ≡ false → onward x ≡ Out
      → next_point g.body (Here (Nth k ∷ enter w.statement)) h ≡ Some (point_at (suc k) rest)
  pub jumps : (g : Function) (body : Stmts) (k : ℕ) (scope : Scope) (n : ℕ) (x : Stmt) (rest : Stmts) (w : LineAt g body k scope n x rest) (h : Bool) (l : Text) (j : ℕ) → is_test x ≡ false → onward x ≡ ToLabel l → label_in l body ≡ Some j
      → next_point g.body (Here (Nth k ∷ enter w.statement)) h ≡ Some (point_at j (dropped j body))
  pub holds : (g : Function) (body : Stmts) (k : ℕ) (scope : Scope) (n : ℕ) (x : Stmt) (rest : Stmts) (w : LineAt g body k scope n x rest) (t : Expr) (a : Stmt) → x ≡ If t a Absent
      → next_point g.body (Here (Nth k ∷ enter w.statement)) true ≡ Some (Here (Nth k ∷ arm w.statement))
  pub fails : (g : Function) (body : Stmts) (k : ℕ) (scope : Scope) (n : ℕ) (x : Stmt) (rest : Stmts) (w : LineAt g body k scope n x rest) (t : Expr) (a : Stmt) → x ≡ If t a Absent
      → next_point g.body (Here (Nth k ∷ enter w.statement)) false ≡ Some (point_at (suc k) rest)

-- a walk is a path, to its end or to where another path begins
pub record WalksArePaths : Type 0 where
  pub ends : (q : Program) (trace : List Mark) (n : ℕ) (s t : State) → Walk q trace (suc n) s t → Path (next (callbacks q)) one (λ z. z ≡ t) (Quiet trace) (suc n) s
  pub goes_on : (q : Program) (trace : List Mark) (n d : ℕ) (s t u : State) → Walk q trace n s t → Path (next (callbacks q)) one (λ z. z ≡ u) (Quiet trace) d t → Path (next (callbacks q)) one (λ z. z ≡ u) (Quiet trace) (n + d) s
