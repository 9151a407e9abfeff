-- Steps at the lines of a flat body, each a walk to the next line.
use Rattle.std.proofs.Common.{◌≡◌, ℕ, suc, ◌+◌, ◌≤◌, ◌<◌, ◌^◌, true, false, List, length, slice_set, replicate, pos, Option, Some, None, option_map, refl, ◌∙◌, ap, arith, codes}
use Rattle.std.proofs.lemmas.List.{length-replicate}
use Rattle.cpc_base.specs.Bytes.{Text}
use Rattle.cpc_num.specs.declared.kinds.Kind.TheVariants.{ULong}
use Rattle.cpc_tree.specs.Syntax.{Ty, TyPointer, TyStruct, Expr, ENamed, EArrow, ESizeOf, Exprs, NoExpr, AndExpr, Stmt, Declare, Assign, Call, Stmts, AndStmt, Function, Program}
use Rattle.cpc_tree.specs.Typing.{Scope, NotMeant, named, function_named, field, size}
use Rattle.cpc_tree.specs.Points.{Point, Simple, Out, extended}
use Rattle.cpc_store.specs.declared.values.Class.TheVariants.{Auto, Frame}
use Rattle.cpc_store.specs.Store.{Value, Unset, Whole, At, Store, blocks, with_blocks, next_block, alloc, cells_of, store_cells}
use Rattle.cpc_store.proofs.CellLemmas.{store_cells-alloc, store_cells-free}
use Rattle.cpc_meaning.specs.Answer.{Gives}
use Rattle.cpc_meaning.specs.Eval.{Slot, Register, value, assigned}
use Rattle.cpc_meaning_laws.proofs.Cell.Going.{going_on_keeps}
use Rattle.cpc_meaning.specs.Act.{AtStatement, AtArrival, GoesOn, AsksFor, simple_act, deliver, assign}
use Rattle.cpc_meaning.specs.Plain.{Frame as CallFrame, Stack}
use Rattle.cpc_meaning.specs.Trees.{trees}
use Rattle.cpc_meaning.specs.Requests.{Request}
use Rattle.cpc_meaning.specs.Machine.{asked_by, replies}
use Rattle.cpc_meaning.specs.Events.{callbacks}
use Rattle.cpc_convert_flat_laws.specs.Flat.{point_at, is_test, standing, onward, Stands, LineAt}
use Rattle.cpc_convert_flat_laws.specs.Walks.{World, Rise, Walk, at_line}
use Rattle.cpc_convert_flat_laws.proofs.Walks.{rise_one, rise_more}
use Rattle.cpc_convert_flat_laws.proofs.Flat.{path_at, found_here, scope_here, next_out}
use Rattle.cpc_convert_flat_laws.proofs.AtLine.{line_path, line_found, line_scope, line_next}
use Rattle.cpc_convert_flat_laws.proofs.Steps.{step_on, step_asks, replied}
use Rattle.cpc_convert_flat_laws.specs.Locals.{Holds, PointsTo, at}
use Rattle.cpc_convert_flat_laws.proofs.Fields.{field_assign}
use Rattle.cpc_convert_flat_laws.proofs.Asking.{asks_frame, asks_box, asks_frame_free, asks_unbox, size_value, allocated_there, freed_frame, freed_box, local_assign}

module _ (q : Program) (w : World) (fn : Text) (g : Function) (body : Stmts) (below : List (CallFrame Point)) (is_g : function_named q fn ≡ Some g) where
  module _ (k : ℕ) (scope : Scope) (n : ℕ) (rest : Stmts) (slots : List Slot) (s : Store) where
    -- a line after which control goes on keeps the live cells
    pub line_level : (x : Stmt) (l : LineAt g body k scope n x rest) → standing x ≡ Simple x → is_test x ≡ false → onward x ≡ Out → (t : Store) (slots' : List Slot)
        → simple_act (at q scope slots s) g.result x ≡ Gives (GoesOn true t slots') → Rise q w.trace 1 0 (at_line w fn below k (AndStmt l.statement rest) slots s) (at_line w fn below (suc k) rest slots' t)
    line_level x l stands no_test out t slots' is_act =
        let keeps = going_on_keeps (at q scope slots s) g.result None (AtStatement (Simple x)) true t slots' is_act in
        rise_one 0 _ _
        (step_on q w fn g below is_g slots s (line_path g body k scope n x rest l) scope (line_scope g body k scope n x rest l _) (Simple x) (line_found g body k scope n x rest l ∙ stands) true t slots' (point_at (suc k) rest) is_act (line_next g body k scope n x rest l true no_test out))
        (record { is_trace = refl; goes = refl; runs = refl })
        (let a = keeps.0 in let b = keeps.1 in omega (arith, a, b))

    -- a line after which control goes on
    pub line_step : (x : Stmt) (l : LineAt g body k scope n x rest) → standing x ≡ Simple x → is_test x ≡ false → onward x ≡ Out → (t : Store) (slots' : List Slot)
        → simple_act (at q scope slots s) g.result x ≡ Gives (GoesOn true t slots') → Walk q w.trace 1 (at_line w fn below k (AndStmt l.statement rest) slots s) (at_line w fn below (suc k) rest slots' t)
    line_step x l stands no_test out t slots' is_act =
        rise_more 1 0 1 _ _ (omega arith) (line_level x l stands no_test out t slots' is_act)

    -- a call of a primitive that gives a value
    pub call_step : (target : Option Expr) (f : Expr) (es : Exprs) (l : LineAt g body k scope n (Call target f es) rest) → (r : Request) (t : Store) (v : Value)
        → simple_act (at q scope slots s) g.result (Call target f es) ≡ Gives (AsksFor r)
        → ((j : Stack Point) → asked_by (callbacks q) j (at_line w fn below k (AndStmt l.statement rest) slots s) r.asked r.arguments ≡ replies (trees q) j (Gives (t, v)) (at_line w fn below k (AndStmt l.statement rest) slots s))
        → (u : Store) (slots' : List Slot) → deliver (at q scope slots t) target v ≡ Gives (slots', u) → (grown : ℕ) → store_cells t ≤ store_cells s + grown
        → Rise q w.trace 1 grown (at_line w fn below k (AndStmt l.statement rest) slots s) (at_line w fn below (suc k) rest slots' u)
    call_step target f es l r t v is_act is_answer u slots' is_deliver grown few =
        let kept = going_on_keeps (at q scope slots t) g.result (Some v) (AtArrival (Simple (Call target f es))) true u slots' (simp (is_deliver) refl) in
        let x = Call target f es in
        let path = line_path g body k scope n x rest l in
        let is_found = line_found g body k scope n x rest l in
        let is_scope = line_scope g body k scope n x rest l _ in
        let is_next = line_next g body k scope n x rest l true refl refl in
        rise_one grown _ _
        (step_asks q w fn g below is_g slots s path scope is_scope (Simple x) is_found r (at_line w fn below (suc k) rest slots' u) is_act (is_answer _ ∙ replied q w fn g below is_g slots s path scope is_scope target f es is_found v t u slots' (point_at (suc k) rest) is_deliver is_next))
        (record { is_trace = refl; goes = refl; runs = refl })
        (let a = kept.0 in let b = kept.1 in omega (arith, few, a, b))

    -- a declaration with a start
    pub declare_step : (x : Text) (t : Ty) (e : Expr) → Stands g body k scope n (AndStmt (Declare x t (Some e)) rest) → (u : Value) (slots' : List Slot) (s' : Store)
        → value (at q (extended scope n (Declare x t (Some e))) slots s) e ≡ Gives u → assign (at q (extended scope n (Declare x t (Some e))) slots s) (ENamed x) u ≡ Gives (slots', s')
        → Rise q w.trace 1 0 (at_line w fn below k (AndStmt (Declare x t (Some e)) rest) slots s) (at_line w fn below (suc k) rest slots' s')
    declare_step x t e st u slots' s' is_value is_assign =
        let d = Declare x t (Some e) in
        let kept = going_on_keeps (at q (extended scope n d) slots s) g.result None (AtStatement (Simple d)) true s' slots' (simp (is_value, is_assign) refl) in
        rise_one 0 _ _
        (step_on q w fn g below is_g slots s (path_at k d) (extended scope n d) (scope_here g body k scope n d rest st _) (Simple d) (found_here g body k scope n d rest st) true s' slots' (point_at (suc k) rest) (simp (is_value, is_assign) refl) (next_out g body k scope n d rest st _ true refl))
        (record { is_trace = refl; goes = refl; runs = refl })
        (let a = kept.0 in let b = kept.1 in omega (arith, a, b))

    -- a declaration without one
    pub declares_step : (x : Text) (t : Ty) → Stands g body k scope n (AndStmt (Declare x t None) rest)
        → Rise q w.trace 1 0 (at_line w fn below k (AndStmt (Declare x t None) rest) slots s) (at_line w fn below (suc k) rest slots s)
    declares_step x t st =
        let d = Declare x t None in
        rise_one 0 _ _
        (step_on q w fn g below is_g slots s (path_at k d) (extended scope n d) (scope_here g body k scope n d rest st _) (Simple d) (found_here g body k scope n d rest st) true s slots (point_at (suc k) rest) refl (next_out g body k scope n d rest st _ true refl))
        (record { is_trace = refl; goes = refl; runs = refl })
        (omega arith)

    -- `to = rt_frame(sizeof(struct T));`
    pub frame_step : (to tag : Text) (l : LineAt g body k scope n (Call (Some (ENamed to)) (ENamed (codes "rt_frame")) (AndExpr (ESizeOf (TyStruct tag)) NoExpr)) rest)
        → named q scope (codes "rt_frame") ≡ NotMeant → (m : ℕ) → size q (TyStruct tag) ≡ Some m → m < 2 ^ 63 → (t : Ty) (old : Value) (h : Holds q scope slots to (TyPointer t) old)
        → Rise q w.trace 1 m (at_line w fn below k (AndStmt l.statement rest) slots s) (at_line w fn below (suc k) rest (slice_set slots h.slot (Register (At Frame (next_block Frame s) 0))) (alloc Frame (replicate m Unset) s))
    frame_step to tag l is_named m is_size small t old h =
        let made = alloc Frame (replicate m Unset) s in
        call_step (Some (ENamed to)) (ENamed (codes "rt_frame")) (AndExpr (ESizeOf (TyStruct tag)) NoExpr) l _ made (At Frame (next_block Frame s) 0)
        (asks_frame q scope slots s g.result (Some (ENamed to)) (ESizeOf (TyStruct tag)) m is_named small (size_value q scope slots s (TyStruct tag) m is_size))
        (λ j. ap (λ a. replies (trees q) j a (at_line w fn below k (AndStmt l.statement rest) slots s)) (allocated_there Frame m s))
        made _ (local_assign q scope slots made to (TyPointer t) old (At Frame (next_block Frame s) 0) (At Frame (next_block Frame s) 0) h refl) m
        (let a = store_cells-alloc Frame (replicate m Unset) s in let b = length-replicate {A = Value} m Unset in omega (arith, a, b))

    -- `x = rt_box(e);`
    pub box_step : (x : Text) (e : Expr) (l : LineAt g body k scope n (Call (Some (ENamed x)) (ENamed (codes "rt_box")) (AndExpr e NoExpr)) rest)
        → named q scope (codes "rt_box") ≡ NotMeant → (m : ℕ) → value (at q scope slots s) e ≡ Gives (Whole ULong (pos m)) → m < 2 ^ 63 → (t : Ty) (old : Value) (h : Holds q scope slots x (TyPointer t) old)
        → Rise q w.trace 1 m (at_line w fn below k (AndStmt l.statement rest) slots s) (at_line w fn below (suc k) rest (slice_set slots h.slot (Register (At Auto (next_block Auto s) 0))) (alloc Auto (replicate m Unset) s))
    box_step x e l is_named m is_value small t old h =
        let made = alloc Auto (replicate m Unset) s in
        call_step (Some (ENamed x)) (ENamed (codes "rt_box")) (AndExpr e NoExpr) l _ made (At Auto (next_block Auto s) 0)
        (asks_box q scope slots s g.result (Some (ENamed x)) e m is_named small is_value)
        (λ j. ap (λ a. replies (trees q) j a (at_line w fn below k (AndStmt l.statement rest) slots s)) (allocated_there Auto m s))
        made _ (local_assign q scope slots made x (TyPointer t) old (At Auto (next_block Auto s) 0) (At Auto (next_block Auto s) 0) h refl) m
        (let a = store_cells-alloc Auto (replicate m Unset) s in let b = length-replicate {A = Value} m Unset in omega (arith, a, b))

    -- `rt_frame_free(e);`
    pub frame_free_step : (e : Expr) (l : LineAt g body k scope n (Call None (ENamed (codes "rt_frame_free")) (AndExpr e NoExpr)) rest) → named q scope (codes "rt_frame_free") ≡ NotMeant
        → (b : ℕ) (cells : List Value) → value (at q scope slots s) e ≡ Gives (At Frame b 0) → cells_of Frame b s ≡ Some cells
        → Rise q w.trace 1 0 (at_line w fn below k (AndStmt l.statement rest) slots s) (at_line w fn below (suc k) rest slots (with_blocks Frame (slice_set (blocks Frame s) b None) s))
    frame_free_step e l is_named b cells is_value live =
        (call_step None (ENamed (codes "rt_frame_free")) (AndExpr e NoExpr) l _ _ Unset
        (asks_frame_free q scope slots s g.result None e Frame b is_named is_value)
        (λ j. ap (λ a. replies (trees q) j a (at_line w fn below k (AndStmt l.statement rest) slots s)) (freed_frame b cells s live))
        _ _ refl 0
        (let a = store_cells-free Frame b (length cells) s (ap (option_map length) live) in omega (arith, a)))

    -- `rt_unbox(e);`
    pub unbox_step : (e : Expr) (l : LineAt g body k scope n (Call None (ENamed (codes "rt_unbox")) (AndExpr e NoExpr)) rest) → named q scope (codes "rt_unbox") ≡ NotMeant
        → (b : ℕ) (cells : List Value) → value (at q scope slots s) e ≡ Gives (At Auto b 0) → cells_of Auto b s ≡ Some cells
        → Walk q w.trace 1 (at_line w fn below k (AndStmt l.statement rest) slots s) (at_line w fn below (suc k) rest slots (with_blocks Auto (slice_set (blocks Auto s) b None) s))
    unbox_step e l is_named b cells is_value live =
        rise_more 1 0 1 _ _ (omega arith)
        (call_step None (ENamed (codes "rt_unbox")) (AndExpr e NoExpr) l _ _ Unset
        (asks_unbox q scope slots s g.result None e Auto b is_named is_value)
        (λ j. ap (λ a. replies (trees q) j a (at_line w fn below k (AndStmt l.statement rest) slots s)) (freed_box b cells s live))
        _ _ refl 0
        (let a = store_cells-free Auto b (length cells) s (ap (option_map length) live) in omega (arith, a)))

    -- `e->y = v;`
    pub field_step : (e v : Expr) (y : Text) (l : LineAt g body k scope n (Assign (EArrow e y) None v) rest) → (tag : Text) (b : ℕ) → PointsTo q scope slots s e tag b → (cells : List Value) → cells_of Frame b s ≡ Some cells
        → (i : ℕ) (t : Ty) → field q tag y ≡ Some (i, t) → i < length cells → (u v' : Value) → value (at q scope slots s) v ≡ Gives u → assigned t u ≡ Gives v'
        → Rise q w.trace 1 0 (at_line w fn below k (AndStmt l.statement rest) slots s) (at_line w fn below (suc k) rest slots (with_blocks Frame (slice_set (blocks Frame s) b (Some (slice_set cells i v'))) s))
    field_step e v y l tag b p cells live i t is_field inside u v' is_value is_assigned =
        line_level (Assign (EArrow e y) None v) l refl refl refl _ slots
        (let a = field_assign q scope slots s e tag b p cells live y i t is_field u v' inside is_assigned in simp (is_value, a) refl)
