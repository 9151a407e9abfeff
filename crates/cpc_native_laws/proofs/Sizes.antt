-- A program whose literals are numbers of their kinds and that breaks no rule has numbers: no size is too great.
use Rattle.std.proofs.Common.{◌≡◌, ℕ, ◌^◌, ◌≤◌, ◌<◌, Bool, true, false, cond, nat_le, List, [], ◌∷◌, ◌++◌, map, Option, Some, None, refl, sym, subst, ◌∙◌, arith, append_assoc}
use Rattle.std.specs.Prelude.{option_map}
use Rattle.std.specs.Option.{is_none}
use Rattle.std.proofs.lemmas.Bool.Decides.{nat_tests}
use Rattle.cpc_base.specs.declared.stop.Place.{Place}
use Rattle.cpc_base.specs.declared.stop.Dialect.{Dialect}
use Rattle.cpc_base.proofs.Truth.{by_false_true}
use Rattle.cpc_tree.specs.declared.program.UnaryOp.TheVariants.{Minus, Plus, Not, Complement, Dereference, AddressOf}
use Rattle.cpc_tree.specs.Syntax.{Ty, Program}
use Rattle.cpc_tree.specs.Located.{Ident, LExpr, LNamed, LInteger, LCharacter, LText, LUnary, LBinary, LAnd, LOr, LChoose, LCast, LSizeOf, LIndex, LMember, LArrow, LCall, LExprs, NoLExpr, AndLExpr, LStmt, Block, Empty, Declare, Assign, Call, Detach, Spawn, If, While, DoWhile, For, Goto, Label, Break, Continue, Return, LStmts, NoLStmt, AndLStmt, MaybeLStmt, NoneLStmt, SomeLStmt, LItem, LStruct, LGlobal, LPrototype, LFunctionItem, bare_expr, bare_exprs, bare_stmt, bare_stmts, bare_maybe, bare_item}
use Rattle.cpc_tree.specs.Typing.{size}
use Rattle.cpc_check_rules.specs.declared.rule.Rule.TheVariants.{Incomplete}
use Rattle.cpc_check_rules.specs.Scopes.{Scope, measured, cell_limit}
use Rattle.cpc_check_rules.specs.Operators.{Where}
use Rattle.cpc_check_rules.specs.Calls.{Callee, Wanted, Integer, Of, Callback, String, ForSection, callee, wanted, Anything}
use Rattle.cpc_check_rules.specs.ExprRules.{called_breaks, arg_breaks, expr_breaks, args_breaks, call_breaks}
use Rattle.cpc_check_rules.specs.StmtRules.{inner, behind, all_behind, target_breaks, to_breaks, test_breaks, maybe_test, start_breaks, started_breaks, return_breaks, stmt_breaks, stmts_breaks, maybe_breaks}
use Rattle.cpc_check_rules.specs.FunctionRules.{reserved_breaks, locals, labels, label_breaks, stray_breaks, many_breaks}
use Rattle.cpc_check_rules.specs.ItemRules.{Signature, outside, declared_breaks, types, cps_breaks, parameters_breaks, sized_breaks, in_body, body_breaks, item_breaks, items_breaks}
use Rattle.cpc_check_laws.proofs.Sound.Unbroken.{split}
use Rattle.cpc_check_laws.proofs.Sound.Agreement.{Grows, sizes_grow}
use Rattle.cpc_check_laws.proofs.Sound.Programs.{grows_all}
use Rattle.cpc_check_laws.proofs.Native.NativeValues.{unbroken}
use Rattle.cpc_eval.specs.Numbers.{FitsSize, HasNumbers, MaybeNumbers, AllNumbers, StmtNumbers, StmtsNumbers, ArmNumbers, ItemsNumbers}
use Rattle.cpc_native_laws.proofs.Literals.{Fine, AllFine, FineIf, FineStmt, FineStmts, FineArm, FineBody, FineItem, FineItems}

within : (n : ℕ) → nat_le n cell_limit ≡ true → n < 2 ^ 64
within n e = let h : n ≤ 2 ^ 16 = grind (arith, nat_tests) in omega (arith, h)

module _ (p : Program) where
  -- what is measured where it stands has so many cells in the whole program
  size_fits : (s : Scope) (t : Ty) → Grows s.items p → is_none (measured s t) ≡ false → FitsSize (size p t)
  size_fits s t g h = go (size s.items t) refl h
    where
      small : (n : ℕ) → size s.items t ≡ Some n → (b : Bool) → nat_le n cell_limit ≡ b → is_none (cond b (Some n) None) ≡ false → FitsSize (size p t)
      small n e true f h = subst FitsSize (sym (sizes_grow s.items p g t n e)) (within n f)
      small n e false f h = by_false_true (sym h)

      go : (o : Option ℕ) → size s.items t ≡ o → is_none (measured (record { items = s.items; blocks = s.blocks }) t) ≡ false → FitsSize (size p t)
      go None e h = by_false_true (sym (let i : is_none (measured s t) ≡ true = simp (e) refl in sym i ∙ h))
      go (Some n) e h = small n e (nat_le n cell_limit) refl (let i : is_none (cond (nat_le n cell_limit) (Some n) None) ≡ is_none (measured s t) = simp (e) refl in i ∙ h)

  -- ---- expressions

  module _ (w : Where) (g : Grows w.scope.items p) where
    expr_numbers : (e : LExpr) → Fine e → expr_breaks w e ≡ [] → HasNumbers p (bare_expr e)
    expr_numbers (LNamed x) f h = tt
    expr_numbers (LInteger q kind z) f h = f
    expr_numbers (LCharacter q z) f h = f
    expr_numbers (LText q bytes) f h = tt
    expr_numbers (LUnary q AddressOf v) f h = expr_numbers v f (split (expr_breaks w v) _ h).0
    expr_numbers (LUnary q Minus v) f h = expr_numbers v f (split (expr_breaks w v) _ h).0
    expr_numbers (LUnary q Plus v) f h = expr_numbers v f (split (expr_breaks w v) _ h).0
    expr_numbers (LUnary q Not v) f h = expr_numbers v f (split (expr_breaks w v) _ h).0
    expr_numbers (LUnary q Complement v) f h = expr_numbers v f (split (expr_breaks w v) _ h).0
    expr_numbers (LUnary q Dereference v) f h = expr_numbers v f (split (expr_breaks w v) _ h).0
    expr_numbers (LBinary q op v u) f h =
        let k = split (expr_breaks w v) _ h in
        (expr_numbers v f.0 k.0, expr_numbers u f.1 (split (expr_breaks w u) _ k.1).0)
    expr_numbers (LAnd q v u) f h =
        let k = split (expr_breaks w v) _ h in
        (expr_numbers v f.0 k.0, expr_numbers u f.1 (split (expr_breaks w u) _ k.1).0)
    expr_numbers (LOr q v u) f h =
        let k = split (expr_breaks w v) _ h in
        (expr_numbers v f.0 k.0, expr_numbers u f.1 (split (expr_breaks w u) _ k.1).0)
    expr_numbers (LChoose q c v u) f h =
        let j = split (expr_breaks w c) _ h in
        let k = split (expr_breaks w v) _ j.1 in
        (expr_numbers c f.0 j.0, expr_numbers v f.1 k.0, expr_numbers u f.2 (split (expr_breaks w u) _ k.1).0)
    expr_numbers (LCast q t v) f h = expr_numbers v f (split (expr_breaks w v) _ h).0
    expr_numbers (LSizeOf q t) f h = size_fits w.scope t g (unbroken (is_none (measured w.scope t)) q Incomplete h)
    expr_numbers (LIndex q v u) f h =
        let k = split (expr_breaks w v) _ h in
        (expr_numbers v f.0 k.0, expr_numbers u f.1 (split (expr_breaks w u) _ k.1).0)
    expr_numbers (LMember q v x) f h = expr_numbers v f (split (expr_breaks w v) _ h).0
    expr_numbers (LArrow q v x) f h = expr_numbers v f (split (expr_breaks w v) _ h).0
    expr_numbers (LCall q v vs) f h = tt

    -- ---- calls

    arg_numbers : (t : Wanted) (e : LExpr) → Fine e → arg_breaks w t e (expr_breaks w e) ≡ [] → HasNumbers p (bare_expr e)
    arg_numbers String (LText q bytes) f h = tt
    arg_numbers Integer e f h = expr_numbers e f (split (expr_breaks w e) _ h).0
    arg_numbers (Of t) e f h = expr_numbers e f (split (expr_breaks w e) _ h).0
    arg_numbers (Callback t) e f h = expr_numbers e f (split (expr_breaks w e) _ h).0
    arg_numbers ForSection e f h = expr_numbers e f (split (expr_breaks w e) _ h).0
    arg_numbers Anything e f h = expr_numbers e f (split (expr_breaks w e) _ h).0
    arg_numbers String e f h = expr_numbers e f (split (expr_breaks w e) _ h).0

    args_numbers : (ts : List Wanted) (es : LExprs) → AllFine es → args_breaks w ts es ≡ [] → AllNumbers p (bare_exprs es)
    args_numbers ts NoLExpr f h = tt
    args_numbers [] (AndLExpr e es) f h =
        let k = split (expr_breaks w e) _ h in
        (expr_numbers e f.0 k.0, args_numbers [] es f.1 k.1)
    args_numbers (t ∷ ts) (AndLExpr e es) f h =
        let k = split (arg_breaks w t e (expr_breaks w e)) _ h in
        (arg_numbers t e f.0 k.0, args_numbers ts es f.1 k.1)

    called_numbers : (e : LExpr) → Fine e → called_breaks w e (expr_breaks w e) ≡ [] → HasNumbers p (bare_expr e)
    called_numbers (LNamed x) f h = tt
    called_numbers e f h = expr_numbers e f (split (expr_breaks w e) _ h).0

    call_numbers : (e : LExpr) (es : LExprs) → Fine e → AllFine es → call_breaks w e es ≡ [] → HasNumbers p (bare_expr e) × AllNumbers p (bare_exprs es)
    call_numbers e es f k h =
        let a = split (called_breaks w e (expr_breaks w e)) _ h in
        (called_numbers e f a.0, args_numbers (wanted (callee w e es)) es k (split _ (args_breaks w (wanted (callee w e es)) es) a.1).1)

    started_numbers : (x : Ident) (c : Callee) (es : LExprs) → AllFine es → started_breaks w x c es ≡ [] → AllNumbers p (bare_exprs es)
    started_numbers x c es f h = args_numbers (wanted c) es f (split _ (args_breaks w (wanted c) es) (split _ _ h).1).1

    to_numbers : (to : Option LExpr) (o : Place) (t : Option Ty) → FineIf to → to_breaks w to o t ≡ [] → MaybeNumbers p (option_map bare_expr to)
    to_numbers None o t f h = tt
    to_numbers (Some v) o t f h = expr_numbers v f (split (expr_breaks w v) _ (split (target_breaks w v) _ h).0).0

    maybe_numbers : (o : Option LExpr) → FineIf o → maybe_test w o ≡ [] → MaybeNumbers p (option_map bare_expr o)
    maybe_numbers None f h = tt
    maybe_numbers (Some e) f h = expr_numbers e f (split (expr_breaks w e) _ h).0

    return_numbers : (q : Place) (o : Option LExpr) → FineIf o → return_breaks w q o ≡ [] → MaybeNumbers p (option_map bare_expr o)
    return_numbers q None f h = tt
    return_numbers q (Some e) f h = expr_numbers e f (split (expr_breaks w e) _ h).0

    start_numbers : (x : Ident) (t : Ty) (o : Option LExpr) → FineIf o → start_breaks w x t o ≡ [] → MaybeNumbers p (option_map bare_expr o)
    start_numbers x t None f h = tt
    start_numbers x t (Some e) f h = expr_numbers e f (split (expr_breaks w e) _ h).0

  -- ---- statements

  behind_grows : (w : Where) (s : LStmt) → Grows w.scope.items p → Grows (behind w s).scope.items p
  behind_grows w (Declare q x t start) g = g
  behind_grows w s g = g

  all_behind_grows : (w : Where) (ss : LStmts) → Grows w.scope.items p → Grows (all_behind w ss).scope.items p
  all_behind_grows w NoLStmt g = g
  all_behind_grows w (AndLStmt s ss) g = all_behind_grows (behind w s) ss (behind_grows w s g)

  mutual
    stmt_numbers : (w : Where) → Grows w.scope.items p → (s : LStmt) → FineStmt s → stmt_breaks w s ≡ [] → StmtNumbers p (bare_stmt s)
    stmt_numbers w g (Block q ss) f h = stmts_numbers (inner w) g ss f h
    stmt_numbers w g (Empty q) f h = tt
    stmt_numbers w g (Declare q x t start) f h = start_numbers (behind w (Declare q x t start)) g x t start f (split _ _ (split _ _ h).1).1
    stmt_numbers w g (Assign q o v op e) f h =
        let k = split (target_breaks w v) _ h in
        (expr_numbers w g v f.0 (split (expr_breaks w v) _ k.0).0, expr_numbers w g e f.1 (split (expr_breaks w e) _ k.1).0)
    stmt_numbers w g (Call q o to e es) f h =
        let k = split _ (call_breaks w e es) h in
        let c = call_numbers w g e es f.1 f.2 k.1 in
        (to_numbers w g to o _ f.0 k.0, c.0, c.1)
    stmt_numbers w g (Detach q o k to x es) f h =
        let j = split _ _ h in
        (to_numbers w g to o _ f.0 j.0, started_numbers w g x _ es f.1 (split _ _ (split _ _ j.1).1).1)
    stmt_numbers w g (Spawn q x es) f h = started_numbers w g x _ es f (split _ _ (split _ _ h).1).1
    stmt_numbers w g (If q c s r) f h =
        let j = split (test_breaks w c) _ h in
        let k = split (stmt_breaks w s) (maybe_breaks w r) j.1 in
        (expr_numbers w g c f.0 (split (expr_breaks w c) _ j.0).0, stmt_numbers w g s f.1 k.0, arm_numbers w g r f.2 k.1)
    stmt_numbers w g (While q c s) f h =
        let j = split (test_breaks w c) _ h in
        (expr_numbers w g c f.0 (split (expr_breaks w c) _ j.0).0, stmt_numbers w g s f.1 j.1)
    stmt_numbers w g (DoWhile q s c) f h =
        let j = split (stmt_breaks w s) _ h in
        (stmt_numbers w g s f.0 j.0, expr_numbers w g c f.1 (split (expr_breaks w c) _ j.1).0)
    stmt_numbers w g (For q ss c r s) f h =
        let v = all_behind (inner w) ss in
        let k = all_behind_grows (inner w) ss g in
        let a = split (stmts_breaks (inner w) ss) _ h in
        let b = split (maybe_test v c) _ a.1 in
        let d = split (maybe_breaks v r) (stmt_breaks v s) b.1 in
        (stmts_numbers (inner w) g ss f.0 a.0, maybe_numbers v k c f.1 b.0, arm_numbers v k r f.2 d.0, stmt_numbers v k s f.3 d.1)
    stmt_numbers w g (Goto q x) f h = tt
    stmt_numbers w g (Label x s) f h = stmt_numbers w g s f h
    stmt_numbers w g (Break q) f h = tt
    stmt_numbers w g (Continue q) f h = tt
    stmt_numbers w g (Return q v) f h = return_numbers w g q v f h

    stmts_numbers : (w : Where) → Grows w.scope.items p → (ss : LStmts) → FineStmts ss → stmts_breaks w ss ≡ [] → StmtsNumbers p (bare_stmts ss)
    stmts_numbers w g NoLStmt f h = tt
    stmts_numbers w g (AndLStmt s ss) f h =
        let k = split (stmt_breaks w s) (stmts_breaks (behind w s) ss) h in
        (stmt_numbers w g s f.0 k.0, stmts_numbers (behind w s) (behind_grows w s g) ss f.1 k.1)

    arm_numbers : (w : Where) → Grows w.scope.items p → (r : MaybeLStmt) → FineArm r → maybe_breaks w r ≡ [] → ArmNumbers p (bare_maybe r)
    arm_numbers w g NoneLStmt f h = tt
    arm_numbers w g (SomeLStmt s) f h = stmt_numbers w g s f h

  body_numbers : (w : Where) → Grows w.scope.items p → (body : LStmt) → FineBody body → body_breaks w body ≡ [] → StmtNumbers p (bare_stmt body)
  body_numbers w g (Block q ss) f h = stmts_numbers w g ss f h
  body_numbers w g _ f h = absurd f

-- ---- items

-- of a function where it stands
item_numbers : (dialect : Dialect) (p before : Program) (x : LItem) (rest : Program) → Grows (before ++ bare_item x ∷ []) p → FineItem x → item_breaks dialect p before x ≡ [] → ItemsNumbers p rest → ItemsNumbers p (bare_item x ∷ rest)
item_numbers dialect p before (LStruct tag fs) rest g f h k = k
item_numbers dialect p before (LGlobal x t start) rest g f h k = k
item_numbers dialect p before (LPrototype q mode x r ps) rest g f h k = k
item_numbers dialect p before (LFunctionItem x) rest g f h k =
    let new : Signature = record { mode = x.mode; result = x.result; parameters = types x.parameters; is_defined = true } in
    let h1 = split (reserved_breaks dialect (x.called ∷ [])) _ h in
    let h2 = split (cps_breaks dialect x.mode x.place) _ h1.1 in
    let h3 = split (declared_breaks before x.called new) _ h2.1 in
    let h4 = split (parameters_breaks dialect x.parameters) _ h3.1 in
    let h5 = split (sized_breaks (outside dialect before).scope x.parameters) _ h4.1 in
    let w = in_body dialect before x in
    (body_numbers p w g x.body f.0 (split (body_breaks w x.body) (reserved_breaks dialect (locals x.body ++ labels x.body) ++ (label_breaks x.body ++ (stray_breaks x.body ++ many_breaks dialect x.parameters x.body))) h5.1).0, k)

-- The numbers of the functions of items that break no rule.
pub items_numbers : (dialect : Dialect) (p before : Program) (xs : List LItem) → p ≡ before ++ map bare_item xs → FineItems xs → items_breaks dialect p before xs ≡ [] → ItemsNumbers p (map bare_item xs)
items_numbers dialect p before [] e f h = tt
items_numbers dialect p before (x ∷ xs) e f h =
    let k = split (item_breaks dialect p before x) (items_breaks dialect p (before ++ bare_item x ∷ []) xs) h in
    let next = before ++ bare_item x ∷ [] in
    let whole : p ≡ next ++ map bare_item xs = e ∙ sym (append_assoc before (bare_item x ∷ []) (map bare_item xs)) in
    item_numbers dialect p before x (map bare_item xs) (subst (Grows next) (sym whole) (grows_all dialect p next xs k.1)) f.0 k.0 (items_numbers dialect p next xs whole f.1 k.1)
