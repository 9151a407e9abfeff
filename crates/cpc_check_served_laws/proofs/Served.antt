-- Event programs that break no rule ask only for what the loop answers.
use Rattle.std.proofs.Common.{◌≡◌, ◌∙◌, ◌&&◌, true, false, List, [], ◌∷◌, ◌++◌, map, not, Option, Some, None, refl, subst, sym, ap}
use Rattle.cpc_base.specs.Bytes.{Text}
use Rattle.cpc_base.specs.declared.stop.Dialect.TheVariants as D
use Rattle.cpc_base.specs.declared.stop.Place.{Place}
use Rattle.cpc_base.proofs.Truth.{and_holds, by_true_false, and_with_true}
use Rattle.cpc_num.specs.declared.kinds.Kind.TheVariants.{Int}
use Rattle.cpc_tree.specs.Syntax.{TyInt, Program}
use Rattle.cpc_tree.specs.Located.{Ident, LExpr, LNamed, LInteger, LCharacter, LText, LUnary, LBinary, LAnd, LOr, LChoose, LCast, LSizeOf, LIndex, LMember, LArrow, LCall, LExprs, LStmt, Block, Empty, Declare, Assign, Call, Detach, Spawn, If, While, DoWhile, For, Goto, Label, Break, Continue, Return, LStmts, NoLStmt, AndLStmt, MaybeLStmt, NoneLStmt, SomeLStmt, LFunction, LItem, LStruct, LGlobal, LPrototype, LFunctionItem, bare, bare_expr, bare_item, bare_maybe, bare_stmt, bare_stmts}
use Rattle.cpc_tree.specs.Primitives.{Primitive, Print, Putc, Puts, Now, CondNew, CondFree, Signal, SignalAll, Exit, Malloc, Free, RtFrame, RtBox, RtFrameFree, RtUnbox, RtReady, RtWait, RtSleep, RtIo, RtDetach, primitive_named}
use Rattle.cpc_check_rules.specs.declared.rule.Rule.TheVariants.{CpsForm, CpsInNative, NotClosed, RtCall, Twice}
use Rattle.cpc_check_rules.specs.Rule.{Broken, at_if}
use Rattle.cpc_check_rules.specs.Scopes.{meant}
use Rattle.cpc_check_rules.specs.Operators.{Where, is_cps, is_detached}
use Rattle.cpc_check_rules.specs.Calls.{callee, gives_up, is_closed, is_event, is_rt, named_breaks, primitive_breaks, result}
use Rattle.cpc_check_rules.specs.ExprRules.{call_breaks, called_breaks, expr_breaks}
use Rattle.cpc_check_rules.specs.StmtRules.{all_behind, behind, inner, maybe_breaks, maybe_test, section_breaks, stmt_breaks, stmts_breaks, test_breaks, to_breaks}
use Rattle.cpc_check_rules.specs.FunctionRules.{labels, locals, locals_in, locals_maybe, parameter_names, repeated, reserved_breaks}
use Rattle.cpc_check_rules.specs.ItemRules.{body_breaks, cps_breaks, declared_breaks, function_breaks, in_body, item_breaks, items_breaks, outside, parameter_block, parameters_breaks, sized_breaks, types}
use Rattle.cpc_check_laws.proofs.Sound.Agendas.{Each}
use Rattle.cpc_check_laws.proofs.Sound.Grammar.{items_shape}
use Rattle.cpc_check_laws.proofs.Sound.Programs.{BodyShape, ItemShape}
use Rattle.cpc_check_laws.proofs.Sound.Shapes.{AllWritten, MaybeWritten, StepWritten, Written, all_first_written}
use Rattle.cpc_check_laws.proofs.Sound.Unbroken.{split}
use Rattle.cpc_check_laws.proofs.Run.Names.{NoneDeclared, primitive_kept}
use Rattle.cpc_check_laws.proofs.Native.NativeValues.{unbroken}
use Rattle.cpc_native_builtins.specs.Served.{are_served, calls_served, is_served, is_served_arm, is_served_item, is_served_program, is_served_stmt, serves}
use Rattle.cpc_check_served_laws.specs.Laws.{AcceptedAreServed}
use Rattle.cpc_check_served_laws.proofs.Scopes.{AreFree, Inside, block_passed, first_free, free_names, inside_all_behind, inside_behind, inside_inner, item_free, last_free, parameters_free}

-- ---- calls

-- the loop answers each primitive but those at which a thread gives up the processor
unless_waits : (prim : Primitive) → gives_up prim ≡ false → is_served prim ≡ true
unless_waits Print h = refl
unless_waits Putc h = refl
unless_waits Puts h = refl
unless_waits Now h = refl
unless_waits CondNew h = refl
unless_waits CondFree h = refl
unless_waits Signal h = refl
unless_waits SignalAll h = refl
unless_waits Exit h = refl
unless_waits Malloc h = refl
unless_waits Free h = refl
unless_waits RtFrame h = refl
unless_waits RtBox h = refl
unless_waits RtFrameFree h = refl
unless_waits RtUnbox h = refl
unless_waits RtReady h = refl
unless_waits RtWait h = refl
unless_waits RtSleep h = refl
unless_waits RtIo h = refl
unless_waits RtDetach h = refl
unless_waits _ h = absurd cc

primitive_served : (w : Where) (q : Place) (prim : Primitive) → is_event w.dialect ≡ true → primitive_breaks w q prim ≡ [] → is_served prim ≡ true
primitive_served w q prim event h =
    let k = split (at_if (gives_up prim && not (is_cps w.mode)) q CpsInNative) _ h in
    let l = split (at_if (is_detached w.mode && not (is_closed prim)) q NotClosed) _ k.1 in
    let m = split (at_if (is_rt prim && not (is_event w.dialect)) q RtCall) (at_if (gives_up prim && is_event w.dialect) q CpsForm) l.1 in
    unless_waits prim (sym (ap (λ b. gives_up prim && b) event ∙ and_with_true (gives_up prim)) ∙ unbroken (gives_up prim && is_event w.dialect) q CpsForm m.1)

name_served : (w : Where) → Inside w → (f : LExpr) (q : Place) (parts : Broken) (x : Text) → named_breaks w f q parts (meant w.scope x) (primitive_named x) ≡ []
    → serves (primitive_named x) ≡ true
name_served w i f q parts x h = go (primitive_named x) refl h
  where
    go : (o : Option Primitive) → primitive_named x ≡ o → named_breaks w f q parts (meant w.scope x) o ≡ [] → serves o ≡ true
    go None e h = refl
    go (Some prim) e h = primitive_served w q prim i.event (subst (λ m. named_breaks w f q parts m (Some prim) ≡ []) (i.free x (primitive_kept x prim e)) h)

call_served : (w : Where) → Inside w → (f : LExpr) (es : LExprs) → call_breaks w f es ≡ [] → calls_served (bare_expr f) ≡ true
call_served w i (LNamed x) es h = name_served w i (LNamed x) x.place (expr_breaks w (LNamed x)) x.text (split (called_breaks w (LNamed x) (expr_breaks w (LNamed x))) _ h).0
call_served w i (LInteger q k z) es h = refl
call_served w i (LCharacter q z) es h = refl
call_served w i (LText q bytes) es h = refl
call_served w i (LUnary q op v) es h = refl
call_served w i (LBinary q op v u) es h = refl
call_served w i (LAnd q v u) es h = refl
call_served w i (LOr q v u) es h = refl
call_served w i (LChoose q c v u) es h = refl
call_served w i (LCast q t v) es h = refl
call_served w i (LSizeOf q t) es h = refl
call_served w i (LIndex q v u) es h = refl
call_served w i (LMember q v x) es h = refl
call_served w i (LArrow q v x) es h = refl
call_served w i (LCall q f vs) es h = refl

-- ---- statements

-- no form of the dialect Cpc stands here
no_form : {A : Type 0} (w : Where) (q : Place) (rest : Broken) → Inside w → at_if (is_event w.dialect) q CpsForm ++ rest ≡ [] → A
no_form w q rest i h = by_true_false (is_event w.dialect) i.event (unbroken (is_event w.dialect) q CpsForm (split (at_if (is_event w.dialect) q CpsForm) rest h).0)

no_section : {A : Type 0} (w : Where) (k : Place) (x : Ident) (es : LExprs) → Inside w → section_breaks w k x es ≡ [] → A
no_section w k x es i h = no_form w k _ i (split (at_if (not (is_cps w.mode)) k CpsInNative) _ h).1

step_served : (w : Where) → Inside w → (r : MaybeLStmt) → StepWritten r → maybe_breaks w r ≡ [] → is_served_arm (bare_maybe r) ≡ true
step_served w i NoneLStmt s h = refl
step_served w i (SomeLStmt (Assign q o v op e)) s h = refl
step_served w i (SomeLStmt (Call q o to f es)) s h = call_served w i f es (split (to_breaks w to o (result (callee w f es))) _ h).1
step_served w i (SomeLStmt (Detach q o k to x es)) s h = no_section w k x es i (split (to_breaks w to o (Some (TyInt Int))) _ h).1
step_served w i (SomeLStmt _) s h = absurd s

mutual
  stmt_served : (w : Where) → Inside w → (s : LStmt) → Written s → AreFree (locals s) → stmt_breaks w s ≡ [] → is_served_stmt (bare_stmt s) ≡ true
  stmt_served w i (Block q ss) s own h = stmts_served (inner w) (inside_inner w i) ss s own h
  stmt_served w i (Empty q) s own h = refl
  stmt_served w i (Declare q x t start) s own h = refl
  stmt_served w i (Assign q o v op e) s own h = refl
  stmt_served w i (Call q o to f es) s own h = step_served w i (SomeLStmt (Call q o to f es)) tt h
  stmt_served w i (Detach q o k to x es) s own h = step_served w i (SomeLStmt (Detach q o k to x es)) tt h
  stmt_served w i (Spawn q x es) s own h = no_form w q _ i h
  stmt_served w i (If q c a r) s own h =
      let k = split (test_breaks w c) _ h in
      let l = split (stmt_breaks w a) (maybe_breaks w r) k.1 in
      and_holds (is_served_stmt (bare_stmt a)) (is_served_arm (bare_maybe r)) (stmt_served w i a s.0 (first_free (locals a) (locals_maybe r) own) l.0)
      (arm_served w i r s.1 (last_free (locals a) (locals_maybe r) own) l.1)
  stmt_served w i (While q c a) s own h = stmt_served w i a s own (split (test_breaks w c) (stmt_breaks w a) h).1
  stmt_served w i (DoWhile q a c) s own h = stmt_served w i a s own (split (stmt_breaks w a) (test_breaks w c) h).0
  stmt_served w i (For q ss c r a) s own h =
      let firsts = first_free (locals_in ss) (locals a) own in
      let k = split (stmts_breaks (inner w) ss) _ h in
      let w2 = all_behind (inner w) ss in
      let i2 = inside_all_behind (inner w) ss firsts (inside_inner w i) in
      let l = split (maybe_test w2 c) _ k.1 in
      let m = split (maybe_breaks w2 r) (stmt_breaks w2 a) l.1 in
      and_holds (are_served (bare_stmts ss)) (is_served_arm (bare_maybe r) && is_served_stmt (bare_stmt a)) (stmts_served (inner w) (inside_inner w i) ss (all_first_written ss s.0) firsts k.0)
      (and_holds (is_served_arm (bare_maybe r)) (is_served_stmt (bare_stmt a)) (step_served w2 i2 r s.1 m.0) (stmt_served w2 i2 a s.2 (last_free (locals_in ss) (locals a) own) m.1))
  stmt_served w i (Goto q x) s own h = refl
  stmt_served w i (Label x a) s own h = stmt_served w i a s own h
  stmt_served w i (Break q) s own h = refl
  stmt_served w i (Continue q) s own h = refl
  stmt_served w i (Return q v) s own h = refl

  stmts_served : (w : Where) → Inside w → (ss : LStmts) → AllWritten ss → AreFree (locals_in ss) → stmts_breaks w ss ≡ [] → are_served (bare_stmts ss) ≡ true
  stmts_served w i NoLStmt s own h = refl
  stmts_served w i (AndLStmt a ss) s own h =
      let k = split (stmt_breaks w a) (stmts_breaks (behind w a) ss) h in
      let first = first_free (locals a) (locals_in ss) own in
      and_holds (is_served_stmt (bare_stmt a)) (are_served (bare_stmts ss)) (stmt_served w i a s.0 first k.0)
      (stmts_served (behind w a) (inside_behind w a first i) ss s.1 (last_free (locals a) (locals_in ss) own) k.1)

  arm_served : (w : Where) → Inside w → (r : MaybeLStmt) → MaybeWritten r → AreFree (locals_maybe r) → maybe_breaks w r ≡ [] → is_served_arm (bare_maybe r) ≡ true
  arm_served w i NoneLStmt s own h = refl
  arm_served w i (SomeLStmt a) s own h = stmt_served w i a s own h

-- ---- items

body_served : (w : Where) → Inside w → (body : LStmt) → BodyShape body → AreFree (locals body) → body_breaks w body ≡ [] → is_served_stmt (bare_stmt body) ≡ true
body_served w i (Block q ss) s own h = stmts_served w i ss s own h
body_served w i _ s own h = absurd s

in_body_inside : (before : Program) (f : LFunction) → NoneDeclared (before ++ bare_item (LFunctionItem f) ∷ []) → AreFree (parameter_names f.parameters) → Inside (in_body D.Event before f)
in_body_inside before f free own = record {
  free = λ x kept. block_passed (before ++ bare_item (LFunctionItem f) ∷ []) (parameter_block [] f.parameters) x (parameters_free [] f.parameters (λ y e. refl) own x kept) ∙ free x kept;
  event = refl;
}

function_served : (program before : Program) (f : LFunction) → NoneDeclared (before ++ bare_item (LFunctionItem f) ∷ []) → ItemShape (LFunctionItem f) → function_breaks D.Event before f ≡ []
    → is_served_stmt (bare_stmt f.body) ≡ true
function_served program before f free shape h =
    let w = in_body D.Event before f in
    let h1 = split (reserved_breaks D.Event (f.called ∷ [])) _ h in
    let h2 = split (cps_breaks D.Event f.mode f.place) _ h1.1 in
    let h3 = split (declared_breaks before f.called (record { mode = f.mode; result = f.result; parameters = types f.parameters; is_defined = true })) _ h2.1 in
    let h4 = split (parameters_breaks D.Event f.parameters) _ h3.1 in
    let h5 = split (sized_breaks (outside D.Event before).scope f.parameters) _ h4.1 in
    let h6 = split (body_breaks w f.body) _ h5.1 in
    let h7 = split (reserved_breaks D.Event (locals f.body ++ labels f.body)) _ h6.1 in
    let parameters = free_names (parameter_names f.parameters) (split (repeated Twice [] (parameter_names f.parameters)) _ h4.0).1 in
    let own = first_free (locals f.body) (labels f.body) (free_names (locals f.body ++ labels f.body) h7.0) in
    body_served w (in_body_inside before f free parameters) f.body shape.2 own h6.0

item_served : (program before : Program) (x : LItem) → NoneDeclared (before ++ bare_item x ∷ []) → ItemShape x → item_breaks D.Event program before x ≡ [] → is_served_item (bare_item x) ≡ true
item_served program before (LStruct tag fs) free s h = refl
item_served program before (LGlobal x t start) free s h = refl
item_served program before (LPrototype q mode x r ps) free s h = refl
item_served program before (LFunctionItem f) free s h = function_served program before f free s h

items_served : (program before : Program) (xs : List LItem) → NoneDeclared before → Each ItemShape xs → items_breaks D.Event program before xs ≡ [] → is_served_program (map bare_item xs) ≡ true
items_served program before [] free s h = refl
items_served program before (x ∷ xs) free s h =
    let k = split (item_breaks D.Event program before x) _ h in
    let more = item_free program before x free k.0 in
    and_holds (is_served_item (bare_item x)) (is_served_program (map bare_item xs)) (item_served program before x more s.0 k.0)
    (items_served program (before ++ bare_item x ∷ []) xs more s.1 k.1)

pub accepted_served : AcceptedAreServed
accepted_served list end p read h =
    items_served (bare p) [] p.items (λ x kept. refl) (items_shape list p.items read.1 read.3) (split (items_breaks D.Event (bare p) [] p.items) _ h).0
