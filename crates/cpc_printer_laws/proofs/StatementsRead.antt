-- A printed statement is read as the statement.
use Rattle.std.proofs.Common.{◌≡◌, ℕ, ◌+◌, Bool, List, [], ◌∷◌, ◌++◌, Option, Some, None, max, refl, subst}
use Rattle.cpc_base.specs.Bytes.{Text}
use Rattle.cpc_num.specs.declared.kinds.Op.{Op}
use Rattle.cpc_num.specs.declared.kinds.Op.TheVariants as O
use Rattle.cpc_tree.specs.declared.token.Punctuator.TheVariants as P
use Rattle.cpc_tree.specs.Tokens.{Lexeme}
use Rattle.cpc_tree.specs.Syntax.{Ty, TyVoid, TyInt, TyCondvar, TyPointer, TyCode, TyStruct, TyArray, Expr, Exprs, Stmt, Declare, Assign, Call, Detach, Stmts, NoStmt, AndStmt, MaybeStmt, Absent, Present}
use Rattle.cpc_printer_laws.proofs.TypeRows.{no_star, ReadsDeclarator, plain, array, code}
use Rattle.cpc_tree.specs.TypePrint.{base_of, declarator_row, declarator_depth, length_kind, PrintableVariable}
use Rattle.cpc_tree.specs.ExprGrammar.{Postfix, Unary, Whole}
use Rattle.cpc_printer_laws.proofs.ExprRows.{Reads}
use Rattle.cpc_tree.specs.ExprPrint.{expr_depth, args_depth, PrintableExpr, PrintableExprs}
use Rattle.cpc_printer_laws.proofs.StmtRows.{stmts, maybe, Value, Calls, Section, ReadsCall, call_alone, ReadsSection, section, a_value, a_call, a_section, ReadsSimple, assigned, updated, performed, detached, ReadsLocalPart, unset, set, last_local, ReadsLocal, local, ReadsMaybe, no_value, some_value, ReadsStep, no_step, some_step}
use Rattle.cpc_tree.specs.StmtPrint.{assigning_mark, mark_row, call_row, section_row, maybe_row, maybe_depth, local_row, local_depth, simple_row, simple_depth, step_row, step_depth, PrintableMaybe, HasMark, PrintableSimple, PrintableLocal, PrintableStep}
use Rattle.cpc_printer_laws.proofs.TypesRead.{base_reads, stars_read, as_read, types_printed, list_reads}
use Rattle.cpc_printer_laws.proofs.ExpressionsRead.{expr_reads, args_read}

pub declarator_reads : (tight : Bool) (x : Text) (t : Ty) → PrintableVariable t → ReadsDeclarator (base_of t) (declarator_row tight (Some x) t) (record { called = x; type = t }) (declarator_depth tight t)
unfolding declarator_row declarator_depth PrintableVariable
declarator_reads tight x TyVoid s = plain [] TyVoid x _ no_star
declarator_reads tight x (TyInt kind) s = plain [] (TyInt kind) x _ no_star
declarator_reads tight x TyCondvar s = plain [] TyCondvar x _ no_star
declarator_reads tight x (TyPointer t) s = plain _ (TyPointer t) x _ (stars_read (TyPointer t) s)
declarator_reads tight x (TyCode t ts) (s, a) =
    subst (λ us. ReadsDeclarator (base_of t) (declarator_row tight (Some x) (TyCode t ts)) (record { called = x; type = TyCode t us }) (declarator_depth tight (TyCode t ts))) (types_printed ts)
    (code _ _ t x (as_read ts) _ _ (stars_read t s) (list_reads tight ts a))
declarator_reads tight x (TyStruct tag) s = plain [] (TyStruct tag) x _ no_star
declarator_reads tight x (TyArray t n) (s, le) = array _ t x (length_kind n) n _ (stars_read t s) le

pub maybe_reads : (tight : Bool) (o : Option Expr) → PrintableMaybe o → ReadsMaybe (maybe_row tight o) o (maybe_depth tight o)
maybe_reads tight None s = no_value
maybe_reads tight (Some v) s = some_value _ v _ (expr_reads tight Whole v tt s)

pub call_reads : (tight : Bool) (v : Expr) (vs : Exprs) → PrintableExpr v → PrintableExprs vs → ReadsCall (call_row tight v vs) v vs (max (expr_depth tight Postfix v) (args_depth tight vs))
call_reads tight v vs a b = call_alone _ _ v vs _ _ (expr_reads tight Postfix v tt a) (args_read tight vs b)

pub section_reads : (tight : Bool) (x : Text) (vs : Exprs) → PrintableExprs vs → ReadsSection (section_row tight x vs) x vs (args_depth tight vs)
section_reads tight x vs s = section _ x vs _ (args_read tight vs s)

updated_reads : (op : Op) (f g : List Lexeme) (v w : Expr) (h j : ℕ) → HasMark (assigning_mark op) → Reads Unary f v h → Reads Whole g w j → ReadsSimple (f ++ (mark_row (assigning_mark op) ++ g)) (Assign v (Some op) w) (max h j + 1)
updated_reads O.Mul f g v w h j m r s = updated f g P.StarEqual O.Mul v w h j r refl s
updated_reads O.Div f g v w h j m r s = updated f g P.SlashEqual O.Div v w h j r refl s
updated_reads O.Rem f g v w h j m r s = updated f g P.PercentEqual O.Rem v w h j r refl s
updated_reads O.Add f g v w h j m r s = updated f g P.PlusEqual O.Add v w h j r refl s
updated_reads O.Sub f g v w h j m r s = updated f g P.MinusEqual O.Sub v w h j r refl s
updated_reads O.Shl f g v w h j m r s = updated f g P.ShiftLeftEqual O.Shl v w h j r refl s
updated_reads O.Shr f g v w h j m r s = updated f g P.ShiftRightEqual O.Shr v w h j r refl s
updated_reads O.BitAnd f g v w h j m r s = updated f g P.AmpersandEqual O.BitAnd v w h j r refl s
updated_reads O.BitXor f g v w h j m r s = updated f g P.CaretEqual O.BitXor v w h j r refl s
updated_reads O.BitOr f g v w h j m r s = updated f g P.BarEqual O.BitOr v w h j r refl s
updated_reads O.Lt f g v w h j m r s = absurd m
updated_reads O.Le f g v w h j m r s = absurd m
updated_reads O.Gt f g v w h j m r s = absurd m
updated_reads O.Ge f g v w h j m r s = absurd m
updated_reads O.Eq f g v w h j m r s = absurd m
updated_reads O.Ne f g v w h j m r s = absurd m

assign_reads : (tight : Bool) (v : Expr) (o : Option Op) (w : Expr) → PrintableSimple (Assign v o w) → ReadsSimple (simple_row tight (Assign v o w)) (Assign v o w) (simple_depth tight (Assign v o w))
assign_reads tight v None w (a, (b, e)) = assigned _ _ v (Value w) _ _ (expr_reads tight Unary v tt a) (a_value _ w _ (expr_reads tight Whole w tt b) e)
assign_reads tight v (Some op) w (a, (b, m)) = updated_reads op _ _ v w _ _ m (expr_reads tight Unary v tt a) (expr_reads tight Whole w tt b)

performed_reads : (tight : Bool) (o : Option Expr) (v : Expr) (vs : Exprs) → PrintableSimple (Call o v vs) → ReadsSimple (simple_row tight (Call o v vs)) (Call o v vs) (simple_depth tight (Call o v vs))
performed_reads tight None v vs (a, b, c) = performed _ _ v vs _ _ (expr_reads tight Postfix v tt b) (args_read tight vs c)
performed_reads tight (Some u) v vs (a, b, c) = assigned _ _ u (Calls v vs) _ _ (expr_reads tight Unary u tt a) (a_call _ v vs _ (call_reads tight v vs b c))

detached_reads : (tight : Bool) (o : Option Expr) (x : Text) (vs : Exprs) → PrintableSimple (Detach o x vs) → ReadsSimple (simple_row tight (Detach o x vs)) (Detach o x vs) (simple_depth tight (Detach o x vs))
detached_reads tight None x vs (a, b) = detached _ x vs _ (section_reads tight x vs b)
detached_reads tight (Some u) x vs (a, b) = assigned _ _ u (Section x vs) _ _ (expr_reads tight Unary u tt a) (a_section _ x vs _ (section_reads tight x vs b))

pub simple_reads : (tight : Bool) (s : Stmt) → PrintableSimple s → ReadsSimple (simple_row tight s) s (simple_depth tight s)
simple_reads tight (Assign v o w) a = assign_reads tight v o w a
simple_reads tight (Call o v vs) a = performed_reads tight o v vs a
simple_reads tight (Detach o x vs) a = detached_reads tight o x vs a
simple_reads tight s a = absurd a

pub part_reads : (tight : Bool) (x : Text) (t : Ty) (start : Option Expr) → PrintableLocal t start → ReadsLocalPart (base_of t) (local_row tight x t start) (Declare x t start ∷ []) (local_depth tight t start)
part_reads tight x t None (a, b) = unset _ (record { called = x; type = t }) _ (declarator_reads tight x t a)
part_reads tight x t (Some v) (a, (b, e)) = set _ _ (record { called = x; type = t }) (Value v) _ _ (declarator_reads tight x t a) (a_value _ v _ (expr_reads tight Whole v tt b) e)

pub local_reads : (tight : Bool) (x : Text) (t : Ty) (start : Option Expr) → PrintableLocal t start → ReadsLocal (simple_row tight (Declare x t start)) (Declare x t start ∷ []) (simple_depth tight (Declare x t start))
local_reads tight x t start a = local _ _ (base_of t) _ _ _ (base_reads t) (last_local _ _ _ (part_reads tight x t start a))

pub step_reads : (tight : Bool) (p : MaybeStmt) → PrintableStep p → (o : Option Stmt) × (maybe o ≡ p) × ReadsStep (step_row tight p) o (step_depth tight p)
step_reads tight Absent a = (None, refl, no_step)
step_reads tight (Present s) a = (Some s, refl, some_step _ s _ (simple_reads tight s a))

-- the statements of a block in a list
unfoldable pub listed : Stmts → List Stmt
listed NoStmt = []
listed (AndStmt s ss) = s ∷ listed ss

pub stmts_listed : (ss : Stmts) → stmts (listed ss) ≡ ss
unfolding listed
stmts_listed NoStmt = refl
stmts_listed (AndStmt s ss) = rw (stmts_listed ss) refl
