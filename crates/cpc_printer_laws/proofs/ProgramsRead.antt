-- A printed program is read as the program.
use Rattle.std.proofs.Common.{◌≡◌, Bool, List, [], ◌∷◌, Option, Some, None, subst}
use Rattle.cpc_base.specs.Bytes.{Text}
use Rattle.cpc_tree.specs.declared.program.Mode.{Mode}
use Rattle.cpc_tree.specs.declared.program.Mode.TheVariants as M
use Rattle.cpc_tree.specs.declared.program.UnaryOp.TheVariants as U
use Rattle.cpc_printer_laws.proofs.Standing.{stands_for}
use Rattle.cpc_tree.specs.Syntax.{Ty, TyVoid, Expr, EInteger, ECharacter, EText, EUnary, Stmt, Block, Variable, Parameter, Item, StructItem, GlobalItem, PrototypeItem, FunctionItem, Program}
use Rattle.cpc_printer_laws.proofs.TypeRows.{without_void, void_base, no_star, plain_param, ReadsParamRow, last_param, more_params, ReadsParams, some_params}
use Rattle.cpc_tree.specs.TypePrint.{base_of, params_row, params_depth, AllPrintable}
use Rattle.cpc_tree.specs.ExprGrammar.{Whole}
use Rattle.cpc_tree.specs.ExprPrint.{expr_row, expr_depth}
use Rattle.cpc_printer_laws.proofs.ItemRows as G
use Rattle.cpc_printer_laws.proofs.ItemRows.{ReadsMode, ReadsPrototypeMode, extern, of_function, ReadsFields, last_fields, more_fields, last_variable, ReadsInitial, ReadsGlobal, last_global, Head, ReadsHead, head, ReadsItem, globals, prototype, ReadsItems, no_item, items}
use Rattle.cpc_tree.specs.ItemPrint.{mode_row, fields_row, fields_depth, head_row, head_depth, item_row, item_depth, program_row, program_depth, AllVariables, PrintableInitial, PrintableHead, IsDefined, PrintableItem, Printable, PrintsBack}
use Rattle.cpc_printer_laws.proofs.TypesRead.{base_reads, stars_read, param_reads}
use Rattle.cpc_printer_laws.proofs.StatementsRead.{declarator_reads, listed, stmts_listed}
use Rattle.cpc_printer_laws.proofs.BlocksRead.{block_reads}

-- parameters with commas between them
row_of : (tight : Bool) (p : Parameter) (ps : List Parameter) → AllPrintable (p ∷ ps) → ReadsParamRow (params_row tight (p ∷ ps)) (p ∷ ps) (params_depth tight (p ∷ ps))
unfolding params_row params_depth
row_of tight p [] (a, b) = last_param _ p _ (param_reads tight p.called p.type a)
row_of tight p (q ∷ ps) (a, b) = more_params _ _ p (q ∷ ps) _ _ (param_reads tight p.called p.type a) (row_of tight q ps b)

params_read : (tight : Bool) (ps : List Parameter) → AllPrintable ps → without_void ps ≡ ps → ReadsParams (params_row tight ps) ps (params_depth tight ps)
unfolding params_row params_depth
params_read tight [] a e = some_params _ (record { called = None; type = TyVoid } ∷ []) _ (last_param _ _ _ (plain_param _ [] TyVoid TyVoid None _ _ void_base no_star))
params_read tight (p ∷ ps) a e = subst (λ qs. ReadsParams (params_row tight (p ∷ ps)) qs (params_depth tight (p ∷ ps))) e (some_params _ (p ∷ ps) _ (row_of tight p ps a))

fields_read : (tight : Bool) (x : Variable) (xs : List Variable) → AllVariables (x ∷ xs) → ReadsFields (fields_row tight (x ∷ xs)) (x ∷ xs) (fields_depth tight (x ∷ xs))
unfolding fields_row fields_depth
fields_read tight x [] (a, b) = last_fields _ _ (base_of x.type) (x ∷ []) _ _ (base_reads x.type) (last_variable _ x _ (declarator_reads tight x.called x.type a))
fields_read tight x (y ∷ xs) (a, b) = more_fields _ _ _ (base_of x.type) (x ∷ []) (y ∷ xs) _ _ _ (base_reads x.type) (last_variable _ x _ (declarator_reads tight x.called x.type a)) (fields_read tight y xs b)

initial_reads : (tight : Bool) (v : Expr) → PrintableInitial (Some v) → ReadsInitial (expr_row tight Whole v) v (expr_depth tight Whole v)
unfolding expr_row expr_depth
initial_reads tight (EInteger kind z) a = G.an_integer kind z
initial_reads tight (EUnary U.Minus (EInteger kind z)) a = G.a_negative kind z
initial_reads tight (ECharacter z) a = G.a_character z
initial_reads tight (EText bytes) a = G.a_text bytes
initial_reads tight v a = absurd a

head_reads : (tight : Bool) (x : Text) (t : Ty) (ps : List Parameter) → PrintableHead t ps → ReadsHead (head_row tight x t ps) (record { called = x; result = t; parameters = ps }) (head_depth tight t ps)
head_reads tight x t ps (a, b, e) = head _ _ _ (base_of t) t x ps _ _ _ (base_reads t) (stars_read t a) (params_read tight ps b e)

mode_reads : (mode : Mode) → IsDefined mode → ReadsMode (mode_row mode) mode
mode_reads M.Extern a = absurd a
mode_reads M.Native a = G.native
mode_reads M.Cps a = G.cps
mode_reads M.Detached a = G.detached

prototype_mode : (mode : Mode) → ReadsPrototypeMode (mode_row mode) mode
prototype_mode M.Extern = extern
prototype_mode M.Native = of_function _ _ G.native
prototype_mode M.Cps = of_function _ _ G.cps
prototype_mode M.Detached = of_function _ _ G.detached

global_reads : (tight : Bool) (x : Text) (t : Ty) (o : Option Expr) → PrintableItem (GlobalItem x t o) → ReadsItem (item_row tight (GlobalItem x t o)) (GlobalItem x t o ∷ []) (item_depth tight (GlobalItem x t o))
unfolding item_row item_depth PrintableItem
global_reads tight x t None (a, b) = globals _ _ (base_of t) _ _ _ (base_reads t) (last_global _ _ _ (G.unset _ (record { called = x; type = t }) _ (declarator_reads tight x t a)))
global_reads tight x t (Some v) (a, b) = globals _ _ (base_of t) _ _ _ (base_reads t) (last_global _ _ _ (G.set _ _ (record { called = x; type = t }) v _ _ (declarator_reads tight x t a) (initial_reads tight v b)))

function_reads : (tight : Bool) (mode : Mode) (x : Text) (t : Ty) (ps : List Parameter) (body : Stmt) → PrintableItem (FunctionItem (record { mode = mode; called = x; result = t; parameters = ps; body = body }))
    → ReadsItem (item_row tight (FunctionItem (record { mode = mode; called = x; result = t; parameters = ps; body = body }))) (FunctionItem (record { mode = mode; called = x; result = t; parameters = ps; body = body }) ∷ [])
    (item_depth tight (FunctionItem (record { mode = mode; called = x; result = t; parameters = ps; body = body })))
unfolding item_row item_depth PrintableItem
function_reads tight mode x t ps (Block ss) (d, a, e, b) =
    subst (λ rs. ReadsItem (item_row tight (FunctionItem (record { mode = mode; called = x; result = t; parameters = ps; body = Block ss }))) (FunctionItem (record { mode = mode; called = x; result = t; parameters = ps; body = Block rs }) ∷ [])
    (item_depth tight (FunctionItem (record { mode = mode; called = x; result = t; parameters = ps; body = Block ss })))) (stmts_listed ss)
    (G.function _ _ _ mode (record { called = x; result = t; parameters = ps }) (listed ss) _ _ (mode_reads mode d) (head_reads tight x t ps a) e (block_reads tight ss b))
function_reads tight mode x t ps s (d, a, e, b) = absurd b

item_reads : (tight : Bool) (x : Item) → PrintableItem x → ReadsItem (item_row tight x) (x ∷ []) (item_depth tight x)
unfolding item_row item_depth PrintableItem
item_reads tight (StructItem tag []) a = absurd a
item_reads tight (StructItem tag (x ∷ xs)) a = G.struct _ tag (x ∷ xs) _ (fields_read tight x xs a)
item_reads tight (GlobalItem x t o) a = global_reads tight x t o a
item_reads tight (PrototypeItem mode x t ps) a = prototype _ _ mode (record { called = x; result = t; parameters = ps }) _ (prototype_mode mode) (head_reads tight x t ps a)
item_reads tight (FunctionItem f) a = function_reads tight f.mode f.called f.result f.parameters f.body a

program_reads : (tight : Bool) (xs : Program) → Printable xs → ReadsItems (program_row tight xs) xs (program_depth tight xs)
unfolding program_row program_depth Printable
program_reads tight [] a = no_item
program_reads tight (x ∷ xs) (a, b) = items _ _ (x ∷ []) xs _ _ (item_reads tight x a) (program_reads tight xs b)

-- what is printed is read as the program, and nests as deep as said
pub prints_back : PrintsBack
prints_back tight xs list a e = program_reads tight xs a list (stands_for (program_row tight xs) list e)
