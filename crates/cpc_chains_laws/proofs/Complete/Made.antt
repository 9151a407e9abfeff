-- Whole functions that are made break no rule: flat ones, and the driver.
use Rattle.std.proofs.Common.{◌≡◌, ◌&&◌, true, false, List, [], ◌∷◌, ◌++◌, map, reverse, codes, ℕ, Some, None, refl, sym, ap, subst}
use Rattle.cpc_base.specs.declared.stop.Dialect.TheVariants as D
use Rattle.cpc_num.specs.declared.kinds.Kind.TheVariants.{Int}
use Rattle.cpc_tree.specs.declared.program.Mode.TheVariants.{Native}
use Rattle.cpc_tree.specs.Syntax.{Ty, TyVoid, TyInt, TyPointer, TyStruct, ENamed, EArrow, NoExpr, AndExpr, Stmt, Block, Declare, Assign, While, NoStmt, Function, FunctionItem, Program}
use Rattle.cpc_tree.specs.Typing.{NotMeant, AValue, APlace, field}
use Rattle.cpc_tree.specs.Primitives.{primitive_named, any_pointer}
use Rattle.cpc_check_rules.specs.declared.rule.Rule.TheVariants.{CpsForm, Reserved}
use Rattle.cpc_check_rules.specs.Rule.{at_if}
use Rattle.cpc_check_rules.specs.Scopes as S
use Rattle.cpc_check_rules.specs.Operators.{Where, is_cps}
use Rattle.cpc_check_rules.specs.StmtRules.{stmt_breaks, stmts_breaks}
use Rattle.cpc_check_rules.specs.FunctionRules.{is_kept, reserved_breaks, label_breaks, stray_breaks, many_breaks, locals, labels}
use Rattle.cpc_check_rules.specs.ItemRules.{declared_breaks, parameters_breaks, sized_breaks, outside, parameter_block, in_body, body_breaks, function_breaks}
use Rattle.cpc_check_laws.proofs.Native.NativeValues.{both_none, event}
use Rattle.cpc_check_laws.proofs.Native.OnePlace.{here, ident_here, stmt_here, stmts_here, parameter_here, function_here, item_again}
use Rattle.cpc_convert_flat_laws.specs.Flat.{before}
use Rattle.cpc_chains_store_laws.specs.Driver.{code_field, value_field, piece_type, frame_tag, taken_name, taken, is_taken, takes_up, drive_function}
use Rattle.cpc_chains_laws.specs.Complete.Laws.{FlatFine}
use Rattle.cpc_lifted_laws.specs.Complete.Sets.{Has, NoneSet, AndSet}
use Rattle.cpc_chains_laws.specs.Complete.Flat.{named_at, called}
use Rattle.cpc_lifted_laws.proofs.Complete.Kept.{over}
use Rattle.cpc_lifted_laws.proofs.Complete.KeptFunctions.{defined_signature}
use Rattle.cpc_lifted_laws.proofs.Complete.Makers.{local_has, local_sets, set_has, test_fine}
use Rattle.cpc_lifted_laws.proofs.Complete.Rows.{assign_fine}
use Rattle.cpc_chains_laws.proofs.Complete.Frames.{pointer_sets, pointer_writes, field_writes}
use Rattle.cpc_chains_laws.proofs.Complete.FrameRows.{PrimitivesFree, free_more, field_call}

-- ---- functions

-- a native function behind these items: where its body stands
abbrev pub body_of : Program → Function → Where
body_of items g = event (over (items ++ FunctionItem g ∷ []) (parameter_block [] (map parameter_here g.parameters) ∷ [])) g.mode g.result

-- a function of which each part breaks no rule
pub function_made : (items : Program) (g : Function) → is_cps g.mode ≡ false → is_kept g.called ≡ false → declared_breaks items (ident_here g.called) (defined_signature g) ≡ []
    → parameters_breaks D.Event (map parameter_here g.parameters) ≡ [] → sized_breaks (outside D.Event items).scope (map parameter_here g.parameters) ≡ [] → body_breaks (body_of items g) (stmt_here g.body) ≡ []
    → reserved_breaks D.Event (locals (stmt_here g.body) ++ labels (stmt_here g.body)) ≡ [] → label_breaks (stmt_here g.body) ≡ [] → stray_breaks (stmt_here g.body) ≡ [] → many_breaks D.Event (map parameter_here g.parameters) (stmt_here g.body) ≡ []
    → function_breaks D.Event items (function_here g) ≡ []
function_made items g native unkept declared parameters sized body reserved labelled stray many =
    let inside : body_breaks (in_body D.Event items (function_here g)) (stmt_here g.body) ≡ [] =
    subst (λ i. body_breaks (event (over (items ++ i ∷ []) (parameter_block [] (map parameter_here g.parameters) ∷ [])) g.mode g.result) (stmt_here g.body) ≡ []) (sym (item_again (FunctionItem g))) body in
    both_none _ _ (both_none _ _ (ap (λ b. at_if b here Reserved) unkept) refl)
    (both_none _ _ (ap (λ b. at_if (b && true) here CpsForm) native)
    (both_none _ _ declared (both_none _ _ parameters (both_none _ _ sized (both_none _ _ inside (both_none _ _ reserved (both_none _ _ labelled (both_none _ _ stray many))))))))

-- a flat one
pub flat_made : (items : Program) (g : Function) (ss : List Stmt) → g.body ≡ Block (before ss NoStmt) → FlatFine (map parameter_here g.parameters) ss → is_cps g.mode ≡ false → is_kept g.called ≡ false → declared_breaks items (ident_here g.called) (defined_signature g) ≡ []
    → parameters_breaks D.Event (map parameter_here g.parameters) ≡ [] → sized_breaks (outside D.Event items).scope (map parameter_here g.parameters) ≡ [] → stmts_breaks (body_of items g) (stmts_here (before ss NoStmt)) ≡ []
    → function_breaks D.Event items (function_here g) ≡ []
flat_made items g ss is fine native unkept declared parameters sized body =
    function_made items g native unkept declared parameters sized
    (subst (λ s. body_breaks (body_of items g) (stmt_here s) ≡ []) (sym is) body)
    (subst (λ s. reserved_breaks D.Event (locals (stmt_here s) ++ labels (stmt_here s)) ≡ []) (sym is) fine.reserved)
    (subst (λ s. label_breaks (stmt_here s) ≡ []) (sym is) fine.labelled)
    (subst (λ s. stray_breaks (stmt_here s) ≡ []) (sym is) fine.stray)
    (subst (λ s. many_breaks D.Event (map parameter_here g.parameters) (stmt_here s) ≡ []) (sym is) fine.many)

-- ---- the driver

-- the driver, where the struct of all frames is declared
pub driver_made : (items : Program) (m n : ℕ) → ((x : _) (prim : _) → primitive_named x ≡ Some prim → S.in_items (reverse (items ++ FunctionItem drive_function ∷ [])) x ≡ NotMeant)
    → field (items ++ FunctionItem drive_function ∷ []) frame_tag code_field ≡ Some (m, piece_type) → field (items ++ FunctionItem drive_function ∷ []) frame_tag value_field ≡ Some (n, TyInt Int)
    → declared_breaks items (ident_here drive_function.called) (defined_signature drive_function) ≡ [] → function_breaks D.Event items (function_here drive_function) ≡ []
driver_made items m n free code value declared = function_made items drive_function refl refl declared refl refl body refl refl refl refl
  where
    all : Program
    all = items ++ FunctionItem drive_function ∷ []

    frame : Ty
    frame = TyPointer (TyStruct frame_tag)

    -- where no variable is declared, where the parameters are, and behind the declaration
    none : Where
    none = event (over all ([] ∷ [])) Native TyVoid

    begun : Where
    begun = named_at (named_at none (called (codes "k__") any_pointer)) (called (codes "r__") (TyInt Int))

    u : Where
    u = named_at begun (called taken_name frame)

    free_there : PrimitivesFree u
    free_there = free_more begun (called taken_name frame) refl (free_more (named_at none (called (codes "k__") any_pointer)) (called (codes "r__") (TyInt Int)) refl (free_more none (called (codes "k__") any_pointer) refl free))

    has : Has u taken (APlace frame)
    has = local_has u taken_name 0 frame refl

    assigned : stmt_breaks u (stmt_here (Assign (EArrow taken value_field) None (ENamed (codes "r__")))) ≡ []
    assigned = assign_fine u (TyInt Int) (EArrow taken value_field) (ENamed (codes "r__")) (field_writes u refl refl free_there taken (APlace frame) frame_tag value_field n (TyInt Int) has refl value refl) (local_sets u (codes "r__") 0 (TyInt Int) refl refl)

    taken_up : stmt_breaks u (stmt_here takes_up) ≡ []
    taken_up = field_call u refl refl free_there (Some taken) taken (APlace frame) frame_tag code_field m (AndExpr taken NoExpr) has refl code
        (AndSet any_pointer [] taken NoExpr (pointer_sets u refl refl free_there taken_name 0 (TyStruct frame_tag) refl) NoneSet) (frame, pointer_writes u refl refl free_there taken_name 0 (TyStruct frame_tag) refl, refl)

    looped : stmt_breaks u (stmt_here (While is_taken takes_up)) ≡ []
    looped = both_none _ _ (test_fine u is_taken (AValue (TyInt Int)) (TyInt Int) (set_has u taken (APlace frame) (TyStruct frame_tag) has refl) refl refl) taken_up

    body : body_breaks (body_of items drive_function) (stmt_here drive_function.body) ≡ []
    body = both_none (stmt_breaks begun (stmt_here (Declare taken_name frame (Some (ENamed (codes "k__")))))) _ refl (both_none _ _ assigned (both_none _ _ looped refl))
