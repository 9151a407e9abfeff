-- What a program of native code breaks in the dialect Event it breaks in the dialect Cpc: items, and whole programs.
use Rattle.std.proofs.Common.{◌≡◌, true, false, ◌&&◌, not, List, [], ◌∷◌, ◌++◌, drop, drop-drop, Option, Some, None, refl, sym, ap, ◌∙◌}
use Rattle.cpc_base.specs.declared.stop.Place.{Place}
use Rattle.cpc_base.specs.declared.stop.Dialect.TheVariants as D
use Rattle.cpc_base.proofs.Truth.{and_first, and_second, not_holds, or_not_first}
use Rattle.cpc_tree.specs.declared.program.Mode.{Mode}
use Rattle.cpc_tree.specs.declared.program.Mode.TheVariants.{Native}
use Rattle.cpc_tree.specs.Syntax.{Ty, TyVoid, Program}
use Rattle.cpc_tree.specs.Located.{Ident, LExpr, LNamed, LInteger, LCharacter, LText, LUnary, LBinary, LAnd, LOr, LChoose, LCast, LSizeOf, LIndex, LMember, LArrow, LCall, LStmt, Block, Empty, Declare, Assign, Call, Detach, Spawn, If, While, DoWhile, For, Goto, Label, Break, Continue, Return, LParameter, LVariable, LFunction, LItem, LStruct, LGlobal, LPrototype, LFunctionItem, LProgram, bare, bare_item}
use Rattle.cpc_check_rules.specs.declared.rule.Rule.TheVariants.{Disagree, Incomplete, NoMain, Reserved, Twice, Undeclared}
use Rattle.cpc_check_rules.specs.Rule.{at_if}
use Rattle.cpc_check_rules.specs.Operators.{is_cps}
use Rattle.cpc_check_rules.specs.FunctionRules as F
use Rattle.cpc_check_rules.specs.FunctionRules.{repeated, reserved_breaks, is_kept, is_reserved, holds_underscores, parameter_names, locals, labels, label_breaks, stray_breaks, many_breaks, variables}
use Rattle.cpc_check_rules.specs.ItemRules.{outside, struct_breaks, declared_breaks, is_item, global_breaks, global_start, is_extern, is_host_like, types, is_function, cps_breaks, parameters_breaks, prototype_breaks, sized_breaks, in_body, body_breaks, function_breaks, item_breaks, items_breaks}
use Rattle.cpc_check_rules.specs.Rules.{breaks, has_main}
use Rattle.cpc_check_laws.specs.Native.Native.{spawns_none, is_native_item, are_native}
use Rattle.cpc_check_laws.proofs.Native.NativeValues.{left_none, right_none, both_none, unbroken}
use Rattle.cpc_check_laws.proofs.Native.NativeStatements.{start_native, stmts_native}

-- ---- names

-- a name that is not reserved in the dialect Cpc is not in the dialect Event
pub reserved_native : (xs : List Ident) → reserved_breaks D.Cpc xs ≡ [] → reserved_breaks D.Event xs ≡ []
reserved_native [] h = refl
reserved_native (x ∷ xs) h =
    let fine : is_kept x.text ≡ false = or_not_first (is_kept x.text) (holds_underscores x.text) (unbroken (is_reserved D.Cpc x.text) x.place Reserved (left_none _ _ h)) in
    both_none _ _ (ap (λ b. at_if b x.place Reserved) fine) (reserved_native xs (right_none (at_if (is_reserved D.Cpc x.text) x.place Reserved) _ h))

-- a row with no first has none
pub none_first : (xs : List Ident) → F.first_of xs ≡ [] → xs ≡ []
none_first [] h = refl
none_first (x ∷ xs) h = absurd cc

many_native : (ps : List LParameter) (body : LStmt) → many_breaks D.Cpc ps body ≡ [] → many_breaks D.Event ps body ≡ []
many_native ps body h =
    let xs = variables ps body in
    let front : drop 255 xs ≡ [] = none_first (drop 255 xs) h in
    ap F.first_of (sym (drop-drop 768 255 xs) ∙ ap (drop 768) front)

cps_native : (mode : Mode) (q : Place) → is_cps mode ≡ false → cps_breaks D.Event mode q ≡ []
cps_native mode q e = rw e refl

-- ---- items

struct_native : (before : Program) (tag : Ident) (fs : List LVariable) → struct_breaks D.Cpc before tag fs ≡ [] → struct_breaks D.Event before tag fs ≡ []
struct_native before tag fs h = both_none _ _ (reserved_native (tag ∷ []) (left_none _ _ h)) (right_none (reserved_breaks D.Cpc (tag ∷ [])) _ h)

outer_start : (before : Program) (x : Ident) (t : Ty) (start : Option LExpr) → global_start (outside D.Cpc before) x t start ≡ [] → global_start (outside D.Event before) x t start ≡ []
outer_start before x t (Some (LText q bytes)) h = h
outer_start before x t None h = refl
outer_start before x t (Some (LNamed y)) h = start_native (outside D.Cpc before).scope Native TyVoid refl x t (Some (LNamed y)) h
outer_start before x t (Some (LInteger q kind z)) h = start_native (outside D.Cpc before).scope Native TyVoid refl x t (Some (LInteger q kind z)) h
outer_start before x t (Some (LCharacter q z)) h = start_native (outside D.Cpc before).scope Native TyVoid refl x t (Some (LCharacter q z)) h
outer_start before x t (Some (LUnary q op v)) h = start_native (outside D.Cpc before).scope Native TyVoid refl x t (Some (LUnary q op v)) h
outer_start before x t (Some (LBinary q op v u)) h = start_native (outside D.Cpc before).scope Native TyVoid refl x t (Some (LBinary q op v u)) h
outer_start before x t (Some (LAnd q v u)) h = start_native (outside D.Cpc before).scope Native TyVoid refl x t (Some (LAnd q v u)) h
outer_start before x t (Some (LOr q v u)) h = start_native (outside D.Cpc before).scope Native TyVoid refl x t (Some (LOr q v u)) h
outer_start before x t (Some (LChoose q c v u)) h = start_native (outside D.Cpc before).scope Native TyVoid refl x t (Some (LChoose q c v u)) h
outer_start before x t (Some (LCast q u v)) h = start_native (outside D.Cpc before).scope Native TyVoid refl x t (Some (LCast q u v)) h
outer_start before x t (Some (LSizeOf q u)) h = start_native (outside D.Cpc before).scope Native TyVoid refl x t (Some (LSizeOf q u)) h
outer_start before x t (Some (LIndex q v u)) h = start_native (outside D.Cpc before).scope Native TyVoid refl x t (Some (LIndex q v u)) h
outer_start before x t (Some (LMember q v y)) h = start_native (outside D.Cpc before).scope Native TyVoid refl x t (Some (LMember q v y)) h
outer_start before x t (Some (LArrow q v y)) h = start_native (outside D.Cpc before).scope Native TyVoid refl x t (Some (LArrow q v y)) h
outer_start before x t (Some (LCall q f vs)) h = start_native (outside D.Cpc before).scope Native TyVoid refl x t (Some (LCall q f vs)) h

global_native : (before : Program) (x : Ident) (t : Ty) (start : Option LExpr) → global_breaks D.Cpc before x t start ≡ [] → global_breaks D.Event before x t start ≡ []
global_native before x t start h =
    let g = right_none (reserved_breaks D.Cpc (x ∷ [])) _ h in
    let k = right_none (at_if (is_item x.text before) x.place Twice) _ g in
    both_none _ _ (reserved_native (x ∷ []) (left_none _ _ h)) (both_none _ _ (left_none _ _ g)
    (both_none _ _ (left_none _ _ k) (outer_start before x t start (right_none (at_if _ x.place Incomplete) _ k))))

-- parameters that break nothing in the dialect Cpc break nothing in the dialect Event
pub parameters_native : (ps : List LParameter) → parameters_breaks D.Cpc ps ≡ [] → parameters_breaks D.Event ps ≡ []
parameters_native ps h = both_none _ _ (left_none _ _ h) (reserved_native (parameter_names ps) (right_none (repeated Twice [] (parameter_names ps)) _ h))

prototype_native : (program before : Program) (q : Place) (mode : Mode) (x : Ident) (r : Ty) (ps : List LParameter) → is_cps mode ≡ false
    → prototype_breaks D.Cpc program before q mode x r ps ≡ [] → prototype_breaks D.Event program before q mode x r ps ≡ []
prototype_native program before q mode x r ps native h =
    let a = right_none (reserved_breaks D.Cpc (x ∷ [])) _ h in
    let b = right_none (cps_breaks D.Cpc mode q) _ a in
    let c = right_none (declared_breaks before x (record { mode = mode; result = r; parameters = types ps; is_defined = false })) _ b in
    let d = right_none (at_if (is_extern mode && not (is_host_like r (types ps))) x.place Disagree) _ c in
    both_none _ _ (reserved_native (x ∷ []) (left_none _ _ h)) (both_none _ _ (cps_native mode q native) (both_none _ _ (left_none (declared_breaks before x (record { mode = mode; result = r; parameters = types ps; is_defined = false })) _ b)
    (both_none _ _ (left_none (at_if (is_extern mode && not (is_host_like r (types ps))) x.place Disagree) _ c)
    (both_none _ _ (left_none (at_if (not (is_extern mode) && not (is_function x.text program)) x.place Undeclared) _ d) (parameters_native ps (right_none (at_if (not (is_extern mode) && not (is_function x.text program)) x.place Undeclared) _ d))))))

body_native : (before : Program) (f : LFunction) (body : LStmt) → is_cps f.mode ≡ false → spawns_none body ≡ true
    → body_breaks (in_body D.Cpc before f) body ≡ [] → body_breaks (in_body D.Event before f) body ≡ []
body_native before f (Block q ss) native k h = stmts_native _ f.mode f.result native ss k h
body_native before f (Empty q) native k h = refl
body_native before f (Declare q x t start) native k h = refl
body_native before f (Assign q o v op e) native k h = refl
body_native before f (Call q o to g es) native k h = refl
body_native before f (Detach q o j to g es) native k h = refl
body_native before f (Spawn q g es) native k h = refl
body_native before f (If q c a b) native k h = refl
body_native before f (While q c a) native k h = refl
body_native before f (DoWhile q a c) native k h = refl
body_native before f (For q ss c a b) native k h = refl
body_native before f (Goto q x) native k h = refl
body_native before f (Label x a) native k h = refl
body_native before f (Break q) native k h = refl
body_native before f (Continue q) native k h = refl
body_native before f (Return q e) native k h = refl

function_native : (before : Program) (f : LFunction) → is_cps f.mode ≡ false → spawns_none f.body ≡ true → function_breaks D.Cpc before f ≡ [] → function_breaks D.Event before f ≡ []
function_native before f native k h =
    let a = right_none (reserved_breaks D.Cpc (f.called ∷ [])) _ h in
    let b = right_none (cps_breaks D.Cpc f.mode f.place) _ a in
    let c = right_none (declared_breaks before f.called (record { mode = f.mode; result = f.result; parameters = types f.parameters; is_defined = true })) _ b in
    let d = right_none (parameters_breaks D.Cpc f.parameters) _ c in
    let i = right_none (sized_breaks (outside D.Cpc before).scope f.parameters) _ d in
    let j = right_none (body_breaks (in_body D.Cpc before f) f.body) _ i in
    let l = right_none (reserved_breaks D.Cpc (locals f.body ++ labels f.body)) _ j in
    let n = right_none (label_breaks f.body) _ l in
    both_none _ _ (reserved_native (f.called ∷ []) (left_none _ _ h)) (both_none _ _ (cps_native f.mode f.place native) (both_none _ _ (left_none _ _ b)
    (both_none _ _ (parameters_native f.parameters (left_none _ _ c)) (both_none _ _ (left_none _ _ d) (both_none _ _ (body_native before f f.body native k (left_none _ _ i))
    (both_none _ _ (reserved_native (locals f.body ++ labels f.body) (left_none _ _ j)) (both_none _ _ (left_none _ _ l) (both_none _ _ (left_none _ _ n)
    (many_native f.parameters f.body (right_none (stray_breaks f.body) _ n))))))))))

item_native : (program before : Program) (x : LItem) → is_native_item x ≡ true → item_breaks D.Cpc program before x ≡ [] → item_breaks D.Event program before x ≡ []
item_native program before (LStruct tag fs) k h = struct_native before tag fs h
item_native program before (LGlobal x t start) k h = global_native before x t start h
item_native program before (LPrototype q mode x r ps) k h = prototype_native program before q mode x r ps (not_holds (is_cps mode) k) h
item_native program before (LFunctionItem f) k h =
    function_native before f (not_holds (is_cps f.mode) (and_first (not (is_cps f.mode)) (spawns_none f.body) k)) (and_second (not (is_cps f.mode)) (spawns_none f.body) k) h

items_native : (program before : Program) (xs : List LItem) → are_native xs ≡ true → items_breaks D.Cpc program before xs ≡ [] → items_breaks D.Event program before xs ≡ []
items_native program before [] k h = refl
items_native program before (x ∷ xs) k h =
    both_none _ _ (item_native program before x (and_first (is_native_item x) (are_native xs) k) (left_none _ _ h))
    (items_native program (before ++ bare_item x ∷ []) xs (and_second (is_native_item x) (are_native xs) k) (right_none (item_breaks D.Cpc program before x) _ h))

-- a program of native code that breaks no rule of the dialect Cpc breaks none of the dialect Event
pub native_unbroken : (p : LProgram) → are_native p.items ≡ true → breaks D.Cpc p ≡ [] → breaks D.Event p ≡ []
native_unbroken p k h =
    let g = right_none (items_breaks D.Cpc (bare p) [] p.items) _ h in
    both_none _ _ (items_native (bare p) [] p.items k (left_none _ _ h)) (both_none (at_if (not (has_main p.items)) p.end NoMain) [] (left_none _ _ g) refl)
