-- Which rules a program breaks does not depend on places: items, and whole programs.
use Rattle.std.proofs.Common.{◌≡◌, ℕ, suc, ◌+◌, ◌*◌, Bool, true, false, ◌&&◌, not, if◌then◌else◌, List, [], ◌∷◌, ◌++◌, length, map, nat_lt, Option, Some, None, refl, sym, ap, ap₂, ◌∙◌}
use Rattle.cpc_base.specs.declared.stop.Place.{Place}
use Rattle.cpc_base.specs.declared.stop.Dialect.{Dialect}
use Rattle.cpc_base.specs.declared.stop.Dialect.TheVariants as D
use Rattle.cpc_num.specs.declared.kinds.Kind.TheVariants as K
use Rattle.cpc_tree.specs.declared.program.Mode.{Mode}
use Rattle.cpc_tree.specs.Syntax.{Ty, TyVoid, TyInt, TyCondvar, TyPointer, TyCode, TyStruct, TyArray, Program}
use Rattle.cpc_tree.specs.Typing.{size}
use Rattle.cpc_tree.specs.Located.{Ident, LExpr, LNamed, LInteger, LCharacter, LText, LUnary, LBinary, LAnd, LOr, LChoose, LCast, LSizeOf, LIndex, LMember, LArrow, LCall, LStmt, Block, Empty, Declare, Assign, Call, Detach, Spawn, If, While, DoWhile, For, Goto, Label, Break, Continue, Return, LVariable, LParameter, LFunction, LItem, LStruct, LGlobal, LPrototype, LFunctionItem, LProgram, bare_variable, bare_item, bare_function, bare}
use Rattle.cpc_check_rules.specs.Rule.{Broken}
use Rattle.cpc_check_rules.specs.declared.rule.Rule.TheVariants.{Undeclared, Twice, Disagree, Incomplete, CpsForm, NoMain, TooBroad}
use Rattle.cpc_check_rules.specs.Scopes as S
use Rattle.cpc_check_rules.specs.Scopes.{is_sized}
use Rattle.cpc_check_rules.specs.Operators.{Where, is_cps}
use Rattle.cpc_check_rules.specs.FunctionRules.{parameter_names, locals, labels}
use Rattle.cpc_check_rules.specs.ItemRules.{outside, is_struct, field_names, fields_breaks, is_oversized, struct_breaks, is_extern, Signature, is_clash, is_disagreeing, is_item, is_function, declared_breaks, string_breaks, global_start, global_breaks, is_host_like, types, cps_breaks, parameters_breaks, prototype_breaks, sized_breaks, parameter_block, in_body, body_breaks, function_breaks, item_breaks, items_breaks}
use Rattle.cpc_check_rules.specs.Rules.{is_main, has_main, breadth, breadth_limit, broad_breaks, breadth_breaks, breaks}
use Rattle.cpc_check_laws.specs.Native.Rows.{rules_of}
use Rattle.cpc_check_laws.specs.Native.Laws.{PlacesDoNotMatter, UnbrokenAtAnyPlaces}
use Rattle.cpc_check_laws.proofs.Native.OnePlace.{here, variable_here, function_here, item_here, program_here, item_again, program_again}
use Rattle.cpc_check_laws.proofs.Native.PlacesValues.{both_same, same_if}
use Rattle.cpc_check_laws.proofs.Native.PlacesStatements.{moved_ident, moved_option, moved_stmt, start_same, stmts_same}
use Rattle.cpc_check_laws.proofs.Native.PlacesFunctions.{moved_idents, moved_parameters, repeated_same, reserved_same, label_same, stray_same, names_moved, parameters_moved, variables_count, many_same, statements_same}

abbrev moved_fields : List LVariable → List LVariable
moved_fields fs = map variable_here (map bare_variable fs)

abbrev moved_function : LFunction → LFunction
moved_function f = function_here (bare_function f)

abbrev moved_item : LItem → LItem
moved_item x = item_here (bare_item x)

abbrev moved_items : List LItem → List LItem
moved_items xs = map item_here (map bare_item xs)

-- ---- structs

fields_moved : (fs : List LVariable) → moved_idents (field_names fs) ≡ field_names (moved_fields fs)
fields_moved [] = refl
fields_moved (f ∷ fs) = ap (λ xs. moved_ident f.called ∷ xs) (fields_moved fs)

fields_same : (s : S.Scope) (fs : List LVariable) → rules_of (fields_breaks s fs) ≡ rules_of (fields_breaks s (moved_fields fs))
fields_same s [] = refl
fields_same s (f ∷ fs) = both_same _ _ _ _ (same_if (not (is_sized s f.type)) _ f.called.place here Incomplete refl) (fields_same s fs)

struct_same : (dialect : Dialect) (before : Program) (tag : Ident) (fs : List LVariable) → rules_of (struct_breaks dialect before tag fs) ≡ rules_of (struct_breaks dialect before (moved_ident tag) (moved_fields fs))
struct_same dialect before tag fs = both_same _ _ _ _ (reserved_same dialect (tag ∷ []) (moved_ident tag ∷ []) refl)
    (both_same _ _ _ _ (same_if (is_struct tag.text before) _ tag.place here Twice refl)
    (both_same _ _ _ _ (same_if _ _ tag.place here Incomplete (ap (λ x. is_oversized (size (before ++ x ∷ []) (TyStruct tag.text))) (sym (item_again (bare_item (LStruct tag fs))))))
    (both_same _ _ _ _ (repeated_same Twice (field_names fs) _ (fields_moved fs)) (fields_same (outside dialect before).scope fs))))

-- ---- names of items

declared_same : (before : Program) (x : Ident) (new other : Signature) → new ≡ other → rules_of (declared_breaks before x new) ≡ rules_of (declared_breaks before (moved_ident x) other)
declared_same before x new other e = both_same _ _ _ _ (same_if (is_clash x.text new before) _ x.place here Twice refl) (same_if (is_disagreeing x.text new before) _ x.place here Disagree refl)
    ∙ ap (λ n. rules_of (declared_breaks before (moved_ident x) n)) e

-- ---- globals

string_same : (x : Ident) (t : Ty) (q r : Place) (bytes : List ℕ) → rules_of (string_breaks x t q bytes) ≡ rules_of (string_breaks (moved_ident x) t r bytes)
string_same x TyVoid q r bytes = refl
string_same x (TyInt kind) q r bytes = refl
string_same x TyCondvar q r bytes = refl
string_same x (TyPointer t) q r bytes = refl
string_same x (TyCode t ps) q r bytes = refl
string_same x (TyStruct tag) q r bytes = refl
string_same x (TyArray TyVoid n) q r bytes = refl
string_same x (TyArray TyCondvar n) q r bytes = refl
string_same x (TyArray (TyPointer t) n) q r bytes = refl
string_same x (TyArray (TyCode t ps) n) q r bytes = refl
string_same x (TyArray (TyStruct tag) n) q r bytes = refl
string_same x (TyArray (TyArray t m) n) q r bytes = refl
string_same x (TyArray (TyInt K.Char) n) q r bytes = same_if (nat_lt n (length bytes)) _ x.place here Disagree refl
string_same x (TyArray (TyInt K.UChar) n) q r bytes = refl
string_same x (TyArray (TyInt K.Int) n) q r bytes = refl
string_same x (TyArray (TyInt K.UInt) n) q r bytes = refl
string_same x (TyArray (TyInt K.Long) n) q r bytes = refl
string_same x (TyArray (TyInt K.ULong) n) q r bytes = refl

global_start_same : (w : Where) (x : Ident) (t : Ty) (start : Option LExpr) → rules_of (global_start w x t start) ≡ rules_of (global_start w (moved_ident x) t (moved_option start))
global_start_same w x t None = refl
global_start_same w x t (Some (LText q bytes)) = string_same x t q here bytes
global_start_same w x t (Some (LNamed y)) = start_same w x t (Some (LNamed y))
global_start_same w x t (Some (LInteger q kind z)) = start_same w x t (Some (LInteger q kind z))
global_start_same w x t (Some (LCharacter q z)) = start_same w x t (Some (LCharacter q z))
global_start_same w x t (Some (LUnary q op v)) = start_same w x t (Some (LUnary q op v))
global_start_same w x t (Some (LBinary q op v u)) = start_same w x t (Some (LBinary q op v u))
global_start_same w x t (Some (LAnd q v u)) = start_same w x t (Some (LAnd q v u))
global_start_same w x t (Some (LOr q v u)) = start_same w x t (Some (LOr q v u))
global_start_same w x t (Some (LChoose q c v u)) = start_same w x t (Some (LChoose q c v u))
global_start_same w x t (Some (LCast q u v)) = start_same w x t (Some (LCast q u v))
global_start_same w x t (Some (LSizeOf q u)) = start_same w x t (Some (LSizeOf q u))
global_start_same w x t (Some (LIndex q v u)) = start_same w x t (Some (LIndex q v u))
global_start_same w x t (Some (LMember q v y)) = start_same w x t (Some (LMember q v y))
global_start_same w x t (Some (LArrow q v y)) = start_same w x t (Some (LArrow q v y))
global_start_same w x t (Some (LCall q f vs)) = start_same w x t (Some (LCall q f vs))

global_same : (dialect : Dialect) (before : Program) (x : Ident) (t : Ty) (start : Option LExpr) → rules_of (global_breaks dialect before x t start) ≡ rules_of (global_breaks dialect before (moved_ident x) t (moved_option start))
global_same dialect before x t start = both_same _ _ _ _ (reserved_same dialect (x ∷ []) (moved_ident x ∷ []) refl)
    (both_same _ _ _ _ (same_if (is_item x.text before) _ x.place here Twice refl)
    (both_same _ _ _ _ (same_if (not (is_sized (outside dialect before).scope t)) _ x.place here Incomplete refl) (global_start_same (outside dialect before) x t start)))

-- ---- functions

types_same : (ps : List LParameter) → types ps ≡ types (moved_parameters ps)
types_same [] = refl
types_same (p ∷ ps) = ap (λ ts. p.type ∷ ts) (types_same ps)

parameters_same : (dialect : Dialect) (ps : List LParameter) → rules_of (parameters_breaks dialect ps) ≡ rules_of (parameters_breaks dialect (moved_parameters ps))
parameters_same dialect ps = both_same _ _ _ _ (repeated_same Twice (parameter_names ps) _ (parameters_moved ps)) (reserved_same dialect (parameter_names ps) _ (parameters_moved ps))

abbrev signature : Mode → Ty → List Ty → Bool → Signature
signature mode r ts is_defined = record { mode = mode; result = r; parameters = ts; is_defined = is_defined }

cps_same : (dialect : Dialect) (mode : Mode) (q r : Place) → rules_of (cps_breaks dialect mode q) ≡ rules_of (cps_breaks dialect mode r)
cps_same dialect mode q r = same_if _ _ q r CpsForm refl

prototype_same : (dialect : Dialect) (program before : Program) (q : Place) (mode : Mode) (x : Ident) (r : Ty) (ps : List LParameter)
    → rules_of (prototype_breaks dialect program before q mode x r ps) ≡ rules_of (prototype_breaks dialect program before here mode (moved_ident x) r (moved_parameters ps))
prototype_same dialect program before q mode x r ps = both_same _ _ _ _ (reserved_same dialect (x ∷ []) (moved_ident x ∷ []) refl)
    (both_same _ _ _ _ (cps_same dialect mode q here)
    (both_same _ _ _ _ (declared_same before x _ _ (ap (λ ts. signature mode r ts false) (types_same ps)))
    (both_same _ _ _ _ (same_if _ _ x.place here Disagree (ap (λ ts. is_extern mode && not (is_host_like r ts)) (types_same ps)))
    (both_same _ _ _ _ (same_if (not (is_extern mode) && not (is_function x.text program)) _ x.place here Undeclared refl) (parameters_same dialect ps)))))

sized_same : (s : S.Scope) (ps : List LParameter) → rules_of (sized_breaks s ps) ≡ rules_of (sized_breaks s (moved_parameters ps))
sized_same s [] = refl
sized_same s (p ∷ ps) = go p.called (sized_same s ps)
  where
    go : (o : Option Ident) → rules_of (sized_breaks s ps) ≡ rules_of (sized_breaks s (moved_parameters ps))
        → rules_of (sized_breaks s (record { called = o; type = p.type } ∷ ps)) ≡ rules_of (sized_breaks s (moved_parameters (record { called = o; type = p.type } ∷ ps)))
    go None e = e
    go (Some x) e = both_same _ _ _ _ (same_if (not (is_sized s p.type)) _ x.place here Incomplete refl) e

block_same : (block : S.Block) (ps : List LParameter) → parameter_block block ps ≡ parameter_block block (moved_parameters ps)
block_same block [] = refl
block_same block (p ∷ ps) = go p.called (λ b. block_same b ps)
  where
    go : (o : Option Ident) → ((b : S.Block) → parameter_block b ps ≡ parameter_block b (moved_parameters ps))
        → parameter_block block (record { called = o; type = p.type } ∷ ps) ≡ parameter_block block (moved_parameters (record { called = o; type = p.type } ∷ ps))
    go None e = e block
    go (Some x) e = e (record { called = x.text; type = p.type } ∷ block)

abbrev body_at : Dialect → LFunction → Program → S.Block → Where
body_at dialect f items block = record { scope = record { items = items; blocks = block ∷ [] }; mode = f.mode; result = f.result; dialect = dialect }

in_body_same : (dialect : Dialect) (before : Program) (f : LFunction) → in_body dialect before f ≡ in_body dialect before (moved_function f)
in_body_same dialect before f = ap₂ (body_at dialect f) (ap (λ x. before ++ x ∷ []) (sym (item_again (bare_item (LFunctionItem f))))) (block_same [] f.parameters)

body_same : (w : Where) (s : LStmt) → rules_of (body_breaks w s) ≡ rules_of (body_breaks w (moved_stmt s))
body_same w (Block q ss) = stmts_same w ss
body_same w (Empty q) = refl
body_same w (Declare q x t start) = refl
body_same w (Assign q o v op e) = refl
body_same w (Call q o to f es) = refl
body_same w (Detach q o k to f es) = refl
body_same w (Spawn q f es) = refl
body_same w (If q c a b) = refl
body_same w (While q c a) = refl
body_same w (DoWhile q a c) = refl
body_same w (For q ss c b a) = refl
body_same w (Goto q x) = refl
body_same w (Label x a) = refl
body_same w (Break q) = refl
body_same w (Continue q) = refl
body_same w (Return q e) = refl

function_same : (dialect : Dialect) (before : Program) (f : LFunction) → rules_of (function_breaks dialect before f) ≡ rules_of (function_breaks dialect before (moved_function f))
function_same dialect before f = both_same _ _ _ _ (reserved_same dialect (f.called ∷ []) (moved_ident f.called ∷ []) refl)
    (both_same _ _ _ _ (cps_same dialect f.mode f.place here)
    (both_same _ _ _ _ (declared_same before f.called _ _ (ap (λ ts. signature f.mode f.result ts true) (types_same f.parameters)))
    (both_same _ _ _ _ (parameters_same dialect f.parameters)
    (both_same _ _ _ _ (sized_same (outside dialect before).scope f.parameters)
    (both_same _ _ _ _ (body_same (in_body dialect before f) f.body ∙ ap (λ w. rules_of (body_breaks w (moved_stmt f.body))) (in_body_same dialect before f))
    (both_same _ _ _ _ (reserved_same dialect (locals f.body ++ labels f.body) _ (names_moved f.body))
    (both_same _ _ _ _ (label_same f.body)
    (both_same _ _ _ _ (stray_same f.body) (many_same dialect f.parameters f.body)))))))))

-- ---- items

item_same : (dialect : Dialect) (program before : Program) (x : LItem) → rules_of (item_breaks dialect program before x) ≡ rules_of (item_breaks dialect program before (moved_item x))
item_same dialect program before (LStruct tag fs) = struct_same dialect before tag fs
item_same dialect program before (LGlobal x t start) = global_same dialect before x t start
item_same dialect program before (LPrototype q mode x r ps) = prototype_same dialect program before q mode x r ps
item_same dialect program before (LFunctionItem f) = function_same dialect before f

items_same : (dialect : Dialect) (program before : Program) (xs : List LItem) → rules_of (items_breaks dialect program before xs) ≡ rules_of (items_breaks dialect program before (moved_items xs))
items_same dialect program before [] = refl
items_same dialect program before (x ∷ xs) = both_same _ _ _ _ (item_same dialect program before x) (items_same dialect program (before ++ bare_item x ∷ []) xs)
    ∙ ap (λ y. rules_of (item_breaks dialect program before (moved_item x) ++ items_breaks dialect program (before ++ y ∷ []) (moved_items xs))) (sym (item_again (bare_item x)))

-- ---- main and breadth

main_same : (f : LFunction) → is_main f ≡ is_main (moved_function f)
main_same f = go f.parameters
  where
    go : (ps : List LParameter) → is_main (record { place = f.place; mode = f.mode; called = f.called; result = f.result; parameters = ps; body = f.body })
        ≡ is_main (moved_function (record { place = f.place; mode = f.mode; called = f.called; result = f.result; parameters = ps; body = f.body }))
    go [] = refl
    go (p ∷ ps) = refl

has_main_same : (xs : List LItem) → has_main xs ≡ has_main (moved_items xs)
has_main_same [] = refl
has_main_same (LStruct tag fs ∷ xs) = has_main_same xs
has_main_same (LGlobal x t start ∷ xs) = has_main_same xs
has_main_same (LPrototype q mode x r ps ∷ xs) = has_main_same xs
has_main_same (LFunctionItem f ∷ xs) = ap₂ (λ a b. if a then true else b) (main_same f) (has_main_same xs)

breadth_same : (f : LFunction) → breadth f ≡ breadth (moved_function f)
breadth_same f = ap₂ (λ m n. m * suc n) (statements_same f.body) (variables_count f.parameters f.body)

broad_step : (b c : Bool) (q r : Place) (k l m n : Broken) → rules_of k ≡ rules_of m → rules_of l ≡ rules_of n
    → rules_of (if b then (if c then (q, TooBroad) ∷ [] else k) else l) ≡ rules_of (if b then (if c then (r, TooBroad) ∷ [] else m) else n)
broad_step true true q r k l m n e f = refl
broad_step true false q r k l m n e f = e
broad_step false c q r k l m n e f = f

broad_same : (n : ℕ) (xs : List LItem) → rules_of (broad_breaks n xs) ≡ rules_of (broad_breaks n (moved_items xs))
broad_same n [] = refl
broad_same n (LStruct tag fs ∷ xs) = broad_same n xs
broad_same n (LGlobal x t start ∷ xs) = broad_same n xs
broad_same n (LPrototype q mode x r ps ∷ xs) = broad_same n xs
broad_same n (LFunctionItem f ∷ xs) =
    broad_step (is_cps f.mode) (nat_lt breadth_limit (n + breadth f)) f.called.place here _ _ _ _ (broad_same (n + breadth f) xs) (broad_same n xs)
    ∙ ap (λ k. rules_of (if is_cps f.mode then (if nat_lt breadth_limit (n + k) then (here, TooBroad) ∷ [] else broad_breaks (n + k) (moved_items xs)) else broad_breaks n (moved_items xs))) (breadth_same f)

breadth_breaks_same : (dialect : Dialect) (xs : List LItem) → rules_of (breadth_breaks dialect xs) ≡ rules_of (breadth_breaks dialect (moved_items xs))
breadth_breaks_same D.Cpc xs = broad_same 0 xs
breadth_breaks_same D.Event xs = refl

-- ---- programs

-- a program and the one with its items at one place
program_same : (dialect : Dialect) (p : LProgram) → rules_of (breaks dialect p) ≡ rules_of (breaks dialect (program_here (bare p)))
program_same dialect p =
    both_same _ _ _ _ (items_same dialect (bare p) [] p.items ∙ ap (λ program. rules_of (items_breaks dialect program [] (moved_items p.items))) (sym (program_again (bare p))))
    (both_same _ _ _ _ (same_if _ _ p.end here NoMain (ap not (has_main_same p.items))) (breadth_breaks_same dialect p.items))

pub places_do_not_matter : PlacesDoNotMatter
places_do_not_matter dialect p q e = program_same dialect p ∙ (ap (λ x. rules_of (breaks dialect (program_here x))) e ∙ sym (program_same dialect q))

no_rules : (broken : Broken) → rules_of broken ≡ [] → broken ≡ []
no_rules [] e = refl
no_rules (b ∷ bs) e = absurd cc

pub unbroken_at_any_places : UnbrokenAtAnyPlaces
unbroken_at_any_places dialect p q e h = no_rules (breaks dialect q) (sym (places_do_not_matter dialect p q e) ∙ ap rules_of h)
