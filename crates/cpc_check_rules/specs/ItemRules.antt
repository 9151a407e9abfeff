-- The rules that the parts of a program break, each by those before it.
use Rattle.std.specs.Prelude.{ℕ, Bool, true, false, ◌&&◌, ◌||◌, not, List, [], ◌∷◌, ◌++◌, length, map, Option, Some, None, bytes_eq, nat_le, nat_lt}
use Rattle.cpc_base.specs.Bytes.{Text}
use Rattle.cpc_base.specs.declared.stop.Place.{Place}
use Rattle.cpc_base.specs.declared.stop.Dialect.{Dialect}
use Rattle.cpc_tree.specs.KindVariants.{Char, Long}
use Rattle.cpc_tree.specs.declared.program.Mode.{Mode}
use Rattle.cpc_tree.specs.declared.program.Mode.TheVariants.{Extern, Native, Cps, Detached}
use Rattle.cpc_tree.specs.Syntax.{Ty, TyVoid, TyInt, TyStruct, TyArray, StructItem, GlobalItem, PrototypeItem, FunctionItem, Program}
use Rattle.cpc_tree.specs.Located.{Ident, LExpr, LText, LStmt, Block, LVariable, LParameter, LFunction, LItem, LStruct, LGlobal, LPrototype, LFunctionItem, bare_item}
use Rattle.cpc_tree.specs.Typing.{parameter_type, same_type, size}
use Rattle.cpc_check_rules.specs.declared.rule.Rule.TheVariants.{Undeclared, Twice, Disagree, Incomplete, CpsForm}
use Rattle.cpc_check_rules.specs.Rule.{Broken, at_if}
use Rattle.cpc_check_rules.specs.Scopes as S
use Rattle.cpc_check_rules.specs.Scopes.{cell_limit, is_sized}
use Rattle.cpc_check_rules.specs.Operators.{Where, is_cps}
use Rattle.cpc_check_rules.specs.Calls.{is_event}
use Rattle.cpc_check_rules.specs.StmtRules.{start_breaks, stmts_breaks}
use Rattle.cpc_check_rules.specs.FunctionRules.{repeated, label_breaks, stray_breaks, reserved_breaks, parameter_names, locals, labels, many_breaks}

-- where an item's own parts stand, outside of any function
abbrev pub outside : Dialect → Program → Where
outside dialect before = record { scope = record { items = before; blocks = [] }; mode = Native; result = TyVoid; dialect = dialect }

-- ---- structs

-- whether one of the items is a struct of this tag
abbrev pub is_struct : Text → Program → Bool
is_struct tag [] = false
is_struct tag (StructItem t fs ∷ items) = bytes_eq t tag || is_struct tag items
is_struct tag (x ∷ items) = is_struct tag items

abbrev pub field_names : List LVariable → List Ident
field_names [] = []
field_names (f ∷ fs) = f.called ∷ field_names fs

-- fields of types that are incomplete or oversized
abbrev pub fields_breaks : S.Scope → List LVariable → Broken
fields_breaks s [] = []
fields_breaks s (f ∷ fs) = at_if (not (is_sized s f.type)) f.called.place Incomplete ++ fields_breaks s fs

abbrev pub is_oversized : Option ℕ → Bool
is_oversized None = false
is_oversized (Some n) = nat_lt cell_limit n

abbrev pub struct_breaks : Dialect → Program → Ident → List LVariable → Broken
struct_breaks dialect before tag fs = reserved_breaks dialect (tag ∷ []) ++ (at_if (is_struct tag.text before) tag.place Twice
    ++ (at_if (is_oversized (size (before ++ bare_item (LStruct tag fs) ∷ []) (TyStruct tag.text))) tag.place Incomplete
    ++ (repeated Twice [] (field_names fs) ++ fields_breaks (outside dialect before).scope fs)))

-- ---- names of items

-- how a name was declared before: as a global, or as a function of a kind, with its result and its parameters
abbrev pub is_extern : Mode → Bool
is_extern Extern = true
is_extern mode = false

abbrev pub same_mode : Mode → Mode → Bool
same_mode Extern Extern = true
same_mode Native Native = true
same_mode Cps Cps = true
same_mode Detached Detached = true
same_mode m n = false

abbrev pub same_list : List Ty → List Ty → Bool
same_list [] [] = true
same_list (t ∷ ts) (u ∷ us) = same_type t u && same_list ts us
same_list ts us = false

-- what is declared of a function
pub record Signature : Type 0 where
  pub mode : Mode
  pub result : Ty
  pub parameters : List Ty
  pub is_defined : Bool

abbrev pub agrees : Signature → Mode → Ty → List Ty → Bool
agrees new mode r ps = same_mode new.mode mode && (same_type new.result r && same_list new.parameters ps)

abbrev same_extern : Bool → Bool → Bool
same_extern true b = b
same_extern false b = not b

-- the same name may not be declared so again: beside a global, by one extern and one that is none, or as a second definition
abbrev pub clashes : Signature → Mode → Bool → Bool
clashes new mode is_defined = not (same_extern (is_extern new.mode) (is_extern mode)) || (new.is_defined && is_defined)

abbrev pub is_clash : Text → Signature → Program → Bool
is_clash x new [] = false
is_clash x new (StructItem t fs ∷ items) = is_clash x new items
is_clash x new (GlobalItem g t start ∷ items) = bytes_eq g x || is_clash x new items
is_clash x new (PrototypeItem mode f r ps ∷ items) = (bytes_eq f x && clashes new mode false) || is_clash x new items
is_clash x new (FunctionItem f ∷ items) = (bytes_eq f.called x && clashes new f.mode true) || is_clash x new items

-- It is declared so that both may stand, and disagrees with what was declared.
abbrev pub disagrees : Signature → Mode → Bool → Ty → List Ty → Bool
disagrees new mode is_defined r ps = not (clashes new mode is_defined) && not (agrees new mode r ps)

abbrev pub is_disagreeing : Text → Signature → Program → Bool
is_disagreeing x new [] = false
is_disagreeing x new (StructItem t fs ∷ items) = is_disagreeing x new items
is_disagreeing x new (GlobalItem g t start ∷ items) = is_disagreeing x new items
is_disagreeing x new (PrototypeItem mode f r ps ∷ items) = (bytes_eq f x && disagrees new mode false r (map parameter_type ps)) || is_disagreeing x new items
is_disagreeing x new (FunctionItem f ∷ items) = (bytes_eq f.called x && disagrees new f.mode true f.result (map parameter_type f.parameters)) || is_disagreeing x new items

-- whether a name of a variable or a function is among the items
abbrev pub is_item : Text → Program → Bool
is_item x [] = false
is_item x (StructItem t fs ∷ items) = is_item x items
is_item x (GlobalItem g t start ∷ items) = bytes_eq g x || is_item x items
is_item x (PrototypeItem mode f r ps ∷ items) = bytes_eq f x || is_item x items
is_item x (FunctionItem f ∷ items) = bytes_eq f.called x || is_item x items

abbrev pub is_function : Text → Program → Bool
is_function x [] = false
is_function x (FunctionItem f ∷ items) = bytes_eq f.called x || is_function x items
is_function x (y ∷ items) = is_function x items

abbrev pub declared_breaks : Program → Ident → Signature → Broken
declared_breaks before x new = at_if (is_clash x.text new before) x.place Twice ++ at_if (is_disagreeing x.text new before) x.place Disagree

-- ---- globals

-- what a global starts with: a string only an array of char, which it must fit into
abbrev pub string_breaks : Ident → Ty → Place → List ℕ → Broken
string_breaks x (TyArray (TyInt Char) n) q bytes = at_if (nat_lt n (length bytes)) x.place Disagree
string_breaks x t q bytes = (q, Disagree) ∷ []

abbrev pub global_start : Where → Ident → Ty → Option LExpr → Broken
global_start w x t (Some (LText q bytes)) = string_breaks x t q bytes
global_start w x t start = start_breaks w x t start

abbrev pub global_breaks : Dialect → Program → Ident → Ty → Option LExpr → Broken
global_breaks dialect before x t start = reserved_breaks dialect (x ∷ []) ++ (at_if (is_item x.text before) x.place Twice
    ++ (at_if (not (is_sized (outside dialect before).scope t)) x.place Incomplete ++ global_start (outside dialect before) x t start))

-- ---- functions

abbrev pub is_long : Ty → Bool
is_long (TyInt Long) = true
is_long t = false

abbrev pub all_long : List Ty → Bool
all_long [] = true
all_long (t ∷ ts) = is_long t && all_long ts

-- a function of the host gives `long` and takes 8 `long`s at most
abbrev pub is_host_like : Ty → List Ty → Bool
is_host_like r ps = is_long r && (all_long ps && nat_le (length ps) 8)

abbrev pub types : List LParameter → List Ty
types [] = []
types (p ∷ ps) = p.type ∷ types ps

abbrev pub cps_breaks : Dialect → Mode → Place → Broken
cps_breaks dialect mode q = at_if (is_cps mode && is_event dialect) q CpsForm

-- the names of the parameters of one list
abbrev pub parameters_breaks : Dialect → List LParameter → Broken
parameters_breaks dialect ps = repeated Twice [] (parameter_names ps) ++ reserved_breaks dialect (parameter_names ps)

-- a prototype, in a program that has these items in all
abbrev pub prototype_breaks : Dialect → Program → Program → Place → Mode → Ident → Ty → List LParameter → Broken
prototype_breaks dialect program before q mode x r ps = reserved_breaks dialect (x ∷ []) ++ (cps_breaks dialect mode q
    ++ (declared_breaks before x (record { mode = mode; result = r; parameters = types ps; is_defined = false })
    ++ (at_if (is_extern mode && not (is_host_like r (types ps))) x.place Disagree ++ (at_if (not (is_extern mode) && not (is_function x.text program)) x.place Undeclared
    ++ parameters_breaks dialect ps))))

abbrev sized_name : Bool → Option Ident → Broken
sized_name is_fine None = []
sized_name is_fine (Some x) = at_if (not is_fine) x.place Incomplete

abbrev with_parameter : Option Ident → Ty → S.Block → S.Block
with_parameter None t block = block
with_parameter (Some x) t block = record { called = x.text; type = t } ∷ block

-- parameters of types that are incomplete or oversized
abbrev pub sized_breaks : S.Scope → List LParameter → Broken
sized_breaks s [] = []
sized_breaks s (p ∷ ps) = sized_name (is_sized s p.type) p.called ++ sized_breaks s ps

-- the parameters as the names of a block, the last one first
abbrev pub parameter_block : S.Block → List LParameter → S.Block
parameter_block block [] = block
parameter_block block (p ∷ ps) = parameter_block (with_parameter p.called p.type block) ps

-- where the body of a function stands: the function itself is in scope, and its parameters are the outermost block
abbrev pub in_body : Dialect → Program → LFunction → Where
in_body dialect before f = record {
  scope = record { items = before ++ bare_item (LFunctionItem f) ∷ []; blocks = parameter_block [] f.parameters ∷ [] };
  mode = f.mode;
  result = f.result;
  dialect = dialect;
}

abbrev pub body_breaks : Where → LStmt → Broken
body_breaks w (Block q ss) = stmts_breaks w ss
body_breaks w s = []

abbrev pub function_breaks : Dialect → Program → LFunction → Broken
function_breaks dialect before f = reserved_breaks dialect (f.called ∷ []) ++ (cps_breaks dialect f.mode f.place
    ++ (declared_breaks before f.called (record { mode = f.mode; result = f.result; parameters = types f.parameters; is_defined = true })
    ++ (parameters_breaks dialect f.parameters ++ (sized_breaks (outside dialect before).scope f.parameters ++ (body_breaks (in_body dialect before f) f.body
    ++ (reserved_breaks dialect (locals f.body ++ labels f.body) ++ (label_breaks f.body ++ (stray_breaks f.body ++ many_breaks dialect f.parameters f.body))))))))

-- what an item breaks, in a program that has these items in all
abbrev pub item_breaks : Dialect → Program → Program → LItem → Broken
item_breaks dialect program before (LStruct tag fs) = struct_breaks dialect before tag fs
item_breaks dialect program before (LGlobal x t start) = global_breaks dialect before x t start
item_breaks dialect program before (LPrototype q mode x r ps) = prototype_breaks dialect program before q mode x r ps
item_breaks dialect program before (LFunctionItem f) = function_breaks dialect before f

abbrev pub items_breaks : Dialect → Program → Program → List LItem → Broken
items_breaks dialect program before [] = []
items_breaks dialect program before (x ∷ xs) = item_breaks dialect program before x ++ items_breaks dialect program (before ++ bare_item x ∷ []) xs
