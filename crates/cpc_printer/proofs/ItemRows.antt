-- What the definitions of rows give at each item.
use Rattle.std.proofs.Common.{◌≡◌, ℕ, ◌+◌, ◌<◌, ◌≤◌, Bool, List, [], ◌∷◌, ◌++◌, length, get_or, drop, map, refl, ap, ◌∙◌, Vec, Global, Option, append_assoc, arith}
use Rattle.std.proofs.lemmas.List.{drop_all}
use Rattle.cpc_base.specs.Bytes.{Text}
use Rattle.cpc_base.specs.declared.stop.Place.{Place}
use Rattle.cpc_base.proofs.Lists.{drop_to_item}
use Rattle.cpc_tree.specs.declared.program.Mode.{Mode}
use Rattle.cpc_tree.specs.declared.program.Field as GField
use Rattle.cpc_tree.specs.declared.program.Item as GItem
use Rattle.cpc_tree.specs.declared.program.Statement as GStatement
use Rattle.cpc_tree.specs.declared.program.Statement.TheVariants as T
use Rattle.cpc_tree.specs.declared.token.Keyword.TheVariants as K
use Rattle.cpc_tree.specs.declared.token.Punctuator.TheVariants as P
use Rattle.cpc_tree.specs.Tokens.{Word, Mark, Named}
use Rattle.cpc_tree.specs.Syntax.{Ty, Expr, Parameter, Variable, Function, Item, StructItem, GlobalItem, PrototypeItem, FunctionItem}
use Rattle.cpc_tree.specs.Erase.{Names, stmt_of, list_of, field_of, item_of}
use Rattle.cpc_tree.specs.TypePrint.{base_row}
use Rattle.cpc_tree.specs.StmtPrint.{local_row, block_row}
use Rattle.cpc_tree.specs.ItemPrint.{mode_row, fields_row, head_row, body_row, item_row, program_row}
use Rattle.cpc_tree.proofs.Clauses.{block_is}
use Rattle.cpc_printer.specs.Items.{field_row, function_row}

pub program_none : (tight : Bool) → program_row tight [] ≡ []
unfolding program_row
program_none tight = refl

pub program_some : (tight : Bool) (x : Item) (xs : List Item) → program_row tight (x ∷ xs) ≡ item_row tight x ++ program_row tight xs
unfolding program_row
program_some tight x xs = refl

pub program_end : (tight : Bool) (names : Names) (xs : List GItem.Item) (i : ℕ) → length xs ≤ i → program_row tight (map (item_of names) (drop i xs)) ≡ []
program_end tight names xs i h = ap (λ ys. program_row tight (map (item_of names) ys)) (drop_all i xs h) ∙ program_none tight

pub program_more : (tight : Bool) (names : Names) (xs : List GItem.Item) (i : ℕ) (x : GItem.Item) → i < length xs → x ≡ get_or xs i x
    → program_row tight (map (item_of names) (drop i xs)) ≡ item_row tight (item_of names x) ++ program_row tight (map (item_of names) (drop (i + 1) xs))
program_more tight names xs i x h e = ap (λ ys. program_row tight (map (item_of names) ys)) (drop_to_item xs i x h e) ∙ program_some tight (item_of names x) (map (item_of names) (drop (i + 1) xs))

fields_nil : (tight : Bool) → fields_row tight [] ≡ []
unfolding fields_row
fields_nil tight = refl

fields_cons : (tight : Bool) (x : Variable) (xs : List Variable) → fields_row tight (x ∷ xs) ≡ field_row tight x ++ fields_row tight xs
unfolding fields_row
fields_cons tight x xs = grind (arith, append_assoc)

pub fields_end : (tight : Bool) (names : Names) (xs : List GField.Field) (i : ℕ) → length xs ≤ i → fields_row tight (map (field_of names) (drop i xs)) ≡ []
fields_end tight names xs i h = ap (λ ys. fields_row tight (map (field_of names) ys)) (drop_all i xs h) ∙ fields_nil tight

pub fields_more : (tight : Bool) (names : Names) (xs : List GField.Field) (i : ℕ) (x : GField.Field) → i < length xs → x ≡ get_or xs i x
    → fields_row tight (map (field_of names) (drop i xs)) ≡ field_row tight (field_of names x) ++ fields_row tight (map (field_of names) (drop (i + 1) xs))
fields_more tight names xs i x h e = ap (λ ys. fields_row tight (map (field_of names) ys)) (drop_to_item xs i x h e) ∙ fields_cons tight (field_of names x) (map (field_of names) (drop (i + 1) xs))

pub item_struct : (tight : Bool) (tag : Text) (xs : List Variable) → item_row tight (StructItem tag xs) ≡ Word K.Struct ∷ Named tag ∷ Mark P.LeftBrace ∷ (fields_row tight xs ++ Mark P.RightBrace ∷ Mark P.Semicolon ∷ [])
unfolding item_row
item_struct tight tag xs = refl

pub item_global : (tight : Bool) (x : Text) (t : Ty) (start : Option Expr) → item_row tight (GlobalItem x t start) ≡ base_row t ++ (local_row tight x t start ++ Mark P.Semicolon ∷ [])
unfolding item_row
item_global tight x t start = refl

pub item_prototype : (tight : Bool) (mode : Mode) (x : Text) (t : Ty) (ps : List Parameter) → item_row tight (PrototypeItem mode x t ps) ≡ mode_row mode ++ (head_row tight x t ps ++ Mark P.Semicolon ∷ [])
unfolding item_row
item_prototype tight mode x t ps = refl

pub item_function : (tight : Bool) (f : Function) → item_row tight (FunctionItem f) ≡ function_row tight f
unfolding item_row
item_function tight f = refl

pub body_block : (names : Names) (tight : Bool) (e : GStatement.Statement) (place : Place) (inner : Vec GStatement.Statement Global) → e ≡ T.Block place inner
    → body_row tight (stmt_of names e) ≡ Mark P.LeftBrace ∷ (block_row tight (list_of names inner.items) ++ Mark P.RightBrace ∷ [])
body_block names tight e place inner h = ap (body_row tight) (ap (stmt_of names) h ∙ block_is names place inner)
