-- The print of a program fits the tokens that it was read from.
use Rattle.std.proofs.Common.{◌≡◌, ℕ, Bool, List, [], ◌∷◌, ◌++◌, map, Some, refl}
use Rattle.std.proofs.lemmas.List.{map-append, append_assoc}
use Rattle.cpc_base.specs.declared.stop.Dialect.{Dialect}
use Rattle.cpc_base.specs.declared.stop.Dialect.TheVariants as D
use Rattle.cpc_tree.specs.declared.program.Mode.{Mode}
use Rattle.cpc_tree.specs.declared.token.Punctuator.TheVariants as P
use Rattle.cpc_tree.specs.Tokens.{Mark, Placed}
use Rattle.cpc_tree.specs.Syntax.{Ty, Variable, Item}
use Rattle.cpc_tree.specs.Located.{LExpr, LVariable, LItem, bare_expr, bare_variable, bare_parameter, bare_item}
use Rattle.cpc_tree.specs.TypePrint.{base_row, declarator_row}
use Rattle.cpc_tree.specs.ExprGrammar.{Whole}
use Rattle.cpc_tree.specs.ExprPrint.{expr_row}
use Rattle.cpc_tree.specs.ItemGrammar as G
use Rattle.cpc_tree.specs.ItemGrammar.{ReadsMode, native, cps, detached, ReadsPrototypeMode, extern, of_function, ReadsVariables, last_variable, more_variables, ReadsFields, last_fields, more_fields, ReadsInitial, an_integer, a_negative, a_character, a_text, ReadsGlobal, unset, set, ReadsGlobals, last_global, more_globals, ReadsHead, head, ReadsItem, struct, globals, function, prototype, ReadsItems, no_item, items}
use Rattle.cpc_tree.specs.ItemPrint.{mode_row, fields_row, head_row, item_row, program_row, lexemes}
use Rattle.cpc_printer_laws.specs.Fewest.{PrintsFewest, ReadSpellable}
use Rattle.cpc_printer_laws.proofs.StmtRows.{stmts_bare}
use Rattle.cpc_printer_laws.proofs.LeastTypes.{IsBase, base_is}
use Rattle.cpc_printer_laws.proofs.Fitting.{Fits, Based, spelled_all, all_spelled, free_nothing, at_none, at_free, at_both, at_token, at_drop, at_added, of_fits, based_both, based_drop, based_added, based_before, based_first, close}
use Rattle.cpc_printer_laws.proofs.FitTypes.{base_fits, start_fits, stars_free, list_fits}
use Rattle.cpc_printer_laws.proofs.FitLocals.{declared, semicolon}
use Rattle.cpc_printer_laws.proofs.FitStatements.{block_fits}

fields_both : (tight : Bool) (xs ys : List Variable) → fields_row tight (xs ++ ys) ≡ fields_row tight xs ++ fields_row tight ys
unfolding fields_row
fields_both tight [] ys = refl
fields_both tight (x ∷ xs) ys = rw (fields_both tight xs ys, append_assoc, append_assoc) refl

variables_based : (d : Dialect) (tight : Bool) (base : Ty) (f : List Placed) (xs : List LVariable) (h : ℕ) → IsBase base → ReadsVariables base f xs h → Based d (base_row base) f (fields_row tight (map bare_variable xs))
unfolding fields_row
variables_based d tight base f xs h b (last_variable g x i r) = rw (← append_assoc) (based_added (declared d tight base g x i b r) semicolon)
variables_based d tight base f xs h b (more_variables g l q x ys i j r s) = rw (← append_assoc) (based_both (declared d tight base g x i b r) (based_drop (based_before semicolon (variables_based d tight base l ys j b s))))

initial_fits : (d : Dialect) (tight : Bool) (f : List Placed) (v : LExpr) (h : ℕ) → ReadsInitial f v h → Fits d f (expr_row tight Whole (bare_expr v))
unfolding expr_row
initial_fits d tight f v h (an_integer q kind z) = at_token at_none
initial_fits d tight f v h (a_negative q r kind z) = at_token (at_token at_none)
initial_fits d tight f v h (a_character q z) = at_token at_none
initial_fits d tight f v h (a_text q bytes) = at_token at_none

pub fields_fit : (d : Dialect) (tight : Bool) (f : List Placed) (xs : List LVariable) (h : ℕ) → ReadsFields f xs h → Fits d f (fields_row tight (map bare_variable xs))
fields_fit d tight f xs h (last_fields a g q base ys i j b r) = close (base_fits d a base i b) (based_first _ (variables_based d tight base g ys j (base_is a base i b) r))
fields_fit d tight f xs h (more_fields a g l q base ys zs i j k b r s) =
    rw (map-append bare_variable ys zs, fields_both tight (map bare_variable ys) (map bare_variable zs))
    (close (base_fits d a base i b) (based_both (variables_based d tight base g ys j (base_is a base i b) r) (of_fits (at_drop (fields_fit d tight l zs k s)))))

program_both : (tight : Bool) (xs ys : List Item) → program_row tight (xs ++ ys) ≡ program_row tight xs ++ program_row tight ys
unfolding program_row
program_both tight [] ys = refl
program_both tight (x ∷ xs) ys = rw (program_both tight xs ys, append_assoc) refl

global_based : (d : Dialect) (tight : Bool) (base : Ty) (f : List Placed) (x : LItem) (h : ℕ) → IsBase base → ReadsGlobal base f x h → Based d (base_row base) f (item_row tight (bare_item x))
unfolding item_row
global_based d tight base f x h b (unset g y i r) = rw (← append_assoc) (based_added (declared d tight base g y i b r) semicolon)
global_based d tight base f x h b (set g l q y v i j r s) =
    rw (append_assoc, ← append_assoc (base_row y.type) (declarator_row tight (Some y.called.text) y.type) (Mark P.Equal ∷ (expr_row tight Whole (bare_expr v) ++ Mark P.Semicolon ∷ []))) (based_both (declared d tight base g y i b r) (of_fits (at_token (at_added (initial_fits d tight l v j s) semicolon))))

globals_based : (d : Dialect) (tight : Bool) (base : Ty) (f : List Placed) (xs : List LItem) (h : ℕ) → IsBase base → ReadsGlobals base f xs h → Based d (base_row base) f (program_row tight (map bare_item xs))
unfolding program_row
globals_based d tight base f xs h b (last_global g x i r) = based_added (global_based d tight base g x i b r) free_nothing
globals_based d tight base f xs h b (more_globals g l q x ys i j r s) = based_both (global_based d tight base g x i b r) (based_drop (globals_based d tight base l ys j b s))

head_fits : (d : Dialect) (tight : Bool) (f : List Placed) (x : G.Head) (h : ℕ) → ReadsHead f x h → Fits d f (head_row tight x.called.text x.result (map bare_parameter x.parameters))
head_fits d tight f x h (head a g l q r base t y ps i j k b s p) =
    at_both (start_fits d a g base t i j b s) (at_both (at_free (stars_free d t)) (at_token (at_token (at_both (list_fits d tight l ps k p) (at_token at_none)))))

mode_fits : (d : Dialect) (f : List Placed) (mode : Mode) → ReadsMode f mode → Fits d f (mode_row mode)
mode_fits d f mode native = at_none
mode_fits d f mode (cps q) = at_token at_none
mode_fits d f mode (detached q) = at_token at_none

prototype_mode_fits : (d : Dialect) (f : List Placed) (mode : Mode) → ReadsPrototypeMode f mode → Fits d f (mode_row mode)
prototype_mode_fits d f mode (extern q) = at_token at_none
prototype_mode_fits d f mode (of_function g n r) = mode_fits d g n r

item_fits : (d : Dialect) (tight : Bool) (f : List Placed) (xs : List LItem) (h : ℕ) → ReadsItem f xs h → Fits d f (program_row tight (map bare_item xs))
unfolding program_row item_row
item_fits d tight f xs h (struct g q r s t tag ys i y) = at_added (at_token (at_token (at_token (at_both (fields_fit d tight g ys i y) (at_token (at_token at_none)))))) free_nothing
item_fits d tight f xs h (globals a g q base ys i j b r) = close (base_fits d a base i b) (based_first _ (globals_based d tight base g ys j (base_is a base i b) r))
item_fits d tight f xs h (function m g l q r mode x ss i j k s n t) =
    rw (stmts_bare ss) (at_added (at_both (mode_fits d m mode k) (at_both (head_fits d tight g x i s) (at_token (at_both (block_fits d tight l ss j t) (at_token at_none))))) free_nothing)
item_fits d tight f xs h (prototype m g q mode x i k s) = at_added (at_both (prototype_mode_fits d m mode k) (at_both (head_fits d tight g x i s) (at_token at_none))) free_nothing

program_fits : (d : Dialect) (tight : Bool) (f : List Placed) (xs : List LItem) (h : ℕ) → ReadsItems f xs h → Fits d f (program_row tight (map bare_item xs))
unfolding program_row
program_fits d tight f xs h no_item = at_none
program_fits d tight f xs h (items g l ys zs i j r s) =
    rw (map-append bare_item ys zs, program_both tight (map bare_item ys) (map bare_item zs)) (at_both (item_fits d tight g ys i r) (program_fits d tight l zs j s))

-- of all tokens that are read as a program, none have fewer parentheses than its print
pub prints_fewest : PrintsFewest
prints_fewest tight list xs h r = (program_fits D.Cpc tight list xs h r).fewer

-- the print of a program that was read is of tokens that can be spelled
pub read_spellable : ReadSpellable
read_spellable d tight list xs h all r = spelled_all d (program_row tight (map bare_item xs)) ((program_fits d tight list xs h r).spelled (all_spelled d (lexemes list) all))
