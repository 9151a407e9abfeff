-- A program that is read can be printed, and in the tight style it nests no deeper than it was read.
use Rattle.std.proofs.Common.{ℕ, ◌+◌, ◌≤◌, true, List, [], ◌∷◌, ◌++◌, map, Some, max, ◌∙◌, arith}
use Rattle.std.proofs.lemmas.List.{map-append}
use Rattle.cpc_tree.specs.declared.program.Mode.{Mode}
use Rattle.cpc_tree.specs.Tokens.{Placed}
use Rattle.cpc_tree.specs.Syntax.{Ty, Variable, Item, StructItem}
use Rattle.cpc_tree.specs.Located.{LExpr, LVariable, LItem, bare_expr, bare_variable, bare_parameter, bare_item}
use Rattle.cpc_tree.specs.ExprGrammar.{Whole}
use Rattle.cpc_tree.specs.ExprPrint.{expr_depth}
use Rattle.cpc_tree.specs.ItemGrammar as G
use Rattle.cpc_tree.specs.ItemGrammar.{ReadsMode, native, cps, detached, ReadsPrototypeMode, extern, of_function, ReadsVariables, last_variable, more_variables, ReadsFields, last_fields, more_fields, ReadsInitial, an_integer, a_negative, a_character, a_text, ReadsGlobal, unset, set, ReadsGlobals, last_global, more_globals, ReadsHead, head, ReadsItem, struct, globals, function, prototype, ReadsItems, no_item, items}
use Rattle.cpc_tree.specs.ItemPrint.{fields_depth, head_depth, item_depth, program_depth, AllVariables, PrintableInitial, PrintableHead, IsDefined, PrintableItem, Printable, PrintsLeast}
use Rattle.cpc_tree.proofs.Options.{named_bare}
use Rattle.cpc_printer_laws.proofs.StmtRows.{stmts_bare}
use Rattle.cpc_printer_laws.proofs.LeastTypes.{IsBase, base_is, starred, list_least, params_least, declarator_least}
use Rattle.cpc_printer_laws.proofs.LeastStatements.{block_least}

-- there is an element
abbrev IsSome : {X : Type 0} → List X → Type 0
IsSome [] = ⊥
IsSome (x ∷ xs) = Unit {0}

-- fields that can be printed, each nesting no deeper than this
abbrev Fields : List Variable → ℕ → Type 0
Fields xs h = IsSome xs × AllVariables xs × (fields_depth true xs ≤ h)

fields_more : (xs ys : List Variable) (h j : ℕ) → Fields xs h → Fields ys j → Fields (xs ++ ys) (max h j)
unfolding fields_depth
fields_more [] ys h j (a, b, c) d = absurd a
fields_more (x ∷ []) [] h j (a, b, c) (d, e, k) = absurd d
fields_more (x ∷ []) (y ∷ ys) h j (a, (b, l), c) (d, e, k) = (tt, (b, e), omega arith)
fields_more (x ∷ (z ∷ xs)) ys h j (a, (b, l), c) d = let (m, n, o) = fields_more (z ∷ xs) ys h j (tt, l, omega arith) d in (tt, (b, n), omega arith)

variables_least : (base : Ty) (f : List Placed) (xs : List LVariable) (h : ℕ) → IsBase base → ReadsVariables base f xs h → Fields (map bare_variable xs) h
unfolding fields_depth
variables_least base f xs h b (last_variable g x i r) = let (a, c, e) = declarator_least base g x i b r in (tt, (a, tt), c)
variables_least base f xs h b (more_variables g l q x ys i j r s) =
    let (a, c, e) = declarator_least base g x i b r in let m = variables_least base l ys j b s in fields_more (bare_variable x ∷ []) (map bare_variable ys) i j (tt, (a, tt), c) m

fields_least : (f : List Placed) (xs : List LVariable) (h : ℕ) → ReadsFields f xs h → Fields (map bare_variable xs) h
fields_least f xs h (last_fields a g q base ys i j b r) = variables_least base g ys j (base_is a base i b) r
fields_least f xs h (more_fields a g l q base ys zs i j k b r s) =
    rw (map-append bare_variable ys zs) (fields_more (map bare_variable ys) (map bare_variable zs) j k (variables_least base g ys j (base_is a base i b) r) (fields_least l zs k s))

initial_least : (f : List Placed) (v : LExpr) (h : ℕ) → ReadsInitial f v h → PrintableInitial (Some (bare_expr v)) × (expr_depth true Whole (bare_expr v) ≤ h)
unfolding expr_depth
initial_least f v h (an_integer q kind z) = (tt, omega arith)
initial_least f v h (a_negative q r kind z) = (tt, omega arith)
initial_least f v h (a_character q z) = (tt, omega arith)
initial_least f v h (a_text q bytes) = (tt, omega arith)

-- items that can be printed and nest no deeper than this
abbrev Kept : List Item → ℕ → Type 0
Kept xs h = Printable xs × (program_depth true xs ≤ h)

kept_one : (x : Item) (h : ℕ) → PrintableItem x → item_depth true x ≤ h → Kept (x ∷ []) h
unfolding Printable program_depth
kept_one x h a b = ((a, tt), omega arith)

kept_more : (xs ys : List Item) (h j : ℕ) → Kept xs h → Kept ys j → Kept (xs ++ ys) (max h j)
unfolding Printable program_depth
kept_more [] ys h j (a, b) (c, d) = (c, omega arith)
kept_more (x ∷ xs) ys h j ((a, e), b) d = let (k, l) = kept_more xs ys h j (e, omega arith) d in ((a, k), omega arith)

global_least : (base : Ty) (f : List Placed) (x : LItem) (h : ℕ) → IsBase base → ReadsGlobal base f x h → PrintableItem (bare_item x) × (item_depth true (bare_item x) ≤ h)
unfolding PrintableItem item_depth
global_least base f x h b (unset g y i r) = let (a, c, e) = declarator_least base g y i b r in ((a, tt), c)
global_least base f x h b (set g l q y v i j r s) = let (a, c, e) = declarator_least base g y i b r in let (d, k) = initial_least l v j s in ((a, d), omega arith)

globals_least : (base : Ty) (f : List Placed) (xs : List LItem) (h : ℕ) → IsBase base → ReadsGlobals base f xs h → Kept (map bare_item xs) h
globals_least base f xs h b (last_global g x i r) = let (a, c) = global_least base g x i b r in kept_one (bare_item x) i a c
globals_least base f xs h b (more_globals g l q x ys i j r s) =
    let (a, c) = global_least base g x i b r in kept_more (bare_item x ∷ []) (map bare_item ys) i j (kept_one (bare_item x) i a c) (globals_least base l ys j b s)

head_least : (f : List Placed) (x : G.Head) (h : ℕ) → ReadsHead f x h → PrintableHead x.result (map bare_parameter x.parameters) × (head_depth true x.result (map bare_parameter x.parameters) ≤ h)
head_least f x h (head a g l q r base t y ps i j k b s p) =
    let (c, d, e) = starred base g t j (base_is a base i b) s in let m = list_least l ps k p in ((c, m.all, m.kept), omega (arith, m.deep, params_least (map bare_parameter ps)))

mode_least : (f : List Placed) (mode : Mode) → ReadsMode f mode → IsDefined mode
mode_least f mode native = tt
mode_least f mode (cps q) = tt
mode_least f mode (detached q) = tt

item_least : (f : List Placed) (xs : List LItem) (h : ℕ) → ReadsItem f xs h → Kept (map bare_item xs) h
unfolding PrintableItem item_depth
item_least f xs h (struct g q r s t tag [] i y) = absurd (fields_least g [] i y).0
item_least f xs h (struct g q r s t tag (x ∷ ys) i y) = let (a, b, c) = fields_least g (x ∷ ys) i y in kept_one (StructItem tag.text (map bare_variable (x ∷ ys))) i b c
item_least f xs h (globals a g q base ys i j b r) = globals_least base g ys j (base_is a base i b) r
item_least f xs h (function m g l q r mode x ss i j k s n t) =
    let (a, b) = head_least g x i s in let (c, d) = block_least l ss j t in
    rw (stmts_bare ss) (kept_one _ (max i (j + 1)) (mode_least m mode k, a, named_bare x.parameters ∙ n, c) (omega arith))
item_least f xs h (prototype m g q mode x i k s) = let (a, b) = head_least g x i s in kept_one _ i a b

-- what is read can be printed, and in the tight style it nests no deeper than it was read
pub prints_least : PrintsLeast
unfolding Printable program_depth
prints_least list xs h no_item = (tt, omega arith)
prints_least list xs h (items f g ys zs i j r s) = rw (map-append bare_item ys zs) (kept_more (map bare_item ys) (map bare_item zs) i j (item_least f ys i r) (prints_least g zs j s))
