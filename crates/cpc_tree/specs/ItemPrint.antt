-- How a program is printed, how deep the print nests, and which programs can be printed: those that are read from some
-- tokens. Each declaration declares one thing.
use Rattle.std.specs.Prelude.{◌≡◌, ℕ, ◌+◌, ◌≤◌, Bool, true, List, [], ◌∷◌, ◌++◌, map, Option, Some, None, max}
use Rattle.cpc_base.specs.Bytes.{Text}
use Rattle.cpc_tree.specs.declared.program.Mode.{Mode}
use Rattle.cpc_tree.specs.declared.program.Mode.TheVariants as M
use Rattle.cpc_tree.specs.declared.program.UnaryOp.TheVariants as U
use Rattle.cpc_tree.specs.declared.token.Keyword.TheVariants as K
use Rattle.cpc_tree.specs.declared.token.Punctuator.TheVariants as P
use Rattle.cpc_tree.specs.Tokens.{Lexeme, Word, Mark, Named, Placed}
use Rattle.cpc_tree.specs.Syntax.{Ty, Expr, EInteger, ECharacter, EText, EUnary, Stmt, Block, Variable, Parameter, Item, StructItem, GlobalItem, PrototypeItem, FunctionItem, Program}
use Rattle.cpc_tree.specs.TypeGrammar.{is_void, without}
use Rattle.cpc_tree.specs.Located.{LItem, bare_item}
use Rattle.cpc_tree.specs.ItemGrammar.{all_named, ReadsItems}
use Rattle.cpc_tree.specs.TypePrint.{base_row, stars, star_count, declarator_row, declarator_depth, params_row, params_depth, IsStarred, PrintableVariable, AllPrintable}
use Rattle.cpc_tree.specs.ExprGrammar.{Whole}
use Rattle.cpc_tree.specs.ExprPrint.{expr_depth}
use Rattle.cpc_tree.specs.StmtPrint.{local_row, block_row, block_depth, PrintableBlock}

abbrev pub mode_row : Mode → List Lexeme
mode_row M.Extern = Word K.Extern ∷ []
mode_row M.Native = []
mode_row M.Cps = Word K.Cps ∷ []
mode_row M.Detached = Word K.Detached ∷ []

-- the fields of a struct, a declaration each
unfoldable pub fields_row : Bool → List Variable → List Lexeme
fields_row tight [] = []
fields_row tight (x ∷ xs) = base_row x.type ++ (declarator_row tight (Some x.called) x.type ++ Mark P.Semicolon ∷ fields_row tight xs)

unfoldable pub fields_depth : Bool → List Variable → ℕ
fields_depth tight [] = 0
fields_depth tight (x ∷ []) = declarator_depth tight x.type
fields_depth tight (x ∷ (y ∷ xs)) = max (declarator_depth tight x.type) (fields_depth tight (y ∷ xs))

-- the head of a function: its result, its name and its parameters
abbrev pub head_row : Bool → Text → Ty → List Parameter → List Lexeme
head_row tight x t ps = base_row t ++ (stars t ++ Named x ∷ Mark P.LeftParen ∷ (params_row tight ps ++ Mark P.RightParen ∷ []))

abbrev pub head_depth : Bool → Ty → List Parameter → ℕ
head_depth tight t ps = max (star_count t) (params_depth tight ps)

-- the body of a function
abbrev pub body_row : Bool → Stmt → List Lexeme
body_row tight (Block ss) = Mark P.LeftBrace ∷ (block_row tight ss ++ Mark P.RightBrace ∷ [])
body_row tight s = []

abbrev pub body_depth : Bool → Stmt → ℕ
body_depth tight (Block ss) = block_depth tight ss + 1
body_depth tight s = 0

unfoldable pub item_row : Bool → Item → List Lexeme
item_row tight (StructItem tag xs) = Word K.Struct ∷ Named tag ∷ Mark P.LeftBrace ∷ (fields_row tight xs ++ Mark P.RightBrace ∷ Mark P.Semicolon ∷ [])
item_row tight (GlobalItem x t start) = base_row t ++ (local_row tight x t start ++ Mark P.Semicolon ∷ [])
item_row tight (PrototypeItem mode x t ps) = mode_row mode ++ (head_row tight x t ps ++ Mark P.Semicolon ∷ [])
item_row tight (FunctionItem f) = mode_row f.mode ++ (head_row tight f.called f.result f.parameters ++ body_row tight f.body)

unfoldable pub item_depth : Bool → Item → ℕ
item_depth tight (StructItem tag xs) = fields_depth tight xs
item_depth tight (GlobalItem x t None) = declarator_depth tight t
item_depth tight (GlobalItem x t (Some v)) = max (declarator_depth tight t) (expr_depth tight Whole v)
item_depth tight (PrototypeItem mode x t ps) = head_depth tight t ps
item_depth tight (FunctionItem f) = max (head_depth tight f.result f.parameters) (body_depth tight f.body)

-- the tokens of a program
unfoldable pub program_row : Bool → Program → List Lexeme
program_row tight [] = []
program_row tight (x ∷ xs) = item_row tight x ++ program_row tight xs

-- how deep they nest
unfoldable pub program_depth : Bool → Program → ℕ
program_depth tight [] = 0
program_depth tight (x ∷ xs) = max (item_depth tight x) (program_depth tight xs)

abbrev pub AllVariables : List Variable → Type 0
AllVariables [] = Unit {0}
AllVariables (x ∷ xs) = PrintableVariable x.type × AllVariables xs

-- what a global can start with
abbrev pub PrintableInitial : Option Expr → Type 0
PrintableInitial None = Unit {0}
PrintableInitial (Some (EInteger kind z)) = Unit {0}
PrintableInitial (Some (EUnary U.Minus (EInteger kind z))) = Unit {0}
PrintableInitial (Some (ECharacter z)) = Unit {0}
PrintableInitial (Some (EText bytes)) = Unit {0}
PrintableInitial (Some v) = ⊥

-- a list that is one unnamed parameter of type void is read as no parameter
abbrev pub PrintableHead : Ty → List Parameter → Type 0
PrintableHead t ps = IsStarred t × AllPrintable ps × (without (λ (p : Parameter). is_void p.called p.type) ps ≡ ps)

abbrev pub PrintableBody : Stmt → Type 0
PrintableBody (Block ss) = PrintableBlock ss
PrintableBody s = ⊥

-- functions of the host have prototypes alone
abbrev pub IsDefined : Mode → Type 0
IsDefined M.Extern = ⊥
IsDefined mode = Unit {0}

unfoldable pub PrintableItem : Item → Type 0
PrintableItem (StructItem tag []) = ⊥
PrintableItem (StructItem tag (x ∷ xs)) = AllVariables (x ∷ xs)
PrintableItem (GlobalItem x t start) = PrintableVariable t × PrintableInitial start
PrintableItem (PrototypeItem mode x t ps) = PrintableHead t ps
PrintableItem (FunctionItem f) = IsDefined f.mode × PrintableHead f.result f.parameters × (all_named (λ (p : Parameter). p.called) f.parameters ≡ true) × PrintableBody f.body

unfoldable pub Printable : Program → Type 0
Printable [] = Unit {0}
Printable (x ∷ xs) = PrintableItem x × Printable xs

-- the tokens without their places
abbrev pub lexemes : List Placed → List Lexeme
lexemes list = map (λ t. t.lexeme) list

-- Tokens as they are printed, wherever they stand, are read as the program, and nest as deep as said.
abbrev pub PrintsBack : Type 0
PrintsBack = (tight : Bool) (program : Program) (list : List Placed) → Printable program → lexemes list ≡ program_row tight program
    → (xs : List LItem) × (map bare_item xs ≡ program) × ReadsItems list xs (program_depth tight program)

-- What is read can be printed, and in the tight style it nests no deeper than it was read.
abbrev pub PrintsLeast : Type 0
PrintsLeast = (list : List Placed) (xs : List LItem) (h : ℕ) → ReadsItems list xs h → Printable (map bare_item xs) × (program_depth true (map bare_item xs) ≤ h)
