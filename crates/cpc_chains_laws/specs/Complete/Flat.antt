-- Flat bodies: what their rows and their openings need, so that they break no rule.
use Rattle.std.specs.Prelude.{◌≡◌, ℕ, Bool, true, false, ◌&&◌, List, [], ◌∷◌, ◌++◌, map, Option, Some, option_map, bytes_eq}
use Rattle.cpc_base.specs.Bytes.{Text}
use Rattle.cpc_tree.specs.Syntax.{Ty, TyPointer, Expr, Stmt, Declare, If, Goto, Label, Absent, Variable, Program}
use Rattle.cpc_tree.specs.Typing.{ALocal, size, field, is_scalar}
use Rattle.cpc_tree.specs.Primitives.{any_pointer}
use Rattle.cpc_check_rules.specs.Scopes.{Block, meant, takes_value, with_name, has_cells, is_here, is_sized}
use Rattle.cpc_check_rules.specs.Operators.{Where}
use Rattle.cpc_check_rules.specs.FunctionRules.{is_kept}
use Rattle.cpc_check_rules.specs.StmtRules.{in_scope, start_breaks, stmt_breaks}
use Rattle.cpc_check_laws.proofs.Native.OnePlace.{ident_here, expr_here, stmt_here}
use Rattle.cpc_convert_flat_laws.specs.Flat.{is_line, is_flat}
use Rattle.cpc_convert_flat_laws.specs.Locals.{Load, Save}
use Rattle.cpc_chains_store_laws.specs.Frames.{Give}
use Rattle.cpc_chains_store_laws.specs.Driver.{code_field, next_field, piece_type}
use Rattle.cpc_lifted_laws.specs.Complete.Sets.{Sets}

-- ---- rows

-- with one more variable, and with more of them
abbrev pub named_at : Where → Variable → Where
named_at v x = in_scope v (with_name v.scope x)

abbrev pub all_named_at : Where → List Variable → Where
all_named_at v [] = v
all_named_at v (x ∷ xs) = all_named_at (named_at v x) xs

abbrev pub called : Text → Ty → Variable
called x t = record { called = x; type = t }

-- statements that break no rule, one after the other, from a place on to another one
pub data Runs : Where → List Stmt → Where → Type 0 where
  NoRow : (v : Where) → Runs v [] v
  AndDeclare : (v u : Where) (x : Text) (t : Ty) (o : Option Expr) (ss : List Stmt) → is_here v.scope.blocks x ≡ false → is_sized v.scope t ≡ true
      → start_breaks (named_at v (called x t)) (ident_here x) t (option_map expr_here o) ≡ [] → Runs (named_at v (called x t)) ss u → Runs v (Declare x t o ∷ ss) u
  AndLine : (v u : Where) (s : Stmt) (ss : List Stmt) → is_line s ≡ true → stmt_breaks v (stmt_here s) ≡ [] → Runs v ss u → Runs v (s ∷ ss) u

-- ---- names

-- a text that is none of these
pub data NoneOf (x : Text) : List Text → Type 0 where
  NoText : NoneOf x []
  AndOther : (y : Text) (ys : List Text) → bytes_eq y x ≡ false → NoneOf x ys → NoneOf x (y ∷ ys)

-- texts of which no two are one
pub data Distinct : List Text → Type 0 where
  NoneDistinct : Distinct []
  AndDistinct : (x : Text) (xs : List Text) → NoneOf x xs → Distinct xs → Distinct (x ∷ xs)

-- one of these texts
pub data OneOf (x : Text) : List Text → Type 0 where
  IsFirst : (y : Text) (ys : List Text) → bytes_eq y x ≡ true → OneOf x (y ∷ ys)
  IsLater : (y : Text) (ys : List Text) → OneOf x ys → OneOf x (y ∷ ys)

-- texts that are all among these
pub data AllOf (known : List Text) : List Text → Type 0 where
  NoneAsked : AllOf known []
  AndKnown : (x : Text) (xs : List Text) → OneOf x known → AllOf known xs → AllOf known (x ∷ xs)

-- the names of variables
abbrev pub names_of : List Variable → List Text
names_of xs = map (λ (x : Variable). x.called) xs

-- ---- labels of lines

-- those that stand before a line, and those to which it goes
abbrev pub line_labels : Stmt → List Text
line_labels (Label l s) = l ∷ line_labels s
line_labels s = []

abbrev pub plain_gotos : Stmt → List Text
plain_gotos (Goto l) = l ∷ []
plain_gotos s = []

abbrev pub line_gotos : Stmt → List Text
line_gotos (Label l s) = line_gotos s
line_gotos (If e s Absent) = plain_gotos s
line_gotos s = plain_gotos s

abbrev pub labels_of : List Stmt → List Text
labels_of [] = []
labels_of (s ∷ ss) = line_labels s ++ labels_of ss

abbrev pub gotos_of : List Stmt → List Text
gotos_of [] = []
gotos_of (s ∷ ss) = line_gotos s ++ gotos_of ss

-- what a flat statement declares
abbrev pub line_locals : Stmt → List Text
line_locals (Declare x t o) = x ∷ []
line_locals s = []

abbrev pub locals_of : List Stmt → List Text
locals_of [] = []
locals_of (s ∷ ss) = line_locals s ++ locals_of ss

-- whether all of these may stand in a flat block
abbrev pub all_flat : List Stmt → Bool
all_flat [] = true
all_flat (s ∷ ss) = is_flat s && all_flat ss

-- names that the language does not keep
pub data NoneKept : List Text → Type 0 where
  NoneIsKept : NoneKept []
  AndUnkept : (x : Text) (xs : List Text) → is_kept x ≡ false → NoneKept xs → NoneKept (x ∷ xs)

-- ---- openings

-- the variable of a load
abbrev pub loaded : Load → Variable
loaded l = called l.variable l.type

-- loads from the fields of a frame with this tag: none is called as the frame, and what a field holds is assignable to its variable
pub data Loadable (items : Program) (tag e : Text) : List Load → Type 0 where
  NoLoad : Loadable items tag e []
  AndLoad : (l : Load) (ls : List Load) (n : ℕ) (t : Ty) → bytes_eq l.variable e ≡ false → field items tag l.field ≡ Some (n, t) → is_scalar t ≡ true → takes_value l.type false t ≡ true → has_cells (size items l.type) ≡ true
      → Loadable items tag e ls → Loadable items tag e (l ∷ ls)

-- variables whose types have sizes
pub data AllHaveCells (items : Program) : List Variable → Type 0 where
  NoCells : AllHaveCells items []
  AndCells : (x : Variable) (xs : List Variable) → has_cells (size items x.type) ≡ true → AllHaveCells items xs → AllHaveCells items (x ∷ xs)

-- names that are not in the innermost block, and of which no two are one
pub data Fresh : List Block → List Variable → Type 0 where
  NoFresh : (blocks : List Block) → Fresh blocks []
  AndFresh : (blocks : List Block) (x : Variable) (xs : List Variable) → is_here blocks x.called ≡ false → Fresh (with_name (record { items = []; blocks = blocks }) x).blocks xs → Fresh blocks (x ∷ xs)

-- ---- frames

-- locals that can be saved in the fields of a frame with this tag
pub data Savable (v : Where) (tag : Text) : List Save → Type 0 where
  NoSave : Savable v tag []
  AndSave : (p : Save) (ps : List Save) (n k : ℕ) (t : Ty) → field v.scope.items tag p.field ≡ Some (n, t) → is_scalar t ≡ true → meant v.scope p.variable ≡ ALocal k t → Savable v tag ps → Savable v tag (p ∷ ps)

-- expressions that can be put into the fields of a frame with this tag
pub data Givable (v : Where) (tag : Text) : List Give → Type 0 where
  NoGive : Givable v tag []
  AndGive : (g : Give) (gs : List Give) (n : ℕ) (t : Ty) → field v.scope.items tag g.field ≡ Some (n, t) → is_scalar t ≡ true → Sets v t g.expression → Givable v tag gs → Givable v tag (g ∷ gs)

-- boxes that can be given back: pointers
pub data Unboxable (v : Where) : List Text → Type 0 where
  NoUnbox : Unboxable v []
  AndUnbox : (x : Text) (xs : List Text) (k : ℕ) (u : Ty) → meant v.scope x ≡ ALocal k (TyPointer u) → Unboxable v xs → Unboxable v (x ∷ xs)

-- a struct that begins as all frames do
pub record BeginsAsFrame (items : Program) (tag : Text) : Type 0 where
  pub code : (n : ℕ) × (field items tag code_field ≡ Some (n, piece_type))
  pub next : (n : ℕ) × (field items tag next_field ≡ Some (n, any_pointer))
