-- The rules that speak of a whole function: its labels and loops, its names, and how many variables it has.
use Rattle.std.specs.Prelude.{ℕ, suc, ◌+◌, Bool, true, false, ◌&&◌, ◌||◌, not, List, [], ◌∷◌, ◌++◌, Option, Some, None, bytes_eq, codes, drop}
use Rattle.cpc_base.specs.Bytes.{Text}
use Rattle.cpc_base.specs.declared.stop.Dialect.{Dialect}
use Rattle.cpc_base.specs.declared.stop.Dialect.TheVariants as D
use Rattle.cpc_tree.specs.Located.{Ident, LStmt, Block, Declare, If, While, DoWhile, For, Goto, Label, Break, Continue, LStmts, NoLStmt, AndLStmt, MaybeLStmt, NoneLStmt, SomeLStmt, LParameter}
use Rattle.cpc_check_rules.specs.declared.rule.Rule.{Rule}
use Rattle.cpc_check_rules.specs.declared.rule.Rule.TheVariants.{NoLabel, LabelTwice, Stray, Reserved, TooMany}
use Rattle.cpc_check_rules.specs.Rule.{Broken, at_if}

-- whether a name is among these
abbrev pub among : Text → List Ident → Bool
among x [] = false
among x (y ∷ ys) = bytes_eq y.text x || among x ys

-- each name that stands among those before it
abbrev pub repeated : Rule → List Ident → List Ident → Broken
repeated rule before [] = []
repeated rule before (x ∷ xs) = at_if (among x.text before) x.place rule ++ repeated rule (x ∷ before) xs

-- ---- labels

abbrev mutual
  pub labels : LStmt → List Ident
  labels (Block q ss) = labels_in ss
  labels (If q c s r) = labels s ++ labels_maybe r
  labels (While q c s) = labels s
  labels (DoWhile q s c) = labels s
  labels (For q ss c r s) = labels s
  labels (Label x s) = x ∷ labels s
  labels s = []

  pub labels_in : LStmts → List Ident
  labels_in NoLStmt = []
  labels_in (AndLStmt s ss) = labels s ++ labels_in ss

  pub labels_maybe : MaybeLStmt → List Ident
  labels_maybe NoneLStmt = []
  labels_maybe (SomeLStmt s) = labels s

abbrev mutual
  -- the labels that control goes to
  pub gotos : LStmt → List Ident
  gotos (Block q ss) = gotos_in ss
  gotos (If q c s r) = gotos s ++ gotos_maybe r
  gotos (While q c s) = gotos s
  gotos (DoWhile q s c) = gotos s
  gotos (For q ss c r s) = gotos s
  gotos (Label x s) = gotos s
  gotos (Goto q x) = x ∷ []
  gotos s = []

  pub gotos_in : LStmts → List Ident
  gotos_in NoLStmt = []
  gotos_in (AndLStmt s ss) = gotos s ++ gotos_in ss

  pub gotos_maybe : MaybeLStmt → List Ident
  gotos_maybe NoneLStmt = []
  gotos_maybe (SomeLStmt s) = gotos s

-- the names that are none of these
abbrev pub missing : List Ident → List Ident → Broken
missing known [] = []
missing known (x ∷ xs) = at_if (not (among x.text known)) x.place NoLabel ++ missing known xs

abbrev pub label_breaks : LStmt → Broken
label_breaks body = repeated LabelTwice [] (labels body) ++ missing (labels body) (gotos body)

-- ---- loops

abbrev mutual
  -- break and continue where no loop is around them
  pub stray_breaks : LStmt → Broken
  stray_breaks (Block q ss) = stray_in ss
  stray_breaks (If q c s r) = stray_breaks s ++ stray_maybe r
  stray_breaks (Label x s) = stray_breaks s
  stray_breaks (Break q) = (q, Stray) ∷ []
  stray_breaks (Continue q) = (q, Stray) ∷ []
  stray_breaks s = []

  pub stray_in : LStmts → Broken
  stray_in NoLStmt = []
  stray_in (AndLStmt s ss) = stray_breaks s ++ stray_in ss

  pub stray_maybe : MaybeLStmt → Broken
  stray_maybe NoneLStmt = []
  stray_maybe (SomeLStmt s) = stray_breaks s

-- ---- names

-- names that begin so
abbrev pub begins_with : Text → Text → Bool
begins_with [] x = true
begins_with (b ∷ w) [] = false
begins_with (b ∷ w) (c ∷ x) = bytes_eq (b ∷ []) (c ∷ []) && begins_with w x

-- names that hold two underscores in a row
abbrev pub holds_underscores : Text → Bool
holds_underscores [] = false
holds_underscores (b ∷ x) = begins_with (codes "__") (b ∷ x) || holds_underscores x

-- The names that the language keeps for itself. A name that begins with `cpc__` or `rt__` is none of them: a translation makes such
-- names for functions that are called `cpc` and `rt`.
abbrev pub is_kept : Text → Bool
is_kept x = (begins_with (codes "cpc_") x && not (begins_with (codes "cpc__") x)) || ((begins_with (codes "rt_") x && not (begins_with (codes "rt__") x))
    || (bytes_eq x (codes "malloc") || bytes_eq x (codes "free")))

-- in the dialect Cpc also those that a translation makes
abbrev pub is_reserved : Dialect → Text → Bool
is_reserved D.Event x = is_kept x
is_reserved D.Cpc x = is_kept x || holds_underscores x

abbrev pub reserved_breaks : Dialect → List Ident → Broken
reserved_breaks dialect [] = []
reserved_breaks dialect (x ∷ xs) = at_if (is_reserved dialect x.text) x.place Reserved ++ reserved_breaks dialect xs

abbrev and_name : Option Ident → List Ident → List Ident
and_name None xs = xs
and_name (Some x) xs = x ∷ xs

-- the names of parameters that have one
abbrev pub parameter_names : List LParameter → List Ident
parameter_names [] = []
parameter_names (p ∷ ps) = and_name p.called (parameter_names ps)

abbrev mutual
  -- the locals that a statement declares, in the order of the text
  pub locals : LStmt → List Ident
  locals (Block q ss) = locals_in ss
  locals (Declare q x t start) = x ∷ []
  locals (If q c s r) = locals s ++ locals_maybe r
  locals (While q c s) = locals s
  locals (DoWhile q s c) = locals s
  locals (For q ss c r s) = locals_in ss ++ locals s
  locals (Label x s) = locals s
  locals s = []

  pub locals_in : LStmts → List Ident
  locals_in NoLStmt = []
  locals_in (AndLStmt s ss) = locals s ++ locals_in ss

  pub locals_maybe : MaybeLStmt → List Ident
  locals_maybe NoneLStmt = []
  locals_maybe (SomeLStmt s) = locals s

-- the variables of a function: its parameters and its locals
abbrev pub variables : List LParameter → LStmt → List Ident
variables ps body = parameter_names ps ++ locals body

abbrev pub variable_limit : Dialect → ℕ
variable_limit D.Cpc = 255
variable_limit D.Event = 1023

abbrev pub first_of : List Ident → Broken
first_of [] = []
first_of (x ∷ xs) = (x.place, TooMany) ∷ []

-- the first variable above the limit
abbrev pub many_breaks : Dialect → List LParameter → LStmt → Broken
many_breaks dialect ps body = first_of (drop (variable_limit dialect) (variables ps body))

-- ---- breadth

abbrev mutual
  -- the number of statements
  pub statements : LStmt → ℕ
  statements (Block q ss) = suc (statements_in ss)
  statements (If q c s r) = suc (statements s + statements_maybe r)
  statements (While q c s) = suc (statements s)
  statements (DoWhile q s c) = suc (statements s)
  statements (For q ss c r s) = suc (statements_in ss + (statements_maybe r + statements s))
  statements (Label x s) = suc (statements s)
  statements s = 1

  pub statements_in : LStmts → ℕ
  statements_in NoLStmt = 0
  statements_in (AndLStmt s ss) = statements s + statements_in ss

  pub statements_maybe : MaybeLStmt → ℕ
  statements_maybe NoneLStmt = 0
  statements_maybe (SomeLStmt s) = statements s
