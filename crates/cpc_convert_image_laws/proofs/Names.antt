-- The names of expressions and statements, where they are of a larger family.
use Rattle.cpc_base.specs.Bytes.{Text}
use Rattle.cpc_tree.specs.Syntax.{Expr, ENamed, EInteger, ECharacter, EText, EUnary, EBinary, EAnd, EOr, EChoose, ECast, ESizeOf, EIndex, EMember, EArrow, ECall, Exprs, NoExpr, AndExpr, Stmt, Block, Empty, Declare, Assign, Call, Detach, Spawn, If, While, DoWhile, For, Goto, Label, Break, Continue, Return}
use Rattle.std.specs.Prelude.{Option, Some, None}
use Rattle.cpc_meaning.proofs.SameValues as same
use Rattle.cpc_meaning.specs.Names.{AllNames, AllNamesIf, AllNamesAmong, AllNamesOf}

-- the names that other laws speak of
pub names_here : (L : Text → Type 0) (e : Expr) → same.AllNames L e → AllNames L e
names_here L (ENamed x) h = h
names_here L (EInteger kind z) h = h
names_here L (ECharacter z) h = h
names_here L (EText bytes) h = h
names_here L (EUnary sign e) h = names_here L e h
names_here L (EBinary op a b) h = (names_here L a h.0, names_here L b h.1)
names_here L (EAnd a b) h = (names_here L a h.0, names_here L b h.1)
names_here L (EOr a b) h = (names_here L a h.0, names_here L b h.1)
names_here L (EChoose c a b) h = (names_here L c h.0, names_here L a h.1, names_here L b h.2)
names_here L (ECast t e) h = names_here L e h
names_here L (ESizeOf t) h = h
names_here L (EIndex a i) h = (names_here L a h.0, names_here L i h.1)
names_here L (EMember e x) h = names_here L e h
names_here L (EArrow e x) h = names_here L e h
names_here L (ECall f es) h = h

module _ (L M : Text → Type 0) (more : (x : Text) → L x → M x) where
  pub names_more : (e : Expr) → AllNames L e → AllNames M e
  names_more (ENamed x) h = more x h
  names_more (EInteger kind z) h = h
  names_more (ECharacter z) h = h
  names_more (EText bytes) h = h
  names_more (EUnary sign e) h = names_more e h
  names_more (EBinary op a b) h = (names_more a h.0, names_more b h.1)
  names_more (EAnd a b) h = (names_more a h.0, names_more b h.1)
  names_more (EOr a b) h = (names_more a h.0, names_more b h.1)
  names_more (EChoose c a b) h = (names_more c h.0, names_more a h.1, names_more b h.2)
  names_more (ECast t e) h = names_more e h
  names_more (ESizeOf t) h = h
  names_more (EIndex a i) h = (names_more a h.0, names_more i h.1)
  names_more (EMember e x) h = names_more e h
  names_more (EArrow e x) h = names_more e h
  names_more (ECall f es) h = h

  pub names_more_if : (o : Option Expr) → AllNamesIf L o → AllNamesIf M o
  names_more_if None h = h
  names_more_if (Some e) h = names_more e h

  pub names_more_among : (es : Exprs) → AllNamesAmong L es → AllNamesAmong M es
  names_more_among NoExpr h = h
  names_more_among (AndExpr e es) h = (names_more e h.0, names_more_among es h.1)

  pub names_more_of : (s : Stmt) → AllNamesOf L s → AllNamesOf M s
  names_more_of (Declare x t (Some v)) h = (more x h.0, names_more v h.1)
  names_more_of (Declare x t None) h = h
  names_more_of (Assign e op v) h = (names_more e h.0, names_more v h.1)
  names_more_of (Call to f es) h = (names_more_if to h.0, names_more f h.1, names_more_among es h.2)
  names_more_of (Detach to f es) h = (names_more_if to h.0, more f h.1, names_more_among es h.2)
  names_more_of (Spawn f es) h = (more f h.0, names_more_among es h.1)
  names_more_of (Return v) h = names_more_if v h
  names_more_of (Block ss) h = h
  names_more_of Empty h = h
  names_more_of (If t a b) h = h
  names_more_of (While t s) h = h
  names_more_of (DoWhile s t) h = h
  names_more_of (For first t step s) h = h
  names_more_of (Goto l) h = h
  names_more_of (Label l s) h = h
  names_more_of Break h = h
  names_more_of Continue h = h
