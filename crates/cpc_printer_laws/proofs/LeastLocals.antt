-- Locals that are read can be printed, and in the tight style they nest no deeper than they were read.
use Rattle.std.proofs.Common.{◌≡◌, ℕ, ◌+◌, ◌≤◌, true, List, [], ◌∷◌, ◌++◌, map, Option, Some, None, max, refl, sym, subst, arith}
use Rattle.std.proofs.lemmas.List.{map-append}
use Rattle.cpc_base.specs.declared.stop.Place.{Place}
use Rattle.cpc_tree.specs.Tokens.{Placed}
use Rattle.cpc_tree.specs.Syntax.{Ty, Expr, ENamed, Stmt, Declare, Assign, Call, Detach, Stmts, NoStmt, AndStmt, Variable}
use Rattle.cpc_tree.specs.Located.{LStmt, bare_stmt, bare_variable}
use Rattle.cpc_tree.specs.TypePrint.{base_of, declarator_depth, PrintableVariable}
use Rattle.cpc_tree.specs.ExprPrint.{expr_depth, PrintableExpr}
use Rattle.cpc_tree.specs.StmtGrammar.{begin, ReadsLocalPart, unset, set, ReadsLocalRow, last_local, more_locals, ReadsLocal, local, ReadsFirst, no_first, simple_first, local_first}
use Rattle.cpc_tree.specs.StmtPrint.{first_depth, stmt_depth, block_depth, begun_place, PrintableMaybe, PrintableSimple, PrintableLocals, PrintableFirst, PrintableStmt, PrintableBlock}
use Rattle.cpc_printer_laws.proofs.StmtRows.{Right, Value, Calls, Section, bare_right, begun, begun_bare, stmts}
use Rattle.cpc_printer_laws.proofs.LeastTypes.{IsBase, base_is, declarator_least}
use Rattle.cpc_printer_laws.proofs.LeastSimple.{PrintableRight, right_depth, right_least, simple_least}

begun_least : (base : Ty) (x : Variable) (r : Right) (h j : ℕ) → PrintableVariable x.type → declarator_depth true x.type ≤ h → base_of x.type ≡ base → PrintableRight r → right_depth r ≤ j
    → PrintableLocals base None (stmts (begun x r)) × (first_depth true (stmts (begun x r)) ≤ max h (max 1 j) + 1)
unfolding PrintableLocals first_depth expr_depth
begun_least base x (Value v) h j a b e c d = ((e, (a, c), tt), omega arith)
begun_least base x (Calls v vs) h j a b e (c, k) d = ((e, (a, tt), (refl, c, k, tt)), omega arith)
begun_least base x (Section y vs) h j a b e c d = ((e, (a, tt), (refl, c, tt)), omega arith)

part_least : (q : Place) (base : Ty) (f : List Placed) (ss : List LStmt) (h : ℕ) → IsBase base → ReadsLocalPart q base f ss h → PrintableLocals base None (stmts (map bare_stmt ss)) × (first_depth true (stmts (map bare_stmt ss)) ≤ h)
unfolding PrintableLocals first_depth
part_least q base f ss h b (unset g x i r) = let (a, c, e) = declarator_least base g x i b r in ((e, (a, tt), tt), omega arith)
part_least q base f ss h b (set g l o x r i j y z) =
    let (a, c, e) = declarator_least base g x i b y in let (d, k) = right_least l r j z in rw (begun_bare q x r) (begun_least base (bare_variable x) (bare_right r) i j a c e d k)

-- locals that nothing stands before can stand behind others
any_before : (base : Ty) (before : Option Expr) (ss : Stmts) → PrintableLocals base None ss → PrintableLocals base before ss
unfolding PrintableLocals
any_before base before NoStmt p = tt
any_before base before (AndStmt (Declare x t start) ss) p = p
any_before base before (AndStmt (Call (Some u) v vs) ss) p = absurd (let d : None ≡ Some u = p.0 in cc)
any_before base before (AndStmt (Detach (Some u) y vs) ss) p = absurd (let d : None ≡ Some u = p.0 in cc)
any_before base before (AndStmt s ss) p = absurd p

more_least : (base : Ty) (before : Option Expr) (ss rs : List Stmt) → PrintableLocals base before (stmts ss) → PrintableLocals base None (stmts rs) → PrintableLocals base before (stmts (ss ++ rs))
unfolding PrintableLocals
more_least base before [] rs p r = any_before base before (stmts rs) r
more_least base before (Declare x t start ∷ ss) rs (e, a, p) r = (e, a, more_least base (begun_place x start) ss rs p r)
more_least base before (Call (Some u) v vs ∷ ss) rs (e, a, b, p) r = (e, a, b, more_least base None ss rs p r)
more_least base before (Detach (Some u) y vs ∷ ss) rs (e, a, p) r = (e, a, more_least base None ss rs p r)
more_least base before (s ∷ ss) rs p r = absurd p

more_deep : (ss rs : List Stmt) → first_depth true (stmts (ss ++ rs)) ≤ max (first_depth true (stmts ss)) (first_depth true (stmts rs))
unfolding first_depth
more_deep [] rs = omega arith
more_deep (s ∷ ss) rs = omega (arith, more_deep ss rs)

pub row_least : (q : Place) (base : Ty) (f : List Placed) (ss : List LStmt) (h : ℕ) → IsBase base → ReadsLocalRow q base f ss h → PrintableLocals base None (stmts (map bare_stmt ss)) × (first_depth true (stmts (map bare_stmt ss)) ≤ h)
row_least q base f ss h b (last_local g rs i r) = part_least q base g rs i b r
row_least q base f ss h b (more_locals g l o rs qs i j r s) =
    let (a, c) = part_least q base g rs i b r in let (d, e) = row_least q base l qs j b s in
    rw (map-append bare_stmt rs qs) (more_least base None (map bare_stmt rs) (map bare_stmt qs) a d, omega (arith, more_deep (map bare_stmt rs) (map bare_stmt qs)))

-- the first part of a for
first_of : (base : Ty) (ss : Stmts) → PrintableLocals base None ss → PrintableFirst ss
unfolding PrintableLocals
first_of base NoStmt p = tt
first_of base (AndStmt (Declare x t start) ss) (e, a, p) = (a, subst (λ b. PrintableLocals b (begun_place x start) ss) (sym e) p)
first_of base (AndStmt (Call (Some u) v vs) ss) p = absurd (let d : None ≡ Some u = p.0 in cc)
first_of base (AndStmt (Detach (Some u) y vs) ss) p = absurd (let d : None ≡ Some u = p.0 in cc)
first_of base (AndStmt s ss) p = absurd p

-- locals in a block
block_of : (base : Ty) (before : Option Expr) (ss : Stmts) → PrintableMaybe before → PrintableLocals base before ss → PrintableBlock ss × (block_depth true ss ≤ first_depth true ss)
unfolding PrintableLocals PrintableStmt PrintableBlock PrintableExpr block_depth stmt_depth first_depth
block_of base before NoStmt m p = (tt, omega arith)
block_of base before (AndStmt (Declare x t None) ss) m (e, a, p) = let (b, c) = block_of base (Some (ENamed x)) ss tt p in ((a, b), omega arith)
block_of base before (AndStmt (Declare x t (Some v)) ss) m (e, a, p) = let (b, c) = block_of base None ss tt p in ((a, b), omega arith)
block_of base before (AndStmt (Call (Some u) v vs) ss) m (e, a, d, p) = let (b, c) = block_of base None ss tt p in (((subst PrintableMaybe e m, a, d), b), omega arith)
block_of base before (AndStmt (Detach (Some u) y vs) ss) m (e, d, p) = let (b, c) = block_of base None ss tt p in (((subst PrintableMaybe e m, d), b), omega arith)
block_of base before (AndStmt s ss) m p = absurd p

-- a declaration, as the first part of a for and in a block
pub record Declared (ss : List Stmt) (h : ℕ) : Type 0 where
  pub first : PrintableFirst (stmts ss)
  pub deep : first_depth true (stmts ss) ≤ h
  pub block : PrintableBlock (stmts ss)
  pub inside : block_depth true (stmts ss) ≤ h

pub local_least : (f : List Placed) (ss : List LStmt) (h : ℕ) → ReadsLocal f ss h → Declared (map bare_stmt ss) h
local_least f ss h (local a g base rs i j b r) =
    let (p, d) = row_least (begin a) base g rs j (base_is a base i b) r in let (c, e) = block_of base None (stmts (map bare_stmt rs)) tt p in
    record { first = first_of base (stmts (map bare_stmt rs)) p; deep = d; block = c; inside = omega arith }

-- one statement as the first part of a for
alone : (s : Stmt) → PrintableSimple s → PrintableFirst (AndStmt s NoStmt)
alone (Assign v o w) a = a
alone (Call o v vs) a = a
alone (Detach o x vs) a = a
alone s a = absurd a

pub first_least : (f : List Placed) (ss : List LStmt) (h : ℕ) → ReadsFirst f ss h → PrintableFirst (stmts (map bare_stmt ss)) × (first_depth true (stmts (map bare_stmt ss)) ≤ h)
unfolding first_depth
first_least f ss h no_first = (tt, omega arith)
first_least f ss h (simple_first g s i r) = let (a, b) = simple_least g s i r in (alone (bare_stmt s) a, omega arith)
first_least f ss h (local_first g rs i r) = let d = local_least g rs i r in (d.first, d.deep)
