-- The print of a declaration of locals fits the tokens that it was read from.
use Rattle.std.proofs.Common.{◌≡◌, ℕ, Bool, List, [], ◌∷◌, ◌++◌, map, Some, None, refl, sym, subst, ap, ◌∙◌}
use Rattle.std.proofs.lemmas.List.{map-append, append_assoc}
use Rattle.cpc_base.specs.declared.stop.Dialect.{Dialect}
use Rattle.cpc_base.specs.declared.stop.Place.{Place}
use Rattle.cpc_num.specs.declared.kinds.Kind.{Kind}
use Rattle.cpc_num.specs.declared.kinds.Kind.TheVariants as N
use Rattle.cpc_tree.specs.declared.token.Punctuator.TheVariants as P
use Rattle.cpc_tree.specs.Tokens.{Lexeme, Mark, Named, Placed}
use Rattle.cpc_tree.specs.Syntax.{Ty, TyVoid, TyInt, TyCondvar, TyPointer, TyCode, TyStruct, TyArray, Stmt, Declare, Call, Detach, Stmts, NoStmt, AndStmt, Variable}
use Rattle.cpc_tree.specs.Located.{LStmt, LVariable, bare_stmt, bare_variable}
use Rattle.cpc_tree.specs.TypeGrammar.{mark, ReadsDeclarator, plain, array, code}
use Rattle.cpc_tree.specs.TypePrint.{kind_row, base_row, declarator_row}
use Rattle.cpc_tree.specs.ExprGrammar.{Whole}
use Rattle.cpc_tree.specs.ExprPrint.{expr_row}
use Rattle.cpc_tree.specs.StmtGrammar.{begin, ReadsLocalPart, unset, set, ReadsLocalRow, last_local, more_locals, ReadsLocal, local, ReadsFirst, no_first, simple_first, local_first}
use Rattle.cpc_tree.specs.StmtPrint.{call_row, section_row, locals_row, simple_row, first_row, stmt_row, block_row, PrintableLocals}
use Rattle.cpc_printer_laws.specs.Fewest.{lefts}
use Rattle.cpc_printer_laws.proofs.StmtRows.{Right, Value, Calls, Section, bare_right, begun, begun_bare, stmts}
use Rattle.cpc_printer_laws.proofs.LeastTypes.{IsBase, base_is, declarator_least}
use Rattle.cpc_printer_laws.proofs.LeastLocals.{row_least}
use Rattle.cpc_printer_laws.proofs.Fitting.{Within, Fits, Free, Based, same, both, free, free_nothing, free_token, added_before, added_after, dropped_token, at, at_none, at_free, at_both, at_token, at_drop, at_added, of_fits, itself, based_both, based_drop, based_added, based_again, close}
use Rattle.cpc_printer_laws.proofs.FitTypes.{base_fits, base_row_of, declarator_fits}
use Rattle.cpc_printer_laws.proofs.FitSimple.{right_row, right_fits, simple_fits}

kind_none : (kind : Kind) → lefts (kind_row kind) ≡ 0
kind_none N.Char = refl
kind_none N.UChar = refl
kind_none N.Int = refl
kind_none N.UInt = refl
kind_none N.Long = refl
kind_none N.ULong = refl

-- no base type has a parenthesis
pub base_none : (t : Ty) → lefts (base_row t) ≡ 0
base_none TyVoid = refl
base_none (TyInt kind) = kind_none kind
base_none TyCondvar = refl
base_none (TyPointer t) = base_none t
base_none (TyCode t ts) = base_none t
base_none (TyStruct tag) = refl
base_none (TyArray t n) = base_none t

pub semicolon : {d : Dialect} → Free d (Mark P.Semicolon ∷ [])
semicolon = free_token refl tt free_nothing

-- a declared name is among the tokens
name_fits : (d : Dialect) (base : Ty) (f : List Placed) (x : LVariable) (h : ℕ) → ReadsDeclarator base f x h → Fits d f (Named x.called.text ∷ [])
name_fits d base f x h (plain g t y j r) = at_both (at_free free_nothing) (at_token at_none)
name_fits d base f x h (array g t y q r s kind n j b le) = at_both (at_free free_nothing) (at_token (at_free free_nothing))
name_fits d base f x h (code g l t y q n s u v ps j m r z) = at_both (at_free free_nothing) (at_drop (at_drop (at_token (at_free free_nothing))))

-- a declared variable behind its base type
pub declared : (d : Dialect) (tight : Bool) (base : Ty) (f : List Placed) (x : LVariable) (h : ℕ) → IsBase base → ReadsDeclarator base f x h → Based d (base_row base) f (base_row x.type ++ declarator_row tight (Some x.called.text) x.type)
declared d tight base f x h b r =
    let (p, c, e) = declarator_least base f x h b r in
    subst (λ row. Based d row f (base_row x.type ++ declarator_row tight (Some x.called.text) x.type)) (sym (base_row_of x.type) ∙ ap base_row e)
    (based_both (itself (base_none x.type)) (of_fits (declarator_fits d tight base f x h b r)))

shifted : {d : Dialect} {c : List Lexeme} {ts : List Placed} (a : List Lexeme) (x : Lexeme) (r : List Lexeme) → Based d c ts ((a ++ x ∷ []) ++ r) → Based d c ts (a ++ x ∷ r)
shifted {d} {c} {ts} a x r b = subst (Based d c ts) (append_assoc a (x ∷ []) r) b

-- a local in a block, with what it begins with
begun_based : (d : Dialect) (tight : Bool) (c : List Lexeme) (f g : List Placed) (o : Place) (x : Variable) (r : Right) → Based d c f (base_row x.type ++ declarator_row tight (Some x.called) x.type) → Fits d f (Named x.called ∷ [])
    → Fits d g (right_row tight r) → Based d c (f ++ mark o P.Equal ∷ g) (block_row tight (stmts (begun x r)))
unfolding block_row stmt_row expr_row
begun_based d tight c f g o x (Value v) a n b =
    rw (← append_assoc (base_row x.type) (declarator_row tight (Some x.called) x.type) (Mark P.Equal ∷ expr_row tight Whole v)) (based_added (based_added (based_both a (of_fits (at_token b))) semicolon) free_nothing)
begun_based d tight c f g o x (Calls v vs) a n b = shifted _ (Named x.called) _ (based_both (based_again (based_added a semicolon) n refl) (of_fits (at_token (at_added (at_added b semicolon) free_nothing))))
begun_based d tight c f g o x (Section y vs) a n b = shifted _ (Named x.called) _ (based_both (based_again (based_added a semicolon) n refl) (of_fits (at_token (at_added (at_added b semicolon) free_nothing))))

pub part_based : (d : Dialect) (tight : Bool) (q : Place) (base : Ty) (f : List Placed) (ss : List LStmt) (h : ℕ) → IsBase base → ReadsLocalPart q base f ss h → Based d (base_row base) f (block_row tight (stmts (map bare_stmt ss)))
unfolding block_row stmt_row
part_based d tight q base f ss h b (unset g x i r) = based_added (based_added (declared d tight base g x i b r) semicolon) free_nothing
part_based d tight q base f ss h b (set g l o x r i j y z) =
    rw (begun_bare q x r) (begun_based d tight (base_row base) g l o (bare_variable x) (bare_right r) (declared d tight base g x i b y) (name_fits d base g x i y) (right_fits d tight l r j z))

comma : {d : Dialect} {ts : List Placed} {g : List Lexeme} → Fits d ts g → Fits d ts (Mark P.Comma ∷ g)
comma {d} a = let c : Free d (Mark P.Comma ∷ []) = free_token refl tt free_nothing in at a (added_before c same)

-- a local in a row, with what it begins with
begun_fits : (d : Dialect) (tight : Bool) (f g : List Placed) (o : Place) (x : Variable) (r : Right) → Fits d f (declarator_row tight (Some x.called) x.type) → Fits d g (right_row tight r)
    → Fits d (f ++ mark o P.Equal ∷ g) (locals_row tight (stmts (begun x r)))
unfolding locals_row
begun_fits d tight f g o x (Value v) a b = comma (at_added (at_both a (at_token b)) free_nothing)
begun_fits d tight f g o x (Calls v vs) a b = comma (at_both a (at_token (at_added b free_nothing)))
begun_fits d tight f g o x (Section y vs) a b = comma (at_both a (at_token (at_added b free_nothing)))

part_fits : (d : Dialect) (tight : Bool) (q : Place) (base : Ty) (f : List Placed) (ss : List LStmt) (h : ℕ) → IsBase base → ReadsLocalPart q base f ss h → Fits d f (locals_row tight (stmts (map bare_stmt ss)))
unfolding locals_row
part_fits d tight q base f ss h b (unset g x i r) = comma (at_added (declarator_fits d tight base g x i b r) free_nothing)
part_fits d tight q base f ss h b (set g l o x r i j y z) = rw (begun_bare q x r) (begun_fits d tight g l o (bare_variable x) (bare_right r) (declarator_fits d tight base g x i b y) (right_fits d tight l r j z))

-- rows of two parts
pub block_both : (tight : Bool) (ss rs : List Stmt) → block_row tight (stmts (ss ++ rs)) ≡ block_row tight (stmts ss) ++ block_row tight (stmts rs)
unfolding block_row
block_both tight [] rs = refl
block_both tight (s ∷ ss) rs = rw (block_both tight ss rs, append_assoc) refl

locals_both : (tight : Bool) (ss rs : List Stmt) → locals_row tight (stmts (ss ++ rs)) ≡ locals_row tight (stmts ss) ++ locals_row tight (stmts rs)
unfolding locals_row
locals_both tight [] rs = refl
locals_both tight (Declare x t start ∷ ss) rs = rw (locals_both tight ss rs, append_assoc) refl
locals_both tight (Call o v vs ∷ ss) rs = rw (locals_both tight ss rs, append_assoc (call_row tight v vs) (locals_row tight (stmts ss)) (locals_row tight (stmts rs))) refl
locals_both tight (Detach o x vs ∷ ss) rs = rw (locals_both tight ss rs, append_assoc (section_row tight x vs) (locals_row tight (stmts ss)) (locals_row tight (stmts rs))) refl
locals_both tight (s ∷ ss) rs = locals_both tight ss rs

row_based : (d : Dialect) (tight : Bool) (q : Place) (base : Ty) (f : List Placed) (ss : List LStmt) (h : ℕ) → IsBase base → ReadsLocalRow q base f ss h → Based d (base_row base) f (block_row tight (stmts (map bare_stmt ss)))
row_based d tight q base f ss h b (last_local g rs i r) = part_based d tight q base g rs i b r
row_based d tight q base f ss h b (more_locals g l o rs us i j r s) =
    rw (map-append bare_stmt rs us, block_both tight (map bare_stmt rs) (map bare_stmt us)) (based_both (part_based d tight q base g rs i b r) (based_drop (row_based d tight q base l us j b s)))

row_fits : (d : Dialect) (tight : Bool) (q : Place) (base : Ty) (f : List Placed) (ss : List LStmt) (h : ℕ) → IsBase base → ReadsLocalRow q base f ss h → Fits d f (locals_row tight (stmts (map bare_stmt ss)))
row_fits d tight q base f ss h b (last_local g rs i r) = part_fits d tight q base g rs i b r
row_fits d tight q base f ss h b (more_locals g l o rs us i j r s) =
    rw (map-append bare_stmt rs us, locals_both tight (map bare_stmt rs) (map bare_stmt us)) (at_both (part_fits d tight q base g rs i b r) (at_drop (row_fits d tight q base l us j b s)))

-- a declaration in a block
pub local_fits : (d : Dialect) (tight : Bool) (f : List Placed) (ss : List LStmt) (h : ℕ) → ReadsLocal f ss h → Fits d f (block_row tight (stmts (map bare_stmt ss)))
local_fits d tight f ss h (local a g base rs i j b r) = close (base_fits d a base i b) (row_based d tight (begin a) base g rs j (base_is a base i b) r)

-- a declaration as the first part of a for
first_within : (d : Dialect) (tight : Bool) (base : Ty) (ss : Stmts) → IsBase base → PrintableLocals base None ss → Within d (base_row base ++ locals_row tight ss) (first_row tight ss)
unfolding PrintableLocals locals_row
first_within d tight base NoStmt b p = free free_nothing
first_within d tight base (AndStmt (Declare x t start) ss) b (e, a, p) = rw (sym (base_row_of t) ∙ ap base_row e) (both same (dropped_token same))
first_within d tight base (AndStmt (Call (Some u) v vs) ss) b p = absurd (let n : None ≡ Some u = p.0 in cc)
first_within d tight base (AndStmt (Detach (Some u) y vs) ss) b p = absurd (let n : None ≡ Some u = p.0 in cc)
first_within d tight base (AndStmt s ss) b p = absurd p

-- one statement as the first part of a for
alone_within : (d : Dialect) (tight : Bool) (s : Stmt) → Within d (simple_row tight s) (first_row tight (AndStmt s NoStmt))
unfolding locals_row
alone_within d tight (Declare x t start) = both same (added_after free_nothing same)
alone_within d tight s = same

pub first_fits : (d : Dialect) (tight : Bool) (f : List Placed) (ss : List LStmt) (h : ℕ) → ReadsFirst f ss h → Fits d f (first_row tight (stmts (map bare_stmt ss)))
first_fits d tight f ss h no_first = at_none
first_fits d tight f ss h (simple_first g s i r) = at (simple_fits d tight g s i r) (alone_within d tight (bare_stmt s))
first_fits d tight f ss h (local_first g rs i (local a k base us j m b r)) =
    let c = base_is a base j b in
    at (at_both (base_fits d a base j b) (row_fits d tight (begin a) base k us m c r)) (first_within d tight base (stmts (map bare_stmt us)) c (row_least (begin a) base k us m c r).0)
