-- What is read can be printed, and in the tight style it nests no deeper than it was read.
use Rattle.std.proofs.Common.{◌≡◌, ℕ, ◌≤◌, Bool, true, false, List, [], ◌∷◌, map, max, refl, arith, if◌then◌else◌}
use Rattle.cpc_tree.specs.Tokens.{Placed}
use Rattle.cpc_tree.specs.Syntax.{Ty, TyVoid, TyInt, TyCondvar, TyPointer, TyCode, TyStruct, TyArray, Parameter}
use Rattle.cpc_tree.specs.Located.{LParameter, LVariable, bare_parameter}
use Rattle.cpc_tree.specs.TypeGrammar as G
use Rattle.cpc_tree.specs.TypeGrammar.{ReadsBase, void_base, kind_base, condvar_base, struct_base, ReadsStars, no_star, a_star, is_void, ReadsParam, plain_param, array_param, sized_param, code_param, ReadsParamRow, last_param, more_params, ReadsParams, no_params, some_params, ReadsDeclarator, plain, array, code, ReadsTypeName, plain_type, code_type}
use Rattle.cpc_tree.specs.TypePrint.{base_of, star_count, param_depth, types_depth, params_depth, declarator_depth, IsStarred, PrintableType, PrintableTypes, PrintableVariable, AllPrintable}
use Rattle.cpc_printer_laws.proofs.TypeRows.{types, types_bare, without_void, without_bare}

-- a type that a declaration can begin with has no star
pub record IsBase (t : Ty) : Type 0 where
  pub plain : IsStarred t
  pub none : star_count t ≡ 0
  pub itself : base_of t ≡ t

pub base_is : (f : List Placed) (t : Ty) (i : ℕ) → ReadsBase f t i → IsBase t
base_is f t i (void_base q) = record { plain = tt; none = refl; itself = refl }
base_is f t i (kind_base g kind r) = record { plain = tt; none = refl; itself = refl }
base_is f t i (condvar_base q) = record { plain = tt; none = refl; itself = refl }
base_is f t i (struct_base q tag) = record { plain = tt; none = refl; itself = refl }

-- stars over a base type are counted as they are read
pub starred : (base : Ty) (f : List Placed) (t : Ty) (h : ℕ) → IsBase base → ReadsStars base f t h → IsStarred t × (star_count t ≡ h) × (base_of t ≡ base)
starred base f t h b no_star = (b.plain, b.none, b.itself)
starred base f t h b (a_star g q u j r) = let (a, c, d) = starred base g u j b r in (a, omega arith, d)

printable : (t : Ty) → IsStarred t → PrintableType t
unfolding PrintableType
printable TyVoid s = tt
printable (TyInt kind) s = tt
printable TyCondvar s = tt
printable (TyPointer t) s = s
printable (TyCode t ts) s = absurd s
printable (TyStruct tag) s = tt
printable (TyArray t n) s = absurd s

-- tight, a parameter nests no deeper than its stars
shallow : (t : Ty) → IsStarred t → param_depth true t ≤ star_count t
unfolding param_depth
shallow TyVoid s = omega arith
shallow (TyInt kind) s = omega arith
shallow TyCondvar s = omega arith
shallow (TyPointer t) s = omega arith
shallow (TyCode t ts) s = absurd s
shallow (TyStruct tag) s = omega arith
shallow (TyArray t n) s = absurd s

-- the types of a list nest no deeper than the list that was read
unfoldable pub rows_depth : List Parameter → ℕ
rows_depth [] = 0
rows_depth (p ∷ ps) = max (param_depth true p.type) (rows_depth ps)

types_least : (ps : List Parameter) → types_depth true (types ps) ≤ rows_depth ps
unfolding types_depth rows_depth
types_least [] = omega arith
types_least (p ∷ []) = omega arith
types_least (p ∷ (q ∷ ps)) = omega (arith, types_least (q ∷ ps))

pub params_least : (ps : List Parameter) → params_depth true ps ≤ rows_depth ps
unfolding params_depth rows_depth
params_least [] = omega arith
params_least (p ∷ []) = omega arith
params_least (p ∷ (q ∷ ps)) = omega (arith, params_least (q ∷ ps))

all_types : (ps : List Parameter) → AllPrintable ps → PrintableTypes (types ps)
unfolding PrintableTypes
all_types [] a = tt
all_types (p ∷ ps) (a, b) = (a, all_types ps b)

-- parameters that can be printed, nest no deeper than this and are not the word void alone
pub record Listed (ps : List Parameter) (h : ℕ) : Type 0 where
  pub all : AllPrintable ps
  pub deep : rows_depth ps ≤ h
  pub kept : without_void ps ≡ ps

lone : (p : Parameter) (b : Bool) (h : ℕ) → is_void p.called p.type ≡ b → AllPrintable (p ∷ []) → rows_depth (p ∷ []) ≤ h → Listed (if b then [] else p ∷ []) h
unfolding rows_depth
lone p true h e a b = record { all = tt; deep = omega arith; kept = refl }
lone p false h e a b = record { all = a; deep = b; kept = rw e refl }

stripped : (ps : List Parameter) (h : ℕ) → AllPrintable ps → rows_depth ps ≤ h → Listed (without_void ps) h
stripped [] h a b = record { all = a; deep = b; kept = refl }
stripped (p ∷ []) h a b = lone p (is_void p.called p.type) h refl a b
stripped (p ∷ (q ∷ ps)) h a b = record { all = a; deep = b; kept = refl }

-- the types of parameters with places
code_types : (ws : List LParameter) (m : ℕ) → Listed (map bare_parameter ws) m → PrintableTypes (G.types ws) × (types_depth true (G.types ws) ≤ m)
code_types ws m l = rw (types_bare ws) (all_types (map bare_parameter ws) l.all, omega (arith, l.deep, types_least (map bare_parameter ws)))

mutual
  unfolding param_depth PrintableType rows_depth

  param_least : (f : List Placed) (p : LParameter) (h : ℕ) → ReadsParam f p h → PrintableType p.type × (param_depth true p.type ≤ h)
  param_least f p h (plain_param a g base t o i j b r) = let (d, k, e) = starred base g t j (base_is a base i b) r in (printable t d, omega (arith, shallow t d))
  param_least f p h (array_param a g base t o q s i j b r) = let (d, k, e) = starred base g t j (base_is a base i b) r in (d, omega arith)
  param_least f p h (sized_param a g base t o q s n kind z i j b r) = let (d, k, e) = starred base g t j (base_is a base i b) r in (d, omega arith)
  param_least f p h (code_param a g l base t o q n u v w ps i j m b r s) = let (d, k, e) = starred base g t j (base_is a base i b) r in let (x, y) = code_types ps m (list_least l ps m s) in ((d, x), omega arith)

  row_least : (f : List Placed) (ps : List LParameter) (h : ℕ) → ReadsParamRow f ps h → AllPrintable (map bare_parameter ps) × (rows_depth (map bare_parameter ps) ≤ h)
  row_least f ps h (last_param g p j r) = let (a, b) = param_least g p j r in ((a, tt), omega arith)
  row_least f ps h (more_params g l q p ws j m r s) = let (a, b) = param_least g p j r in let (c, d) = row_least l ws m s in ((a, c), omega arith)

  pub list_least : (f : List Placed) (ps : List LParameter) (h : ℕ) → ReadsParams f ps h → Listed (map bare_parameter ps) h
  list_least f ps h no_params = record { all = tt; deep = omega arith; kept = refl }
  list_least f ps h (some_params g ws j r) = let (a, b) = row_least g ws j r in rw (without_bare ws) (stripped (map bare_parameter ws) j a b)

plain_depth : (t : Ty) → IsStarred t → declarator_depth true t ≤ star_count t
unfolding declarator_depth
plain_depth TyVoid s = omega arith
plain_depth (TyInt kind) s = omega arith
plain_depth TyCondvar s = omega arith
plain_depth (TyPointer t) s = omega arith
plain_depth (TyCode t ts) s = absurd s
plain_depth (TyStruct tag) s = omega arith
plain_depth (TyArray t n) s = absurd s

-- a type name that is read
pub type_least : (f : List Placed) (t : Ty) (h : ℕ) → ReadsTypeName f t h → PrintableType t × (declarator_depth true t ≤ h)
unfolding declarator_depth PrintableType
type_least f t h (code_type a g l base u q n o v w ps i j m b r s) = let (d, k, e) = starred base g u j (base_is a base i b) r in let (x, y) = code_types ps m (list_least l ps m s) in ((d, x), omega arith)
type_least f t h (plain_type a g base u i j b r) = let (d, k, e) = starred base g t j (base_is a base i b) r in (printable t d, omega (arith, plain_depth t d))

-- pointers over a base type can be variables
pub starred_variable : (t : Ty) → IsStarred t → PrintableVariable t
unfolding PrintableVariable
starred_variable TyVoid s = tt
starred_variable (TyInt kind) s = tt
starred_variable TyCondvar s = tt
starred_variable (TyPointer t) s = s
starred_variable (TyCode t ts) s = absurd s
starred_variable (TyStruct tag) s = tt
starred_variable (TyArray t n) s = absurd s

-- a declared variable that is read
pub declarator_least : (base : Ty) (f : List Placed) (x : LVariable) (h : ℕ) → IsBase base → ReadsDeclarator base f x h → PrintableVariable x.type × (declarator_depth true x.type ≤ h) × (base_of x.type ≡ base)
unfolding declarator_depth PrintableVariable
declarator_least base f x h c (plain g t y j r) = let (d, k, e) = starred base g t j c r in (starred_variable t d, omega (arith, plain_depth t d), e)
declarator_least base f x h c (array g t y q r s kind n j b le) = let (d, k, e) = starred base g t j c b in ((d, le), omega arith, e)
declarator_least base f x h c (code g l t y q n s u v ps j m r z) = let (d, k, e) = starred base g t j c r in let (a, b) = code_types ps m (list_least l ps m z) in ((d, a), omega arith, e)
