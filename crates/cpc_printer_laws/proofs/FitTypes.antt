-- The print of a type fits the tokens that it was read from.
use Rattle.std.proofs.Common.{◌≡◌, ℕ, ◌<◌, ◌≤◌, ◌^◌, Bool, true, false, cond, nat_lt, List, [], ◌∷◌, ◌++◌, map, Option, Some, None, option_map, pos, refl, sym, subst, ap, ◌∙◌, arith, if◌then◌else◌}
use Rattle.std.proofs.lemmas.Bool.Decides.{nat_tests}
use Rattle.std.proofs.lemmas.Int.{ints}
use Rattle.std.proofs.lemmas.List.Elements.{All-nil, All-cons}
use Rattle.cpc_base.specs.declared.stop.Place.{Place}
use Rattle.cpc_num.proofs.KindLemmas.{is_of-IsOf}
use Rattle.cpc_tree.specs.Pieces.{in_word, name_limit}
use Rattle.cpc_base.specs.Bytes.{Text}
use Rattle.cpc_base.specs.declared.stop.Dialect.{Dialect}
use Rattle.cpc_base.specs.declared.stop.Dialect.TheVariants as D
use Rattle.cpc_num.specs.declared.kinds.Kind.{Kind}
use Rattle.cpc_num.specs.declared.kinds.Kind.TheVariants as N
use Rattle.cpc_tree.specs.declared.token.Punctuator.TheVariants as P
use Rattle.cpc_tree.specs.Tokens.{Mark, Placed, keyword_of}
use Rattle.cpc_tree.specs.Spelling.{IsName, IsLiteral}
use Rattle.cpc_tree.specs.Syntax.{Ty, TyVoid, TyInt, TyCondvar, TyPointer, TyCode, TyStruct, TyArray, Tys, NoTy, AndTy, Parameter}
use Rattle.cpc_tree.specs.Located.{Ident, LParameter, LVariable, bare_parameter}
use Rattle.cpc_tree.specs.TypeGrammar as G
use Rattle.cpc_tree.specs.TypeGrammar.{ReadsKind, ReadsBase, void_base, kind_base, condvar_base, struct_base, ReadsStars, no_star, a_star, is_void, ident_row, ReadsParam, plain_param, array_param, sized_param, code_param, ReadsParamRow, last_param, more_params, ReadsParams, no_params, some_params, ReadsDeclarator, plain, array, code, ReadsTypeName, plain_type, code_type}
use Rattle.cpc_tree.specs.TypePrint.{name_row, kind_row, base_of, base_row, stars, void_name, lone_name, param_row, rest_row, list_row, params_row, declarator_row, type_row, IsStarred}
use Rattle.cpc_printer_laws.proofs.TypeRows.{types, types_bare, without_void, without_bare}
use Rattle.cpc_printer_laws.proofs.LeastTypes.{IsBase, base_is, starred}
use Rattle.cpc_printer_laws.proofs.Fitting.{Within, Fits, Free, same, both, token, free_nothing, free_both, free_token, free, added_before, added_after, dropped_before, at, at_none, at_free, at_both, at_token, at_drop, at_first}

kind_free : (d : Dialect) (kind : Kind) → Free d (kind_row kind)
kind_free d N.Char = free_token refl tt free_nothing
kind_free d N.UChar = free_token refl tt (free_token refl tt free_nothing)
kind_free d N.Int = free_token refl tt free_nothing
kind_free d N.UInt = free_token refl tt free_nothing
kind_free d N.Long = free_token refl tt free_nothing
kind_free d N.ULong = free_token refl tt (free_token refl tt free_nothing)

pub base_fits : (d : Dialect) (f : List Placed) (t : Ty) (i : ℕ) → ReadsBase f t i → Fits d f (base_row t)
base_fits d f t i (void_base q) = at_token at_none
base_fits d f t i (kind_base g kind r) = at_free (kind_free d kind)
base_fits d f t i (condvar_base q) = at_token at_none
base_fits d f t i (struct_base q tag) = at_token (at_token at_none)

pub stars_free : (d : Dialect) (t : Ty) → Free d (stars t)
stars_free d TyVoid = free_nothing
stars_free d (TyInt kind) = free_nothing
stars_free d TyCondvar = free_nothing
stars_free d (TyPointer t) = free_both (stars_free d t) (free_token refl tt free_nothing)
stars_free d (TyCode t ts) = free_nothing
stars_free d (TyStruct tag) = free_nothing
stars_free d (TyArray t n) = free_nothing

-- a type is printed behind its base type
pub base_row_of : (t : Ty) → base_row (base_of t) ≡ base_row t
base_row_of TyVoid = refl
base_row_of (TyInt kind) = refl
base_row_of TyCondvar = refl
base_row_of (TyPointer t) = base_row_of t
base_row_of (TyCode t ts) = base_row_of t
base_row_of (TyStruct tag) = refl
base_row_of (TyArray t n) = base_row_of t

pub start_fits : (d : Dialect) (a f : List Placed) (base t : Ty) (i h : ℕ) → ReadsBase a base i → ReadsStars base f t h → Fits d a (base_row t)
start_fits d a f base t i h b r = let (s, c, e) = starred base f t h (base_is a base i b) r in subst (Fits d a) (ap base_row (sym e) ∙ base_row_of t) (base_fits d a base i b)

is_starred : (a f : List Placed) (base t : Ty) (i h : ℕ) → ReadsBase a base i → ReadsStars base f t h → IsStarred t
is_starred a f base t i h b r = (starred base f t h (base_is a base i b) r).0

ident_fits : (d : Dialect) (o : Option Ident) → Fits d (ident_row o) (name_row (option_map (λ (x : Ident). x.text) o))
ident_fits d None = at_none
ident_fits d (Some x) = at_token at_none

brackets_free : (d : Dialect) → Free d (Mark P.LeftBracket ∷ Mark P.RightBracket ∷ [])
brackets_free d = free_token refl tt (free_token refl tt free_nothing)

-- a parameter over stars
starred_param : (d : Dialect) (tight : Bool) (o : Option Text) (t : Ty) → IsStarred t → Within d (base_row t ++ (stars t ++ name_row o)) (param_row tight o t)
unfolding param_row
starred_param d tight o TyVoid s = same
starred_param d tight o (TyInt kind) s = same
starred_param d tight o TyCondvar s = same
starred_param d false o (TyPointer t) s = same
starred_param d true o (TyPointer t) s = both same (dropped_before (stars (TyPointer t)) (added_before (stars_free d t) (added_after (brackets_free d) same)))
starred_param d tight o (TyCode t ts) s = absurd s
starred_param d tight o (TyStruct tag) s = same
starred_param d tight o (TyArray t n) s = absurd s

-- a parameter with another name that costs nothing
renamed : (d : Dialect) (tight : Bool) (o n : Option Text) (t : Ty) → Free d (name_row n) → Within d (param_row tight o t) (param_row tight n t)
unfolding param_row
renamed d tight o n TyVoid a = token (free a)
renamed d tight o n (TyInt kind) a = both same (free a)
renamed d tight o n TyCondvar a = token (free a)
renamed d false o n (TyPointer t) a = both same (both same (free a))
renamed d true o n (TyPointer t) a = both same (both same (both (free a) same))
renamed d tight o n (TyCode t ts) a = both same (both same (token (token (both (free a) same))))
renamed d tight o n (TyStruct tag) a = token (token (free a))
renamed d tight o n (TyArray t k) a = same

-- the name of a lone parameter of type void is a name
limited : (d : Dialect) → 1 ≤ name_limit d
limited D.Cpc = omega arith
limited D.Event = omega arith

filler : (d : Dialect) → IsName d void_name
unfolding keyword_of in_word
filler d = record { some = omega arith; begins = refl; word = All-cons (λ b. in_word b ≡ true) 95 [] refl (All-nil (λ b. in_word b ≡ true)); no_keyword = refl; short = limited d }

lone_free : (d : Dialect) (t : Ty) (ts : Tys) → Free d (name_row (lone_name t ts))
lone_free d TyVoid NoTy = free_token refl (filler d) free_nothing
lone_free d TyVoid (AndTy u us) = free_nothing
lone_free d t ts = free_nothing

-- parameters without their names
rest_within : (d : Dialect) (tight : Bool) (n : Option Text) (p : Parameter) (ps : List Parameter) → Free d (name_row n) → Within d (params_row tight (p ∷ ps)) (param_row tight n p.type ++ rest_row tight (types ps))
unfolding params_row rest_row
rest_within d tight n p [] a = added_after free_nothing (renamed d tight p.called n p.type a)
rest_within d tight n p (q ∷ ps) a = both (renamed d tight p.called n p.type a) (token (rest_within d tight None q ps free_nothing))

list_within : (d : Dialect) (tight : Bool) (ps : List Parameter) → Within d (params_row tight ps) (list_row tight (types ps))
unfolding params_row list_row
list_within d tight [] = same
list_within d tight (p ∷ ps) = rest_within d tight (lone_name p.type (types ps)) p ps (lone_free d p.type (types ps))

-- parameters of which the word void alone is none
void_within : (d : Dialect) (tight : Bool) (p : Parameter) (b : Bool) → Within d (params_row tight (p ∷ [])) (params_row tight (if b then [] else p ∷ []))
unfolding params_row
void_within d tight p true = free (free_token refl tt free_nothing)
void_within d tight p false = same

kept_within : (d : Dialect) (tight : Bool) (ps : List Parameter) → Within d (params_row tight ps) (params_row tight (without_void ps))
kept_within d tight [] = same
kept_within d tight (p ∷ []) = void_within d tight p (is_void p.called p.type)
kept_within d tight (p ∷ (q ∷ ps)) = same

params_more : (d : Dialect) (tight : Bool) (f g : List Placed) (q : Place) (p : Parameter) (ps : List Parameter) → Fits d f (param_row tight p.called p.type) → Fits d g (params_row tight ps)
    → Fits d (f ++ G.mark q P.Comma ∷ g) (params_row tight (p ∷ ps))
unfolding params_row
params_more d tight f g q p [] a b = at_first (G.mark q P.Comma ∷ g) a
params_more d tight f g q p (r ∷ ps) a b = at_both a (at_token b)

-- the types of parameters that fit
unnamed_fit : (d : Dialect) (tight : Bool) (f : List Placed) (ps : List LParameter) → Fits d f (params_row tight (map bare_parameter ps)) → Fits d f (list_row tight (G.types ps))
unnamed_fit d tight f ps a = rw (types_bare ps) (at a (list_within d tight (map bare_parameter ps)))

mutual
  unfolding param_row params_row

  param_fits : (d : Dialect) (tight : Bool) (f : List Placed) (p : LParameter) (h : ℕ) → ReadsParam f p h → Fits d f (param_row tight (bare_parameter p).called p.type)
  param_fits d tight f p h (plain_param a g base t o i j b r) =
      at (at_both (start_fits d a g base t i j b r) (at_both (at_free (stars_free d t)) (ident_fits d o))) (starred_param d tight (option_map (λ (x : Ident). x.text) o) t (is_starred a g base t i j b r))
  param_fits d tight f p h (array_param a g base t o q s i j b r) =
      at (at_both (start_fits d a g base t i j b r) (at_both (at_free (stars_free d (TyPointer t))) (at_first _ (ident_fits d o)))) (starred_param d tight (option_map (λ (x : Ident). x.text) o) (TyPointer t) (is_starred a g base t i j b r))
  param_fits d tight f p h (sized_param a g base t o q s n kind z i j b r) =
      at (at_both (start_fits d a g base t i j b r) (at_both (at_free (stars_free d (TyPointer t))) (at_first _ (ident_fits d o)))) (starred_param d tight (option_map (λ (x : Ident). x.text) o) (TyPointer t) (is_starred a g base t i j b r))
  param_fits d tight f p h (code_param a g l base t o q n u v w ps i j m b r s) =
      at_both (start_fits d a g base t i j b r) (at_both (at_free (stars_free d t)) (at_token (at_token (at_both (ident_fits d o) (at_token (at_token (at_both (unnamed_fit d tight l ps (list_fits d tight l ps m s)) (at_token at_none))))))))

  row_fits : (d : Dialect) (tight : Bool) (f : List Placed) (ps : List LParameter) (h : ℕ) → ReadsParamRow f ps h → Fits d f (params_row tight (map bare_parameter ps))
  row_fits d tight f ps h (last_param g p j r) = param_fits d tight g p j r
  row_fits d tight f ps h (more_params g l q p ws j m r s) = params_more d tight g l q (bare_parameter p) (map bare_parameter ws) (param_fits d tight g p j r) (row_fits d tight l ws m s)

  pub list_fits : (d : Dialect) (tight : Bool) (f : List Placed) (ps : List LParameter) (h : ℕ) → ReadsParams f ps h → Fits d f (params_row tight (map bare_parameter ps))
  list_fits d tight f ps h no_params = at_free (free_token refl tt free_nothing)
  list_fits d tight f ps h (some_params g ws j r) = rw (without_bare ws) (at (row_fits d tight g ws j r) (kept_within d tight (map bare_parameter ws)))

types_fit : (d : Dialect) (tight : Bool) (f : List Placed) (ps : List LParameter) (h : ℕ) → ReadsParams f ps h → Fits d f (list_row tight (G.types ps))
types_fit d tight f ps h r = unnamed_fit d tight f ps (list_fits d tight f ps h r)

-- the length of an array is a literal of its kind
literal_at : (n : ℕ) (p q : Bool) → n < 2 ^ 64 → nat_lt n (2 ^ 31) ≡ p → nat_lt n (2 ^ 63) ≡ q → IsLiteral (cond p N.Int (cond q N.Long N.ULong)) (pos n)
literal_at n true q le e g = let low : n < 2 ^ 31 = grind (arith, nat_tests) in (tt, is_of-IsOf N.Int (pos n) (record { low = omega (arith, ints); high = omega (arith, ints) }))
literal_at n false true le e g = let low : n < 2 ^ 63 = grind (arith, nat_tests) in (tt, is_of-IsOf N.Long (pos n) (record { low = omega (arith, ints); high = omega (arith, ints) }))
literal_at n false false le e g = (tt, is_of-IsOf N.ULong (pos n) (record { low = omega (arith, ints); high = omega (arith, ints) }))

-- a variable over stars
starred_row : (tight : Bool) (o : Option Text) (t : Ty) → IsStarred t → declarator_row tight o t ≡ stars t ++ name_row o
unfolding declarator_row
starred_row tight o TyVoid s = refl
starred_row tight o (TyInt kind) s = refl
starred_row tight o TyCondvar s = refl
starred_row tight o (TyPointer t) s = refl
starred_row tight o (TyCode t ts) s = absurd s
starred_row tight o (TyStruct tag) s = refl
starred_row tight o (TyArray t n) s = absurd s

pub declarator_fits : (d : Dialect) (tight : Bool) (base : Ty) (f : List Placed) (x : LVariable) (h : ℕ) → IsBase base → ReadsDeclarator base f x h → Fits d f (declarator_row tight (Some x.called.text) x.type)
unfolding declarator_row
declarator_fits d tight base f x h c (plain g t y j r) = rw (starred_row tight (Some y.text) t (starred base g t j c r).0) (at_both (at_free (stars_free d t)) (at_token at_none))
declarator_fits d tight base f x h c (array g t y q r s kind n j b le) =
    at_both (at_free (stars_free d t)) (at_token (at_token (at_drop (at (at_token at_none) (added_before (free_token refl (literal_at n _ _ le refl refl) free_nothing) same)))))
declarator_fits d tight base f x h c (code g l t y q n s u v ps j m r z) =
    at_both (at_free (stars_free d t)) (at_token (at_token (at_token (at_token (at_token (at_both (types_fit d tight l ps m z) (at_token at_none)))))))

pub type_fits : (d : Dialect) (tight : Bool) (f : List Placed) (t : Ty) (h : ℕ) → ReadsTypeName f t h → Fits d f (type_row tight t)
unfolding declarator_row
type_fits d tight f t h (plain_type a g base u i j b r) =
    rw (starred_row tight None t (is_starred a g base t i j b r)) (at_both (start_fits d a g base t i j b r) (at_free (free_both (stars_free d t) free_nothing)))
type_fits d tight f t h (code_type a g l base u q n o v w ps i j m b r s) =
    at_both (start_fits d a g base u i j b r) (at_both (at_free (stars_free d u)) (at_token (at_token (at_token (at_token (at_both (types_fit d tight l ps m s) (at_token at_none)))))))
