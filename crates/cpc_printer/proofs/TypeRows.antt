-- What the definitions of rows give at each type of the source.
use Rattle.std.proofs.Common.{◌≡◌, ◌==◌, ℕ, ◌+◌, ◌<◌, ◌≤◌, Bool, true, false, List, [], ◌∷◌, ◌++◌, length, get_or, drop, map, Option, None, refl, ap, sym, ◌∙◌, Vec, Box, Global, rules, append_assoc, append-nil}
use Rattle.std.proofs.lemmas.List.{drop_all}
use Rattle.cpc_base.specs.Bytes.{Text}
use Rattle.cpc_base.proofs.Lists.{drop_to_item}
use Rattle.cpc_tree.specs.declared.program.CType.{CType, Row_of-CType, end_of-CType, more_of-CType}
use Rattle.cpc_tree.specs.declared.program.CType.TheVariants as C
use Rattle.cpc_tree.specs.declared.program.CType.TheViews.{the_lemmas}
use Rattle.cpc_tree.specs.declared.program.CType.TheBlock.{items-the_row-CType}
use Rattle.cpc_tree.specs.declared.token.Keyword.TheVariants as K
use Rattle.cpc_tree.specs.declared.token.Punctuator.TheVariants as P
use Rattle.cpc_tree.specs.Tokens.{Word, Mark}
use Rattle.cpc_tree.specs.Syntax.{Parameter, Ty, TyVoid, TyInt, TyCondvar, TyPointer, TyCode, TyStruct, TyArray, Tys, NoTy, AndTy}
use Rattle.cpc_tree.specs.Erase.{Names, type_of, types_of, parameter_of}
use Rattle.cpc_tree.specs.declared.program.Parameter as GParameter
use Rattle.cpc_tree.specs.TypePrint.{name_row, base_row, stars, param_row, list_row, rest_row, lone_name, params_row, declarator_row}
use Rattle.cpc_printer.specs.Types.{listed_types, before_row, behind_row, one_param_row, further_row}

-- a Vec of types is the list of its types
types_listed : (names : Names) (n : _) (k : Row_of-CType n) → types_of names k ≡ listed_types names (items-the_row-CType n k)
types_listed names n end_of-CType = refl
types_listed names n (more_of-CType t rest) = ap (AndTy (type_of names t)) (types_listed names _ rest)

pub code_is : (names : Names) (b : Box CType Global) (ts : Vec CType Global) → type_of names (C.Code b ts) ≡ TyCode (type_of names b.value) (listed_types names ts.items)
code_is names b ts = search (rules, the_lemmas, types_listed)

pub behind_code : (names : Names) (tight : Bool) (t : CType) (b : Box CType Global) (ts : Vec CType Global) → t ≡ C.Code b ts
    → behind_row tight (type_of names t) ≡ Mark P.RightParen ∷ Mark P.LeftParen ∷ (list_row tight (listed_types names ts.items) ++ Mark P.RightParen ∷ [])
behind_code names tight t b ts e = ap (behind_row tight) (ap (type_of names) e ∙ code_is names b ts)

pub declarator_parts : (tight : Bool) (o : Option Text) (t : Ty) → declarator_row tight o t ≡ before_row t ++ (name_row o ++ behind_row tight t)
unfolding declarator_row
declarator_parts tight o TyVoid = ap (λ x. x) (sym (append-nil (name_row o)))
declarator_parts tight o (TyInt kind) = sym (append-nil (name_row o))
declarator_parts tight o TyCondvar = sym (append-nil (name_row o))
declarator_parts tight o (TyPointer t) = ap (λ x. stars (TyPointer t) ++ x) (sym (append-nil (name_row o)))
declarator_parts tight o (TyCode t ts) = sym (append_assoc (stars t) (Mark P.LeftParen ∷ Mark P.Star ∷ []) (name_row o ++ Mark P.RightParen ∷ Mark P.LeftParen ∷ (list_row tight ts ++ Mark P.RightParen ∷ [])))
declarator_parts tight o (TyStruct tag) = sym (append-nil (name_row o))
declarator_parts tight o (TyArray t n) = refl

pub list_none : (tight : Bool) → list_row tight NoTy ≡ Word K.Void ∷ []
unfolding list_row
list_none tight = refl

pub list_some : (tight : Bool) (t : Ty) (ts : Tys) → list_row tight (AndTy t ts) ≡ param_row tight (lone_name t ts) t ++ rest_row tight ts
unfolding list_row
list_some tight t ts = refl

pub rest_end : (tight : Bool) (names : Names) (xs : List CType) (i : ℕ) → length xs ≤ i → rest_row tight (listed_types names (drop i xs)) ≡ []
unfolding rest_row
rest_end tight names xs i h = ap (λ ys. rest_row tight (listed_types names ys)) (drop_all i xs h)

pub rest_more : (tight : Bool) (names : Names) (xs : List CType) (i : ℕ) (x : CType) → i < length xs → x ≡ get_or xs i x
    → rest_row tight (listed_types names (drop i xs)) ≡ Mark P.Comma ∷ (param_row tight None (type_of names x) ++ rest_row tight (listed_types names (drop (i + 1) xs)))
unfolding rest_row
rest_more tight names xs i x h e = ap (λ ys. rest_row tight (listed_types names ys)) (drop_to_item xs i x h e)

pub param_array : (tight : Bool) (o : Option Text) (t : Ty) (n : ℕ) → param_row tight o (TyArray t n) ≡ []
unfolding param_row
param_array tight o t n = refl

pub param_pointer : (o : Option Text) (t : Ty) → param_row false o (TyPointer t) ≡ base_row t ++ (stars (TyPointer t) ++ name_row o)
unfolding param_row
param_pointer o t = refl

pub param_bracketed : (o : Option Text) (t : Ty) → param_row true o (TyPointer t) ≡ base_row t ++ (stars t ++ (name_row o ++ Mark P.LeftBracket ∷ Mark P.RightBracket ∷ []))
unfolding param_row
param_bracketed o t = refl

pub param_other : (names : Names) (tight : Bool) (o : Option Text) (t : CType) → ((b : Box CType Global) → t ≡ C.Pointer b → ⊥) → ((b : Box CType Global) (n : ℕ) → t ≡ C.Array b n → ⊥)
    → param_row tight o (type_of names t) ≡ base_row (type_of names t) ++ declarator_row tight o (type_of names t)
unfolding param_row declarator_row
param_other names tight o C.Void f g = refl
param_other names tight o (C.Int kind) f g = refl
param_other names tight o C.Condvar f g = refl
param_other names tight o (C.Pointer' p t) f g = absurd (f (record { ptr = p.ptr; alloc = p.alloc; value = t }) refl)
param_other names tight o (C.Code' p t shape row) f g = refl
param_other names tight o (C.Struct tag) f g = refl
param_other names tight o (C.Array' p t n) f g = absurd (g (record { ptr = p.ptr; alloc = p.alloc; value = t }) n refl)

pub lone_more : (names : Names) (t : CType) (ts : List CType) → (length ts == 0) ≡ false → lone_name (type_of names t) (listed_types names ts) ≡ None
lone_more names C.Void [] h = absurd (cc)
lone_more names C.Void (u ∷ us) h = refl
lone_more names (C.Int kind) ts h = refl
lone_more names C.Condvar ts h = refl
lone_more names (C.Pointer' p t) ts h = refl
lone_more names (C.Code' p result shape row) ts h = refl
lone_more names (C.Struct tag) ts h = refl
lone_more names (C.Array' p t n) ts h = refl

pub params_none : (tight : Bool) → params_row tight [] ≡ Word K.Void ∷ []
unfolding params_row
params_none tight = refl

pub params_some : (tight : Bool) (p : Parameter) (ps : List Parameter) → params_row tight (p ∷ ps) ≡ one_param_row tight p ++ further_row tight ps
unfolding params_row
params_some tight p [] = sym (append-nil (one_param_row tight p))
params_some tight p (q ∷ ps) = ap (λ x. one_param_row tight p ++ Mark P.Comma ∷ x) (params_some tight q ps)

pub params_end : (tight : Bool) (names : Names) (xs : List GParameter.Parameter) (i : ℕ) → length xs ≤ i → further_row tight (map (parameter_of names) (drop i xs)) ≡ []
params_end tight names xs i h = ap (λ ys. further_row tight (map (parameter_of names) ys)) (drop_all i xs h)

pub params_more : (tight : Bool) (names : Names) (xs : List GParameter.Parameter) (i : ℕ) (x : GParameter.Parameter) → i < length xs → x ≡ get_or xs i x
    → further_row tight (map (parameter_of names) (drop i xs)) ≡ Mark P.Comma ∷ (one_param_row tight (parameter_of names x) ++ further_row tight (map (parameter_of names) (drop (i + 1) xs)))
params_more tight names xs i x h e = ap (λ ys. further_row tight (map (parameter_of names) ys)) (drop_to_item xs i x h e)
