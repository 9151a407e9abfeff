-- Types that can be printed with one name can be with any other, as the type of a variable, of a field or of a parameter.
use Rattle.std.proofs.Common.{◌≡◌, ◌+◌, ◌≤◌, Bool, true, false, List, [], ◌∷◌, Option, Some, None, refl, arith}
use Rattle.cpc_base.specs.Bytes.{Text}
use Rattle.cpc_base.specs.declared.stop.Dialect.{Dialect}
use Rattle.cpc_tree.specs.declared.token.Punctuator.TheVariants as P
use Rattle.cpc_num.specs.declared.kinds.Kind.{Kind}
use Rattle.cpc_num.specs.declared.kinds.Kind.TheVariants as N
use Rattle.cpc_tree.specs.Tokens.{Lexeme, Mark, Named}
use Rattle.cpc_tree.specs.Spelling.{IsName}
use Rattle.cpc_tree.specs.Syntax.{Ty, TyVoid, TyInt, TyCondvar, TyPointer, TyCode, TyStruct, TyArray}
use Rattle.cpc_tree.specs.TypePrint.{kind_row, base_row, stars, star_count, param_row, declarator_row, declarator_depth, param_depth, IsStarred, PrintableType, PrintableVariable}
use Rattle.cpc_printer_laws.proofs.Fitting.{Spelled, spelled_both, spelled_parts}

-- stars are marks
pub stars_spelled : (d : Dialect) (t : Ty) → Spelled d (stars t)
stars_spelled d (TyPointer t) = spelled_both d (stars t) (Mark P.Star ∷ []) (stars_spelled d t) (tt, tt)
stars_spelled d TyVoid = tt
stars_spelled d (TyInt kind) = tt
stars_spelled d TyCondvar = tt
stars_spelled d (TyCode t ts) = tt
stars_spelled d (TyStruct tag) = tt
stars_spelled d (TyArray t n) = tt

kind_spelled : (d : Dialect) (kind : Kind) → Spelled d (kind_row kind)
kind_spelled d N.Char = (tt, tt)
kind_spelled d N.UChar = (tt, (tt, tt))
kind_spelled d N.Int = (tt, tt)
kind_spelled d N.UInt = (tt, tt)
kind_spelled d N.Long = (tt, tt)
kind_spelled d N.ULong = (tt, (tt, tt))

module _ (d : Dialect) (tight : Bool) where
  -- a type whose tokens can be spelled
  pub record TypeSpelled (t : Ty) : Type 0 where
    pub base : Spelled d (base_row t)
    pub rest : Spelled d (declarator_row tight None t)

  -- the tokens behind a name
  named_front : (x : Text) (f : List Lexeme) → IsName d x → Spelled d f → Spelled d (Named x ∷ f)
  named_front x f n s = (n, s)

  -- ---- declarators

  pub declarator_name : (x : Text) (t : Ty) → Spelled d (declarator_row tight (Some x) t) → IsName d x
  unfolding declarator_row
  declarator_name x (TyArray t n) s = (spelled_parts d (stars t) _ s).1.0
  declarator_name x (TyCode t ts) s = let (a, b) = spelled_parts d (stars t) _ s in (b.1).1.0
  declarator_name x (TyPointer t) s = (spelled_parts d (stars (TyPointer t)) (Named x ∷ []) s).1.0
  declarator_name x TyVoid s = s.0
  declarator_name x (TyInt kind) s = s.0
  declarator_name x TyCondvar s = s.0
  declarator_name x (TyStruct tag) s = s.0

  pub declarator_rest : (x : Text) (t : Ty) → Spelled d (declarator_row tight (Some x) t) → Spelled d (declarator_row tight None t)
  unfolding declarator_row
  declarator_rest x (TyArray t n) s = let (a, b) = spelled_parts d (stars t) _ s in spelled_both d (stars t) _ a b.1
  declarator_rest x (TyCode t ts) s = let (a, b) = spelled_parts d (stars t) _ s in spelled_both d (stars t) _ a (tt, (tt, (b.1).1.1))
  declarator_rest x (TyPointer t) s = spelled_both d (stars (TyPointer t)) [] (spelled_parts d (stars (TyPointer t)) (Named x ∷ []) s).0 tt
  declarator_rest x TyVoid s = tt
  declarator_rest x (TyInt kind) s = tt
  declarator_rest x TyCondvar s = tt
  declarator_rest x (TyStruct tag) s = tt

  pub declarator_made : (x : Text) (t : Ty) → IsName d x → Spelled d (declarator_row tight None t) → Spelled d (declarator_row tight (Some x) t)
  unfolding declarator_row
  declarator_made x (TyArray t n) name s = let (a, b) = spelled_parts d (stars t) _ s in spelled_both d (stars t) _ a (name, b)
  declarator_made x (TyCode t ts) name s = let (a, b) = spelled_parts d (stars t) _ s in spelled_both d (stars t) _ a (tt, (tt, (name, b.1.1)))
  declarator_made x (TyPointer t) name s = spelled_both d (stars (TyPointer t)) (Named x ∷ []) (stars_spelled d (TyPointer t)) (name, tt)
  declarator_made x TyVoid name s = (name, tt)
  declarator_made x (TyInt kind) name s = (name, tt)
  declarator_made x TyCondvar name s = (name, tt)
  declarator_made x (TyStruct tag) name s = (name, tt)

  -- ---- parameters

  pub param_type : (o : Option Text) (t : Ty) → PrintableType t → Spelled d (param_row tight o t) → TypeSpelled t
  unfolding param_row declarator_row PrintableType
  param_type o TyVoid p s = record { base = (tt, tt); rest = tt }
  param_type o (TyInt kind) p s = record { base = kind_spelled d kind; rest = tt }
  param_type o TyCondvar p s = record { base = (tt, tt); rest = tt }
  param_type o (TyPointer t) p s = record { base = pointer_base o tight t s; rest = spelled_both d (stars (TyPointer t)) [] (stars_spelled d (TyPointer t)) tt }
    where
      pointer_base : (o : Option Text) (b : Bool) (t : Ty) → Spelled d (param_row b o (TyPointer t)) → Spelled d (base_row t)
      pointer_base o true t s = (spelled_parts d (base_row t) _ s).0
      pointer_base o false t s = (spelled_parts d (base_row t) _ s).0
  param_type None (TyCode t ts) p s = let (a, b) = spelled_parts d (base_row t) _ s in record { base = a; rest = b }
  param_type (Some x) (TyCode t ts) p s =
      let (a, b) = spelled_parts d (base_row t) _ s in
      let (u, v) = spelled_parts d (stars t) _ b in
      record { base = a; rest = spelled_both d (stars t) _ u (tt, (tt, (v.1).1.1)) }
  param_type o (TyStruct tag) p s = record { base = (tt, (s.1.0, tt)); rest = tt }
  param_type o (TyArray t n) p s = absurd p

  pub param_name : (x : Text) (t : Ty) → PrintableType t → Spelled d (param_row tight (Some x) t) → IsName d x
  unfolding param_row PrintableType
  param_name x TyVoid p s = s.1.0
  param_name x (TyInt kind) p s = (spelled_parts d (kind_row kind) (Named x ∷ []) s).1.0
  param_name x TyCondvar p s = s.1.0
  param_name x (TyPointer t) p s = pointer_name tight x t s
    where
      pointer_name : (b : Bool) (x : Text) (t : Ty) → Spelled d (param_row b (Some x) (TyPointer t)) → IsName d x
      pointer_name true x t s = let (a, b) = spelled_parts d (base_row t) _ s in (spelled_parts d (stars t) _ b).1.0
      pointer_name false x t s = let (a, b) = spelled_parts d (base_row t) _ s in (spelled_parts d (stars (TyPointer t)) _ b).1.0
  param_name x (TyCode t ts) p s = let (a, b) = spelled_parts d (base_row t) _ s in let (u, v) = spelled_parts d (stars t) _ b in (v.1).1.0
  param_name x (TyStruct tag) p s = (s.1).1.0
  param_name x (TyArray t n) p s = absurd p

  pub param_made : (x : Text) (t : Ty) → PrintableType t → IsName d x → TypeSpelled t → Spelled d (param_row tight (Some x) t)
  unfolding param_row declarator_row PrintableType
  param_made x TyVoid p name s = (tt, (name, tt))
  param_made x (TyInt kind) p name s = spelled_both d (kind_row kind) (Named x ∷ []) (kind_spelled d kind) (name, tt)
  param_made x TyCondvar p name s = (tt, (name, tt))
  param_made x (TyPointer t) p name s = pointer_made tight x t name s.base
    where
      pointer_made : (b : Bool) (x : Text) (t : Ty) → IsName d x → Spelled d (base_row t) → Spelled d (param_row b (Some x) (TyPointer t))
      pointer_made true x t name s = spelled_both d (base_row t) _ s (spelled_both d (stars t) _ (stars_spelled d t) (name, (tt, (tt, tt))))
      pointer_made false x t name s = spelled_both d (base_row t) _ s (spelled_both d (stars (TyPointer t)) _ (stars_spelled d (TyPointer t)) (name, tt))
  param_made x (TyCode t ts) p name s = let (a, b) = spelled_parts d (stars t) _ s.rest in spelled_both d (base_row t) _ s.base (spelled_both d (stars t) _ a (tt, (tt, (name, b.1.1))))
  param_made x (TyStruct tag) p name s = (tt, (s.base.1.0, (name, tt)))
  param_made x (TyArray t n) p name s = absurd p

-- ---- what may stand where

-- what can be a parameter can be a variable
pub type_variable : (t : Ty) → PrintableType t → PrintableVariable t
unfolding PrintableType PrintableVariable
type_variable TyVoid p = tt
type_variable (TyInt kind) p = tt
type_variable TyCondvar p = tt
type_variable (TyPointer t) p = p
type_variable (TyCode t ts) p = p
type_variable (TyStruct tag) p = tt
type_variable (TyArray t n) p = absurd p

-- pointers over a base type nest as their stars do
pub starred_deep : (t : Ty) → IsStarred t → declarator_depth true t ≡ star_count t
unfolding declarator_depth
starred_deep TyVoid p = refl
starred_deep (TyInt kind) p = refl
starred_deep TyCondvar p = refl
starred_deep (TyPointer t) p = refl
starred_deep (TyCode t ts) p = absurd p
starred_deep (TyStruct tag) p = refl
starred_deep (TyArray t n) p = absurd p

-- and their tokens are of the base type and stars
pub starred_rest : (d : Dialect) (tight : Bool) (t : Ty) → IsStarred t → Spelled d (declarator_row tight None t)
unfolding declarator_row
starred_rest d tight TyVoid p = tt
starred_rest d tight (TyInt kind) p = tt
starred_rest d tight TyCondvar p = tt
starred_rest d tight (TyPointer t) p = spelled_both d (stars (TyPointer t)) [] (stars_spelled d (TyPointer t)) tt
starred_rest d tight (TyCode t ts) p = absurd p
starred_rest d tight (TyStruct tag) p = tt
starred_rest d tight (TyArray t n) p = absurd p

-- a parameter nests no deeper than a variable, and a variable one level deeper at most
pub param_within : (t : Ty) → PrintableType t → param_depth true t ≤ declarator_depth true t
unfolding param_depth declarator_depth PrintableType
param_within TyVoid p = omega arith
param_within (TyInt kind) p = omega arith
param_within TyCondvar p = omega arith
param_within (TyPointer t) p = omega arith
param_within (TyCode t ts) p = omega arith
param_within (TyStruct tag) p = omega arith
param_within (TyArray t n) p = absurd p

pub variable_within : (t : Ty) → PrintableType t → declarator_depth true t ≤ param_depth true t + 1
unfolding param_depth declarator_depth PrintableType
variable_within TyVoid p = omega arith
variable_within (TyInt kind) p = omega arith
variable_within TyCondvar p = omega arith
variable_within (TyPointer t) p = omega arith
variable_within (TyCode t ts) p = omega arith
variable_within (TyStruct tag) p = omega arith
variable_within (TyArray t n) p = absurd p
