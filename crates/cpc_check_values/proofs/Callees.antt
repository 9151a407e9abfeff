-- What is called by a pointer, and the parameters of the functions of sections.
use Rattle.std.proofs.Common.{◌≡◌, ℕ, ◌+◌, ◌<◌, ◌≤◌, true, ◌&&◌, List, [], ◌∷◌, ◌++◌, length, get_or, drop, map, Option, Some, None, option_map, refl, sym, ap, subst, ◌∙◌, Vec, Box, Bor, Global, ap₂}
use Rattle.std.specs.Prelude.{slice_get}
use Rattle.std.proofs.lemmas.List.{drop_more, drop_all}
use Rattle.cpc_tree.specs.declared.program.CType.{CType}
use Rattle.cpc_tree.specs.declared.program.Expr.{Expr}
use Rattle.cpc_tree.specs.declared.program.Parameter.{Parameter}
use Rattle.cpc_tree.specs.Erase.{Names, type_of, parameter_of}
use Rattle.cpc_tree.specs.Locate.{located_expr, located_exprs}
use Rattle.cpc_tree.specs.Primitives as P
use Rattle.cpc_tree.specs.PrimitiveNames.{primitive_of}
use Rattle.cpc_tree.specs.Syntax.{Ty, TyCode}
use Rattle.cpc_tree.specs.Typing as T
use Rattle.cpc_tree.proofs.TypeRows.{list_back}
use Rattle.cpc_check_rules.specs.Scopes.{Scope}
use Rattle.cpc_check_rules.specs.Calls as C
use Rattle.cpc_shapes.specs.Listed.{optional_of}
use Rattle.cpc_tree.specs.declared.primitive.Primitive.{Primitive}
use Rattle.cpc_tree.specs.declared.primitive.Primitive.TheVariants as R
use Rattle.cpc_check_values.proofs.Arguments.{counted}
use Rattle.cpc_check_values.specs.Wants.{primitive_wants, section_wants, section_callee_of}

-- the function of a pointer, by what its type is taken apart to
pub code_taken : (t : Ty) (r : Ty) (ps : List Ty) → Some (T.function_type r ps) ≡ T.code_type t → C.Takes (map (λ p. C.Of p) ps) r ≡ C.code_callee (Some t)
code_taken (TyCode s qs) r ps e =
    let g : TyCode r (T.tys_of ps) ≡ TyCode s qs = cc in
    ap (λ us. C.Takes (map (λ p. C.Of p) us) r) (sym (list_back ps)) ∙ ap (λ t. C.code_callee (Some t)) g
code_taken t r ps e = cc

pub code_taken_at : (names : Names) (o : Option CType) (x : CType) (b : Box CType Global) (ts : Vec CType Global) → o ≡ Some x
    → Some (T.function_type (type_of names b.value) (map (type_of names) ts.items)) ≡ T.code_type (type_of names x)
    → C.Takes (map (λ t. C.Of t) (map (type_of names) ts.items)) (type_of names b.value) ≡ C.code_callee (optional_of names o)
code_taken_at names o x b ts e f =
    code_taken (type_of names x) (type_of names b.value) (map (type_of names) ts.items) f ∙ sym (ap (λ u. C.code_callee (optional_of names u)) e)

pub code_untaken : (t : Ty) → None ≡ T.code_type t → C.NoCallee ≡ C.code_callee (Some t)
code_untaken (TyCode s qs) e = cc
code_untaken t e = refl

-- ---- parameters that are integers

abbrev types : Names → List Parameter → List Ty
types names ps = map T.parameter_type (map (parameter_of names) ps)

pub integers_more : (names : Names) (ps : List Parameter) (i : ℕ) (p : Parameter) → i < length ps → p ≡ get_or ps i p
    → C.all_integers (types names (drop i ps)) ≡ (C.is_integer (type_of names p.of) && C.all_integers (types names (drop (i + 1) ps)))
integers_more names ps i p h e = ap (λ qs. C.all_integers (types names qs)) (drop_more ps i p h ∙ ap (λ q. q ∷ drop (i + 1) ps) (sym e))

pub integers_end : (names : Names) (ps : List Parameter) (i : ℕ) → length ps ≤ i → C.all_integers (types names (drop i ps)) ≡ true
integers_end names ps i h = ap (λ qs. C.all_integers (types names qs)) (drop_all i ps h)

-- ---- the section of `rt_detach`

third_is : (names : Names) (es : List Expr) → C.third (located_exprs names es) ≡ option_map (located_expr names) (slice_get es 2)
third_is names [] = refl
third_is names (a ∷ []) = refl
third_is names (a ∷ (b ∷ [])) = refl
third_is names (a ∷ (b ∷ (e ∷ es))) = refl

read_is : (names : Names) (o : Option (Bor Expr)) → option_map (λ e. located_expr names e.now) o ≡ option_map (located_expr names) (option_map (λ e. e.now) o)
read_is names None = refl
read_is names (Some e) = refl

section_row : (names : Names) (given : ℕ) (ps : Option (List Parameter)) → C.ForSection ∷ section_wants names given ps ≡ C.detached_wants given (section_callee_of names ps)
section_row names given None = refl
section_row names given (Some ps) = refl

pub detach_callee : (names : Names) (s : Scope) (p : Primitive) (es : List Expr) (o : Option (Bor Expr)) (ps : Option (List Parameter)) → p ≡ R.RtDetach → option_map (λ e. e.now) o ≡ slice_get es 2
    → section_callee_of names ps ≡ C.section_of s (option_map (λ e. located_expr names e.now) o)
    → C.Takes (primitive_wants names (primitive_of p) (length es) ps) (C.gives (primitive_of p)) ≡ C.Takes (C.wants s (primitive_of p) (located_exprs names es)) (C.gives (primitive_of p))
detach_callee names s p es o ps is e f =
    let Q : Primitive → Type 0 = λ q. C.Takes (primitive_wants names (primitive_of q) (length es) ps) (C.gives (primitive_of q)) ≡ C.Takes (C.wants s (primitive_of q) (located_exprs names es)) (C.gives (primitive_of q)) in
    let g : C.section_of s (option_map (λ e. located_expr names e.now) o) ≡ C.section_of s (C.third (located_exprs names es)) = ap (C.section_of s) (read_is names o ∙ ap (option_map (located_expr names)) e ∙ sym (third_is names es)) in
    subst Q (sym is) (ap (λ ws. C.Takes (map C.wanted_of (P.takes_first P.RtDetach) ++ ws) (C.gives P.RtDetach)) (section_row names (length es) ps ∙ ap₂ C.detached_wants (sym (counted names es)) (f ∙ g)))
