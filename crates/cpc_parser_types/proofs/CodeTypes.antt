-- The type of a pointer to a function, as it is built.
use Rattle.std.proofs.Common.{◌≡◌, refl, rules, ap, ◌∙◌, List, [], ◌∷◌, map, Vec, Box, Global}
use Rattle.cpc_tree.specs.declared.program.CType.{CType, Row_of-CType, end_of-CType, more_of-CType}
use Rattle.cpc_tree.specs.declared.program.CType.TheVariants as C
use Rattle.cpc_tree.specs.declared.program.CType.TheBlock.{items-the_row-CType}
use Rattle.cpc_tree.specs.declared.program.CType.TheViews.{the_lemmas}
use Rattle.cpc_tree.specs.declared.program.Parameter.{Parameter}
use Rattle.cpc_tree.specs.Erase.{Names, type_of, types_of}
use Rattle.cpc_tree.specs.Locate.{located_parameter}
use Rattle.cpc_tree.specs.Syntax.{Tys, NoTy, AndTy, TyCode}
use Rattle.cpc_tree.specs.TypeGrammar.{types}

-- the types of a list
abbrev tys_of : Names → List CType → Tys
tys_of names [] = NoTy
tys_of names (t ∷ ts) = AndTy (type_of names t) (tys_of names ts)

row_is : (names : Names) (n : _) (k : Row_of-CType n) → types_of names k ≡ tys_of names (items-the_row-CType n k)
row_is names n end_of-CType = refl
row_is names n (more_of-CType t rest) = ap (AndTy (type_of names t)) (row_is names _ rest)

code_is : (names : Names) (b : Box CType Global) (v : Vec CType Global) → type_of names (C.Code b v) ≡ TyCode (type_of names b.value) (tys_of names v.items)
code_is names b v = search (rules, the_lemmas, row_is)

list_is : (names : Names) (ps : List Parameter) → tys_of names (map (λ (p : Parameter). p.of) ps) ≡ types (map (located_parameter names) ps)
list_is names [] = refl
list_is names (p ∷ ps) = ap (AndTy (type_of names p.of)) (list_is names ps)

pub built : (names : Names) (b : Box CType Global) (v : Vec CType Global) (t : CType) (ps : List Parameter) → b.value ≡ t → v.items ≡ map (λ (p : Parameter). p.of) ps
    → type_of names (C.Code b v) ≡ TyCode (type_of names t) (types (map (located_parameter names) ps))
built names b v t ps e f = code_is names b v ∙ (ap (λ u. TyCode (type_of names u) (tys_of names v.items)) e ∙ ap (λ u. TyCode (type_of names t) u) (ap (tys_of names) f ∙ list_is names ps))
