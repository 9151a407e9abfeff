-- The type of the code of a piece.
use Rattle.std.proofs.Common.{◌≡◌, List, [], ◌∷◌, refl, ap, Vec, Box, Global, rules}
use Rattle.cpc_tree.specs.Erase.{Names, type_of, types_of}
use Rattle.cpc_tree.specs.declared.program.CType.{CType, Row_of-CType, end_of-CType, more_of-CType}
use Rattle.cpc_tree.specs.declared.program.CType.TheVariants as C
use Rattle.cpc_tree.specs.declared.program.CType.TheViews.{the_lemmas}
use Rattle.cpc_tree.specs.declared.program.CType.TheBlock.{items-the_row-CType}
use Rattle.cpc_tree.specs.Syntax.{TyCode, Tys, NoTy, AndTy}

-- the types of a list
abbrev pub all_types : Names → List CType → Tys
all_types names [] = NoTy
all_types names (t ∷ ts) = AndTy (type_of names t) (all_types names ts)

types_are : (names : Names) (n : _) (k : Row_of-CType n) → types_of names k ≡ all_types names (items-the_row-CType n k)
types_are names n end_of-CType = refl
types_are names n (more_of-CType t rest) = ap (AndTy (type_of names t)) (types_are names _ rest)

pub code_is : (names : Names) (b : Box CType Global) (ts : Vec CType Global) → type_of names (C.Code b ts) ≡ TyCode (type_of names b.value) (all_types names ts.items)
code_is names b ts = search (rules, the_lemmas, types_are)
