-- The parts of a function's type.
use Rattle.std.proofs.Common.{◌≡◌, List, map, Some, refl, sym, ap, Vec, Box, Global, rules}
use Rattle.cpc_tree.specs.declared.program.CType.{CType, Row_of-CType, end_of-CType, more_of-CType}
use Rattle.cpc_tree.specs.declared.program.CType.TheVariants as C
use Rattle.cpc_tree.specs.declared.program.CType.TheViews.{the_lemmas}
use Rattle.cpc_tree.specs.declared.program.CType.TheBlock.{items-the_row-CType}
use Rattle.cpc_tree.specs.Erase.{Names, type_of, types_of}
use Rattle.cpc_tree.specs.Syntax.{Ty, TyCode, AndTy}
use Rattle.cpc_tree.specs.Typing as T

-- a row of types is the list of its types
types_row : (names : Names) (n : _) (k : Row_of-CType n) → types_of names k ≡ T.tys_of (map (type_of names) (items-the_row-CType n k))
types_row names n end_of-CType = refl
types_row names n (more_of-CType t rest) = ap (AndTy (type_of names t)) (types_row names _ rest)

code_is : (names : Names) (b : Box CType Global) (ts : Vec CType Global) → type_of names (C.Code b ts) ≡ T.function_type (type_of names b.value) (map (type_of names) ts.items)
code_is names b ts = search (rules, the_lemmas, types_row)

pub code_given : (names : Names) (b : Box CType Global) (ts : Vec CType Global)
    → Some (T.function_type (type_of names b.value) (map (type_of names) ts.items)) ≡ T.code_type (type_of names (C.Code b ts))
code_given names b ts = sym (ap T.code_type (code_is names b ts))
