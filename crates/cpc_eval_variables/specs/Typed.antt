-- The types of variables.
use Rattle.std.specs.Prelude.{List, map}
use Rattle.std.specs.Borrow.{Bor}
use Rattle.cpc_tree.specs.declared.program.CType.{CType}
use Rattle.cpc_tree.specs.Erase.{Names, type_of}
use Rattle.cpc_tree.specs.Syntax.{Ty, Variable}

-- of variables
abbrev pub types_in : List Variable → List Ty
types_in xs = map (λ (x : Variable). x.type) xs

-- of the code's variables
abbrev pub types_of : Names → List (Bor CType) → List Ty
types_of names ts = map (λ (t : Bor CType). type_of names t.now) ts
