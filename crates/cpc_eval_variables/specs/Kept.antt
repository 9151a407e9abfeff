-- Where the variables of a function are kept: the type of each, and whether it is a register.
use Rattle.std.specs.Prelude.{ℕ, suc, Bool, not, ◌&&◌, List, [], ◌∷◌, map}
use Rattle.cpc_tree.specs.Erase.{Names, type_of}
use Rattle.cpc_tree.specs.Syntax.{Ty, Variable, Function}
use Rattle.cpc_tree.specs.Lists.{holds_number}
use Rattle.cpc_tree.specs.Typing.{is_scalar}
use Rattle.cpc_tree.specs.Registers.{is_register}
use Rattle.cpc_eval_variables.specs.declared.registers.Variable as V

-- of each of these variables of a function, from the n-th on
abbrev pub kept_from : Function → ℕ → List Variable → List (Ty × Bool)
kept_from f n [] = []
kept_from f n (x ∷ xs) = (x.type, is_register f n x) ∷ kept_from f (suc n) xs

-- the same, as the code has it
abbrev pub kept_of : Names → List V.Variable → List (Ty × Bool)
kept_of names vs = map (λ (v : V.Variable). (type_of names v.of.now, v.is_register)) vs

-- of variables of these types, where these numbers have an address
abbrev pub kept_types : List ℕ → ℕ → List Ty → List (Ty × Bool)
kept_types addressed n [] = []
kept_types addressed n (t ∷ ts) = (t, is_scalar t && not (holds_number addressed n)) ∷ kept_types addressed (suc n) ts

-- the types alone
abbrev pub types_kept : List (Ty × Bool) → List Ty
types_kept ks = map (λ (k : Ty × Bool). k.0) ks
