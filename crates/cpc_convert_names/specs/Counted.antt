-- Rows of names by numbers.
use Rattle.std.specs.Prelude.{ℕ, zero, suc, List, [], ◌∷◌, option_map}
use Rattle.cpc_base.specs.Bytes.{Text}
use Rattle.cpc_tree.specs.Erase.{Names, text_of}
use Rattle.cpc_tree.specs.Registers.{or_empty}
use Rattle.cpc_forms_code.specs.declared.boxed.Variable.{Variable}
use Rattle.cpc_convert_routines.specs.Names.{variable_name}

-- the names of n numbers from the k-th on
abbrev pub counted : (ℕ → Text) → (k n : ℕ) → List Text
counted name k zero = []
counted name k (suc n) = name k ∷ counted name (suc k) n

-- the name of a variable, which may have none
abbrev pub called_of : Names → Variable → Text
called_of names v = or_empty (option_map (text_of names) v.name)

-- the names of the locals of variables, the first of which is the k-th
abbrev pub locals_from : Names → (k : ℕ) → List Variable → List Text
locals_from names k [] = []
locals_from names k (v ∷ vs) = variable_name k (called_of names v) ∷ locals_from names (suc k) vs
