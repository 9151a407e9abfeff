-- Parameters that are passed, one by one.
use Rattle.std.specs.Prelude.{ℕ, List, [], ◌∷◌, Option, Some, None}
use Rattle.cpc_tree.specs.Syntax.{Variable}
use Rattle.cpc_tree.specs.Typing.{is_scalar}
use Rattle.cpc_convert_routines.specs.Names.{variable_name}
use Rattle.cpc_convert_routines.specs.Routines.{variable_if}

-- the parameter of a number as it is passed
abbrev pub passed_at : ℕ → Variable → Variable
passed_at k x = record { called = variable_name k x.called; type = x.type }

-- it, where there is one and its value is passed
abbrev pub passed_one : ℕ → Option Variable → List Variable
passed_one k None = []
passed_one k (Some x) = variable_if (is_scalar x.type) (passed_at k x) []

-- it, where there is one
abbrev pub passed_always : ℕ → Option Variable → List Variable
passed_always k None = []
passed_always k (Some x) = passed_at k x ∷ []
