-- What a name stands for, as the code says it.
use Rattle.std.specs.Prelude.{ℕ, map, Option, Some, None}
use Rattle.cpc_tree.specs.Erase.{Names, type_of, parameter_of, function_of}
use Rattle.cpc_tree.specs.Syntax.{Function}
use Rattle.cpc_tree.specs.Typing as T
use Rattle.cpc_tree.specs.declared.program.Item.{Item}
use Rattle.cpc_tree.specs.declared.program.Item.TheVariants as I
use Rattle.cpc_eval_index.specs.declared.meant.Meant.{Meant}
use Rattle.cpc_eval_index.specs.declared.meant.Meant.TheVariants as M

-- what a name stands for
abbrev pub meant_of : Names → Meant → T.Meant
meant_of names (M.Local slot t) = T.ALocal slot (type_of names t.now)
meant_of names (M.Global block t) = T.AGlobal block (type_of names t.now)
meant_of names (M.Function mode r ps) = T.AFunction mode (type_of names r.now) (map T.parameter_type (map (parameter_of names) ps.now))

-- the same, where it may stand for nothing
abbrev pub meant_if : Names → Option Meant → T.Meant
meant_if names None = T.NotMeant
meant_if names (Some m) = meant_of names m

-- what the name of an item stands for, where n globals come before it
abbrev pub meaning : Names → ℕ → Item → T.Meant
meaning names n (I.Struct tag fields) = T.NotMeant
meaning names n (I.Global w t start) = T.AGlobal n (type_of names t)
meaning names n (I.Prototype p mode w r ps) = T.AFunction mode (type_of names r) (map T.parameter_type (map (parameter_of names) ps.items))
meaning names n (I.Function f) = T.AFunction f.mode (type_of names f.result) (map T.parameter_type (map (parameter_of names) f.parameters.items))

-- the function that an item defines
abbrev pub definition_seen : Names → Item → Option Function
definition_seen names (I.Function f) = Some (function_of names f)
definition_seen names _ = None
