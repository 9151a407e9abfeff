-- What a single item says of the name that it declares.
use Rattle.std.specs.Prelude.{ℕ, List, map, slice_get, Option, Some, None}
use Rattle.cpc_tree.specs.Erase.{Names, type_of, field_of, parameter_of}
use Rattle.cpc_tree.specs.Syntax.{Variable}
use Rattle.cpc_tree.specs.Typing as T
use Rattle.cpc_tree.specs.declared.program.Item.{Item}
use Rattle.cpc_tree.specs.declared.program.Item.TheVariants as I

-- the item of a number that may be absent
abbrev pub item_at : List Item → Option ℕ → Option Item
item_at xs None = None
item_at xs (Some k) = slice_get xs k

-- what the name of an item stands for
abbrev pub meaning : Names → Item → T.Meant
meaning names (I.Struct tag fields) = T.NotMeant
meaning names (I.Global w t start) = T.AGlobal 0 (type_of names t)
meaning names (I.Prototype p mode w r ps) = T.AFunction mode (type_of names r) (map T.parameter_type (map (parameter_of names) ps.items))
meaning names (I.Function f) = T.AFunction f.mode (type_of names f.result) (map T.parameter_type (map (parameter_of names) f.parameters.items))

-- the same of an item that may be absent
abbrev pub meaning_of : Names → Option Item → T.Meant
meaning_of names None = T.NotMeant
meaning_of names (Some x) = meaning names x

-- the fields of the struct that an item declares
abbrev pub fields_seen : Names → Item → Option (List Variable)
fields_seen names (I.Struct tag fields) = Some (map (field_of names) fields.items)
fields_seen names _ = None

abbrev pub fields_of : Names → Option Item → Option (List Variable)
fields_of names None = None
fields_of names (Some x) = fields_seen names x
