-- What the cells of types hold.
use Rattle.std.specs.Prelude.{ℕ, zero, suc, map, List, [], ◌∷◌, ◌++◌, Option, Some, None}
use Rattle.cpc_store.specs.declared.values.Scalar.{Scalar}
use Rattle.cpc_tree.specs.Erase.{Names, field_of}
use Rattle.cpc_tree.specs.declared.program.Field.{Field}
use Rattle.cpc_tree.specs.Syntax.{Ty, TyStruct, Variable, Item}
use Rattle.cpc_tree.specs.Typing.{Cells, cells_in, fields_cells, struct_cells, ◌>>=◌}
use Rattle.cpc_meaning.specs.Layout.{scalars}
use Rattle.cpc_run_globals.specs.declared.peeled.Element.{Element}
use Rattle.cpc_run_globals.specs.declared.peeled.Element.TheVariants.{Incomplete, Cell, Struct}

-- what cells of these types hold
abbrev pub held : Cells → Option (List Scalar)
held cells = cells >>= scalars

-- what the cells of a type hold, where these items declare the structs, the last first
abbrev pub type_layout : List Item → Ty → Option (List Scalar)
type_layout items t = held (cells_in (struct_cells items) t)

-- what the cells of fields hold
abbrev pub fields_layout : List Item → List Variable → Option (List Scalar)
fields_layout items fs = held (fields_cells (struct_cells items) fs)

-- the same of fields that may be absent
abbrev pub fields_row : Names → List Item → Option (List Field) → Option (List Scalar)
fields_row names items None = None
fields_row names items (Some fields) = fields_layout items (map (field_of names) fields)

-- a row so many times over
abbrev pub repeated : ℕ → List Scalar → List Scalar
repeated zero row = []
repeated (suc n) row = row ++ repeated n row

-- one row behind another, where both are there
abbrev pub joined : Option (List Scalar) → Option (List Scalar) → Option (List Scalar)
joined o p = o >>= (λ xs. p >>= (λ ys. Some (xs ++ ys)))

-- what one element of an array holds
abbrev pub element_layout : Names → List Item → Element → Option (List Scalar)
element_layout names items Incomplete = None
element_layout names items (Cell scalar) = Some (scalar ∷ [])
element_layout names items (Struct tag) = type_layout items (TyStruct (names tag))
