-- Cells that are read as integers.
use Rattle.std.specs.Prelude.{◌≡◌, ℕ, Bool, true, false, ◌&&◌, List, [], ◌∷◌, map, slice_get, Option, Some, None}
use Rattle.std.specs.Global.{Vec}
use Rattle.cpc_base.specs.declared.names.Name.{Name}
use Rattle.cpc_num.specs.declared.kinds.Kind.{Kind}
use Rattle.cpc_store.specs.Store.{ValueOf, Unset, Whole, suits}
use Rattle.cpc_store.specs.Seen.{seen}
use Rattle.cpc_store.specs.declared.values.Scalar.TheVariants as S
use Rattle.cpc_store.specs.declared.values.Value.{Value}

-- an unset value or an integer
abbrev pub is_integer : {C : Type 0} → ValueOf C → Bool
is_integer Unset = true
is_integer (Whole kind z) = true
is_integer _ = false

-- each set value is an integer
abbrev pub are_integers : {C : Type 0} → List (ValueOf C) → Bool
are_integers [] = true
are_integers (v ∷ vs) = is_integer v && are_integers vs

-- a cell among those of a block, if there are any
abbrev pub cell_at : {V : Type 0} → Option (List V) → ℕ → Option V
cell_at None k = None
cell_at (Some cells) k = slice_get cells k

-- a cell was read as one of this kind; or it holds what that kind does not
abbrev pub ReadKind : Kind → Option Value → ValueOf Name → Type 0
ReadKind kind (Some v) cell = (seen v ≡ cell) × (suits (S.Int kind) cell ≡ true)
ReadKind kind None cell = suits (S.Int kind) cell ≡ false

-- a cell was read; or it holds something other than an integer
abbrev pub ReadAs : Option Value → ValueOf Name → Type 0
ReadAs (Some v) cell = (seen v ≡ cell) × (is_integer cell ≡ true)
ReadAs None cell = is_integer cell ≡ false

-- these cells were read; or one of them holds something other than an integer
abbrev pub ReadsAs : Option (Vec Value) → List (ValueOf Name) → Type 0
ReadsAs (Some read) cells = (map seen read.items ≡ cells) × (are_integers cells ≡ true)
ReadsAs None cells = are_integers cells ≡ false
