-- A store with other codes for functions: no act on a store looks into a code.
use Rattle.std.specs.Prelude.{List, map}
use Rattle.std.specs.Option.{option_map}
use Rattle.cpc_store.specs.Store.{ValueOf, Unset, Whole, Null, At, Code, Cond, BlocksOf, StoreOf}

-- a value with its code replaced
abbrev pub map_value : {C D : Type 0} → (C → D) → ValueOf C → ValueOf D
map_value f Unset = Unset
map_value f (Whole kind z) = Whole kind z
map_value f Null = Null
map_value f (At c n k) = At c n k
map_value f (Code code) = Code (f code)
map_value f (Cond n) = Cond n

-- the cells of a block
abbrev pub map_cells : {C D : Type 0} → (C → D) → List (ValueOf C) → List (ValueOf D)
map_cells f cells = map (map_value f) cells

-- the blocks of a class
abbrev pub map_blocks : {C D : Type 0} → (C → D) → BlocksOf C → BlocksOf D
map_blocks f bs = map (option_map (map_cells f)) bs

-- all blocks of a store
abbrev pub map_store : {C D : Type 0} → (C → D) → StoreOf C → StoreOf D
map_store f s = record { static = map_blocks f s.static; auto = map_blocks f s.auto; heap = map_blocks f s.heap; frames = map_blocks f s.frames }
