-- The store: blocks of cells in four classes.
use Rattle.std.specs.Prelude.{ℕ, ◌+◌, Bool, true, false, ◌&&◌, ◌==◌, if◌then◌else◌, ℤ, List, [], ◌∷◌, ◌++◌, length, slice_get, slice_set, replicate, Option, Some, None, is_some, Result, Ok, Err}
use Rattle.std.specs.List.{sum_by}
use Rattle.std.specs.Option.{option_map}
use Rattle.std.specs.Result.{result_map_both}
use Rattle.cpc_base.specs.Bytes.{Text}
use Rattle.cpc_num.specs.declared.kinds.Kind.{Kind}
use Rattle.cpc_num.specs.declared.kinds.Fault.{Fault}
use Rattle.cpc_num.specs.declared.kinds.Fault.TheVariants as F
use Rattle.cpc_num.specs.Number.{same_kind}
use Rattle.cpc_store.specs.declared.values.Class.{Class}
use Rattle.cpc_store.specs.declared.values.Class.TheVariants.{Static, Auto, Heap, Frame}
use Rattle.cpc_store.specs.declared.values.Scalar.{Scalar}
use Rattle.cpc_store.specs.declared.values.Scalar.TheVariants as S

-- a value of a cell, where the codes of functions are of the type C
pub data ValueOf (C : Type 0) : Type 0 where
  Unset : ValueOf C
  Whole : Kind → ℤ → ValueOf C
  Null : ValueOf C
  At : Class → (block : ℕ) → (offset : ℕ) → ValueOf C
  Code : C → ValueOf C
  Cond : ℕ → ValueOf C

-- the blocks of one class in order of making: their cells, or None from the time when they are freed
abbrev pub BlocksOf : Type 0 → Type 0
BlocksOf C = List (Option (List (ValueOf C)))

-- the blocks of each class
pub record StoreOf (C : Type 0) : Type 0 where
  pub static : BlocksOf C
  pub auto : BlocksOf C
  pub heap : BlocksOf C
  pub frames : BlocksOf C

-- what programs mean knows a function's code by the text of its name
abbrev pub Value : Type 0
Value = ValueOf Text

abbrev pub Blocks : Type 0
Blocks = BlocksOf Text

abbrev pub Store : Type 0
Store = StoreOf Text

-- no block was made
abbrev pub empty_store : {C : Type 0} → StoreOf C
empty_store = record { static = []; auto = []; heap = []; frames = [] }

-- the blocks of a class
abbrev pub blocks : {C : Type 0} → Class → StoreOf C → BlocksOf C
blocks Static s = s.static
blocks Auto s = s.auto
blocks Heap s = s.heap
blocks Frame s = s.frames

-- the store with other blocks of a class
abbrev pub with_blocks : {C : Type 0} → Class → BlocksOf C → StoreOf C → StoreOf C
with_blocks Static bs s = record s { static = bs }
with_blocks Auto bs s = record s { auto = bs }
with_blocks Heap bs s = record s { heap = bs }
with_blocks Frame bs s = record s { frames = bs }

-- whether two classes are one
abbrev pub same_class : Class → Class → Bool
same_class Static Static = true
same_class Auto Auto = true
same_class Heap Heap = true
same_class Frame Frame = true
same_class _ _ = false

-- the number of the next block of a class
abbrev pub next_block : {C : Type 0} → Class → StoreOf C → ℕ
next_block c s = length (blocks c s)

-- the store with one more block of a class, the number of which was the next
abbrev pub alloc : {C : Type 0} → Class → List (ValueOf C) → StoreOf C → StoreOf C
alloc c cells s = with_blocks c (blocks c s ++ Some cells ∷ []) s

-- the cells of a block that was made and is not freed
abbrev pub live : {C : Type 0} → Option (Option (List (ValueOf C))) → Option (List (ValueOf C))
live None = None
live (Some block) = block

-- the cells of a block, if it is live
abbrev pub cells_of : {C : Type 0} → Class → ℕ → StoreOf C → Option (List (ValueOf C))
cells_of c n s = live (slice_get (blocks c s) n)

-- cells that hold nothing yet
abbrev pub unset_cells : {C : Type 0} → ℕ → List (ValueOf C)
unset_cells n = replicate n Unset

-- how many cells a block has, if it is live
abbrev pub size : {C : Type 0} → Class → ℕ → StoreOf C → Option ℕ
size c n s = option_map length (cells_of c n s)

-- a block of the class is freed, by a pointer to its first cell; null frees nothing
abbrev pub free : {C : Type 0} → Class → ValueOf C → StoreOf C → Result (StoreOf C) Fault
free c Unset s = Err F.Unset
free c (Whole kind z) s = Err F.BadFree
free c Null s = Ok s
free c (At d n k) s =
    if same_class c d && is_some (cells_of d n s) && (k == 0) then Ok (with_blocks c (slice_set (blocks c s) n None) s) else Err F.BadFree
free c (Code f) s = Err F.BadFree
free c (Cond n) s = Err F.BadFree

-- an unset value is a value of each type
abbrev pub suits : {C : Type 0} → Scalar → ValueOf C → Bool
suits wanted Unset = true
suits (S.Int j) (Whole k z) = same_kind j k
suits S.Pointer Null = true
suits S.Pointer (At c n k) = true
suits S.Code Null = true
suits S.Code (Code f) = true
suits S.Cond (Cond n) = true
suits _ _ = false

-- the value of a cell, if it is there and fits
abbrev pub load_cell : {C : Type 0} → Scalar → Option (ValueOf C) → Result (ValueOf C) Fault
load_cell wanted None = Err F.Bounds
load_cell wanted (Some v) = if suits wanted v then Ok v else Err F.Kind

-- a cell of a block
abbrev pub load_block : {C : Type 0} → Scalar → Option (List (ValueOf C)) → ℕ → Result (ValueOf C) Fault
load_block wanted None k = Err F.Freed
load_block wanted (Some cells) k = load_cell wanted (slice_get cells k)

-- the value of a cell that is to hold this scalar
abbrev pub load : {C : Type 0} → Scalar → Class → ℕ → ℕ → StoreOf C → Result (ValueOf C) Fault
load wanted c n k s = load_block wanted (cells_of c n s) k

-- a cell among those of a block is written
abbrev pub save_cell : {V : Type 0} → List V → ℕ → V → Result (List V) Fault
save_cell cells k v = if is_some (slice_get cells k) then Ok (slice_set cells k v) else Err F.Bounds

-- a cell of a block of a class is written
abbrev pub save_in : {C : Type 0} → Option (List (ValueOf C)) → BlocksOf C → ℕ → ℕ → ValueOf C → Result (BlocksOf C) Fault
save_in None bs n k v = Err F.Freed
save_in (Some cells) bs n k v = result_map_both (λ written. slice_set bs n (Some written)) (λ fault. fault) (save_cell cells k v)

-- a cell is written
abbrev pub save : {C : Type 0} → Class → ℕ → ℕ → ValueOf C → StoreOf C → Result (StoreOf C) Fault
save c n k v s = result_map_both (λ bs. with_blocks c bs s) (λ fault. fault) (save_in (cells_of c n s) (blocks c s) n k v)

-- how many cells a block has, none once it is freed
abbrev pub block_cells : {C : Type 0} → Option (List (ValueOf C)) → ℕ
block_cells None = 0
block_cells (Some cells) = length cells

-- the cells of the live blocks of a class
abbrev pub cells_in : {C : Type 0} → BlocksOf C → ℕ
cells_in bs = sum_by block_cells bs

-- the cells of the live blocks of a store
abbrev pub store_cells : {C : Type 0} → StoreOf C → ℕ
store_cells s = cells_in s.static + cells_in s.auto + cells_in s.heap + cells_in s.frames
