-- Which frame blocks are live, and whose they are.
use Rattle.std.specs.Prelude.{◌≡◌, ℕ, zero, suc, ◌+◌, List, [], ◌∷◌, slice_get, Option, is_some}
pub use Rattle.cpc_base.specs.Lists.{one_if}
use Rattle.cpc_store.specs.declared.values.Class.TheVariants.{Frame}
use Rattle.cpc_store.specs.Store.{Value, Blocks, Store, with_blocks, live}
use Rattle.cpc_meaning.specs.Eval.{Slot}

-- the cells of a block, if it is live
abbrev pub block : Blocks → ℕ → Option (List Value)
block bs b = live (slice_get bs b)

-- 1 where two numbers are one
abbrev pub same : ℕ → ℕ → ℕ
same zero zero = 1
same zero (suc c) = 0
same (suc b) zero = 0
same (suc b) (suc c) = same b c

-- how often a number stands in a list
abbrev pub count : ℕ → List ℕ → ℕ
count b [] = 0
count b (c ∷ cs) = same b c + count b cs

-- 1 where a block is live
abbrev pub lives : Blocks → ℕ → ℕ
lives bs b = one_if (is_some (block bs b))

-- the live blocks are these, each once, in any order
pub record Owns (bs : Blocks) (owned : List ℕ) : Type 0 where
  pub each : (b : ℕ) → count b owned ≡ lives bs b

-- the store with these frame blocks
abbrev pub beside : Blocks → Store → Store
beside fr s = with_blocks Frame fr s

-- a slot before those of the other variables
abbrev pub put : Slot → List Slot × Store → List Slot × Store
put slot r = (slot ∷ r.0, r.1)

-- slots and a store with these frame blocks
abbrev pub moved : Blocks → List Slot × Store → List Slot × Store
moved fr r = (r.0, beside fr r.1)
