-- The laws of chains, as statements.
use Rattle.std.specs.Prelude.{◌≡◌, ℕ, ◌+◌, List, [], ◌∷◌, ◌++◌, length, slice_set, Option, Some, None}
use Rattle.cpc_store.specs.declared.values.Class.TheVariants.{Frame}
use Rattle.cpc_store.specs.Store.{Value, At, Blocks}
use Rattle.cpc_meaning.specs.Machine.{next}
use Rattle.cpc_chains_store_laws.specs.Chains.{Saved, frame_cells, Chain, Top, Chains}
use Rattle.cpc_convert_flat_laws.specs.Blocks.{count}

-- a chain is kept where a block is made, and where one that is not its own is written or freed; and its first frame is put, taken and given a value
pub record ChainsAreKept : Type 0 where
  pub made : (bs : Blocks) (x : Option (List Value)) (fs : List Saved) (p : Value) (owned : List ℕ) → Chain bs fs p owned → Chain (bs ++ x ∷ []) fs p owned
  pub changed : (bs : Blocks) (c : ℕ) (x : Option (List Value)) (fs : List Saved) (p : Value) (owned : List ℕ) → count c owned ≡ 0 → Chain bs fs p owned → Chain (slice_set bs c x) fs p owned
  pub put : (bs : Blocks) (f : Saved) (v : Value) (fs : List Saved) (p : Value) (owned : List ℕ) → Chain bs fs p owned → Top (bs ++ Some (frame_cells f p v) ∷ []) f fs (length bs) p v owned
  pub closed : (bs : Blocks) (f : Saved) (fs : List Saved) (b : ℕ) (next v : Value) (owned : List ℕ) → Top bs f fs b next v owned → Chain bs (f ∷ fs) (At Frame b 0) (b ∷ owned)
  pub taken : (bs : Blocks) (f : Saved) (fs : List Saved) (b : ℕ) (next v : Value) (owned : List ℕ) → Top bs f fs b next v owned → Chain (slice_set bs b None) fs next owned
  pub patched : (bs : Blocks) (f : Saved) (fs : List Saved) (b : ℕ) (next v w : Value) (owned : List ℕ) → Top bs f fs b next v owned → Top (slice_set bs b (Some (frame_cells f next w))) f fs b next w owned

-- the chains of all items are kept likewise
pub record AllChainsAreKept : Type 0 where
  pub made : (bs : Blocks) (x : Option (List Value)) (stacks : List (List Saved)) (ps : List Value) (owned : List ℕ) → Chains bs stacks ps owned → Chains (bs ++ x ∷ []) stacks ps owned
  pub changed : (bs : Blocks) (c : ℕ) (x : Option (List Value)) (stacks : List (List Saved)) (ps : List Value) (owned : List ℕ) → count c owned ≡ 0 → Chains bs stacks ps owned → Chains (slice_set bs c x) stacks ps owned
