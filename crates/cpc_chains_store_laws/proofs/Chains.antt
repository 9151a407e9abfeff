-- Chains are kept by what is done to other blocks; a frame is put before one, taken from one, and given a value.
use Rattle.std.proofs.Common.{◌≡◌, ℕ, ◌+◌, ◌<◌, List, [], ◌∷◌, ◌++◌, length, slice_set, Option, Some, None, refl, sym, ◌∙◌, ap, arith}
use Rattle.cpc_store.specs.declared.values.Class.TheVariants.{Frame}
use Rattle.cpc_store.specs.Store.{Value, Null, At, Blocks, live}
use Rattle.cpc_meaning.proofs.Stores.{get_set, get_other, get_last, get_before}
use Rattle.cpc_chains_store_laws.specs.Chains.{Saved, frame_cells, Chain, NoChain, AndChain, Top}
use Rattle.cpc_convert_flat_laws.specs.Blocks.{block, count}
use Rattle.cpc_convert_flat_laws.proofs.Blocks.{same_number, two_numbers, count_beyond, below_length, is_there}

-- ---- one chain

-- where its blocks are kept, a chain is
pub chain_kept : (bs cs : Blocks) (fs : List Saved) (p : Value) (owned : List ℕ) → ((b : ℕ) (cells : List Value) → 0 < count b owned → block bs b ≡ Some cells → block cs b ≡ Some cells) → Chain bs fs p owned → Chain cs fs p owned
chain_kept bs cs _ _ _ k NoChain = NoChain
chain_kept bs cs _ _ _ k (AndChain f fs b next v owned e a h) =
    AndChain f fs b next v owned (k b _ (let g = same_number b in omega (arith, g)) e) a
    (chain_kept bs cs fs next owned (λ c cells i. k c cells (omega (arith, i))) h)

-- a new block
pub chain_alloc : (bs : Blocks) (x : Option (List Value)) (fs : List Saved) (p : Value) (owned : List ℕ) → Chain bs fs p owned → Chain (bs ++ x ∷ []) fs p owned
chain_alloc bs x fs p owned h = chain_kept bs (bs ++ x ∷ []) fs p owned (λ b cells i e. ap live (get_before bs x b (below_length bs b cells e)) ∙ e) h

-- a block that is not the chain's is written or freed
pub chain_set : (bs : Blocks) (c : ℕ) (x : Option (List Value)) (fs : List Saved) (p : Value) (owned : List ℕ) → count c owned ≡ 0 → Chain bs fs p owned → Chain (slice_set bs c x) fs p owned
chain_set bs c x fs p owned a h = chain_kept bs (slice_set bs c x) fs p owned (λ b cells i e. ap live (get_other bs c b x (λ one. absurd (let g : count b owned ≡ 0 = ap (λ d. count d owned) (sym one) ∙ a in omega (arith, g, i)))) ∙ e) h

-- a block that is made next is none of a chain's
pub next_apart : (bs : Blocks) (fs : List Saved) (p : Value) (owned : List ℕ) → Chain bs fs p owned → count (length bs) owned ≡ 0
next_apart bs _ _ _ NoChain = refl
next_apart bs _ _ _ (AndChain f fs b next v owned e a h) =
    let i = count_beyond b (length bs) (below_length bs b _ e) in
    let j = next_apart bs fs next owned h in
    omega (arith, i, j)

-- a frame is put before a chain, in a new block
pub chain_push : (bs : Blocks) (f : Saved) (v : Value) (fs : List Saved) (p : Value) (owned : List ℕ) → Chain bs fs p owned
    → Top (bs ++ Some (frame_cells f p v) ∷ []) f fs (length bs) p v owned
chain_push bs f v fs p owned h = record {
  cells = ap live (get_last bs (Some (frame_cells f p v)));
  apart = next_apart bs fs p owned h;
  below = chain_alloc bs (Some (frame_cells f p v)) fs p owned h;
}

-- a chain with its first frame
pub chain_closed : (bs : Blocks) (f : Saved) (fs : List Saved) (b : ℕ) (next v : Value) (owned : List ℕ) → Top bs f fs b next v owned → Chain bs (f ∷ fs) (At Frame b 0) (b ∷ owned)
chain_closed bs f fs b next v owned t = AndChain f fs b next v owned t.cells t.apart t.below

-- the first frame of a chain
pub record Opened (bs : Blocks) (f : Saved) (fs : List Saved) (p : Value) (owned : List ℕ) : Type 0 where
  pub number : ℕ
  pub next : Value
  pub arriving : Value
  pub rest : List ℕ
  pub is_pointer : p ≡ At Frame number 0
  pub is_owned : owned ≡ number ∷ rest
  pub top : Top bs f fs number next arriving rest

pub chain_opened : (bs : Blocks) (f : Saved) (fs : List Saved) (p : Value) (owned : List ℕ) → Chain bs (f ∷ fs) p owned → Opened bs f fs p owned
chain_opened bs _ _ _ _ (AndChain f fs b next v owned e a h) = record {
  number = b;
  next = next;
  arriving = v;
  rest = owned;
  is_pointer = refl;
  is_owned = refl;
  top = record { cells = e; apart = a; below = h };
}

-- no frame is null
pub chain_ended : (bs : Blocks) (p : Value) (owned : List ℕ) → Chain bs [] p owned → (p ≡ Null) × (owned ≡ [])
chain_ended bs _ _ NoChain = (refl, refl)

-- the first frame is freed: the rest is the chain of the others
pub chain_taken : (bs : Blocks) (f : Saved) (fs : List Saved) (b : ℕ) (next v : Value) (owned : List ℕ) → Top bs f fs b next v owned → Chain (slice_set bs b None) fs next owned
chain_taken bs f fs b next v owned t = chain_set bs b None fs next owned t.apart t.below

-- the first frame is given the value that arrives
pub chain_patched : (bs : Blocks) (f : Saved) (fs : List Saved) (b : ℕ) (next v w : Value) (owned : List ℕ) → Top bs f fs b next v owned
    → Top (slice_set bs b (Some (frame_cells f next w))) f fs b next w owned
chain_patched bs f fs b next v w owned t = record {
  cells = ap live (get_set bs b (Some (frame_cells f next w)) (is_there bs b _ t.cells));
  apart = t.apart;
  below = chain_set bs b (Some (frame_cells f next w)) fs next owned t.apart t.below;
}

-- the first frame of a chain, where another block is written or freed
pub top_set : (bs : Blocks) (c : ℕ) (x : Option (List Value)) (f : Saved) (fs : List Saved) (b : ℕ) (next v : Value) (owned : List ℕ) → count c (b ∷ owned) ≡ 0
    → Top bs f fs b next v owned → Top (slice_set bs c x) f fs b next v owned
top_set bs c x f fs b next v owned a t = record {
  cells = ap live (get_other bs c b x (λ one. two_numbers c b (omega (arith, a)) (sym one))) ∙ t.cells;
  apart = t.apart;
  below = chain_set bs c x fs next owned (omega (arith, a)) t.below;
}

pub top_alloc : (bs : Blocks) (x : Option (List Value)) (f : Saved) (fs : List Saved) (b : ℕ) (next v : Value) (owned : List ℕ) → Top bs f fs b next v owned → Top (bs ++ x ∷ []) f fs b next v owned
top_alloc bs x f fs b next v owned t = record {
  cells = ap live (get_before bs x b (below_length bs b _ t.cells)) ∙ t.cells;
  apart = t.apart;
  below = chain_alloc bs x fs next owned t.below;
}
