-- Frames at which no value has arrived: where blocks are made, freed and written; and blocks that were made and freed.
use Rattle.std.proofs.Common.{◌≡◌, ℕ, zero, suc, ◌+◌, List, [], ◌∷◌, ◌++◌, slice_get, slice_set, Option, Some, None, refl, sym, ◌∙◌, ap, arith}
use Rattle.std.proofs.lemmas.List.Sums.{sum_by_push}
use Rattle.cpc_store.specs.Store.{Value, Unset, Blocks, block_cells, cells_in}
use Rattle.cpc_meaning.specs.Agenda.{Agenda}
use Rattle.cpc_meaning.specs.Threads.{Thread}
use Rattle.cpc_meaning.specs.Events.{Callback}
use Rattle.cpc_forms.specs.Split.{Position}
use Rattle.cpc_chains_store_laws.specs.Chains.{Saved, Chain, Top, frame_cells}
use Rattle.cpc_convert_flat_laws.specs.Blocks.{Owns, block, lives}
use Rattle.cpc_chains_store_laws.proofs.Chains.{chain_alloc}
use Rattle.cpc_chains_laws.specs.Related.Fresh.{IsFresh, AllFresh, beyond}
use Rattle.cpc_lifted_laws.specs.Related.Cut.{Cut, Tagged}
use Rattle.cpc_chains_laws.proofs.Related.Relation.{AgendaFor}
use Rattle.cpc_chains_laws.proofs.Related.Putting.{agenda_alloc}

-- a block is made
pub fresh_more : (bs : Blocks) (x : Option (List Value)) → IsFresh x → AllFresh bs → AllFresh (bs ++ x ∷ [])
fresh_more [] x h _ = (h, tt)
fresh_more (y ∷ bs) x h r = (r.0, fresh_more bs x h r.1)

-- a block is freed
pub fresh_freed : (bs : Blocks) (b : ℕ) → AllFresh bs → AllFresh (slice_set bs b None)
fresh_freed [] b r = tt
fresh_freed (y ∷ bs) zero r = (tt, r.1)
fresh_freed (y ∷ bs) (suc b) r = (r.0, fresh_freed bs b r.1)

-- a block is written and freed
pub fresh_taken : (bs : Blocks) (b : ℕ) (x : Option (List Value)) → AllFresh bs → AllFresh (slice_set (slice_set bs b x) b None)
fresh_taken [] b x r = tt
fresh_taken (y ∷ bs) zero x r = (tt, r.1)
fresh_taken (y ∷ bs) (suc b) x r = (r.0, fresh_taken bs b x r.1)

-- no value has arrived at a live block
fresh_there : (bs : Blocks) (b : ℕ) (cells : List Value) → block bs b ≡ Some cells → AllFresh bs → slice_get cells 2 ≡ Some Unset
fresh_there [] b cells e r = absurd (cc)
fresh_there (None ∷ bs) zero cells e r = absurd (cc)
fresh_there (Some given ∷ bs) zero cells e r = let same : given ≡ cells = cc in sym (ap (λ (vs : List Value). slice_get vs 2) same) ∙ r.0
fresh_there (y ∷ bs) (suc b) cells e r = fresh_there bs b cells e r.1

-- so the first frame of a chain has an unset value
pub fresh_top : (bs : Blocks) (f : Saved) (fs : List Saved) (b : ℕ) (next v : Value) (owned : List ℕ) → Top bs f fs b next v owned → AllFresh bs → v ≡ Unset
fresh_top bs f fs b next v owned top r = let e : Some v ≡ Some Unset = fresh_there bs b (frame_cells f next v) top.cells r in cc

-- a block that is written as it was
pub set_same : (bs : Blocks) (b : ℕ) (cells : List Value) → block bs b ≡ Some cells → slice_set bs b (Some cells) ≡ bs
set_same [] b cells e = refl
set_same (None ∷ bs) zero cells e = absurd (cc)
set_same (Some given ∷ bs) zero cells e = let same : given ≡ cells = cc in sym (ap (λ (vs : List Value). Some vs ∷ bs) same)
set_same (y ∷ bs) (suc b) cells e = ap (λ (cs : Blocks). y ∷ cs) (set_same bs b cells e)

-- ---- blocks that were made and freed

lives_none : (bs : Blocks) (b : ℕ) → lives (bs ++ None ∷ []) b ≡ lives bs b
lives_none [] zero = refl
lives_none [] (suc b) = refl
lives_none (x ∷ bs) zero = refl
lives_none (x ∷ bs) (suc b) = lives_none bs b

pub owns_beyond : (n : ℕ) (bs : Blocks) (owned : List ℕ) → Owns bs owned → Owns (beyond n bs) owned
owns_beyond zero bs owned o = o
owns_beyond (suc n) bs owned o = owns_beyond n (bs ++ None ∷ []) owned (record { each = λ b. o.each b ∙ sym (lives_none bs b) })

pub fresh_beyond : (n : ℕ) (bs : Blocks) → AllFresh bs → AllFresh (beyond n bs)
fresh_beyond zero bs r = r
fresh_beyond (suc n) bs r = fresh_beyond n (bs ++ None ∷ []) (fresh_more bs None tt r)

pub chain_beyond : (n : ℕ) (bs : Blocks) (fs : List Saved) (p : Value) (owned : List ℕ) → Chain bs fs p owned → Chain (beyond n bs) fs p owned
chain_beyond zero bs fs p owned h = h
chain_beyond (suc n) bs fs p owned h = chain_beyond n (bs ++ None ∷ []) fs p owned (chain_alloc bs None fs p owned h)

pub agenda_beyond : (n : ℕ) (cut : Cut) (bs : Blocks) (a : Agenda (Thread Position)) (tags : Agenda Tagged) (b : Agenda Callback) → AgendaFor cut bs a tags b → AgendaFor cut (beyond n bs) a tags b
agenda_beyond zero cut bs a tags b g = g
agenda_beyond (suc n) cut bs a tags b g = agenda_beyond n cut (bs ++ None ∷ []) a tags b (agenda_alloc cut bs None a tags b g)

-- blocks that were made and freed have no cells
pub beyond_cells : (n : ℕ) (bs : Blocks) → cells_in (beyond n bs) ≡ cells_in bs
beyond_cells zero bs = refl
beyond_cells (suc n) bs =
    let a : cells_in (bs ++ None ∷ []) ≡ cells_in bs + 0 = sum_by_push block_cells bs None in
    let h = beyond_cells n (bs ++ None ∷ []) in
    omega (arith, a, h)
