-- A frame block is made: all that stood for the source still does; and the item with the new block becomes ready.
use Rattle.std.proofs.Common.{◌≡◌, ℕ, List, [], ◌∷◌, ◌++◌, length, Option, Some, refl, arith}
use Rattle.cpc_base.specs.Bytes.{Text}
use Rattle.cpc_store.specs.declared.values.Class.TheVariants.{Frame}
use Rattle.cpc_store.specs.Store.{Value, Null, Unset, At as Pointer, Blocks}
use Rattle.cpc_tree.specs.Points.{Point}
use Rattle.cpc_meaning.specs.Agenda.{Agenda, ready_one}
use Rattle.cpc_meaning.specs.Plain.{Frame as CallFrame, Stack}
use Rattle.cpc_meaning.specs.Threads.{Thread, Pending}
use Rattle.cpc_meaning.specs.Events.{Callback}
use Rattle.cpc_meaning.proofs.Both as B
use Rattle.cpc_meaning.proofs.Agendas.{readies_all}
use Rattle.cpc_forms.specs.Split.{Position}
use Rattle.cpc_convert_image_laws.specs.Stacks.{Native, NoMore, OneMore}
use Rattle.cpc_chains_store_laws.specs.Chains.{NoChain, frame_cells}
use Rattle.cpc_convert_flat_laws.specs.Blocks.{Owns, count}
use Rattle.cpc_convert_flat_laws.proofs.Blocks.{count_append}
use Rattle.cpc_chains_store_laws.proofs.Chains.{chain_alloc, chain_push, chain_closed}
use Rattle.cpc_convert_flat_laws.proofs.Owned.{owns_alloc, owns_order}
use Rattle.cpc_lifted_laws.specs.Related.Sums.{sum, total}
use Rattle.cpc_lifted_laws.specs.Related.Cut.{Cut, Tagged, IsUntagged, owned_in}
use Rattle.cpc_chains_laws.specs.Related.Items.{first_saved, driven, ItemFor, ForPending}
use Rattle.cpc_chains_laws.specs.Related.Running.{Places, SamePoint, InPiece, AtNode, Under, Bottom, PieceWaits, RunningFor, NothingRuns, NativeRuns, PieceRuns}
use Rattle.cpc_lifted_laws.proofs.Related.Sums.{total_ready}
use Rattle.cpc_lifted_laws.proofs.Related.Owned.{count_owned}
use Rattle.cpc_chains_laws.proofs.Related.Items.{agenda_changed, item_kept}
use Rattle.cpc_chains_laws.proofs.Related.Relation.{AgendaFor}

-- ---- agendas

sum_nothing : {X : Type 0} (xs : List X) → sum (λ (x : X). 0) xs ≡ 0
sum_nothing [] = refl
sum_nothing (x ∷ xs) = let h = sum_nothing xs in omega (arith, h)

total_nothing : {T : Type 0} (a : Agenda T) → total (λ (t : T). 0) a ≡ 0
total_nothing {T = T} a =
    let e1 = sum_nothing a.ready in
    let e2 = sum_nothing a.round in
    let e3 = sum_nothing a.waiters in
    let e4 = sum_nothing a.descriptors in
    let e5 = sum_nothing a.timers in
    let e6 = sum_nothing a.sections in
    omega (arith, e1, e2, e3, e4, e5, e6)

-- all items are kept where a block is made
pub agenda_alloc : (cut : Cut) (bs : Blocks) (x : Option (List Value)) (a : Agenda (Thread Position)) (tags : Agenda Tagged) (b : Agenda Callback) → AgendaFor cut bs a tags b → AgendaFor cut (bs ++ x ∷ []) a tags b
agenda_alloc cut bs x a tags b g = record {
  items = agenda_changed (λ (t : Tagged). 0) (λ i t r e. item_kept cut bs (bs ++ x ∷ []) i t (λ p saved h. chain_alloc bs x saved p t.owned h) r) a tags (total_nothing tags) g.items;
  untagged = g.untagged;
}

-- an item becomes ready
pub agenda_ready : (cut : Cut) (bs : Blocks) (i : Thread Position) (t : Tagged) (a : Agenda (Thread Position)) (tags : Agenda Tagged) (b : Agenda Callback) → ItemFor cut bs i t → AgendaFor cut bs a tags b → AgendaFor cut bs (ready_one i a) (ready_one t tags) (ready_one t.callback b)
agenda_ready cut bs i t a tags b r g = record {
  items = readies_all (ItemFor cut bs) (i ∷ []) (t ∷ []) a tags (B.Goes i t [] [] r B.Ends) g.items;
  untagged = readies_all IsUntagged (t ∷ []) (t.callback ∷ []) tags b (B.Goes t t.callback [] [] refl B.Ends) g.untagged;
}

-- and its new block is owned
pub owns_ready : (bs : Blocks) (values : List Value) (owned : List ℕ) (callback : Callback) (tags : Agenda Tagged) → Owns bs (owned ++ owned_in tags)
    → Owns (bs ++ Some values ∷ []) (owned ++ owned_in (ready_one (record { callback = callback; owned = length bs ∷ [] }) tags))
owns_ready bs values owned callback tags o =
    let t : Tagged = record { callback = callback; owned = length bs ∷ [] } in
    owns_order (bs ++ Some values ∷ []) (length bs ∷ (owned ++ owned_in tags)) (owned ++ owned_in (ready_one t tags))
    (λ n.
    let e1 = count_append n owned (owned_in tags) in
    let e2 = count_append n owned (owned_in (ready_one t tags)) in
    let e3 = count_owned n tags in
    let e4 = count_owned n (ready_one t tags) in
    let e5 = total_ready (λ (x : Tagged). count n x.owned) (t ∷ []) tags in
    omega (arith, e1, e2, e3, e4, e5))
    (owns_alloc bs values (owned ++ owned_in tags) o)

-- the call that a spawner makes ready: its first frame in a new block, over nothing
pub pending_put : (cut : Cut) (bs : Blocks) (f : Text) (vs : List Value) → ItemFor cut (bs ++ Some (frame_cells (first_saved cut f vs) Null Unset) ∷ []) (Pending f vs) (driven (Pointer Frame (length bs) 0) (length bs ∷ []))
pending_put cut bs f vs =
    ForPending f vs (Pointer Frame (length bs) 0) (length bs ∷ [])
    (chain_closed (bs ++ Some (frame_cells (first_saved cut f vs) Null Unset) ∷ []) (first_saved cut f vs) [] (length bs) Null Unset [] (chain_push bs (first_saved cut f vs) Unset [] Null [] NoChain))

-- ---- what runs

module _ (C : Text → Type 0) (cut : Cut) (There : Places) (bs : Blocks) (x : Option (List Value)) where
  piece_alloc : (xs : List (CallFrame Position)) (o : Option Value) (ys : List (CallFrame Point)) (o' : Option Value) (owned : List ℕ) → InPiece C cut There bs xs o ys o' owned → InPiece C cut There (bs ++ x ∷ []) xs o ys o' owned
  piece_alloc _ _ _ _ _ (AtNode f l n slots o lower piece o' stands below saved owned waits chain pointer result frame) =
      AtNode f l n slots o lower piece o' stands below saved owned waits (chain_alloc bs x saved lower owned chain) pointer result frame

  under_alloc : (owned : List ℕ) (xs : List (CallFrame Position)) (ys : List (CallFrame Point)) → Under C cut There bs owned xs ys → Under C cut There (bs ++ x ∷ []) owned xs ys
  under_alloc _ _ _ Bottom = Bottom
  under_alloc _ _ _ (PieceWaits xs ys owned r) = PieceWaits xs ys owned (λ v h. piece_alloc xs (Some v) ys (Some v) owned (r v h))

  pub stacks_alloc : (owned : List ℕ) (xs : List (CallFrame Position)) (ys : List (CallFrame Point)) → Native C (SamePoint cut) (Under C cut There bs owned) xs ys → Native C (SamePoint cut) (Under C cut There (bs ++ x ∷ []) owned) xs ys
  stacks_alloc owned _ _ (NoMore xs ys r) = NoMore xs ys (under_alloc owned xs ys r)
  stacks_alloc owned _ _ (OneMore f a b slots xs ys same held r) = OneMore f a b slots xs ys same held (stacks_alloc owned xs ys r)

  -- what runs does where a block is made
  pub running_alloc : (k : Option (Stack Position)) (j : Option (Stack Point)) (owned : List ℕ) → RunningFor C cut There bs k j owned → RunningFor C cut There (bs ++ x ∷ []) k j owned
  running_alloc _ _ _ NothingRuns = NothingRuns
  running_alloc _ _ _ (NativeRuns xs ys o owned r held) = NativeRuns xs ys o owned (stacks_alloc owned xs ys r) held
  running_alloc _ _ _ (PieceRuns xs o ys o' owned r) = PieceRuns xs o ys o' owned (piece_alloc xs o ys o' owned r)
