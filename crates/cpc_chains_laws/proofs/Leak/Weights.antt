-- Agendas whose items correspond, weighed; and the chains of all items.
use Rattle.std.proofs.Common.{◌≡◌, ℕ, ◌≤◌, List, [], ◌∷◌, ◌++◌, Option, Some, None, refl, arith, ◌+◌}
use Rattle.std.specs.List.{sum_by}
use Rattle.cpc_base.specs.Bytes.{Text}
use Rattle.cpc_store.specs.Store.{Value, Blocks}
use Rattle.cpc_meaning.specs.Agenda.{Due, OnCondition, OnDescriptor, Timer, OnSection, Agenda}
use Rattle.cpc_meaning.specs.Plain.{Frame}
use Rattle.cpc_meaning.specs.Threads.{Thread, Pending, Suspended}
use Rattle.cpc_meaning.proofs.Both.{Both, Ends, Goes}
use Rattle.cpc_meaning.proofs.Agendas.{SameAgenda}
use Rattle.cpc_forms.specs.Split.{Position}
use Rattle.cpc_chains_store_laws.specs.Chains.{Saved, frame_cells}
use Rattle.cpc_convert_flat_laws.specs.Blocks.{block, Owns}
use Rattle.cpc_lifted_laws.specs.Related.Cut.{Cut, Tagged, owned_in}
use Rattle.cpc_chains_laws.specs.Related.Items.{FramesWait, first_saved, ItemFor, ForPending, ForSuspended}
use Rattle.cpc_lifted_laws.specs.Related.Sums.{sum, total, joined, all_joined}
use Rattle.cpc_lifted_laws.proofs.Related.Sums.{sum_append}
use Rattle.cpc_chains_laws.proofs.Leak.Blocks.{owned_weigh, chain_weighs}

-- ---- items that correspond

module _ {X Y : Type 0} {R : X → Y → Type 0} (w : X → ℕ) (v : Y → ℕ) (le : (x : X) (y : Y) → R x y → v y ≤ w x) where
  pub both_weigh : (xs : List X) (ys : List Y) → Both R xs ys → sum v ys ≤ sum w xs
  both_weigh _ _ Ends = omega arith
  both_weigh _ _ (Goes x y xs ys r rs) = let h = both_weigh xs ys rs in let i = le x y r in omega (arith, h, i)

-- where each item weighs no more than the one to which it corresponds, all together weigh no more
pub agendas_weigh : {T U : Type 0} {R : T → U → Type 0} (w : T → ℕ) (v : U → ℕ) → ((x : T) (y : U) → R x y → v y ≤ w x) → (a : Agenda T) (b : Agenda U) → SameAgenda R a b → total v b ≤ total w a
agendas_weigh {T = T} {U = U} w v le a b g =
    let ready = both_weigh (λ (d : Due T). w d.item) (λ (d : Due U). v d.item) (λ x y r. le x.item y.item r.item) a.ready b.ready g.ready in
    let round = both_weigh (λ (d : Due T). w d.item) (λ (d : Due U). v d.item) (λ x y r. le x.item y.item r.item) a.round b.round g.round in
    let waiters = both_weigh (λ (d : OnCondition T). w d.item) (λ (d : OnCondition U). v d.item) (λ x y r. le x.item y.item r.item) a.waiters b.waiters g.waiters in
    let descriptors = both_weigh (λ (d : OnDescriptor T). w d.item) (λ (d : OnDescriptor U). v d.item) (λ x y r. le x.item y.item r.item) a.descriptors b.descriptors g.descriptors in
    let timers = both_weigh (λ (d : Timer T). w d.item) (λ (d : Timer U). v d.item) (λ x y r. le x.item y.item r.item) a.timers b.timers g.timers in
    let sections = both_weigh (λ (d : OnSection T). w d.item) (λ (d : OnSection U). v d.item) (λ x y r. le x.item y.item r.item) a.sections b.sections g.sections in
    omega (arith, ready, round, waiters, descriptors, timers, sections)

-- ---- the lists of all items

sum_joined : {X : Type 0} (h : ℕ → ℕ) (f : X → List ℕ) (xs : List X) → sum h (joined f xs) ≡ sum (λ (x : X). sum h (f x)) xs
sum_joined h f [] = refl
sum_joined h f (x ∷ xs) = let i = sum_joined h f xs in let j = sum_append h (f x) (joined f xs) in omega (arith, i, j)

sum_all : {T : Type 0} (h : ℕ → ℕ) (f : T → List ℕ) (a : Agenda T) → sum h (all_joined f a) ≡ total (λ (t : T). sum h (f t)) a
sum_all {T = T} h f a =
    let r = joined (λ (d : Due T). f d.item) a.ready in
    let u = joined (λ (d : Due T). f d.item) a.round in
    let w = joined (λ (o : OnCondition T). f o.item) a.waiters in
    let d = joined (λ (o : OnDescriptor T). f o.item) a.descriptors in
    let t = joined (λ (t : Timer T). f t.item) a.timers in
    let s = joined (λ (o : OnSection T). f o.item) a.sections in
    let e1 = sum_append h r (u ++ (w ++ (d ++ (t ++ s)))) in
    let e2 = sum_append h u (w ++ (d ++ (t ++ s))) in
    let e3 = sum_append h w (d ++ (t ++ s)) in
    let e4 = sum_append h d (t ++ s) in
    let e5 = sum_append h t s in
    let f1 = sum_joined h (λ (d : Due T). f d.item) a.ready in
    let f2 = sum_joined h (λ (d : Due T). f d.item) a.round in
    let f3 = sum_joined h (λ (o : OnCondition T). f o.item) a.waiters in
    let f4 = sum_joined h (λ (o : OnDescriptor T). f o.item) a.descriptors in
    let f5 = sum_joined h (λ (t : Timer T). f t.item) a.timers in
    let f6 = sum_joined h (λ (o : OnSection T). f o.item) a.sections in
    omega (arith, e1, e2, e3, e4, e5, f1, f2, f3, f4, f5, f6)

-- ---- chains

-- how blocks weigh, what is saved, and threads: no block weighs more than what is saved in it, and no chain more than its thread
module _ (cut : Cut) (f : Option (List Value) → ℕ) (none : f None ≡ 0) (g : Saved → ℕ) (fits : (s : Saved) (next v : Value) → f (Some (frame_cells s next v)) ≤ g s)
    (w : Thread Position → ℕ) (pending : (x : Text) (vs : List Value) → g (first_saved cut x vs) ≤ w (Pending x vs))
    (waits : (frames : List (Frame Position)) (saved : List Saved) → FramesWait cut frames saved → sum g saved ≤ w (Suspended (record { frames = frames; arriving = None }))) where
  item_weighs : (bs : Blocks) (x : Thread Position) (t : Tagged) → ItemFor cut bs x t → sum (λ b. f (block bs b)) t.owned ≤ w x
  item_weighs bs _ _ (ForPending x vs p owned chain) = let h = chain_weighs f g fits bs _ p owned chain in let i = pending x vs in omega (arith, h, i)
  item_weighs bs _ _ (ForSuspended frame below saved p owned wait chain) = let h = chain_weighs f g fits bs saved p owned chain in let i = waits (frame ∷ below) saved wait in omega (arith, h, i)

  -- all live frame blocks weigh no more than the threads that wait and what is owned besides
  pub blocks_weigh : (bs : Blocks) (owned : List ℕ) (k : ℕ) (a : Agenda (Thread Position)) (tags : Agenda Tagged) → SameAgenda (ItemFor cut bs) a tags → Owns bs (owned ++ owned_in tags) → sum (λ b. f (block bs b)) owned ≤ k → sum_by f bs ≤ k + total w a
  blocks_weigh bs owned k a tags alike owns le =
      let h = owned_weigh f none bs (owned ++ owned_in tags) owns in
      let e = sum_append (λ b. f (block bs b)) owned (owned_in tags) in
      let i = sum_all (λ b. f (block bs b)) (λ (t : Tagged). t.owned) tags in
      let j = agendas_weigh w (λ (t : Tagged). sum (λ b. f (block bs b)) t.owned) (item_weighs bs) a tags alike in
      omega (arith, h, e, i, j, le)
