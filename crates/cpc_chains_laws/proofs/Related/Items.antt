-- Items and the callbacks that stand for them, where frame blocks change; agendas of such items.
use Rattle.std.proofs.Common.{◌≡◌, ℕ, List, arith}
use Rattle.cpc_store.specs.Store.{Value, Blocks}
use Rattle.cpc_meaning.specs.Agenda.{Due, OnCondition, OnDescriptor, Timer, OnSection, Agenda}
use Rattle.cpc_meaning.specs.Threads.{Thread}
use Rattle.cpc_meaning.proofs.Both.{Both, Ends, Goes}
use Rattle.cpc_meaning.proofs.Agendas.{SameDue, SameAgenda}
use Rattle.cpc_forms.specs.Split.{Position}
use Rattle.cpc_chains_store_laws.specs.Chains.{Saved, Chain}
use Rattle.cpc_lifted_laws.specs.Related.Sums.{sum, total}
use Rattle.cpc_lifted_laws.specs.Related.Cut.{Cut, Tagged}
use Rattle.cpc_chains_laws.specs.Related.Items.{ItemFor, ForPending, ForSuspended}

-- ---- agendas whose items are related otherwise

module _ {X Y : Type 0} {R S : X → Y → Type 0} (w : Y → ℕ) (change : (x : X) (y : Y) → R x y → w y ≡ 0 → S x y) where
  both_weighed : (xs : List X) (ys : List Y) → sum w ys ≡ 0 → Both R xs ys → Both S xs ys
  both_weighed _ _ e Ends = Ends
  both_weighed _ _ e (Goes x y xs ys r rs) = Goes x y xs ys (change x y r (omega (arith, e))) (both_weighed xs ys (omega (arith, e)) rs)

-- where what is asked holds of items that weigh nothing, and all weigh nothing, it holds of all
pub agenda_changed : {T U : Type 0} {R S : T → U → Type 0} (w : U → ℕ) → ((x : T) (y : U) → R x y → w y ≡ 0 → S x y) → (a : Agenda T) (b : Agenda U) → total w b ≡ 0 → SameAgenda R a b → SameAgenda S a b
agenda_changed {T = T} {U = U} {R = R} {S = S} w change a b e g = record {
  ready = both_weighed (λ (d : Due U). w d.item) dues a.ready b.ready (omega (arith, e)) g.ready;
  round = both_weighed (λ (d : Due U). w d.item) dues a.round b.round (omega (arith, e)) g.round;
  waiters = both_weighed (λ (d : OnCondition U). w d.item) (λ x y r z. record { item = change x.item y.item r.item z; condition = r.condition }) a.waiters b.waiters (omega (arith, e)) g.waiters;
  descriptors = both_weighed (λ (d : OnDescriptor U). w d.item) (λ x y r z. record { item = change x.item y.item r.item z; descriptor = r.descriptor; direction = r.direction }) a.descriptors b.descriptors (omega (arith, e)) g.descriptors;
  timers = both_weighed (λ (d : Timer U). w d.item) (λ x y r z. record { item = change x.item y.item r.item z; deadline = r.deadline }) a.timers b.timers (omega (arith, e)) g.timers;
  sections = both_weighed (λ (d : OnSection U). w d.item) (λ x y r z. record { item = change x.item y.item r.item z; section = r.section }) a.sections b.sections (omega (arith, e)) g.sections;
  live = g.live;
  now = g.now;
  conditions_made = g.conditions_made;
  timers_made = g.timers_made;
  sections_made = g.sections_made;
}
  where
    dues : (x : Due T) (y : Due U) → SameDue R x y → w y.item ≡ 0 → SameDue S x y
    dues x y r z = record { item = change x.item y.item r.item z; result = r.result }

-- ---- items where blocks change

-- an item is kept where its blocks have the same cells
pub item_kept : (cut : Cut) (bs cs : Blocks) (x : Thread Position) (t : Tagged) → ((p : Value) (saved : List Saved) → Chain bs saved p t.owned → Chain cs saved p t.owned) → ItemFor cut bs x t → ItemFor cut cs x t
item_kept cut bs cs _ _ k (ForPending f vs p owned h) = ForPending f vs p owned (k p _ h)
item_kept cut bs cs _ _ k (ForSuspended frame below saved p owned r h) = ForSuspended frame below saved p owned r (k p saved h)
