-- The owners that are computed are those of control.
use Rattle.std.proofs.Common.{◌≡◌, ℕ, suc, Bool, true, false, Some, refl, sym, ◌∙◌, ap, subst}
use Rattle.cpc_tree.specs.Syntax.{Function, Program}
use Rattle.cpc_tree.specs.Points.{Point}
use Rattle.cpc_forms.specs.Order.{is_in, number_of}
use Rattle.cpc_forms.specs.Flow.{Place, At, is_leader, is_owner, Owns, Itself, Onwards, owner_of}
use Rattle.cpc_forms.specs.Control as C
use Rattle.cpc_forms.proofs.Numbers.{same_point}
use Rattle.cpc_graph_laws.specs.Laws.{place_of, is_node, flow_in, OwnersAreOwners}
use Rattle.cpc_graph_laws.proofs.Owners.{owner_found, owner_owns}
use Rattle.cpc_graph_laws.proofs.Controls.{same_node, leads, Led, IsLed, led}
use Rattle.cpc_graph_laws.proofs.Leaders.{inside, leader_is, leader_in, is_leading}

module _ (p : Program) (f : Function) where
  no_leader : (point : Point) → is_in f.body point ≡ true → ¬ (C.IsLeader p f point) → (x : Bool) → is_leader (flow_in p f) (number_of f.body point) ≡ x → x ≡ false
  no_leader point i n true e = absurd (n (leader_is p f point i e))
  no_leader point i n false e = refl

  -- what an owner owns, so many steps on
  pub record Reaches (l : C.Node) (point : Point) : Type 0 where
    pub there : is_in f.body point ≡ true
    pub steps : ℕ
    pub owns : Owns (flow_in p f) (place_of f.body l) steps (At (number_of f.body point))

  onwards : (l a : C.Node) (b : Point) (d : ℕ) → Owns (flow_in p f) (place_of f.body l) d (place_of f.body a) → C.Goes p f a b → ¬ (C.IsLeader p f b) → Reaches l b
  onwards l a b d h g n =
      let u = leads p f a b g in
      record { there = u.1; steps = suc d; owns = Onwards d (place_of f.body a) (number_of f.body b) h u.2 (no_leader b u.1 n (is_leader (flow_in p f) (number_of f.body b)) refl) }

  pub reaches : (l : C.Node) (point : Point) → C.Owns p f l point → Reaches l point
  reaches _ _ (C.Itself l lead) = record { there = leader_in p f l lead; steps = 0; owns = Itself (is_leading p f l lead) }
  reaches _ _ (C.FromEntry to g n) = onwards C.Entry C.Entry to 0 (Itself refl) g n
  reaches _ _ (C.Onwards owner a b h g n) = let r = reaches owner a h in onwards owner (C.At a) b r.steps r.owns g n

  -- ---- and back

  -- a node is owned; the entry owns itself
  abbrev OwnedBy : C.Node → C.Node → Type 0
  OwnedBy l C.Entry = l ≡ C.Entry
  OwnedBy l (C.At point) = C.Owns p f l point

  itself : (u : C.Node) → is_node f.body u ≡ true → is_owner (flow_in p f) (place_of f.body u) ≡ true → OwnedBy u u
  itself C.Entry i e = refl
  itself (C.At point) i e = C.Itself point (leader_is p f point i e)

  further : (l u : C.Node) (point : Point) → OwnedBy l u → C.Goes p f u point → ¬ (C.IsLeader p f point) → C.Owns p f l point
  further l C.Entry point h g n = subst (λ k. C.Owns p f k point) (sym h) (C.FromEntry point g n)
  further l (C.At a) point h g n = C.Onwards l a point h g n

  led_on : (l u : C.Node) (a : Place) (n : ℕ) → ((v : C.Node) → is_node f.body v ≡ true → place_of f.body v ≡ a → OwnedBy l v) → is_leader (flow_in p f) n ≡ false
      → is_node f.body u ≡ true → place_of f.body u ≡ At n → Led p f a n → OwnedBy l u
  led_on l C.Entry a n ih e i x (IsLed from to fi ti fx tn g) = absurd (cc)
  led_on l (C.At point) a n ih e i x (IsLed from to fi ti fx tn g) =
      let m : number_of f.body point ≡ n = cc in
      let same : to ≡ point = same_point f.body to point ti i (tn ∙ sym m) in
      further l from point (ih from fi fx) (subst (C.Goes p f from) same g)
      (λ lead. let h : is_leader (flow_in p f) n ≡ true = subst (λ k. is_leader (flow_in p f) k ≡ true) m (is_leading p f point lead) in let z : false ≡ true = sym e ∙ h in absurd (cc))

  owned : (k : Place) (d : ℕ) (x : Place) → Owns (flow_in p f) k d x → (l u : C.Node) → is_node f.body l ≡ true → is_node f.body u ≡ true → place_of f.body l ≡ k → place_of f.body u ≡ x → OwnedBy l u
  owned k _ _ (Itself own) l u i j el eu =
      let same : u ≡ l = same_node f u l j i (eu ∙ sym el) in
      subst (OwnedBy l) (sym same) (itself l i (ap (is_owner (flow_in p f)) el ∙ own))
  owned k _ _ (Onwards d a n h g e) l u i j el eu =
      led_on l u a n (λ v vi va. owned k d a h l v i vi el va) e j eu (led p f a n g)

  pub owner_is : (l : C.Node) (point : Point) → is_node f.body l ≡ true → is_in f.body point ≡ true → owner_of (flow_in p f) (number_of f.body point) ≡ Some (place_of f.body l) → C.Owns p f l point
  owner_is l point i j e =
      let h = owner_owns (flow_in p f) (place_of f.body l) (number_of f.body point) e in
      owned (place_of f.body l) h.0 (At (number_of f.body point)) h.1 l (C.At point) i j refl refl

  pub is_owned : (l : C.Node) (point : Point) → C.Owns p f l point → owner_of (flow_in p f) (number_of f.body point) ≡ Some (place_of f.body l)
  is_owned l point h = let r = reaches l point h in owner_found (flow_in p f) (inside p f) (place_of f.body l) r.steps (number_of f.body point) r.owns

pub owners_are_owners : OwnersAreOwners
owners_are_owners p f l point i j = (owner_is p f l point i j, is_owned p f l point)
