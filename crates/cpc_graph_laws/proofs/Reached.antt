-- What control comes to has an owner.
use Rattle.std.proofs.Common.{◌≡◌, Bool, true, false, refl, sym, ◌∙◌}
use Rattle.cpc_tree.specs.Syntax.{Function, Program}
use Rattle.cpc_tree.specs.Points.{Point, begin}
use Rattle.cpc_forms.specs.Order.{number_of}
use Rattle.cpc_forms.specs.Flow.{is_leader}
use Rattle.cpc_forms.specs.Control as C
use Rattle.cpc_graph_laws.specs.Laws.{flow_in, Reached, Begins, GoesOn, Resumes, ReachedIsOwned}
use Rattle.cpc_graph_laws.proofs.Controls.{leads}
use Rattle.cpc_graph_laws.proofs.Leaders.{leader_is, is_leading}

module _ (p : Program) (f : Function) where
  abbrev HasOwner : Point → Type 0
  HasOwner point = (l : C.Node) × C.Owns p f l point

  no_leader : (point : Point) → is_leader (flow_in p f) (number_of f.body point) ≡ false → ¬ (C.IsLeader p f point)
  no_leader point e l = let h : false ≡ true = sym e ∙ is_leading p f point l in absurd (cc)

  -- where control goes from the entry, or from what has an owner
  first_owner : (b : Point) → C.Goes p f C.Entry b → (x : Bool) → is_leader (flow_in p f) (number_of f.body b) ≡ x → HasOwner b
  first_owner b g true e = (C.At b, C.Itself b (leader_is p f b (leads p f C.Entry b g).1 e))
  first_owner b g false e = (C.Entry, C.FromEntry b g (no_leader b e))

  next_owner : (a b : Point) → HasOwner a → C.Goes p f (C.At a) b → (x : Bool) → is_leader (flow_in p f) (number_of f.body b) ≡ x → HasOwner b
  next_owner a b h g true e = (C.At b, C.Itself b (leader_is p f b (leads p f (C.At a) b g).1 e))
  next_owner a b h g false e = (h.0, C.Onwards h.0 a b h.1 g (no_leader b e))

  owner : (point : Point) → Reached p f point → HasOwner point
  owner _ Begins = first_owner (begin f.body) C.First (is_leader (flow_in p f) (number_of f.body (begin f.body))) refl
  owner _ (GoesOn a b r g) = next_owner a b (owner a r) g (is_leader (flow_in p f) (number_of f.body b)) refl
  owner _ (Resumes path r there cps) = (C.At _, C.Itself _ (C.AfterWait path there cps))

pub reached_is_owned : ReachedIsOwned
reached_is_owned p f point r = owner p f point r
