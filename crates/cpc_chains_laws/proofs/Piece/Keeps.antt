-- What a frame keeps where a leader begins is kept there, and pieces stand for frames by what these keep.
use Rattle.std.proofs.Common.{◌≡◌, ℕ, Bool, true, false, not, cond, List, is_some, Option, Some, None, option_map, refl, ◌∙◌, ap, subst}
use Rattle.cpc_base.specs.Bytes.{Text}
use Rattle.cpc_tree.specs.Lists.{holds_number}
use Rattle.cpc_tree.specs.Syntax.{Function, Program}
use Rattle.cpc_tree.specs.Typing.{function_named}
use Rattle.cpc_store.specs.Store.{Value}
use Rattle.cpc_meaning.specs.Plain.{Frame}
use Rattle.cpc_meaning.specs.Threads.{is_cps_mode}
use Rattle.cpc_forms.specs.Flow.{At}
use Rattle.cpc_forms.specs.Graph.{graph_if, graph_where}
use Rattle.cpc_forms.specs.Split.{Position, InGraph, split_of, split_form}
use Rattle.cpc_lift_laws.specs.Lift.{closure_in}
use Rattle.cpc_convert_routines.specs.ClosureLaws.{lifting}
use Rattle.cpc_convert_routines.specs.Named.{IsNamed}
use Rattle.cpc_convert_routines.specs.Routines.{routine_of, closure_of, owner_number}
use Rattle.cpc_lifted_laws.specs.Accepted.Lifted.{kept_of}
use Rattle.cpc_lifted_laws.specs.Accepted.Names.{HasNames}
use Rattle.cpc_lifted_laws.specs.Related.Bounds.{Bounds}
use Rattle.cpc_chains_laws.proofs.Related.Setting.{KeepsFacts}
use Rattle.cpc_lifted_laws.specs.Native.Instance.{keeps_in}
use Rattle.cpc_chains_laws.proofs.Piece.Onwards.{z}
use Rattle.cpc_chains_laws.proofs.Piece.Tidied.{closure_kept, stood_tidied}

module _ (p : Program) (names : HasNames p) (ok : IsNamed p) where
  -- what is not cut is kept whole
  whole_kept : (x : Text) (g : Function) → function_named p x ≡ Some g → is_cps_mode g.mode ≡ false → (n k : ℕ) → kept_of p x (InGraph (At n) n) k ≡ true
  whole_kept x g e mode n k =
      ap (λ o. cond (not (is_some o)) true (holds_number (closure_in (split_form p) (lifting p) x (owner_number (At n))) k)) (ap (option_map split_of) (ap (graph_where p) e ∙ ap (λ b. graph_if b p g) mode))

  leader_keeps : (x : Text) (n k : ℕ) → holds_number (keeps_in p (function_named p x) (At n)) k ≡ true → kept_of p x (InGraph (At n) n) k ≡ true
  leader_keeps x n k h = by (function_named p x) refl h
    where
      found : (g : Function) → function_named p x ≡ Some g → holds_number (closure_of (routine_of p g) (At n)) k ≡ true → (b : Bool) → is_cps_mode g.mode ≡ b → kept_of p x (InGraph (At n) n) k ≡ true
      found g e held true mode = let there = names.there x g e in subst (λ y. kept_of p y (InGraph (At n) n) k ≡ true) there.1 (closure_kept p ok g (record { has = there.0; mode = mode }) (At n) refl n k held)
      found g e held false mode = whole_kept x g e mode n k

      by : (o : Option Function) → function_named p x ≡ o → holds_number (keeps_in p o (At n)) k ≡ true → kept_of p x (InGraph (At n) n) k ≡ true
      by None e held = absurd (cc)
      by (Some g) e held = found g e held (is_cps_mode g.mode) refl

  pub keeps_facts : (bounds : Bounds) (fine : Frame Position → Option Value → Type 0) (given : Text → List Value → Type 0) → KeepsFacts (z p fine given bounds)
  keeps_facts bounds fine given = record { keeps = leader_keeps; tidied = stood_tidied p ok }
