-- The names that occur at a node are of variables that its owner keeps, or of items that stay.
use Rattle.std.proofs.Common.{◌≡◌, ℕ, true, List, ◌++◌, Option, Some, None, sym, ◌∙◌, ap}
use Rattle.cpc_base.specs.Bytes.{Text}
use Rattle.cpc_tree.specs.Lists.{holds_number}
use Rattle.cpc_tree.specs.Points.{Nothing}
use Rattle.cpc_tree.specs.Registers.{slot_of}
use Rattle.cpc_tree.specs.Syntax.{Expr, ENamed, EInteger, ECharacter, EText, EUnary, EBinary, EAnd, EOr, EChoose, ECast, ESizeOf, EIndex, EMember, EArrow, ECall, Exprs, NoExpr, AndExpr, Function, Program}
use Rattle.cpc_tree.specs.Typing.{Scope}
use Rattle.cpc_store.specs.Store.{Value}
use Rattle.cpc_meaning.specs.Eval.{Slot}
use Rattle.cpc_meaning.specs.Act.{AtStatement}
use Rattle.cpc_meaning.specs.Ways.{ways}
use Rattle.cpc_forms.specs.Flow.{Place}
use Rattle.cpc_forms.specs.Graph.{at_node}
use Rattle.cpc_forms.specs.Split.{InGraph, split_form, position_stood}
use Rattle.cpc_graph_laws.proofs.Formed.{in_left, in_right}
use Rattle.cpc_lift_laws.specs.Used.{used_in, used_among, used_if, used_at}
use Rattle.cpc_lift_laws.proofs.Kept.{number_of}
use Rattle.cpc_meaning.specs.Names.{AllNames, AllNamesIf, AllNamesAmong}
use Rattle.cpc_convert_routines.specs.Named.{IsOwner}
use Rattle.cpc_convert_routines.specs.Routines.{routine_of, closure_of}
use Rattle.cpc_lifted_laws.specs.Accepted.Points.{UsedName}
use Rattle.cpc_lifted_laws.proofs.Accepted.Lifted.{programs_are_closed}
use Rattle.cpc_lifted_laws.specs.Piece.Known.{CpsKnown}
use Rattle.cpc_chains_laws.specs.Piece.Stood.{NodeAt, LocalsStand}
use Rattle.cpc_chains_laws.proofs.Piece.Environment.{Used, scope_is}
use Rattle.cpc_chains_laws.proofs.Piece.Ways.{is_split, kept_is, stands_there}

-- names of one family that occur among variables that are kept are of another
module _ (L M : Text → Type 0) (scope : Scope) (K : ℕ → Type 0) (more : (x : Text) → L x → ((k : ℕ) → holds_number (slot_of scope x) k ≡ true → K k) → M x) where
  abbrev pub AllKept : List ℕ → Type 0
  AllKept ks = (k : ℕ) → holds_number ks k ≡ true → K k

  first_kept : (xs ys : List ℕ) → AllKept (xs ++ ys) → AllKept xs
  first_kept xs ys h k i = h k (in_left k xs ys i)

  second_kept : (xs ys : List ℕ) → AllKept (xs ++ ys) → AllKept ys
  second_kept xs ys h k i = h k (in_right k xs ys i)

  pub names_kept : (e : Expr) → AllNames L e → AllKept (used_in scope e) → AllNames M e
  names_kept (ENamed x) l h = more x l h
  names_kept (EInteger kind z) l h = tt
  names_kept (ECharacter z) l h = tt
  names_kept (EText bytes) l h = tt
  names_kept (EUnary sign e) l h = names_kept e l h
  names_kept (EBinary op a b) l h = (names_kept a l.0 (first_kept (used_in scope a) (used_in scope b) h), names_kept b l.1 (second_kept (used_in scope a) (used_in scope b) h))
  names_kept (EAnd a b) l h = (names_kept a l.0 (first_kept (used_in scope a) (used_in scope b) h), names_kept b l.1 (second_kept (used_in scope a) (used_in scope b) h))
  names_kept (EOr a b) l h = (names_kept a l.0 (first_kept (used_in scope a) (used_in scope b) h), names_kept b l.1 (second_kept (used_in scope a) (used_in scope b) h))
  names_kept (EChoose t a b) l h =
      let rest = second_kept (used_in scope t) (used_in scope a ++ used_in scope b) h in
      (names_kept t l.0 (first_kept (used_in scope t) (used_in scope a ++ used_in scope b) h), names_kept a l.1 (first_kept (used_in scope a) (used_in scope b) rest), names_kept b l.2 (second_kept (used_in scope a) (used_in scope b) rest))
  names_kept (ECast t e) l h = names_kept e l h
  names_kept (ESizeOf t) l h = tt
  names_kept (EIndex a i) l h = (names_kept a l.0 (first_kept (used_in scope a) (used_in scope i) h), names_kept i l.1 (second_kept (used_in scope a) (used_in scope i) h))
  names_kept (EMember e x) l h = names_kept e l h
  names_kept (EArrow e x) l h = names_kept e l h
  names_kept (ECall f es) l h = tt

  pub names_kept_if : (o : Option Expr) → AllNamesIf L o → AllKept (used_if scope o) → AllNamesIf M o
  names_kept_if None l h = tt
  names_kept_if (Some e) l h = names_kept e l h

  pub names_kept_among : (es : Exprs) → AllNamesAmong L es → AllKept (used_among scope es) → AllNamesAmong M es
  names_kept_among NoExpr l h = tt
  names_kept_among (AndExpr e es) l h = (names_kept e l.0 (first_kept (used_in scope e) (used_among scope es) h), names_kept_among es l.1 (second_kept (used_in scope e) (used_among scope es) h))

module _ (p : Program) (f : Function) (known : CpsKnown p f) (l : Place) (owner : IsOwner (routine_of p f) l) (n : ℕ) (at : NodeAt p f l n) (slots slots' : List Slot) (lower : Value) (stands : LocalsStand p (routine_of p f) l slots slots' lower) where
  -- a variable that the owner keeps
  abbrev pub IsKept : ℕ → Type 0
  IsKept k = holds_number (closure_of (routine_of p f) l) k ≡ true

  pub use_kept : (x : Text) → UsedName p at.node.scope x → ((k : ℕ) → holds_number (slot_of at.node.scope x) k ≡ true → IsKept k) → Used p f known l owner n at slots slots' lower stands x
  use_kept x u h = record { used = u; kept = λ k t e. h k (number_of p at.node.scope x k t e) }

  pub stood_is : (split_form p).code.stood f.called (InGraph l n) ≡ at.node.stood
  stood_is = ap (λ o. position_stood ((ways p).code.stood f.called) o (InGraph l n)) (is_split p f known) ∙ ap (at_node (AtStatement Nothing) (λ k. k.stood)) at.is_node

  -- what occurs at the node is kept
  pub uses_kept : (k : ℕ) → holds_number (used_at at.node.scope at.node.stood) k ≡ true → IsKept k
  uses_kept k h =
      sym (kept_is p f known l at.keeps n k)
      ∙ ((programs_are_closed p).inside f.called).used (InGraph l n) k (stands_there p f known l n at)
      (ap (λ s. holds_number (used_at s ((split_form p).code.stood f.called (InGraph l n))) k) (scope_is p f known l owner n at slots slots' lower stands) ∙ (ap (λ s. holds_number (used_at at.node.scope s) k) stood_is ∙ h))
