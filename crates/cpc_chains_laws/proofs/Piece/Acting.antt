-- What is known where a piece stands before the row of a node: what the source does there, and the images of what occurs there.
use Rattle.std.proofs.Common.{◌≡◌, ℕ, true, List, Option, ◌∙◌, ap, subst}
use Rattle.cpc_base.specs.declared.stop.Dialect.TheVariants as D
use Rattle.cpc_tree.specs.Lists.{holds_number}
use Rattle.cpc_tree.specs.Points.{Found}
use Rattle.cpc_tree.specs.Syntax.{Ty, Expr, Function, Program}
use Rattle.cpc_store.specs.Store.{Value, Store}
use Rattle.cpc_meaning.specs.Act.{GoesOn, Stood, AtStatement, act, assign, assigns}
use Rattle.cpc_meaning.specs.Answer.{Answer, Gives, Faults, NoAnswer, ◌>>=◌}
use Rattle.cpc_meaning.specs.Eval.{Slot, Context, value}
use Rattle.cpc_meaning.specs.Plain.{context}
use Rattle.cpc_meaning.specs.Ways.{Manner}
use Rattle.cpc_check_laws.specs.Sound.Typed.{FoundTyped}
use Rattle.cpc_convert_image_laws.specs.Stacks.{frame_of}
use Rattle.cpc_forms.specs.Flow.{Place}
use Rattle.cpc_forms.specs.Split.{InGraph, split_form}
use Rattle.cpc_lift_laws.specs.Used.{used_at}
use Rattle.cpc_convert_flat_laws.specs.Locals.{at as Here_at}
use Rattle.cpc_chains_event.specs.Lines.{node_lines, stood_lines}
use Rattle.cpc_convert_routines.specs.Named.{IsOwner}
use Rattle.cpc_convert_routines.specs.Routines.{Routine, routine_of, closure_of, readings_of}
use Rattle.cpc_lifted_laws.specs.Accepted.Points.{FoundKnown}
use Rattle.cpc_chains_laws.proofs.Related.Relation.{Shared}
use Rattle.cpc_lifted_laws.specs.Piece.Known.{CpsKnown}
use Rattle.cpc_chains_laws.specs.Piece.Known.{ProgramKnown}
use Rattle.cpc_chains_laws.specs.Piece.Stood.{NodeAt, LocalsStand}
use Rattle.cpc_chains_laws.proofs.Piece.Environment.{scope_is}
use Rattle.cpc_chains_laws.proofs.Piece.Rowed.{OnlyGoes}
use Rattle.cpc_chains_laws.proofs.Piece.Uses.{stood_is, uses_kept}

-- what was written leads on, or nothing was
pub given_only : (u : Answer (List Slot × Store)) → OnlyGoes (u >>= λ r. Gives (GoesOn true r.1 r.0))
given_only (Gives r) a e = (r.1, r.0, (cc))
given_only (Faults fault) a e = absurd (cc)
given_only NoAnswer a e = absurd (cc)

-- an assignment goes on, or gives nothing
pub assigns_only : (c : Context) (x v : Expr) → OnlyGoes (assigns c x v)
assigns_only c x v = go (value c v)
  where
    go : (u : Answer Value) → OnlyGoes (u >>= λ w. assign c x w >>= λ r. Gives (GoesOn true r.1 r.0))
    go (Gives w) a e = given_only (assign c x w) a e
    go (Faults fault) a e = absurd (cc)
    go NoAnswer a e = absurd (cc)

module _ (p : Program) (facts : ProgramKnown p) (f : Function) (known : CpsKnown p f) (l : Place) (owner : IsOwner (routine_of p f) l) (n : ℕ) (at : NodeAt p f l n) (slots slots' : List Slot) (lower : Value) (stands : LocalsStand p (routine_of p f) l slots slots' lower) where
  abbrev r : Routine
  r = routine_of p f

  -- what stands there is typed
  pub found_typed : (s : Found) → at.node.stood ≡ AtStatement s → FoundTyped D.Cpc p f at.node.scope s
  found_typed s e =
      subst (λ sc. FoundTyped D.Cpc p f sc s) (scope_is p f known l owner n at slots slots' lower stands)
      (facts.positions.typed f.called f (InGraph l n) s known.found.named (stood_is p f known l owner n at slots slots' lower stands ∙ e))

  -- and known
  pub found_known : (s : Found) → at.node.stood ≡ AtStatement s → FoundKnown p at.node.scope s
  found_known s e =
      subst (λ sc. FoundKnown p sc s) (scope_is p f known l owner n at slots slots' lower stands)
      (facts.positions.known f.called f (InGraph l n) s known.found.named (stood_is p f known l owner n at slots slots' lower stands ∙ e))

  -- what occurs there is kept
  pub kept_here : (s : Stood) → at.node.stood ≡ s → (k : ℕ) → holds_number (used_at at.node.scope s) k ≡ true → holds_number (closure_of r l) k ≡ true
  kept_here s e k h = uses_kept p f known l owner n at slots slots' lower stands k (ap (λ x. holds_number (used_at at.node.scope x) k) e ∙ h)

  -- what the source does
  pub source_act : (w : Shared) (result : Ty) (o : Option Value) (s : Stood) → at.node.stood ≡ s
      → act (context (split_form p) w.store (frame_of f.called (InGraph l n) slots)) result o ((split_form p).code.stood f.called (InGraph l n)) ≡ act (Here_at p at.node.scope slots w.store) result o s
  source_act w result o s e =
      ap (λ sc. act (Here_at p sc slots w.store) result o ((split_form p).code.stood f.called (InGraph l n))) (scope_is p f known l owner n at slots slots' lower stands)
      ∙ ap (act (Here_at p at.node.scope slots w.store) result o) (stood_is p f known l owner n at slots slots' lower stands ∙ e)

  -- the lines of the node
  pub lines_are : (m : Manner) (s : Stood) → at.node.manner ≡ m → at.node.stood ≡ s → node_lines p r at.node ≡ stood_lines p r (readings_of r at.node.scope) m s at.node.yes at.node.no at.node.arrival
  lines_are m s e i =
      ap (λ m. stood_lines p r (readings_of r at.node.scope) m at.node.stood at.node.yes at.node.no at.node.arrival) e
      ∙ ap (λ s. stood_lines p r (readings_of r at.node.scope) m s at.node.yes at.node.no at.node.arrival) i
