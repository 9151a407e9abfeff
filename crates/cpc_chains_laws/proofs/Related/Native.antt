-- The row of native code: each step of the source is a step of the target, with what it asks for and the answer.
use Rattle.std.proofs.Common.{◌≡◌, ℕ, true, List, [], ◌∷◌, ◌++◌, Option, Some, None, option_map, refl, sym, subst}
use Rattle.std.specs.List.{All}
use Rattle.cpc_base.specs.Bytes.{Text}
use Rattle.cpc_store.specs.Store.{Value, Unset, Blocks, Store}
use Rattle.cpc_tree.specs.Points.{Point}
use Rattle.cpc_tree.specs.Typing.{function_named}
use Rattle.cpc_meaning.specs.Answer.{Answer, Gives, ◌>>=◌, needed}
use Rattle.cpc_meaning.specs.Agenda.{Agenda}
use Rattle.cpc_meaning.specs.Eval.{Slot}
use Rattle.cpc_meaning.specs.Act.{Act, GoesOn, Enters, Leaves, AsksFor, act}
use Rattle.cpc_meaning.specs.Machine.{next, runs_on}
use Rattle.cpc_meaning.specs.Plain.{Form, Frame as CallFrame, Stack, Done, Returned, make_frame, returned_to, perform, context, frames_step}
use Rattle.cpc_meaning.specs.Threads.{Thread, threads_of}
use Rattle.cpc_meaning.specs.Events.{Callback, callbacks}
use Rattle.cpc_meaning.proofs.Functions.{gives_then}
use Rattle.cpc_forms.specs.Split.{Position, InTree}
use Rattle.cpc_lift_laws.specs.Lifted.{tidy}
use Rattle.cpc_convert_image_laws.specs.Held.{IsHeldSlot, IsHeldStore, beside}
use Rattle.cpc_convert_image_laws.specs.Native.{IsHeldIf}
use Rattle.cpc_convert_image_laws.specs.Relations.{Meets, BothGive, BothFault, Stuck}
use Rattle.cpc_convert_image_laws.specs.Stacks.{frame_of, Native, NoMore, OneMore, DoneAlike, BothWent, BothReturned, BothAsked}
use Rattle.cpc_convert_image_laws.proofs.Stacks.{native_step}
use Rattle.cpc_lifted_laws.specs.Related.Cut.{Cut, Tagged, owned_in}
use Rattle.cpc_convert_flat_laws.specs.Blocks.{Owns}
use Rattle.cpc_chains_laws.specs.Related.Running.{Places, SamePoint, InPiece, AtNode, Under, Bottom, PieceWaits, NothingRuns, NativeRuns}
use Rattle.cpc_chains_laws.proofs.Related.Relation.{Source, Target, Shared, source_state, target_state, Related, Goes}
use Rattle.cpc_chains_laws.proofs.Related.Setting.{Setting, from_form, to_form, NativeFacts, KeepsFacts, NativeAt}
use Rattle.cpc_chains_laws.proofs.Related.Rows.{RowFor, settled_alike, one_step}
use Rattle.cpc_chains_laws.proofs.Related.Answering.{under_ends, asked_alike}
use Rattle.cpc_chains_laws.proofs.Related.Asking.{Agendas}

-- where the source gives something, of which that is known
pub meets_known : {A B D E : Type 0} (R : A → B → Type 0) (S : D → E → Type 0) (a : Answer A) (b : Answer B) (f : A → Answer D) (g : B → Answer E) → Meets R a b
    → ((x : A) (y : B) → a ≡ Gives x → R x y → Meets S (f x) (g y)) → Meets S (a >>= f) (b >>= g)
meets_known R S _ _ f g (BothGive x y r) h = h x y refl r
meets_known R S _ _ f g (BothFault fault) h = BothFault fault
meets_known R S _ _ f g (Stuck b) h = Stuck _

-- ---- a value is returned from the last frame alone

module _ {P : Type 0} (p : Form P) (s : Store) (frame : CallFrame P) (below : List (CallFrame P)) (v : Value) (t : Store) where
  returned_last : (xs : List (CallFrame P)) (u : Value) (r : Store) → Gives (returned_to xs u r) ≡ Gives (Returned v t) → xs ≡ []
  returned_last [] u r e = refl
  returned_last (x ∷ xs) u r e = absurd (cc)

  performed_last : (a : Act) → perform p s frame below a ≡ Gives (Returned v t) → below ≡ []
  performed_last (GoesOn h r slots) e = let g = gives_then (needed (p.code.goes frame.function frame.point h)) _ (Returned v t) e in let i = g.2 in absurd (cc)
  performed_last (Enters f vs) e =
      let g = gives_then (make_frame p f vs s) _ (Returned v t) e in
      let h = gives_then (needed (p.code.arrival frame.function frame.point)) _ (Returned v t) g.2 in
      let i = h.2 in absurd (cc)
  performed_last (Leaves u r) e = returned_last below u r e
  performed_last (AsksFor r) e = absurd (cc)

  pub step_last : (o : Option Value) → frames_step p s o (frame ∷ below) ≡ Gives (Returned v t) → below ≡ []
  step_last o e =
      let g = gives_then (needed (function_named p.program frame.function)) _ (Returned v t) e in
      let h = gives_then (act (context p s frame) g.0.result o (p.code.stood frame.function frame.point)) _ (Returned v t) g.2 in
      performed_last h.0 h.2

-- no chain is below native frames below which there is nothing
pub nothing_below : (C : Text → Type 0) (cut : Cut) (There : Places) (bs : Blocks) (owned : List ℕ) (xs : List (CallFrame Position)) (ys : List (CallFrame Point)) → xs ≡ [] → Native C (SamePoint cut) (Under C cut There bs owned) xs ys → owned ≡ []
nothing_below C cut There bs owned _ _ e (NoMore xs ys h) = under xs ys owned e h
  where
    piece : (xs : List (CallFrame Position)) (ys : List (CallFrame Point)) (owned : List ℕ) → xs ≡ [] → InPiece C cut There bs xs (Some Unset) ys (Some Unset) owned → owned ≡ []
    piece _ _ _ e (AtNode f l n slots o lower taken o' stands below saved owned waits chain pointer result frame) = absurd (cc)

    under : (xs : List (CallFrame Position)) (ys : List (CallFrame Point)) (owned : List ℕ) → xs ≡ [] → Under C cut There bs owned xs ys → owned ≡ []
    under _ _ _ e Bottom = refl
    under _ _ _ e (PieceWaits xs ys owned r) = piece xs ys owned e (r Unset tt)
nothing_below C cut There bs owned _ _ e (OneMore f a b slots xs ys h i k) = absurd (cc)

-- ---- the row

module _ (z : Setting) (facts : NativeFacts z) (keeps : KeepsFacts z) (bs : Blocks) (owned : List ℕ) (f : Text) (b : Point) (slots : List Slot) (xs : List (CallFrame Position)) (ys : List (CallFrame Point)) (same : z.cut.whole f ≡ true) (held : All (IsHeldSlot z.codes) slots) (stacks : Native z.codes (SamePoint z.cut) (Under z.codes z.cut z.there bs owned) xs ys) (at : NativeAt z f b slots) (o : Option Value) (hold : IsHeldIf z.codes o) (w : Shared) (a : Agenda (Thread Position)) (tags : Agenda Tagged) (c : Agenda Callback) (source : IsHeldStore z.codes w.store) (g : Agendas z bs owned a tags c) where
  abbrev here : Stack Position
  here = record { frames = frame_of f (InTree b) slots ∷ xs; arriving = o }

  abbrev there : Stack Point
  there = record { frames = frame_of f b slots ∷ ys; arriving = o }

  abbrev from : Source
  from = source_state w (Some here) a

  abbrev to : Target
  to = target_state w bs (Some there) c

  abbrev Alike : Done Position → Done Point → Type 0
  Alike = DoneAlike z.codes (SamePoint z.cut) (Under z.codes z.cut z.there bs owned) bs

  runs_alike : (d : Done Position) (e : Done Point) → frames_step (from_form z) w.store o (frame_of f (InTree b) slots ∷ xs) ≡ Gives d → Alike d e
      → Meets (Related z.codes z.cut z.there) (runs_on (threads_of (from_form z)) from here d) (runs_on (callbacks z.target) to there e)
  runs_alike _ _ i (BothWent t us vs p h l r) = BothGive _ _ (Goes (record w { store = t }) bs _ _ owned a tags c (NativeRuns us vs p owned r l) g.alike g.owns g.fresh)
  runs_alike _ _ i (BothReturned v t h l) =
      let none = nothing_below z.codes z.cut z.there bs owned xs ys (step_last (from_form z) w.store (frame_of f (InTree b) slots) xs v t o i) stacks in
      BothGive _ _ (Goes (record w { store = t }) bs None None [] a tags c NothingRuns g.alike (subst (λ ns. Owns bs (ns ++ owned_in tags)) none g.owns) g.fresh)
  runs_alike _ _ i (BothAsked r h) = asked_alike z facts bs owned f b slots xs ys same held stacks at o w a tags c source g r.asked (at.asks w.store o xs r i) r.arguments h

  -- a step of native code, with the answer to what it asks for, is one of the target
  pub native_row : {k : ℕ} (x' : Source) → option_map (tidy z.kept) (next (threads_of (from_form z)) from) ≡ Some x' → RowFor z k from x' 1 to
  native_row x' e =
      one_step z facts keeps from x' to _ _
      (settled_alike z from to refl (sym (facts.shown f same)) _ _
      (meets_known Alike (Related z.codes z.cut z.there) (frames_step (from_form z) w.store o (frame_of f (InTree b) slots ∷ xs)) (frames_step (to_form z) (beside bs w.store) o (frame_of f b slots ∷ ys))
      (runs_on (threads_of (from_form z)) from here) (runs_on (callbacks z.target) to there)
      (native_step z.codes z.pairs (SamePoint z.cut) (Under z.codes z.cut z.there bs owned) (under_ends z.codes z.cut z.there bs owned) (from_form z) (to_form z) facts.common facts.enters bs
      w.store source f (InTree b) b slots xs ys held stacks (z.used f b) o (at.point w.store) hold)
      runs_alike)) e refl
