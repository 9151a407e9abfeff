-- What native code asks for is answered alike in both: primitives, and the host's functions.
use Rattle.std.proofs.Common.{◌≡◌, ℕ, true, List, ◌∷◌, Option, Some, refl, sym}
use Rattle.std.specs.List.{All}
use Rattle.cpc_base.specs.Bytes.{Text}
use Rattle.cpc_store.specs.Store.{Value, Unset, Blocks}
use Rattle.cpc_tree.specs.Lists.{is_empty}
use Rattle.cpc_tree.specs.Points.{Point}
use Rattle.cpc_meaning.specs.Answer.{Answer}
use Rattle.cpc_meaning.specs.Agenda.{Agenda}
use Rattle.cpc_meaning.specs.Eval.{Slot}
use Rattle.cpc_meaning.specs.Machine.{after_done, reply, asked_by}
use Rattle.cpc_meaning.specs.Plain.{Frame as CallFrame, Stack, Done}
use Rattle.cpc_meaning.specs.Requests.{Asked}
use Rattle.cpc_meaning.specs.Threads.{Thread, threads_of}
use Rattle.cpc_meaning.specs.Events.{Callback, callbacks_of}
use Rattle.cpc_forms.specs.Split.{Position, InTree}
use Rattle.cpc_convert_image_laws.specs.Held.{IsHeld, IsHeldSlot, IsHeldStore}
use Rattle.cpc_convert_image_laws.specs.Relations.{Meets, BothGive, Stuck}
use Rattle.cpc_convert_image_laws.specs.Stacks.{frame_of, Native, DoneAlike, BothWent, BothReturned, BothAsked}
use Rattle.cpc_convert_image_laws.proofs.Answers.{meets_then}
use Rattle.cpc_convert_image_laws.proofs.Stacks.{native_answered}
use Rattle.cpc_lifted_laws.specs.Related.Cut.{Cut, Tagged}
use Rattle.cpc_chains_laws.specs.Related.Running.{Places, SamePoint, InPiece, AtNode, Under, Bottom, PieceWaits, NativeRuns}
use Rattle.cpc_chains_laws.proofs.Related.Relation.{Source, Target, Shared, source_state, target_state, Related, Goes, IsOver}
use Rattle.cpc_chains_laws.proofs.Related.Setting.{Setting, from_form, to_form, NativeFacts, NativeAt, is_answered}
use Rattle.cpc_chains_laws.proofs.Related.Asking.{Agendas, asked_alike as requests_alike}

-- what is below native frames is empty in both, or in none
pub under_ends : (C : Text → Type 0) (cut : Cut) (There : Places) (bs : Blocks) (owned : List ℕ) (xs : List (CallFrame Position)) (ys : List (CallFrame Point)) → Under C cut There bs owned xs ys → is_empty xs ≡ is_empty ys
under_ends C cut There bs _ _ _ Bottom = refl
under_ends C cut There bs _ _ _ (PieceWaits xs ys owned r) = go xs ys (r Unset tt)
  where
    go : (xs : List (CallFrame Position)) (ys : List (CallFrame Point)) → InPiece C cut There bs xs (Some Unset) ys (Some Unset) owned → is_empty xs ≡ is_empty ys
    go _ _ (AtNode f l n slots o next piece o' there below saved owned waits chain pointer result frame) = refl

module _ (z : Setting) (facts : NativeFacts z) (bs : Blocks) (owned : List ℕ) where
  abbrev Below : List (CallFrame Position) → List (CallFrame Point) → Type 0
  Below = Under z.codes z.cut z.there bs owned

  abbrev Stacks : List (CallFrame Position) → List (CallFrame Point) → Type 0
  Stacks xs ys = Native z.codes (SamePoint z.cut) Below xs ys

  abbrev Steps : Answer Source → Answer Target → Type 0
  Steps = Meets (Related z.codes z.cut z.there)

  -- where the running code goes on
  done_alike : (w : Shared) (k : Option (Stack Position)) (j : Option (Stack Point)) (a : Agenda (Thread Position)) (tags : Agenda Tagged) (b : Agenda Callback) → Agendas z bs owned a tags b
      → (d : Done Position) (e : Done Point) → DoneAlike z.codes (SamePoint z.cut) Below bs d e → Steps (after_done (source_state w k a) d) (after_done (target_state w bs j b) e)
  done_alike w k j a tags b g _ _ (BothWent t xs ys o held hold stacks) =
      BothGive _ _ (Goes (record w { store = t }) bs _ _ owned a tags b (NativeRuns xs ys o owned stacks hold) g.alike g.owns g.fresh)
  done_alike w k j a tags b g _ _ (BothReturned v t h i) = Stuck _
  done_alike w k j a tags b g _ _ (BothAsked r h) = Stuck _

  module _ (f : Text) (b : Point) (slots : List Slot) (xs : List (CallFrame Position)) (ys : List (CallFrame Point)) (same : z.cut.whole f ≡ true) (held : All (IsHeldSlot z.codes) slots) (stacks : Stacks xs ys) (at : NativeAt z f b slots) (o : Option Value) where
    abbrev k : Stack Position
    k = record { frames = frame_of f (InTree b) slots ∷ xs; arriving = o }

    abbrev j : Stack Point
    j = record { frames = frame_of f b slots ∷ ys; arriving = o }

    -- the answer to a request
    reply_alike : (w : Shared) (a : Agenda (Thread Position)) (tags : Agenda Tagged) (c : Agenda Callback) → IsHeldStore z.codes w.store → Agendas z bs owned a tags c → (v : Value) → IsHeld z.codes v
        → Steps (reply (from_form z) k v (source_state w (Some k) a)) (reply (to_form z) j v (target_state w bs (Some j) c))
    reply_alike w a tags c source g v h =
        meets_then (DoneAlike z.codes (SamePoint z.cut) Below bs) (Related z.codes z.cut z.there) _ _ _ _
        (native_answered z.codes z.pairs (SamePoint z.cut) Below (under_ends z.codes z.cut z.there bs owned) (from_form z) (to_form z) facts.common facts.enters bs
        w.store source f (InTree b) b slots xs ys held stacks (z.used f b) v (at.point w.store) (at.written w.store) h)
        (λ d e r. done_alike w (Some k) (Some j) a tags c g d e r)

    -- what native code asks for
    pub asked_alike : (w : Shared) (a : Agenda (Thread Position)) (tags : Agenda Tagged) (c : Agenda Callback) → IsHeldStore z.codes w.store → Agendas z bs owned a tags c → (asked : Asked) → is_answered asked ≡ true → (vs : List Value) → All (IsHeld z.codes) vs
        → Steps (asked_by (threads_of (from_form z)) k (source_state w (Some k) a) asked vs) (asked_by (callbacks_of (to_form z)) j (target_state w bs (Some j) c) asked vs)
    asked_alike w a tags c source g asked e vs h =
        requests_alike z bs owned w.store.auto k j (Related z.codes z.cut z.there) (λ x y n same. IsOver _ _ refl (sym same) refl) (λ w a tags c source same g. reply_alike w a tags c source g) w a tags c source refl g asked e vs h
