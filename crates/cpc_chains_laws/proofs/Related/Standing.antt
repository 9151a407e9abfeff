-- A frame of the source that runs: what a step of the source comes to, by what the source does there.
use Rattle.std.proofs.Common.{◌≡◌, List, ◌∷◌, Option, Some, None, option_map, sym, ◌∙◌, ap}
use Rattle.cpc_base.specs.Bytes.{Text}
use Rattle.cpc_store.specs.Store.{Value, Store}
use Rattle.cpc_tree.specs.Points.{Found}
use Rattle.cpc_tree.specs.Syntax.{Function}
use Rattle.cpc_tree.specs.Typing.{function_named}
use Rattle.cpc_meaning.specs.Act.{Act, act, arrives}
use Rattle.cpc_meaning.specs.Agenda.{Agenda}
use Rattle.cpc_meaning.specs.Answer.{Answer, Gives, NoAnswer, ◌>>=◌, needed}
use Rattle.cpc_meaning.specs.Eval.{Slot}
use Rattle.cpc_meaning.specs.Machine.{next, settled, runs_on, after_done}
use Rattle.cpc_meaning.specs.Plain.{Frame as CallFrame, Stack, Went, context, perform}
use Rattle.cpc_meaning.specs.Threads.{Thread, threads_of}
use Rattle.cpc_forms.specs.Split.{Position}
use Rattle.cpc_lift_laws.specs.Lifted.{tidy}
use Rattle.cpc_convert_image_laws.specs.Stacks.{frame_of}
use Rattle.cpc_chains_laws.proofs.Related.Relation.{Source, Shared, source_state}
use Rattle.cpc_chains_laws.proofs.Related.Setting.{Setting, from_form}

module _ (z : Setting) (f : Text) (p : Position) (slots : List Slot) (o : Option Value) (w : Shared) (a : Agenda (Thread Position)) (below : List (CallFrame Position)) where
  -- the stack, and the state
  abbrev pub stack : Stack Position
  stack = record { frames = frame_of f p slots ∷ below; arriving = o }

  abbrev pub here : Source
  here = source_state w (Some stack) a

  -- what the source does, and what comes of it
  abbrev pub acts_here : Function → Answer Act
  acts_here g = act (context (from_form z) w.store (frame_of f p slots)) g.result o ((from_form z).code.stood f p)

  abbrev pub comes_of : Answer Act → Answer Source
  comes_of u = (u >>= perform (from_form z) w.store (frame_of f p slots) below) >>= runs_on (threads_of (from_form z)) here stack

  -- the step
  abbrev pub settles : Answer Source → Option Source
  settles u = settled (threads_of (from_form z)) here u

  abbrev by_function : Option Function → Answer Source
  by_function g = (needed g >>= λ g. acts_here g >>= perform (from_form z) w.store (frame_of f p slots) below) >>= runs_on (threads_of (from_form z)) here stack

  pub steps_by : (g : Function) → function_named z.source f ≡ Some g → (u : Answer Act) → acts_here g ≡ u → next (threads_of (from_form z)) here ≡ settles (comes_of u)
  steps_by g named u e = ap (λ g. settles (by_function g)) named ∙ ap (λ u. settles (comes_of u)) e

  pub no_step : function_named z.source f ≡ None → next (threads_of (from_form z)) here ≡ None
  no_step e = ap (λ g. settles (by_function g)) e

  -- control goes on, where it can
  abbrev pub moved : Store → List Slot → Option Position → Answer Source
  moved t changed to = (needed to >>= λ to. Gives (Went t (record { frames = frame_of f to changed ∷ below; arriving = None }))) >>= runs_on (threads_of (from_form z)) here stack

  module _ (x' : Source) where
    -- where the step leads, if anywhere
    pub to_state : (r : Answer Source) (s : Source) → r ≡ Gives s → option_map (tidy z.kept) (settles r) ≡ Some x' → tidy z.kept s ≡ x'
    to_state r s e stepped = let h : Some (tidy z.kept s) ≡ Some x' = sym (ap (λ r. option_map (tidy z.kept) (settles r)) e) ∙ stepped in cc

    pub no_state : (r : Answer Source) → r ≡ NoAnswer → ¬ (option_map (tidy z.kept) (settles r) ≡ Some x')
    no_state r e stepped = absurd (let h : None ≡ Some x' = sym (ap (λ r. option_map (tidy z.kept) (settles r)) e) ∙ stepped in cc)

-- an answer to the stack, in a state of the source with other things besides
module _ (z : Setting) (f : Text) (p : Position) (slots : List Slot) (o : Option Value) (below : List (CallFrame Position)) (w : Shared) (a : Agenda (Thread Position)) (v : Value) where
  abbrev with_stack : Source
  with_stack = source_state w (Some (record { frames = frame_of f p slots ∷ below; arriving = o })) a

  abbrev pub replied_of : Answer Act → Answer Source
  replied_of u = (u >>= perform (from_form z) w.store (frame_of f p slots) below) >>= after_done with_stack

  abbrev pub arrives_at : Found → Answer Act
  arrives_at g = arrives (context (from_form z) w.store (frame_of f p slots)) g (Some v)

  abbrev pub replied_by : Option Found → Answer Source
  replied_by g = (needed g >>= λ g. arrives_at g >>= perform (from_form z) w.store (frame_of f p slots) below) >>= after_done with_stack

  abbrev pub replied_to : Store → List Slot → Option Position → Answer Source
  replied_to t changed to = (needed to >>= λ to. Gives (Went t (record { frames = frame_of f to changed ∷ below; arriving = None }))) >>= after_done with_stack
