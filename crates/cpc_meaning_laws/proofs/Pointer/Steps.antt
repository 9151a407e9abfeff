-- A step of code, and the answer to a request, leave pointers to blocks that were made.
use Rattle.std.proofs.Common.{List, [], ◌∷◌, Option, Some}
use Rattle.std.specs.List.{All}
use Rattle.std.proofs.lemmas.List.Elements.{All-nil, All-cons, All-head, All-tail}
use Rattle.cpc_tree.specs.Syntax.{Function}
use Rattle.cpc_tree.specs.Typing.{function_named}
use Rattle.cpc_tree.specs.Registers.{variables}
use Rattle.cpc_store.specs.Store.{Value, Store}
use Rattle.cpc_meaning.specs.Answer.{needed}
use Rattle.cpc_meaning.specs.Slots.{call_slots}
use Rattle.cpc_meaning.specs.Act.{Act, GoesOn, Enters, Leaves, AsksFor, act, arrives}
use Rattle.cpc_meaning.specs.Plain.{Form, Frame, Stack, stack_of, Done, Went, Returned, Asks, make_frame, moved_to, returned_to, perform, context, frames_step, plain, asking, frames_answered, answered}
use Rattle.cpc_meaning_laws.specs.Pointer.Made.{IsMade, IsMadeIf, IsMadeSlot, IsMadeStore, IsMadeFrame, IsMadeCode}
use Rattle.cpc_meaning_laws.proofs.Pointer.Blocks.{Only, only_then, any_then}
use Rattle.cpc_meaning_laws.proofs.Pointer.Stores.{Later, later_if, later_frames, Onward}
use Rattle.cpc_meaning_laws.proofs.Pointer.Acts.{SlotsMade, slots_come, ActMade, arrives_made, act_made}

-- a frame in a store that came of s
pub record FrameMade {P : Type 0} (s : Store) (r : Frame P × Store) : Type 0 where
  pub onward : Onward s r.1
  pub slots : All (IsMadeSlot r.1) r.0.slots

-- what a step comes to
abbrev pub DoneMade : {P : Type 0} → Store → Done P → Type 0
DoneMade s (Went t k) = Later s t × IsMadeCode t k
DoneMade s (Returned v t) = Onward s t
DoneMade s (Asks r) = All (IsMade s) r.arguments

-- the same stack on a later store
pub code_later : {P : Type 0} (s t : Store) (k : Stack P) → Later s t → IsMadeStore t → IsMadeCode s k → IsMadeCode t k
code_later s t k l made h = record { store = made; frames = later_frames s t l k.frames h.frames; arriving = later_if s t l k.arriving h.arriving }

module _ {P : Type 0} (p : Form P) where
  -- a function is entered
  pub frame_come : (f : Function) (vs : List Value) (s : Store) → IsMadeStore s → All (IsMade s) vs → Only (FrameMade {P = P} s) (make_frame p f vs s)
  frame_come f vs s made h =
      only_then (SlotsMade s) (FrameMade {P = P} s) (call_slots p.program f vs s) _ (slots_come p.program f 0 (variables f) vs s made h)
      (λ r k. record { onward = k.onward; slots = k.slots })

  -- the stack of its call alone
  pub stack_made : (frame : Frame P) (t : Store) → IsMadeStore t → All (IsMadeSlot t) frame.slots → IsMadeCode t (stack_of frame)
  stack_made frame t made h = record { store = made; frames = All-cons (IsMadeFrame t) frame [] h (All-nil (IsMadeFrame t)); arriving = tt }

  module _ (s : Store) (frame : Frame P) (below : List (Frame P)) (slots_made : All (IsMadeSlot s) frame.slots) (below_made : All (IsMadeFrame s) below) where
    returns_to : (frames : List (Frame P)) (v : Value) (t : Store) → All (IsMadeFrame s) frames → Onward s t → IsMade t v → DoneMade s (returned_to frames v t)
    returns_to [] v t h on i = on
    returns_to (f ∷ frames) v t h on i = (on.later, record { store = on.made; frames = later_frames s t on.later (f ∷ frames) h; arriving = i })

    performs : (a : Act) → IsMadeStore s → ActMade s a → Only (DoneMade s) (perform p s frame below a)
    performs (GoesOn h t slots) made k = any_then (DoneMade s) (needed (p.code.goes frame.function frame.point h)) _ λ next.
        (k.0.later, record { store = k.0.made; frames = All-cons (IsMadeFrame t) (record { function = frame.function; point = next; slots = slots }) below k.1 (later_frames s t k.0.later below below_made); arriving = tt })
    performs (Enters f vs) made k =
        only_then (FrameMade s) (DoneMade s) (make_frame p f vs s) _ (frame_come f vs s made k) λ r i.
        any_then (DoneMade s) (needed (p.code.arrival frame.function frame.point)) _ λ back.
        let later = later_frames s r.1 i.onward.later (moved_to frame back ∷ below) (All-cons (IsMadeFrame s) (moved_to frame back) below slots_made below_made) in
        (i.onward.later, record { store = i.onward.made; frames = All-cons (IsMadeFrame r.1) r.0 (moved_to frame back ∷ below) i.slots later; arriving = tt })
    performs (Leaves v t) made k = returns_to below v t below_made k.0 k.1
    performs (AsksFor r) made k = k

  frames_step_made : (s : Store) (o : Option Value) (frames : List (Frame P)) → IsMadeStore s → All (IsMadeFrame s) frames → IsMadeIf s o → Only (DoneMade s) (frames_step p s o frames)
  frames_step_made s o [] made h i = tt
  frames_step_made s o (frame ∷ below) made h i =
      let slots = All-head (IsMadeFrame s) frame below h in
      any_then (DoneMade s) (needed (function_named p.program frame.function)) _ λ f.
      only_then (ActMade s) (DoneMade s) (act (context p s frame) f.result o (p.code.stood frame.function frame.point)) _
      (act_made p.program (p.code.scope frame.function frame.point) frame.slots s made slots f.result o (p.code.stood frame.function frame.point) i)
      λ a k. performs s frame below slots (All-tail (IsMadeFrame s) frame below h) a made k

  -- a step of the innermost frame
  pub plain_made : (s : Store) (k : Stack P) → IsMadeCode s k → Only (DoneMade s) (plain p s k)
  plain_made s k h = frames_step_made s k.arriving k.frames h.store h.frames h.arriving

  frames_answered_made : (s : Store) (v : Value) (frames : List (Frame P)) → IsMadeStore s → All (IsMadeFrame s) frames → IsMade s v → Only (DoneMade s) (frames_answered p s v frames)
  frames_answered_made s v [] made h i = tt
  frames_answered_made s v (frame ∷ below) made h i =
      let slots = All-head (IsMadeFrame s) frame below h in
      any_then (DoneMade s) (needed (asking (p.code.stood frame.function frame.point))) _ λ f.
      only_then (ActMade s) (DoneMade s) (arrives (context p s frame) f (Some v)) _
      (arrives_made p.program (p.code.scope frame.function frame.point) frame.slots s made slots f (Some v) i)
      λ a k. performs s frame below slots (All-tail (IsMadeFrame s) frame below h) a made k

  -- the answer to a request, by a value that was made
  pub answered_made : (s : Store) (k : Stack P) (v : Value) → IsMadeCode s k → IsMade s v → Only (DoneMade s) (answered p s k v)
  answered_made s k v h i = frames_answered_made s v k.frames h.store h.frames i
