-- Acts, steps, answers and waits keep boxes live: what the frames have beside is made, and what they have no more is freed.
use Rattle.std.proofs.Common.{◌≡◌, ℕ, ◌+◌, ◌≤◌, true, List, [], ◌∷◌, Option, Some, None, refl, arith}
use Rattle.cpc_base.specs.Bytes.{Text}
use Rattle.cpc_tree.specs.declared.program.Mode.TheVariants.{Extern}
use Rattle.cpc_tree.specs.Points.{Found, Simple, Test, Nothing}
use Rattle.cpc_tree.specs.Primitives.{Primitive, primitive_named}
use Rattle.cpc_tree.specs.Registers.{variables}
use Rattle.cpc_tree.specs.Syntax.{Ty, Expr, ENamed, Exprs, Stmt, Declare, Assign, Call, Detach, Spawn, Return, Function}
use Rattle.cpc_tree.specs.Typing.{Meant, AFunction, NotMeant, named, function_named, code_parameters, parameter_types}
use Rattle.cpc_store.specs.Store.{Value, Unset, Store, save}
use Rattle.cpc_meaning.specs.Act.{Stood, AtStatement, AtArrival, AtEnd, Act, GoesOn, Enters, Leaves, AsksFor, write, assign, deliver, right_side, assigns, calls, callee, calls_value, puts_text, asks_with, calls_named, calls_expr, detaches, spawns, leaves, returns, simple_act, found_act, target_of, act}
use Rattle.cpc_meaning.specs.Answer.{Answer, Gives, ◌>>=◌, of_result, needed}
use Rattle.cpc_meaning.specs.Eval.{Slot, Context, Spot, InSlot, InCell, place, place_type, used_type, value, values, holds, assigned}
use Rattle.cpc_meaning.specs.Plain.{Form, Frame, Stack, Done, Went, Returned, Asks, make_frame, returned_to, perform, context, plain, frames_step, asking, frames_answered, answered, waiting_frames, waiting}
use Rattle.cpc_meaning.specs.Requests.{all_taken, takes, all_long, arguments, section_takes}
use Rattle.cpc_meaning.specs.Slots.{call_slots, free_slots}
use Rattle.cpc_meaning_laws.proofs.Pointer.Blocks.{Only, only_then, any_then}
use Rattle.cpc_lifted_laws.proofs.Known.BoxStores.{live_in, held, frames_held, held_set, Alike, saves, slots_freed, Made, slots_made}

module _ (b : ℕ) where
  -- ---- acts

  module _ (c : Context) where
    -- the slots have no more boxes, and these are as live
    abbrev Kept : List Slot × Store → Type 0
    Kept r = held b r.0 + live_in b c.store ≤ held b c.slots + live_in b r.1

    -- what an act does to them
    abbrev pub ActHeld : Act → Type 0
    ActHeld (GoesOn h t slots) = held b slots + live_in b c.store ≤ held b c.slots + live_in b t
    ActHeld (Enters f vs) = Unit {0}
    ActHeld (Leaves v t) = live_in b t + held b c.slots ≡ live_in b c.store
    ActHeld (AsksFor r) = Unit {0}

    abbrev Acts : Answer Act → Type 0
    Acts a = Only ActHeld a

    write_held : (spot : Spot) (v : Value) → Only Kept (write c spot v)
    write_held (InSlot k) v = let h = held_set b c.slots k v in omega (arith, h)
    write_held (InCell class n k) v = only_then (Alike b c.store) Kept (of_result (save class n k v c.store)) _ (saves b class n k v c.store) λ t e. omega (arith, e)

    assign_held : (e : Expr) (v : Value) → Only Kept (assign c e v)
    assign_held e v = any_then Kept (place c e) _ λ spot. any_then Kept (needed (place_type c e)) _ λ t. any_then Kept (assigned t v) _ λ w. write_held spot w

    pub deliver_held : (o : Option Expr) (v : Value) → Only Kept (deliver c o v)
    deliver_held None v = omega arith
    deliver_held (Some e) v = assign_held e v

    assigns_held : (x v : Expr) → Acts (assigns c x v)
    assigns_held x v = any_then ActHeld (value c v) _ λ w. only_then Kept ActHeld (assign c x w) _ (assign_held x w) λ r h. h

    calls_held : (g : Function) (es : Exprs) → Acts (calls c g es)
    calls_held g es = any_then ActHeld (values c es) _ λ vs. any_then ActHeld (arguments (parameter_types g) vs) _ λ ws. tt

    calls_value_held : (e : Expr) (es : Exprs) → Acts (calls_value c e es)
    calls_value_held e es =
        any_then ActHeld (value c e) _ λ v.
        any_then ActHeld (needed (used_type c e)) _ λ t.
        any_then ActHeld (values c es) _ λ vs.
        any_then ActHeld (arguments (code_parameters t) vs) _ λ ws.
        any_then ActHeld (callee c.program t v) _ λ g. tt

    asks_held : (prim : Primitive) (es : Exprs) (o : Option Text) → Acts (asks_with c prim es o)
    asks_held prim es (Some bytes) = tt
    asks_held prim es None = any_then ActHeld (values c es) _ λ vs. any_then ActHeld (all_taken (takes c.program prim vs) vs) _ λ ws. tt

    calls_named_held : (x : Text) (es : Exprs) (m : Meant) (prim : Option Primitive) (o : Option Function) → Acts (calls_named c x es m prim o)
    calls_named_held x es (AFunction Extern r ps) prim o = any_then ActHeld (values c es) _ λ vs. any_then ActHeld (all_long vs) _ λ ws. tt
    calls_named_held x es (AFunction mode r ps) prim (Some g) = calls_held g es
    calls_named_held x es NotMeant (Some prim) o = asks_held prim es (puts_text prim es)
    calls_named_held x es m prim o = calls_value_held (ENamed x) es

    call_held : (e : Expr) (es : Exprs) → Acts (calls_expr c e es)
    call_held (ENamed y) es = calls_named_held y es (named c.program c.scope y) (primitive_named y) (function_named c.program y)
    call_held e es = calls_value_held e es

    detaches_held : (y : Text) (es : Exprs) → Acts (detaches c y es)
    detaches_held y es = any_then ActHeld (needed (function_named c.program y)) _ λ g. any_then ActHeld (values c es) _ λ vs. any_then ActHeld (all_taken (section_takes (parameter_types g)) vs) _ λ ws. tt

    spawns_held : (y : Text) (es : Exprs) → Acts (spawns c y es)
    spawns_held y es = any_then ActHeld (needed (function_named c.program y)) _ λ g. any_then ActHeld (values c es) _ λ vs. any_then ActHeld (arguments (parameter_types g) vs) _ λ ws. tt

    leaves_held : (v : Value) → Acts (leaves c v)
    leaves_held v = only_then (λ (t : Store). live_in b t + held b c.slots ≡ live_in b c.store) ActHeld (free_slots c.slots c.store) _ (slots_freed b c.slots c.store) λ t h. h

    returns_held : (result : Ty) (o : Option Expr) → Acts (returns c result o)
    returns_held result None = leaves_held Unset
    returns_held result (Some x) = any_then ActHeld (value c x) _ λ v. any_then ActHeld (assigned result v) _ λ w. leaves_held w

    passes_held : held b c.slots + live_in b c.store ≤ held b c.slots + live_in b c.store
    passes_held = omega arith

    simple_held : (result : Ty) (t : Stmt) → Acts (simple_act c result t)
    simple_held result (Declare x t (Some v)) = assigns_held (ENamed x) v
    simple_held result (Assign x op v) = assigns_held x (right_side op x v)
    simple_held result (Call x g es) = call_held g es
    simple_held result (Detach x y es) = detaches_held y es
    simple_held result (Spawn g es) = spawns_held g es
    simple_held result (Return v) = returns_held result v
    simple_held result t = passes_held

    found_held : (result : Ty) (found : Found) → Acts (found_act c result found)
    found_held result (Simple t) = simple_held result t
    found_held result (Test None) = passes_held
    found_held result (Test (Some t)) = any_then ActHeld (value c t) _ λ v. any_then ActHeld (holds v) _ λ h. passes_held
    found_held result Nothing = tt

    arrives_held : (found : Found) (v : Value) → Acts (needed (target_of found) >>= λ x. deliver c x v >>= λ r. Gives (GoesOn true r.1 r.0))
    arrives_held found v = any_then ActHeld (needed (target_of found)) _ λ x. only_then Kept ActHeld (deliver c x v) _ (deliver_held x v) λ r h. h

    pub act_held : (result : Ty) (o : Option Value) (stood : Stood) → Acts (act c result o stood)
    act_held result o (AtStatement found) = found_held result found
    act_held result o (AtArrival found) = any_then ActHeld (needed o) _ λ v. arrives_held found v
    act_held result o AtEnd = leaves_held Unset

  -- ---- steps

  module _ {P : Type 0} (p : Form P) where
    -- what a step of these frames does to the boxes
    abbrev pub DoneHeld : Store → List (Frame P) → Done P → Type 0
    DoneHeld s frames (Went t k) = frames_held b k.frames + live_in b s ≤ frames_held b frames + live_in b t
    DoneHeld s frames (Returned v t) = live_in b s ≤ frames_held b frames + live_in b t
    DoneHeld s frames (Asks r) = Unit {0}

    returns_held_to : (s : Store) (frame : Frame P) (below : List (Frame P)) (v : Value) (t : Store) → live_in b t + held b frame.slots ≡ live_in b s → DoneHeld s (frame ∷ below) (returned_to below v t)
    returns_held_to s frame [] v t h = omega (arith, h)
    returns_held_to s frame (g ∷ below) v t h = omega (arith, h)

    performs_held : (s : Store) (frame : Frame P) (below : List (Frame P)) (a : Act) → ActHeld (context p s frame) a → Only (DoneHeld s (frame ∷ below)) (perform p s frame below a)
    performs_held s frame below (GoesOn h t slots) k = any_then (DoneHeld s (frame ∷ below)) (needed (p.code.goes frame.function frame.point h)) _ λ next. omega (arith, k)
    performs_held s frame below (Enters g vs) k =
        only_then (λ (r : Frame P × Store). held b r.0.slots + live_in b s ≡ live_in b r.1) (DoneHeld s (frame ∷ below)) (make_frame p g vs s) _
        (only_then (Made b s) (λ (r : Frame P × Store). held b r.0.slots + live_in b s ≡ live_in b r.1) (call_slots p.program g vs s) _ (slots_made b p.program g 0 (variables g) vs s) (λ r h. h)) λ r h.
        any_then (DoneHeld s (frame ∷ below)) (needed (p.code.arrival frame.function frame.point)) _ λ back. omega (arith, h)
    performs_held s frame below (Leaves v t) k = returns_held_to s frame below v t k
    performs_held s frame below (AsksFor r) k = tt

    -- a step of the innermost frame
    pub plain_held : (s : Store) (k : Stack P) → Only (DoneHeld s k.frames) (plain p s k)
    plain_held s k = go k.frames
      where
        go : (frames : List (Frame P)) → Only (DoneHeld s frames) (frames_step p s k.arriving frames)
        go [] = tt
        go (frame ∷ below) =
            any_then (DoneHeld s (frame ∷ below)) (needed (function_named p.program frame.function)) _ λ f.
            only_then (ActHeld (context p s frame)) (DoneHeld s (frame ∷ below)) (act (context p s frame) f.result k.arriving (p.code.stood frame.function frame.point)) _
            (act_held (context p s frame) f.result k.arriving (p.code.stood frame.function frame.point)) (performs_held s frame below)

    -- the answer to a request
    pub answered_held : (s : Store) (k : Stack P) (v : Value) → Only (DoneHeld s k.frames) (answered p s k v)
    answered_held s k v = go k.frames
      where
        go : (frames : List (Frame P)) → Only (DoneHeld s frames) (frames_answered p s v frames)
        go [] = tt
        go (frame ∷ below) =
            any_then (DoneHeld s (frame ∷ below)) (needed (asking (p.code.stood frame.function frame.point))) _ λ found.
            only_then (ActHeld (context p s frame)) (DoneHeld s (frame ∷ below)) _ _ (arrives_held (context p s frame) found v) (performs_held s frame below)

    -- a stack that waits has the same boxes
    abbrev pub SameBoxes : Stack P → Stack P → Type 0
    SameBoxes k j = frames_held b j.frames ≡ frames_held b k.frames

    pub waiting_held : (k : Stack P) → Only (SameBoxes k) (waiting p k)
    waiting_held k = go k.frames
      where
        go : (frames : List (Frame P)) → Only (λ (j : Stack P). frames_held b j.frames ≡ frames_held b frames) (waiting_frames p frames)
        go [] = tt
        go (frame ∷ below) = any_then (λ (j : Stack P). frames_held b j.frames ≡ frames_held b (frame ∷ below)) (needed (p.code.arrival frame.function frame.point)) _ λ back. refl

    -- the first frame of a call
    pub frame_held : (g : Function) (vs : List Value) (s : Store) → Only (λ (r : Frame P × Store). held b r.0.slots + live_in b s ≡ live_in b r.1) (make_frame p g vs s)
    frame_held g vs s = only_then (Made b s) (λ (r : Frame P × Store). held b r.0.slots + live_in b s ≡ live_in b r.1) (call_slots p.program g vs s) _ (slots_made b p.program g 0 (variables g) vs s) (λ r h. h)
