-- A step of code, and the answer to a request, leave frames whose variables fit; and the first call of a stack stays the first.
use Rattle.std.proofs.Common.{◌≡◌, List, [], ◌∷◌, Option, Some, None, refl, sym, ◌∙◌, ap, subst}
use Rattle.std.specs.List.{All}
use Rattle.std.proofs.lemmas.List.Elements.{All-cons, All-head, All-tail}
use Rattle.cpc_base.specs.Bytes.{Text}
use Rattle.cpc_tree.specs.Syntax.{Function}
use Rattle.cpc_tree.specs.Typing.{function_named}
use Rattle.cpc_tree.specs.Registers.{variables}
use Rattle.cpc_store.specs.Store.{Value, Store}
use Rattle.cpc_meaning.specs.Answer.{◌>>=◌, needed}
use Rattle.cpc_meaning.specs.Eval.{Slot}
use Rattle.cpc_meaning.specs.Slots.{call_slots}
use Rattle.cpc_meaning.specs.Act.{Act, GoesOn, Enters, Leaves, AsksFor, act, arrives}
use Rattle.cpc_meaning.specs.Plain.{Form, Frame, Stack, Done, Went, Returned, Asks, make_frame, moved_to, returned_to, perform, context, frames_step, plain, asking, frames_answered, answered, waiting_frames, waiting}
use Rattle.cpc_meaning_laws.proofs.Pointer.Blocks.{Only, only_then, any_then}
use Rattle.cpc_check_laws.specs.Kept.Fits.{Fits, FitsCall, FitsFrame}
use Rattle.cpc_check_laws.specs.Kept.Kept.{IsSteady}
use Rattle.cpc_check_laws.proofs.Kept.Stores.{Stays}
use Rattle.cpc_check_laws.proofs.Kept.Slots.{Given, given, MadeSo, slots_made}
use Rattle.cpc_check_laws.proofs.Kept.Acts.{AsksSo, ActSo, SectionsGive, arrives_so, act_so}

-- the last of these frames is a call of x
abbrev pub IsFirst : {P : Type 0} → Text → List (Frame P) → Type 0
IsFirst x [] = ⊥
IsFirst x (frame ∷ []) = frame.function ≡ x
IsFirst x (frame ∷ g ∷ below) = IsFirst x (g ∷ below)

module _ {P : Type 0} (p : Form P) where
  abbrev pub AllFit : List (Frame P) → Type 0
  AllFit frames = All (FitsFrame p.program) frames

  -- the function of the first frame is there
  abbrev pub IsNamed : List (Frame P) → Type 0
  IsNamed [] = Unit {0}
  IsNamed (frame ∷ below) = (f : Function) × (function_named p.program frame.function ≡ Some f)

  -- what a step of these frames comes to
  abbrev pub DoneSo : Store → List (Frame P) → Done P → Type 0
  DoneSo s frames (Went t k) = Stays s t × (AllFit frames → AllFit k.frames) × ((x : Text) → IsFirst x frames → IsFirst x k.frames)
  DoneSo s frames (Returned v t) = Stays s t × ((x : Text) (f : Function) → IsFirst x frames → function_named p.program x ≡ Some f → Fits f.result v)
  DoneSo s frames (Asks r) = AsksSo p.program r.asked r.arguments × IsNamed frames

  -- a frame that was made of a call of f, and the store
  pub record FrameSo (f : Function) (s : Store) (r : Frame P × Store) : Type 0 where
    pub called : r.0.function ≡ f.called
    pub slots : FitsCall f r.0.slots
    pub stays : Stays s r.1

  pub frame_so : (f : Function) (vs : List Value) (s : Store) → Given (variables f) vs → Only (FrameSo f s) (make_frame p f vs s)
  frame_so f vs s h =
      only_then (MadeSo f 0 (variables f) s) (FrameSo f s) (call_slots p.program f vs s) _ (slots_made p.program f 0 (variables f) vs s h)
      (λ r k. record { called = refl; slots = record { fits = k.fits; shaped = k.shaped }; stays = k.stays })

  -- the frame of a function that is there
  pub fits_so : (f : Function) (s : Store) (r : Frame P × Store) → function_named p.program f.called ≡ Some f → FrameSo f s r → FitsFrame p.program r.0
  fits_so f s r is h = record { function = f; is_function = ap (function_named p.program) h.called ∙ is; slots = h.slots }

  -- the frame at another point, and below one more
  moved_first : (x : Text) (frame : Frame P) (back : P) (below : List (Frame P)) → IsFirst x (frame ∷ below) → IsFirst x (moved_to frame back ∷ below)
  moved_first x frame back [] h = h
  moved_first x frame back (g ∷ below) h = h

  stepped_first : (x : Text) (frame : Frame P) (next : P) (slots : List Slot) (below : List (Frame P)) → IsFirst x (frame ∷ below) → IsFirst x (record { function = frame.function; point = next; slots = slots } ∷ below)
  stepped_first x frame next slots [] h = h
  stepped_first x frame next slots (g ∷ below) h = h

  -- the same function, with other slots that fit
  other_fits : (frame : Frame P) (f : Function) (next : P) (slots : List Slot) → function_named p.program frame.function ≡ Some f → (FitsCall f frame.slots → FitsCall f slots) → FitsFrame p.program frame
      → FitsFrame p.program (record { function = frame.function; point = next; slots = slots })
  other_fits frame f next slots is h k =
      let same : k.function ≡ f = let e : Some k.function ≡ Some f = sym k.is_function ∙ is in cc in
      record { function = f; is_function = is; slots = h (subst (λ g. FitsCall g frame.slots) same k.slots) }

  moved_fits : (frame : Frame P) (back : P) → FitsFrame p.program frame → FitsFrame p.program (moved_to frame back)
  moved_fits frame back k = record { function = k.function; is_function = k.is_function; slots = k.slots }

  module _ (s : Store) (frame : Frame P) (f : Function) (below : List (Frame P)) (is : function_named p.program frame.function ≡ Some f) where
    returns_so : (fs : List (Frame P)) (v : Value) (t : Store) → Stays s t → Fits f.result v → DoneSo s (frame ∷ fs) (returned_to fs v t)
    returns_so [] v t stays h = (
      stays,
      λ x g first e.
          let same : f ≡ g = let i : Some f ≡ Some g = sym is ∙ ap (function_named p.program) first ∙ e in cc in
          subst (λ g. Fits g.result v) same h,
    )
    returns_so (g ∷ fs) v t stays h = (stays, (λ fit. All-tail (FitsFrame p.program) frame (g ∷ fs) fit), λ x first. first)

    performs_so : (a : Act) → ActSo p.program f frame.slots s a → Only (DoneSo s (frame ∷ below)) (perform p s frame below a)
    performs_so (GoesOn h t slots) k = any_then (DoneSo s (frame ∷ below)) (needed (p.code.goes frame.function frame.point h)) _ λ next.
        (k.0, (λ fit. All-cons (FitsFrame p.program) _ below (other_fits frame f next slots is k.1 (All-head (FitsFrame p.program) frame below fit)) (All-tail (FitsFrame p.program) frame below fit)), λ x first. stepped_first x frame next slots below first)
    performs_so (Enters g vs) k =
        only_then (FrameSo g s) (DoneSo s (frame ∷ below)) (make_frame p g vs s) _ (frame_so g vs s (given g vs k.1)) λ r i.
        any_then (DoneSo s (frame ∷ below)) (needed (p.code.arrival frame.function frame.point)) _ λ back.
        (i.stays, (λ fit. All-cons (FitsFrame p.program) r.0 (moved_to frame back ∷ below) (fits_so g s r k.0 i) (All-cons (FitsFrame p.program) (moved_to frame back) below (moved_fits frame back (All-head (FitsFrame p.program) frame below fit)) (All-tail (FitsFrame p.program) frame below fit))), λ x first. moved_first x frame back below first)
    performs_so (Leaves v t) k = returns_so below v t k.0 k.1
    performs_so (AsksFor r) k = (k, (f, is))

  module _ (steady : IsSteady p) where
    -- what stands at a point of a function
    gives_there : (x : Text) (f : Function) (point : P) → function_named p.program x ≡ Some f → SectionsGive p.program (p.code.stood x point)
    gives_there x f point is to y es g e i = steady.sections x f point to y es g is e i

    found_there : (s : Store) (o : Option Value) (frame : Frame P) (below : List (Frame P)) (f : Option Function) → function_named p.program frame.function ≡ f
        → Only (DoneSo s (frame ∷ below)) (needed f >>= λ f. act (context p s frame) f.result o (p.code.stood frame.function frame.point) >>= perform p s frame below)
    found_there s o frame below None is = tt
    found_there s o frame below (Some f) is =
        only_then (ActSo p.program f frame.slots s) (DoneSo s (frame ∷ below)) (act (context p s frame) f.result o (p.code.stood frame.function frame.point)) _
        (act_so p.program (p.code.scope frame.function frame.point) frame.slots s f (steady.scopes frame.function f frame.point is) o (p.code.stood frame.function frame.point) (gives_there frame.function f frame.point is))
        λ a k. performs_so s frame f below is a k

    frames_step_so : (s : Store) (o : Option Value) (frames : List (Frame P)) → Only (DoneSo s frames) (frames_step p s o frames)
    frames_step_so s o [] = tt
    frames_step_so s o (frame ∷ below) = found_there s o frame below (function_named p.program frame.function) refl

    -- a step of the innermost frame
    pub plain_so : (s : Store) (k : Stack P) → Only (DoneSo s k.frames) (plain p s k)
    plain_so s k = frames_step_so s k.arriving k.frames

  module _ (steady : IsSteady p) where
    -- the answer to a request
    pub answered_so : (s : Store) (k : Stack P) (v : Value) → IsNamed k.frames → Only (DoneSo s k.frames) (answered p s k v)
    answered_so s k v h = go k.frames h
      where
        go : (frames : List (Frame P)) → IsNamed frames → Only (DoneSo s frames) (frames_answered p s v frames)
        go [] h = tt
        go (frame ∷ below) h =
            any_then (DoneSo s (frame ∷ below)) (needed (asking (p.code.stood frame.function frame.point))) _ λ found.
            only_then (ActSo p.program h.0 frame.slots s) (DoneSo s (frame ∷ below)) (arrives (context p s frame) found (Some v)) _
            (arrives_so p.program (p.code.scope frame.function frame.point) frame.slots s h.0 (steady.scopes frame.function h.0 frame.point h.1) found (Some v))
            λ a k. performs_so s frame h.0 below h.1 a k

  -- a stack that waits
  pub waiting_so : (k : Stack P) → Only (λ (j : Stack P). AllFit k.frames → AllFit j.frames) (waiting p k)
  waiting_so k = go k.frames
    where
      go : (frames : List (Frame P)) → Only (λ (j : Stack P). AllFit frames → AllFit j.frames) (waiting_frames p frames)
      go [] = tt
      go (frame ∷ below) = any_then (λ (j : Stack P). AllFit (frame ∷ below) → AllFit j.frames) (needed (p.code.arrival frame.function frame.point)) _ λ back fit.
          All-cons (FitsFrame p.program) (moved_to frame back) below (moved_fits frame back (All-head (FitsFrame p.program) frame below fit)) (All-tail (FitsFrame p.program) frame below fit)
