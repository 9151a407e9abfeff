-- A step of code keeps the layers of its frames, and only cps functions wait.
use Rattle.std.proofs.Common.{◌≡◌, inl, inr, Bool, true, false, cond, List, [], ◌∷◌, Option, Some, None, refl, sym, ◌∙◌, ap}
use Rattle.std.specs.List.{All}
use Rattle.std.proofs.lemmas.List.Elements.{All-cons, All-head, All-tail}
use Rattle.cpc_base.specs.Bytes.{Text}
use Rattle.cpc_base.proofs.Truth.{by_false_and_true}
use Rattle.cpc_num.specs.declared.kinds.Fault.TheVariants as F
use Rattle.cpc_tree.specs.declared.program.Mode.{Mode}
use Rattle.cpc_tree.specs.declared.program.Mode.TheVariants.{Extern}
use Rattle.cpc_tree.specs.Syntax.{Ty, Expr, ENamed, Exprs, Stmt, Declare, Assign, Call, Detach, Spawn, Return, Function, Program}
use Rattle.cpc_tree.specs.Points.{Found, Simple, Test, Nothing}
use Rattle.cpc_tree.specs.Primitives.{Primitive, primitive_named}
use Rattle.cpc_tree.specs.Typing.{Scope, Meant, AFunction, NotMeant, named, item_named, function_named, function_type, same_type, parameter_types, code_parameters}
use Rattle.cpc_store.specs.Store.{Value, Unset, Whole, Null, At, Code, Cond, Store}
use Rattle.cpc_meaning.specs.Answer.{Answer, Gives, Faults, NoAnswer, ◌>>=◌, needed}
use Rattle.cpc_meaning.specs.Eval.{Slot, Context, used_type, value, values, holds, assigned}
use Rattle.cpc_meaning.specs.Slots.{call_slots, free_slots}
use Rattle.cpc_meaning.specs.Requests.{Asked, Builtin, Host, ToSpawn, Section, section_takes, takes, all_taken, all_long, arguments}
use Rattle.cpc_meaning.specs.Act.{Stood, AtStatement, AtArrival, AtEnd, Act, GoesOn, Enters, Leaves, AsksFor, assign, deliver, right_side, assigns, calls, function_of_type, callee, calls_value, puts_text, asks_with, calls_named, calls_expr, detaches, spawns, leaves, returns, simple_act, found_act, target_of, act}
use Rattle.cpc_meaning.specs.Plain.{Form, Frame, Stack, Done, Went, Returned, Asks, make_frame, moved_to, returned_to, perform, context, frames_step, plain, asking, frames_answered, answered, waiting_frames, waiting}
use Rattle.cpc_meaning.proofs.SameValues.{at}
use Rattle.cpc_meaning.proofs.Functions.{found_again}
use Rattle.cpc_meaning_laws.proofs.Pointer.Blocks.{Only, only_then, any_then}
use Rattle.cpc_check_rules.specs.Operators.{is_cps}
use Rattle.cpc_check_rules.specs.Calls.{gives_up}
use Rattle.cpc_check_laws.specs.Sound.Typed.{is_own}
use Rattle.cpc_check_laws.specs.Kept.Codes.{IsNative, IsCode, IsCodeSlot, IsCodeStore, IsCodeFrame, IsCodeStack}
use Rattle.cpc_check_laws.specs.Kept.Layers.{KeepsModes, IsOfMode, AllCps, IsLayered}
use Rattle.cpc_check_laws.proofs.Kept.Codes.{value_code}

-- what a function of this mode asks for
abbrev pub AsksLayer : Program → Function → Asked → Type 0
AsksLayer p f (Builtin prim) = gives_up prim ≡ true → is_cps f.mode ≡ true
AsksLayer p f (Host x) = Unit {0}
AsksLayer p f (ToSpawn y) = (g : Function) → function_named p y ≡ Some g → is_cps g.mode ≡ true
AsksLayer p f (Section y) = is_cps f.mode ≡ true

-- what it does
abbrev pub ActLayer : Program → Function → Act → Type 0
ActLayer p f (GoesOn h t slots) = Unit {0}
ActLayer p f (Enters g vs) = (function_named p g.called ≡ Some g) × (is_cps g.mode ≡ true → is_cps f.mode ≡ true)
ActLayer p f (Leaves v t) = Unit {0}
ActLayer p f (AsksFor r) = AsksLayer p f r.asked

-- what may be called, waited for, submitted and spawned where this stands
record MayDo (p : Program) (f : Function) (scope : Scope) (stood : Stood) : Type 0 where
  calls : (to : Option Expr) (y : Text) (es : Exprs) (mode : Mode) (r : Ty) (ps : List Ty) (g : Function)
      → stood ≡ AtStatement (Simple (Call to (ENamed y) es)) → named p scope y ≡ AFunction mode r ps → is_own mode ≡ true → function_named p y ≡ Some g → is_cps g.mode ≡ true → is_cps f.mode ≡ true
  waits : (to : Option Expr) (y : Text) (es : Exprs) (prim : Primitive)
      → stood ≡ AtStatement (Simple (Call to (ENamed y) es)) → named p scope y ≡ NotMeant → primitive_named y ≡ Some prim → gives_up prim ≡ true → is_cps f.mode ≡ true
  sections : (to : Option Expr) (y : Text) (es : Exprs) → stood ≡ AtStatement (Simple (Detach to y es)) → is_cps f.mode ≡ true
  spawns : (y : Text) (es : Exprs) (g : Function) → stood ≡ AtStatement (Simple (Spawn y es)) → function_named p y ≡ Some g → is_cps g.mode ≡ true

module _ (p : Program) (codes : (x : Text) (g : Function) → IsNative (item_named 0 p x) → function_named p x ≡ Some g → is_cps g.mode ≡ false) (f : Function) where
  -- a native function that the program has
  abbrev IsCallee : Function → Type 0
  IsCallee g = (function_named p g.called ≡ Some g) × (is_cps g.mode ≡ false)

  callee_layer : (t : Ty) (v : Value) → IsCode p v → Only IsCallee (callee p t v)
  callee_layer t Unset h = tt
  callee_layer t Null h = tt
  callee_layer t (Code x) h = found (function_named p x) refl
    where
      found : (o : Option Function) → function_named p x ≡ o → Only IsCallee (function_of_type t o)
      found None e = tt
      found (Some g) e = same (same_type t (function_type g.result (parameter_types g)))
        where
          same : (b : Bool) → Only IsCallee (cond b (Gives g) (Faults F.Code))
          same true = (found_again p x g e, codes x g h e)
          same false = tt
  callee_layer t (Whole kind z) h = tt
  callee_layer t (At c n k) h = tt
  callee_layer t (Cond n) h = tt

  module _ (scope : Scope) (slots : List Slot) (s : Store) (store : IsCodeStore p s) (held : All (IsCodeSlot p) slots) where
    abbrev c : Context
    c = at p scope slots s

    abbrev Acts : Answer Act → Type 0
    Acts a = Only (ActLayer p f) a

    assigns_layer : (x v : Expr) → Acts (assigns c x v)
    assigns_layer x v = any_then (ActLayer p f) (value c v) _ λ w. any_then (ActLayer p f) (assign c x w) _ λ r. tt

    calls_layer : (g : Function) (es : Exprs) → function_named p g.called ≡ Some g → (is_cps g.mode ≡ true → is_cps f.mode ≡ true) → Acts (calls c g es)
    calls_layer g es is mode = any_then (ActLayer p f) (values c es) _ λ vs. any_then (ActLayer p f) (arguments (parameter_types g) vs) _ λ ws. (is, mode)

    calls_value_layer : (e : Expr) (es : Exprs) → Acts (calls_value c e es)
    calls_value_layer e es =
        only_then (IsCode p) (ActLayer p f) (value c e) _ (value_code p scope slots s store held e) λ v h.
        any_then (ActLayer p f) (needed (used_type c e)) _ λ t.
        any_then (ActLayer p f) (values c es) _ λ vs.
        any_then (ActLayer p f) (arguments (code_parameters t) vs) _ λ ws.
        only_then IsCallee (ActLayer p f) (callee p t v) _ (callee_layer t v h) λ g i. (i.0, λ e. by_false_and_true (is_cps g.mode) i.1 e)

    asks_layer : (prim : Primitive) (es : Exprs) (o : Option Text) → (gives_up prim ≡ true → is_cps f.mode ≡ true) → Acts (asks_with c prim es o)
    asks_layer prim es (Some bytes) may = may
    asks_layer prim es None may = any_then (ActLayer p f) (values c es) _ λ vs. any_then (ActLayer p f) (all_taken (takes p prim vs) vs) _ λ ws. may

    calls_named_layer : (x : Text) (es : Exprs) (m : Meant) (prim : Option Primitive) (o : Option Function) → function_named p x ≡ o
        → ((mode : Mode) (r : Ty) (ps : List Ty) (g : Function) → m ≡ AFunction mode r ps → is_own mode ≡ true → o ≡ Some g → is_cps g.mode ≡ true → is_cps f.mode ≡ true)
        → ((q : Primitive) → m ≡ NotMeant → prim ≡ Some q → gives_up q ≡ true → is_cps f.mode ≡ true) → Acts (calls_named c x es m prim o)
    calls_named_layer x es (AFunction Extern r ps) prim o e may wait = any_then (ActLayer p f) (values c es) _ λ vs. any_then (ActLayer p f) (all_long vs) _ λ ws. tt
    calls_named_layer x es (AFunction mode r ps) prim (Some g) e may wait = calls_layer g es (found_again p x g e) (may mode r ps g refl refl refl)
    calls_named_layer x es NotMeant (Some prim) o e may wait = asks_layer prim es (puts_text prim es) (wait prim refl refl)
    calls_named_layer x es m prim o e may wait = calls_value_layer (ENamed x) es

    call_layer : (to : Option Expr) (e : Expr) (es : Exprs) → MayDo p f scope (AtStatement (Simple (Call to e es))) → Acts (calls_expr c e es)
    call_layer to (ENamed y) es may = calls_named_layer y es (named p scope y) (primitive_named y) (function_named p y) refl
        (λ mode r ps g i o j. may.calls to y es mode r ps g refl i o j) (λ q i j. may.waits to y es q refl i j)
    call_layer to e es may = calls_value_layer e es

    detaches_layer : (y : Text) (es : Exprs) → is_cps f.mode ≡ true → Acts (detaches c y es)
    detaches_layer y es may =
        any_then (ActLayer p f) (needed (function_named p y)) _ λ g.
        any_then (ActLayer p f) (values c es) _ λ vs.
        any_then (ActLayer p f) (all_taken (section_takes (parameter_types g)) vs) _ λ ws. may

    spawns_layer : (y : Text) (es : Exprs) → ((g : Function) → function_named p y ≡ Some g → is_cps g.mode ≡ true) → Acts (spawns c y es)
    spawns_layer y es may =
        any_then (ActLayer p f) (needed (function_named p y)) _ λ g.
        any_then (ActLayer p f) (values c es) _ λ vs.
        any_then (ActLayer p f) (arguments (parameter_types g) vs) _ λ ws. may

    leaves_layer : (v : Value) → Acts (leaves c v)
    leaves_layer v = any_then (ActLayer p f) (free_slots slots s) _ λ t. tt

    returns_layer : (o : Option Expr) → Acts (returns c f.result o)
    returns_layer None = leaves_layer Unset
    returns_layer (Some x) = any_then (ActLayer p f) (value c x) _ λ v. any_then (ActLayer p f) (assigned f.result v) _ λ w. leaves_layer w

    simple_layer : (t : Stmt) → MayDo p f scope (AtStatement (Simple t)) → Acts (simple_act c f.result t)
    simple_layer (Declare x t (Some v)) may = assigns_layer (ENamed x) v
    simple_layer (Assign x op v) may = assigns_layer x (right_side op x v)
    simple_layer (Call x g es) may = call_layer x g es may
    simple_layer (Detach x y es) may = detaches_layer y es (may.sections x y es refl)
    simple_layer (Spawn g es) may = spawns_layer g es (λ h e. may.spawns g es h refl e)
    simple_layer (Return v) may = returns_layer v
    simple_layer t may = tt

    found_layer : (found : Found) → MayDo p f scope (AtStatement found) → Acts (found_act c f.result found)
    found_layer (Simple t) may = simple_layer t may
    found_layer (Test None) may = tt
    found_layer (Test (Some t)) may = any_then (ActLayer p f) (value c t) _ λ v. any_then (ActLayer p f) (holds v) _ λ h. tt
    found_layer Nothing may = tt

    act_layer : (o : Option Value) (stood : Stood) → MayDo p f scope stood → Acts (act c f.result o stood)
    act_layer o (AtStatement found) may = found_layer found may
    act_layer o (AtArrival found) may =
        any_then (ActLayer p f) (needed o) _ λ v.
        any_then (ActLayer p f) (needed (target_of found)) _ λ x.
        any_then (ActLayer p f) (deliver c x v) _ λ r. tt
    act_layer o AtEnd may = leaves_layer Unset

-- ---- steps

module _ {P : Type 0} (p : Form P) where
  abbrev pub Layers : List (Frame P) → Type 0
  Layers frames = IsLayered p.program frames

  abbrev pub Cps : List (Frame P) → Type 0
  Cps frames = AllCps p.program frames

  -- what these frames ask for
  abbrev pub AskedLayer : List (Frame P) → Asked → Type 0
  AskedLayer frames (Builtin prim) = gives_up prim ≡ true → Layers frames → Cps frames
  AskedLayer frames (Host x) = Unit {0}
  AskedLayer frames (ToSpawn y) = (g : Function) → function_named p.program y ≡ Some g → is_cps g.mode ≡ true
  AskedLayer frames (Section y) = Layers frames → Cps frames

  -- what a step of these frames comes to
  abbrev pub DoneLayer : List (Frame P) → Done P → Type 0
  DoneLayer frames (Went t k) = Layers frames → Layers k.frames
  DoneLayer frames (Returned v t) = Unit {0}
  DoneLayer frames (Asks r) = AskedLayer frames r.asked

  -- frames of cps functions are layered
  pub cps_layered : (frames : List (Frame P)) → Cps frames → Layers frames
  cps_layered [] h = tt
  cps_layered (frame ∷ below) h = inr (All-head (IsOfMode p.program true) frame below h, All-tail (IsOfMode p.program true) frame below h)

  -- the frame at another point, with other slots
  stepped : (frame : Frame P) (next : P) (slots : List Slot) (below : List (Frame P)) → Layers (frame ∷ below) → Layers (record { function = frame.function; point = next; slots = slots } ∷ below)
  stepped frame next slots below (inl h) = inl h
  stepped frame next slots below (inr h) = inr h

  moved_cps : (frame : Frame P) (back : P) (below : List (Frame P)) → Cps (frame ∷ below) → Cps (moved_to frame back ∷ below)
  moved_cps frame back below h = All-cons (IsOfMode p.program true) (moved_to frame back) below (All-head (IsOfMode p.program true) frame below h) (All-tail (IsOfMode p.program true) frame below h)

  rest_layered : (frame : Frame P) (below : List (Frame P)) → Layers (frame ∷ below) → Layers below
  rest_layered frame below (inl h) = h.1
  rest_layered frame below (inr h) = cps_layered below h.1

  returns_layers : (frame : Frame P) (below : List (Frame P)) (v : Value) (t : Store) → DoneLayer (frame ∷ below) (returned_to below v t)
  returns_layers frame [] v t = tt
  returns_layers frame (g ∷ below) v t = rest_layered frame (g ∷ below)

  module _ (frame : Frame P) (f : Function) (below : List (Frame P)) (is : function_named p.program frame.function ≡ Some f) where
    -- the frame of a cps function stands over such frames alone
    cps_all : is_cps f.mode ≡ true → Layers (frame ∷ below) → Cps (frame ∷ below)
    cps_all e (inl h) = let same : h.0.0 ≡ f = let i : Some h.0.0 ≡ Some f = sym h.0.1 ∙ is in cc in by_false_and_true (is_cps h.0.0.mode) h.0.2 (ap (λ g. is_cps g.mode) same ∙ e)
    cps_all e (inr h) = All-cons (IsOfMode p.program true) frame below h.0 h.1

    -- a frame that is entered
    entered : (g : Function) (called : Frame P) (back : P) → called.function ≡ g.called → function_named p.program g.called ≡ Some g → (is_cps g.mode ≡ true → is_cps f.mode ≡ true) → Layers (frame ∷ below) → Layers (called ∷ moved_to frame back ∷ below)
    entered g called back name is_g may h = go (is_cps g.mode) refl
      where
        go : (b : Bool) → is_cps g.mode ≡ b → Layers (called ∷ moved_to frame back ∷ below)
        go true e = inr ((g, ap (function_named p.program) name ∙ is_g, e), moved_cps frame back below (cps_all (may e) h))
        go false e = inl ((g, ap (function_named p.program) name ∙ is_g, e), stepped frame back frame.slots below h)

    performs : (s : Store) (a : Act) → ActLayer p.program f a → Only (DoneLayer (frame ∷ below)) (perform p s frame below a)
    performs s (GoesOn h t slots) k = any_then (DoneLayer (frame ∷ below)) (needed (p.code.goes frame.function frame.point h)) _ λ next. stepped frame next slots below
    performs s (Enters g vs) k =
        only_then (λ (r : Frame P × Store). r.0.function ≡ g.called) (DoneLayer (frame ∷ below)) (make_frame p g vs s) _ (any_then (λ (r : Frame P × Store). r.0.function ≡ g.called) (call_slots p.program g vs s) _ (λ r. refl)) λ r name.
        any_then (DoneLayer (frame ∷ below)) (needed (p.code.arrival frame.function frame.point)) _ λ back. entered g r.0 back name k.0 k.1
    performs s (Leaves v t) k = returns_layers frame below v t
    performs s (AsksFor r) k = asked r.asked k
      where
        asked : (a : Asked) → AsksLayer p.program f a → AskedLayer (frame ∷ below) a
        asked (Builtin prim) k = λ e. cps_all (k e)
        asked (Host x) k = tt
        asked (ToSpawn y) k = k
        asked (Section y) k = cps_all k

  -- the answer to a request
  pub answered_layer : (s : Store) (k : Stack P) (v : Value) → Only (DoneLayer k.frames) (answered p s k v)
  answered_layer s k v = go k.frames
    where
      go : (frames : List (Frame P)) → Only (DoneLayer frames) (frames_answered p s v frames)
      go [] = tt
      go (frame ∷ below) =
          any_then (DoneLayer (frame ∷ below)) (needed (asking (p.code.stood frame.function frame.point))) _ λ found.
          goes (needed (target_of found))
        where
          -- what arrives lets control go on
          goes : (a : Answer (Option Expr)) → Only (DoneLayer (frame ∷ below)) ((a >>= λ x. deliver (context p s frame) x v >>= λ r. Gives (GoesOn true r.1 r.0)) >>= perform p s frame below)
          goes (Gives x) = go_on (deliver (context p s frame) x v)
            where
              go_on : (a : Answer (List Slot × Store)) → Only (DoneLayer (frame ∷ below)) ((a >>= λ r. Gives (GoesOn true r.1 r.0)) >>= perform p s frame below)
              go_on (Gives r) = any_then (DoneLayer (frame ∷ below)) (needed (p.code.goes frame.function frame.point true)) _ λ next. stepped frame next r.0 below
              go_on (Faults fault) = tt
              go_on NoAnswer = tt
          goes (Faults fault) = tt
          goes NoAnswer = tt

  -- a stack that waits
  pub waiting_layer : (k : Stack P) → Cps k.frames → Only (λ (j : Stack P). Cps j.frames) (waiting p k)
  waiting_layer k h = go k.frames h
    where
      go : (frames : List (Frame P)) → Cps frames → Only (λ (j : Stack P). Cps j.frames) (waiting_frames p frames)
      go [] h = tt
      go (frame ∷ below) h = any_then (λ (j : Stack P). Cps j.frames) (needed (p.code.arrival frame.function frame.point)) _ λ back. moved_cps frame back below h

  module _ (modes : KeepsModes p) where
    may_do : (x : Text) (f : Function) (point : P) → function_named p.program x ≡ Some f → MayDo p.program f (p.code.scope x point) (p.code.stood x point)
    may_do x f point is = record {
      calls = λ to y es mode r ps g e i o j. modes.calls x f point to y es mode r ps g is e i o j;
      waits = λ to y es prim e i j. modes.waits x f point to y es prim is e i j;
      sections = λ to y es e. modes.sections x f point to y es is e;
      spawns = λ y es g e i. modes.spawns x f point y es g is e i;
    }

    -- a step of the innermost frame
    pub plain_layer : (s : Store) (k : Stack P) → IsCodeStore p.program s → IsCodeStack p.program k → Only (DoneLayer k.frames) (plain p s k)
    plain_layer s k store codes = go k.frames codes.frames
      where
        found : (frame : Frame P) (below : List (Frame P)) → IsCodeFrame p.program frame → (f : Option Function) → function_named p.program frame.function ≡ f
            → Only (DoneLayer (frame ∷ below)) (needed f >>= λ f. act (context p s frame) f.result k.arriving (p.code.stood frame.function frame.point) >>= perform p s frame below)
        found frame below held None is = tt
        found frame below held (Some f) is =
            only_then (ActLayer p.program f) (DoneLayer (frame ∷ below)) (act (context p s frame) f.result k.arriving (p.code.stood frame.function frame.point)) _
            (act_layer p.program modes.codes f (p.code.scope frame.function frame.point) frame.slots s store held k.arriving (p.code.stood frame.function frame.point) (may_do frame.function f frame.point is))
            λ a i. performs frame f below is s a i

        go : (frames : List (Frame P)) → All (IsCodeFrame p.program) frames → Only (DoneLayer frames) (frames_step p s k.arriving frames)
        go [] h = tt
        go (frame ∷ below) h = found frame below (All-head (IsCodeFrame p.program) frame below h) (function_named p.program frame.function) refl
