-- What stands at a point does the same beside any heap frames.
use Rattle.std.proofs.Common.{◌≡◌, Bool, true, List, [], ◌∷◌, Option, Some, None, refl}
use Rattle.std.specs.List.{All}
use Rattle.std.proofs.lemmas.List.Elements.{All-head}
use Rattle.cpc_base.specs.Bytes.{Text}
use Rattle.cpc_tree.specs.declared.program.Mode.TheVariants.{Extern}
use Rattle.cpc_tree.specs.Syntax.{Ty, Expr, ENamed, Exprs, NoExpr, AndExpr, Stmt, Declare, Assign, Call, Detach, Spawn, Return, Function, Program}
use Rattle.cpc_tree.specs.Points.{Found, Simple, Test, Nothing}
use Rattle.cpc_tree.specs.Primitives.{Primitive, primitive_named}
use Rattle.cpc_tree.specs.Registers.{variables}
use Rattle.cpc_tree.specs.Typing.{Scope, Meant, AFunction, NotMeant, named, function_named, parameter_types, code_parameters}
use Rattle.cpc_store.specs.Store.{Value, Unset, Store, Blocks}
use Rattle.cpc_meaning.specs.Answer.{Answer, Gives, ◌>>=◌, needed}
use Rattle.cpc_meaning.specs.Eval.{Slot, Context, Spot, InSlot, InCell, place, place_type, used_type, value, values, holds, assigned}
use Rattle.cpc_meaning.specs.Slots.{call_slots}
use Rattle.cpc_meaning.specs.Requests.{section_takes, takes, all_taken, all_long, arguments}
use Rattle.cpc_meaning.specs.Act.{Stood, AtStatement, AtArrival, AtEnd, Act, GoesOn, Enters, Leaves, AsksFor, passes, write, assign, deliver, right_side, assigns, calls, callee, calls_value, puts_text, asks_with, calls_named, calls_expr, detaches, spawns, leaves, returns, simple_act, found_act, target_of, arrives, act}
use Rattle.cpc_meaning.specs.Plain.{Form, Frame, Done, Went, Returned, Asks, make_frame, moved_to, returned_to, perform, frames_step, asking, frames_answered}
use Rattle.cpc_meaning_laws.specs.Pointer.Made.{IsMadeSlot, IsMade, IsMadeStore, IsMadeFrame}
use Rattle.cpc_meaning_laws.proofs.Pointer.Blocks.{Any, Alike, Given, Broken, Neither, Keeps, then_alike, then_keeps, same_then, given_alike}
use Rattle.cpc_meaning_laws.proofs.Pointer.Values.{IsMadeSpot, same_values, places}
use Rattle.cpc_check_laws.specs.Kept.Kept.{NoFrames}
use Rattle.cpc_check_laws.specs.Kept.Beside.{with_frames, act_beside, done_beside, within, CodeBeside, StacksBeside}
use Rattle.cpc_check_laws.proofs.Kept.Beside.{not_frame, same_beside, saves_beside, slots_freed_beside, slots_beside, slots_made_beside}

-- the same answer is an equation
pub same_answer : {A : Type 0} (Good : A → Type 0) (a b : Answer A) → Keeps Good a b → b ≡ a
same_answer Good _ _ (Given x h) = refl
same_answer Good _ _ (Broken fault) = refl
same_answer Good _ _ Neither = refl

module _ (bs : Blocks) (s : Store) (none : NoFrames s) (made : IsMadeStore s) where
  module _ (p : Program) (scope : Scope) (slots : List Slot) (slots_made : All (IsMadeSlot s) slots) where
    abbrev here : Context
    here = within p scope slots s

    abbrev there : Context
    there = within p scope slots (with_frames bs s)

    abbrev Acts : Answer Act → Answer Act → Type 0
    Acts a b = Alike Any (act_beside bs) a b

    -- the same value, or the same values, and what is made of them
    same_value : (e : Expr) → Keeps (IsMade s) (value here e) (value there e)
    same_value e = same_values s (with_frames bs s) (same_beside bs s none) made p scope slots slots_made e

    same_place : (e : Expr) → Keeps (IsMadeSpot s) (place here e) (place there e)
    same_place e = places s (with_frames bs s) (same_beside bs s none) made p scope slots slots_made e

    value_then : {B : Type 0} (g : B → B) (e : Expr) (h k : Value → Answer B) → ((v : Value) → Alike Any g (h v) (k v)) → Alike Any g (value here e >>= h) (value there e >>= k)
    value_then g e h k f = then_keeps (IsMade s) Any g _ _ h k (same_value e) λ v i. f v

    row : (es : Exprs) → Keeps Any (values here es) (values there es)
    row NoExpr = Given [] tt
    row (AndExpr e es) = value_then (λ x. x) e _ _ λ v. then_keeps Any Any (λ x. x) _ _ _ _ (row es) λ vs i. Given (v ∷ vs) tt

    values_then : {B : Type 0} (g : B → B) (es : Exprs) (h k : List Value → Answer B) → ((vs : List Value) → Alike Any g (h vs) (k vs)) → Alike Any g (values here es >>= h) (values there es >>= k)
    values_then g es h k f = then_keeps Any Any g _ _ h k (row es) λ vs i. f vs

    pub value_beside : (e : Expr) → value there e ≡ value here e
    value_beside e = same_answer (IsMade s) (value here e) (value there e) (same_value e)

    pub place_beside : (e : Expr) → place there e ≡ place here e
    place_beside e = same_answer (IsMadeSpot s) (place here e) (place there e) (same_place e)

    -- ---- assignments

    writes : (spot : Spot) (v : Value) → IsMadeSpot s spot → Alike Any (slots_beside bs) (write here spot v) (write there spot v)
    writes (InSlot k) v h = Given _ tt
    writes (InCell c n k) v h = then_alike Any Any (with_frames bs) (slots_beside bs) _ _ _ _ (saves_beside bs c n k v s (not_frame s c n none h)) λ t i. Given (slots, t) tt

    assigns_beside : (e : Expr) (v : Value) → Alike Any (slots_beside bs) (assign here e v) (assign there e v)
    assigns_beside e v =
        then_keeps (IsMadeSpot s) Any (slots_beside bs) _ _ _ _ (same_place e) λ spot h.
        same_then Any (slots_beside bs) (needed (place_type here e)) _ _ λ t.
        same_then Any (slots_beside bs) (assigned t v) _ _ λ w. writes spot w h

    delivers : (o : Option Expr) (v : Value) → Alike Any (slots_beside bs) (deliver here o v) (deliver there o v)
    delivers None v = Given _ tt
    delivers (Some e) v = assigns_beside e v

    assigns_act : (x v : Expr) → Acts (assigns here x v) (assigns there x v)
    assigns_act x v =
        value_then (act_beside bs) v _ _ λ w.
        then_alike Any Any (slots_beside bs) (act_beside bs) _ _ _ _ (assigns_beside x w) λ r i. Given (GoesOn true r.1 r.0) tt

    -- ---- calls and returns

    calls_act : (f : Function) (es : Exprs) → Acts (calls here f es) (calls there f es)
    calls_act f es =
        values_then (act_beside bs) es _ _ λ vs.
        same_then Any (act_beside bs) (arguments (parameter_types f) vs) _ _ λ ws. Given (Enters f ws) tt

    calls_value_act : (f : Expr) (es : Exprs) → Acts (calls_value here f es) (calls_value there f es)
    calls_value_act f es =
        value_then (act_beside bs) f _ _ λ v.
        same_then Any (act_beside bs) (needed (used_type here f)) _ _ λ t.
        values_then (act_beside bs) es _ _ λ vs.
        same_then Any (act_beside bs) (arguments (code_parameters t) vs) _ _ λ ws.
        same_then Any (act_beside bs) (callee p t v) _ _ λ g. Given (Enters g ws) tt

    asks_act : (prim : Primitive) (es : Exprs) (o : Option Text) → Acts (asks_with here prim es o) (asks_with there prim es o)
    asks_act prim es (Some bytes) = Given _ tt
    asks_act prim es None =
        values_then (act_beside bs) es _ _ λ vs.
        same_then Any (act_beside bs) (all_taken (takes p prim vs) vs) _ _ λ ws. Given _ tt

    calls_named_act : (x : Text) (es : Exprs) (m : Meant) (prim : Option Primitive) (f : Option Function) → Acts (calls_named here x es m prim f) (calls_named there x es m prim f)
    calls_named_act x es (AFunction Extern r ps) prim f =
        values_then (act_beside bs) es _ _ λ vs.
        same_then Any (act_beside bs) (all_long vs) _ _ λ ws. Given _ tt
    calls_named_act x es (AFunction mode r ps) prim (Some f) = calls_act f es
    calls_named_act x es NotMeant (Some prim) f = asks_act prim es (puts_text prim es)
    calls_named_act x es m prim f = calls_value_act (ENamed x) es

    calls_expr_act : (f : Expr) (es : Exprs) → Acts (calls_expr here f es) (calls_expr there f es)
    calls_expr_act (ENamed x) es = calls_named_act x es (named p scope x) (primitive_named x) (function_named p x)
    calls_expr_act f es = calls_value_act f es

    detaches_act : (f : Text) (es : Exprs) → Acts (detaches here f es) (detaches there f es)
    detaches_act f es =
        same_then Any (act_beside bs) (needed (function_named p f)) _ _ λ g.
        values_then (act_beside bs) es _ _ λ vs.
        same_then Any (act_beside bs) (all_taken (section_takes (parameter_types g)) vs) _ _ λ ws. Given _ tt

    spawns_act : (f : Text) (es : Exprs) → Acts (spawns here f es) (spawns there f es)
    spawns_act f es =
        same_then Any (act_beside bs) (needed (function_named p f)) _ _ λ g.
        values_then (act_beside bs) es _ _ λ vs.
        same_then Any (act_beside bs) (arguments (parameter_types g) vs) _ _ λ ws. Given _ tt

    leaves_act : (v : Value) → Acts (leaves here v) (leaves there v)
    leaves_act v = then_alike Any Any (with_frames bs) (act_beside bs) _ _ _ _ (slots_freed_beside bs slots s) λ t i. Given (Leaves v t) tt

    returns_act : (result : Ty) (o : Option Expr) → Acts (returns here result o) (returns there result o)
    returns_act result None = leaves_act Unset
    returns_act result (Some x) =
        value_then (act_beside bs) x _ _ λ v.
        same_then Any (act_beside bs) (assigned result v) _ _ λ w. leaves_act w

    -- ---- what stands there

    passes_on : (h : Bool) → Acts (passes here h) (passes there h)
    passes_on h = Given _ tt

    simple_beside : (result : Ty) (t : Stmt) → Acts (simple_act here result t) (simple_act there result t)
    simple_beside result (Declare x t (Some v)) = assigns_act (ENamed x) v
    simple_beside result (Assign x op v) = assigns_act x (right_side op x v)
    simple_beside result (Call x f es) = calls_expr_act f es
    simple_beside result (Detach x f es) = detaches_act f es
    simple_beside result (Spawn f es) = spawns_act f es
    simple_beside result (Return v) = returns_act result v
    simple_beside result t = passes_on true

    found_beside : (result : Ty) (f : Found) → Acts (found_act here result f) (found_act there result f)
    found_beside result (Simple t) = simple_beside result t
    found_beside result (Test None) = passes_on true
    found_beside result (Test (Some t)) = value_then (act_beside bs) t _ _ λ v. same_then Any (act_beside bs) (holds v) _ _ λ h. passes_on h
    found_beside result Nothing = Neither

    pub arrives_beside : (f : Found) (o : Option Value) → Acts (arrives here f o) (arrives there f o)
    arrives_beside f None = Neither
    arrives_beside f (Some v) =
        same_then Any (act_beside bs) (needed (target_of f)) _ _ λ x.
        then_alike Any Any (slots_beside bs) (act_beside bs) _ _ _ _ (delivers x v) λ r i. Given (GoesOn true r.1 r.0) tt

    pub acts_beside : (result : Ty) (o : Option Value) (stood : Stood) → Acts (act here result o stood) (act there result o stood)
    acts_beside result o (AtStatement f) = found_beside result f
    acts_beside result o (AtArrival f) = arrives_beside f o
    acts_beside result o AtEnd = leaves_act Unset

pub code_beside : CodeBeside
code_beside p scope slots s bs none made slots_made = record {
  value = value_beside bs s none made p scope slots slots_made;
  place = place_beside bs s none made p scope slots slots_made;
  act = λ result o stood. given_alike Any (act_beside bs) _ _ (acts_beside bs s none made p scope slots slots_made result o stood);
}

-- ---- steps

module _ {P : Type 0} (p : Form P) (bs : Blocks) where
  abbrev Dones : Answer (Done P) → Answer (Done P) → Type 0
  Dones a b = Alike Any (done_beside bs) a b

  returned_beside : (frames : List (Frame P)) (v : Value) (t : Store) → Dones (Gives (returned_to frames v t)) (Gives (returned_to frames v (with_frames bs t)))
  returned_beside [] v t = Given (Returned v t) tt
  returned_beside (frame ∷ frames) v t = Given (Went t (record { frames = frame ∷ frames; arriving = Some v })) tt

  performs : (s : Store) (frame : Frame P) (below : List (Frame P)) (a : Act) → Dones (perform p s frame below a) (perform p (with_frames bs s) frame below (act_beside bs a))
  performs s frame below (GoesOn h t slots) = same_then Any (done_beside bs) (needed (p.code.goes frame.function frame.point h)) _ _ λ next.
      Given (Went t (record { frames = record { function = frame.function; point = next; slots = slots } ∷ below; arriving = None })) tt
  performs s frame below (Enters f vs) =
      then_alike Any Any frame_beside (done_beside bs) (make_frame p f vs s) (make_frame p f vs (with_frames bs s)) _ _ made λ r i.
      same_then Any (done_beside bs) (needed (p.code.arrival frame.function frame.point)) _ _ λ back.
      Given (Went r.1 (record { frames = r.0 ∷ moved_to frame back ∷ below; arriving = None })) tt
    where
      frame_beside : Frame P × Store → Frame P × Store
      frame_beside r = (r.0, with_frames bs r.1)

      made : Alike Any frame_beside (make_frame p f vs s) (make_frame p f vs (with_frames bs s))
      made = then_alike Any Any (slots_beside bs) frame_beside (call_slots p.program f vs s) (call_slots p.program f vs (with_frames bs s)) _ _ (slots_made_beside bs p.program f 0 (variables f) vs s) λ r i. Given _ tt
  performs s frame below (Leaves v t) = returned_beside below v t
  performs s frame below (AsksFor r) = Given (Asks r) tt

  module _ (s : Store) (none : NoFrames s) (made : IsMadeStore s) where
    steps : (o : Option Value) (frames : List (Frame P)) → All (IsMadeFrame s) frames → Dones (frames_step p s o frames) (frames_step p (with_frames bs s) o frames)
    steps o [] h = Neither
    steps o (frame ∷ below) h =
        same_then Any (done_beside bs) (needed (function_named p.program frame.function)) _ _ λ f.
        then_alike Any Any (act_beside bs) (done_beside bs) _ _ _ _
        (acts_beside bs s none made p.program (p.code.scope frame.function frame.point) frame.slots (All-head (IsMadeFrame s) frame below h) f.result o (p.code.stood frame.function frame.point)) λ a i. performs s frame below a

    answers : (v : Value) (frames : List (Frame P)) → All (IsMadeFrame s) frames → Dones (frames_answered p s v frames) (frames_answered p (with_frames bs s) v frames)
    answers v [] h = Neither
    answers v (frame ∷ below) h =
        same_then Any (done_beside bs) (needed (asking (p.code.stood frame.function frame.point))) _ _ λ found.
        then_alike Any Any (act_beside bs) (done_beside bs) _ _ _ _
        (arrives_beside bs s none made p.program (p.code.scope frame.function frame.point) frame.slots (All-head (IsMadeFrame s) frame below h) found (Some v)) λ a i. performs s frame below a

pub stacks_beside : {P : Type 0} → StacksBeside P
stacks_beside p s k bs none h = record {
  plain = given_alike Any (done_beside bs) _ _ (steps p bs s none h.store k.arriving k.frames h.frames);
  answered = λ v. given_alike Any (done_beside bs) _ _ (answers p bs s none h.store v k.frames h.frames);
}
