-- A step of code: what it enters gives what the frame below takes, and where it waits it takes an int.
use Rattle.std.proofs.Common.{◌≡◌, Bool, true, false, cond, List, [], ◌∷◌, Option, Some, None, refl, sym, ◌∙◌, ap, subst}
use Rattle.cpc_base.specs.Bytes.{Text}
use Rattle.cpc_num.specs.declared.kinds.Fault.TheVariants as F
use Rattle.cpc_tree.specs.declared.program.Mode.TheVariants.{Native, Detached, Extern, Cps}
use Rattle.cpc_tree.specs.Syntax.{Ty, Expr, ENamed, EInteger, ECharacter, EText, EUnary, EBinary, EAnd, EOr, EChoose, ECast, ESizeOf, EIndex, EMember, EArrow, ECall, Exprs, Stmt, Declare, Assign, Call, Detach, Spawn, Return, Function, Program}
use Rattle.cpc_tree.specs.Points.{Found, Simple, Test, Nothing}
use Rattle.cpc_tree.specs.Primitives.{Primitive, primitive_named}
use Rattle.cpc_tree.specs.Typing.{Scope, Meant, ALocal, AGlobal, AFunction, NotMeant, named, function_named, function_type, same_type, parameter_types, code_parameters}
use Rattle.cpc_store.specs.Store.{Value, Unset, Whole, Null, At, Code, Cond, Store}
use Rattle.cpc_meaning.specs.Answer.{Answer, Gives, Faults, NoAnswer, ◌>>=◌, needed}
use Rattle.cpc_meaning.specs.Eval.{Slot, Context, used_type, value, value_named, values, holds, assigned}
use Rattle.cpc_meaning.specs.Slots.{call_slots, free_slots}
use Rattle.cpc_meaning.specs.Requests.{Asked, Builtin, Host, ToSpawn, Section, section_takes, takes, all_taken, all_long, arguments}
use Rattle.cpc_meaning.specs.Act.{Stood, AtStatement, AtArrival, AtEnd, Act, GoesOn, Enters, Leaves, AsksFor, assign, deliver, right_side, assigns, calls, function_of_type, callee, calls_value, puts_text, asks_with, calls_named, calls_expr, detaches, spawns, leaves, returns, simple_act, found_act, target_of, act}
use Rattle.cpc_meaning.specs.Plain.{Form, Frame, Stack, Done, Went, Returned, Asks, make_frame, moved_to, returned_to, perform, context, frames_step, plain, asking, frames_answered, answered, waiting_frames, waiting}
use Rattle.cpc_meaning.specs.Ways.{AsCps, meant_manner}
use Rattle.cpc_meaning.proofs.SameValues.{at}
use Rattle.cpc_meaning.proofs.Functions.{found_again}
use Rattle.cpc_meaning_laws.proofs.Pointer.Blocks.{Only, only_then, any_then}
use Rattle.cpc_check_rules.specs.Calls.{gives_up}
use Rattle.cpc_check_laws.specs.Kept.Fits.{Fits, IsInt}
use Rattle.cpc_check_laws.proofs.Kept.Values.{assigned_fits}
use Rattle.cpc_lifted_laws.specs.Arrival.Arrivals.{AnyValue, TakesAt, CodeTakes, TakesFrom, Linked, TakesInts, StackTakes}

-- the function of a code is found by its name
callee_there : (p : Program) (t : Ty) (v : Value) → Only (λ (g : Function). function_named p g.called ≡ Some g) (callee p t v)
callee_there p t Unset = tt
callee_there p t Null = tt
callee_there p t (Code x) = found (function_named p x) refl
  where
    found : (o : Option Function) → function_named p x ≡ o → Only (λ (g : Function). function_named p g.called ≡ Some g) (function_of_type t o)
    found None e = tt
    found (Some g) e = same (same_type t (function_type g.result (parameter_types g)))
      where
        same : (b : Bool) → Only (λ (g : Function). function_named p g.called ≡ Some g) (cond b (Gives g) (Faults F.Code))
        same true = found_again p x g e
        same false = tt
callee_there p t (Whole kind z) = tt
callee_there p t (At c n k) = tt
callee_there p t (Cond n) = tt

module _ {P : Type 0} (p : Form P) (Takes : Text → P → Value → Type 0) (x : Text) (f : Function) (point : P) where
  -- what is asked for where a function stands
  abbrev AskTakes : Asked → Type 0
  AskTakes (Builtin prim) = gives_up prim ≡ true → TakesAt p Takes x point IsInt
  AskTakes (Host y) = Unit {0}
  AskTakes (ToSpawn y) = Unit {0}
  AskTakes (Section y) = TakesAt p Takes x point IsInt

  -- what is done there
  abbrev DoesTake : Act → Type 0
  DoesTake (GoesOn h t slots) = Unit {0}
  DoesTake (Enters g vs) = (function_named p.program g.called ≡ Some g) × TakesAt p Takes x point (Fits g.result)
  DoesTake (Leaves v t) = Fits f.result v
  DoesTake (AsksFor r) = AskTakes r.asked

module _ {P : Type 0} (p : Form P) (Takes : Text → P → Value → Type 0) (code : CodeTakes p Takes) (x : Text) (f : Function) (is_f : function_named p.program x ≡ Some f) (point : P) where
  abbrev scope : Scope
  scope = p.code.scope x point

  abbrev ActTakes : Act → Type 0
  ActTakes = DoesTake p Takes x f point

  module _ (slots : List Slot) (s : Store) where
    abbrev c : Context
    c = at p.program scope slots s

    abbrev Acts : Answer Act → Type 0
    Acts a = Only ActTakes a

    assigns_take : (y v : Expr) → Acts (assigns c y v)
    assigns_take y v = any_then ActTakes (value c v) _ λ w. any_then ActTakes (assign c y w) _ λ r. tt

    calls_take : (g : Function) (es : Exprs) → function_named p.program g.called ≡ Some g → TakesAt p Takes x point (Fits g.result) → Acts (calls c g es)
    calls_take g es is takes = any_then ActTakes (values c es) _ λ vs. any_then ActTakes (arguments (parameter_types g) vs) _ λ ws. (is, takes)

    -- a call of a value, where any value may arrive
    calls_value_take : (e : Expr) (es : Exprs) → TakesAt p Takes x point AnyValue → Acts (calls_value c e es)
    calls_value_take e es takes =
        any_then ActTakes (value c e) _ λ v.
        any_then ActTakes (needed (used_type c e)) _ λ t.
        any_then ActTakes (values c es) _ λ vs.
        any_then ActTakes (arguments (code_parameters t) vs) _ λ ws.
        only_then (λ (g : Function). function_named p.program g.called ≡ Some g) ActTakes (callee p.program t v) _ (callee_there p.program t v) λ g i. (i, λ back e v fits. takes back e v tt)

    asks_take : (prim : Primitive) (es : Exprs) (o : Option Text) → (gives_up prim ≡ true → TakesAt p Takes x point IsInt) → Acts (asks_with c prim es o)
    asks_take prim es (Some bytes) may = may
    asks_take prim es None may = any_then ActTakes (values c es) _ λ vs. any_then ActTakes (all_taken (takes p.program prim vs) vs) _ λ ws. may

    -- a cps function that is only declared has no value
    declared_take : (y : Text) (es : Exprs) (r : Ty) (ps : List Ty) → named p.program scope y ≡ AFunction Cps r ps → Acts (calls_value c (ENamed y) es)
    declared_take y es r ps e =
        subst (λ m. Acts (value_named slots s y m >>= λ v. needed (used_type c (ENamed y)) >>= λ t. values c es >>= λ vs. arguments (code_parameters t) vs >>= λ ws. callee p.program t v >>= λ g. Gives (Enters g ws))) (sym e) tt

    module _ (to : Option Expr) (y : Text) (es : Exprs) (stood : p.code.stood x point ≡ AtStatement (Simple (Call to (ENamed y) es))) where
      -- a call of what is no cps statement
      by_value : (m : Meant) (prim : Option Primitive) → named p.program scope y ≡ m → primitive_named y ≡ prim → ¬ (meant_manner m prim ≡ AsCps) → Acts (calls_value c (ENamed y) es)
      by_value m prim e i plain =
          calls_value_take (ENamed y) es
          (code.valued x f point to (ENamed y) es is_f stood (λ cps. plain (sym (ap (λ n. meant_manner n (primitive_named y)) e ∙ ap (meant_manner m) i) ∙ cps)))

      named_take : (m : Meant) (prim : Option Primitive) (o : Option Function) → named p.program scope y ≡ m → primitive_named y ≡ prim → function_named p.program y ≡ o → Acts (calls_named c y es m prim o)
      named_take (AFunction Extern r ps) prim o e i j = any_then ActTakes (values c es) _ λ vs. any_then ActTakes (all_long vs) _ λ ws. tt
      named_take (AFunction Native r ps) prim (Some g) e i j = calls_take g es (found_again p.program y g j) (code.called x f point to y es Native r ps g is_f stood e j)
      named_take (AFunction Detached r ps) prim (Some g) e i j = calls_take g es (found_again p.program y g j) (code.called x f point to y es Detached r ps g is_f stood e j)
      named_take (AFunction Cps r ps) prim (Some g) e i j = calls_take g es (found_again p.program y g j) (code.called x f point to y es Cps r ps g is_f stood e j)
      named_take (AFunction Native r ps) prim None e i j = by_value (AFunction Native r ps) prim e i (λ k. absurd (cc))
      named_take (AFunction Detached r ps) prim None e i j = by_value (AFunction Detached r ps) prim e i (λ k. absurd (cc))
      named_take (AFunction Cps r ps) prim None e i j = declared_take y es r ps e
      named_take NotMeant (Some prim) o e i j = asks_take prim es (puts_text prim es) (code.waits x f point to y es prim is_f stood e i)
      named_take NotMeant None o e i j = by_value NotMeant None e i (λ k. absurd (cc))
      named_take (ALocal k t) prim o e i j = by_value (ALocal k t) prim e i (λ k. absurd (cc))
      named_take (AGlobal k t) prim o e i j = by_value (AGlobal k t) prim e i (λ k. absurd (cc))

    call_take : (to : Option Expr) (e : Expr) (es : Exprs) → p.code.stood x point ≡ AtStatement (Simple (Call to e es)) → Acts (calls_expr c e es)
    call_take to (ENamed y) es stood = named_take to y es stood (named p.program scope y) (primitive_named y) (function_named p.program y) refl refl refl
    call_take to (EInteger kind z) es stood = calls_value_take (EInteger kind z) es (code.valued x f point to (EInteger kind z) es is_f stood (λ k. absurd (cc)))
    call_take to (ECharacter z) es stood = calls_value_take (ECharacter z) es (code.valued x f point to (ECharacter z) es is_f stood (λ k. absurd (cc)))
    call_take to (EText bytes) es stood = calls_value_take (EText bytes) es (code.valued x f point to (EText bytes) es is_f stood (λ k. absurd (cc)))
    call_take to (EUnary sign e) es stood = calls_value_take (EUnary sign e) es (code.valued x f point to (EUnary sign e) es is_f stood (λ k. absurd (cc)))
    call_take to (EBinary op a b) es stood = calls_value_take (EBinary op a b) es (code.valued x f point to (EBinary op a b) es is_f stood (λ k. absurd (cc)))
    call_take to (EAnd a b) es stood = calls_value_take (EAnd a b) es (code.valued x f point to (EAnd a b) es is_f stood (λ k. absurd (cc)))
    call_take to (EOr a b) es stood = calls_value_take (EOr a b) es (code.valued x f point to (EOr a b) es is_f stood (λ k. absurd (cc)))
    call_take to (EChoose t a b) es stood = calls_value_take (EChoose t a b) es (code.valued x f point to (EChoose t a b) es is_f stood (λ k. absurd (cc)))
    call_take to (ECast t e) es stood = calls_value_take (ECast t e) es (code.valued x f point to (ECast t e) es is_f stood (λ k. absurd (cc)))
    call_take to (ESizeOf t) es stood = calls_value_take (ESizeOf t) es (code.valued x f point to (ESizeOf t) es is_f stood (λ k. absurd (cc)))
    call_take to (EIndex a i) es stood = calls_value_take (EIndex a i) es (code.valued x f point to (EIndex a i) es is_f stood (λ k. absurd (cc)))
    call_take to (EMember e y) es stood = calls_value_take (EMember e y) es (code.valued x f point to (EMember e y) es is_f stood (λ k. absurd (cc)))
    call_take to (EArrow e y) es stood = calls_value_take (EArrow e y) es (code.valued x f point to (EArrow e y) es is_f stood (λ k. absurd (cc)))
    call_take to (ECall e us) es stood = calls_value_take (ECall e us) es (code.valued x f point to (ECall e us) es is_f stood (λ k. absurd (cc)))

    detaches_take : (y : Text) (es : Exprs) → TakesAt p Takes x point IsInt → Acts (detaches c y es)
    detaches_take y es may =
        any_then ActTakes (needed (function_named p.program y)) _ λ g.
        any_then ActTakes (values c es) _ λ vs.
        any_then ActTakes (all_taken (section_takes (parameter_types g)) vs) _ λ ws. may

    spawns_take : (y : Text) (es : Exprs) → Acts (spawns c y es)
    spawns_take y es =
        any_then ActTakes (needed (function_named p.program y)) _ λ g.
        any_then ActTakes (values c es) _ λ vs.
        any_then ActTakes (arguments (parameter_types g) vs) _ λ ws. tt

    leaves_take : (v : Value) → Fits f.result v → Acts (leaves c v)
    leaves_take v fits = any_then ActTakes (free_slots slots s) _ λ t. fits

    returns_take : (o : Option Expr) → Acts (returns c f.result o)
    returns_take None = leaves_take Unset refl
    returns_take (Some e) = any_then ActTakes (value c e) _ λ v. only_then (Fits f.result) ActTakes (assigned f.result v) _ (assigned_fits f.result v) λ w fits. leaves_take w fits

    simple_take : (t : Stmt) → p.code.stood x point ≡ AtStatement (Simple t) → Acts (simple_act c f.result t)
    simple_take (Declare y t (Some v)) stood = assigns_take (ENamed y) v
    simple_take (Assign y op v) stood = assigns_take y (right_side op y v)
    simple_take (Call to g es) stood = call_take to g es stood
    simple_take (Detach to y es) stood = detaches_take y es (code.sections x f point to y es is_f stood)
    simple_take (Spawn g es) stood = spawns_take g es
    simple_take (Return v) stood = returns_take v
    simple_take t stood = tt

    found_take : (found : Found) → p.code.stood x point ≡ AtStatement found → Acts (found_act c f.result found)
    found_take (Simple t) stood = simple_take t stood
    found_take (Test None) stood = tt
    found_take (Test (Some t)) stood = any_then ActTakes (value c t) _ λ v. any_then ActTakes (holds v) _ λ h. tt
    found_take Nothing stood = tt

    pub act_take : (o : Option Value) (stood : Stood) → p.code.stood x point ≡ stood → Acts (act c f.result o stood)
    act_take o (AtStatement found) is = found_take found is
    act_take o (AtArrival found) is =
        any_then ActTakes (needed o) _ λ v.
        any_then ActTakes (needed (target_of found)) _ λ y.
        any_then ActTakes (deliver c y v) _ λ r. tt
    act_take o AtEnd is = leaves_take Unset refl

-- ---- steps

module _ {P : Type 0} (p : Form P) (Takes : Text → P → Value → Type 0) where
  abbrev pub Links : List (Frame P) → Type 0
  Links frames = Linked p Takes frames

  -- where these frames wait, the first takes an int
  abbrev pub WaitsWell : List (Frame P) → Type 0
  WaitsWell [] = Unit {0}
  WaitsWell (frame ∷ below) = TakesAt p Takes frame.function frame.point IsInt

  -- what these frames ask for
  abbrev pub AskedTakes : List (Frame P) → Asked → Type 0
  AskedTakes frames (Builtin prim) = gives_up prim ≡ true → WaitsWell frames
  AskedTakes frames (Host y) = Unit {0}
  AskedTakes frames (ToSpawn y) = Unit {0}
  AskedTakes frames (Section y) = WaitsWell frames

  -- what a step of these frames comes to
  abbrev pub DoneTakes : List (Frame P) → Done P → Type 0
  DoneTakes frames (Went t k) = Links frames → StackTakes p Takes k
  DoneTakes frames (Returned v t) = Unit {0}
  DoneTakes frames (Asks r) = AskedTakes frames r.asked

  -- control goes on
  on_take : (frame : Frame P) (below : List (Frame P)) (next : P) (slots : List Slot) (t : Store) → DoneTakes (frame ∷ below) (Went t (record { frames = record { function = frame.function; point = next; slots = slots } ∷ below; arriving = None }))
  on_take frame below next slots t h = record { linked = h; arriving = tt }

  module _ (frame : Frame P) (f : Function) (below : List (Frame P)) (is : function_named p.program frame.function ≡ Some f) where
    returns_to : (v : Value) (t : Store) → Fits f.result v → (frames : List (Frame P)) → frames ≡ below → DoneTakes (frame ∷ below) (returned_to frames v t)
    returns_to v t fits [] e = tt
    returns_to v t fits (g ∷ frames) e = λ h. let under = subst (λ bs. TakesFrom p Takes frame.function bs × Links bs) (sym e) h in record { linked = under.1; arriving = under.0 f is v fits }

    -- a frame that is entered
    entered : (g : Function) (called : Frame P) (back : P) (t : Store) → called.function ≡ g.called → function_named p.program g.called ≡ Some g → p.code.arrival frame.function frame.point ≡ Some back → TakesAt p Takes frame.function frame.point (Fits g.result)
        → DoneTakes (frame ∷ below) (Went t (record { frames = called ∷ moved_to frame back ∷ below; arriving = None }))
    entered g called back t name is_g e takes h = record {
      linked = (
        λ k is_k v fits.
            let same : k ≡ g = let i : Some k ≡ Some g = sym is_k ∙ (ap (function_named p.program) name ∙ is_g) in cc in
            takes back e v (subst (λ (j : Function). Fits j.result v) same fits),
        h,
      );
      arriving = tt;
    }

    performs : (s : Store) (a : Act) → DoesTake p Takes frame.function f frame.point a → Only (DoneTakes (frame ∷ below)) (perform p s frame below a)
    performs s (GoesOn h t slots) k = any_then (DoneTakes (frame ∷ below)) (needed (p.code.goes frame.function frame.point h)) _ λ next. on_take frame below next slots t
    performs s (Enters g vs) k =
        only_then (λ (r : Frame P × Store). r.0.function ≡ g.called) (DoneTakes (frame ∷ below)) (make_frame p g vs s) _ (any_then (λ (r : Frame P × Store). r.0.function ≡ g.called) (call_slots p.program g vs s) _ (λ r. refl)) λ r name.
        back_known (p.code.arrival frame.function frame.point) refl r name
      where
        back_known : (o : Option P) → p.code.arrival frame.function frame.point ≡ o → (r : Frame P × Store) → r.0.function ≡ g.called → Only (DoneTakes (frame ∷ below)) (needed o >>= λ back. Gives (Went r.1 (record { frames = r.0 ∷ moved_to frame back ∷ below; arriving = None })))
        back_known None e r name = tt
        back_known (Some back) e r name = entered g r.0 back r.1 name k.0 e k.1
    performs s (Leaves v t) k = returns_to v t k below refl
    performs s (AsksFor r) k = asked r.asked k
      where
        asked : (a : Asked) → AskTakes p Takes frame.function f frame.point a → AskedTakes (frame ∷ below) a
        asked (Builtin prim) k = k
        asked (Host y) k = tt
        asked (ToSpawn y) k = tt
        asked (Section y) k = k

  -- the answer to a request
  pub answered_take : (s : Store) (k : Stack P) (v : Value) → Only (DoneTakes k.frames) (answered p s k v)
  answered_take s k v = go k.frames
    where
      go : (frames : List (Frame P)) → Only (DoneTakes frames) (frames_answered p s v frames)
      go [] = tt
      go (frame ∷ below) =
          any_then (DoneTakes (frame ∷ below)) (needed (asking (p.code.stood frame.function frame.point))) _ λ found.
          goes (needed (target_of found))
        where
          -- what arrives lets control go on
          goes : (a : Answer (Option Expr)) → Only (DoneTakes (frame ∷ below)) ((a >>= λ x. deliver (context p s frame) x v >>= λ r. Gives (GoesOn true r.1 r.0)) >>= perform p s frame below)
          goes (Gives x) = go_on (deliver (context p s frame) x v)
            where
              go_on : (a : Answer (List Slot × Store)) → Only (DoneTakes (frame ∷ below)) ((a >>= λ r. Gives (GoesOn true r.1 r.0)) >>= perform p s frame below)
              go_on (Gives r) = any_then (DoneTakes (frame ∷ below)) (needed (p.code.goes frame.function frame.point true)) _ λ next. on_take frame below next r.0 r.1
              go_on (Faults fault) = tt
              go_on NoAnswer = tt
          goes (Faults fault) = tt
          goes NoAnswer = tt

  -- a stack that waits
  pub waiting_take : (k : Stack P) → Links k.frames → WaitsWell k.frames → Only (λ (j : Stack P). Links j.frames × TakesInts p Takes j.frames) (waiting p k)
  waiting_take k h w = go k.frames h w
    where
      go : (frames : List (Frame P)) → Links frames → WaitsWell frames → Only (λ (j : Stack P). Links j.frames × TakesInts p Takes j.frames) (waiting_frames p frames)
      go [] h w = tt
      go (frame ∷ below) h w = back_known (p.code.arrival frame.function frame.point) refl
        where
          back_known : (o : Option P) → p.code.arrival frame.function frame.point ≡ o → Only (λ (j : Stack P). Links j.frames × TakesInts p Takes j.frames) (needed o >>= λ back. Gives (record { frames = moved_to frame back ∷ below; arriving = None }))
          back_known None e = tt
          back_known (Some back) e = (h, λ v i. w back e v i)

  module _ (code : CodeTakes p Takes) where
    -- a step of the innermost frame
    pub plain_take : (s : Store) (k : Stack P) → Only (DoneTakes k.frames) (plain p s k)
    plain_take s k = go k.frames
      where
        found : (frame : Frame P) (below : List (Frame P)) (f : Option Function) → function_named p.program frame.function ≡ f
            → Only (DoneTakes (frame ∷ below)) (needed f >>= λ f. act (context p s frame) f.result k.arriving (p.code.stood frame.function frame.point) >>= perform p s frame below)
        found frame below None is = tt
        found frame below (Some f) is =
            only_then (DoesTake p Takes frame.function f frame.point) (DoneTakes (frame ∷ below)) (act (context p s frame) f.result k.arriving (p.code.stood frame.function frame.point)) _
            (act_take p Takes code frame.function f is frame.point frame.slots s k.arriving (p.code.stood frame.function frame.point) refl)
            λ a i. performs frame f below is s a i

        go : (frames : List (Frame P)) → Only (DoneTakes frames) (frames_step p s k.arriving frames)
        go [] = tt
        go (frame ∷ below) = found frame below (function_named p.program frame.function) refl
