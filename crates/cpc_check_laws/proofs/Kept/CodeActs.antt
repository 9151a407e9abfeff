-- What a step does hands over codes of native or detached functions, where they are codes.
use Rattle.std.proofs.Common.{zero, suc, ℕ, Bool, true, false, List, [], ◌∷◌, replicate, Option, Some, None}
use Rattle.std.specs.List.{All}
use Rattle.std.proofs.lemmas.List.Elements.{All-nil, All-cons, All-head, All-tail, All-set, All-replicate}
use Rattle.cpc_base.specs.Bytes.{Text}
use Rattle.cpc_num.specs.declared.kinds.Kind.TheVariants.{Long}
use Rattle.cpc_tree.specs.declared.program.Mode.TheVariants.{Extern}
use Rattle.cpc_tree.specs.Syntax.{Ty, TyInt, Variable, Expr, ENamed, Exprs, Stmt, Declare, Assign, Call, Detach, Spawn, Return, Function, Program}
use Rattle.cpc_tree.specs.Lists.{first_or, rest_of}
use Rattle.cpc_tree.specs.Points.{Found, Simple, Test, Nothing}
use Rattle.cpc_tree.specs.Primitives.{Primitive, Taken, AnyInteger, SetOf, FreeOf, primitive_named}
use Rattle.cpc_tree.specs.Registers.{variables, is_register}
use Rattle.cpc_tree.specs.Typing.{Scope, Meant, AFunction, NotMeant, named, size, function_named, parameter_types, code_parameters}
use Rattle.cpc_store.specs.declared.values.Class.TheVariants.{Auto}
use Rattle.cpc_store.specs.Store.{Value, Unset, Whole, At, Store, alloc, free, save}
use Rattle.cpc_meaning.specs.Answer.{Answer, Gives, ◌>>=◌, of_result, needed}
use Rattle.cpc_meaning.specs.Eval.{Slot, Register, Boxed, Context, Spot, InSlot, InCell, place, place_type, used_type, value, values, holds, assigned, at_type}
use Rattle.cpc_meaning.specs.Slots.{first_cells, make_slot, make_slots, call_slots, free_slots}
use Rattle.cpc_meaning.specs.Requests.{section_takes, takes, set_integer, taken_as, all_taken, all_long, arguments, byte_values}
use Rattle.cpc_meaning.specs.Act.{Stood, AtStatement, AtArrival, AtEnd, Act, GoesOn, Enters, Leaves, AsksFor, passes, write, assign, deliver, right_side, assigns, calls, callee, calls_value, puts_text, asks_with, calls_named, calls_expr, detaches, spawns, leaves, returns, simple_act, found_act, target_of, arrives, act}
use Rattle.cpc_meaning.specs.Plain.{Form, Frame, Stack, Done, Went, Returned, Asks, make_frame, moved_to, returned_to, perform, context, frames_step, plain, asking, frames_answered, answered, waiting_frames, waiting}
use Rattle.cpc_meaning.proofs.SameValues.{at}
use Rattle.cpc_meaning_laws.proofs.Pointer.Blocks.{Only, only_then, any_then}
use Rattle.cpc_check_laws.specs.Kept.Codes.{IsCode, IsCodeIf, IsCodeSlot, IsCodeStore, IsCodeFrame, IsCodeStack}
use Rattle.cpc_check_laws.proofs.Kept.Codes.{alloc_code, free_code, save_code, assigned_code, at_type_code, value_code, values_code}

module _ (p : Program) where
  abbrev C : Value → Type 0
  C v = IsCode p v

  -- slots and a store
  abbrev pub SlotsCode : List Slot × Store → Type 0
  SlotsCode r = IsCodeStore p r.1 × All (IsCodeSlot p) r.0

  -- ---- the variables of a call

  first_code : (vs : List Value) → All C vs → C (first_or Unset vs)
  first_code [] h = tt
  first_code (v ∷ vs) h = All-head C v vs h

  rest_code : (vs : List Value) → All C vs → All C (rest_of vs)
  rest_code [] h = h
  rest_code (v ∷ vs) h = All-tail C v vs h

  first_cells_code : (n : ℕ) (v : Value) → C v → All C (first_cells n v)
  first_cells_code zero v h = All-nil C
  first_cells_code (suc n) v h = All-cons C v (replicate n Unset) h (All-replicate C n Unset tt)

  slots_code : (f : Function) (n : ℕ) (xs : List Variable) (vs : List Value) (s : Store) → IsCodeStore p s → All C vs → Only SlotsCode (make_slots p f n xs vs s)
  slots_code f n [] vs s store h = (store, All-nil (IsCodeSlot p))
  slots_code f n (x ∷ xs) vs s store h = any_then SlotsCode (needed (size p x.type)) _ (λ cells. go cells (is_register f n x) (λ t on. slots_code f (suc n) xs (rest_of vs) t on (rest_code vs h)))
    where
      go : (cells : ℕ) (b : Bool) → ((t : Store) → IsCodeStore p t → Only SlotsCode (make_slots p f (suc n) xs (rest_of vs) t))
          → Only SlotsCode (Gives (make_slot b cells (first_or Unset vs) s) >>= (λ a. make_slots p f (suc n) xs (rest_of vs) a.1 >>= (λ r. Gives (a.0 ∷ r.0, r.1))))
      go cells true rest =
          only_then SlotsCode SlotsCode (make_slots p f (suc n) xs (rest_of vs) s) _ (rest s store)
          (λ r k. (k.0, All-cons (IsCodeSlot p) (Register (first_or Unset vs)) r.0 (first_code vs h) k.1))
      go cells false rest =
          let t = alloc Auto (first_cells cells (first_or Unset vs)) s in
          only_then SlotsCode SlotsCode (make_slots p f (suc n) xs (rest_of vs) t) _ (rest t (alloc_code p Auto (first_cells cells (first_or Unset vs)) s store (first_cells_code cells (first_or Unset vs) (first_code vs h))))
          (λ r k. (k.0, All-cons (IsCodeSlot p) (Boxed _) r.0 tt k.1))

  freed_code : (slots : List Slot) (s : Store) → IsCodeStore p s → Only (IsCodeStore p) (free_slots slots s)
  freed_code [] s h = h
  freed_code (Register v ∷ slots) s h = freed_code slots s h
  freed_code (Boxed n ∷ slots) s h = only_then (IsCodeStore p) (IsCodeStore p) (of_result (free Auto (At Auto n 0) s)) (free_slots slots) (free_code p Auto (At Auto n 0) s h) λ t i. freed_code slots t i

  -- ---- what is handed over

  arguments_code : (ts : List Ty) (vs : List Value) → All C vs → Only (All C) (arguments ts vs)
  arguments_code [] [] h = h
  arguments_code (t ∷ ts) (v ∷ vs) h =
      only_then C (All C) (assigned t v) _ (assigned_code p t v (All-head C v vs h)) λ w i.
      only_then (All C) (All C) (arguments ts vs) _ (arguments_code ts vs (All-tail C v vs h)) λ ws j. All-cons C w ws i j
  arguments_code [] (v ∷ vs) h = tt
  arguments_code (t ∷ ts) [] h = tt

  integer_code : (v : Value) → Only C (set_integer v)
  integer_code Unset = tt
  integer_code (Whole kind z) = tt
  integer_code _ = tt

  taken_code : (t : Taken) (v : Value) → C v → Only C (taken_as t v)
  taken_code AnyInteger v h = integer_code v
  taken_code (SetOf t) v h = at_type_code p t v h
  taken_code (FreeOf t) v h = assigned_code p t v h

  all_taken_code : (ts : List Taken) (vs : List Value) → All C vs → Only (All C) (all_taken ts vs)
  all_taken_code [] [] h = h
  all_taken_code (t ∷ ts) (v ∷ vs) h =
      only_then C (All C) (taken_as t v) _ (taken_code t v (All-head C v vs h)) λ w i.
      only_then (All C) (All C) (all_taken ts vs) _ (all_taken_code ts vs (All-tail C v vs h)) λ ws j. All-cons C w ws i j
  all_taken_code [] (v ∷ vs) h = tt
  all_taken_code (t ∷ ts) [] h = tt

  all_long_code : (vs : List Value) → All C vs → Only (All C) (all_long vs)
  all_long_code [] h = h
  all_long_code (v ∷ vs) h =
      only_then C (All C) (at_type (TyInt Long) v) _ (at_type_code p (TyInt Long) v (All-head C v vs h)) λ w i.
      only_then (All C) (All C) (all_long vs) _ (all_long_code vs (All-tail C v vs h)) λ ws j. All-cons C w ws i j

  bytes_code : (bs : Text) → All C (byte_values bs)
  bytes_code [] = All-nil C
  bytes_code (b ∷ bs) = All-cons C _ (byte_values bs) tt (bytes_code bs)

  -- ---- what a step does

  -- an act
  abbrev pub ActCode : Act → Type 0
  ActCode (GoesOn h t slots) = SlotsCode (slots, t)
  ActCode (Enters f vs) = All C vs
  ActCode (Leaves v t) = IsCodeStore p t × C v
  ActCode (AsksFor r) = All C r.arguments

  module _ (scope : Scope) (slots : List Slot) (s : Store) (store : IsCodeStore p s) (held : All (IsCodeSlot p) slots) where
    abbrev c : Context
    c = at p scope slots s

    abbrev Acts : Answer Act → Type 0
    Acts a = Only ActCode a

    value_so : (e : Expr) → Only C (value c e)
    value_so e = value_code p scope slots s store held e

    values_so : (es : Exprs) → Only (All C) (values c es)
    values_so es = values_code p scope slots s store held es

    passes_on : (h : Bool) → Acts (passes c h)
    passes_on h = (store, held)

    writes : (spot : Spot) (v : Value) → C v → Only SlotsCode (write c spot v)
    writes (InSlot k) v h = (store, All-set (IsCodeSlot p) slots k (Register v) h held)
    writes (InCell cl n k) v h = only_then (IsCodeStore p) SlotsCode (of_result (save cl n k v s)) _ (save_code p cl n k v s store h) λ t i. (i, held)

    assigns_code : (e : Expr) (v : Value) → C v → Only SlotsCode (assign c e v)
    assigns_code e v h =
        any_then SlotsCode (place c e) _ λ spot.
        any_then SlotsCode (needed (place_type c e)) _ λ t.
        only_then C SlotsCode (assigned t v) _ (assigned_code p t v h) λ w i. writes spot w i

    delivers : (o : Option Expr) (v : Value) → C v → Only SlotsCode (deliver c o v)
    delivers None v h = (store, held)
    delivers (Some e) v h = assigns_code e v h

    assigns_act : (x v : Expr) → Acts (assigns c x v)
    assigns_act x v =
        only_then C ActCode (value c v) _ (value_so v) λ w h.
        only_then SlotsCode ActCode (assign c x w) _ (assigns_code x w h) λ r k. k

    calls_act : (f : Function) (es : Exprs) → Acts (calls c f es)
    calls_act f es =
        only_then (All C) ActCode (values c es) _ (values_so es) λ vs h.
        only_then (All C) ActCode (arguments (parameter_types f) vs) _ (arguments_code (parameter_types f) vs h) λ ws i. i

    calls_value_act : (f : Expr) (es : Exprs) → Acts (calls_value c f es)
    calls_value_act f es =
        any_then ActCode (value c f) _ λ v.
        any_then ActCode (needed (used_type c f)) _ λ t.
        only_then (All C) ActCode (values c es) _ (values_so es) λ vs h.
        only_then (All C) ActCode (arguments (code_parameters t) vs) _ (arguments_code (code_parameters t) vs h) λ ws i.
        any_then ActCode (callee p t v) _ λ g. i

    asks_act : (prim : Primitive) (es : Exprs) (o : Option Text) → Acts (asks_with c prim es o)
    asks_act prim es (Some bytes) = bytes_code bytes
    asks_act prim es None =
        only_then (All C) ActCode (values c es) _ (values_so es) λ vs h.
        only_then (All C) ActCode (all_taken (takes p prim vs) vs) _ (all_taken_code (takes p prim vs) vs h) λ ws i. i

    calls_named_act : (x : Text) (es : Exprs) (m : Meant) (prim : Option Primitive) (f : Option Function) → Acts (calls_named c x es m prim f)
    calls_named_act x es (AFunction Extern r ps) prim f =
        only_then (All C) ActCode (values c es) _ (values_so es) λ vs h.
        only_then (All C) ActCode (all_long vs) _ (all_long_code vs h) λ ws i. i
    calls_named_act x es (AFunction mode r ps) prim (Some f) = calls_act f es
    calls_named_act x es NotMeant (Some prim) f = asks_act prim es (puts_text prim es)
    calls_named_act x es m prim f = calls_value_act (ENamed x) es

    calls_expr_act : (f : Expr) (es : Exprs) → Acts (calls_expr c f es)
    calls_expr_act (ENamed x) es = calls_named_act x es (named p scope x) (primitive_named x) (function_named p x)
    calls_expr_act f es = calls_value_act f es

    detaches_act : (f : Text) (es : Exprs) → Acts (detaches c f es)
    detaches_act f es =
        any_then ActCode (needed (function_named p f)) _ λ g.
        only_then (All C) ActCode (values c es) _ (values_so es) λ vs h.
        only_then (All C) ActCode (all_taken (section_takes (parameter_types g)) vs) _ (all_taken_code (section_takes (parameter_types g)) vs h) λ ws i. i

    spawns_act : (f : Text) (es : Exprs) → Acts (spawns c f es)
    spawns_act f es =
        any_then ActCode (needed (function_named p f)) _ λ g.
        only_then (All C) ActCode (values c es) _ (values_so es) λ vs h.
        only_then (All C) ActCode (arguments (parameter_types g) vs) _ (arguments_code (parameter_types g) vs h) λ ws i. i

    leaves_act : (v : Value) → C v → Acts (leaves c v)
    leaves_act v h = only_then (IsCodeStore p) ActCode (free_slots slots s) _ (freed_code slots s store) λ t i. (i, h)

    returns_act : (result : Ty) (o : Option Expr) → Acts (returns c result o)
    returns_act result None = leaves_act Unset tt
    returns_act result (Some x) =
        only_then C ActCode (value c x) _ (value_so x) λ v h.
        only_then C ActCode (assigned result v) _ (assigned_code p result v h) λ w i. leaves_act w i

    simple_code : (result : Ty) (t : Stmt) → Acts (simple_act c result t)
    simple_code result (Declare x t (Some v)) = assigns_act (ENamed x) v
    simple_code result (Assign x op v) = assigns_act x (right_side op x v)
    simple_code result (Call x f es) = calls_expr_act f es
    simple_code result (Detach x f es) = detaches_act f es
    simple_code result (Spawn f es) = spawns_act f es
    simple_code result (Return v) = returns_act result v
    simple_code result t = passes_on true

    found_code : (result : Ty) (f : Found) → Acts (found_act c result f)
    found_code result (Simple t) = simple_code result t
    found_code result (Test None) = passes_on true
    found_code result (Test (Some t)) = any_then ActCode (value c t) _ λ v. any_then ActCode (holds v) _ λ h. passes_on h
    found_code result Nothing = tt

    arrives_code : (f : Found) (o : Option Value) → IsCodeIf p o → Acts (arrives c f o)
    arrives_code f None h = tt
    arrives_code f (Some v) h =
        any_then ActCode (needed (target_of f)) _ λ x.
        only_then SlotsCode ActCode (deliver c x v) _ (delivers x v h) λ r k. k

    act_code : (result : Ty) (o : Option Value) (stood : Stood) → IsCodeIf p o → Acts (act c result o stood)
    act_code result o (AtStatement f) h = found_code result f
    act_code result o (AtArrival f) h = arrives_code f o h
    act_code result o AtEnd h = leaves_act Unset tt

-- ---- steps

-- what a step comes to
abbrev pub DoneCode : {P : Type 0} → Program → Done P → Type 0
DoneCode p (Went t k) = IsCodeStore p t × IsCodeStack p k
DoneCode p (Returned v t) = IsCodeStore p t
DoneCode p (Asks r) = All (IsCode p) r.arguments

module _ {P : Type 0} (p : Form P) where
  abbrev Frames : List (Frame P) → Type 0
  Frames frames = All (IsCodeFrame p.program) frames

  abbrev Dones : Done P → Type 0
  Dones d = DoneCode p.program d

  -- a function is entered
  pub frame_code : (f : Function) (vs : List Value) (s : Store) → IsCodeStore p.program s → All (IsCode p.program) vs → Only (λ (r : Frame P × Store). IsCodeStore p.program r.1 × IsCodeFrame p.program r.0) (make_frame p f vs s)
  frame_code f vs s store h = only_then (SlotsCode p.program) (λ (r : Frame P × Store). IsCodeStore p.program r.1 × IsCodeFrame p.program r.0) (call_slots p.program f vs s) _ (slots_code p.program f 0 (variables f) vs s store h) λ r k. k

  returns_to : (frames : List (Frame P)) (v : Value) (t : Store) → Frames frames → IsCodeStore p.program t → IsCode p.program v → Dones (returned_to frames v t)
  returns_to [] v t h store i = store
  returns_to (frame ∷ frames) v t h store i = (store, record { frames = h; arriving = i })

  performs : (s : Store) (frame : Frame P) (below : List (Frame P)) → IsCodeStore p.program s → IsCodeFrame p.program frame → Frames below → (a : Act) → ActCode p.program a → Only Dones (perform p s frame below a)
  performs s frame below store held rest (GoesOn h t slots) k = any_then Dones (needed (p.code.goes frame.function frame.point h)) _ λ next.
      (k.0, record { frames = All-cons (IsCodeFrame p.program) (record { function = frame.function; point = next; slots = slots }) below k.1 rest; arriving = tt })
  performs s frame below store held rest (Enters f vs) k =
      only_then (λ (r : Frame P × Store). IsCodeStore p.program r.1 × IsCodeFrame p.program r.0) Dones (make_frame p f vs s) _ (frame_code f vs s store k) λ r i.
      any_then Dones (needed (p.code.arrival frame.function frame.point)) _ λ back.
      (i.0, record { frames = All-cons (IsCodeFrame p.program) r.0 (moved_to frame back ∷ below) i.1 (All-cons (IsCodeFrame p.program) (moved_to frame back) below held rest); arriving = tt })
  performs s frame below store held rest (Leaves v t) k = returns_to below v t rest k.0 k.1
  performs s frame below store held rest (AsksFor r) k = k

  -- a step of the innermost frame
  pub plain_code : (s : Store) (k : Stack P) → IsCodeStore p.program s → IsCodeStack p.program k → Only Dones (plain p s k)
  plain_code s k store h = go k.frames h.frames
    where
      go : (frames : List (Frame P)) → Frames frames → Only Dones (frames_step p s k.arriving frames)
      go [] i = tt
      go (frame ∷ below) i =
          let held = All-head (IsCodeFrame p.program) frame below i in
          any_then Dones (needed (function_named p.program frame.function)) _ λ f.
          only_then (ActCode p.program) Dones (act (context p s frame) f.result k.arriving (p.code.stood frame.function frame.point)) _
          (act_code p.program (p.code.scope frame.function frame.point) frame.slots s store held f.result k.arriving (p.code.stood frame.function frame.point) h.arriving)
          λ a j. performs s frame below store held (All-tail (IsCodeFrame p.program) frame below i) a j

  -- the answer to a request
  pub answered_code : (s : Store) (k : Stack P) (v : Value) → IsCodeStore p.program s → IsCodeStack p.program k → IsCode p.program v → Only Dones (answered p s k v)
  answered_code s k v store h c = go k.frames h.frames
    where
      go : (frames : List (Frame P)) → Frames frames → Only Dones (frames_answered p s v frames)
      go [] i = tt
      go (frame ∷ below) i =
          let held = All-head (IsCodeFrame p.program) frame below i in
          any_then Dones (needed (asking (p.code.stood frame.function frame.point))) _ λ f.
          only_then (ActCode p.program) Dones (arrives (context p s frame) f (Some v)) _
          (arrives_code p.program (p.code.scope frame.function frame.point) frame.slots s store held f (Some v) c)
          λ a j. performs s frame below store held (All-tail (IsCodeFrame p.program) frame below i) a j

  -- a stack that waits
  pub waiting_code : (k : Stack P) → IsCodeStack p.program k → Only (IsCodeStack p.program) (waiting p k)
  waiting_code k h = go k.frames h.frames
    where
      go : (frames : List (Frame P)) → Frames frames → Only (IsCodeStack p.program) (waiting_frames p frames)
      go [] i = tt
      go (frame ∷ below) i = any_then (IsCodeStack p.program) (needed (p.code.arrival frame.function frame.point)) _ λ back.
          record { frames = All-cons (IsCodeFrame p.program) (moved_to frame back) below (All-head (IsCodeFrame p.program) frame below i) (All-tail (IsCodeFrame p.program) frame below i); arriving = tt }
