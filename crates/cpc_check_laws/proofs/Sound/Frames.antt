-- Frames of typed functions: the slots that a call makes, and a step of the innermost frame.
use Rattle.std.proofs.Common.{◌≡◌, ◌==◌, not, ℕ, zero, suc, ◌+◌, Bool, true, false, List, [], ◌∷◌, ◌++◌, map, slice_get, Option, Some, None, refl, sym, ◌∙◌, ap, subst, arith}
use Rattle.cpc_base.specs.Bytes.{Text}
use Rattle.cpc_base.specs.declared.stop.Dialect.{Dialect}
use Rattle.cpc_base.proofs.Truth.{by_false_true, and_both, eq_reflexive, or_by_first, or_by_second, not_holds}
use Rattle.cpc_tree.specs.Syntax.{Ty, Variable, Parameter, Function, Program}
use Rattle.cpc_tree.specs.Lists.{first_or, rest_of, holds_number}
use Rattle.cpc_tree.specs.Typing.{is_scalar, size, function_named, parameter_types, parameter_type}
use Rattle.cpc_tree.specs.Points.{Path, Point, Here, Arrival, End, found, next_point}
use Rattle.cpc_tree.specs.Registers.{as_variable, variables, is_register, addressed, scope_in_function}
use Rattle.cpc_tree.specs.declared.program.Mode.{Mode}
use Rattle.cpc_store.specs.declared.values.Class.TheVariants.{Auto}
use Rattle.cpc_store.specs.Store.{Value, Unset, Store, alloc}
use Rattle.cpc_meaning.specs.Answer.{Answer, Gives, ◌>>=◌}
use Rattle.cpc_meaning.specs.Eval.{Slot, Register, Boxed, Context}
use Rattle.cpc_meaning.specs.Slots.{first_cells, make_slot, make_slots, call_slots}
use Rattle.cpc_meaning.specs.Act.{Act, GoesOn, Enters, Leaves, AsksFor, act, arrives}
use Rattle.cpc_meaning.specs.Plain.{Frame, Stack, Done, Went, Returned, Asks, make_frame, returned_to, perform, frames_step, plain, frames_answered, answered, waiting, waiting_frames, asking}
use Rattle.cpc_meaning.specs.Trees.{trees, first_point, stood_at, scope_from, point_after, arrival_at}
use Rattle.cpc_check_rules.specs.Operators.{is_detached}
use Rattle.cpc_check_laws.specs.Sound.Suits.{Comes, Suits, SuitSlots, IsBoxed, AllBoxed}
use Rattle.cpc_check_laws.specs.Sound.Control.{Stands, GoesOnward, IsPoint}
use Rattle.cpc_check_laws.specs.Sound.Typed.{AllSized, TypedFunction, TypedProgram}
use Rattle.cpc_check_laws.proofs.Sound.Answers.{comes_then, comes_as, comes_needed}
use Rattle.cpc_check_laws.proofs.Sound.Copies.{CopyStays, alloc_stays}
use Rattle.cpc_check_laws.proofs.Sound.Control.{begins, goes_next}
use Rattle.cpc_check_laws.proofs.Sound.Paths.{types_of, function_scope, function_typed, function_boxed}
use Rattle.cpc_check_laws.proofs.Sound.Requests.{AllSuit, IsRequest}
use Rattle.cpc_check_laws.proofs.Sound.Acts.{Awaits, ActOk, ArrivedOk, LeftOk, Wrote, act_comes, end_comes, arrival_comes}

-- ---- the slots of a call

-- arguments for the first of these variables
abbrev pub Given : List Variable → List Value → Type 0
Given [] vs = Unit {0}
Given (x ∷ xs) [] = Unit {0}
Given (x ∷ xs) (v ∷ vs) = Suits x.type v × Given xs vs

pub given_none : (xs : List Variable) → Given xs []
given_none [] = tt
given_none (x ∷ xs) = tt

pub given_of : (ps : List Parameter) (xs : List Variable) (vs : List Value) → AllSuit (map parameter_type ps) vs → Given (map as_variable ps ++ xs) vs
given_of [] xs [] h = given_none xs
given_of (p ∷ ps) xs (v ∷ vs) h = (h.0, given_of ps xs vs h.1)
given_of [] xs (v ∷ vs) h = absurd h
given_of (p ∷ ps) xs [] h = absurd h

-- arguments that suit the parameters are given
pub given : (f : Function) (vs : List Value) → AllSuit (parameter_types f) vs → Given (variables f) vs
given f vs h = given_of f.parameters _ vs h

first_given : (x : Variable) (xs : List Variable) (vs : List Value) → Given (x ∷ xs) vs → Suits x.type (first_or Unset vs)
first_given x xs [] h = tt
first_given x xs (v ∷ vs) h = h.0

rest_given : (x : Variable) (xs : List Variable) (vs : List Value) → Given (x ∷ xs) vs → Given xs (rest_of vs)
rest_given x xs [] h = given_none xs
rest_given x xs (v ∷ vs) h = h.1

-- no register from the n-th on has an address
abbrev NoneTaken : Function → ℕ → List Slot → Type 0
NoneTaken f n [] = Unit {0}
NoneTaken f n (Register v ∷ slots) = (holds_number (addressed f) n ≡ false) × NoneTaken f (suc n) slots
NoneTaken f n (Boxed k ∷ slots) = NoneTaken f (suc n) slots

none_boxed : (f : Function) (n k : ℕ) (slots : List Slot) → NoneTaken f n slots → holds_number (addressed f) (n + k) ≡ true → IsBoxed (slice_get slots k)
none_boxed f n k [] h e = tt
none_boxed f n zero (Register v ∷ slots) h e = by_false_true (sym h.0 ∙ subst (λ m. holds_number (addressed f) m ≡ true) (let i : n + 0 ≡ n = omega arith in i) e)
none_boxed f n zero (Boxed m ∷ slots) h e = tt
none_boxed f n (suc k) (Register v ∷ slots) h e = none_boxed f (suc n) k slots h.1 (subst (λ m. holds_number (addressed f) m ≡ true) (let i : n + suc k ≡ suc n + k = omega arith in i) e)
none_boxed f n (suc k) (Boxed m ∷ slots) h e = none_boxed f (suc n) k slots h (subst (λ m. holds_number (addressed f) m ≡ true) (let i : n + suc k ≡ suc n + k = omega arith in i) e)

all_within : (f : Function) (slots : List Slot) (ks : List ℕ) → NoneTaken f 0 slots → ((k : ℕ) → holds_number ks k ≡ true → holds_number (addressed f) k ≡ true) → AllBoxed slots ks
all_within f slots [] h w = tt
all_within f slots (k ∷ ks) h w = (
  none_boxed f 0 k slots h (subst (λ m. holds_number (addressed f) m ≡ true) (let i : k ≡ 0 + k = omega arith in i) (w k (or_by_first (k == k) (holds_number ks k) (eq_reflexive k)))),
  all_within f slots ks h (λ j e. w j (or_by_second (k == j) (holds_number ks j) e)),
)

-- the slots of variables from the n-th on
abbrev Made : Function → ℕ → List Variable → Store → List Slot × Store → Type 0
Made f n xs s r = SuitSlots (map (λ (x : Variable). x.type) xs) r.0 × NoneTaken f n r.0 × CopyStays s r.1

register_is : (f : Function) (n : ℕ) (x : Variable) → is_register f n x ≡ true → (is_scalar x.type ≡ true) × (holds_number (addressed f) n ≡ false)
register_is f n x e = let h = and_both (is_scalar x.type) (not (holds_number (addressed f) n)) e in (h.0, not_holds (holds_number (addressed f) n) h.1)

made_come : (p : Program) (f : Function) (n : ℕ) (xs : List Variable) (vs : List Value) (s : Store) → AllSized p xs → Given xs vs → Comes (Made f n xs s) (make_slots p f n xs vs s)
made_come p f n [] vs s z g = (tt, tt, λ h. h)
made_come p f n (x ∷ xs) vs s z g =
    comes_needed (Made f n (x ∷ xs) s) (size p x.type) z.0.0 _ z.0.1 (go (is_register f n x) refl (λ t. made_come p f (suc n) xs (rest_of vs) t z.1 (rest_given x xs vs g)))
  where
    go : (b : Bool) → is_register f n x ≡ b → ((t : Store) → Comes (Made f (suc n) xs t) (make_slots p f (suc n) xs (rest_of vs) t))
        → Comes (Made f n (x ∷ xs) s) (Gives (make_slot b z.0.0 (first_or Unset vs) s) >>= (λ a. make_slots p f (suc n) xs (rest_of vs) a.1 >>= (λ r. Gives (a.0 ∷ r.0, r.1))))
    go true e rest =
        let i = register_is f n x e in
        comes_then (Made f (suc n) xs s) (Made f n (x ∷ xs) s) (make_slots p f (suc n) xs (rest_of vs) s) _ (rest s) (λ m k. (((i.0, first_given x xs vs g), k.0), (i.1, k.1), k.2))
    go false e rest =
        let t = alloc Auto (first_cells z.0.0 (first_or Unset vs)) s in
        comes_then (Made f (suc n) xs t) (Made f n (x ∷ xs) s) (make_slots p f (suc n) xs (rest_of vs) t) _ (rest t)
        (λ m k. ((tt, k.0), k.1, λ h. k.2 (alloc_stays Auto (first_cells z.0.0 (first_or Unset vs)) s refl h)))

-- ---- stacks

module _ (d : Dialect) (p : Program) where
  -- a frame of a function; in a section all functions are detached
  pub record FrameOk (closed : Bool) (x : Text) (slots : List Slot) (f : Function) : Type 0 where
    pub is_function : function_named p x ≡ Some f
    pub suits : SuitSlots (types_of f) slots
    pub boxed : AllBoxed slots (addressed f)
    pub closes : closed ≡ true → is_detached f.mode ≡ true

  abbrev pub WaitsFor : Function → Point → Ty → Type 0
  WaitsFor f point r = (q : Path) × (point ≡ Arrival q) × Awaits p (scope_in_function f q) (found f.body q) r

  -- frames that wait for a value of the type, where the last one gives R
  abbrev pub Below : Bool → Ty → Ty → List (Frame Point) → Type 0
  Below closed R r [] = r ≡ R
  Below closed R r (frame ∷ below) = (f : Function) × FrameOk closed frame.function frame.slots f × WaitsFor f frame.point r × Below closed R f.result below

  -- where the first frame is, and the value that is arriving at it
  abbrev pub AtPoint : Function → Point → Option Value → Type 0
  AtPoint f (Here q) o = Stands (found f.body q)
  AtPoint f (Arrival q) (Some v) = (r : Ty) × Awaits p (scope_in_function f q) (found f.body q) r × Suits r v
  AtPoint f (Arrival q) None = ⊥
  AtPoint f End o = Unit {0}

  abbrev pub Running : Bool → Ty → List (Frame Point) → Option Value → Type 0
  Running closed R [] o = ⊥
  Running closed R (frame ∷ below) o = (f : Function) × FrameOk closed frame.function frame.slots f × AtPoint f frame.point o × Below closed R f.result below

  -- the first frame stands where an answer of the type is taken
  abbrev pub Asking : Bool → Ty → Ty → List (Frame Point) → Type 0
  Asking closed R r [] = ⊥
  Asking closed R r (frame ∷ below) =
      (f : Function) × FrameOk closed frame.function frame.slots f × ((q : Path) × (frame.point ≡ Here q) × Awaits p (scope_in_function f q) (found f.body q) r) × Below closed R f.result below

  -- the first frame waits for a value of the type
  abbrev pub Waiting : Bool → Ty → Ty → List (Frame Point) → Type 0
  Waiting closed R r [] = ⊥
  Waiting closed R r (frame ∷ below) = Below closed R r (frame ∷ below)

  -- what a step comes to
  abbrev pub DoneOk : Bool → Ty → Store → List (Frame Point) → Done Point → Type 0
  DoneOk closed R s frames (Went t k) = Running closed R k.frames k.arriving × CopyStays s t
  DoneOk closed R s frames (Returned v t) = Suits R v × CopyStays s t
  DoneOk closed R s frames (Asks r) = (mode : Mode) × (closed ≡ true → is_detached mode ≡ true) × ((t : Ty) × IsRequest d p mode r.asked r.arguments t × Asking closed R t frames)

  -- what an answer comes to
  abbrev pub WentOk : Bool → Ty → Store → Done Point → Type 0
  WentOk closed R s (Went t k) = Running closed R k.frames k.arriving × CopyStays s t
  WentOk closed R s _ = ⊥

  at_point : (f : Function) (point : Point) → IsPoint f.body point → AtPoint f point None
  at_point f (Here q) h = h
  at_point f (Arrival q) h = absurd h
  at_point f End h = tt

  frame_boxed : (f : Function) (slots : List Slot) → NoneTaken f 0 slots → AllBoxed slots (addressed f)
  frame_boxed f slots h = all_within f slots (addressed f) h (λ k e. e)

module _ (d : Dialect) (p : Program) (typed : TypedProgram d p) where
  abbrev pub entered : Bool → Function → Store → Frame Point × Store → Type 0
  entered closed g s r = (r.0.function ≡ g.called) × FrameOk d p closed r.0.function r.0.slots g × AtPoint d p g r.0.point None × CopyStays s r.1

  -- a function is entered
  pub frame_comes : (closed : Bool) (g : Function) (vs : List Value) (s : Store) → function_named p g.called ≡ Some g → (closed ≡ true → is_detached g.mode ≡ true) → Given (variables g) vs
      → Comes (entered closed g s) (make_frame (trees p) g vs s)
  frame_comes closed g vs s is_g closes h =
      comes_then (Made g 0 (variables g) s) (entered closed g s) (call_slots p g vs s) _ (made_come p g 0 (variables g) vs s (typed.functions g.called g is_g).sized h) λ r k.
      (refl, record { is_function = is_g; suits = k.0; boxed = frame_boxed d p g r.0 k.1; closes = closes }, subst (λ o. AtPoint d p g (first_point o) None) (sym is_g) (begins g.body), k.2)

  module _ (closed : Bool) (R : Ty) (s : Store) (x : Text) (slots : List Slot) (below : List (Frame Point)) (f : Function) (ok : FrameOk d p closed x slots f) (under : Below d p closed R f.result below) where
    abbrev at : Point → Frame Point
    at point = record { function = x; point = point; slots = slots }

    typed_f : TypedFunction d p f
    typed_f = typed.functions x f ok.is_function

    abbrev done : Point → Done Point → Type 0
    done point = DoneOk d p closed R s (at point ∷ below)

    -- control goes on
    goes_on : (point : Point) (q : Path) → ((h : Bool) → point_after (Some f) point h ≡ next_point f.body (Here q) h) → (h : Bool) (t : Store) (after : List Slot) → GoesOnward (found f.body q) → Wrote (types_of f) slots s (after, t)
        → Comes (WentOk d p closed R s) (perform (trees p) s (at point) below (GoesOn h t after))
    goes_on point q same h t after onward wrote =
        let next = goes_next f.body q h typed_f.control onward in
        comes_needed (WentOk d p closed R s) (point_after (function_named p x) point h) next.0 _ (ap (λ o. point_after o point h) ok.is_function ∙ same h ∙ next.1)
        ((f, record { is_function = ok.is_function; suits = wrote.0.0; boxed = wrote.0.1 (addressed f) ok.boxed; closes = ok.closes }, at_point d p f next.0 next.2, under), wrote.1)

    as_done : (point : Point) (a : Answer (Done Point)) → Comes (WentOk d p closed R s) a → Comes (done point) a
    as_done point a h = comes_as (WentOk d p closed R s) (done point) a h go
      where
        go : (r : Done Point) → WentOk d p closed R s r → done point r
        go (Went t k) h = h
        go (Returned v t) h = absurd h
        go (Asks r) h = absurd h

    -- a value is returned to the frames below
    returns_to : (point : Point) (fs : List (Frame Point)) (v : Value) (t : Store) → Below d p closed R f.result fs → Suits f.result v → CopyStays s t → done point (returned_to fs v t)
    returns_to point [] v t u h k = (subst (λ r. Suits r v) u h, k)
    returns_to point (frame ∷ fs) v t u h k = ((u.0, u.1, subst (λ point. AtPoint d p u.0 point (Some v)) (sym u.2.1) (f.result, u.2.2, h), u.3), k)

    performs : (q : Path) (a : Act) → ActOk d p f (scope_in_function f q) (types_of f) slots s (found f.body q) a → Comes (done (Here q)) (perform (trees p) s (at (Here q)) below a)
    performs q (GoesOn h t after) k = as_done (Here q) _ (goes_on (Here q) q (λ h. refl) h t after k.0 k.1)
    performs q (Enters g vs) k =
        comes_then (entered closed g s) (done (Here q)) (make_frame (trees p) g vs s) _ (frame_comes closed g vs s k.0 (λ e. k.2 (ok.closes e)) (given g vs k.1)) λ r h.
        ((g, h.1, h.2, (f, ok, (q, refl, k.3), under)), h.3)
    performs q (Leaves v t) k = returns_to (Here q) below v t under k.0 k.1
    performs q (AsksFor r) k = (f.mode, ok.closes, (k.0, k.1, (f, ok, (q, refl, k.2), under)))

    arrived : (point : Point) (q : Path) → ((h : Bool) → point_after (Some f) point h ≡ next_point f.body (Here q) h) → (a : Act) → ArrivedOk (types_of f) slots s (found f.body q) a → Comes (WentOk d p closed R s) (perform (trees p) s (at point) below a)
    arrived point q same (GoesOn h t after) k = goes_on point q same h t after k.0 k.1
    arrived point q same (Enters g vs) k = absurd k
    arrived point q same (Leaves v t) k = absurd k
    arrived point q same (AsksFor r) k = absurd k

    left : (a : Act) → LeftOk f.result s a → Comes (done End) (perform (trees p) s (at End) below a)
    left (Leaves v t) k = returns_to End below v t under k.0 k.1
    left (GoesOn h t after) k = absurd k
    left (Enters g vs) k = absurd k
    left (AsksFor r) k = absurd k

    abbrev ctx : Option Function → Point → Context
    ctx o point = record { program = p; scope = scope_from o point; slots = slots; store = s }

    step_at : (point : Point) (o : Option Value) → AtPoint d p f point o → Comes (done point) (frames_step (trees p) s o (at point ∷ below))
    step_at (Here q) o h =
        comes_needed (done (Here q)) (function_named p x) f _ ok.is_function
        (comes_then (ActOk d p f (scope_in_function f q) (types_of f) slots s (found f.body q)) (done (Here q)) (act (ctx (function_named p x) (Here q)) f.result o (stood_at (function_named p x) (Here q))) _
        (subst (λ u. Comes (ActOk d p f (scope_in_function f q) (types_of f) slots s (found f.body q)) (act (ctx u (Here q)) f.result o (stood_at u (Here q)))) (sym ok.is_function)
        (act_comes d p f (scope_in_function f q) (types_of f) slots s (function_scope f q) ok.suits (found f.body q) (function_typed d p f q typed_f.body) h (function_boxed slots d p f q typed_f.body ok.boxed)))
        (performs q))
    step_at (Arrival q) (Some v) h =
        comes_needed (done (Arrival q)) (function_named p x) f _ ok.is_function
        (comes_then (ArrivedOk (types_of f) slots s (found f.body q)) (done (Arrival q)) (act (ctx (function_named p x) (Arrival q)) f.result (Some v) (stood_at (function_named p x) (Arrival q))) _
        (subst (λ u. Comes (ArrivedOk (types_of f) slots s (found f.body q)) (act (ctx u (Arrival q)) f.result (Some v) (stood_at u (Arrival q)))) (sym ok.is_function)
        (arrival_comes d p f (scope_in_function f q) (types_of f) slots s (function_scope f q) ok.suits (found f.body q) h.0 v h.1 h.2 (function_boxed slots d p f q typed_f.body ok.boxed)))
        (λ a k. as_done (Arrival q) _ (arrived (Arrival q) q (λ h. refl) a k)))
    step_at (Arrival q) None h = absurd h
    step_at End o h =
        comes_needed (done End) (function_named p x) f _ ok.is_function
        (comes_then (LeftOk f.result s) (done End) (act (ctx (function_named p x) End) f.result o (stood_at (function_named p x) End)) _
        (subst (λ u. Comes (LeftOk f.result s) (act (ctx u End) f.result o (stood_at u End))) (sym ok.is_function)
        (end_comes d p f [] (types_of f) slots s tt ok.suits))
        left)

    answer_at : (q : Path) (r : Ty) (v : Value) → Awaits p (scope_in_function f q) (found f.body q) r → Suits r v → Comes (WentOk d p closed R s) (frames_answered (trees p) s v (at (Here q) ∷ below))
    answer_at q r v awaits h =
        comes_needed (WentOk d p closed R s) (asking (stood_at (function_named p x) (Here q))) (found f.body q) _ (ap (λ o. asking (stood_at o (Here q))) ok.is_function)
        (comes_then (ArrivedOk (types_of f) slots s (found f.body q)) (WentOk d p closed R s) (arrives (ctx (function_named p x) (Here q)) (found f.body q) (Some v)) _
        (subst (λ u. Comes (ArrivedOk (types_of f) slots s (found f.body q)) (arrives (ctx u (Here q)) (found f.body q) (Some v))) (sym ok.is_function)
        (arrival_comes d p f (scope_in_function f q) (types_of f) slots s (function_scope f q) ok.suits (found f.body q) r v awaits h (function_boxed slots d p f q typed_f.body ok.boxed)))
        (arrived (Here q) q (λ h. refl)))

  -- a step of a stack
  pub plain_comes : (closed : Bool) (R : Ty) (s : Store) (k : Stack Point) → Running d p closed R k.frames k.arriving → Comes (DoneOk d p closed R s k.frames) (plain (trees p) s k)
  plain_comes closed R s k h = go k.frames k.arriving h
    where
      go : (frames : List (Frame Point)) (o : Option Value) → Running d p closed R frames o → Comes (DoneOk d p closed R s frames) (frames_step (trees p) s o frames)
      go [] o h = absurd h
      go (frame ∷ below) o h = step_at closed R s frame.function frame.slots below h.0 h.1 h.3 frame.point o h.2

  -- the answer to a request
  pub answer_comes : (closed : Bool) (R r : Ty) (s : Store) (k : Stack Point) (v : Value) → Asking d p closed R r k.frames → Suits r v → Comes (WentOk d p closed R s) (answered (trees p) s k v)
  answer_comes closed R r s k v h i = go k.frames h
    where
      go : (frames : List (Frame Point)) → Asking d p closed R r frames → Comes (WentOk d p closed R s) (frames_answered (trees p) s v frames)
      go [] h = absurd h
      go (frame ∷ below) h =
          subst (λ point. Comes (WentOk d p closed R s) (frames_answered (trees p) s v (record { function = frame.function; point = point; slots = frame.slots } ∷ below))) (sym h.2.1)
          (answer_at closed R s frame.function frame.slots below h.0 h.1 h.3 h.2.0 r v h.2.2 i)

  -- a stack that waits for the answer
  pub waiting_comes : (closed : Bool) (R r : Ty) (k : Stack Point) → Asking d p closed R r k.frames → Comes (λ (j : Stack Point). Waiting d p closed R r j.frames) (waiting (trees p) k)
  waiting_comes closed R r k h = go k.frames h
    where
      go : (frames : List (Frame Point)) → Asking d p closed R r frames → Comes (λ (j : Stack Point). Waiting d p closed R r j.frames) (waiting_frames (trees p) frames)
      go [] h = absurd h
      go (frame ∷ below) h = comes_needed (λ (j : Stack Point). Waiting d p closed R r j.frames) (arrival_at frame.point) (Arrival h.2.0) _ (ap arrival_at h.2.1) (h.0, h.1, (h.2.0, refl, h.2.2), h.3)

  -- a stack that waits goes on where a value of the type arrives
  pub resumes : (closed : Bool) (R r : Ty) (frames : List (Frame Point)) (v : Value) → Waiting d p closed R r frames → Suits r v → Running d p closed R frames (Some v)
  resumes closed R r [] v h i = absurd h
  resumes closed R r (frame ∷ below) v h i = (h.0, h.1, subst (λ point. AtPoint d p h.0 point (Some v)) (sym h.2.1) (r, h.2.2, i), h.3)
