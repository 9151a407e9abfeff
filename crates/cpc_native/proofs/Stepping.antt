-- What a step of the first frame comes to, by what its act is and where control goes.
use Rattle.std.proofs.Common.{◌≡◌, ℕ, suc, Bool, true, List, [], ◌∷◌, Option, Some, None, Result, Ok, Err, refl, sym, ◌∙◌, ap, subst}
use Rattle.std.specs.Prelude.{IfSome}
use Rattle.cpc_base.specs.Bytes.{Text}
use Rattle.cpc_num.specs.declared.kinds.Fault.{Fault}
use Rattle.cpc_tree.specs.Syntax.{Expr, Function, Program, Variable}
use Rattle.cpc_tree.specs.Lists.{first_or, rest_of}
use Rattle.cpc_tree.specs.Typing.{function_named, size}
use Rattle.cpc_tree.specs.Registers.{variables, is_register}
use Rattle.cpc_tree.specs.Points.{Path, Point, Here, Arrival, End, Found, found, next_point}
use Rattle.cpc_store.specs.Store.{Value, Unset, Store}
use Rattle.cpc_meaning.specs.Answer.{Answer, Gives, Faults, NoAnswer, ◌>>=◌, needed}
use Rattle.cpc_meaning.specs.Eval.{Slot, Context}
use Rattle.cpc_meaning.specs.Slots.{make_slot, make_slots, call_slots}
use Rattle.cpc_meaning.specs.Act.{Act, GoesOn, Enters, Leaves, AsksFor, act, arrives, target_of, deliver}
use Rattle.cpc_meaning.specs.Plain.{Frame, Stack, Done, Went, make_frame, moved_to, perform, context, frames_step, asking, frames_answered}
use Rattle.cpc_meaning.specs.Trees.{trees, stood_at, scope_from, point_after, arrival_at}
use Rattle.cpc_eval_values.specs.Meets.{Meets}

-- ---- answers one after another

-- what is met goes on
pub then_meets : {A B : Type 0} (x : A) (a : Answer A) (f : A → Answer B) (r : Result B Fault) → Meets (Ok x) a → Meets r (f x) → Meets r (a >>= f)
then_meets x (Gives y) f r h k = let i : x ≡ y = cc in let P = λ (z : _). Meets r (f z) in subst P i k
then_meets x (Faults fault) f r h k = absurd cc
then_meets x NoAnswer f r h k = tt

-- a fault ends all
pub fault_meets : {A B : Type 0} (fault : Fault) (a : Answer A) (f : A → Answer B) → Meets (Err fault) a → Meets (Err fault) (a >>= f)
fault_meets fault (Gives y) f h = absurd cc
fault_meets fault (Faults other) f h = let i : fault ≡ other = cc in ap Err i
fault_meets fault NoAnswer f h = tt

-- one more slot before these
abbrev one_more : Slot × Store → List Slot × Store → Answer (List Slot × Store)
one_more t made = Gives (t.0 ∷ made.0, made.1)

-- the slots from one that is made
abbrev made_from : Program → Function → ℕ → List Variable → List Value → Slot × Store → Answer (List Slot × Store)
made_from p f n xs vs t = make_slots p f n xs vs t.1 >>= one_more t

one_more_no_fault : (t : Slot × Store) (fault : Fault) (a : Answer (List Slot × Store)) → ((e : Fault) → a ≡ Faults e → ⊥) → (a >>= one_more t) ≡ Faults fault → ⊥
one_more_no_fault t fault (Gives made) h e = cc
one_more_no_fault t fault (Faults other) h e = h other refl
one_more_no_fault t fault NoAnswer h e = cc

-- no slot of a call is a fault
pub slots_no_fault : (p : Program) (f : Function) (n : ℕ) (xs : List Variable) (vs : List Value) (s : Store) (fault : Fault) → make_slots p f n xs vs s ≡ Faults fault → ⊥
slots_no_fault p f n [] vs s fault e = cc
slots_no_fault p f n (x ∷ xs) vs s fault e = at_size (size p x.type) (λ t other i. slots_no_fault p f (suc n) xs (rest_of vs) t other i) e
  where
    at_size : (o : Option ℕ) → ((t : Store) (other : Fault) → make_slots p f (suc n) xs (rest_of vs) t ≡ Faults other → ⊥)
        → (needed o >>= λ cells. made_from p f (suc n) xs (rest_of vs) (make_slot (is_register f n x) cells (first_or Unset vs) s)) ≡ Faults fault → ⊥
    at_size None h e = cc
    at_size (Some cells) h e =
        let t = make_slot (is_register f n x) cells (first_or Unset vs) s in
        one_more_no_fault t fault (make_slots p f (suc n) xs (rest_of vs) t.1) (λ other i. h t.1 other i) e

-- ---- the first frame's step

-- the step of a call of a function of the program, by its act
pub step_of_own : (p : Program) (s : Store) (o : Option Value) (frame : Frame Point) (below : List (Frame Point)) (g : Function) → function_named p frame.function ≡ Some g
    → frames_step (trees p) s o (frame ∷ below) ≡ (act (context (trees p) s frame) g.result o (stood_at (Some g) frame.point) >>= λ a. perform (trees p) s frame below a)
step_of_own p s o frame below g e =
    let P : Option Function → Type 0 = λ q. (needed q >>= λ f. act (context (trees p) s frame) f.result o (stood_at q frame.point) >>= λ a. perform (trees p) s frame below a) ≡ (act (context (trees p) s frame) g.result o (stood_at (Some g) frame.point) >>= λ a. perform (trees p) s frame below a) in
    subst P (sym e) refl

-- the frames with the first one at a point
abbrev gone_to : Frame Point → List Slot → List (Frame Point) → Point → Stack Point
gone_to frame slots below n = record { frames = record { function = frame.function; point = n; slots = slots } ∷ below; arriving = None }

-- control goes on
pub goes_meets : (p : Program) (s t : Store) (frame : Frame Point) (below : List (Frame Point)) (g : Function) (h : Bool) (slots : List Slot) (to : Point) → function_named p frame.function ≡ Some g
    → IfSome (next_point g.body frame.point h) (λ q. to ≡ q)
    → Meets (Ok (Went t (record { frames = record { function = frame.function; point = to; slots = slots } ∷ below; arriving = None }))) (perform (trees p) s frame below (GoesOn h t slots))
goes_meets p s t frame below g h slots to e k =
    let P : Option Function → Type 0 = λ q. Meets (Ok (Went t (gone_to frame slots below to))) (needed (point_after q frame.point h) >>= λ n. Gives (Went t (gone_to frame slots below n))) in
    subst P (sym e) (go (next_point g.body frame.point h) k)
  where
    go : (o : Option Point) → IfSome o (λ q. to ≡ q) → Meets (Ok (Went t (gone_to frame slots below to))) (needed o >>= λ n. Gives (Went t (gone_to frame slots below n)))
    go None k = tt
    go (Some q) k = ap (λ n. Ok (Went t (gone_to frame slots below n))) k

-- the frame of a call whose slots are made
abbrev pub framed : Program → Function → List Slot × Store → Answer (Frame Point × Store)
framed p g m = Gives (record { function = g.called; point = (trees p).code.first g.called; slots = m.0 }, m.1)

-- the frames upon which one was put, the first of which waits at this point
abbrev upon : Frame Point → List (Frame Point) → Point → Frame Point × Store → Done Point
upon frame below back m = Went m.1 (record { frames = m.0 ∷ moved_to frame back ∷ below; arriving = None })

no_frame_fault : (p : Program) (g : Function) (a : Answer (List Slot × Store)) (fault : Fault) → ((other : Fault) → a ≡ Faults other → ⊥) → (a >>= framed p g) ≡ Faults fault → ⊥
no_frame_fault p g (Gives m) fault h e = cc
no_frame_fault p g (Faults other) fault h e = h other refl
no_frame_fault p g NoAnswer fault h e = cc

-- no frame fails
pub frame_never_fails : (p : Program) (g : Function) (vs : List Value) (s : Store) (fault : Fault) → make_frame (trees p) g vs s ≡ Faults fault → ⊥
frame_never_fails p g vs s fault e = no_frame_fault p g (call_slots p g vs s) fault (λ other k. slots_no_fault p g 0 (variables g) vs s other k) e

-- a function is entered
pub enters_meets : (p : Program) (s t : Store) (frame : Frame Point) (frames below : List (Frame Point)) (g : Function) (vs : List Value) (path : Path)
    → ((q : Path) → frame.point ≡ Here q → path ≡ q)
    → ((a : Frame Point × Store) → make_frame (trees p) g vs s ≡ Gives a → (frames ≡ a.0 ∷ moved_to frame (Arrival path) ∷ below) × (t ≡ a.1))
    → Meets (Ok (Went t (record { frames = frames; arriving = None }))) (perform (trees p) s frame below (Enters g vs))
enters_meets p s t frame frames below g vs path at made =
    go (make_frame (trees p) g vs s) made (frame_never_fails p g vs s) frame.point at
  where
    go : (a : Answer (Frame Point × Store)) → ((b : Frame Point × Store) → a ≡ Gives b → (frames ≡ b.0 ∷ moved_to frame (Arrival path) ∷ below) × (t ≡ b.1)) → ((fault : Fault) → a ≡ Faults fault → ⊥)
        → (point : Point) → ((q : Path) → point ≡ Here q → path ≡ q)
        → Meets (Ok (Went t (record { frames = frames; arriving = None }))) (a >>= λ m. needed (arrival_at point) >>= λ back. Gives (upon frame below back m))
    go (Gives m) h n (Here q) k =
        let e = h m refl in
        ap (λ fs. Ok (Went t (record { frames = fs; arriving = None }))) e.0 ∙ ap (λ u. Ok (Went u (record { frames = m.0 ∷ moved_to frame (Arrival path) ∷ below; arriving = None }))) e.1
        ∙ ap (λ r. Ok (upon frame below (Arrival r) m)) (k q refl)
    go (Gives m) h n (Arrival q) k = tt
    go (Gives m) h n End k = tt
    go (Faults fault) h n point k = absurd (n fault refl)
    go NoAnswer h n point k = tt

-- ---- the same step after what was done

-- where a call or a request changes nothing, the act may be performed on what is there afterwards
pub performed_alike : (p : Program) (s t : Store) (frame after : Frame Point) (below : List (Frame Point)) (a : Act)
    → after.function ≡ frame.function → after.point ≡ frame.point
    → ((g : Function) (vs : List Value) → a ≡ Enters g vs → (t ≡ s) × (after.slots ≡ frame.slots))
    → perform (trees p) s frame below a ≡ perform (trees p) t after below a
performed_alike p s t frame after below (GoesOn h u slots) f at k = let i = f in let j = at in simp (f, at) refl
performed_alike p s t frame after below (Enters g vs) f at k =
    let e = k g vs refl in
    let P : Store × Frame Point → Type 0 = λ z. perform (trees p) s frame below (Enters g vs) ≡ perform (trees p) z.0 z.1 below (Enters g vs) in
    let i : (s, frame) ≡ (t, after) =
    ap (λ u. (u, frame)) (sym e.0) ∙ ap (λ x. (t, record { function = x; point = frame.point; slots = frame.slots })) (sym f)
    ∙ ap (λ q. (t, record { function = after.function; point = q; slots = frame.slots })) (sym at)
    ∙ ap (λ ss. (t, record { function = after.function; point = after.point; slots = ss })) (sym e.1) in
    subst P i refl
performed_alike p s t frame after below (Leaves v u) f at k = refl
performed_alike p s t frame after below (AsksFor r) f at k = refl

-- ---- answers to requests

-- what a value that arrives does is going on
arrives_alike : {A : Type 0} (c : Context) (f : Found) (v : Value) (k l : Act → Answer A) → ((t : Store) (slots : List Slot) → k (GoesOn true t slots) ≡ l (GoesOn true t slots))
    → (arrives c f (Some v) >>= k) ≡ (arrives c f (Some v) >>= l)
arrives_alike c f v k l h = at (target_of f)
  where
    done : (a : Answer (List Slot × Store)) → ((a >>= λ m. Gives (GoesOn true m.1 m.0)) >>= k) ≡ ((a >>= λ m. Gives (GoesOn true m.1 m.0)) >>= l)
    done (Gives m) = h m.1 m.0
    done (Faults fault) = refl
    done NoAnswer = refl

    at : (o : Option (Option Expr)) → ((needed o >>= λ x. deliver c x v >>= λ m. Gives (GoesOn true m.1 m.0)) >>= k) ≡ ((needed o >>= λ x. deliver c x v >>= λ m. Gives (GoesOn true m.1 m.0)) >>= l)
    at None = refl
    at (Some x) = done (deliver c x v)

module _ (p : Program) (s : Store) (v : Value) (x : Text) (ss : List Slot) (below : List (Frame Point)) (g : Function) (e : function_named p x ≡ Some g) where
  -- the frame at a point
  abbrev stands : Point → Frame Point
  stands point = record { function = x; point = point; slots = ss }

  -- from an arrival control goes where it goes from the statement
  goes_alike : (q : Path) (t : Store) (slots : List Slot) → perform (trees p) s (stands (Arrival q)) below (GoesOn true t slots) ≡ perform (trees p) s (stands (Here q)) below (GoesOn true t slots)
  goes_alike q t slots =
      let P : Option Function → Type 0 = λ o. (needed (point_after o (Arrival q) true) >>= λ n. Gives (Went t (gone_to (stands (Arrival q)) slots below n))) ≡ (needed (point_after o (Here q) true) >>= λ n. Gives (Went t (gone_to (stands (Here q)) slots below n))) in
      subst P (sym e) refl

  abbrev around : Option Function → Point → Context
  around o point = record { program = p; scope = scope_from o point; slots = ss; store = s }

  abbrev performs : Point → Act → Answer (Done Point)
  performs point a = perform (trees p) s (stands point) below a

  -- the step that the value arrives in is the answer of the one that asked
  arrived_meets : (r : Result (Done Point) Fault) (path q : Path) → path ≡ q
      → Meets r (frames_step (trees p) s (Some v) (stands (Arrival path) ∷ below)) → Meets r (frames_answered (trees p) s v (stands (Here q) ∷ below))
  arrived_meets r path q i m =
      let Q : Option Function → Type 0 = λ o. Meets r (needed o >>= λ f. act (around o (Arrival path)) f.result (Some v) (stood_at o (Arrival path)) >>= performs (Arrival path)) in
      let m1 : Meets r (arrives (around (Some g) (Arrival path)) (found g.body path) (Some v) >>= performs (Arrival path)) = subst Q e m in
      let R : Path → Type 0 = λ y. Meets r (arrives (around (Some g) (Arrival y)) (found g.body y) (Some v) >>= performs (Arrival y)) in
      let m2 : Meets r (arrives (around (Some g) (Here q)) (found g.body q) (Some v) >>= performs (Arrival q)) = subst R i m1 in
      let P : Answer (Done Point) → Type 0 = λ a. Meets r a in
      let m3 : Meets r (arrives (around (Some g) (Here q)) (found g.body q) (Some v) >>= performs (Here q)) = subst P (arrives_alike (around (Some g) (Here q)) (found g.body q) v (performs (Arrival q)) (performs (Here q)) (λ t slots. goes_alike q t slots)) m2 in
      let S : Option Function → Type 0 = λ o. Meets r (needed (asking (stood_at o (Here q))) >>= λ f. arrives (around o (Here q)) f (Some v) >>= performs (Here q)) in
      subst S (sym e) m3

  nothing_asks : (r : Result (Done Point) Fault) (point : Point) → asking (stood_at (Some g) point) ≡ None → Meets r (frames_answered (trees p) s v (stands point ∷ below))
  nothing_asks r point k =
      let S : Option Function → Type 0 = λ o. Meets r (needed (asking (stood_at o point)) >>= λ f. arrives (around o point) f (Some v) >>= performs point) in
      let T : Option Found → Type 0 = λ o. Meets r (needed o >>= λ f. arrives (around (Some g) point) f (Some v) >>= performs point) in
      subst S (sym e) (subst T (sym k) tt)

  -- the first frame waits for the value of the request that it makes, and the value arrives
  pub answered_arrives : (r : Result (Done Point) Fault) (point : Point) (path : Path) → ((q : Path) → point ≡ Here q → path ≡ q)
      → Meets r (frames_step (trees p) s (Some v) (stands (Arrival path) ∷ below)) → Meets r (frames_answered (trees p) s v (stands point ∷ below))
  answered_arrives r (Here q) path k m = arrived_meets r path q (k q refl) m
  answered_arrives r (Arrival q) path k m = nothing_asks r (Arrival q) refl
  answered_arrives r End path k m = nothing_asks r End refl

-- ---- an answer goes on

-- code went on
abbrev pub IsWent : Done Point → Type 0
IsWent (Went t k) = Unit {0}
IsWent d = ⊥

-- where an answer only goes on, what met it otherwise met nothing
pub only_goes : (a : Answer (Done Point)) → ((d : Done Point) → a ≡ Gives d → IsWent d) → (d : Done Point) → (IsWent d → ⊥) → Meets (Ok d) a → (r : Result (Done Point) Fault) → Meets r a
only_goes (Gives e) h d n m r = let i : e ≡ d = cc in absurd (n (subst IsWent i (h e refl)))
only_goes (Faults fault) h d n m r = absurd cc
only_goes NoAnswer h d n m r = tt

went_then : {A : Type 0} (a : Answer A) (f : A → Answer (Done Point)) → ((x : A) (d : Done Point) → f x ≡ Gives d → IsWent d) → (d : Done Point) → (a >>= f) ≡ Gives d → IsWent d
went_then (Gives x) f h d e = h x d e
went_then (Faults fault) f h d e = absurd cc
went_then NoAnswer f h d e = absurd cc

went_this : (t : Store) (k : Stack Point) (d : Done Point) → Gives (Went t k) ≡ Gives d → IsWent d
went_this t k d e = let i : Went t k ≡ d = cc in subst IsWent i tt

-- what an arrival performs only goes on
went_on : (p : Program) (s : Store) (frame : Frame Point) (below : List (Frame Point)) (c : Context) (f : Found) (v : Value) (d : Done Point) → (arrives c f (Some v) >>= λ a. perform (trees p) s frame below a) ≡ Gives d → IsWent d
went_on p s frame below c f v d e = at (target_of f) e
  where
    goes : (t : Store) (slots : List Slot) (d : Done Point) → perform (trees p) s frame below (GoesOn true t slots) ≡ Gives d → IsWent d
    goes t slots d e = went_then (needed ((trees p).code.goes frame.function frame.point true)) (λ n. Gives (Went t (gone_to frame slots below n))) (λ n d e. went_this t (gone_to frame slots below n) d e) d e

    done : (a : Answer (List Slot × Store)) → ((a >>= λ m. Gives (GoesOn true m.1 m.0)) >>= λ b. perform (trees p) s frame below b) ≡ Gives d → IsWent d
    done (Gives m) e = goes m.1 m.0 d e
    done (Faults fault) e = absurd cc
    done NoAnswer e = absurd cc

    at : (o : Option (Option Expr)) → ((needed o >>= λ x. deliver c x v >>= λ m. Gives (GoesOn true m.1 m.0)) >>= λ b. perform (trees p) s frame below b) ≡ Gives d → IsWent d
    at None e = absurd cc
    at (Some x) e = done (deliver c x v) e

pub answered_goes : (p : Program) (s : Store) (v : Value) (frames : List (Frame Point)) (d : Done Point) → frames_answered (trees p) s v frames ≡ Gives d → IsWent d
answered_goes p s v [] d e = absurd cc
answered_goes p s v (frame ∷ below) d e =
    went_then (needed (asking ((trees p).code.stood frame.function frame.point))) (λ f. arrives (context (trees p) s frame) f (Some v) >>= λ a. perform (trees p) s frame below a)
    (λ f d e. went_on p s frame below (context (trees p) s frame) f v d e) d e
