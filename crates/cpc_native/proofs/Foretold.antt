-- What is told of a step before it is made is what the step leaves.
use Rattle.std.proofs.Common.{◌≡◌, ℕ, ◌+◌, ◌-◌, ◌≤◌, ◌^◌, min, Bool, true, false, if◌then◌else◌, pos, List, [], ◌∷◌, length, replicate, Option, Some, None, refl, sym, ◌∙◌, ap, subst, arith}
use Rattle.std.specs.Prelude.{int_lt, unsigned_abs}
use Rattle.cpc_num.specs.declared.kinds.Fault.{Fault}
use Rattle.cpc_num.specs.declared.kinds.Fault.TheVariants as F
use Rattle.cpc_tree.specs.Erase.{Names, function_of}
use Rattle.cpc_tree.specs.Syntax.{Expr, Function, Program}
use Rattle.cpc_tree.specs.Typing.{function_named}
use Rattle.cpc_tree.specs.Registers.{variables}
use Rattle.cpc_tree.specs.Points.{Point, Found}
use Rattle.cpc_store.specs.declared.values.Class.{Class}
use Rattle.cpc_store.specs.declared.values.Class.TheVariants.{Static, Auto, Heap, Frame as FrameClass}
use Rattle.cpc_store.specs.Store.{Value, Unset, Whole, Null, At, Code, Cond, Store, store_cells, alloc, next_block}
use Rattle.cpc_store.proofs.CellLemmas.{store_cells-alloc}
use Rattle.cpc_meaning.specs.Answer.{Answer, Gives, Faults, NoAnswer, ◌>>=◌, needed}
use Rattle.cpc_meaning.specs.Eval.{Slot, Context}
use Rattle.cpc_meaning.specs.Slots.{call_slots, free_slots}
use Rattle.cpc_meaning.specs.Section.{allocated, freed}
use Rattle.cpc_meaning.specs.Act.{Act, Stood, AtArrival, GoesOn, Enters, Leaves, AsksFor, act, arrives, target_of, deliver}
use Rattle.cpc_meaning.specs.Plain.{Frame, Stack, Done, Went, moved_to, returned_to, perform, context, plain, answered, asking}
use Rattle.cpc_meaning.specs.Requests.{Asked, Builtin, Host, ToSpawn, Section, Primitive, Malloc, Free, RtFrame, RtBox, RtFrameFree, RtUnbox}
use Rattle.cpc_meaning.specs.Runs.{slots_registers, frames_registers}
use Rattle.cpc_meaning.specs.Trees.{trees, stood_at}
use Rattle.cpc_meaning.proofs.Chained.{then_assoc}
use Rattle.cpc_meaning_laws.specs.Cell.Cells.{call_cells, slots_cells, code_cells, done_cells, acted_cells, request_cells, after_plain, step_cells}
use Rattle.cpc_meaning_laws.proofs.Cell.Calls.{call_takes, leaving_gives_back}
use Rattle.cpc_meaning_laws.proofs.Cell.Going.{going_on_keeps}
use Rattle.cpc_meaning_laws.specs.Pointer.Made.{IsMadeCode}
use Rattle.cpc_meaning_laws.specs.Pointer.Laws.{done_with}
use Rattle.cpc_meaning_laws.proofs.Pointer.Answered.{requests_alike}
use Rattle.cpc_native_changes.specs.declared.changes.Change.{Change}
use Rattle.cpc_native_changes.specs.declared.changes.Change.TheVariants as C
use Rattle.cpc_native_changes.specs.Foreseen.{Foresees, EntersSo, AsksSo, MakesSo, ArrivesSo, FreesSo, IsMaking, IsFreeing, arrival}
use Rattle.cpc_native.proofs.Leaving.{left_free}
use Rattle.cpc_native.proofs.Stepping.{step_of_own, slots_no_fault}
use Rattle.cpc_native.specs.Next.{frees, GoesNowhere, FreesAlone}

-- a value that arrives only goes on
arrives_goes : (c : Context) (f : Found) (v : Value) (a : Act) → arrives c f (Some v) ≡ Gives a → (t : Store) × (slots : List Slot) × (a ≡ GoesOn true t slots)
arrives_goes c f v a e = at (target_of f) e
  where
    done : (m : Answer (List Slot × Store)) → (m >>= λ r. Gives (GoesOn true r.1 r.0)) ≡ Gives a → (t : Store) × (slots : List Slot) × (a ≡ GoesOn true t slots)
    done (Gives r) e = (r.1, r.0, cc e)
    done (Faults fault) e = absurd (cc e)
    done NoAnswer e = absurd (cc e)

    at : (o : Option (Option Expr)) → (needed o >>= λ x. deliver c x v >>= λ r. Gives (GoesOn true r.1 r.0)) ≡ Gives a → (t : Store) × (slots : List Slot) × (a ≡ GoesOn true t slots)
    at None e = absurd (cc e)
    at (Some x) e = done (deliver c x v) e

-- what arrives where the code asks goes on too
arrival_goes : (c : Context) (stood : Stood) (v : Value) (a : Act) → arrival c stood v ≡ Gives a → (f : Found) × (t : Store) × (slots : List Slot) × (asking stood ≡ Some f) × (a ≡ GoesOn true t slots) × (arrives c f (Some v) ≡ Gives (GoesOn true t slots))
arrival_goes c stood v a e = at (asking stood) refl e
  where
    at : (o : Option Found) → asking stood ≡ o → (needed o >>= λ f. arrives c f (Some v)) ≡ Gives a
        → (f : Found) × (t : Store) × (slots : List Slot) × (asking stood ≡ Some f) × (a ≡ GoesOn true t slots) × (arrives c f (Some v) ≡ Gives (GoesOn true t slots))
    at None i e = absurd (cc e)
    at (Some f) i e = let (t, slots, is) = arrives_goes c f v a e in (f, t, slots, i, is, e ∙ ap Gives is)

-- what a step leaves, by the change that was told, where so many cells were live before
abbrev pub IsChange : Names → Program → Store → List Slot → Change → (before after : ℕ) → Type 0
IsChange names p s slots C.Stays before after = after ≡ before
IsChange names p s slots (C.Enters f) before after = after ≡ before + call_cells p (function_of names f.now)
IsChange names p s slots C.Leaves before after = ((t : Store) × (free_slots slots s ≡ Gives t)) × (after + slots_cells s slots ≡ before)
IsChange names p s slots (C.Makes n) before after = (more : ℕ) × (after ≡ before + more) × (n ≡ min more (2 ^ 64 - 1))
IsChange names p s slots (C.Frees n) before after = after + n ≡ before

-- a change by which a block may be freed
abbrev pub IsFreeingOrNone : Change → Type 0
IsFreeingOrNone C.Stays = Unit {0}
IsFreeingOrNone (C.Frees n) = Unit {0}
IsFreeingOrNone change = ⊥

frees_or_none : (change : Change) (before after : ℕ) → IsFreeing change before after → IsFreeingOrNone change
frees_or_none C.Stays before after h = tt
frees_or_none C.Leaves before after h = absurd h
frees_or_none (C.Frees n) before after h = tt
frees_or_none (C.Enters f) before after h = absurd h
frees_or_none (C.Makes n) before after h = absurd h

module _ (names : Names) (p : Program) (s : Store) (frame : Frame Point) (below : List (Frame Point)) (g : Function) (own : function_named p frame.function ≡ Some g) (o : Option Value) where
  -- the stack, and what was live
  abbrev stack : Stack Point
  stack = record { frames = frame ∷ below; arriving = o }

  abbrev before : ℕ
  before = code_cells s stack

  abbrev around : Context
  around = context (trees p) s frame

  -- what stands there
  abbrev there : Stood
  there = stood_at (Some g) frame.point

  abbrev Told : Change → ℕ → Type 0
  Told change after = IsChange names p s frame.slots change before after

  -- the step of the first frame, in its parts
  step_is : plain (trees p) s stack ≡ (act around g.result o there >>= perform (trees p) s frame below)
  step_is = step_of_own p s o frame below g own

  -- ---- control goes on

  goes : (h : Bool) (t : Store) (slots : List Slot) (next : Option Point) (n : ℕ) → store_cells t ≡ store_cells s → slots_registers slots ≡ slots_registers frame.slots
      → after_plain (trees p) s stack (needed next >>= λ q. Gives (Went t (record { frames = record { function = frame.function; point = q; slots = slots } ∷ below; arriving = None }))) ≡ Some n → n ≡ before
  goes h t slots None n e f k = absurd cc
  goes h t slots (Some q) n e f k =
      let is : store_cells t + (slots_registers slots + frames_registers below) ≡ n = cc in
      omega (arith, e, f, is)

  -- ---- a function is entered

  -- the frame of a call whose slots are made
  abbrev framed : Function → List Slot × Store → Answer (Frame Point × Store)
  framed f m = Gives (record { function = f.called; point = (trees p).code.first f.called; slots = m.0 }, m.1)

  -- the frames upon which a call is put
  abbrev upon : Frame Point → Store → Option Point → Answer (Done Point)
  upon f t at = needed at >>= λ q. Gives (Went t (record { frames = f ∷ moved_to frame q ∷ below; arriving = None }))

  put : (t : Store) (slots : List Slot) (f : Function) (at : Option Point) (n : ℕ) → store_cells t + slots_registers slots ≡ store_cells s + call_cells p f
      → after_plain (trees p) s stack (upon (record { function = f.called; point = (trees p).code.first f.called; slots = slots }) t at) ≡ Some n → n ≡ before + call_cells p f
  put t slots f None n e k = absurd cc
  put t slots f (Some q) n e k =
      let is : store_cells t + (slots_registers slots + (slots_registers frame.slots + frames_registers below)) ≡ n = cc in
      omega (arith, e, is)

  enters : (f : Function) (vs : List Value) (n : ℕ) → after_plain (trees p) s stack (perform (trees p) s frame below (Enters f vs)) ≡ Some n → ((fault : Fault) → call_slots p f vs s ≡ Faults fault → ⊥) → n ≡ before + call_cells p f
  enters f vs n k none = go (call_slots p f vs s) refl k
    where
      go : (a : Answer (List Slot × Store)) → call_slots p f vs s ≡ a
          → after_plain (trees p) s stack ((a >>= framed f) >>= λ m. upon m.0 m.1 ((trees p).code.arrival frame.function frame.point)) ≡ Some n → n ≡ before + call_cells p f
      go NoAnswer e k = absurd cc
      go (Faults fault) e k = absurd (none fault e)
      go (Gives m) e k = put m.1 m.0 f ((trees p).code.arrival frame.function frame.point) n (call_takes p f vs s m.1 m.0 e) k

  -- ---- it is left

  leaves : (v : Value) (t : Store) (n : ℕ) (rest : List (Frame Point)) → rest ≡ below → store_cells t + slots_cells s frame.slots ≡ store_cells s + slots_registers frame.slots
      → after_plain (trees p) s stack (Gives (returned_to rest v t)) ≡ Some n → n + slots_cells s frame.slots ≡ before
  leaves v t n [] r e k =
      let none : frames_registers below ≡ 0 = ap frames_registers (sym r) in
      let is : store_cells t ≡ n = cc in
      omega (arith, e, none, is)
  leaves v t n (f ∷ rest) r e k =
      let some : frames_registers (f ∷ rest) ≡ frames_registers below = ap frames_registers r in
      let is : store_cells t + frames_registers (f ∷ rest) ≡ n = cc in
      omega (arith, e, some, is)

  -- ---- it asks

  -- a request is answered where the frame stands
  answer_is : (t : Store) (v : Value) → answered (trees p) t stack v ≡ (arrival (context (trees p) t frame) there v >>= perform (trees p) t frame below)
  answer_is t v =
      let P : Option Function → Type 0 = λ q. (needed (asking (stood_at q frame.point)) >>= λ f. arrives (context (trees p) t frame) f (Some v) >>= perform (trees p) t frame below) ≡ (arrival (context (trees p) t frame) there v >>= perform (trees p) t frame below) in
      subst P (sym own) (then_assoc (needed (asking there)) (λ f. arrives (context (trees p) t frame) f (Some v)) (perform (trees p) t frame below))

  -- the cells that are left where control goes on, and a block was made
  goes_made : (class : Class) (cells : List Value) (h : Bool) (t : Store) (slots : List Slot) (next : Option Point) (n : ℕ) → store_cells t ≡ store_cells s → slots_registers slots ≡ slots_registers frame.slots
      → done_cells before ((needed next >>= λ q. Gives (Went t (record { frames = record { function = frame.function; point = q; slots = slots } ∷ below; arriving = None }))) >>= λ done. Gives (done_with class cells done)) ≡ Some n
      → n ≡ before + length cells
  goes_made class cells h t slots None n e f k = absurd (cc k)
  goes_made class cells h t slots (Some q) n e f k =
      let is : store_cells (alloc class cells t) + (slots_registers slots + frames_registers below) ≡ n = cc k in
      let made = store_cells-alloc class cells t in
      omega (arith, e, f, is, made)

  module _ (class : Class) (dynamic : ¬ (class ≡ Static)) (made : IsMadeCode s stack) (change : Change) where
    made_cells : (cells : List Value) (v : Value) (n : ℕ) → ArrivesSo change (store_cells s) (store_cells (alloc class cells s)) (arrival around there v)
        → done_cells before (answered (trees p) (alloc class cells s) stack v) ≡ Some n → Told change n
    made_cells cells v n h k = go (arrival around there v) refl h (subst (λ a. done_cells before a ≡ Some n) (requests_alike (trees p) class cells s stack v dynamic made ∙ ap (λ a. a >>= λ done. Gives (done_with class cells done)) (answer_is s v)) k)
      where
        go : (a : Answer Act) → arrival around there v ≡ a → ArrivesSo change (store_cells s) (store_cells (alloc class cells s)) a
            → done_cells before ((a >>= perform (trees p) s frame below) >>= λ done. Gives (done_with class cells done)) ≡ Some n → Told change n
        go NoAnswer e h k = absurd (cc k)
        go (Faults fault) e h k = let i : n ≡ before = cc k in subst (λ c. Told c n) (sym h) i
        go (Gives a) e h k =
            let (f, t, slots, asks, is, arrived) = arrival_goes around there v a e in
            let (cells_same, registers_same) = going_on_keeps around g.result (Some v) (AtArrival f) true t slots arrived in
            told change h (goes_made class cells true t slots ((trees p).code.goes frame.function frame.point true) n cells_same registers_same (subst (λ b. done_cells before (perform (trees p) s frame below b >>= λ done. Gives (done_with class cells done)) ≡ Some n) is k))
          where
            told : (c : Change) → IsMaking c (store_cells s) (store_cells (alloc class cells s)) → n ≡ before + length cells → Told c n
            told (C.Makes m) (more, after, is) e =
                let made = store_cells-alloc class cells s in
                (more, omega (arith, e, after, made), is)
            told C.Stays h e = absurd h
            told C.Leaves h e = absurd h
            told (C.Enters f) h e = absurd h
            told (C.Frees m) h e = absurd h

    pub makes : (v : Value) (n : ℕ) → MakesSo around there change (allocated class v s) → acted_cells (trees p) s stack (allocated class v s) ≡ Some n → Told change n
    makes (Whole kind z) n h k = go (int_lt z (pos 0)) refl h k
      where
        go : (b : Bool) → int_lt z (pos 0) ≡ b
            → MakesSo around there change (if b then Faults F.Length else Gives (alloc class (replicate (unsigned_abs z) Unset) s, At class (next_block class s) 0))
            → acted_cells (trees p) s stack (if b then Faults F.Length else Gives (alloc class (replicate (unsigned_abs z) Unset) s, At class (next_block class s) 0)) ≡ Some n → Told change n
        go true e h k = let i : n ≡ before = cc k in subst (λ c. Told c n) (sym h) i
        go false e h k = made_cells (replicate (unsigned_abs z) Unset) (At class (next_block class s) 0) n h k
    makes Unset n h k = absurd (cc k)
    makes Null n h k = absurd (cc k)
    makes (At c m j) n h k = absurd (cc k)
    makes (Code x) n h k = absurd (cc k)
    makes (Cond m) n h k = absurd (cc k)

  -- a block is freed, of whose value nothing comes
  frees_cells : (change : Change) (t : Store) (w : Value) (n : ℕ) → ((f : Found) → asking there ≡ Some f → target_of f ≡ Some None) → IsFreeing change (store_cells s) (store_cells t)
      → done_cells before (answered (trees p) t stack w) ≡ Some n → Told change n
  frees_cells change t w n nowhere h k = at (asking there) refl (subst (λ a. done_cells before a ≡ Some n) (answer_is t w) k)
    where
      told : (c : Change) → IsFreeing c (store_cells s) (store_cells t) → n ≡ store_cells t + (slots_registers frame.slots + frames_registers below) → Told c n
      told (C.Frees m) h e = omega (arith, h, e)
      told C.Stays h e = omega (arith, h, e)
      told C.Leaves h e = absurd h
      told (C.Enters f) h e = absurd h
      told (C.Makes m) h e = absurd h

      goes_to : (next : Option Point)
          → done_cells before (needed next >>= λ q. Gives (Went t (record { frames = record { function = frame.function; point = q; slots = frame.slots } ∷ below; arriving = None }))) ≡ Some n
          → n ≡ store_cells t + (slots_registers frame.slots + frames_registers below)
      goes_to None k = absurd (cc k)
      goes_to (Some q) k = cc k

      by_target : (f : Found) (x : Option (Option Expr)) → x ≡ Some None
          → done_cells before ((needed x >>= λ x. deliver (context (trees p) t frame) x w >>= λ r. Gives (GoesOn true r.1 r.0)) >>= perform (trees p) t frame below) ≡ Some n → Told change n
      by_target f None e k = absurd (cc e)
      by_target f (Some (Some x)) e k = absurd (cc e)
      by_target f (Some None) e k = told change h (goes_to ((trees p).code.goes frame.function frame.point true) k)

      at : (o : Option Found) → asking there ≡ o → done_cells before ((needed o >>= λ f. arrives (context (trees p) t frame) f (Some w)) >>= perform (trees p) t frame below) ≡ Some n → Told change n
      at None e k = absurd (cc k)
      at (Some f) e k = by_target f (target_of f) (nowhere f e) k

  frees_so : (change : Change) (class : Class) (v : Value) (n : ℕ) → (IsFreeingOrNone change → (f : Found) → asking there ≡ Some f → target_of f ≡ Some None) → FreesSo around change (freed class v s)
      → acted_cells (trees p) s stack (freed class v s) ≡ Some n → Told change n
  frees_so change class v n nowhere h k = go (freed class v s) h k
    where
      go : (a : Answer (Store × Value)) → FreesSo around change a → acted_cells (trees p) s stack a ≡ Some n → Told change n
      go NoAnswer h k = absurd (cc k)
      go (Faults fault) h k = let i : n ≡ before = cc k in subst (λ c. Told c n) (sym h) i
      go (Gives r) h k = frees_cells change r.0 r.1 n (nowhere (frees_or_none change (store_cells s) (store_cells r.0) h)) h k

  -- all else leaves as many
  stays_so : (change : Change) (n : ℕ) → change ≡ C.Stays → Some before ≡ Some n → Told change n
  stays_so change n h k = let i : n ≡ before = cc k in subst (λ c. Told c n) (sym h) i

  module _ (made : IsMadeCode s stack) (change : Change) where
    asks_prim : (prim : Primitive) (vs : List Value) (n : ℕ) → (frees (Builtin prim) ≡ true → IsFreeingOrNone change → (f : Found) → asking there ≡ Some f → target_of f ≡ Some None) → AsksSo around there change (Builtin prim) vs
        → request_cells (trees p) s stack (Builtin prim) vs ≡ Some n → Told change n
    asks_prim Malloc (v ∷ []) n alone h k = makes Heap (λ e. cc e) made change v n h k
    asks_prim RtFrame (v ∷ []) n alone h k = makes FrameClass (λ e. cc e) made change v n h k
    asks_prim RtBox (v ∷ []) n alone h k = makes Auto (λ e. cc e) made change v n h k
    asks_prim Free (v ∷ []) n alone h k = frees_so change Heap v n (alone refl) h k
    asks_prim RtFrameFree (v ∷ []) n alone h k = frees_so change FrameClass v n (alone refl) h k
    asks_prim RtUnbox (v ∷ []) n alone h k = frees_so change Auto v n (alone refl) h k
    asks_prim Malloc [] n alone h k = stays_so change n h k
    asks_prim RtFrame [] n alone h k = stays_so change n h k
    asks_prim RtBox [] n alone h k = stays_so change n h k
    asks_prim Free [] n alone h k = stays_so change n h k
    asks_prim RtFrameFree [] n alone h k = stays_so change n h k
    asks_prim RtUnbox [] n alone h k = stays_so change n h k
    asks_prim Malloc (v ∷ w ∷ vs) n alone h k = stays_so change n h k
    asks_prim RtFrame (v ∷ w ∷ vs) n alone h k = stays_so change n h k
    asks_prim RtBox (v ∷ w ∷ vs) n alone h k = stays_so change n h k
    asks_prim Free (v ∷ w ∷ vs) n alone h k = stays_so change n h k
    asks_prim RtFrameFree (v ∷ w ∷ vs) n alone h k = stays_so change n h k
    asks_prim RtUnbox (v ∷ w ∷ vs) n alone h k = stays_so change n h k
    asks_prim _ vs n alone h k = stays_so change n h k

    asks_so : (asked : Asked) (vs : List Value) (n : ℕ) → (frees asked ≡ true → IsFreeingOrNone change → (f : Found) → asking there ≡ Some f → target_of f ≡ Some None) → AsksSo around there change asked vs
        → request_cells (trees p) s stack asked vs ≡ Some n → Told change n
    asks_so (Builtin prim) vs n alone h k = asks_prim prim vs n alone h k
    asks_so (Host x) vs n alone h k = stays_so change n h k
    asks_so (ToSpawn f) vs n alone h k = stays_so change n h k
    asks_so (Section f) vs n alone h k = stays_so change n h k

    -- where the value of a request goes, said of what stands there
    alone_there : GoesNowhere (trees p) stack.frames → (f : Found) → asking there ≡ Some f → target_of f ≡ Some None
    alone_there h = let P : Option Function → Type 0 = λ q. (f : Found) → asking (stood_at q frame.point) ≡ Some f → target_of f ≡ Some None in subst P own h

    -- by the act of the step
    by_act : (a : Answer Act) → act around g.result o there ≡ a → (n : ℕ) → (IsFreeingOrNone change → FreesAlone (trees p) s stack) → Foresees names around there change a
        → after_plain (trees p) s stack (a >>= perform (trees p) s frame below) ≡ Some n → Told change n
    by_act NoAnswer e n alone h k = absurd (cc k)
    by_act (Faults fault) e n alone h k = stays_so change n h k
    by_act (Gives (GoesOn b t slots)) e n alone h k =
        let (cells_same, registers_same) = going_on_keeps around g.result o there b t slots e in
        let i : n ≡ before = goes b t slots ((trees p).code.goes frame.function frame.point b) n cells_same registers_same k in
        subst (λ c. Told c n) (sym h) i
    by_act (Gives (Enters f vs)) e n alone h k = entered change h
      where
        entered : (c : Change) → EntersSo names c f → Told c n
        entered (C.Enters x) h = subst (λ y. n ≡ before + call_cells p y) (sym h) (enters f vs n k (λ fault i. slots_no_fault p f 0 (variables f) vs s fault i))
        entered C.Stays h = absurd h
        entered C.Leaves h = absurd h
        entered (C.Makes m) h = absurd h
        entered (C.Frees m) h = absurd h
    by_act (Gives (Leaves v t)) e n alone h k =
        let freed = left_free around g.result o there v t e in
        subst (λ c. Told c n) (sym h) ((t, freed), leaves v t n below refl (leaving_gives_back frame.slots s t freed) k)
    by_act (Gives (AsksFor r)) e n alone h k =
        asks_so r.asked r.arguments n (λ i few. alone_there (alone few r (step_is ∙ ap (λ a. a >>= perform (trees p) s frame below) e) i)) h k

    -- what is told is what the step leaves
    pub foretold : (n : ℕ) → (IsFreeingOrNone change → FreesAlone (trees p) s stack) → Foresees names around there change (act around g.result o there) → step_cells (trees p) s stack ≡ Some n → Told change n
    foretold n alone h k = by_act (act around g.result o there) refl n alone h (subst (λ a. after_plain (trees p) s stack a ≡ Some n) step_is k)

    -- ---- where none are added

    few : (c : Change) (n : ℕ) → IsFreeingOrNone c → Told c n → n ≤ before
    few C.Stays n h k = omega (arith, k)
    few (C.Frees m) n h k = omega (arith, k)
    few C.Leaves n h k = absurd h
    few (C.Enters f) n h k = absurd h
    few (C.Makes m) n h k = absurd h

    freed_less : (c : Change) (t : Store) → IsFreeing c (store_cells s) (store_cells t) → store_cells t ≤ store_cells s
    freed_less C.Stays t h = omega (arith, h)
    freed_less (C.Frees m) t h = omega (arith, h)
    freed_less C.Leaves t h = absurd h
    freed_less (C.Enters f) t h = absurd h
    freed_less (C.Makes m) t h = absurd h

    -- a block is freed, wherever the value of that goes
    few_freed : (t : Store) (w : Value) (n : ℕ) → IsFreeing change (store_cells s) (store_cells t) → done_cells before (answered (trees p) t stack w) ≡ Some n → n ≤ before
    few_freed t w n h k = go (arrival (context (trees p) t frame) there w) refl (subst (λ a. done_cells before a ≡ Some n) (answer_is t w) k)
      where
        less : store_cells t ≤ store_cells s
        less = freed_less change t h

        gone : (u : Store) (slots : List Slot) (next : Option Point) → store_cells u ≡ store_cells t → slots_registers slots ≡ slots_registers frame.slots
            → done_cells before (needed next >>= λ q. Gives (Went u (record { frames = record { function = frame.function; point = q; slots = slots } ∷ below; arriving = None }))) ≡ Some n → n ≤ before
        gone u slots None e f k = absurd (cc k)
        gone u slots (Some q) e f k =
            let is : store_cells u + (slots_registers slots + frames_registers below) ≡ n = cc k in
            omega (arith, e, f, is, less)

        go : (a : Answer Act) → arrival (context (trees p) t frame) there w ≡ a → done_cells before (a >>= perform (trees p) t frame below) ≡ Some n → n ≤ before
        go NoAnswer e k = absurd (cc k)
        go (Faults fault) e k = let i : n ≡ before = cc k in omega (arith, i)
        go (Gives a) e k =
            let (f, u, slots, asks, is, arrived) = arrival_goes (context (trees p) t frame) there w a e in
            let (cells_same, registers_same) = going_on_keeps (context (trees p) t frame) g.result (Some w) (AtArrival f) true u slots arrived in
            gone u slots ((trees p).code.goes frame.function frame.point true) cells_same registers_same (subst (λ b. done_cells before (perform (trees p) t frame below b) ≡ Some n) is k)

    few_so : (class : Class) (v : Value) (n : ℕ) → FreesSo around change (freed class v s) → acted_cells (trees p) s stack (freed class v s) ≡ Some n → n ≤ before
    few_so class v n h k = go (freed class v s) h k
      where
        go : (a : Answer (Store × Value)) → FreesSo around change a → acted_cells (trees p) s stack a ≡ Some n → n ≤ before
        go NoAnswer h k = absurd (cc k)
        go (Faults fault) h k = let i : n ≡ before = cc k in omega (arith, i)
        go (Gives r) h k = few_freed r.0 r.1 n h k

    few_frees : (asked : Asked) (vs : List Value) (n : ℕ) → frees asked ≡ true → AsksSo around there change asked vs → request_cells (trees p) s stack asked vs ≡ Some n → n ≤ before
    few_frees (Builtin Free) (v ∷ []) n e h k = few_so Heap v n h k
    few_frees (Builtin RtFrameFree) (v ∷ []) n e h k = few_so FrameClass v n h k
    few_frees (Builtin RtUnbox) (v ∷ []) n e h k = few_so Auto v n h k
    few_frees (Builtin Free) [] n e h k = let i : n ≡ before = cc k in omega (arith, i)
    few_frees (Builtin RtFrameFree) [] n e h k = let i : n ≡ before = cc k in omega (arith, i)
    few_frees (Builtin RtUnbox) [] n e h k = let i : n ≡ before = cc k in omega (arith, i)
    few_frees (Builtin Free) (v ∷ w ∷ vs) n e h k = let i : n ≡ before = cc k in omega (arith, i)
    few_frees (Builtin RtFrameFree) (v ∷ w ∷ vs) n e h k = let i : n ≡ before = cc k in omega (arith, i)
    few_frees (Builtin RtUnbox) (v ∷ w ∷ vs) n e h k = let i : n ≡ before = cc k in omega (arith, i)
    few_frees _ vs n e h k = absurd (cc e)

    few_asked : (asked : Asked) (vs : List Value) (n : ℕ) → IsFreeingOrNone change → AsksSo around there change asked vs → request_cells (trees p) s stack asked vs ≡ Some n → n ≤ before
    few_asked asked vs n some h k = go (frees asked) refl
      where
        go : (b : Bool) → frees asked ≡ b → n ≤ before
        go true e = few_frees asked vs n e h k
        go false e = few change n some (asks_so asked vs n (λ i. absurd (let no : false ≡ true = sym e ∙ i in cc no)) h k)

    few_act : (a : Answer Act) → act around g.result o there ≡ a → (n : ℕ) → IsFreeingOrNone change → Foresees names around there change a
        → after_plain (trees p) s stack (a >>= perform (trees p) s frame below) ≡ Some n → n ≤ before
    few_act (Gives (AsksFor r)) e n some h k = few_asked r.asked r.arguments n some h k
    few_act (Gives (GoesOn b t slots)) e n some h k =
        let (cells_same, registers_same) = going_on_keeps around g.result o there b t slots e in
        let i : n ≡ before = goes b t slots ((trees p).code.goes frame.function frame.point b) n cells_same registers_same k in
        omega (arith, i)
    few_act (Gives (Enters f vs)) e n some h k = absurd (not_entered change h some)
      where
        not_entered : (c : Change) → EntersSo names c f → IsFreeingOrNone c → ⊥
        not_entered (C.Enters x) h some = some
        not_entered C.Stays h some = h
        not_entered C.Leaves h some = h
        not_entered (C.Makes m) h some = h
        not_entered (C.Frees m) h some = h
    few_act (Gives (Leaves v t)) e n some h k = absurd (subst IsFreeingOrNone h some)
    few_act (Faults fault) e n some h k = let i : n ≡ before = cc k in omega (arith, i)
    few_act NoAnswer e n some h k = absurd (cc k)

    -- a step of which no more cells are told leaves no more
    pub no_more : (n : ℕ) → IsFreeingOrNone change → Foresees names around there change (act around g.result o there) → step_cells (trees p) s stack ≡ Some n → n ≤ before
    no_more n some h k = few_act (act around g.result o there) refl n some h (subst (λ a. after_plain (trees p) s stack a ≡ Some n) step_is k)
