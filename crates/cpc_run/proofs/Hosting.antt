-- A step that asks a host: its answer arrives and is told, or the step fails, whatever the answer is.
use Rattle.std.proofs.Common.{◌≡◌, ℤ, ℕ, Bool, true, false, List, [], ◌∷◌, ◌++◌, Option, Some, None, Result, Ok, Err, cond, is_some, slice_get, slice_set, refl, sym, ap, subst, ◌∙◌}
use Rattle.std.specs.Result.{result_map_both}
use Rattle.cpc_base.specs.Bytes.{Text}
use Rattle.cpc_num.specs.declared.kinds.Fault.{Fault}
use Rattle.cpc_num.specs.declared.kinds.Fault.TheVariants as F
use Rattle.cpc_num.specs.declared.kinds.Kind.{Kind}
use Rattle.cpc_num.specs.declared.kinds.Kind.TheVariants.{Long}
use Rattle.cpc_tree.specs.Lists.{rest_of}
use Rattle.cpc_tree.specs.Points.{Found, Point}
use Rattle.cpc_tree.specs.Syntax.{Expr, Program, Ty, TyVoid, TyInt, TyCondvar, TyPointer, TyCode, TyStruct, TyArray}
use Rattle.cpc_tree.specs.Trace.{HostCall}
use Rattle.cpc_store.specs.declared.values.Class.{Class}
use Rattle.cpc_store.specs.Store.{Blocks, Store, Value, Whole, blocks, cells_of, save, save_in, with_blocks}
use Rattle.cpc_meaning.specs.Act.{Act, Enters, GoesOn, Leaves, AsksFor, arrives, assign, deliver, target_of, write}
use Rattle.cpc_meaning.specs.Answer.{Answer, Gives, Faults, NoAnswer, ◌>>=◌, needed, of_result}
use Rattle.cpc_meaning.specs.Eval.{Context, InCell, InSlot, Slot, Spot, assigned, place, place_type}
use Rattle.cpc_meaning.specs.Events.{callbacks}
use Rattle.cpc_meaning.specs.Machine.{after_done, first_answer, host_call, ints_of, marks, reply, settled}
use Rattle.cpc_meaning.specs.Plain.{Asks, Done, Form, Frame, Returned, Stack, Went, answered, asking, context, frames_answered, perform}
use Rattle.cpc_meaning.specs.Trees.{trees}
use Rattle.cpc_meaning_laws.proofs.Pointer.Blocks.{Only}
use Rattle.cpc_run.specs.Answers.{Allows, Answered}
use Rattle.cpc_run.specs.Hosts.{HostsMeet, answers_of}
use Rattle.cpc_run.specs.States.{States}
use Rattle.cpc_run.proofs.Silent.{Good, Next, answers_more, meets_more, reply_fine}

-- ---- whatever the number, it arrives, or the same fault comes, or no rule fits

pub data Beside {A : Type 0} (R : A → A → Type 0) : Answer A → Answer A → Type 0 where
  Both : (x y : A) → R x y → Beside R (Gives x) (Gives y)
  Broken : (fault : Fault) → Beside R (Faults fault) (Faults fault)
  Neither : Beside R NoAnswer NoAnswer

-- nothing is said of two
abbrev Any : {A : Type 0} → A → A → Type 0
Any x y = Unit {0}

-- the code goes on
abbrev pub BothWent : {P : Type 0} → Done P → Done P → Type 0
BothWent (Went s k) (Went t l) = Unit {0}
BothWent _ _ = ⊥

beside_then : {A B : Type 0} (R : A → A → Type 0) (Q : B → B → Type 0) (a b : Answer A) (h k : A → Answer B) → Beside R a b → ((x y : A) → R x y → Beside Q (h x) (k y)) → Beside Q (a >>= h) (b >>= k)
beside_then R Q _ _ h k (Both x y r) e = e x y r
beside_then R Q _ _ h k (Broken fault) e = Broken fault
beside_then R Q _ _ h k Neither e = Neither

same_then : {A B : Type 0} (Q : B → B → Type 0) (a : Answer A) (h k : A → Answer B) → ((x : A) → Beside Q (h x) (k x)) → Beside Q (a >>= h) (a >>= k)
same_then Q (Gives x) h k e = e x
same_then Q (Faults fault) h k e = Broken fault
same_then Q NoAnswer h k e = Neither

module _ (j : Kind) (z y : ℤ) where
  assigned_beside : (t : Ty) → Beside Any (assigned t (Whole j z)) (assigned t (Whole j y))
  assigned_beside TyVoid = Neither
  assigned_beside (TyInt kind) = Both _ _ tt
  assigned_beside TyCondvar = Neither
  assigned_beside (TyPointer t) = Both _ _ tt
  assigned_beside (TyCode r ps) = Both _ _ tt
  assigned_beside (TyStruct tag) = Neither
  assigned_beside (TyArray t n) = Neither

  module _ (c : Class) (n k : ℕ) (s : Store) where
    -- what a store comes to whose blocks of the class are these
    abbrev saved : Result Blocks Fault → Answer Store
    saved r = of_result (result_map_both (λ bs. with_blocks c bs s) (λ fault. fault) r)

    -- a cell among those of a block that is live
    abbrev in_block : Result (List Value) Fault → Answer Store
    in_block r = saved (result_map_both (λ cells. slice_set (blocks c s) n (Some cells)) (λ fault. fault) r)

    cell_beside : (v w : Value) (cells : List Value) (b : Bool) → Beside Any (in_block (cond b (Ok (slice_set cells k v)) (Err F.Bounds))) (in_block (cond b (Ok (slice_set cells k w)) (Err F.Bounds)))
    cell_beside v w cells true = Both _ _ tt
    cell_beside v w cells false = Broken _

    block_beside : (v w : Value) (o : Option (List Value)) → Beside Any (saved (save_in o (blocks c s) n k v)) (saved (save_in o (blocks c s) n k w))
    block_beside v w None = Broken _
    block_beside v w (Some cells) = cell_beside v w cells (is_some (slice_get cells k))

    saved_beside : (v w : Value) → Beside Any (of_result (save c n k v s)) (of_result (save c n k w s))
    saved_beside v w = block_beside v w (cells_of c n s)

  write_beside : (c : Context) (spot : Spot) (v w : Value) → Beside Any (write c spot v) (write c spot w)
  write_beside c (InSlot k) v w = Both _ _ tt
  write_beside c (InCell cl n k) v w = beside_then Any Any (of_result (save cl n k v c.store)) (of_result (save cl n k w c.store)) _ _ (saved_beside cl n k c.store v w) (λ x y r. Both _ _ tt)

  assign_beside : (c : Context) (e : Expr) → Beside Any (assign c e (Whole j z)) (assign c e (Whole j y))
  assign_beside c e =
      same_then Any (place c e) _ _ λ spot.
      same_then Any (needed (place_type c e)) _ _ λ t.
      beside_then Any Any (assigned t (Whole j z)) (assigned t (Whole j y)) _ _ (assigned_beside t) (λ v w r. write_beside c spot v w)

  deliver_beside : (c : Context) (o : Option Expr) → Beside Any (deliver c o (Whole j z)) (deliver c o (Whole j y))
  deliver_beside c None = Both _ _ tt
  deliver_beside c (Some e) = assign_beside c e

  -- control goes on
  abbrev BothGoOn : Act → Act → Type 0
  BothGoOn (GoesOn h s slots) (GoesOn i t others) = h ≡ i
  BothGoOn _ _ = ⊥

  arrives_beside : (c : Context) (f : Found) → Beside BothGoOn (arrives c f (Some (Whole j z))) (arrives c f (Some (Whole j y)))
  arrives_beside c f =
      same_then BothGoOn (needed (target_of f)) _ _ λ x.
      beside_then Any BothGoOn (deliver c x (Whole j z)) (deliver c x (Whole j y)) _ _ (deliver_beside c x) (λ a b r. Both _ _ refl)

  module _ {P : Type 0} (p : Form P) (s : Store) where
    gone_beside : (o : Option P) (frame : Frame P) (below : List (Frame P)) (t u : Store) (slots others : List Slot)
        → Beside BothWent (needed o >>= λ next. Gives (Went t (record { frames = record { function = frame.function; point = next; slots = slots } ∷ below; arriving = None })))
        (needed o >>= λ next. Gives (Went u (record { frames = record { function = frame.function; point = next; slots = others } ∷ below; arriving = None })))
    gone_beside None frame below t u slots others = Neither
    gone_beside (Some next) frame below t u slots others = Both _ _ tt

    perform_beside : (frame : Frame P) (below : List (Frame P)) (a b : Act) → BothGoOn a b → Beside BothWent (perform p s frame below a) (perform p s frame below b)
    perform_beside frame below (GoesOn h t slots) (GoesOn i u others) e =
        subst (λ x. Beside BothWent (perform p s frame below (GoesOn h t slots)) (perform p s frame below (GoesOn x u others))) e (gone_beside (p.code.goes frame.function frame.point h) frame below t u slots others)
    perform_beside frame below (GoesOn h t slots) (Enters f vs) e = absurd e
    perform_beside frame below (GoesOn h t slots) (Leaves v u) e = absurd e
    perform_beside frame below (GoesOn h t slots) (AsksFor r) e = absurd e
    perform_beside frame below (Enters f vs) b e = absurd e
    perform_beside frame below (Leaves v u) b e = absurd e
    perform_beside frame below (AsksFor r) b e = absurd e

    frames_beside : (frames : List (Frame P)) → Beside BothWent (frames_answered p s (Whole j z) frames) (frames_answered p s (Whole j y) frames)
    frames_beside [] = Neither
    frames_beside (frame ∷ below) =
        same_then BothWent (needed (asking (p.code.stood frame.function frame.point))) _ _ λ f.
        beside_then BothGoOn BothWent (arrives (context p s frame) f (Some (Whole j z))) (arrives (context p s frame) f (Some (Whole j y))) _ _ (arrives_beside (context p s frame) f) (perform_beside frame below)

    pub answered_beside : (k : Stack P) → Beside BothWent (answered p s k (Whole j z)) (answered p s k (Whole j y))
    answered_beside k = frames_beside k.frames

-- ---- the step that asks

-- no fault came
abbrev pub NoFault : {A : Type 0} → Answer A → Type 0
NoFault (Faults fault) = ⊥
NoFault a = Unit {0}

module _ (allows : Allows) (q : Program) (x : Text) (vs : List Value) (zs : List ℤ) (numbers : ints_of vs ≡ Gives zs) (k : Stack Point) (s : States) where
  -- the state in which an answer is told and arrives
  abbrev pub told_with : ℤ → States
  told_with z = marks (HostCall x zs z) (record s { history = record s.history { answers = rest_of s.history.answers } })

  -- a call, by its numbers
  pub call_is : host_call (trees q) x vs k s ≡ reply (trees q) k (Whole Long (first_answer s.history.answers)) (told_with (first_answer s.history.answers))
  call_is = ap (λ a. a >>= λ ns. reply (trees q) k (Whole Long (first_answer s.history.answers)) (marks (HostCall x ns (first_answer s.history.answers)) (record s { history = record s.history { answers = rest_of s.history.answers } }))) numbers

  -- the answer that is left first, which may be given
  module _ (z : ℤ) (rest : List ℤ) (first : s.history.answers ≡ z ∷ rest) (may : allows x zs z) where
    abbrev Before : Type 0
    Before = HostsMeet allows s.trace

    abbrev told : List ℤ
    told = answers_of s.trace ++ z ∷ []

    told_good : Good allows Before told rest (told_with z)
    told_good = record { told_so = answers_more s.trace (HostCall x zs z); left_so = ap rest_of first; meets = λ i. meets_more allows s.trace (HostCall x zs z) i may }

    pub call_first : host_call (trees q) x vs k s ≡ reply (trees q) k (Whole Long z) (told_with z)
    call_first = call_is ∙ ap (λ ys. reply (trees q) k (Whole Long (first_answer ys)) (told_with (first_answer ys))) first

    came : (o : Option States) → Next allows Before told rest (trees q) o → Answered allows (z ∷ []) rest s o
    came None h = tt
    came (Some t) h = record { said_so = h.told_so; left = h.left_so; meets = h.meets }

    -- it goes on: the answer is told
    went : (a : Answer (Done Point)) → NoFault a → Only (Good allows Before told rest) (a >>= after_done (told_with z)) → Answered allows (z ∷ []) rest s (settled (callbacks q) s (a >>= after_done (told_with z)))
    went (Gives (Went t j)) still i = came (Some _) i
    went (Gives (Returned v t)) still i = tt
    went (Gives (Asks r)) still i = tt
    went (Faults fault) still i = absurd still
    went NoAnswer still i = tt

    pub call_answered : NoFault (answered (trees q) s.store k (Whole Long z)) → Answered allows (z ∷ []) rest s (settled (callbacks q) s (host_call (trees q) x vs k s))
    call_answered still =
        subst (λ a. Answered allows (z ∷ []) rest s (settled (callbacks q) s a)) (sym call_first)
        (went (answered (trees q) s.store k (Whole Long z)) still (reply_fine allows Before told rest (trees q) k (Whole Long z) (told_with z) told_good))
