-- Code beside heap frames that it does not know: the same store with other frames, and what a step comes to there.
use Rattle.std.specs.Prelude.{◌≡◌, ℕ, ℤ, List, Option}
use Rattle.std.specs.List.{All}
use Rattle.cpc_base.specs.Bytes.{Text}
use Rattle.cpc_num.specs.declared.kinds.Op.{Op}
use Rattle.cpc_tree.specs.Syntax.{Ty, Expr, Function, Program}
use Rattle.cpc_tree.specs.Typing.{Scope}
use Rattle.cpc_store.specs.declared.values.Class.{Class}
use Rattle.cpc_store.specs.declared.values.Scalar.{Scalar}
use Rattle.cpc_store.specs.declared.values.Class.TheVariants.{Heap}
use Rattle.cpc_store.specs.Store.{Value, Blocks, Store, load, save}
use Rattle.cpc_meaning.specs.Answer.{Gives, ◌>>=◌, of_result}
use Rattle.cpc_meaning.specs.Eval.{Slot, Context, InCell, place, value, operate, moved, field_spot, read}
use Rattle.cpc_meaning.specs.Slots.{call_slots, free_slots}
use Rattle.cpc_meaning.specs.Act.{Stood, Act, GoesOn, Enters, Leaves, AsksFor, act}
use Rattle.cpc_meaning.specs.Plain.{Form, Stack, Done, Went, Returned, Asks, plain, answered}
use Rattle.cpc_meaning.specs.Section.{Job, allocated, freed}
use Rattle.cpc_meaning.specs.Copies.{copy_of, Collected, AllGave, OneFailed, NotClear, collect}
use Rattle.cpc_meaning_laws.specs.Pointer.Made.{IsBlock, IsMade, IsMadeSlot, IsMadeStore, IsMadeCode}
use Rattle.cpc_check_laws.specs.Kept.Kept.{NoFrames}

-- the store with these frames
abbrev pub with_frames : Blocks → Store → Store
with_frames bs s = record s { frames = bs }

-- what an act, a step, an act on the store and a poll's sections come to where the store has these frames
abbrev pub act_beside : Blocks → Act → Act
act_beside bs (GoesOn h s slots) = GoesOn h (with_frames bs s) slots
act_beside bs (Enters f vs) = Enters f vs
act_beside bs (Leaves v s) = Leaves v (with_frames bs s)
act_beside bs (AsksFor r) = AsksFor r

abbrev pub done_beside : {P : Type 0} → Blocks → Done P → Done P
done_beside bs (Went s k) = Went (with_frames bs s) k
done_beside bs (Returned v s) = Returned v (with_frames bs s)
done_beside bs (Asks r) = Asks r

abbrev pub handed_beside : Blocks → Store × Value → Store × Value
handed_beside bs r = (with_frames bs r.0, r.1)

abbrev pub collected_beside : Blocks → Collected → Collected
collected_beside bs (AllGave vs s) = AllGave vs (with_frames bs s)
collected_beside bs (OneFailed fault f) = OneFailed fault f
collected_beside bs NotClear = NotClear

-- what an expression is evaluated in
abbrev pub within : Program → Scope → List Slot → Store → Context
within p scope slots s = record { program = p; scope = scope; slots = slots; store = s }

-- where no frame was made and pointers lead into blocks that were made, code does the same beside any frames: the same values, the same
-- places, the same acts and the same faults, and the frames stay as they are
pub record ActsBeside (p : Program) (scope : Scope) (slots : List Slot) (s : Store) (bs : Blocks) : Type 0 where
  pub value : (e : Expr) → value (within p scope slots (with_frames bs s)) e ≡ value (within p scope slots s) e
  pub place : (e : Expr) → place (within p scope slots (with_frames bs s)) e ≡ place (within p scope slots s) e
  pub act : (result : Ty) (o : Option Value) (stood : Stood)
      → act (within p scope slots (with_frames bs s)) result o stood ≡ (act (within p scope slots s) result o stood >>= λ a. Gives (act_beside bs a))

abbrev pub CodeBeside : Type 0
CodeBeside = (p : Program) (scope : Scope) (slots : List Slot) (s : Store) (bs : Blocks) → NoFrames s → IsMadeStore s → All (IsMadeSlot s) slots → ActsBeside p scope slots s bs

-- a step of code, and the answer to a request
pub record StepsBeside {P : Type 0} (p : Form P) (s : Store) (k : Stack P) (bs : Blocks) : Type 0 where
  pub plain : plain p (with_frames bs s) k ≡ (plain p s k >>= λ d. Gives (done_beside bs d))
  pub answered : (v : Value) → answered p (with_frames bs s) k v ≡ (answered p s k v >>= λ d. Gives (done_beside bs d))

abbrev pub StacksBeside : (P : Type 0) → Type 0
StacksBeside P = (p : Form P) (s : Store) (k : Stack P) (bs : Blocks) → NoFrames s → IsMadeCode s k → StepsBeside p s k bs

-- what a program allocates and frees itself
pub record HeapBeside (v : Value) (s : Store) (bs : Blocks) : Type 0 where
  pub allocated : allocated Heap v (with_frames bs s) ≡ (allocated Heap v s >>= λ r. Gives (handed_beside bs r))
  pub freed : freed Heap v (with_frames bs s) ≡ (freed Heap v s >>= λ r. Gives (handed_beside bs r))

abbrev pub HeapsBeside : Type 0
HeapsBeside = (v : Value) (s : Store) (bs : Blocks) → HeapBeside v s bs

-- what a section takes and brings back
pub record PollsBeside {P : Type 0} (p : Form P) (s : Store) (bs : Blocks) : Type 0 where
  pub copied : (f : Function) (v : Value) → IsMade s v → copy_of p.program f v (with_frames bs s) ≡ copy_of p.program f v s
  pub collected : (bound : ℕ) (jobs : List Job) (ns : List ℕ) → All (λ (j : Job). IsMade s j.pointer) jobs → collect p bound jobs ns (with_frames bs s) ≡ collected_beside bs (collect p bound jobs ns s)

abbrev pub SectionsBeside : (P : Type 0) → Type 0
SectionsBeside P = (p : Form P) (s : Store) (bs : Blocks) → NoFrames s → PollsBeside p s bs

-- what expressions and acts are made of, one by one
pub record PartsBeside (p : Program) (s : Store) (bs : Blocks) : Type 0 where
  pub operate : (op : Op) (t u : Option Ty) (v w : Value) → IsMade s v → IsMade s w → operate p (with_frames bs s) op t u v w ≡ operate p s op t u v w
  pub moved : (v : Value) (d : ℤ) → IsMade s v → moved (with_frames bs s) v d ≡ moved s v d
  pub field : (t : Option Ty) (x : Text) (v : Value) → IsMade s v → field_spot p (with_frames bs s) t x v ≡ field_spot p s t x v
  pub read : (slots : List Slot) (t : Option Ty) (c : Class) (n k : ℕ) → IsBlock s c n → read slots (with_frames bs s) t (InCell c n k) ≡ read slots s t (InCell c n k)
  pub load : (wanted : Scalar) (c : Class) (n k : ℕ) → IsBlock s c n → load wanted c n k (with_frames bs s) ≡ load wanted c n k s
  pub save : (c : Class) (n k : ℕ) (v : Value) → IsBlock s c n → of_result (save c n k v (with_frames bs s)) ≡ (of_result (save c n k v s) >>= λ t. Gives (with_frames bs t))
  pub made : (f : Function) (vs : List Value) → call_slots p f vs (with_frames bs s) ≡ (call_slots p f vs s >>= λ r. Gives (r.0, with_frames bs r.1))
  pub freed : (slots : List Slot) → free_slots slots (with_frames bs s) ≡ (free_slots slots s >>= λ t. Gives (with_frames bs t))

abbrev pub StoresBeside : Type 0
StoresBeside = (p : Program) (s : Store) (bs : Blocks) → NoFrames s → IsMadeStore s → PartsBeside p s bs
