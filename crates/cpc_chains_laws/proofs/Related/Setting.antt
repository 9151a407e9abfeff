-- The two programs of a conversion, and the families of what is known of them: all rows are over one such setting.
use Rattle.std.proofs.Common.{◌≡◌, ℕ, Bool, true, false, List, [], ◌∷◌, Option, Some}
use Rattle.std.specs.List.{All}
use Rattle.cpc_base.specs.Bytes.{Text}
use Rattle.cpc_num.specs.declared.kinds.Fault.{Fault}
use Rattle.cpc_store.specs.Store.{Value, Blocks, Store}
use Rattle.cpc_tree.specs.Syntax.{TyInt, Function, Program}
use Rattle.cpc_tree.specs.Points.{Point}
use Rattle.cpc_meaning.specs.Copies.{Collected, AllGave, OneFailed, NotClear, collect}
use Rattle.cpc_meaning.specs.Eval.{Slot, assigned}
use Rattle.cpc_meaning.specs.Agenda.{Due}
use Rattle.cpc_meaning.specs.Answer.{Gives}
use Rattle.cpc_num.specs.declared.kinds.Kind.TheVariants.{Int}
use Rattle.cpc_meaning.specs.Plain.{Form, Frame, Asks, asking, context, frames_step}
use Rattle.cpc_meaning.specs.Requests.{Request, Primitive, Print, Putc, Puts, Now, CondNew, CondFree, Signal, SignalAll, Exit, Malloc, Free, Asked, Builtin, Host, ToSpawn, Section}
use Rattle.cpc_tree.specs.Points.{Found}
use Rattle.cpc_convert_image_laws.specs.Native.{IsArrival}
use Rattle.cpc_meaning.specs.Section.{Job, all_integers}
use Rattle.cpc_meaning.specs.Start.{before_underscores}
use Rattle.cpc_meaning.specs.Threads.{Thread, Pending, shown_in}
use Rattle.cpc_meaning.specs.Trees.{trees}
use Rattle.cpc_forms.specs.Split.{Position, InTree, InGraph, split_form}
use Rattle.cpc_forms.specs.Flow.{Place, At}
use Rattle.cpc_tree.specs.Lists.{holds_number}
use Rattle.cpc_lift_laws.specs.Lifted.{tidy_slots}
use Rattle.cpc_convert_image_laws.specs.Held.{IsHeld, IsHeldStore, beside}
use Rattle.cpc_convert_image_laws.specs.Relations.{Common}
use Rattle.cpc_convert_image_laws.specs.Stacks.{frame_of, EntersAlike, NativePoint}
use Rattle.cpc_lifted_laws.specs.Related.Boxes.{OwnsBoxes}
use Rattle.cpc_lifted_laws.specs.Related.Cut.{Cut}
use Rattle.cpc_chains_laws.specs.Related.Running.{Places, SamePoint}
use Rattle.cpc_chains_laws.proofs.Related.Relation.{Source}

-- the source program, in its split form, and the event program; the codes that may be values; the functions that sections run; which
-- function stands for which; how cps functions are cut; which variables a position keeps; where pieces stand for frames; the names that occur at a point of native code; what
-- is known of a frame on top of a stack with the value that arrives at it; and of the arguments of a call that is to begin
pub record Setting : Type 1 where
  pub source : Program
  pub target : Program
  pub codes : Text → Type 0
  pub sections : Text → Type 0
  pub pairs : Function → Function → Type 0
  pub cut : Cut
  pub kept : Text → Position → ℕ → Bool
  pub there : Places
  pub used : Text → Point → Text → Type 0
  pub fine : Frame Position → (arriving : Option Value) → Type 0
  pub given : Text → List Value → Type 0

-- the form of the source, and that of the target
abbrev pub from_form : Setting → Form Position
from_form z = split_form z.source

abbrev pub to_form : Setting → Form Point
to_form z = trees z.target

-- what the sections of a poll come to in both: the same values, and stores that differ in the frames alone; the same fault, shown alike; where the source is stuck nothing is said
pub data CollectedAlike (z : Setting) (bs : Blocks) : Collected → Collected → Type 0 where
  BothGave : (vs : List Value) (t : Store) → CollectedAlike z bs (AllGave vs t) (AllGave vs (beside bs t))
  BothFailed : (fault : Fault) (f : Text) → before_underscores f ≡ shown_in z.source f → CollectedAlike z bs (OneFailed fault f) (OneFailed fault f)
  SourceStuck : (c : Collected) → CollectedAlike z bs NotClear c

-- a section that is out runs one of the functions for that, on integers, and its pointer is one of the source
pub record HeldJob (z : Setting) (j : Job) : Type 0 where
  pub function : z.sections j.function
  pub arguments : all_integers j.arguments ≡ true
  pub cells : all_integers j.cells ≡ true
  pub pointer : IsHeld z.codes j.pointer

-- what is known of a state of the source: among it that the boxes of all frames are live, and no two the same
pub record Known (z : Setting) (x : Source) : Type 0 where
  pub store : IsHeldStore z.codes x.store
  pub jobs : All (HeldJob z) x.jobs
  pub boxes : OwnsBoxes x
  pub running : (frame : Frame Position) (below : List (Frame Position)) (o : Option Value) → x.running ≡ Some (record { frames = frame ∷ below; arriving = o }) → z.fine frame o
  pub result : (d : Due (Thread Position)) (ds : List (Due (Thread Position))) → x.agenda.round ≡ d ∷ ds → assigned (TyInt Int) d.result ≡ Gives d.result
  pub arguments : (f : Text) (vs : List Value) (v : Value) (ds : List (Due (Thread Position))) → x.agenda.round ≡ record { item = Pending f vs; result = v } ∷ ds → z.given f vs

-- what is known of functions that are not cut, and of sections
pub record NativeFacts (z : Setting) : Type 0 where
  pub common : Common z.codes z.pairs z.source z.target
  pub enters : (f g : Function) → z.pairs f g → EntersAlike (SamePoint z.cut) (from_form z) (to_form z) f g
  pub whole : (f : Text) (point : Point) (k : ℕ) → z.cut.whole f ≡ true → z.kept f (InTree point) k ≡ true
  pub shown : (f : Text) → z.cut.whole f ≡ true → before_underscores f ≡ shown_in z.source f
  pub nobody : before_underscores [] ≡ shown_in z.source []
  pub sections : (bound : ℕ) (jobs : List Job) (ns : List ℕ) (s : Store) (bs : Blocks) → IsHeldStore z.codes s → All (HeldJob z) jobs
      → CollectedAlike z bs (collect (from_form z) bound jobs ns s) (collect (to_form z) bound jobs ns (beside bs s))

-- what is known of cps functions apart from their code: what a frame keeps where a leader begins is kept there in the lifted run, and
-- pieces stand for frames by what these keep
pub record KeepsFacts (z : Setting) : Type 0 where
  pub keeps : (f : Text) (n k : ℕ) → holds_number (z.cut.keeps f (At n)) k ≡ true → z.kept f (InGraph (At n) n) k ≡ true
  pub tidied : (f : Text) (l : Place) (n : ℕ) (slots : List Slot) (o : Option Value) (next : Value) (piece : Frame Point) (o' : Option Value)
      → z.there f l n slots o next piece o' → z.there f l n (tidy_slots (z.kept f (InGraph l n)) slots) o next piece o'

-- ---- native code

-- primitives of both machines
abbrev pub is_common : Primitive → Bool
is_common Print = true
is_common Putc = true
is_common Puts = true
is_common Now = true
is_common CondNew = true
is_common CondFree = true
is_common Signal = true
is_common SignalAll = true
is_common Exit = true
is_common Malloc = true
is_common Free = true
is_common _ = false

-- requests that both machines answer alike: primitives that neither wait nor belong to the event loop, and the host's functions
abbrev pub is_answered : Asked → Bool
is_answered (Builtin prim) = is_common prim
is_answered (Host x) = true
is_answered (ToSpawn f) = false
is_answered (Section f) = false

-- a point of native code at which nothing is spawned: what stands there is the same in both, and what is asked there is answered alike
pub record NativeAt (z : Setting) (f : Text) (b : Point) (slots : List Slot) : Type 0 where
  pub point : (s : Store) → NativePoint z.codes z.pairs (SamePoint z.cut) (z.used f b) (from_form z) (to_form z) s f (InTree b) b slots
  pub written : (s : Store) (g : Found) → asking ((from_form z).code.stood f (InTree b)) ≡ Some g → IsArrival (context (from_form z) s (frame_of f (InTree b) slots)) g
  pub asks : (s : Store) (o : Option Value) (below : List (Frame Position)) (r : Request) → frames_step (from_form z) s o (frame_of f (InTree b) slots ∷ below) ≡ Gives (Asks r) → is_answered r.asked ≡ true
