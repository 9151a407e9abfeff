-- The laws of stacks of native code, as statements.
use Rattle.std.specs.Prelude.{◌≡◌, Bool, List, ◌∷◌, Option, Some}
use Rattle.std.specs.List.{All}
use Rattle.cpc_base.specs.Bytes.{Text}
use Rattle.cpc_tree.specs.Lists.{is_empty}
use Rattle.cpc_tree.specs.Points.{Found}
use Rattle.cpc_tree.specs.Syntax.{Function}
use Rattle.cpc_store.specs.Store.{Value, Store, Blocks}
use Rattle.cpc_meaning.specs.Eval.{Slot}
use Rattle.cpc_meaning.specs.Plain.{Form, Frame, context, frames_step, frames_answered, asking}
use Rattle.cpc_convert_image_laws.specs.Held.{IsHeld, IsHeldSlot, IsHeldStore, beside}
use Rattle.cpc_convert_image_laws.specs.Relations.{Common, Meets}
use Rattle.cpc_convert_image_laws.specs.Native.{IsHeldIf, IsArrival}
use Rattle.cpc_convert_image_laws.specs.Frames.{IsIn, AreIn}
use Rattle.cpc_convert_image_laws.specs.Stacks.{frame_of, Native, EntersAlike, NativePoint, DoneAlike}

-- positions of a function that stand for each other
abbrev pub At : {A B : Type 0} → (Text → A → B → Bool) → Text → A → B → Type 0
At test f a b = AreIn (test f) a b

-- a source and a target in these forms, whose positions stand for each other, and what is below the native frames
pub record TwoForms (A B : Type 0) : Type 0 where
  pub source : Form A
  pub target : Form B
  pub codes : Text → Bool
  pub pairs : Function → Function → Bool
  pub positions : Text → A → B → Bool
  pub below : List (Frame A) → List (Frame B) → Bool
  pub ends : (xs : List (Frame A)) (ys : List (Frame B)) → AreIn below xs ys → is_empty xs ≡ is_empty ys
  pub common : Common (IsIn codes) (AreIn pairs) source.program target.program
  pub enters : (f g : Function) → AreIn pairs f g → EntersAlike (At positions) source target f g

-- a native frame of each above native frames
pub record TwoStacks (A B : Type 0) (t : TwoForms A B) : Type 0 where
  pub frames : Blocks
  pub store : Store
  pub is_source : IsHeldStore (IsIn t.codes) store
  pub function : Text
  pub here : A
  pub there : B
  pub slots : List Slot
  pub held : All (IsHeldSlot (IsIn t.codes)) slots
  pub xs : List (Frame A)
  pub ys : List (Frame B)
  pub stacks : Native (IsIn t.codes) (At t.positions) (AreIn t.below) xs ys
  pub used : Text → Bool
  pub point : NativePoint (IsIn t.codes) (AreIn t.pairs) (At t.positions) (IsIn used) t.source t.target store function here there slots

-- a step of native code in both
abbrev pub NativeStacksStep : (A B : Type 0) → Type 0
NativeStacksStep A B =
    (t : TwoForms A B) (k : TwoStacks A B t) (o : Option Value) → IsHeldIf (IsIn t.codes) o
    → Meets (DoneAlike (IsIn t.codes) (At t.positions) (AreIn t.below) k.frames) (frames_step t.source k.store o (frame_of k.function k.here k.slots ∷ k.xs)) (frames_step t.target (beside k.frames k.store) o (frame_of k.function k.there k.slots ∷ k.ys))

-- an answer to what native code asks, in both
abbrev pub NativeStacksAreAnswered : (A B : Type 0) → Type 0
NativeStacksAreAnswered A B =
    (t : TwoForms A B) (k : TwoStacks A B t) (v : Value) → ((g : Found) → asking (t.source.code.stood k.function k.here) ≡ Some g → IsArrival (context t.source k.store (frame_of k.function k.here k.slots)) g) → IsHeld (IsIn t.codes) v
    → Meets (DoneAlike (IsIn t.codes) (At t.positions) (AreIn t.below) k.frames) (frames_answered t.source k.store v (frame_of k.function k.here k.slots ∷ k.xs)) (frames_answered t.target (beside k.frames k.store) v (frame_of k.function k.there k.slots ∷ k.ys))
