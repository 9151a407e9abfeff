-- Stacks of native code in a source and in a target, whose positions may differ, above other frames.
use Rattle.std.specs.Prelude.{◌≡◌, ℕ, Bool, List, ◌∷◌, Option, Some, None}
use Rattle.std.specs.List.{All}
use Rattle.cpc_base.specs.Bytes.{Text}
use Rattle.cpc_tree.specs.Syntax.{Variable, Function}
use Rattle.cpc_tree.specs.Registers.{variables, is_register}
use Rattle.cpc_tree.specs.Typing.{named, function_named}
use Rattle.cpc_store.specs.Store.{Value, Store, Blocks}
use Rattle.cpc_meaning.specs.Eval.{Slot}
use Rattle.cpc_meaning.specs.Plain.{Form, Frame, Done, Went, Returned, Asks, context}
use Rattle.cpc_meaning.specs.Requests.{Request}
use Rattle.cpc_meaning.specs.Names.{AllNamesStood}
use Rattle.cpc_convert_image_laws.specs.Held.{IsHeld, IsHeldSlot, IsHeldStore, beside}
use Rattle.cpc_convert_image_laws.specs.Relations.{Found}
use Rattle.cpc_convert_image_laws.specs.Native.{KeptName, IsNativeStood, IsHeldIf}

-- a frame at a position
abbrev pub frame_of : {P : Type 0} → Text → P → List Slot → Frame P
frame_of f point slots = record { function = f; point = point; slots = slots }

-- native frames at positions that stand for each other, with the same variables, above frames of which Below holds
pub data Native {A B : Type 0} (C : Text → Type 0) (Pos : Text → A → B → Type 0) (Below : List (Frame A) → List (Frame B) → Type 0) : List (Frame A) → List (Frame B) → Type 0 where
  NoMore : (xs : List (Frame A)) (ys : List (Frame B)) → Below xs ys → Native C Pos Below xs ys
  OneMore : (f : Text) (a : A) (b : B) (slots : List Slot) (xs : List (Frame A)) (ys : List (Frame B)) → Pos f a b → All (IsHeldSlot C) slots → Native C Pos Below xs ys → Native C Pos Below (frame_of f a slots ∷ xs) (frame_of f b slots ∷ ys)

-- where control goes in both, if it goes on in the source
pub data Onwards {A B : Type 0} (Pos : A → B → Type 0) : Option A → Option B → Type 0 where
  BothGoTo : (a : A) (b : B) → Pos a b → Onwards Pos (Some a) (Some b)
  GoesNowhere : (o : Option B) → Onwards Pos None o

-- a function and the one that stands for it are entered alike
pub record EntersAlike {A B : Type 0} (Pos : Text → A → B → Type 0) (p : Form A) (q : Form B) (f g : Function) : Type 0 where
  pub called : f.called ≡ g.called
  pub variables : variables f ≡ variables g
  pub marks : (n : ℕ) (x : Variable) → is_register g n x ≡ is_register f n x
  pub first : Pos f.called (p.code.first f.called) (q.code.first f.called)

-- what stands at two positions of native code, and where control goes from there
pub record NativePoint {A B : Type 0} (C : Text → Type 0) (R : Function → Function → Type 0) (Pos : Text → A → B → Type 0) (L : Text → Type 0) (p : Form A) (q : Form B) (s : Store) (f : Text) (a : A) (b : B) (slots : List Slot) : Type 0 where
  pub function : Found R (function_named p.program f) (function_named q.program f)
  pub scope : p.code.scope f a ≡ q.code.scope f b
  pub stood : p.code.stood f a ≡ q.code.stood f b
  pub native : IsNativeStood (context p s (frame_of f a slots)) (p.code.stood f a)
  pub all_names : AllNamesStood L (p.code.stood f a)
  pub names : (x : Text) → L x → KeptName C x (named p.program (p.code.scope f a) x) (named q.program (p.code.scope f a) x)
  pub goes : (h : Bool) → Onwards (Pos f) (p.code.goes f a h) (q.code.goes f b h)
  pub arrival : Onwards (Pos f) (p.code.arrival f a) (q.code.arrival f b)

-- what a step comes to: both go on over such stacks, return the same, or ask for the same
pub data DoneAlike {A B : Type 0} (C : Text → Type 0) (Pos : Text → A → B → Type 0) (Below : List (Frame A) → List (Frame B) → Type 0) (frames : Blocks) : Done A → Done B → Type 0 where
  BothWent : (t : Store) (xs : List (Frame A)) (ys : List (Frame B)) (o : Option Value) → IsHeldStore C t → IsHeldIf C o → Native C Pos Below xs ys
      → DoneAlike C Pos Below frames (Went t (record { frames = xs; arriving = o })) (Went (beside frames t) (record { frames = ys; arriving = o }))
  BothReturned : (v : Value) (t : Store) → IsHeldStore C t → IsHeld C v → DoneAlike C Pos Below frames (Returned v t) (Returned v (beside frames t))
  BothAsked : (r : Request) → All (IsHeld C) r.arguments → DoneAlike C Pos Below frames (Asks r) (Asks r)
