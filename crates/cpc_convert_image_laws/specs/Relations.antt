-- How a source and its image are related: their types and answers, what their names mean, what their acts do.
use Rattle.std.specs.Prelude.{◌≡◌, ℕ, Bool, true, List, [], ◌∷◌, ◌++◌, Option, Some, None, slice_get, slice_set}
use Rattle.std.specs.List.{All}
use Rattle.cpc_base.specs.Bytes.{Text}
use Rattle.cpc_num.specs.declared.kinds.Fault.{Fault}
use Rattle.cpc_tree.specs.declared.program.Mode.{Mode}
use Rattle.cpc_tree.specs.declared.program.Mode.TheVariants.{Cps}
use Rattle.cpc_tree.specs.Syntax.{Ty, TyPointer, TyStruct, Function, Program}
use Rattle.cpc_tree.specs.Typing.{Scope, Meant, ALocal, AGlobal, AFunction, NotMeant, named, cells, field, function_named}
use Rattle.cpc_store.specs.declared.values.Class.{Class}
use Rattle.cpc_store.specs.declared.values.Class.TheVariants.{Auto}
use Rattle.cpc_store.specs.Store.{Value, At, Code, Store, Blocks}
use Rattle.cpc_meaning.specs.Answer.{Answer, Gives, Faults, NoAnswer}
use Rattle.cpc_meaning.specs.Eval.{Slot, Register, Boxed, assigned, Spot, InSlot, InCell}
use Rattle.cpc_meaning.specs.Requests.{Request, Primitive, RtDetach, Builtin, ToSpawn, Section}
use Rattle.cpc_meaning.specs.Act.{Act, GoesOn, Enters, Leaves, AsksFor}
use Rattle.cpc_convert_image_laws.specs.Images.{Reading, AsLocal, AsField}
use Rattle.cpc_convert_image_laws.specs.Held.{IsShared, IsHeld, IsHeldSlot, IsHeldStore, beside}

-- ---- what there is, and what is given

-- what there is in the source is there in the target
pub data Less {A : Type 0} : Option A → Option A → Type 0 where
  AsIs : (o : Option A) → Less o o
  Untold : (o : Option A) → Less None o

-- where the source gives something the target gives something related; it faults alike; where the source is stuck nothing is said
pub data Meets {A B : Type 0} (R : A → B → Type 0) : Answer A → Answer B → Type 0 where
  BothGive : (x : A) (y : B) → R x y → Meets R (Gives x) (Gives y)
  BothFault : (fault : Fault) → Meets R (Faults fault) (Faults fault)
  Stuck : (b : Answer B) → Meets R NoAnswer b

-- the same, of which something holds
pub data Same {A : Type 0} (Good : A → Type 0) : A → A → Type 0 where
  It : (x : A) → Good x → Same Good x x

-- ---- programs

-- the types that are complete in p are so in q, with the same cells, and structs have the same fields
pub record Extends (p q : Program) : Type 0 where
  pub cells : (t : Ty) → Less (cells p t) (cells q t)
  pub fields : (tag x : Text) → Less (field p tag x) (field q tag x)

-- a function in the place of another: it is called alike
pub record SameHead (f g : Function) : Type 0 where
  pub result : f.result ≡ g.result
  pub parameters : f.parameters ≡ g.parameters

-- a name of two functions that stand for each other, or of none
pub data Found (R : Function → Function → Type 0) : Option Function → Option Function → Type 0 where
  BothFound : (f g : Function) → R f g → SameHead f g → Found R (Some f) (Some g)
  NoneFound : Found R None None

-- what a source and a target have in common; the codes of C are found in both
pub record Common (C : Text → Type 0) (R : Function → Function → Type 0) (p q : Program) : Type 0 where
  pub types : Extends p q
  pub codes : (x : Text) → C x → Found R (function_named p x) (function_named q x)

-- ---- names

-- what a name of the source means there, by its reading. P says which variable of the source, of which type, stands in which local of the target
pub data Means (C : Text → Type 0) (P : ℕ → Ty → ℕ → Type 0) (q : Program) (scope : Scope) (slots slots' : List Slot) (x : Text) : Option Reading → Meant → Type 0 where
  InLocal : (y : Text) (k k' : ℕ) (t : Ty) (v : Value) → P k t k' → slice_get slots k ≡ Some (Register v) → named q scope y ≡ ALocal k' t → slice_get slots' k' ≡ Some (Register v)
      → Means C P q scope slots slots' x (Some (AsLocal y)) (ALocal k t)
  InBox : (y f tag : Text) (k k' : ℕ) (t : Ty) (n : ℕ) → P k t k' → slice_get slots k ≡ Some (Boxed n) → named q scope y ≡ ALocal k' (TyPointer (TyStruct tag)) → field q tag f ≡ Some (0, t) → slice_get slots' k' ≡ Some (Register (At Auto n 0))
      → Means C P q scope slots slots' x (Some (AsField y f)) (ALocal k t)
  StaysRegister : (k k' : ℕ) (t : Ty) (v : Value) → P k t k' → slice_get slots k ≡ Some (Register v) → named q scope x ≡ ALocal k' t → slice_get slots' k' ≡ Some (Register v)
      → Means C P q scope slots slots' x None (ALocal k t)
  StaysBox : (k k' : ℕ) (t : Ty) (n : ℕ) → P k t k' → slice_get slots k ≡ Some (Boxed n) → named q scope x ≡ ALocal k' t → slice_get slots' k' ≡ Some (Boxed n)
      → Means C P q scope slots slots' x None (ALocal k t)
  StaysNowhere : (k k' : ℕ) (t : Ty) → slice_get slots k ≡ None → named q scope x ≡ ALocal k' t → Means C P q scope slots slots' x None (ALocal k t)
  StaysGlobal : (n : ℕ) (t : Ty) → named q scope x ≡ AGlobal n t → Means C P q scope slots slots' x None (AGlobal n t)
  StaysFunction : (mode : Mode) (r : Ty) (ps : List Ty) → named q scope x ≡ AFunction mode r ps → C x → Means C P q scope slots slots' x None (AFunction mode r ps)
  IsCps : (r : Ty) (ps : List Ty) → Means C P q scope slots slots' x None (AFunction Cps r ps)
  StaysNothing : named q scope x ≡ NotMeant → Means C P q scope slots slots' x None NotMeant

-- where a place of this type is, in the source and in the target: a variable and the local in which it stands, or the same cell of memory
pub data SpotAlike (P : ℕ → Ty → ℕ → Type 0) (slots slots' : List Slot) : Option Ty → Spot → Spot → Type 0 where
  TheSlot : (k k' : ℕ) (t : Ty) (v : Value) → P k t k' → slice_get slots k ≡ Some (Register v) → slice_get slots' k' ≡ Some (Register v) → SpotAlike P slots slots' (Some t) (InSlot k) (InSlot k')
  TheCell : (o : Option Ty) (c : Class) (n k : ℕ) → IsShared c → SpotAlike P slots slots' o (InCell c n k) (InCell c n k)

-- ---- acts

-- the slots after an act: as before, or a variable and the local in which it stands were given one value, which fits their type
pub data Changed (P : ℕ → Ty → ℕ → Type 0) (slots slots' : List Slot) : List Slot → List Slot → Type 0 where
  NoneChanged : Changed P slots slots' slots slots'
  BothChanged : (k k' : ℕ) (t : Ty) (u v w : Value) → P k t k' → slice_get slots k ≡ Some (Register u) → slice_get slots' k' ≡ Some (Register u) → assigned t v ≡ Gives w
      → Changed P slots slots' (slice_set slots k (Register w)) (slice_set slots' k' (Register w))

-- each variable stands in one local, and no two in the same
pub record OneToOne (P : ℕ → Ty → ℕ → Type 0) : Type 0 where
  pub forth : (k k' j j' : ℕ) (t u : Ty) → P k t k' → P j u j' → k ≡ j → k' ≡ j'
  pub back : (k k' j j' : ℕ) (t u : Ty) → P k t k' → P j u j' → k' ≡ j' → k ≡ j

-- a store of the source, and it beside the frames
pub data StoreBeside (C : Text → Type 0) (frames : Blocks) : Store → Store → Type 0 where
  InBoth : (t : Store) → IsHeldStore C t → StoreBeside C frames t (beside frames t)

-- the answer to a request: a store and a value
pub data Answered (C : Text → Type 0) (frames : Blocks) : Store × Value → Store × Value → Type 0 where
  BothAnswer : (t : Store) (v : Value) → IsHeldStore C t → IsHeld C v → Answered C frames (t, v) (beside frames t, v)

-- slots and stores after an act; the frames of the target are as before
pub data After (C : Text → Type 0) (P : ℕ → Ty → ℕ → Type 0) (frames : Blocks) (slots slots' : List Slot) : List Slot × Store → List Slot × Store → Type 0 where
  Afterwards : (t : Store) (a b : List Slot) → IsHeldStore C t → All (IsHeldSlot C) a → Changed P slots slots' a b → After C P frames slots slots' (a, t) (b, beside frames t)

-- two acts: both go on alike, enter functions that stand for each other with the same arguments, leave alike, or ask for the same
pub data SameAct (C : Text → Type 0) (R : Function → Function → Type 0) (P : ℕ → Ty → ℕ → Type 0) (frames : Blocks) (slots slots' : List Slot) : Act → Act → Type 0 where
  BothGo : (test : Bool) (t : Store) (a b : List Slot) → IsHeldStore C t → All (IsHeldSlot C) a → Changed P slots slots' a b → SameAct C R P frames slots slots' (GoesOn test t a) (GoesOn test (beside frames t) b)
  BothEnter : (f g : Function) (vs : List Value) → R f g → SameHead f g → All (IsHeld C) vs → SameAct C R P frames slots slots' (Enters f vs) (Enters g vs)
  BothLeave : (v : Value) (t : Store) → IsHeldStore C t → IsHeld C v → SameAct C R P frames slots slots' (Leaves v t) (Leaves v (beside frames t))
  BothAsk : (r : Request) → All (IsHeld C) r.arguments → SameAct C R P frames slots slots' (AsksFor r) (AsksFor r)

-- the variables of a call that is entered: the same slots, in a later store and in it beside the frames
pub data Entered (C : Text → Type 0) (frames : Blocks) : List Slot × Store → List Slot × Store → Type 0 where
  SlotsMade : (t : Store) (slots : List Slot) → IsHeldStore C t → All (IsHeldSlot C) slots → Entered C frames (slots, t) (slots, beside frames t)

-- ---- acts of the source that become other acts of the target

-- a spawn of f, and the entry of its spawner with the same arguments
pub data SpawnAct (C : Text → Type 0) (f : Text) (g : Function) : Act → Act → Type 0 where
  Spawned : (vs : List Value) → All (IsHeld C) vs → SpawnAct C f g (AsksFor (record { asked = ToSpawn f; arguments = vs })) (Enters g vs)

-- a primitive that waits, and the one that takes a callback and its pointer besides
pub data WaitAct (C : Text → Type 0) (prim prim' : Primitive) (callback : Text) (pointer : Value) : Act → Act → Type 0 where
  Waited : (vs : List Value) → All (IsHeld C) vs
      → WaitAct C prim prim' callback pointer (AsksFor (record { asked = Builtin prim; arguments = vs })) (AsksFor (record { asked = Builtin prim'; arguments = vs ++ Code callback ∷ pointer ∷ [] }))

-- a section, and `rt_detach` of its function with the same arguments
pub data SectionAct (C : Text → Type 0) (f callback : Text) (pointer : Value) : Act → Act → Type 0 where
  Detached : (vs : List Value) → All (IsHeld C) vs
      → SectionAct C f callback pointer (AsksFor (record { asked = Section f; arguments = vs })) (AsksFor (record { asked = Builtin RtDetach; arguments = Code callback ∷ pointer ∷ Code f ∷ vs }))

-- a value, and an act that leaves it in a local of the target
pub data StoredAct (C : Text → Type 0) (s : Store) (frames : Blocks) (slots' : List Slot) (k' : ℕ) : Value → Act → Type 0 where
  Stored : (v : Value) → IsHeld C v → StoredAct C s frames slots' k' v (GoesOn true (beside frames s) (slice_set slots' k' (Register v)))
