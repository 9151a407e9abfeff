-- The laws of images, as statements.
use Rattle.std.specs.Prelude.{◌≡◌, ℕ, Bool, true, false, List, [], ◌++◌, Option, Some, None, slice_get, slice_set}
use Rattle.std.specs.List.{All}
use Rattle.cpc_base.specs.Bytes.{Text}
use Rattle.cpc_tree.specs.declared.program.Mode.TheVariants.{Native}
use Rattle.cpc_tree.specs.Syntax.{Ty, Expr, ENamed, Exprs, AndExpr, Stmt, Variable, Function, Program}
use Rattle.cpc_tree.specs.Points.{Simple, Found}
use Rattle.cpc_tree.specs.Primitives.{Primitive, RtDetach, Taken, any_pointer, callback_and_pointer, takes_first}
use Rattle.cpc_tree.specs.Registers.{is_register, slot_of, addresses}
use Rattle.cpc_tree.specs.Typing.{Scope, Meant, ALocal, AFunction, named, item_named, function_named, parameter_types, is_null, Typed, typing, APlace, is_scalar}
use Rattle.cpc_store.specs.declared.values.Class.{Class}
use Rattle.cpc_store.specs.Store.{Value, Code, Store, Blocks, save}
use Rattle.cpc_meaning.specs.Answer.{Gives, ◌>>=◌, of_result, NoAnswer}
use Rattle.cpc_meaning.specs.Eval.{Slot, Register, value, values, used_type, place_type, assigned, Context, place}
use Rattle.cpc_meaning.specs.Requests.{arguments, all_taken}
use Rattle.cpc_meaning.specs.Slots.{make_slots, free_slots}
use Rattle.cpc_meaning.specs.Section.{allocated, freed}
use Rattle.cpc_meaning.specs.Copies.{copy_of, write_to}
use Rattle.cpc_meaning.specs.Act.{Stood, GoesOn, assign, assigns, deliver, spawns, detaches, calls_expr, asks_with, simple_act, test_act, arrives, act, returns, leaves, target_of}
use Rattle.cpc_convert_image_laws.specs.Images.{Reading, image, images, image_if, image_stmt, followed}
use Rattle.cpc_meaning.specs.Names.{AllNames, AllNamesIf, AllNamesAmong, AllNamesOf, AllNamesStood}
use Rattle.cpc_convert_image_laws.specs.InPlace.{IsWritten, IsWrittenIf, IsInPlace}
use Rattle.cpc_convert_image_laws.specs.Native.{KeptItem, IsSelf, IsArrival, IsNativeStood, IsHeldIf}
use Rattle.cpc_convert_image_laws.specs.Held.{IsShared, IsHeld, IsHeldStore, beside}
use Rattle.cpc_convert_image_laws.specs.Locals.{readings_in, Stands, FitsAt, StandsFor}
use Rattle.cpc_convert_image_laws.specs.Relations.{Less, Extends, SameHead, Meets, Same, Means, Changed, OneToOne, StoreBeside, Answered, After, SameAct, Entered, SpawnAct, WaitAct, SectionAct, StoredAct, SpotAlike}
use Rattle.cpc_convert_image_laws.specs.OneByOne.{AllConvert, OneByOne}
use Rattle.cpc_convert_image_laws.specs.Frames.{IsIn, AreIn, StandsIn, TwoFrames, here, there, Holds, DoSame, NativeFrame, native_here, native_there}

-- ---- expressions

-- an image is used at the type of its expression, is a place of that type where the expression is a place that may be written, and is null where it is
abbrev pub ImagesHaveTypes : Type 0
ImagesHaveTypes =
    (t : TwoFrames) (e : Expr) → AllNames (IsIn t.used) e
    → Less (used_type (here t) e) (used_type (there t) (image t.readings e)) × (IsWritten (here t) e → Less (place_type (here t) e) (place_type (there t) (image t.readings e))) × (is_null (image t.readings e) ≡ is_null e)

-- an image has the value of its expression, also at a type
abbrev pub ImagesHaveValues : Type 0
ImagesHaveValues =
    (t : TwoFrames) (e : Expr) → AllNames (IsIn t.used) e
    → Meets (Same (Holds t)) (value (here t) e) (value (there t) (image t.readings e))
    × ((u : Ty) → Meets (Same (Holds t)) (value (here t) e >>= assigned u) (value (there t) (image t.readings e) >>= assigned u))

-- and is where its expression is, if that is a place
abbrev pub ImagesArePlaces : Type 0
ImagesArePlaces =
    (t : TwoFrames) (e : Expr) → AllNames (IsIn t.used) e
    → Meets (SpotAlike (StandsIn t.stands) t.slots t.slots' (place_type (here t) e)) (place (here t) e) (place (there t) (image t.readings e))

-- and so have rows, as arguments of these types or as a primitive takes them
abbrev pub ImagesAreArguments : Type 0
ImagesAreArguments =
    (t : TwoFrames) (es : Exprs) → AllNamesAmong (IsIn t.used) es
    → Meets (Same (All (Holds t))) (values (here t) es) (values (there t) (images t.readings es))
    × ((ts : List Ty) → Meets (Same (All (Holds t))) (values (here t) es >>= arguments ts) (values (there t) (images t.readings es) >>= arguments ts))
    × ((ts : List Taken) → Meets (Same (All (Holds t))) (values (here t) es >>= all_taken ts) (values (there t) (images t.readings es) >>= all_taken ts))

-- what is written at a place is written at its image
abbrev pub ImagesAreWritten : Type 0
ImagesAreWritten =
    (t : TwoFrames) (o : Option Expr) (v : Value) → IsWrittenIf (here t) o → AllNamesIf (IsIn t.used) o → Holds t v
    → Meets (After (IsIn t.programs.codes) (StandsIn t.stands) t.frames t.slots t.slots') (deliver (here t) o v) (deliver (there t) (image_if t.readings o) v)

-- ---- statements

-- a statement in place does what its image does
abbrev pub StatementsDoSame : Type 0
StatementsDoSame =
    (t : TwoFrames) (result result' : Ty) (s : Stmt) → IsInPlace (here t) s → AllNamesOf (IsIn t.used) s
    → Meets (DoSame t) (simple_act (here t) result s) (simple_act (there t) result' (image_stmt t.readings s))

-- and so does a test
abbrev pub TestsDoSame : Type 0
TestsDoSame = (t : TwoFrames) (o : Option Expr) → AllNamesIf (IsIn t.used) o → Meets (DoSame t) (test_act (here t) o) (test_act (there t) (image_if t.readings o))

-- a value that arrives at a statement arrives at its image
abbrev pub ArrivalsDoSame : Type 0
ArrivalsDoSame =
    (t : TwoFrames) (s : Stmt) (o : Option Value) → IsArrival (here t) (Simple s) → IsHeldIf (IsIn t.programs.codes) o → AllNamesOf (IsIn t.used) s
    → Meets (DoSame t) (arrives (here t) (Simple s) o) (arrives (there t) (Simple (image_stmt t.readings s)) o)

-- a value that arrives and stands in a local is assigned from it
abbrev pub ArrivalsAreAssigned : Type 0
ArrivalsAreAssigned =
    (t : TwoFrames) (e : Expr) (v : Value) (y : Text) (k' : ℕ) (u : Ty) → named t.programs.target t.scope' y ≡ ALocal k' u → slice_get t.slots' k' ≡ Some (Register v) → IsWritten (here t) e → AllNames (IsIn t.used) e → Holds t v
    → Meets (DoSame t) (assign (here t) e v >>= λ w. Gives (GoesOn true w.1 w.0)) (assigns (there t) (image t.readings e) (ENamed y))

-- a value at a type, as that of a result, is left in a local of the type
abbrev pub ResultsAreStored : Type 0
ResultsAreStored =
    (t : TwoFrames) (u : Ty) (e : Expr) (y : Text) (k' : ℕ) (v : Value) → named t.programs.target t.scope' y ≡ ALocal k' u → slice_get t.slots' k' ≡ Some (Register v) → AllNames (IsIn t.used) e
    → Meets (StoredAct (IsIn t.programs.codes) t.store t.frames t.slots' k') (value (here t) e >>= assigned u) (assigns (there t) (ENamed y) (image t.readings e))

-- ---- statements that become calls

-- a spawn hands over what a call of the spawner hands over
abbrev pub SpawnsAreCalls : Type 0
SpawnsAreCalls =
    (t : TwoFrames) (f x : Text) (es : Exprs) (g : Function) (u : Ty) (us : List Ty) → named t.programs.target t.scope' x ≡ AFunction Native u us → function_named t.programs.target x ≡ Some g
    → ((h : Function) → function_named t.programs.source f ≡ Some h → parameter_types h ≡ parameter_types g) → AllNamesAmong (IsIn t.used) es
    → Meets (SpawnAct (IsIn t.programs.codes) f g) (spawns (here t) f es) (calls_expr (there t) (ENamed x) (images t.readings es))

-- a wait asks for what the wait for a callback asks
abbrev pub WaitsAreCalls : Type 0
WaitsAreCalls =
    (t : TwoFrames) (prim prim' : Primitive) (es : Exprs) (a b : Expr) (d : Text) (k : Value) → ¬ (prim ≡ RtDetach) → ¬ (prim' ≡ RtDetach) → takes_first prim' ≡ takes_first prim ++ callback_and_pointer
    → value (there t) a ≡ Gives (Code d) → value (there t) b ≡ Gives k → assigned any_pointer k ≡ Gives k → AllNamesAmong (IsIn t.used) es
    → Meets (WaitAct (IsIn t.programs.codes) prim prim' d k) (asks_with (here t) prim es None) (asks_with (there t) prim' (followed (images t.readings es) a b) None)

-- a section asks for what `rt_detach` asks
abbrev pub SectionsAreCalls : Type 0
SectionsAreCalls =
    (t : TwoFrames) (f : Text) (es : Exprs) (a b c : Expr) (d : Text) (k : Value) → IsIn t.programs.codes f → value (there t) a ≡ Gives (Code d) → value (there t) b ≡ Gives k → value (there t) c ≡ Gives (Code f) → assigned any_pointer k ≡ Gives k
    → AllNamesAmong (IsIn t.used) es
    → Meets (SectionAct (IsIn t.programs.codes) f d k) (detaches (here t) f es) (asks_with (there t) RtDetach (AndExpr a (AndExpr b (AndExpr c (images t.readings es)))) None)

-- ---- variables, and native code

-- after an act each name means what it meant
abbrev pub VariablesStay : Type 0
VariablesStay =
    (C : Text → Bool) (P : ℕ → Ty → ℕ → Bool) → OneToOne (StandsIn P) → (q : Program) (scope : Scope) (slots slots' a b : List Slot) (x : Text) (o : Option Reading) (m : Meant) → Changed (StandsIn P) slots slots' a b
    → Means (IsIn C) (StandsIn P) q scope slots slots' x o m → Means (IsIn C) (StandsIn P) q scope a b x o m

-- a step of native code, but for sections and spawns, is the same step beside frames
abbrev pub NativeStepsDoSame : Type 0
NativeStepsDoSame =
    (t : NativeFrame) (result : Ty) (o : Option Value) (s : Stood) → IsNativeStood (native_here t) s → IsHeldIf (IsIn t.programs.codes) o → AllNamesStood (IsIn t.used) s
    → Meets (SameAct (IsIn t.programs.codes) (AreIn t.programs.pairs) IsSelf t.frames t.slots t.slots) (act (native_here t) result o s) (act (native_there t) result o s)

-- the variables of a call are the same beside frames
abbrev pub CallsAreEntered : Type 0
CallsAreEntered =
    (C : Text → Bool) (p q : Program) → Extends p q → (f g : Function) → ((n : ℕ) (x : Variable) → is_register g n x ≡ is_register f n x) → (frames : Blocks) (n : ℕ) (xs : List Variable) (vs : List Value) (s : Store)
    → IsHeldStore (IsIn C) s → All (IsHeld (IsIn C)) vs → Meets (Entered (IsIn C) frames) (make_slots p f n xs vs s) (make_slots q g n xs vs (beside frames s))

-- ---- scopes and values

-- where the variables of a scope stand in locals of the target, each name means what it should by the scope's readings
abbrev pub ScopesAreRead : Type 0
ScopesAreRead =
    (C : Text → Bool) (P : ℕ → Ty → ℕ → Bool) (p q : Program) (marks : ℕ → Bool) (spelled : ℕ → Text → Text) (boxes : ℕ → Text) (scope scope' : Scope) (slots slots' : List Slot) (x : Text)
    → StandsFor (StandsIn P) marks spelled boxes q scope' slots slots' x (named p scope x) → KeptItem (IsIn C) x (item_named 0 p x) (named q scope' x)
    → Means (IsIn C) (StandsIn P) q scope' slots slots' x (readings_in marks spelled scope x) (named p scope x)

-- a variable that stands in a local stands there after an act of both, and after another local was written
abbrev pub VariablesStand : Type 0
VariablesStand =
    (P : ℕ → Ty → ℕ → Bool) → OneToOne (StandsIn P) → (slots slots' : List Slot) (mark : Bool) (k k' : ℕ) (t : Ty) → StandsIn P k t k' → Stands slots slots' mark k k'
    → ((a b : List Slot) → Changed (StandsIn P) slots slots' a b → Stands a b mark k k') × ((j' : ℕ) (x : Slot) → ¬ (j' ≡ k') → Stands slots (slice_set slots' j' x) mark k k')

-- a register holds a value of its type after an act, and arguments are values of their types
abbrev pub ValuesFit : Type 0
ValuesFit =
    ((P : ℕ → Ty → ℕ → Bool) → ((k k' j j' : ℕ) (t u : Ty) → StandsIn P k t k' → StandsIn P j u j' → k ≡ j → t ≡ u) → (slots slots' a b : List Slot) (k k' : ℕ) (t : Ty) → Changed (StandsIn P) slots slots' a b → StandsIn P k t k' → FitsAt slots t k → FitsAt a t k)
    × ((ts : List Ty) (vs ws : List Value) → arguments ts vs ≡ Gives ws → arguments ts ws ≡ Gives ws)

-- what is written, made and freed beside frames is so in the store of the source
abbrev pub StoresAreBeside : Type 0
StoresAreBeside =
    (C : Text → Bool) (frames : Blocks) (s : Store) → IsHeldStore (IsIn C) s
    → ((c : Class) (n k : ℕ) (v : Value) → IsShared c → IsHeld (IsIn C) v → Meets (StoreBeside (IsIn C) frames) (of_result (save c n k v s)) (of_result (save c n k v (beside frames s))))
    × ((c : Class) (v : Value) → IsShared c → Meets (Answered (IsIn C) frames) (allocated c v s) (allocated c v (beside frames s)))
    × ((c : Class) (v : Value) → IsShared c → IsHeld (IsIn C) v → Meets (Answered (IsIn C) frames) (freed c v s) (freed c v (beside frames s)))
    × ((slots : List Slot) → Meets (StoreBeside (IsIn C) frames) (free_slots slots s) (free_slots slots (beside frames s)))

-- ---- arguments one by one, returns and arrivals

-- arguments come to the same where each is converted before the next is evaluated, if all can be converted
abbrev pub ArgumentsOneByOne : Type 0
ArgumentsOneByOne = (c : Context) (ts : List Ty) (es : Exprs) → AllConvert c ts es → ¬ ((values c es >>= arguments ts) ≡ NoAnswer) → OneByOne c ts es (values c es >>= arguments ts)

-- a return gives the value at the type of the result, and leaves; an arrival depends on the place for the value alone
abbrev pub ReturnsAndArrivals : Type 0
ReturnsAndArrivals =
    ((c : Context) (result : Ty) (e : Expr) → returns c result (Some e) ≡ ((value c e >>= assigned result) >>= leaves c))
    × ((c : Context) (f g : Found) (o : Option Value) → target_of f ≡ target_of g → arrives c f o ≡ arrives c g o)

-- a spawn of native code hands over what a call of the spawner hands over
abbrev pub NativeSpawnsAreCalls : Type 0
NativeSpawnsAreCalls =
    (t : NativeFrame) (f x : Text) (es : Exprs) (g : Function) (u : Ty) (us : List Ty) → named t.programs.target t.scope x ≡ AFunction Native u us → function_named t.programs.target x ≡ Some g
    → ((h : Function) → function_named t.programs.source f ≡ Some h → parameter_types h ≡ parameter_types g) → AllNamesAmong (IsIn t.used) es
    → Meets (SpawnAct (IsIn t.programs.codes) f g) (spawns (native_here t) f es) (calls_expr (native_there t) (ENamed x) es)

-- ---- addresses

-- the image of an expression that has a type takes the address of no local, where each variable whose address the expression takes is a box
abbrev pub ImagesTakeNoAddress : Type 0
ImagesTakeNoAddress =
    (p : Program) (marks : ℕ → Bool) (spelled : ℕ → Text → Text) (scope scope' : Scope) (used : Text → Bool) → ((x : Text) → IsIn used x → slot_of scope' x ≡ []) → (e : Expr) (d : Typed) → typing p scope e ≡ Some d → AllNames (IsIn used) e
    → All (λ k. marks k ≡ false) (addresses scope e) → addresses scope' (image (readings_in marks spelled scope) e) ≡ []

-- ---- sections, and places that may be written

-- what a section takes, and brings back, is so beside frames
abbrev pub SectionsCopyAlike : Type 0
SectionsCopyAlike =
    (C : Text → Bool) (frames : Blocks) (s : Store) → IsHeldStore (IsIn C) s → (v : Value) → IsHeld (IsIn C) v
    → ((p q : Program) → Extends p q → (f g : Function) → SameHead f g → Meets (Same (All (IsHeld (IsIn C)))) (copy_of p f v s) (copy_of q g v (beside frames s)))
    × ((vs : List Value) → All (IsHeld (IsIn C)) vs → Meets (StoreBeside (IsIn C) frames) (write_to v vs s) (write_to v vs (beside frames s)))

-- a place of a scalar type may be written
abbrev pub ScalarsAreWritten : Type 0
ScalarsAreWritten = (c : Context) (e : Expr) (t : Ty) → typing c.program c.scope e ≡ Some (APlace t) → is_scalar t ≡ true → IsWritten c e

-- the names of a statement that are of one family are of a larger one
abbrev pub NamesGrow : Type 0
NamesGrow = (used more : Text → Bool) → ((x : Text) → IsIn used x → IsIn more x) → (s : Stmt) → AllNamesOf (IsIn used) s → AllNamesOf (IsIn more) s
