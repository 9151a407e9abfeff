-- What a statement does in the frame of a source, and its image in the frame of a target.
use Rattle.std.proofs.Common.{◌≡◌, ℕ, Bool, true, false, List, [], ◌∷◌, Option, Some, None, refl, sym}
use Rattle.std.specs.List.{All}
use Rattle.std.proofs.lemmas.List.Elements.{All-nil, All-cons, All-set}
use Rattle.cpc_base.specs.Bytes.{Text}
use Rattle.cpc_tree.specs.Syntax.{Ty, Expr, Exprs, NoExpr, AndExpr, Function, Program}
use Rattle.cpc_tree.specs.Primitives.{Taken}
use Rattle.cpc_tree.specs.Typing.{Scope, named, parameter_types, code_parameters}
use Rattle.cpc_store.specs.Store.{Value, Store, Blocks}
use Rattle.cpc_meaning.specs.Answer.{Answer, Gives, Faults, NoAnswer, ◌>>=◌, needed}
use Rattle.cpc_meaning.specs.Eval.{Slot, Register, Context, Spot, place_type, used_type, value, values, holds, assigned}
use Rattle.cpc_meaning.specs.Requests.{all_taken, arguments}
use Rattle.cpc_meaning.specs.Act.{Act, GoesOn, Enters, passes, write, assign, deliver, assigns, calls, calls_value, test_act}
use Rattle.cpc_meaning.proofs.SameValues.{at}
use Rattle.cpc_meaning.specs.Names.{AllNames, AllNamesIf, AllNamesAmong}
use Rattle.cpc_meaning_laws.proofs.Pointer.Blocks.{Only}
use Rattle.cpc_convert_image_laws.specs.Images.{Readings, image, images, image_if}
use Rattle.cpc_convert_image_laws.specs.InPlace.{is_array, IsWritten, IsWrittenIf}
use Rattle.cpc_convert_image_laws.specs.Held.{IsHeld, IsHeldSlot, IsHeldStore, beside}
use Rattle.cpc_convert_image_laws.specs.Relations.{Less, AsIs, Untold, SameHead, Common, Meets, BothGive, BothFault, Stuck, Same, It, Means, NoneChanged, BothChanged, StoreBeside, InBoth, After, Afterwards, SameAct, BothGo, BothEnter, SpotAlike, TheSlot, TheCell}
use Rattle.cpc_convert_image_laws.proofs.Live.{IsReadLive}
use Rattle.cpc_convert_image_laws.proofs.Answers.{meets_then, same_then, itself, self_then, needed_then}
use Rattle.cpc_convert_image_laws.proofs.Operators.{assigned_held}
use Rattle.cpc_convert_image_laws.proofs.Values.{places, same_values, used_less, place_less}
use Rattle.cpc_convert_image_laws.proofs.Beside.{saves}
use Rattle.cpc_convert_image_laws.proofs.Arguments.{FunctionAlike, InPlace, arguments_held, all_taken_held, same_parameters, callees}

module _ (C : Text → Type 0) (R : Function → Function → Type 0) (P : ℕ → Ty → ℕ → Type 0) (p q : Program) (common : Common C R p q) (L : Text → Type 0) (r : Readings) (scope scope' : Scope) (slots slots' : List Slot) (names : (x : Text) → L x → Means C P q scope' slots slots' x (r x) (named p scope x)) (s : Store) (source : IsHeldStore C s) (held : All (IsHeldSlot C) slots) (live : (x : Text) → IsReadLive s slots (r x)) (frames : Blocks) where
  abbrev pub here : Context
  here = at p scope slots s

  abbrev pub there : Context
  there = at q scope' slots' (beside frames s)

  -- the same value, which is held; the same values
  abbrev pub Both : Answer Value → Answer Value → Type 0
  Both a b = Meets (Same (IsHeld C)) a b

  abbrev pub BothAll : Answer (List Value) → Answer (List Value) → Type 0
  BothAll a b = Meets (Same (All (IsHeld C))) a b

  -- slots and a store afterwards; what is done
  abbrev pub BothAfter : Answer (List Slot × Store) → Answer (List Slot × Store) → Type 0
  BothAfter a b = Meets (After C P frames slots slots') a b

  abbrev pub BothAct : Answer Act → Answer Act → Type 0
  BothAct a b = Meets (SameAct C R P frames slots slots') a b

  abbrev Act' : Act → Act → Type 0
  Act' = SameAct C R P frames slots slots'

  pub value_alike : (e : Expr) → AllNames L e → Both (value here e) (value there (image r e))
  value_alike e l = same_values C P p q common.types L r scope scope' slots slots' names s source held live frames e l

  pub type_alike : (e : Expr) → AllNames L e → Less (used_type here e) (used_type there (image r e))
  type_alike e l = used_less C P p q common.types L r scope scope' slots slots' names s source held live frames e l

  pub values_alike : (es : Exprs) → AllNamesAmong L es → BothAll (values here es) (values there (images r es))
  values_alike NoExpr l = BothGive _ _ (It [] (All-nil (IsHeld C)))
  values_alike (AndExpr e es) l =
      same_then (IsHeld C) (Same (All (IsHeld C))) _ _ _ _ (value_alike e l.0) λ v h.
      same_then (All (IsHeld C)) (Same (All (IsHeld C))) _ _ _ _ (values_alike es l.1) λ vs i.
      BothGive _ _ (It (v ∷ vs) (All-cons (IsHeld C) v vs h i))

  -- values as arguments, and as they are taken
  pub arguments_alike : (ts : List Ty) (es : Exprs) → AllNamesAmong L es → BothAll (values here es >>= arguments ts) (values there (images r es) >>= arguments ts)
  arguments_alike ts es l = same_then (All (IsHeld C)) (Same (All (IsHeld C))) _ _ _ _ (values_alike es l) λ vs h. itself (All (IsHeld C)) _ (arguments_held C ts vs h)

  pub taken_alike : (ts : List Taken) (es : Exprs) → AllNamesAmong L es → BothAll (values here es >>= all_taken ts) (values there (images r es) >>= all_taken ts)
  taken_alike ts es l = same_then (All (IsHeld C)) (Same (All (IsHeld C))) _ _ _ _ (values_alike es l) λ vs h. itself (All (IsHeld C)) _ (all_taken_held C ts vs h)

  -- a value at a type
  pub assigned_alike : (t : Ty) (e : Expr) → AllNames L e → Both (value here e >>= assigned t) (value there (image r e) >>= assigned t)
  assigned_alike t e l = same_then (IsHeld C) (Same (IsHeld C)) _ _ _ _ (value_alike e l) λ v h. itself (IsHeld C) _ (assigned_held C t v h)

  -- ---- assignments

  pub written_less : (e : Expr) → IsWritten here e → AllNames L e → Less (place_type here e) (place_type there (image r e))
  written_less e a l = place_less C P p q common.types L r scope scope' slots slots' names s source held live frames e l

  writes : (t : Ty) (a b : Spot) (v w : Value) → is_array (Some t) ≡ false → assigned t v ≡ Gives w → IsHeld C w → SpotAlike P slots slots' (Some t) a b → BothAfter (write here a w) (write there b w)
  writes _ _ _ v w n e h (TheSlot k k' t u i f g) =
      BothGive _ _ (Afterwards s _ _ source (All-set (IsHeldSlot C) slots k (Register w) h held) (BothChanged k k' t u v w i f g e))
  writes t _ _ v w n e h (TheCell _ c b k i) = saved _ _ (saves C frames s source c b k w i h)
    where
      saved : (x y : Answer Store) → Meets (StoreBeside C frames) x y → BothAfter (x >>= λ t. Gives (slots, t)) (y >>= λ t. Gives (slots', t))
      saved _ _ (BothGive _ _ (InBoth t on)) = BothGive _ _ (Afterwards t slots slots' on held NoneChanged)
      saved _ _ (BothFault fault) = BothFault fault
      saved _ _ (Stuck y) = Stuck _

  -- what is written at a place of this type
  puts : (o u : Option Ty) (a b : Spot) (v : Value) → is_array o ≡ false → IsHeld C v → Less o u → SpotAlike P slots slots' o a b
      → BothAfter (needed o >>= λ t. assigned t v >>= λ w. write here a w) (needed u >>= λ t. assigned t v >>= λ w. write there b w)
  puts _ _ a b v n h (AsIs None) i = Stuck _
  puts _ _ a b v n h (AsIs (Some t)) i = go (assigned t v) refl (assigned_held C t v h)
    where
      go : (x : Answer Value) → assigned t v ≡ x → Only (IsHeld C) x → BothAfter (x >>= λ w. write here a w) (x >>= λ w. write there b w)
      go (Gives w) e j = writes t a b v w n e j i
      go (Faults fault) e j = BothFault fault
      go NoAnswer e j = Stuck _
  puts _ _ a b v n h (Untold u) i = Stuck _

  pub assign_alike : (e : Expr) (v : Value) → IsWritten here e → AllNames L e → IsHeld C v → BothAfter (assign here e v) (assign there (image r e) v)
  assign_alike e v n l h =
      meets_then (SpotAlike P slots slots' (place_type here e)) (After C P frames slots slots') _ _ _ _ (places C P p q common.types L r scope scope' slots slots' names s source held live frames e l) λ a b i.
      puts _ _ a b v n h (written_less e n l) i

  pub deliver_alike : (o : Option Expr) (v : Value) → IsWrittenIf here o → AllNamesIf L o → IsHeld C v → BothAfter (deliver here o v) (deliver there (image_if r o) v)
  deliver_alike None v n l h = BothGive _ _ (Afterwards s slots slots' source held NoneChanged)
  deliver_alike (Some e) v n l h = assign_alike e v n l h

  -- control goes on after that
  goes_on : (a b : Answer (List Slot × Store)) → BothAfter a b → BothAct (a >>= λ w. Gives (GoesOn true w.1 w.0)) (b >>= λ w. Gives (GoesOn true w.1 w.0))
  goes_on _ _ (BothGive _ _ (Afterwards t a b on h c)) = BothGive _ _ (BothGo true t a b on h c)
  goes_on _ _ (BothFault fault) = BothFault fault
  goes_on _ _ (Stuck b) = Stuck _

  pub assigns_alike : (x e : Expr) → IsWritten here x → AllNames L x → AllNames L e → BothAct (assigns here x e) (assigns there (image r x) (image r e))
  assigns_alike x e n l m = same_then (IsHeld C) Act' _ _ _ _ (value_alike e m) λ v h. goes_on _ _ (assign_alike x v n l h)

  pub arrives_alike : (o : Option Expr) (v : Value) → IsWrittenIf here o → AllNamesIf L o → IsHeld C v
      → BothAct (deliver here o v >>= λ w. Gives (GoesOn true w.1 w.0)) (deliver there (image_if r o) v >>= λ w. Gives (GoesOn true w.1 w.0))
  arrives_alike o v n l h = goes_on _ _ (deliver_alike o v n l h)

  -- ---- tests and results

  pub passes_alike : (test : Bool) → BothAct (passes here test) (passes there test)
  passes_alike test = BothGive _ _ (BothGo test s slots slots' source held NoneChanged)

  pub test_alike : (o : Option Expr) → AllNamesIf L o → BothAct (test_act here o) (test_act there (image_if r o))
  test_alike None l = passes_alike true
  test_alike (Some e) l =
      same_then (IsHeld C) Act' _ _ _ _ (value_alike e l) λ v h.
      self_then Act' (holds v) _ _ λ test. passes_alike test

  -- ---- calls

  pub calls_alike : (f g : Function) (es : Exprs) → R f g → SameHead f g → AllNamesAmong L es → BothAct (calls here f es) (calls there g (images r es))
  calls_alike f g es h i l =
      same_then (All (IsHeld C)) Act' _ _ _ _ (values_alike es l) λ vs j.
      same_then (All (IsHeld C)) Act' _ _ _ _ (rw (sym (same_parameters f g i)) (itself (All (IsHeld C)) _ (arguments_held C (parameter_types f) vs j))) λ ws k.
      BothGive _ _ (BothEnter f g ws h i k)

  pub calls_value_alike : (f f' : Expr) (es : Exprs) → Both (value here f) (value there f') → Less (used_type here f) (used_type there f') → AllNamesAmong L es → BothAct (calls_value here f es) (calls_value there f' (images r es))
  calls_value_alike f f' es h t l =
      same_then (IsHeld C) Act' _ _ _ _ h λ v i.
      needed_then Act' _ _ _ _ t λ t.
      same_then (All (IsHeld C)) Act' _ _ _ _ (values_alike es l) λ vs j.
      same_then (All (IsHeld C)) Act' _ _ _ _ (itself (All (IsHeld C)) _ (arguments_held C (code_parameters t) vs j)) λ ws k.
      meets_then (FunctionAlike R) Act' _ _ _ _ (callees R C p q common.codes t v i) (entered ws k)
    where
      entered : (ws : List Value) → All (IsHeld C) ws → (f g : Function) → FunctionAlike R f g → BothAct (Gives (Enters f ws)) (Gives (Enters g ws))
      entered ws k _ _ (InPlace f g a b) = BothGive _ _ (BothEnter f g ws a b k)
