-- A simple statement does the same as its image; a spawn enters what a call of the spawner enters; a section asks what `rt_detach` asks.
use Rattle.std.proofs.Common.{◌≡◌, ℕ, true, List, Option, Some, None, refl, sym, ◌∙◌, ap, subst}
use Rattle.std.specs.List.{All}
use Rattle.cpc_base.specs.Bytes.{Text}
use Rattle.cpc_tree.specs.declared.program.Mode.TheVariants.{Native}
use Rattle.cpc_tree.specs.Syntax.{Ty, TyVoid, Empty, ENamed, EBinary, Exprs, Stmt, Declare, Assign, Call, Detach, Spawn, Return, Function, Program}
use Rattle.cpc_tree.specs.Primitives.{primitive_named}
use Rattle.cpc_tree.specs.Points.{Simple}
use Rattle.cpc_tree.specs.Typing.{Scope, AFunction, named, function_named, parameter_types}
use Rattle.cpc_store.specs.Store.{Value, Store, Blocks}
use Rattle.cpc_meaning.specs.Answer.{Answer, Gives, ◌>>=◌, needed}
use Rattle.cpc_meaning.specs.Eval.{Slot, Context, values}
use Rattle.cpc_meaning.specs.Requests.{ToSpawn, arguments}
use Rattle.cpc_meaning.specs.Act.{Act, Enters, calls_named, calls_expr, spawns, simple_act, asks, arrives}
use Rattle.cpc_meaning.proofs.SameValues.{at}
use Rattle.cpc_meaning.specs.Names.{AllNamesAmong, AllNamesOf}
use Rattle.cpc_convert_image_laws.specs.Images.{Readings, images, image_stmt}
use Rattle.cpc_convert_image_laws.specs.InPlace.{IsInPlace}
use Rattle.cpc_convert_image_laws.specs.Native.{IsArrival, IsHeldIf}
use Rattle.cpc_convert_image_laws.specs.Held.{IsHeld, IsHeldSlot, IsHeldStore, beside}
use Rattle.cpc_convert_image_laws.specs.Relations.{Common, Meets, BothGive, Stuck, Means, SameAct, SpawnAct, Spawned}
use Rattle.cpc_convert_image_laws.proofs.Live.{IsReadLive}
use Rattle.cpc_convert_image_laws.proofs.Answers.{same_then, itself}
use Rattle.cpc_convert_image_laws.proofs.Arguments.{arguments_held}
use Rattle.cpc_convert_image_laws.proofs.Acts.{values_alike, assigns_alike, passes_alike, arrives_alike}
use Rattle.cpc_convert_image_laws.proofs.Calls.{calls_expr_alike}

module _ (C : Text → Type 0) (R : Function → Function → Type 0) (P : ℕ → Ty → ℕ → Type 0) (p q : Program) (common : Common C R p q) (L : Text → Type 0) (r : Readings) (scope scope' : Scope) (slots slots' : List Slot) (names : (x : Text) → L x → Means C P q scope' slots slots' x (r x) (named p scope x)) (s : Store) (source : IsHeldStore C s) (held : All (IsHeldSlot C) slots) (live : (x : Text) → IsReadLive s slots (r x)) (frames : Blocks) where
  abbrev here : Context
  here = at p scope slots s

  abbrev there : Context
  there = at q scope' slots' (beside frames s)

  abbrev BothAct : Answer Act → Answer Act → Type 0
  BothAct a b = Meets (SameAct C R P frames slots slots') a b

  passes_here : BothAct (simple_act here TyVoid Empty) (simple_act there TyVoid Empty)
  passes_here = passes_alike C R P p q common L r scope scope' slots slots' names s source held live frames true

  -- a statement in place
  pub simple_alike : (result result' : Ty) (st : Stmt) → IsInPlace here st → AllNamesOf L st → BothAct (simple_act here result st) (simple_act there result' (image_stmt r st))
  simple_alike result result' (Declare x t None) h l = passes_here
  simple_alike result result' (Declare x t (Some e)) h l = assigns_alike C R P p q common L r scope scope' slots slots' names s source held live frames (ENamed x) e h l.0 l.1
  simple_alike result result' (Assign e None v) h l = assigns_alike C R P p q common L r scope scope' slots slots' names s source held live frames e v h l.0 l.1
  simple_alike result result' (Assign e (Some op) v) h l = assigns_alike C R P p q common L r scope scope' slots slots' names s source held live frames e (EBinary op e v) h l.0 (l.0, l.1)
  simple_alike result result' (Call to f es) h l = calls_expr_alike C R P p q common L r scope scope' slots slots' names s source held live frames f es h l.1 l.2
  simple_alike result result' (Detach to f es) h l = absurd (cc)
  simple_alike result result' (Spawn f es) h l = absurd (cc)
  simple_alike result result' (Return e) h l = absurd (cc)
  simple_alike result result' st h l = passes_here

  -- ---- spawns

  pub spawn_alike : (f x : Text) (es : Exprs) (g : Function) (t : Ty) (ts : List Ty) → named q scope' x ≡ AFunction Native t ts → function_named q x ≡ Some g
      → ((h : Function) → function_named p f ≡ Some h → parameter_types h ≡ parameter_types g) → AllNamesAmong L es → Meets (SpawnAct C f g) (spawns here f es) (calls_expr there (ENamed x) (images r es))
  spawn_alike f x es g t ts n e h l = subst (λ b. Meets (SpawnAct C f g) (spawns here f es) b) (sym called) (go (function_named p f) h)
    where
      enters : Answer Act
      enters = values there (images r es) >>= λ vs. arguments (parameter_types g) vs >>= λ ws. Gives (Enters g ws)

      called : calls_expr there (ENamed x) (images r es) ≡ enters
      called = ap (λ m. calls_named there x (images r es) m (primitive_named x) (function_named q x)) n ∙ ap (λ o. calls_named there x (images r es) (AFunction Native t ts) (primitive_named x) o) e

      same : (h : Function) → parameter_types h ≡ parameter_types g
          → Meets (SpawnAct C f g) (values here es >>= λ vs. arguments (parameter_types h) vs >>= λ ws. asks (ToSpawn f) ws) enters
      same h i =
          same_then (All (IsHeld C)) (SpawnAct C f g) _ _ _ _ (values_alike C R P p q common L r scope scope' slots slots' names s source held live frames es l) λ vs j.
          same_then (All (IsHeld C)) (SpawnAct C f g) _ _ _ _ (rw i (itself (All (IsHeld C)) _ (arguments_held C (parameter_types g) vs j))) λ ws k.
          BothGive _ _ (Spawned ws k)

      go : (o : Option Function) → ((h : Function) → o ≡ Some h → parameter_types h ≡ parameter_types g)
          → Meets (SpawnAct C f g) (needed o >>= λ h. values here es >>= λ vs. arguments (parameter_types h) vs >>= λ ws. asks (ToSpawn f) ws) enters
      go None i = Stuck _
      go (Some h) i = same h (i h refl)

  -- ---- arrivals

  -- a value arrives at a statement, and at its image
  pub arrival_image : (st : Stmt) (o : Option Value) → IsArrival here (Simple st) → IsHeldIf C o → AllNamesOf L st → BothAct (arrives here (Simple st) o) (arrives there (Simple (image_stmt r st)) o)
  arrival_image st None h i l = Stuck _
  arrival_image (Call to f es) (Some v) h i l = arrives_alike C R P p q common L r scope scope' slots slots' names s source held live frames to v h l.0 i
  arrival_image (Detach to f es) (Some v) h i l = arrives_alike C R P p q common L r scope scope' slots slots' names s source held live frames to v h l.0 i
  arrival_image (Spawn f es) (Some v) h i l = arrives_alike C R P p q common L r scope scope' slots slots' names s source held live frames None v tt tt i
  arrival_image st (Some v) h i l = Stuck _
