-- What sections take: integers, and a pointer; and what code asks for where it submits one.
use Rattle.std.proofs.Common.{◌≡◌, ℕ, suc, Bool, true, false, cond, List, [], ◌∷◌, map, Option, Some, None, Ok, Err, refl}
use Rattle.cpc_base.specs.Bytes.{Text}
use Rattle.cpc_base.proofs.Truth.{and_both}
use Rattle.cpc_check_rules.specs.Calls as C
use Rattle.cpc_num.specs.declared.kinds.Fault.TheVariants as F
use Rattle.cpc_num.specs.declared.kinds.Kind.{Kind}
use Rattle.cpc_num.specs.Number.{same_kind}
use Rattle.cpc_store.specs.declared.values.Class.{Class}
use Rattle.cpc_store.specs.declared.values.Scalar.{Scalar}
use Rattle.cpc_store.specs.declared.values.Scalar.TheVariants as S
use Rattle.cpc_store.specs.Store.{Value, Unset, Whole, Null, At, Code, Cond, Store, cells_of, load, load_block, load_cell, suits}
use Rattle.std.specs.Prelude.{slice_get}
use Rattle.cpc_tree.specs.declared.program.Mode.TheVariants.{Extern}
use Rattle.cpc_tree.specs.Lists.{first_or, rest_of}
use Rattle.cpc_tree.specs.Points.{Found, Simple, Test, Nothing}
use Rattle.cpc_tree.specs.Primitives.{Primitive, primitive_named, FreeOf}
use Rattle.cpc_tree.specs.Syntax.{Ty, TyInt, TyPointer, Expr, ENamed, Exprs, Stmt, Declare, Assign, Call, Detach, Spawn, Return, Function, Program}
use Rattle.cpc_tree.specs.Typing as T
use Rattle.cpc_tree.specs.Typing.{Scope, Meant, AFunction, NotMeant, named, cells, function_named, code_parameters, parameter_types}
use Rattle.cpc_meaning.specs.Act.{Stood, AtStatement, AtArrival, AtEnd, Act, GoesOn, Enters, Leaves, AsksFor, assign, deliver, right_side, assigns, calls, callee, calls_value, puts_text, asks_with, calls_named, calls_expr, detaches, spawns, leaves, returns, simple_act, found_act, target_of, act}
use Rattle.cpc_meaning.specs.Answer.{Answer, Gives, ◌>>=◌, of_result, needed}
use Rattle.cpc_meaning.specs.Copies.{copied, copy_of, pointed_layout}
use Rattle.cpc_meaning.specs.Eval.{Slot, Context, used_type, value, values, holds, assigned, at_type}
use Rattle.cpc_meaning.specs.Layout.{layout, scalars}
use Rattle.cpc_meaning.specs.Plain.{Form, Frame, Stack, Done, Asks, returned_to, make_frame, perform, context, plain, frames_step}
use Rattle.cpc_meaning.specs.Requests.{Asked, Section, all_taken, takes, all_long, arguments, section_takes}
use Rattle.cpc_meaning.specs.Section.{all_integers}
use Rattle.cpc_meaning.specs.Slots.{free_slots}
use Rattle.cpc_meaning_laws.proofs.Pointer.Blocks.{Only, only_then, any_then}
use Rattle.cpc_lifted_laws.specs.Known.Jobs.{TakesSection, ForSection, SectionsTake, IsNoCode}

-- ---- integers

abbrev pub Ints : List Value → Type 0
Ints vs = all_integers vs ≡ true

ints_more : (v : Value) (vs : List Value) → Ints (v ∷ []) → Ints vs → Ints (v ∷ vs)
ints_more Unset vs e h = h
ints_more (Whole kind z) vs e h = h
ints_more Null vs e h = absurd (cc)
ints_more (At c n k) vs e h = absurd (cc)
ints_more (Code f) vs e h = absurd (cc)
ints_more (Cond n) vs e h = absurd (cc)

int_assigned : (t : Ty) (v : Value) → C.is_integer t ≡ true → Only (λ (w : Value). Ints (w ∷ [])) (assigned t v)
int_assigned (TyInt kind) Unset e = refl
int_assigned (TyInt kind) (Whole j z) e = refl
int_assigned (TyInt kind) Null e = tt
int_assigned (TyInt kind) (At c n k) e = tt
int_assigned (TyInt kind) (Code f) e = tt
int_assigned (TyInt kind) (Cond n) e = tt
int_assigned _ v e = absurd (cc)

ints_taken : (ts : List Ty) (vs : List Value) → C.all_integers ts ≡ true → Only Ints (all_taken (map (λ t. FreeOf t) ts) vs)
ints_taken [] [] e = refl
ints_taken [] (v ∷ vs) e = tt
ints_taken (t ∷ ts) [] e = tt
ints_taken (t ∷ ts) (v ∷ vs) e =
    let h = and_both (C.is_integer t) (C.all_integers ts) e in
    only_then (λ (w : Value). Ints (w ∷ [])) Ints (assigned t v) _ (int_assigned t v h.0) λ w i.
    only_then Ints Ints (all_taken (map (λ t. FreeOf t) ts) vs) _ (ints_taken ts vs h.1) λ ws j. ints_more w ws i j

pointer_taken : (t : Ty) (v : Value) → Only IsNoCode (at_type (TyPointer t) v)
pointer_taken t Unset = tt
pointer_taken t (Whole j z) = tt
pointer_taken t Null = tt
pointer_taken t (At c n k) = tt
pointer_taken t (Code f) = tt
pointer_taken t (Cond n) = tt

-- what a section is given: a pointer that is no code, and integers
abbrev pub Given : List Value → Type 0
Given vs = IsNoCode (first_or Unset vs) × Ints (rest_of vs)

section_given : (p : Program) (ps : List Ty) (vs : List Value) → TakesSection p ps → Only Given (all_taken (section_takes ps) vs)
section_given p _ [] (ForSection t ts cs e) = tt
section_given p _ (v ∷ vs) (ForSection t ts cs e) =
    only_then IsNoCode Given (at_type (TyPointer t) v) _ (pointer_taken t v) λ w h.
    only_then Ints Given (all_taken (map (λ t. FreeOf t) ts) vs) _ (ints_taken ts vs e) λ ws i. (h, i)

-- ---- the cells that are copied

abbrev IntScalars : List Scalar → Type 0
IntScalars [] = Unit {0}
IntScalars (S.Int kind ∷ xs) = IntScalars xs
IntScalars (x ∷ xs) = ⊥

-- the same, where there are any
abbrev IfInts : Option (List Scalar) → Type 0
IfInts None = Unit {0}
IfInts (Some xs) = IntScalars xs

-- one more integer
and_int : (kind : Kind) (o : Option (List Scalar)) → IfInts o → IfInts (T.◌>>=◌ o (λ xs. Some (S.Int kind ∷ xs)))
and_int kind None h = tt
and_int kind (Some xs) h = h

int_scalars : (ts : List Ty) → C.all_integers ts ≡ true → IfInts (scalars ts)
int_scalars [] e = tt
int_scalars (TyInt kind ∷ ts) e = and_int kind (scalars ts) (int_scalars ts e)
int_scalars (_ ∷ ts) e = absurd (cc)

int_layout : (p : Program) (t : Ty) → ((us : List Ty) → cells p t ≡ Some us → C.all_integers us ≡ true) → IfInts (layout p t)
int_layout p t h = go (cells p t) h
  where
    go : (o : Option (List Ty)) → ((us : List Ty) → o ≡ Some us → C.all_integers us ≡ true) → IfInts (T.◌>>=◌ o (λ ts. scalars ts))
    go None h = tt
    go (Some us) h = int_scalars us (h us refl)

-- what is loaded as an integer
one_loaded : (kind : Kind) (v : Value) → Only (λ (w : Value). Ints (w ∷ [])) (of_result (cond (suits (S.Int kind) v) (Ok v) (Err F.Kind)))
one_loaded kind Unset = refl
one_loaded kind (Whole j z) = go (same_kind kind j)
  where
    go : (b : Bool) → Only (λ (w : Value). Ints (w ∷ [])) (of_result (cond b (Ok (Whole j z)) (Err F.Kind)))
    go true = refl
    go false = tt
one_loaded kind Null = tt
one_loaded kind (At c n k) = tt
one_loaded kind (Code f) = tt
one_loaded kind (Cond n) = tt

int_loaded : (kind : Kind) (c : Class) (n k : ℕ) (s : Store) → Only (λ (w : Value). Ints (w ∷ [])) (of_result (load (S.Int kind) c n k s))
int_loaded kind c n k s = block (cells_of c n s)
  where
    cell : (o : Option Value) → Only (λ (w : Value). Ints (w ∷ [])) (of_result (load_cell (S.Int kind) o))
    cell None = tt
    cell (Some v) = one_loaded kind v

    block : (o : Option (List Value)) → Only (λ (w : Value). Ints (w ∷ [])) (of_result (load_block (S.Int kind) o k))
    block None = tt
    block (Some cells) = cell (slice_get cells k)

ints_copied : (xs : List Scalar) (c : Class) (n k : ℕ) (s : Store) → IntScalars xs → Only Ints (copied xs c n k s)
ints_copied [] c n k s h = refl
ints_copied (S.Int kind ∷ xs) c n k s h =
    only_then (λ (w : Value). Ints (w ∷ [])) Ints (of_result (load (S.Int kind) c n k s)) _ (int_loaded kind c n k s) λ w i.
    only_then Ints Ints (copied xs c n (suc k) s) _ (ints_copied xs c n (suc k) s h) λ ws j. ints_more w ws i j
ints_copied (_ ∷ xs) c n k s h = absurd h

pub copy_ints : (p : Program) (g : Function) (v : Value) (s : Store) → TakesSection p (parameter_types g) → Only Ints (copy_of p g v s)
copy_ints p g (At c n k) s h = go (parameter_types g) h
  where
    read : (o : Option (List Scalar)) → IfInts o → Only Ints (needed o >>= λ xs. copied xs c n k s)
    read None i = tt
    read (Some xs) i = ints_copied xs c n k s i

    go : (ps : List Ty) → TakesSection p ps → Only Ints (pointed_layout p ps >>= λ xs. copied xs c n k s)
    go _ (ForSection t ts cs e) = read (layout p t) (int_layout p t cs)
copy_ints p g Unset s h = refl
copy_ints p g (Whole kind z) s h = refl
copy_ints p g Null s h = refl
copy_ints p g (Code f) s h = refl
copy_ints p g (Cond n) s h = refl

-- ---- what code asks for

module _ (p : Program) (sections : Text → Type 0) where
  -- a section is asked for only with a function for that, which takes integers, and with such arguments
  abbrev pub AskedFine : Asked → List Value → Type 0
  AskedFine (Section y) vs = sections y × Given vs × ((g : Function) → function_named p y ≡ Some g → TakesSection p (parameter_types g))
  AskedFine _ vs = Unit {0}

  abbrev pub ActFine : Act → Type 0
  ActFine (AsksFor r) = AskedFine r.asked r.arguments
  ActFine _ = Unit {0}

  -- what is known of a statement
  abbrev pub StoodFine : Stood → Type 0
  StoodFine stood = (to : Option Expr) (y : Text) (es : Exprs) → stood ≡ AtStatement (Simple (Detach to y es)) → sections y × ((g : Function) → function_named p y ≡ Some g → TakesSection p (parameter_types g))

  module _ (scope : Scope) (slots : List Slot) (s : Store) where
    abbrev c : Context
    c = record { program = p; scope = scope; slots = slots; store = s }

    abbrev Acts : Answer Act → Type 0
    Acts a = Only ActFine a

    assigns_fine : (x v : Expr) → Acts (assigns c x v)
    assigns_fine x v = any_then ActFine (value c v) _ λ w. any_then ActFine (assign c x w) _ λ r. tt

    calls_fine : (g : Function) (es : Exprs) → Acts (calls c g es)
    calls_fine g es = any_then ActFine (values c es) _ λ vs. any_then ActFine (arguments (parameter_types g) vs) _ λ ws. tt

    calls_value_fine : (e : Expr) (es : Exprs) → Acts (calls_value c e es)
    calls_value_fine e es =
        any_then ActFine (value c e) _ λ v.
        any_then ActFine (needed (used_type c e)) _ λ t.
        any_then ActFine (values c es) _ λ vs.
        any_then ActFine (arguments (code_parameters t) vs) _ λ ws.
        any_then ActFine (callee p t v) _ λ g. tt

    asks_fine : (prim : Primitive) (es : Exprs) (o : Option Text) → Acts (asks_with c prim es o)
    asks_fine prim es (Some bytes) = tt
    asks_fine prim es None = any_then ActFine (values c es) _ λ vs. any_then ActFine (all_taken (takes p prim vs) vs) _ λ ws. tt

    calls_named_fine : (x : Text) (es : Exprs) (m : Meant) (prim : Option Primitive) (o : Option Function) → Acts (calls_named c x es m prim o)
    calls_named_fine x es (AFunction Extern r ps) prim o = any_then ActFine (values c es) _ λ vs. any_then ActFine (all_long vs) _ λ ws. tt
    calls_named_fine x es (AFunction mode r ps) prim (Some g) = calls_fine g es
    calls_named_fine x es NotMeant (Some prim) o = asks_fine prim es (puts_text prim es)
    calls_named_fine x es m prim o = calls_value_fine (ENamed x) es

    call_fine : (e : Expr) (es : Exprs) → Acts (calls_expr c e es)
    call_fine (ENamed y) es = calls_named_fine y es (named p scope y) (primitive_named y) (function_named p y)
    call_fine e es = calls_value_fine e es

    detaches_fine : (y : Text) (es : Exprs) → sections y → ((g : Function) → function_named p y ≡ Some g → TakesSection p (parameter_types g)) → Acts (detaches c y es)
    detaches_fine y es is may = found (function_named p y) may
      where
        found : (o : Option Function) → ((g : Function) → o ≡ Some g → TakesSection p (parameter_types g))
            → Acts (needed o >>= λ g. values c es >>= λ vs. all_taken (section_takes (parameter_types g)) vs >>= λ ws. Gives (AsksFor (record { asked = Section y; arguments = ws })))
        found None h = tt
        found (Some g) h =
            any_then ActFine (values c es) _ λ vs.
            only_then Given ActFine (all_taken (section_takes (parameter_types g)) vs) _ (section_given p (parameter_types g) vs (h g refl)) λ ws i. (is, i, may)

    spawns_fine : (y : Text) (es : Exprs) → Acts (spawns c y es)
    spawns_fine y es = any_then ActFine (needed (function_named p y)) _ λ g. any_then ActFine (values c es) _ λ vs. any_then ActFine (arguments (parameter_types g) vs) _ λ ws. tt

    leaves_fine : (v : Value) → Acts (leaves c v)
    leaves_fine v = any_then ActFine (free_slots slots s) _ λ t. tt

    returns_fine : (result : Ty) (o : Option Expr) → Acts (returns c result o)
    returns_fine result None = leaves_fine Unset
    returns_fine result (Some x) = any_then ActFine (value c x) _ λ v. any_then ActFine (assigned result v) _ λ w. leaves_fine w

    simple_fine : (result : Ty) (t : Stmt) → StoodFine (AtStatement (Simple t)) → Acts (simple_act c result t)
    simple_fine result (Declare x t (Some v)) h = assigns_fine (ENamed x) v
    simple_fine result (Assign x op v) h = assigns_fine x (right_side op x v)
    simple_fine result (Call x g es) h = call_fine g es
    simple_fine result (Detach x y es) h = let i = h x y es refl in detaches_fine y es i.0 i.1
    simple_fine result (Spawn g es) h = spawns_fine g es
    simple_fine result (Return v) h = returns_fine result v
    simple_fine result t h = tt

    found_fine : (result : Ty) (found : Found) → StoodFine (AtStatement found) → Acts (found_act c result found)
    found_fine result (Simple t) h = simple_fine result t h
    found_fine result (Test None) h = tt
    found_fine result (Test (Some t)) h = any_then ActFine (value c t) _ λ v. any_then ActFine (holds v) _ λ b. tt
    found_fine result Nothing h = tt

    pub act_fine : (result : Ty) (o : Option Value) (stood : Stood) → StoodFine stood → Acts (act c result o stood)
    act_fine result o (AtStatement found) h = found_fine result found h
    act_fine result o (AtArrival found) h = any_then ActFine (needed o) _ λ v. any_then ActFine (needed (target_of found)) _ λ x. any_then ActFine (deliver c x v) _ λ r. tt
    act_fine result o AtEnd h = leaves_fine Unset

-- ---- steps

module _ {P : Type 0} (p : Form P) (sections : Text → Type 0) (take : SectionsTake p sections) where
  abbrev pub DoneFine : Done P → Type 0
  DoneFine (Asks r) = AskedFine p.program sections r.asked r.arguments
  DoneFine _ = Unit {0}

  returned_fine : (below : List (Frame P)) (v : Value) (t : Store) → DoneFine (returned_to below v t)
  returned_fine [] v t = tt
  returned_fine (g ∷ below) v t = tt

  performs_fine : (s : Store) (frame : Frame P) (below : List (Frame P)) (a : Act) → ActFine p.program sections a → Only DoneFine (perform p s frame below a)
  performs_fine s frame below (GoesOn h t slots) k = any_then DoneFine (needed (p.code.goes frame.function frame.point h)) _ λ next. tt
  performs_fine s frame below (Enters g vs) k = any_then DoneFine (make_frame p g vs s) _ λ r. any_then DoneFine (needed (p.code.arrival frame.function frame.point)) _ λ back. tt
  performs_fine s frame below (Leaves v t) k = returned_fine below v t
  performs_fine s frame below (AsksFor r) k = k

  pub plain_fine : (s : Store) (k : Stack P) → Only DoneFine (plain p s k)
  plain_fine s k = go k.frames
    where
      found : (frame : Frame P) (below : List (Frame P)) (f : Option Function) → function_named p.program frame.function ≡ f
          → Only DoneFine (needed f >>= λ f. act (context p s frame) f.result k.arriving (p.code.stood frame.function frame.point) >>= perform p s frame below)
      found frame below None is = tt
      found frame below (Some f) is =
          only_then (ActFine p.program sections) DoneFine (act (context p s frame) f.result k.arriving (p.code.stood frame.function frame.point)) _
          (act_fine p.program sections (p.code.scope frame.function frame.point) frame.slots s f.result k.arriving (p.code.stood frame.function frame.point)
          (λ to y es e. (take.named frame.function f frame.point is to y es e, λ g i. take.takes frame.function f frame.point is to y es g e i)))
          (performs_fine s frame below)

      go : (frames : List (Frame P)) → Only DoneFine (frames_step p s k.arriving frames)
      go [] = tt
      go (frame ∷ below) = found frame below (function_named p.program frame.function) refl
