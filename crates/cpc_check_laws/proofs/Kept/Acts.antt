-- What a step does fits: variables are written as values of their types, calls get arguments of the types of their parameters.
use Rattle.std.proofs.Common.{◌≡◌, Bool, true, false, cond, List, slice_get, Option, Some, None, refl, sym, ◌∙◌, ap, subst}
use Rattle.cpc_base.specs.Bytes.{Text}
use Rattle.cpc_num.specs.declared.kinds.Op.TheVariants.{Add}
use Rattle.cpc_num.specs.declared.kinds.Fault.TheVariants as F
use Rattle.cpc_tree.specs.declared.program.Mode.TheVariants.{Extern}
use Rattle.cpc_tree.specs.declared.program.UnaryOp.TheVariants.{Dereference}
use Rattle.cpc_tree.specs.Syntax.{Ty, Expr, ENamed, EUnary, EIndex, EMember, EArrow, Exprs, Stmt, Declare, Assign, Call, Detach, Spawn, Return, Function, Program}
use Rattle.cpc_tree.specs.Points.{Found, Simple, Test, Nothing}
use Rattle.cpc_tree.specs.Primitives.{Primitive, primitive_named}
use Rattle.cpc_tree.specs.Typing.{Scope, Meant, ALocal, AGlobal, AFunction, NotMeant, named, type_named, typed_place, function_named, function_type, parameter_types, code_parameters, same_type, field, struct_tag}
use Rattle.cpc_tree.proofs.TypeRows.{list_back}
use Rattle.cpc_store.specs.Store.{Value, Unset, Whole, Null, At, Code, Cond, Store, save}
use Rattle.cpc_meaning.specs.Answer.{Answer, Gives, Faults, ◌>>=◌, of_result, needed}
use Rattle.cpc_meaning.specs.Eval.{Slot, Register, Boxed, Context, Spot, InSlot, InCell, and_then, place, place_type, used_type, value, values, holds, assigned, operate, pointed, pointed_type, pointer_to, slot_spot, spot_named, field_spot, moved}
use Rattle.cpc_meaning.specs.Slots.{free_slots}
use Rattle.cpc_meaning.specs.Requests.{Asked, ToSpawn, Section, section_takes, takes, all_taken, all_long, arguments}
use Rattle.cpc_meaning.specs.Act.{Stood, AtStatement, AtArrival, AtEnd, Act, GoesOn, Enters, Leaves, AsksFor, passes, write, assign, deliver, right_side, assigns, calls, function_of_type, callee, calls_value, puts_text, asks_with, calls_named, calls_expr, detaches, spawns, leaves, returns, simple_act, found_act, target_of, arrives, act}
use Rattle.cpc_meaning.proofs.SameValues.{at}
use Rattle.cpc_meaning.proofs.Functions.{found_again}
use Rattle.cpc_meaning_laws.proofs.Pointer.Blocks.{Only, only_then, any_then}
use Rattle.cpc_check_rules.proofs.Sameness.{type_is}
use Rattle.cpc_check_laws.specs.Sound.Suits.{ScopeOf}
use Rattle.cpc_check_laws.proofs.Sound.Lookups.{local_is}
use Rattle.cpc_check_laws.specs.Kept.Fits.{Fits, FitAll, types_of, FitsCall, GivesInt}
use Rattle.cpc_check_laws.proofs.Kept.Values.{assigned_fits, arguments_fit}
use Rattle.cpc_check_laws.proofs.Kept.Stores.{Stays, save_stays, freed_slots_stay}
use Rattle.cpc_check_laws.proofs.Kept.Slots.{set_call}

-- what is asked for: a section gives an int, and a spawn has arguments that fit
abbrev pub AsksSo : Program → Asked → List Value → Type 0
AsksSo p (Section y) vs = (g : Function) → function_named p y ≡ Some g → GivesInt g
AsksSo p (ToSpawn y) vs = (g : Function) → function_named p y ≡ Some g → FitAll (parameter_types g) vs
AsksSo p _ vs = Unit {0}

-- an act in a frame of f with these slots
abbrev pub ActSo : Program → Function → List Slot → Store → Act → Type 0
ActSo p f slots s (GoesOn h t new) = Stays s t × (FitsCall f slots → FitsCall f new)
ActSo p f slots s (Enters g vs) = (function_named p g.called ≡ Some g) × FitAll (parameter_types g) vs
ActSo p f slots s (Leaves v t) = Stays s t × Fits f.result v
ActSo p f slots s (AsksFor r) = AsksSo p r.asked r.arguments

-- the sections that what stands there may ask for give ints
abbrev pub SectionsGive : Program → Stood → Type 0
SectionsGive p stood = (to : Option Expr) (y : Text) (es : Exprs) (g : Function) → stood ≡ AtStatement (Simple (Detach to y es)) → function_named p y ≡ Some g → GivesInt g

-- the type of a code
abbrev code_type : Function → Ty
code_type g = function_type g.result (parameter_types g)

module _ (p : Program) (scope : Scope) (slots : List Slot) (s : Store) (f : Function) (in_scope : ScopeOf (types_of f) scope) where
  abbrev c : Context
  c = at p scope slots s

  abbrev Acts : Answer Act → Type 0
  Acts a = Only (ActSo p f slots s) a

  -- ---- places

  -- a place in a slot is a register, of a variable whose type is that of the place
  abbrev SpotSo : Expr → Spot → Type 0
  SpotSo e (InSlot k) = ((t : Ty) → place_type c e ≡ Some t → slice_get (types_of f) k ≡ Some t) × ((v : Value) × (slice_get slots k ≡ Some (Register v)))
  SpotSo e (InCell cl n k) = Unit {0}

  pointed_so : (e : Expr) (v : Value) → Only (SpotSo e) (pointed v)
  pointed_so e Unset = tt
  pointed_so e Null = tt
  pointed_so e (At cl n k) = tt
  pointed_so e (Whole kind z) = tt
  pointed_so e (Code g) = tt
  pointed_so e (Cond n) = tt

  field_so : (e : Expr) (o : Option Ty) (x : Text) (v : Value) → Only (SpotSo e) (field_spot p s o x v)
  field_so e o x v =
      any_then (SpotSo e) (needed o) _ λ t.
      any_then (SpotSo e) (needed (struct_tag t)) _ λ tag.
      any_then (SpotSo e) (needed (field p tag x)) _ λ g.
      any_then (SpotSo e) (moved s v _) _ λ w. pointed_so e w

  named_so : (x : Text) (m : Meant) → named p scope x ≡ m → Only (SpotSo (ENamed x)) (spot_named slots m)
  named_so x (ALocal k t) e = go (slice_get slots k) refl
    where
      typed : (u : Ty) → place_type c (ENamed x) ≡ Some u → slice_get (types_of f) k ≡ Some u
      typed u i =
          let j : Some t ≡ Some u = sym (ap (λ m. and_then (type_named m) typed_place) e) ∙ i in
          (local_is (types_of f) p scope x k t in_scope e).0 ∙ j

      go : (o : Option Slot) → slice_get slots k ≡ o → Only (SpotSo (ENamed x)) (slot_spot k o)
      go None i = tt
      go (Some (Register v)) i = (typed, (v, i))
      go (Some (Boxed n)) i = tt
  named_so x (AGlobal n t) e = tt
  named_so x (AFunction mode r ps) e = tt
  named_so x NotMeant e = tt

  place_so : (e : Expr) → Only (SpotSo e) (place c e)
  place_so (ENamed x) = named_so x (named p scope x) refl
  place_so (EUnary Dereference e) = any_then (SpotSo (EUnary Dereference e)) (value c e) _ λ v. pointed_so (EUnary Dereference e) v
  place_so (EIndex a i) =
      any_then (SpotSo (EIndex a i)) (value c a) _ λ v.
      any_then (SpotSo (EIndex a i)) (value c i) _ λ w.
      any_then (SpotSo (EIndex a i)) (operate p s Add (used_type c a) (used_type c i) v w) _ λ x. pointed_so (EIndex a i) x
  place_so (EMember e x) =
      any_then (SpotSo (EMember e x)) (place c e) _ λ spot.
      any_then (SpotSo (EMember e x)) (pointer_to spot) _ λ v. field_so (EMember e x) (place_type c e) x v
  place_so (EArrow e x) = any_then (SpotSo (EArrow e x)) (value c e) _ λ v. field_so (EArrow e x) (pointed_type (used_type c e)) x v
  place_so _ = tt

  -- ---- assignments

  -- slots and a store afterwards
  abbrev Wrote : List Slot × Store → Type 0
  Wrote r = Stays s r.1 × (FitsCall f slots → FitsCall f r.0)

  writes : (e : Expr) (spot : Spot) (t : Ty) (w : Value) → place_type c e ≡ Some t → SpotSo e spot → Fits t w → Only Wrote (write c spot w)
  writes e (InSlot k) t w i h g = ((λ x. x), λ fits. set_call f slots k t h.1.0 w (h.0 t i) h.1.1 g fits)
  writes e (InCell cl n k) t w i h g = only_then (Stays s) Wrote (of_result (save cl n k w s)) _ (save_stays cl n k w s) λ u stays. (stays, λ fits. fits)

  assigned_so : (e : Expr) (v : Value) → Only Wrote (assign c e v)
  assigned_so e v =
      only_then (SpotSo e) Wrote (place c e) _ (place_so e) λ spot h.
      typed spot h (place_type c e) refl
    where
      typed : (spot : Spot) → SpotSo e spot → (o : Option Ty) → place_type c e ≡ o → Only Wrote (needed o >>= λ t. assigned t v >>= λ w. write c spot w)
      typed spot h None i = tt
      typed spot h (Some t) i = only_then (Fits t) Wrote (assigned t v) _ (assigned_fits t v) λ w g. writes e spot t w i h g

  delivered_so : (o : Option Expr) (v : Value) → Only Wrote (deliver c o v)
  delivered_so None v = ((λ x. x), λ fits. fits)
  delivered_so (Some e) v = assigned_so e v

  passes_so : (h : Bool) → Acts (passes c h)
  passes_so h = ((λ x. x), λ fits. fits)

  assigns_so : (x v : Expr) → Acts (assigns c x v)
  assigns_so x v =
      any_then (ActSo p f slots s) (value c v) _ λ w.
      only_then Wrote (ActSo p f slots s) (assign c x w) _ (assigned_so x w) λ r h. h

  -- ---- calls and returns

  calls_so : (g : Function) (es : Exprs) → function_named p g.called ≡ Some g → Acts (calls c g es)
  calls_so g es is =
      any_then (ActSo p f slots s) (values c es) _ λ vs.
      only_then (FitAll (parameter_types g)) (ActSo p f slots s) (arguments (parameter_types g) vs) _ (arguments_fit (parameter_types g) vs) λ ws h. (is, h)

  -- a function that a value of this type calls
  abbrev IsCallee : Ty → Function → Type 0
  IsCallee t g = (function_named p g.called ≡ Some g) × (code_parameters t ≡ parameter_types g)

  callee_so : (t : Ty) (v : Value) → Only (IsCallee t) (callee p t v)
  callee_so t Unset = tt
  callee_so t Null = tt
  callee_so t (Code x) = found x (function_named p x) refl
    where
      found : (x : Text) (o : Option Function) → function_named p x ≡ o → Only (IsCallee t) (function_of_type t o)
      found x None e = tt
      found x (Some g) e = same (same_type t (code_type g)) refl
        where
          same : (b : Bool) → same_type t (code_type g) ≡ b → Only (IsCallee t) (cond b (Gives g) (Faults F.Code))
          same true i = (found_again p x g e, ap code_parameters (type_is t (code_type g) i) ∙ list_back (parameter_types g))
          same false i = tt
  callee_so t (Whole kind z) = tt
  callee_so t (At cl n k) = tt
  callee_so t (Cond n) = tt

  calls_value_so : (e : Expr) (es : Exprs) → Acts (calls_value c e es)
  calls_value_so e es =
      any_then (ActSo p f slots s) (value c e) _ λ v.
      any_then (ActSo p f slots s) (needed (used_type c e)) _ λ t.
      any_then (ActSo p f slots s) (values c es) _ λ vs.
      only_then (FitAll (code_parameters t)) (ActSo p f slots s) (arguments (code_parameters t) vs) _ (arguments_fit (code_parameters t) vs) λ ws h.
      only_then (IsCallee t) (ActSo p f slots s) (callee p t v) _ (callee_so t v) λ g i. (i.0, subst (λ ts. FitAll ts ws) i.1 h)

  asks_so : (prim : Primitive) (es : Exprs) (o : Option Text) → Acts (asks_with c prim es o)
  asks_so prim es (Some bytes) = tt
  asks_so prim es None =
      any_then (ActSo p f slots s) (values c es) _ λ vs.
      any_then (ActSo p f slots s) (all_taken (takes p prim vs) vs) _ λ ws. tt

  calls_named_so : (x : Text) (es : Exprs) (m : Meant) (prim : Option Primitive) (o : Option Function) → function_named p x ≡ o → Acts (calls_named c x es m prim o)
  calls_named_so x es (AFunction Extern r ps) prim o e =
      any_then (ActSo p f slots s) (values c es) _ λ vs.
      any_then (ActSo p f slots s) (all_long vs) _ λ ws. tt
  calls_named_so x es (AFunction mode r ps) prim (Some g) e = calls_so g es (found_again p x g e)
  calls_named_so x es NotMeant (Some prim) o e = asks_so prim es (puts_text prim es)
  calls_named_so x es m prim o e = calls_value_so (ENamed x) es

  calls_expr_so : (e : Expr) (es : Exprs) → Acts (calls_expr c e es)
  calls_expr_so (ENamed x) es = calls_named_so x es (named p scope x) (primitive_named x) (function_named p x) refl
  calls_expr_so e es = calls_value_so e es

  detaches_so : (y : Text) (es : Exprs) → ((g : Function) → function_named p y ≡ Some g → GivesInt g) → Acts (detaches c y es)
  detaches_so y es give =
      any_then (ActSo p f slots s) (needed (function_named p y)) _ λ g.
      any_then (ActSo p f slots s) (values c es) _ λ vs.
      any_then (ActSo p f slots s) (all_taken (section_takes (parameter_types g)) vs) _ λ ws. give

  spawns_so : (y : Text) (es : Exprs) → Acts (spawns c y es)
  spawns_so y es = go (function_named p y) refl
    where
      go : (o : Option Function) → function_named p y ≡ o
          → Acts (needed o >>= λ g. values c es >>= λ vs. arguments (parameter_types g) vs >>= λ ws. Gives (AsksFor (record { asked = ToSpawn y; arguments = ws })))
      go None e = tt
      go (Some g) e =
          any_then (ActSo p f slots s) (values c es) _ λ vs.
          only_then (FitAll (parameter_types g)) (ActSo p f slots s) (arguments (parameter_types g) vs) _ (arguments_fit (parameter_types g) vs) λ ws h.
          λ k i. let j : Some g ≡ Some k = sym e ∙ i in let same : g ≡ k = cc in subst (λ k. FitAll (parameter_types k) ws) same h

  leaves_so : (v : Value) → Fits f.result v → Acts (leaves c v)
  leaves_so v h = only_then (Stays s) (ActSo p f slots s) (free_slots slots s) _ (freed_slots_stay slots s) λ t stays. (stays, h)

  returns_so : (o : Option Expr) → Acts (returns c f.result o)
  returns_so None = leaves_so Unset refl
  returns_so (Some x) =
      any_then (ActSo p f slots s) (value c x) _ λ v.
      only_then (Fits f.result) (ActSo p f slots s) (assigned f.result v) _ (assigned_fits f.result v) λ w h. leaves_so w h

  -- ---- what stands there

  simple_so : (t : Stmt) → SectionsGive p (AtStatement (Simple t)) → Acts (simple_act c f.result t)
  simple_so (Declare x t (Some v)) give = assigns_so (ENamed x) v
  simple_so (Assign x op v) give = assigns_so x (right_side op x v)
  simple_so (Call x g es) give = calls_expr_so g es
  simple_so (Detach x y es) give = detaches_so y es (λ g e. give x y es g refl e)
  simple_so (Spawn g es) give = spawns_so g es
  simple_so (Return v) give = returns_so v
  simple_so t give = passes_so true

  found_so : (found : Found) → SectionsGive p (AtStatement found) → Acts (found_act c f.result found)
  found_so (Simple t) give = simple_so t give
  found_so (Test None) give = passes_so true
  found_so (Test (Some t)) give = any_then (ActSo p f slots s) (value c t) _ λ v. any_then (ActSo p f slots s) (holds v) _ λ h. passes_so h
  found_so Nothing give = tt

  pub arrives_so : (found : Found) (o : Option Value) → Acts (arrives c found o)
  arrives_so found None = tt
  arrives_so found (Some v) =
      any_then (ActSo p f slots s) (needed (target_of found)) _ λ x.
      only_then Wrote (ActSo p f slots s) (deliver c x v) _ (delivered_so x v) λ r h. h

  pub act_so : (o : Option Value) (stood : Stood) → SectionsGive p stood → Acts (act c f.result o stood)
  act_so o (AtStatement found) give = found_so found give
  act_so o (AtArrival found) give = arrives_so found o
  act_so o AtEnd give = leaves_so Unset refl
