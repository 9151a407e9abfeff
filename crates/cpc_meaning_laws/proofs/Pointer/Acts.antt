-- What a step does hands over values that were made.
use Rattle.std.proofs.Common.{ℕ, zero, suc, Bool, true, false, List, [], ◌∷◌, replicate, Option, Some, None}
use Rattle.std.specs.List.{All}
use Rattle.std.proofs.lemmas.List.Elements.{All-nil, All-cons, All-head, All-tail, All-set}
use Rattle.cpc_base.specs.Bytes.{Text}
use Rattle.cpc_num.specs.declared.kinds.Kind.TheVariants.{Long}
use Rattle.cpc_tree.specs.declared.program.Mode.TheVariants.{Extern}
use Rattle.cpc_tree.specs.Syntax.{Ty, TyInt, Variable, Expr, ENamed, Exprs, NoExpr, AndExpr, Stmt, Declare, Assign, Call, Detach, Spawn, Return, Function, Program}
use Rattle.cpc_tree.specs.Lists.{first_or, rest_of}
use Rattle.cpc_tree.specs.Points.{Found, Simple, Test, Nothing}
use Rattle.cpc_tree.specs.Primitives.{Primitive, Taken, AnyInteger, SetOf, FreeOf, primitive_named}
use Rattle.cpc_tree.specs.Registers.{is_register}
use Rattle.cpc_tree.specs.Typing.{Scope, Meant, AFunction, NotMeant, named, size, function_named, parameter_types, code_parameters}
use Rattle.cpc_store.specs.declared.values.Class.TheVariants.{Auto}
use Rattle.cpc_store.specs.Store.{Value, Unset, Whole, At, Store, alloc, next_block, free, save}
use Rattle.cpc_meaning.specs.Answer.{Answer, Gives, ◌>>=◌, of_result, needed}
use Rattle.cpc_meaning.specs.Eval.{Slot, Register, Boxed, Context, Spot, InSlot, InCell, place, place_type, used_type, value, values, holds, assigned, at_type}
use Rattle.cpc_meaning.specs.Slots.{first_cells, make_slot, make_slots, free_slots}
use Rattle.cpc_meaning.specs.Requests.{section_takes, takes, set_integer, taken_as, all_taken, all_long, arguments, byte_values}
use Rattle.cpc_meaning.specs.Act.{Stood, AtStatement, AtArrival, AtEnd, Act, GoesOn, Enters, Leaves, AsksFor, passes, write, assign, deliver, right_side, assigns, calls, callee, calls_value, puts_text, asks_with, calls_named, calls_expr, detaches, spawns, leaves, returns, simple_act, found_act, target_of, arrives, act}
use Rattle.cpc_meaning.proofs.SameValues.{at}
use Rattle.cpc_meaning_laws.specs.Pointer.Made.{IsMade, IsMadeIf, IsMadeSlot, IsMadeStore}
use Rattle.cpc_meaning_laws.proofs.Pointer.Blocks.{Only, only_then, any_then, only_as, only_given}
use Rattle.cpc_meaning_laws.proofs.Pointer.Values.{IsMadeSpot, assigned_made, at_type_made, same_itself, places, same_values}
use Rattle.cpc_meaning_laws.proofs.Pointer.Stores.{later_made, later_values, later_slots, Onward, onward_self, onward_then, IsMadeCells, cells_none, cells_more, cells_unset, next_made, alloc_onward, free_onward, save_onward}

-- ---- the variables of a call

-- slots in a store that came of s
pub record SlotsMade (s : Store) (r : List Slot × Store) : Type 0 where
  pub onward : Onward s r.1
  pub slots : All (IsMadeSlot r.1) r.0

pub first_made : (s : Store) (vs : List Value) → All (IsMade s) vs → IsMade s (first_or Unset vs)
first_made s [] h = tt
first_made s (v ∷ vs) h = All-head (IsMade s) v vs h

pub rest_made : (s : Store) (vs : List Value) → All (IsMade s) vs → All (IsMade s) (rest_of vs)
rest_made s [] h = h
rest_made s (v ∷ vs) h = All-tail (IsMade s) v vs h

first_cells_made : (s : Store) (n : ℕ) (v : Value) → IsMade s v → IsMadeCells s (first_cells n v)
first_cells_made s zero v h = cells_none s
first_cells_made s (suc n) v h = cells_more s v (replicate n Unset) h (cells_unset s n)

pub slots_come : (p : Program) (f : Function) (n : ℕ) (xs : List Variable) (vs : List Value) (s : Store) → IsMadeStore s → All (IsMade s) vs → Only (SlotsMade s) (make_slots p f n xs vs s)
slots_come p f n [] vs s made h = record { onward = onward_self s made; slots = All-nil (IsMadeSlot s) }
slots_come p f n (x ∷ xs) vs s made h =
    any_then (SlotsMade s) (needed (size p x.type)) _ (λ cells. go cells (is_register f n x) (λ t on. slots_come p f (suc n) xs (rest_of vs) t on.made (later_values s t on.later (rest_of vs) (rest_made s vs h))))
  where
    go : (cells : ℕ) (b : Bool) → ((t : Store) → Onward s t → Only (SlotsMade t) (make_slots p f (suc n) xs (rest_of vs) t))
        → Only (SlotsMade s) (Gives (make_slot b cells (first_or Unset vs) s) >>= (λ a. make_slots p f (suc n) xs (rest_of vs) a.1 >>= (λ r. Gives (a.0 ∷ r.0, r.1))))
    go cells true rest =
        only_then (SlotsMade s) (SlotsMade s) (make_slots p f (suc n) xs (rest_of vs) s) _ (rest s (onward_self s made))
        (λ r k. record { onward = k.onward; slots = All-cons (IsMadeSlot r.1) (Register (first_or Unset vs)) r.0 (later_made s r.1 k.onward.later (first_or Unset vs) (first_made s vs h)) k.slots })
    go cells false rest =
        let t = alloc Auto (first_cells cells (first_or Unset vs)) s in
        let on = alloc_onward Auto (first_cells cells (first_or Unset vs)) s made (first_cells_made s cells (first_or Unset vs) (first_made s vs h)) in
        only_then (SlotsMade t) (SlotsMade s) (make_slots p f (suc n) xs (rest_of vs) t) _ (rest t on)
        (λ r k. record {
          onward = onward_then s t r.1 on k.onward;
          slots = All-cons (IsMadeSlot r.1) (Boxed (next_block Auto s)) r.0 (k.onward.later Auto (next_block Auto s) (next_made Auto (first_cells cells (first_or Unset vs)) s)) k.slots;
        })

freed_slots : (slots : List Slot) (s : Store) → IsMadeStore s → Only (Onward s) (free_slots slots s)
freed_slots [] s made = onward_self s made
freed_slots (Register v ∷ slots) s made = freed_slots slots s made
freed_slots (Boxed n ∷ slots) s made =
    only_then (Onward s) (Onward s) (of_result (free Auto (At Auto n 0) s)) (free_slots slots) (free_onward Auto (At Auto n 0) s made)
    (λ t on. only_as (Onward t) (Onward s) (free_slots slots t) (λ u k. onward_then s t u on k) (freed_slots slots t on.made))

-- ---- what is handed over

module _ (s : Store) where
  pub arguments_made : (ts : List Ty) (vs : List Value) → All (IsMade s) vs → Only (All (IsMade s)) (arguments ts vs)
  arguments_made [] [] h = h
  arguments_made (t ∷ ts) (v ∷ vs) h =
      only_then (IsMade s) (All (IsMade s)) (assigned t v) _ (assigned_made s t v (All-head (IsMade s) v vs h)) λ w i.
      only_then (All (IsMade s)) (All (IsMade s)) (arguments ts vs) _ (arguments_made ts vs (All-tail (IsMade s) v vs h)) λ ws j. All-cons (IsMade s) w ws i j
  arguments_made [] (v ∷ vs) h = tt
  arguments_made (t ∷ ts) [] h = tt

  integer_made : (v : Value) → Only (IsMade s) (set_integer v)
  integer_made Unset = tt
  integer_made (Whole kind z) = tt
  integer_made _ = tt

  taken_made : (t : Taken) (v : Value) → IsMade s v → Only (IsMade s) (taken_as t v)
  taken_made AnyInteger v h = integer_made v
  taken_made (SetOf t) v h = at_type_made s t v h
  taken_made (FreeOf t) v h = assigned_made s t v h

  all_taken_made : (ts : List Taken) (vs : List Value) → All (IsMade s) vs → Only (All (IsMade s)) (all_taken ts vs)
  all_taken_made [] [] h = h
  all_taken_made (t ∷ ts) (v ∷ vs) h =
      only_then (IsMade s) (All (IsMade s)) (taken_as t v) _ (taken_made t v (All-head (IsMade s) v vs h)) λ w i.
      only_then (All (IsMade s)) (All (IsMade s)) (all_taken ts vs) _ (all_taken_made ts vs (All-tail (IsMade s) v vs h)) λ ws j. All-cons (IsMade s) w ws i j
  all_taken_made [] (v ∷ vs) h = tt
  all_taken_made (t ∷ ts) [] h = tt

  all_long_made : (vs : List Value) → All (IsMade s) vs → Only (All (IsMade s)) (all_long vs)
  all_long_made [] h = h
  all_long_made (v ∷ vs) h =
      only_then (IsMade s) (All (IsMade s)) (at_type (TyInt Long) v) _ (at_type_made s (TyInt Long) v (All-head (IsMade s) v vs h)) λ w i.
      only_then (All (IsMade s)) (All (IsMade s)) (all_long vs) _ (all_long_made vs (All-tail (IsMade s) v vs h)) λ ws j. All-cons (IsMade s) w ws i j

  bytes_made : (bs : Text) → All (IsMade s) (byte_values bs)
  bytes_made [] = All-nil (IsMade s)
  bytes_made (b ∷ bs) = All-cons (IsMade s) _ (byte_values bs) tt (bytes_made bs)

-- ---- what a step does

-- an act in a store
abbrev pub ActMade : Store → Act → Type 0
ActMade s (GoesOn h t slots) = Onward s t × All (IsMadeSlot t) slots
ActMade s (Enters f vs) = All (IsMade s) vs
ActMade s (Leaves v t) = Onward s t × IsMade t v
ActMade s (AsksFor r) = All (IsMade s) r.arguments

module _ (p : Program) (scope : Scope) (slots : List Slot) (s : Store) (made : IsMadeStore s) (slots_made : All (IsMadeSlot s) slots) where
  abbrev c : Context
  c = at p scope slots s

  abbrev Acts : Answer Act → Type 0
  Acts a = Only (ActMade s) a

  value_made : (e : Expr) → Only (IsMade s) (value c e)
  value_made e = only_given (IsMade s) (λ x. x) _ _ (same_values s s (same_itself s) made p scope slots slots_made e)

  place_made : (e : Expr) → Only (IsMadeSpot s) (place c e)
  place_made e = only_given (IsMadeSpot s) (λ x. x) _ _ (places s s (same_itself s) made p scope slots slots_made e)

  values_made : (es : Exprs) → Only (All (IsMade s)) (values c es)
  values_made NoExpr = All-nil (IsMade s)
  values_made (AndExpr e es) =
      only_then (IsMade s) (All (IsMade s)) (value c e) _ (value_made e) λ v h.
      only_then (All (IsMade s)) (All (IsMade s)) (values c es) _ (values_made es) λ vs i. All-cons (IsMade s) v vs h i

  -- ---- assignments

  passes_on : (h : Bool) → Acts (passes c h)
  passes_on h = (onward_self s made, slots_made)

  writes : (spot : Spot) (v : Value) → IsMadeSpot s spot → IsMade s v → Only (SlotsMade s) (write c spot v)
  writes (InSlot k) v h i = record { onward = onward_self s made; slots = All-set (IsMadeSlot s) slots k (Register v) i slots_made }
  writes (InCell cl n k) v h i =
      only_then (Onward s) (SlotsMade s) (of_result (save cl n k v s)) _ (save_onward cl n k v s made i)
      (λ t on. record { onward = on; slots = later_slots s t on.later slots slots_made })

  assigns_made : (e : Expr) (v : Value) → IsMade s v → Only (SlotsMade s) (assign c e v)
  assigns_made e v h =
      only_then (IsMadeSpot s) (SlotsMade s) (place c e) _ (place_made e) λ spot i.
      any_then (SlotsMade s) (needed (place_type c e)) _ λ t.
      only_then (IsMade s) (SlotsMade s) (assigned t v) _ (assigned_made s t v h) λ w j. writes spot w i j

  delivers : (o : Option Expr) (v : Value) → IsMade s v → Only (SlotsMade s) (deliver c o v)
  delivers None v h = record { onward = onward_self s made; slots = slots_made }
  delivers (Some e) v h = assigns_made e v h

  assigns_act : (x v : Expr) → Acts (assigns c x v)
  assigns_act x v =
      only_then (IsMade s) (ActMade s) (value c v) _ (value_made v) λ w h.
      only_then (SlotsMade s) (ActMade s) (assign c x w) _ (assigns_made x w h) λ r k. (k.onward, k.slots)

  -- ---- calls and returns

  calls_act : (f : Function) (es : Exprs) → Acts (calls c f es)
  calls_act f es =
      only_then (All (IsMade s)) (ActMade s) (values c es) _ (values_made es) λ vs h.
      only_then (All (IsMade s)) (ActMade s) (arguments (parameter_types f) vs) _ (arguments_made s (parameter_types f) vs h) λ ws i. i

  calls_value_act : (f : Expr) (es : Exprs) → Acts (calls_value c f es)
  calls_value_act f es =
      any_then (ActMade s) (value c f) _ λ v.
      any_then (ActMade s) (needed (used_type c f)) _ λ t.
      only_then (All (IsMade s)) (ActMade s) (values c es) _ (values_made es) λ vs h.
      only_then (All (IsMade s)) (ActMade s) (arguments (code_parameters t) vs) _ (arguments_made s (code_parameters t) vs h) λ ws i.
      any_then (ActMade s) (callee p t v) _ λ g. i

  asks_act : (prim : Primitive) (es : Exprs) (o : Option Text) → Acts (asks_with c prim es o)
  asks_act prim es (Some bytes) = bytes_made s bytes
  asks_act prim es None =
      only_then (All (IsMade s)) (ActMade s) (values c es) _ (values_made es) λ vs h.
      only_then (All (IsMade s)) (ActMade s) (all_taken (takes p prim vs) vs) _ (all_taken_made s (takes p prim vs) vs h) λ ws i. i

  calls_named_act : (x : Text) (es : Exprs) (m : Meant) (prim : Option Primitive) (f : Option Function) → Acts (calls_named c x es m prim f)
  calls_named_act x es (AFunction Extern r ps) prim f =
      only_then (All (IsMade s)) (ActMade s) (values c es) _ (values_made es) λ vs h.
      only_then (All (IsMade s)) (ActMade s) (all_long vs) _ (all_long_made s vs h) λ ws i. i
  calls_named_act x es (AFunction mode r ps) prim (Some f) = calls_act f es
  calls_named_act x es NotMeant (Some prim) f = asks_act prim es (puts_text prim es)
  calls_named_act x es m prim f = calls_value_act (ENamed x) es

  calls_expr_act : (f : Expr) (es : Exprs) → Acts (calls_expr c f es)
  calls_expr_act (ENamed x) es = calls_named_act x es (named p scope x) (primitive_named x) (function_named p x)
  calls_expr_act f es = calls_value_act f es

  detaches_act : (f : Text) (es : Exprs) → Acts (detaches c f es)
  detaches_act f es =
      any_then (ActMade s) (needed (function_named p f)) _ λ g.
      only_then (All (IsMade s)) (ActMade s) (values c es) _ (values_made es) λ vs h.
      only_then (All (IsMade s)) (ActMade s) (all_taken (section_takes (parameter_types g)) vs) _ (all_taken_made s (section_takes (parameter_types g)) vs h) λ ws i. i

  spawns_act : (f : Text) (es : Exprs) → Acts (spawns c f es)
  spawns_act f es =
      any_then (ActMade s) (needed (function_named p f)) _ λ g.
      only_then (All (IsMade s)) (ActMade s) (values c es) _ (values_made es) λ vs h.
      only_then (All (IsMade s)) (ActMade s) (arguments (parameter_types g) vs) _ (arguments_made s (parameter_types g) vs h) λ ws i. i

  leaves_act : (v : Value) → IsMade s v → Acts (leaves c v)
  leaves_act v h = only_then (Onward s) (ActMade s) (free_slots slots s) _ (freed_slots slots s made) λ t on. (on, later_made s t on.later v h)

  returns_act : (result : Ty) (o : Option Expr) → Acts (returns c result o)
  returns_act result None = leaves_act Unset tt
  returns_act result (Some x) =
      only_then (IsMade s) (ActMade s) (value c x) _ (value_made x) λ v h.
      only_then (IsMade s) (ActMade s) (assigned result v) _ (assigned_made s result v h) λ w i. leaves_act w i

  -- ---- what stands there

  simple_made : (result : Ty) (t : Stmt) → Acts (simple_act c result t)
  simple_made result (Declare x t (Some v)) = assigns_act (ENamed x) v
  simple_made result (Assign x op v) = assigns_act x (right_side op x v)
  simple_made result (Call x f es) = calls_expr_act f es
  simple_made result (Detach x f es) = detaches_act f es
  simple_made result (Spawn f es) = spawns_act f es
  simple_made result (Return v) = returns_act result v
  simple_made result t = passes_on true

  found_made : (result : Ty) (f : Found) → Acts (found_act c result f)
  found_made result (Simple t) = simple_made result t
  found_made result (Test None) = passes_on true
  found_made result (Test (Some t)) = any_then (ActMade s) (value c t) _ λ v. any_then (ActMade s) (holds v) _ λ h. passes_on h
  found_made result Nothing = tt

  -- a value that was made arrives
  pub arrives_made : (f : Found) (o : Option Value) → IsMadeIf s o → Acts (arrives c f o)
  arrives_made f None h = tt
  arrives_made f (Some v) h =
      any_then (ActMade s) (needed (target_of f)) _ λ x.
      only_then (SlotsMade s) (ActMade s) (deliver c x v) _ (delivers x v h) λ r k. (k.onward, k.slots)

  pub act_made : (result : Ty) (o : Option Value) (stood : Stood) → IsMadeIf s o → Acts (act c result o stood)
  act_made result o (AtStatement f) h = found_made result f
  act_made result o (AtArrival f) h = arrives_made f o h
  act_made result o AtEnd h = leaves_act Unset tt
