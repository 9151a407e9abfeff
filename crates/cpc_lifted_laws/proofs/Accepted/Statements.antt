-- What is known of a typed statement: its names, and that what it writes is no array.
use Rattle.std.proofs.Common.{◌≡◌, ℕ, true, false, List, Option, Some, None, refl, sym, ◌∙◌, ap, subst}
use Rattle.cpc_base.specs.Bytes.{Text}
use Rattle.cpc_base.specs.declared.stop.Dialect.TheVariants as D
use Rattle.cpc_num.specs.declared.kinds.Op.{Op}
use Rattle.cpc_store.specs.Store.{Store}
use Rattle.cpc_tree.specs.Points.{Found, Simple, Test, Nothing}
use Rattle.cpc_tree.specs.Primitives.{Primitive, Puts, RtDetach, primitive_named, takes_first}
use Rattle.cpc_tree.specs.Syntax.{Ty, TyInt, TyArray, Expr, ENamed, EText, Exprs, NoExpr, AndExpr, Stmt, Declare, Assign, Call, Detach, Spawn, Return, Function, Program}
use Rattle.cpc_tree.specs.Typing.{Scope, Meant, ALocal, AFunction, NotMeant, named, typing, APlace, typed_place, parameter_types, list_of_tys}
use Rattle.cpc_tree.specs.declared.program.Mode.{Mode}
use Rattle.cpc_num.specs.declared.kinds.Kind.TheVariants.{Int}
use Rattle.cpc_tree.specs.declared.program.Mode.TheVariants.{Extern}
use Rattle.cpc_check_rules.specs.Calls.{gives_up}
use Rattle.cpc_check_rules.specs.FunctionRules.{is_kept}
use Rattle.cpc_check_rules.specs.Operators as O
use Rattle.cpc_check_laws.specs.Sound.Suits.{converts}
use Rattle.cpc_check_laws.specs.Sound.Typed.{is_for, is_variable, is_pointer_call, Assigns, Delivers, TakesArguments, Calls, CallsHost, CallsFunction, CallsPrimitive, CallsPointer, IsTyped, FoundTyped}
use Rattle.cpc_check_laws.proofs.Run.Names.{primitive_kept}
use Rattle.cpc_meaning.specs.Act.{right_side}
use Rattle.cpc_meaning.specs.Eval.{Slot, Context, and_then}
use Rattle.cpc_meaning.specs.Requests.{section_takes}
use Rattle.cpc_convert_image_laws.specs.InPlace.{is_array, is_cps, IsWritten, IsWrittenIf, IsCalledInPlace}
use Rattle.cpc_meaning.specs.Names.{AllNames, AllNamesIf, AllNamesAmong, AllNamesOf}
use Rattle.cpc_convert_image_laws.specs.Native.{IsNative}
use Rattle.cpc_lifted_laws.specs.Accepted.Names.{HasNames}
use Rattle.cpc_lifted_laws.specs.Accepted.Points.{UsedName, IsVariable, IsItem, AllNamesBeside, StaysItself, IsWrittenBy, in_scope, StatementKnown, FoundKnown}
use Rattle.cpc_lifted_laws.proofs.Accepted.Used.{is_used, typed_names, gets_names, test_names, all_get_names, each_gets_names, all_taken_names, primitive_unmarked}

no_function : {A : Type 0} (m : Meant) (mode : Mode) (r : Ty) (ps : List Ty) → m ≡ AFunction mode r ps → m ≡ NotMeant → A
no_function m mode r ps e g = absurd (let i : AFunction mode r ps ≡ NotMeant = sym e ∙ g in cc)

-- ---- places

converts_plain : (t u : Ty) → converts t u ≡ true → is_array (Some t) ≡ false
converts_plain (TyArray t n) u e = absurd (cc)
converts_plain _ u e = refl

module _ (p : Program) (scope : Scope) (slots : List Slot) (t : Store) where
  abbrev c : Context
  c = in_scope p scope slots t

  place_written : (e : Expr) (u v : Ty) → typing p scope e ≡ Some (APlace u) → converts u v ≡ true → IsWritten c e
  place_written e u v is conv = ap (λ o. is_array (and_then o typed_place)) is ∙ converts_plain u v conv

  assigns_written : (e v : Expr) → Assigns p scope e v → IsWritten c e
  assigns_written e v h = place_written e h.type h.gets.type h.is_place h.gets.converts

  delivers_written : (r : Ty) (o : Option Expr) → Delivers p scope r o → IsWrittenIf c o
  delivers_written r None h = tt
  delivers_written r (Some e) h = place_written e h.0 r h.1 h.2

-- ---- names

module _ (p : Program) (names : HasNames p) (around : Mode) (scope : Scope) where
  abbrev Used : Text → Type 0
  Used x = UsedName p scope x

  delivers_names : (r : Ty) (o : Option Expr) → Delivers p scope r o → AllNamesIf Used o
  delivers_names r None h = tt
  delivers_names r (Some e) h = typed_names p names scope e (APlace h.0) h.1

  right_names : (op : Option Op) (x e : Expr) → AllNames Used (right_side op x e) → AllNames Used e
  right_names None x e h = h
  right_names (Some op) x e h = h.1

  primitive_names : (prim : Primitive) (es : Exprs) → is_for D.Cpc prim ≡ true → TakesArguments p scope prim es → AllNamesAmong Used es
  primitive_names Puts (AndExpr (EText bytes) NoExpr) c h = (tt, tt)
  primitive_names Puts _ c h = absurd h
  primitive_names RtDetach es c h = absurd (cc)
  primitive_names prim es c h = all_taken_names p names scope (takes_first prim) es h

  -- the arguments of a call
  call_names : (f : Expr) (es : Exprs) (t : Ty) → Calls D.Cpc p around scope f es t → AllNamesAmong Used es
  call_names _ _ _ (CallsHost x r ps es apart is_x gets many) = each_gets_names p names scope _ es gets
  call_names _ _ _ (CallsFunction x mode r ps g es own is_x is_g closed may gets) = all_get_names p names scope (parameter_types g) es gets
  call_names _ _ _ (CallsPrimitive x prim es is_x is_prim is_d closed may gets) = primitive_names prim es is_d gets
  call_names _ _ _ (CallsPointer f typed r ps es apart is_pointer is_t is_u gets) = all_get_names p names scope (list_of_tys ps) es gets

  -- what is called is no cps function's name
  abbrev CalleeStays : Expr → Type 0
  CalleeStays (ENamed x) = is_cps (named p scope x) ≡ false
  CalleeStays e = Unit {0}

  callee_names : (f : Expr) (es : Exprs) (t : Ty) → Calls D.Cpc p around scope f es t → CalleeStays f → AllNames Used f
  callee_names _ _ _ (CallsHost x r ps es apart is_x gets many) c = is_used p names scope x c (λ none. no_function (named p scope x) _ r ps is_x none)
  callee_names _ _ _ (CallsFunction x mode r ps g es own is_x is_g closed may gets) c = is_used p names scope x c (λ none. no_function (named p scope x) mode r ps is_x none)
  callee_names _ _ _ (CallsPrimitive x prim es is_x is_prim is_d closed may gets) c = is_used p names scope x c (λ none. primitive_unmarked x prim is_prim)
  callee_names _ _ _ (CallsPointer f typed r ps es apart is_pointer is_t is_u gets) c = typed_names p names scope f typed is_t

  -- ---- primitives

  same_name : (x y : Text) → ENamed x ≡ ENamed y → x ≡ y
  same_name x y e = cc

  -- a primitive that is called by its name is one of the dialect, and only cps functions call those that wait
  pub called_primitive : (f : Expr) (es : Exprs) (t : Ty) → Calls D.Cpc p around scope f es t → (y : Text) → f ≡ ENamed y → named p scope y ≡ NotMeant → (prim : Primitive) → primitive_named y ≡ Some prim
      → (is_for D.Cpc prim ≡ true) × (gives_up prim ≡ true → O.is_cps around ≡ true)
  called_primitive _ _ _ (CallsHost x r ps es apart is_x gets many) y e none prim i = no_function (named p scope y) Extern r ps (ap (named p scope) (sym (same_name x y e)) ∙ is_x) none
  called_primitive _ _ _ (CallsFunction x mode r ps g es own is_x is_g closed may gets) y e none prim i = no_function (named p scope y) mode r ps (ap (named p scope) (sym (same_name x y e)) ∙ is_x) none
  called_primitive _ _ _ (CallsPrimitive x q es is_x is_q is_d closed may gets) y e none prim i =
      let same : q ≡ prim = let k : Some q ≡ Some prim = sym is_q ∙ ap primitive_named (same_name x y e) ∙ i in cc in
      (subst (λ q. is_for D.Cpc q ≡ true) same is_d, subst (λ q. gives_up q ≡ true → O.is_cps around ≡ true) same may)
  called_primitive _ _ _ (CallsPointer f typed r ps es apart is_pointer is_t is_u gets) y e none prim i =
      absurd (let k : false ≡ true = sym (ap is_variable none) ∙ ap (is_pointer_call p scope) (sym e) ∙ is_pointer in cc)

  -- the name of a primitive means nothing where variables are not called so
  kept_means_none : ((y : Text) (k : ℕ) (t : Ty) → named p scope y ≡ ALocal k t → is_kept y ≡ false) → (x : Text) (prim : Primitive) → primitive_named x ≡ Some prim → UsedName p scope x → named p scope x ≡ NotMeant
  kept_means_none variables x prim e (IsVariable k t i) = absurd (let h : true ≡ false = sym (primitive_kept x prim e) ∙ variables x k t i in cc)
  kept_means_none variables x prim e (IsItem i s) = i ∙ names.primitives x prim e

  -- ---- statements

  module _ (variables : (y : Text) (k : ℕ) (t : Ty) → named p scope y ≡ ALocal k t → is_kept y ≡ false) (slots : List Slot) (t : Store) where
    in_place : (f : Expr) → CalleeStays f → ((x : Text) → f ≡ ENamed x → ¬ (primitive_named x ≡ Some RtDetach)) → IsCalledInPlace (in_scope p scope slots t) f
    in_place (ENamed x) c h = (c, h x refl)
    in_place _ c h = tt

    call_in_place : (f : Expr) (es : Exprs) (u : Ty) → Calls D.Cpc p around scope f es u → CalleeStays f → IsCalledInPlace (in_scope p scope slots t) f
    call_in_place f es u h c =
        in_place f c (λ x e i.
        let used : UsedName p scope x = subst (AllNames Used) e (callee_names f es u h c) in
        let k = called_primitive f es u h x e (kept_means_none variables x RtDetach i used) RtDetach i in
        let z : false ≡ true = k.0 in
        cc)

module _ (p : Program) (names : HasNames p) (f : Function) (scope : Scope) where
  abbrev Names : Text → Type 0
  Names x = UsedName p scope x

  beside : (s : Stmt) → IsTyped D.Cpc p f scope s → AllNamesBeside Names s
  beside (Declare x t (Some e)) h = (typed_names p names scope (ENamed x) (APlace h.type) h.is_place, gets_names p names scope h.type e h.gets)
  beside (Assign x op e) h =
      (typed_names p names scope x (APlace h.type) h.is_place, right_names p names f.mode scope op x e (gets_names p names scope h.type (right_side op x e) h.gets))
  beside (Call to (ENamed x) es) h = (delivers_names p names f.mode scope h.0 to h.2, call_names p names f.mode scope (ENamed x) es h.0 h.1)
  beside (Call to g es) h = (delivers_names p names f.mode scope h.0 to h.2, callee_names p names f.mode scope g es h.0 h.1 tt, call_names p names f.mode scope g es h.0 h.1)
  beside (Detach to g es) h = (delivers_names p names f.mode scope (TyInt Int) to h.2, all_taken_names p names scope (section_takes (parameter_types h.1.function)) es h.1.arguments)
  beside (Spawn g es) h = all_get_names p names scope (parameter_types h.1.0) es h.1.2
  beside (Return (Some e)) h = gets_names p names scope f.result e h
  beside _ h = tt

  all_names : (s : Stmt) → IsTyped D.Cpc p f scope s → StaysItself p scope s → AllNamesOf Names s
  all_names (Call to (ENamed x) es) h c =
      (delivers_names p names f.mode scope h.0 to h.2, callee_names p names f.mode scope (ENamed x) es h.0 h.1 c, call_names p names f.mode scope (ENamed x) es h.0 h.1)
  all_names (Call to g es) h c = beside (Call to g es) h
  all_names (Detach to g es) h c = absurd (cc)
  all_names (Spawn g es) h c = absurd (cc)
  all_names (Declare x t o) h c = beside (Declare x t o) h
  all_names (Assign x op e) h c = beside (Assign x op e) h
  all_names (Return o) h c = beside (Return o) h
  all_names _ h c = tt

  written : (slots : List Slot) (t : Store) (s : Stmt) → IsTyped D.Cpc p f scope s → IsWrittenBy (in_scope p scope slots t) s
  written slots t (Declare x u (Some e)) h = assigns_written p scope slots t (ENamed x) e h
  written slots t (Assign x op e) h = assigns_written p scope slots t x (right_side op x e) h
  written slots t (Call to g es) h = delivers_written p scope slots t h.0 to h.2
  written slots t (Detach to g es) h = delivers_written p scope slots t (TyInt Int) to h.2
  written slots t _ h = tt

  module _ (variables : (y : Text) (k : ℕ) (t : Ty) → named p scope y ≡ ALocal k t → is_kept y ≡ false) where
    native : (slots : List Slot) (t : Store) (s : Stmt) → IsTyped D.Cpc p f scope s → StaysItself p scope s → IsNative (in_scope p scope slots t) s
    native slots t (Declare x u (Some e)) h c = written slots t (Declare x u (Some e)) h
    native slots t (Assign x op e) h c = written slots t (Assign x op e) h
    native slots t (Call to (ENamed x) es) h c = call_in_place p names f.mode scope variables slots t (ENamed x) es h.0 h.1 c
    native slots t (Call to g es) h c = call_in_place p names f.mode scope variables slots t g es h.0 h.1 tt
    native slots t (Detach to g es) h c = absurd (cc)
    native slots t (Spawn g es) h c = absurd (cc)
    native slots t _ h c = tt

    pub statement_known : (s : Stmt) → IsTyped D.Cpc p f scope s → StatementKnown p scope s
    statement_known s h = record { beside = beside s h; names = all_names s h; native = λ slots t. native slots t s h; written = λ slots t. written slots t s h }

    pub found_known : (s : Found) → FoundTyped D.Cpc p f scope s → FoundKnown p scope s
    found_known (Simple s) h = statement_known s h
    found_known (Test None) h = tt
    found_known (Test (Some t)) h = test_names p names scope t h
    found_known Nothing h = tt
