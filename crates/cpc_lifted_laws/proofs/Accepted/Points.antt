-- What stands at the positions of an accepted program.
use Rattle.std.proofs.Common.{◌≡◌, ◌⊎◌, inl, inr, Bool, true, false, List, [], Some, refl, sym, ◌∙◌, ap, subst}
use Rattle.cpc_base.specs.Bytes.{Text}
use Rattle.cpc_base.specs.declared.stop.Dialect.TheVariants as D
use Rattle.cpc_tree.specs.Located.{bare}
use Rattle.cpc_tree.specs.declared.program.Mode.{Mode}
use Rattle.cpc_tree.specs.declared.program.Mode.TheVariants.{Extern, Native, Cps, Detached}
use Rattle.cpc_tree.specs.Points.{Path, Point, Here, Arrival, End, Found, Simple, Nothing, found}
use Rattle.cpc_tree.specs.Registers.{scope_in_function}
use Rattle.cpc_tree.specs.Syntax.{Ty, Expr, ENamed, Exprs, Stmt, Call, Detach, Spawn, Function, Program}
use Rattle.cpc_tree.specs.Typing.{Scope, Meant, ALocal, AGlobal, AFunction, NotMeant, named, function_named}
use Rattle.cpc_meaning.specs.Act.{Stood, AtStatement, AtArrival}
use Rattle.cpc_meaning.specs.Trees.{stood_at, scope_from}
use Rattle.cpc_check_rules.specs.Operators as O
use Rattle.cpc_check_laws.specs.Sound.Typed.{is_variable, is_pointer_call, Calls, CallsHost, CallsFunction, CallsPrimitive, CallsPointer, IsTyped, FoundTyped, TypedProgram}
use Rattle.cpc_check_laws.proofs.Sound.Accepted.{accepted_is_typed, accepted_facts}
use Rattle.cpc_check_laws.proofs.Sound.Agreement.{Facts, item_of}
use Rattle.cpc_check_laws.proofs.Sound.Paths.{function_typed}
use Rattle.cpc_check_laws.proofs.Kept.Modes.{same_name}
use Rattle.cpc_check_laws.proofs.Kept.Trees.{statement_is}
use Rattle.cpc_forms.specs.Split.{Position, split_form}
use Rattle.cpc_convert_image_laws.specs.InPlace.{is_cps}
use Rattle.cpc_lifted_laws.specs.Accepted.Names.{HasNames}
use Rattle.cpc_lifted_laws.specs.Accepted.Points.{FoundKnown, IsSpawn, StaysItself, PositionsKnown, AcceptedPositionsKnown}
use Rattle.cpc_lifted_laws.proofs.Accepted.Asks.{act_so, step_asks}
use Rattle.cpc_lifted_laws.proofs.Accepted.Names.{accepted_has_names}
use Rattle.cpc_lifted_laws.proofs.Accepted.Scoped.{means_variable}
use Rattle.cpc_lifted_laws.proofs.Accepted.Statements.{found_known}
use Rattle.cpc_lifted_laws.proofs.Accepted.Steady.{stood_like}

arrival_same : (x y : Found) → AtArrival x ≡ AtArrival y → x ≡ y
arrival_same x y e = cc

module _ (p : Program) (names : HasNames p) (typed : TypedProgram D.Cpc p) (facts : Facts p) where
  -- ---- what stands there

  abbrev IsGood : Function → Scope → Found → Type 0
  IsGood f scope s = FoundTyped D.Cpc p f scope s × FoundKnown p scope s

  -- what stands there is typed and known, as a statement or where its value arrives
  record Good (f : Function) (scope : Scope) (stood : Stood) : Type 0 where
    statement : (s : Found) → stood ≡ AtStatement s → IsGood f scope s
    arrival : (s : Found) → stood ≡ AtArrival s → IsGood f scope s

  module _ (x : Text) (f : Function) (is : function_named p x ≡ Some f) where
    path_good : (path : Path) → IsGood f (scope_in_function f path) (found f.body path)
    path_good path =
        let h = function_typed D.Cpc p f path (typed.functions x f is).body in
        let has = names.there x f is in
        (h, found_known p names f (scope_in_function f path) (λ y k t e. ((names.functions f has.0).plain k _ (means_variable p f path y k t e)).unkept) (found f.body path) h)

    point_good : (point : Point) → Good f (scope_from (Some f) point) (stood_at (Some f) point)
    point_good (Here path) = record {
      statement = λ s e. subst (IsGood f (scope_in_function f path)) (statement_is _ s e) (path_good path);
      arrival = λ s e. absurd (cc);
    }
    point_good (Arrival path) = record {
      statement = λ s e. absurd (cc);
      arrival = λ s e. subst (IsGood f (scope_in_function f path)) (arrival_same _ s e) (path_good path);
    }
    point_good End = record { statement = λ s e. absurd (cc); arrival = λ s e. absurd (cc) }

    nothing_good : Good f [] (AtStatement Nothing)
    nothing_good = record { statement = λ s e. subst (IsGood f []) (statement_is Nothing s e) (tt, tt); arrival = λ s e. absurd (cc) }

    good : (a : Position) → Good f ((split_form p).code.scope x a) ((split_form p).code.stood x a)
    good = stood_like p x (λ stood scope. Good f scope stood) nothing_good (λ point. subst (λ o. Good f (scope_from o point) (stood_at o point)) (sym is) (point_good point))

  -- ---- native code

  module _ (f : Function) (native : O.is_cps f.mode ≡ false) (scope : Scope) where
    mode_native : (m : Mode) (r : Ty) (ps : List Ty) → O.is_cps m ≡ false → is_cps (AFunction m r ps) ≡ false
    mode_native Extern r ps e = refl
    mode_native Native r ps e = refl
    mode_native Detached r ps e = refl
    mode_native Cps r ps e = absurd (cc)

    variable_native : (m : Meant) → is_variable m ≡ true → is_cps m ≡ false
    variable_native (ALocal k t) e = refl
    variable_native (AGlobal k t) e = refl
    variable_native (AFunction mode r ps) e = absurd (cc)
    variable_native NotMeant e = refl

    not_cps : (g : Function) → (O.is_cps g.mode ≡ true → O.is_cps f.mode ≡ true) → O.is_cps g.mode ≡ false
    not_cps g may = go (O.is_cps g.mode) refl
      where
        go : (b : Bool) → O.is_cps g.mode ≡ b → b ≡ false
        go true e = let i : true ≡ false = sym (may e) ∙ native in cc
        go false e = refl

    called_native : (e : Expr) (es : Exprs) (t : Ty) → Calls D.Cpc p f.mode scope e es t → (y : Text) → e ≡ ENamed y → is_cps (named p scope y) ≡ false
    called_native _ _ _ (CallsHost x r ps es apart is_x gets many) y e = ap (λ z. is_cps (named p scope z)) (sym (same_name x y e)) ∙ ap is_cps is_x
    called_native _ _ _ (CallsFunction x mode r ps g es own is_x is_g closed may gets) y e =
        let there = facts.function x mode r ps (item_of p scope x mode r ps is_x) own in
        let same : there.0 ≡ g = let i : Some there.0 ≡ Some g = sym there.1 ∙ is_g in cc in
        ap (λ z. is_cps (named p scope z)) (sym (same_name x y e)) ∙ ap is_cps is_x ∙ mode_native mode r ps (ap O.is_cps (sym there.2) ∙ ap (λ (k : Function). O.is_cps k.mode) same ∙ not_cps g may)
    called_native _ _ _ (CallsPrimitive x q es is_x is_q is_d closed may gets) y e = ap (λ z. is_cps (named p scope z)) (sym (same_name x y e)) ∙ ap is_cps is_x
    called_native _ _ _ (CallsPointer g typed r ps es apart is_pointer is_t is_u gets) y e = variable_native (named p scope y) (ap (is_pointer_call p scope) (sym e) ∙ is_pointer)

    stays : (s : Stmt) → IsTyped D.Cpc p f scope s → IsSpawn s ⊎ StaysItself p scope s
    stays (Spawn g es) h = inl (g, es, refl)
    stays (Detach to g es) h = absurd (let i : true ≡ false = sym h.3 ∙ native in cc)
    stays (Call to (ENamed x) es) h = inr (called_native (ENamed x) es h.0 h.1 x refl)
    stays _ h = inr tt

  -- ---- all of it

  pub positions_known : PositionsKnown p
  positions_known = record {
    typed = λ x f a s is e. ((good x f is a).statement s e).0;
    arrived = λ x f a s is e. ((good x f is a).arrival s e).0;
    known = λ x f a s is e. ((good x f is a).statement s e).1;
    arriving = λ x f a s is e. ((good x f is a).arrival s e).1;
    native = λ x f a s is cps e. stays f cps ((split_form p).code.scope x a) s ((good x f is a).statement (Simple s) e).0;
    asks = λ frame f s o below r is cps e.
        act_so p names f cps ((split_form p).code.scope frame.function frame.point) frame.slots s o ((split_form p).code.stood frame.function frame.point)
        (λ found i. ((good frame.function f is frame.point).statement found i).0) r (step_asks (split_form p) s frame below r o f is e);
  }

pub accepted_positions_known : AcceptedPositionsKnown
accepted_positions_known list end p read unbroken =
    positions_known (bare p) (accepted_has_names list end p read unbroken) (accepted_is_typed D.Cpc list end p read unbroken) (accepted_facts D.Cpc list end p read unbroken)
