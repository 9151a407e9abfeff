-- What is known of each state of a lifted run of an accepted program says what is asked of frames that leaders take up, but for the value that
-- arrives, and of calls that are to begin.
use Rattle.std.proofs.Common.{◌≡◌, ℕ, suc, Bool, true, false, List, [], ◌∷◌, ◌++◌, map, length, slice_get, Option, Some, option_map, sym, ◌∙◌, ap, subst, arith, refl}
use Rattle.cpc_base.specs.Bytes.{Text}
use Rattle.cpc_base.proofs.Lists.{found_within}
use Rattle.cpc_tree.specs.Lists.{holds_number}
use Rattle.cpc_tree.specs.Points.{locals}
use Rattle.cpc_tree.specs.Registers.{variables, is_register, as_variable}
use Rattle.cpc_tree.specs.Syntax.{Variable, Parameter, Function, Program}
use Rattle.cpc_tree.specs.Typing.{function_named, parameter_type, parameter_types}
use Rattle.cpc_store.specs.Store.{Value}
use Rattle.cpc_meaning.specs.Eval.{Slot}
use Rattle.cpc_meaning.specs.Threads.{is_cps_mode}
use Rattle.cpc_check_laws.specs.Kept.Fits.{FitAll}
use Rattle.cpc_forms.specs.Flow.{Start, At}
use Rattle.cpc_forms.specs.Graph.{graph_if, graph_where}
use Rattle.cpc_forms.specs.Split.{InGraph, split_of}
use Rattle.cpc_convert_image_laws.specs.Stacks.{frame_of}
use Rattle.cpc_meaning.specs.Eval.{Fits}
use Rattle.cpc_chains_event.specs.BoxingLaws.{VariablesHaveSizes}
use Rattle.cpc_convert_routines.specs.ClosureLaws.{may_stand, lifting}
use Rattle.cpc_convert_routines.specs.Given.{AllFit, NoneFit, OneFits}
use Rattle.cpc_convert_routines.specs.Arriving.{arriving_type}
use Rattle.cpc_convert_routines.specs.Named.{IsCps, TheStart}
use Rattle.cpc_convert_routines.specs.Names.{variable_name}
use Rattle.cpc_convert_routines.specs.Taken.{takes_value}
use Rattle.cpc_convert_routines.specs.Routines.{routine_of, closure_of, is_plain, variable_of, variable_or, variable_if, passed_from}
use Rattle.cpc_convert_routines.specs.Nodes.{is_own}
use Rattle.cpc_lifted_laws.specs.Accepted.Known.{KeptSlot, IsRegister, IsBox, FineFrame, AreScalar}
use Rattle.cpc_lifted_laws.specs.Accepted.Lifted.{kept_of}
use Rattle.cpc_lifted_laws.specs.Accepted.Names.{HasNames}
use Rattle.cpc_lifted_laws.specs.Accepted.Pieces.{VariablesHaveCells, SuitsPieces}
use Rattle.cpc_lifted_laws.specs.Piece.Known.{CpsKnown}
use Rattle.cpc_chains_laws.proofs.Piece.Frames.{kept_small}
use Rattle.cpc_chains_laws.proofs.Piece.Tidied.{closure_kept}
use Rattle.cpc_chains_laws.specs.Entry.Taken.{KeptIn, IsValue, IsBlock, LeaderTaken, CallTaken}
use Rattle.cpc_lifted_laws.proofs.Entry.Marks.{plain_is}

-- variables that have cells have sizes that can be told
pub sizes_known : (p : Program) (f : Function) → VariablesHaveCells p f → VariablesHaveSizes p f
sizes_known p f cells k x e = let c = cells k x e in let most = c.3 in (c.0, c.1, omega (arith, most))

-- ---- calls

passed_fit : (ps : List Parameter) (ys : List Variable) (vs : List Value) (k : ℕ) → FitAll (map parameter_type ps) vs → AreScalar (map parameter_type ps) → AllFit (passed_from k (length ps) (map as_variable ps ++ ys)) vs
passed_fit [] ys [] k h s = NoneFit
passed_fit [] ys (v ∷ vs) k h s = absurd h
passed_fit (q ∷ ps) ys [] k h s = absurd h
passed_fit (q ∷ ps) ys (v ∷ vs) k h s =
    subst (λ b. AllFit (variable_if b (record { called = variable_name k (as_variable q).called; type = (as_variable q).type }) (passed_from (suc k) (length ps) (map as_variable ps ++ ys))) (v ∷ vs)) (sym s.0) (OneFits (record { called = variable_name k (as_variable q).called; type = (as_variable q).type }) v _ vs h.0 (passed_fit ps ys vs (suc k) h.1 s.1))

-- the arguments of a call of a cps function, where they fit its parameters, which are scalar
pub call_taken : (p : Program) → HasNames p → (x : Text) (f : Function) (vs : List Value) → function_named p x ≡ Some f → is_cps_mode f.mode ≡ true → SuitsPieces p f → FitAll (parameter_types f) vs → AreScalar (parameter_types f)
    → CallTaken p f vs × (f.called ≡ x)
call_taken p names x f vs named mode suits fit scalar =
    let there = names.there x f named in
    (record { cps = record { has = there.0; mode = mode }; scalar = suits.parameters scalar; fit = passed_fit f.parameters (locals f.body) vs 0 fit scalar }, there.1)

-- ---- frames

kept_in : (C : Text → Type 0) (f : Function) (slots : List Slot) (k : ℕ) (x : Variable) (slot : Slot) → slice_get slots k ≡ Some slot → KeptSlot C f k x slot → KeptIn slots x.type k (is_register f k x)
kept_in C f slots k x _ e (IsRegister v wanted is scalar fits suits held) = subst (KeptIn slots x.type k) (sym is) (IsValue v e fits)
kept_in C f slots k x _ e (IsBox n is) = subst (KeptIn slots x.type k) (sym is) (IsBlock n e)

module _ (p : Program) (names : HasNames p) (known : (f : Function) → IsCps p f → CpsKnown p f) where
  -- a node is in the graph of a cps function
  graph_cps : (x : Text) (f : Function) (n : ℕ) → function_named p x ≡ Some f → (lifting p).there x (InGraph (At n) n) ≡ true → IsCps p f × (is_own (routine_of p f).split (At n) n ≡ true)
  graph_cps x f n named there = go (is_cps_mode f.mode) refl
    where
      stands : (b : Bool) → is_cps_mode f.mode ≡ b → may_stand (option_map split_of (graph_if b p f)) (InGraph (At n) n) ≡ true
      stands b e = sym (ap (λ o. may_stand (option_map split_of o) (InGraph (At n) n)) (ap (graph_where p) named ∙ ap (λ c. graph_if c p f) e)) ∙ there

      go : (b : Bool) → is_cps_mode f.mode ≡ b → IsCps p f × (is_own (routine_of p f).split (At n) n ≡ true)
      go true e = (record { has = (names.there x f named).0; mode = e }, stands true e)
      go false e = absurd (let z : false ≡ true = stands false e in cc)

  -- a value that arrives where it is put somewhere is one of the type that arrives there
  abbrev pub ArrivesFit : Text → ℕ → Option Value → Type 0
  ArrivesFit x n o = (f : Function) → IsCps p f → f.called ≡ x → (v : Value) → o ≡ Some v → takes_value (routine_of p f) (At n) ≡ true → Fits (arriving_type p (routine_of p f) (At n)) v

  module _ (C : Text → Type 0) (x : Text) (n : ℕ) (slots : List Slot) (o : Option Value) (fine : FineFrame p C (frame_of x (InGraph (At n) n) slots)) where
    abbrev f : Function
    f = fine.function

    called : f.called ≡ x
    called = (names.there x f fine.named).1

    variables_kept : (cps : IsCps p f) → (k : ℕ) → holds_number (closure_of (routine_of p f) (At n)) k ≡ true → KeptIn slots (variable_of (routine_of p f) k).type k (is_plain (routine_of p f) k)
    variables_kept cps k h =
        let its = known f cps in
        let y = found_within (variables f) k (kept_small p f its Start TheStart (At n) k h) in
        let keeps = subst (λ z. kept_of p z (InGraph (At n) n) k ≡ true) called (closure_kept p its.names f cps (At n) refl n k h) in
        let slot = fine.kept k y.0 y.1 keeps in
        subst (λ (z : Variable). KeptIn slots z.type k (is_plain (routine_of p f) k)) (sym (ap variable_or y.1)) (subst (KeptIn slots y.0.type k) (sym (plain_is p f its k y.0 y.1)) (kept_in C f slots k y.0 slot.0 slot.1 slot.2))

    pub fine_taken : ArrivesFit x n o → LeaderTaken p x n slots o
    fine_taken arrives =
        let node = graph_cps x f n fine.named fine.there in
        record { function = f; called = called; taken = record { cps = node.0; there = node.1; kept = variables_kept node.0; arrives = arrives f node.0 called } }
