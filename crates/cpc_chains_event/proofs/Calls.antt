-- The boxes that a piece gives back, and the arguments that it puts into the first frame of a call.
use Rattle.std.proofs.Common.{◌≡◌, ℕ, zero, suc, ◌+◌, ◌<◌, Bool, true, false, cond, List, [], ◌∷◌, ◌++◌, map, length, slice_get, Some, refl, sym, ◌∙◌, ap, subst, arith}
use Rattle.std.proofs.lemmas.Option.{slice_get_within}
use Rattle.cpc_base.specs.Bytes.{Text}
use Rattle.cpc_base.proofs.Truth.{false_unless_true}
use Rattle.cpc_num.specs.declared.kinds.Fault.{Fault}
use Rattle.cpc_tree.specs.Lists.{holds_number}
use Rattle.cpc_tree.specs.Syntax.{Ty, Exprs, NoExpr, AndExpr, Variable, Parameter, Function, Program}
use Rattle.cpc_tree.specs.Points.{locals}
use Rattle.cpc_tree.specs.Registers.{variables, as_variable}
use Rattle.cpc_tree.specs.Typing.{Scope, parameter_type, field}
use Rattle.cpc_store.specs.Store.{Value, Store}
use Rattle.cpc_meaning.specs.Eval.{Slot, Register, Boxed}
use Rattle.cpc_convert_image_laws.specs.Images.{Readings, image, images}
use Rattle.cpc_forms.specs.Flow.{Start}
use Rattle.cpc_lift_laws.specs.Boxes.{is_box}
use Rattle.cpc_lift_laws.specs.Lift.{boxes_from}
use Rattle.cpc_lift_laws.proofs.Lift.{boxes_exact}
use Rattle.cpc_convert_flat_laws.specs.Boxes.{Unboxing, NoUnboxing, PassSlot, AndUnbox}
use Rattle.cpc_chains_store_laws.specs.Frames.{Giving, NoGiving, AndGiving, GivingFaults, FirstFaults, LaterFaults}
use Rattle.cpc_convert_routines.specs.Names.{piece_name, variable_name}
use Rattle.cpc_convert_routines.specs.Routines.{Routine, routine_of, local_of}
use Rattle.cpc_chains_event.specs.Lines.{gives_from}
use Rattle.cpc_chains_event.specs.Converted.{converted}
use Rattle.cpc_convert_routines.specs.Named.{IsNamed, IsCps}
use Rattle.cpc_convert_routines.specs.Given.{ParametersAreScalar}
use Rattle.cpc_chains_event.specs.CallLaws.{BoxesStand, BoxesAreReturned, AllArgumentsAreGiven}
use Rattle.cpc_convert_routines.specs.Given.{GivesAll, NoneGiven, OneGiven, OneFaults, ThisFaults, NextFaults}
use Rattle.cpc_chains_event.proofs.StructsThere.{start_there}
use Rattle.cpc_chains_event.proofs.Locals.{counted}
use Rattle.cpc_chains_event.proofs.Filling.{passed_at}

-- ---- boxes

module _ (p : Program) (ok : IsNamed p) (f : Function) (c : IsCps p f) (q : Program) (scope : Scope) (slots : List Slot) where
  abbrev r : Routine
  r = routine_of p f

  abbrev called : List ℕ → List Text
  called ks = map (λ k. (local_of r k).called) ks

  -- whether a variable is a box
  boxed_is : (k : ℕ) (b : Bool) → holds_number r.boxes k ≡ b → is_box p f.called k ≡ b
  boxed_is k true h = (boxes_exact p f.called k).0 h
  boxed_is k false h = false_unless_true (is_box p f.called k) (λ i. let z : true ≡ false = sym ((boxes_exact p f.called k).1 i) ∙ h in absurd (cc))

  unboxing_from : (k : ℕ) (xs : List Slot) → BoxesStand q scope slots r k xs → Unboxing q scope slots xs (called (boxes_from p f.called k (length xs)))
  unboxing_from k [] h = NoUnboxing
  unboxing_from k (Register v ∷ xs) h =
      subst (λ b. Unboxing q scope slots (Register v ∷ xs) (called (cond b (k ∷ boxes_from p f.called (suc k) (length xs)) (boxes_from p f.called (suc k) (length xs))))) (sym (boxed_is k false h.0))
      (PassSlot v xs _ (unboxing_from (suc k) xs h.1))
  unboxing_from k (Boxed b ∷ xs) h =
      subst (λ d. Unboxing q scope slots (Boxed b ∷ xs) (called (cond d (k ∷ boxes_from p f.called (suc k) (length xs)) (boxes_from p f.called (suc k) (length xs))))) (sym (boxed_is k true h.0))
      (AndUnbox b xs (local_of r k).called (local_of r k).type _ h.1 (unboxing_from (suc k) xs h.2))

pub boxes_returned : BoxesAreReturned
boxes_returned p f ok c q scope slots xs len h =
    subst (λ n. Unboxing q scope slots xs (map (λ k. (local_of (routine_of p f) k).called) (boxes_from p f.called 0 n))) (len ∙ sym (counted p ok f c))
    (unboxing_from p ok f c q scope slots 0 xs h)

-- ---- arguments

module _ (p : Program) (ok : IsNamed p) (g : Function) (c : IsCps p g) (sc : ParametersAreScalar g) (scope : Scope) (slots : List Slot) (s : Store) (names : Readings) where
  abbrev tag : Text
  tag = piece_name g.called Start

  abbrev types : List Parameter → List Ty
  types ps = map parameter_type ps

  -- these are the parameters from the k-th on
  abbrev AreFrom : ℕ → List Parameter → Type 0
  AreFrom k ps = (i : ℕ) (x : Parameter) → slice_get ps i ≡ Some x → (k + i < length g.parameters) × (slice_get (variables g) (k + i) ≡ Some (as_variable x))

  from_later : (k : ℕ) (x : Parameter) (ps : List Parameter) → AreFrom k (x ∷ ps) → AreFrom (suc k) ps
  from_later k x ps h i y e =
      let d = h (suc i) y e in
      let same : k + suc i ≡ suc k + i = omega arith in
      (subst (λ n. n < length g.parameters) same d.0, ap (slice_get (variables g)) (sym same) ∙ d.1)

  -- the field of the k-th
  field_of : (k : ℕ) (x : Parameter) (ps : List Parameter) → AreFrom k (x ∷ ps) → field (converted p) tag (variable_name k (as_variable x).called) ≡ Some (3 + k, x.type)
  field_of k x ps h =
      let d = h 0 x refl in
      let same : k + 0 ≡ k = omega arith in
      let less : k < length g.parameters = subst (λ n. n < length g.parameters) same d.0 in
      let there = ap (slice_get (variables g)) (sym same) ∙ d.1 in
      let at_k = passed_at p ok g c 0 (length g.parameters) (variables g) sc k (as_variable x) less there ∙ ap (λ m. Some (record { called = variable_name m (as_variable x).called; type = x.type })) (let z : 0 + k ≡ k = omega arith in z) in
      (start_there p ok g c).field (suc (suc (suc k))) (record { called = variable_name k (as_variable x).called; type = x.type }) at_k ∙ ap (λ n. Some (n, x.type)) (let z : suc (suc (suc k)) ≡ 3 + k = omega arith in z)

  giving_from : (k j : ℕ) (ps : List Parameter) (more : List Variable) (es : Exprs) (vs : List Value) → j ≡ 3 + k → AreFrom k ps → GivesAll (converted p) scope slots s (types ps) (images names es) vs
      → Giving (converted p) scope slots tag s j (gives_from k (map as_variable ps ++ more) names es) vs
  giving_from k j [] more NoExpr _ is h NoneGiven = subst (λ gs. Giving (converted p) scope slots tag s j gs []) (none more) (NoGiving j)
    where
      none : (more : List Variable) → [] ≡ gives_from k more names NoExpr
      none [] = refl
      none (x ∷ more) = refl
  giving_from k j (x ∷ ps) more (AndExpr e es) _ is h (OneGiven t u v ts _ _ vs is_value fits others) =
      AndGiving j (record { field = variable_name k (as_variable x).called; expression = image names e }) x.type u v _ vs (field_of k x ps h ∙ ap (λ n. Some (n, x.type)) (sym is)) is_value fits
      (giving_from (suc k) (suc j) ps more es vs (let z : suc j ≡ 3 + suc k = omega (arith, is) in z) (from_later k x ps h) others)
  giving_from k j [] more (AndExpr e es) vs is h others = elim others [ ]
  giving_from k j (x ∷ ps) more NoExpr vs is h others = elim others [ ]

  faults_from : (fault : Fault) (k j : ℕ) (ps : List Parameter) (more : List Variable) (es : Exprs) → j ≡ 3 + k → AreFrom k ps → OneFaults (converted p) scope slots s fault (types ps) (images names es)
      → GivingFaults (converted p) scope slots tag s fault j (gives_from k (map as_variable ps ++ more) names es)
  faults_from fault k j (x ∷ ps) more (AndExpr e es) is h (ThisFaults t ts _ _ is_fault) = FirstFaults j (record { field = variable_name k (as_variable x).called; expression = image names e }) _ is_fault
  faults_from fault k j (x ∷ ps) more (AndExpr e es) is h (NextFaults t u v ts _ _ is_value fits others) =
      LaterFaults j (record { field = variable_name k (as_variable x).called; expression = image names e }) x.type u v _ (field_of k x ps h ∙ ap (λ n. Some (n, x.type)) (sym is)) is_value fits
      (faults_from fault (suc k) (suc j) ps more es (let z : suc j ≡ 3 + suc k = omega (arith, is) in z) (from_later k x ps h) others)
  faults_from fault k j [] more NoExpr is h others = elim others [ ]
  faults_from fault k j [] more (AndExpr e es) is h others = elim others [ ]
  faults_from fault k j (x ∷ ps) more NoExpr is h others = elim others [ ]

  -- the parameters of the function
  all_from : AreFrom 0 g.parameters
  all_from i x e =
      let same : 0 + i ≡ i = omega arith in
      (subst (λ n. n < length g.parameters) (sym same) (slice_get_within g.parameters i x e), ap (slice_get (variables g)) same ∙ in_front g.parameters i e)
    where
      in_front : (ps : List Parameter) (i : ℕ) → slice_get ps i ≡ Some x → slice_get (map as_variable ps ++ locals g.body) i ≡ Some (as_variable x)
      in_front [] i e = absurd (cc)
      in_front (y ∷ ps) zero e = let z : y ≡ x = cc in ap (λ w. Some (as_variable w)) z
      in_front (y ∷ ps) (suc i) e = in_front ps i e

pub arguments_given : AllArgumentsAreGiven
arguments_given p ok g c sc = record {
  given = λ scope slots s names es vs h. giving_from p ok g c sc scope slots s names 0 3 g.parameters (locals g.body) es vs refl (all_from p ok g c sc scope slots s names) h;
  faults = λ scope slots s names es fault h. faults_from p ok g c sc scope slots s names fault 0 3 g.parameters (locals g.body) es refl (all_from p ok g c sc scope slots s names) h;
}
