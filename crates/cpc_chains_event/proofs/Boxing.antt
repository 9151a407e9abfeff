-- The boxes of a call, as the start of an event program makes them.
use Rattle.std.proofs.Common.{◌≡◌, ℕ, zero, suc, ◌+◌, ◌<◌, ◌≤◌, Bool, true, false, not, ◌&&◌, ◌||◌, ◌==◌, cond, List, [], ◌∷◌, ◌++◌, length, slice_get, pos, Option, Some, None, refl, sym, ◌∙◌, ap, subst, arith}
use Rattle.cpc_base.specs.Bytes.{Text}
use Rattle.cpc_base.proofs.Truth.{eq_means, lt_holds, lt_fails, not_holds, not_fails}
use Rattle.cpc_num.specs.declared.kinds.Kind.TheVariants.{ULong}
use Rattle.cpc_tree.specs.Lists.{holds_number, rest_of}
use Rattle.cpc_tree.specs.Syntax.{TyPointer, TyStruct, ESizeOf, Stmt, Variable, Function, Program}
use Rattle.cpc_tree.specs.Registers.{variables, is_register}
use Rattle.cpc_tree.specs.Typing.{Scope, ALocal, named, is_scalar, size, field}
use Rattle.cpc_store.specs.Store.{Value, Whole, Store}
use Rattle.cpc_meaning.specs.Answer.{Gives}
use Rattle.cpc_meaning.specs.Eval.{Slot, value}
use Rattle.cpc_meaning.proofs.Functions.{scalar_size}
use Rattle.cpc_convert_common.specs.Members.{Has, OnTop, Below}
use Rattle.cpc_forms.specs.Flow.{Start}
use Rattle.cpc_lift_laws.specs.Boxes.{is_box, is_box_in, has_block}
use Rattle.cpc_lift_laws.specs.Lift.{boxes_from}
use Rattle.cpc_lift_laws.proofs.Lift.{boxes_exact}
use Rattle.cpc_convert_image_laws.specs.Locals.{local_type}
use Rattle.cpc_convert_image_laws.specs.Relations.{Less, AsIs, Untold}
use Rattle.cpc_convert_flat_laws.specs.Boxes.{boxes_one, Boxing, NoBoxing, PassRegister, BoxLocal, BoxParameter}
use Rattle.cpc_chains_store_laws.specs.Chains.{frame_cells}
use Rattle.cpc_meaning.specs.Eval.{Fits}
use Rattle.cpc_convert_flat_laws.specs.Locals.{at}
use Rattle.cpc_convert_routines.specs.Names.{piece_name, frame_name, variable_name, box_tag}
use Rattle.cpc_convert_routines.specs.Routines.{Routine, routine_of, is_plain, variable_of, variable_or, local_of, passed_from, passed, variable_if, is_parameter}
use Rattle.cpc_chains_event.specs.Pieces.{box_lines, fills_if, boxing_lines, boxing_of}
use Rattle.cpc_chains_event.specs.Converted.{converted}
use Rattle.cpc_chains_event.specs.FlatLaws.{piece_scope, piece_count}
use Rattle.cpc_convert_routines.specs.Named.{IsNamed, IsCps}
use Rattle.cpc_chains_event.specs.LocalLaws.{piece_locals}
use Rattle.cpc_chains_event.specs.StructLaws.{IsBox}
use Rattle.cpc_convert_routines.specs.Given.{AllFit, NoneFit, OneFits, ParametersAreScalar}
use Rattle.cpc_chains_event.specs.BoxingLaws.{VariablesHaveSizes, ArePlaces, AllStartsBox}
use Rattle.cpc_chains_event.proofs.BoxesThere.{box_there}
use Rattle.cpc_chains_event.proofs.StructsThere.{start_there}
use Rattle.cpc_chains_event.proofs.Locals.{meant, box_stands, locals_count, counted}
use Rattle.cpc_chains_event.proofs.Filling.{passed_at}

-- a number that is held stands in the list
pub held_has : (ks : List ℕ) (k : ℕ) → holds_number ks k ≡ true → Has k ks
held_has [] k h = absurd (cc)
held_has (j ∷ ks) k h = go (j == k) refl h (λ i. held_has ks k i)
  where
    go : (b : Bool) → (j == k) ≡ b → (b || holds_number ks k) ≡ true → (holds_number ks k ≡ true → Has k ks) → Has k (j ∷ ks)
    go true e i deeper = subst (λ m. Has m (j ∷ ks)) (eq_means j k e) (OnTop j ks)
    go false e i deeper = Below k j ks (deeper i)

-- the size of a type that is complete
pub size_known : {A : Type 0} (a b : Option A) (x : A) → Less a b → a ≡ Some x → b ≡ Some x
size_known _ _ x (AsIs o) e = e
size_known _ _ x (Untold o) e = absurd (cc)

module _ (p : Program) (ok : IsNamed p) (f : Function) (c : IsCps p f) (sc : ParametersAreScalar f) (sizes : VariablesHaveSizes p f) (next v : Value) (args : List Value) (all : AllFit (passed f) args) where
  abbrev r : Routine
  r = routine_of p f

  abbrev q : Program
  q = converted p

  abbrev scope : Scope
  scope = piece_scope p r Start

  abbrev tag : Text
  tag = piece_name f.called Start

  abbrev cells : List Value
  cells = frame_cells (record { piece = tag; values = args }) next v

  abbrev BoxingFrom : ℕ → List Variable → List Value → List (Option ℕ) → List Stmt → Type 0
  BoxingFrom k xs vs places ss = Boxing p f q scope (piece_count p r Start) 1 tag frame_name cells k xs vs places ss

  -- the boxes from the k-th variable on
  pub record From (k : ℕ) (xs : List Variable) (vs : List Value) (ss : List Stmt) : Type 0 where
    pub places : List (Option ℕ)
    pub stand : ArePlaces p r k places
    pub boxing : BoxingFrom k xs vs places ss

  is_boxed : (k : ℕ) (x : Variable) → slice_get (variables f) k ≡ Some x → is_box p f.called k ≡ not (is_register f k x)
  is_boxed k x e = ap (λ o. is_box_in o k) (ok.found f c.has) ∙ ap (has_block f k) e

  -- what is known of a box
  pub record BoxKnown (k : ℕ) (x : Variable) : Type 0 where
    pub place : ℕ
    pub stands : slice_get (piece_locals p r Start) place ≡ Some (local_of r k)
    pub is_local : named q scope (variable_name k x.called) ≡ ALocal place (TyPointer (TyStruct (box_tag f.called k)))
    pub inside : place < piece_count p r Start
    pub apart : ¬ (place ≡ 1)
    pub first : field q (box_tag f.called k) x.called ≡ Some (0, x.type)
    pub large : (m : ℕ) → size p x.type ≡ Some m → (slots : List Slot) (s : Store) → value (at q scope slots s) (ESizeOf (TyStruct (box_tag f.called k))) ≡ Gives (Whole ULong (pos m))

  box_known : (k : ℕ) (x : Variable) → slice_get (variables f) k ≡ Some x → is_box p f.called k ≡ true → BoxKnown k x
  box_known k x e b =
      let held : holds_number r.boxes k ≡ true = (boxes_exact p f.called k).1 b in
      let stands = box_stands p ok f c k held in
      let there : IsBox p q (box_tag f.called k) (variable_of r k) = box_there p ok f c k (held_has r.boxes k held) in
      let same : variable_of r k ≡ x = ap variable_or e in
      let plain : is_plain r k ≡ false = ap not held in
      record {
        place = suc (suc (suc stands.0));
        stands = stands.1;
        is_local = ap (named q scope) (ap (λ y. variable_name k y.called) (sym same)) ∙ (meant p ok f c Start q _ (local_of r k) stands.1 ∙ ap (λ b. ALocal (suc (suc (suc stands.0))) (local_type b (variable_of r k).type (box_tag f.called k))) plain);
        inside = locals_count p ok f c Start (suc (suc (suc stands.0))) (local_of r k) stands.1;
        apart = λ h. absurd (omega (arith, h));
        first = subst (λ y. field q (box_tag f.called k) y.called ≡ Some (0, y.type)) same there.field;
        large = λ m h slots s. let z = size_known _ _ m (subst (λ y. Less (size p y.type) (size q (TyStruct (box_tag f.called k)))) same there.size) h in simp (z) refl;
      }

  -- the statements of a box that is made for a local, and for a parameter
  abbrev OfLocal : ℕ → Variable → List Stmt → List Stmt
  OfLocal k x ss = boxes_one (variable_name k x.called) (ESizeOf (TyStruct (box_tag f.called k))) ∷ ss

  one_register : (k : ℕ) (x : Variable) (xs : List Variable) (vs : List Value) (ss : List Stmt) → slice_get (variables f) k ≡ Some x → is_register f k x ≡ true → From (suc k) xs (rest_of vs) ss → From k (x ∷ xs) vs ss
  one_register k x xs vs ss e is_reg more =
      let m = sizes k x e in
      record { places = None ∷ more.places; stand = (λ i h. absurd (cc), more.stand); boxing = PassRegister k m.0 x xs vs more.places ss is_reg m.1 more.boxing }

  one_local : (k : ℕ) (x : Variable) (xs : List Variable) (ss : List Stmt) → slice_get (variables f) k ≡ Some x → is_box p f.called k ≡ true → is_register f k x ≡ false → From (suc k) xs [] ss → From k (x ∷ xs) [] (OfLocal k x ss)
  one_local k x xs ss e b no_reg more =
      let m = sizes k x e in
      let known = box_known k x e b in
      record {
        places = Some known.place ∷ more.places;
        stand = (λ i h. let same : known.place ≡ i = cc in ap (slice_get (piece_locals p r Start)) (sym same) ∙ known.stands, more.stand);
        boxing = BoxLocal k m.0 known.place x xs [] more.places ss (variable_name k x.called) (TyStruct (box_tag f.called k)) _ no_reg m.1 m.2 known.is_local known.inside known.apart (known.large m.0 m.1) refl more.boxing;
      }

  one_parameter : (k : ℕ) (x : Variable) (xs : List Variable) (u : Value) (us : List Value) (ss : List Stmt) → slice_get (variables f) k ≡ Some x → is_box p f.called k ≡ true → is_register f k x ≡ false → k < length f.parameters → slice_get args k ≡ Some u → Fits x.type u
      → From (suc k) xs us ss → From k (x ∷ xs) (u ∷ us) (OfLocal k x (fills_if true (variable_name k x.called) x.called ++ ss))
  one_parameter k x xs u us ss e b no_reg h is_arg fits more =
      let scalar = sc k x h e in
      let known = box_known k x e b in
      let s = start_there p ok f c in
      let at_k = passed_at p ok f c 0 (length f.parameters) (variables f) sc k x h e ∙ ap (λ m. Some (record { called = variable_name m x.called; type = x.type })) (let z : 0 + k ≡ k = omega arith in z) in
      record {
        places = Some known.place ∷ more.places;
        stand = (λ i h. let same : known.place ≡ i = cc in ap (slice_get (piece_locals p r Start)) (sym same) ∙ known.stands, more.stand);
        boxing = BoxParameter k 0 known.place (suc (suc (suc k))) x xs u us more.places ss (variable_name k x.called) x.called (box_tag f.called k) (variable_name k x.called) x.type _ no_reg (scalar_size p x.type scalar) (omega arith) known.is_local known.first known.inside known.apart
            (known.large 1 (scalar_size p x.type scalar)) (s.field (suc (suc (suc k))) (record { called = variable_name k x.called; type = x.type }) at_k) scalar is_arg fits more.boxing;
      }

  -- all of them, where so many parameters are left
  boxing_from : (k left : ℕ) (xs : List Variable) (us : List Value) → ((i : ℕ) → slice_get xs i ≡ slice_get (variables f) (k + i)) → ((i : ℕ) → slice_get us i ≡ slice_get args (k + i)) → AllFit (passed_from k left xs) us
      → (length f.parameters ≤ k + left) → (0 < left → k + left ≡ length f.parameters) → From k xs us (boxing_lines r (boxes_from p f.called k (length xs)))
  boxing_from k left [] us is_xs is_us fit most exact = record { places = []; stand = tt; boxing = NoBoxing k us }
  boxing_from k zero (x ∷ xs) _ is_xs is_us NoneFit most exact =
      go (is_box p f.called k) refl
      (boxing_from (suc k) zero xs [] (λ i. is_xs (suc i) ∙ ap (slice_get (variables f)) (let z : k + suc i ≡ suc k + i = omega arith in z)) (λ i. is_us (suc i) ∙ ap (slice_get args) (let z : k + suc i ≡ suc k + i = omega arith in z)) NoneFit (omega (arith, most)) (λ h. absurd (omega (arith, h))))
    where
      e : slice_get (variables f) k ≡ Some x
      e = ap (slice_get (variables f)) (let z : k ≡ k + 0 = omega arith in z) ∙ sym (is_xs 0)

      is_x : variable_of r k ≡ x
      is_x = ap variable_or e

      none : is_parameter f k ≡ false
      none = lt_fails k (length f.parameters) (let z : length f.parameters ≤ k = omega (arith, most) in z)

      go : (b : Bool) → is_box p f.called k ≡ b → From (suc k) xs [] (boxing_lines r (boxes_from p f.called (suc k) (length xs)))
          → From k (x ∷ xs) [] (boxing_lines r (cond b (k ∷ boxes_from p f.called (suc k) (length xs)) (boxes_from p f.called (suc k) (length xs))))
      go true b more =
          subst (λ y. From k (x ∷ xs) [] (box_lines r k y ++ boxing_lines r (boxes_from p f.called (suc k) (length xs)))) (sym is_x)
          (subst (λ d. From k (x ∷ xs) [] (OfLocal k x (fills_if (d && is_scalar x.type) (variable_name k x.called) x.called ++ boxing_lines r (boxes_from p f.called (suc k) (length xs))))) (sym none)
          (one_local k x xs _ e b (not_holds (is_register f k x) (sym (is_boxed k x e) ∙ b)) more))
      go false b more = one_register k x xs [] _ e (not_fails (is_register f k x) (sym (is_boxed k x e) ∙ b)) more
  boxing_from k (suc left) (x ∷ xs) us is_xs is_us fit most exact =
      by_fit us (subst (λ d. AllFit (variable_if d (record { called = variable_name k x.called; type = x.type }) (passed_from (suc k) left xs)) us) (sc k x h e) fit) is_us
      (λ vs i g. boxing_from (suc k) left xs vs (λ j. is_xs (suc j) ∙ ap (slice_get (variables f)) (let z : k + suc j ≡ suc k + j = omega arith in z)) i g (let z : length f.parameters ≤ suc k + left = omega (arith, most) in z) (λ l. let x = exact (omega arith) in let z : suc k + left ≡ length f.parameters = omega (arith, x) in z))
    where
      h : k < length f.parameters
      h = let x = exact (omega arith) in omega (arith, x)

      e : slice_get (variables f) k ≡ Some x
      e = ap (slice_get (variables f)) (let z : k ≡ k + 0 = omega arith in z) ∙ sym (is_xs 0)

      is_x : variable_of r k ≡ x
      is_x = ap variable_or e

      some : is_parameter f k ≡ true
      some = lt_holds k (length f.parameters) h

      rest : List Stmt
      rest = boxing_lines r (boxes_from p f.called (suc k) (length xs))

      go : (u : Value) (vs : List Value) → slice_get args k ≡ Some u → Fits x.type u → (b : Bool) → is_box p f.called k ≡ b → From (suc k) xs vs rest
          → From k (x ∷ xs) (u ∷ vs) (boxing_lines r (cond b (k ∷ boxes_from p f.called (suc k) (length xs)) (boxes_from p f.called (suc k) (length xs))))
      go u vs is_u fits true b more =
          subst (λ y. From k (x ∷ xs) (u ∷ vs) (box_lines r k y ++ rest)) (sym is_x)
          (subst (λ d. From k (x ∷ xs) (u ∷ vs) (OfLocal k x (fills_if (d && is_scalar x.type) (variable_name k x.called) x.called ++ rest))) (sym some)
          (subst (λ d. From k (x ∷ xs) (u ∷ vs) (OfLocal k x (fills_if d (variable_name k x.called) x.called ++ rest))) (sym (sc k x h e))
          (one_parameter k x xs u vs rest e b (not_holds (is_register f k x) (sym (is_boxed k x e) ∙ b)) h is_u fits more)))
      go u vs is_u fits false b more = one_register k x xs (u ∷ vs) rest e (not_fails (is_register f k x) (sym (is_boxed k x e) ∙ b)) more

      by_fit : (us : List Value) → AllFit (record { called = variable_name k x.called; type = x.type } ∷ passed_from (suc k) left xs) us → ((i : ℕ) → slice_get us i ≡ slice_get args (k + i))
          → ((vs : List Value) → ((i : ℕ) → slice_get vs i ≡ slice_get args (suc k + i)) → AllFit (passed_from (suc k) left xs) vs → From (suc k) xs vs rest)
          → From k (x ∷ xs) us (boxing_lines r (cond (is_box p f.called k) (k ∷ boxes_from p f.called (suc k) (length xs)) (boxes_from p f.called (suc k) (length xs))))
      by_fit _ (OneFits _ u _ vs fits more) is deeper =
          go u vs (ap (slice_get args) (let z : k ≡ k + 0 = omega arith in z) ∙ sym (is 0)) fits (is_box p f.called k) refl (deeper vs (λ i. is (suc i) ∙ ap (slice_get args) (let z : k + suc i ≡ suc k + i = omega arith in z)) more)

pub starts_box : AllStartsBox
starts_box p ok f c sc sizes next v args all =
    let all_of = boxing_from p ok f c sc sizes next v args all 0 (length f.parameters) (variables f) args (λ i. ap (slice_get (variables f)) (let z : i ≡ 0 + i = omega arith in z)) (λ i. ap (slice_get args) (let z : i ≡ 0 + i = omega arith in z)) all (omega arith) (λ h. let z : 0 + length f.parameters ≡ length f.parameters = omega arith in z) in
    let ss : boxing_lines (routine_of p f) (boxes_from p f.called 0 (length (variables f))) ≡ boxing_of (routine_of p f) Start = ap (λ n. boxing_lines (routine_of p f) (boxes_from p f.called 0 n)) (sym (counted p ok f c)) in
    record { places = all_of.places; stand = all_of.stand; boxing = subst (λ ss. Boxing p f (converted p) (piece_scope p (routine_of p f) Start) (piece_count p (routine_of p f) Start) 1 (piece_name f.called Start) frame_name (frame_cells (record { piece = piece_name f.called Start; values = args }) next v) 0 (variables f) args all_of.places ss) ss all_of.boxing }
