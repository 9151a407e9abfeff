-- No local of a piece hides the start of a cps function, or the driver.
use Rattle.std.proofs.Common.{◌≡◌, ℕ, suc, ◌<◌, ◌^◌, ◌==◌, ◌&&◌, Bool, true, false, not, ◌||◌, cond, List, [], ◌∷◌, decimal, bytes_eq, refl, sym, ◌∙◌, ap, subst, codes, arith, ⊎_elim}
use Rattle.std.proofs.lemmas.Fmt.{decimal_is_IsNumeral}
use Rattle.std.specs.Str.Parse.{AllDigits}
use Rattle.cpc_base.specs.Bytes.{Text}
use Rattle.cpc_base.proofs.Truth.{eq_reflexive, or_by_second}
use Rattle.cpc_tree.specs.declared.program.Mode.TheVariants.{Native}
use Rattle.cpc_tree.specs.Lists.{holds_number}
use Rattle.cpc_tree.specs.Registers.{outer_scope}
use Rattle.cpc_tree.specs.Syntax.{Ty, TyPointer, TyStruct, Variable, Function, Program}
use Rattle.cpc_tree.specs.Typing.{ALocal, AFunction, named, item_named}
use Rattle.cpc_meaning.proofs.Functions.{texts_differ, text_same}
use Rattle.cpc_convert_common.specs.Marks.{has_marks}
use Rattle.cpc_convert_common.specs.Converted.{marked}
use Rattle.cpc_convert_common.proofs.Marks.{marked_is, no_bar_decimal}
use Rattle.cpc_forms.specs.Flow.{Place, Start, At}
use Rattle.cpc_graph_laws.proofs.Formed.{in_either}
use Rattle.cpc_lift_laws.proofs.Boxes.{boxes_are_below}
use Rattle.cpc_lift_laws.proofs.Lift.{boxes_exact}
use Rattle.cpc_chains_store_laws.specs.Driver.{any_pointer, drive_name, DriverMeant}
use Rattle.cpc_convert_flat_laws.specs.Locals.{declared_scope}
use Rattle.cpc_convert_flat_laws.proofs.Scopes.{NotLoaded, NoneLoaded, NotThisLoad, loaded_other}
use Rattle.cpc_chains_event.specs.FlatLaws.{piece_scope}
use Rattle.cpc_convert_routines.specs.Arriving.{arriving_type}
use Rattle.cpc_convert_routines.specs.Named.{IsCps, IsOwner, TheStart}
use Rattle.cpc_convert_routines.specs.Names.{start_name, piece_name, variable_name}
use Rattle.cpc_convert_routines.specs.Taken.{takes_value}
use Rattle.cpc_chains_event.specs.Pieces.{value_load, loaded, loads_of, words_if, words_of, begun, declares_of, piece_function}
use Rattle.cpc_convert_routines.specs.Routines.{Routine, routine_of, variable_of, locals_of, is_parameter, is_plain, closure_of}
use Rattle.cpc_chains_event.proofs.Apart.{behind, piece_is, no_underscore_behind, no_bar_nothing, piece_nothing}
use Rattle.cpc_chains_event.proofs.Fields.{word_apart}
use Rattle.cpc_chains_event.proofs.Locals.{NoneCalled, none_append}
use Rattle.cpc_chains_event.proofs.Meanings.{items_meant}
use Rattle.cpc_convert_routines.proofs.Numbers.{chosen_is}
use Rattle.cpc_lifted_laws.specs.Piece.Known.{CpsKnown}
use Rattle.cpc_chains_laws.specs.Wait.Laws.{StartsAreMeant}
use Rattle.cpc_chains_laws.proofs.Piece.Frames.{Target, kept_small}
use Rattle.cpc_chains_laws.proofs.Piece.Scopes.{unmarked_name, loads_none, loads_append}

-- a name that is no word of a piece and no variable's
pub record IsOther (y : Text) : Type 0 where
  pub variable : (k : ℕ) (x : Text) → has_marks x ≡ false → k < 2 ^ 63 → bytes_eq (variable_name k x) y ≡ false
  pub pointer : bytes_eq (codes "k__") y ≡ false
  pub frame : bytes_eq (codes "e__") y ≡ false
  pub next : bytes_eq (codes "next__") y ≡ false
  pub value : bytes_eq (codes "value__") y ≡ false
  pub to : bytes_eq (codes "to__") y ≡ false
  pub under : bytes_eq (codes "under__") y ≡ false
  pub result : bytes_eq (codes "result__") y ≡ false

declared_other : (q : Program) (y : Text) (scope : _) (n : ℕ) (vs : List Variable) → NoneCalled y vs → named q (declared_scope scope n vs) y ≡ named q scope y
declared_other q y scope n [] h = refl
declared_other q y scope n (v ∷ vs) h = declared_other q y (record { called = v.called; type = v.type; slot = n } ∷ scope) (suc n) vs h.1 ∙ ap (λ b. cond b (ALocal n v.type) (named q scope y)) h.0

words_none : (y : Text) → IsOther y → (a b c : Bool) (t : Ty) → NoneCalled y (words_if a b c t)
words_none y o true true true t = (o.to, (o.under, (o.result, tt)))
words_none y o true true false t = (o.to, (o.under, tt))
words_none y o true false true t = (o.to, (o.result, tt))
words_none y o true false false t = (o.to, tt)
words_none y o false true true t = (o.under, (o.result, tt))
words_none y o false true false t = (o.under, tt)
words_none y o false false true t = (o.result, tt)
words_none y o false false false t = tt

module _ (p : Program) (f : Function) (known : CpsKnown p f) (l : Place) (owner : IsOwner (routine_of p f) l) where
  abbrev r : Routine
  r = routine_of p f

  abbrev q : Program
  q = Target p f known l owner

  closure_few : (m : Place) (k : ℕ) → holds_number (closure_of r m) k ≡ true → k < 2 ^ 63
  closure_few m k h = let less = kept_small p f known l owner m k h in let few = known.few_variables in omega (arith, less, few)

  boxes_few : (k : ℕ) → holds_number r.boxes k ≡ true → k < 2 ^ 63
  boxes_few k h = let less = boxes_are_below p f.called f known.found.named k ((boxes_exact p f.called k).0 h) in let few = known.few_variables in omega (arith, less, few)

  loaded_few : (m : Place) (k : ℕ) → holds_number (loaded r m) k ≡ true → k < 2 ^ 63
  loaded_few Start k h = closure_few Start k (chosen_is (λ k. is_parameter f k && is_plain r k) (closure_of r Start) k h).0
  loaded_few (At n) k h = closure_few (At n) k h

  begun_few : (m : Place) (k : ℕ) → holds_number (begun r m) k ≡ true → k < 2 ^ 63
  begun_few Start k h = ⊎_elim (λ a. closure_few Start k (chosen_is (λ k. not (is_parameter f k) && is_plain r k) (closure_of r Start) k a).0) (λ a. boxes_few k a) (in_either k _ r.boxes h)
  begun_few (At n) k h = absurd (cc)

  module _ (y : Text) (o : IsOther y) where
    locals_none : (ks : List ℕ) → ((k : ℕ) → holds_number ks k ≡ true → k < 2 ^ 63) → NoneCalled y (locals_of r ks)
    locals_none [] h = tt
    locals_none (k ∷ ks) h = (o.variable k (variable_of r k).called (unmarked_name p f known k) (h k (here k ks)), locals_none ks (λ j i. h j (there k j ks i)))
      where
        here : (k : ℕ) (ks : List ℕ) → holds_number (k ∷ ks) k ≡ true
        here k ks = ap (λ b. b || holds_number ks k) (eq_reflexive k)

        there : (k j : ℕ) (ks : List ℕ) → holds_number ks j ≡ true → holds_number (k ∷ ks) j ≡ true
        there k j ks i = or_by_second (k == j) (holds_number ks j) i

    value_none : NotLoaded y (value_load p r l)
    value_none = go (takes_value r l)
      where
        go : (b : Bool) → NotLoaded y (cond b (record { variable = codes "value__"; type = arriving_type p r l; field = codes "value__" } ∷ []) [])
        go true = NotThisLoad _ [] o.value NoneLoaded
        go false = NoneLoaded

    loaded_none : NotLoaded y (loads_of p r l)
    loaded_none = NotThisLoad _ _ o.next (loads_append y (value_load p r l) _ value_none (loads_none y (locals_of r (loaded r l)) (locals_none (loaded r l) (loaded_few l))))

    declares_none : NoneCalled y (declares_of p r l)
    declares_none = none_append y (words_of p r l) (locals_of r (begun r l)) (words_none y o _ _ _ f.result) (locals_none (begun r l) (begun_few l))

    -- no local of the piece hides it
    pub other_shown : named q (piece_scope p r l) y ≡ item_named 0 q y
    other_shown =
        declared_other q y _ _ (declares_of p r l) declares_none
        ∙ (loaded_other q y _ 2 (loads_of p r l) loaded_none
        ∙ (ap (λ b. cond b (ALocal 1 (TyPointer (TyStruct (piece_name f.called l)))) (named q (outer_scope (piece_function p r l)) y)) o.frame ∙ ap (λ b. cond b (ALocal 0 any_pointer) (item_named 0 q y)) o.pointer))

  -- ---- the start of a function

  module _ (g : Function) (cps : IsCps p g) where
    abbrev its : Text
    its = marked g.called (behind Start)

    unmarked : has_marks g.called ≡ false
    unmarked = known.names.unmarked _ cps.has

    word_start : (w : Text) → has_marks w ≡ false → bytes_eq (marked w (codes "")) its ≡ false
    word_start w hw =
        texts_differ (marked w (codes "")) its (λ (e : marked w (codes "") ≡ its). piece_nothing Start (sym (marked_is w g.called (codes "") (behind Start) hw unmarked no_bar_nothing (no_underscore_behind Start) e).1))

    no_number : (k : ℕ) → k < 2 ^ 63 → decimal k ≡ codes "start" → ⊥
    no_number k h e = let digits = (decimal_is_IsNumeral k (omega (arith, h))).0.1 in let d = subst (AllDigits 10) e digits in let i = d.0 in absurd (omega (arith, i))

    variable_start : (k : ℕ) (x : Text) → has_marks x ≡ false → k < 2 ^ 63 → bytes_eq (variable_name k x) its ≡ false
    unfolding variable_name
    variable_start k x hx h =
        texts_differ (marked x (decimal k)) its (λ (e : marked x (decimal k) ≡ its). no_number k h (marked_is x g.called (decimal k) (behind Start) hx unmarked (no_bar_decimal k h) (no_underscore_behind Start) e).1)

    start_other : IsOther its
    start_other = record {
      variable = variable_start;
      pointer = word_start (codes "k") refl;
      frame = word_start (codes "e") refl;
      next = word_start (codes "next") refl;
      value = word_start (codes "value") refl;
      to = word_start (codes "to") refl;
      under = word_start (codes "under") refl;
      result = word_start (codes "result") refl;
    }

    -- it means itself in each piece
    pub start_meant : named q (piece_scope p r l) (start_name g.called) ≡ AFunction Native any_pointer (any_pointer ∷ [])
    start_meant =
        ap (named q (piece_scope p r l)) (piece_is g.called Start) ∙ (other_shown its start_other ∙ (ap (item_named 0 q) (sym (piece_is g.called Start)) ∙ (items_meant p known.names).pieces g cps Start TheStart))

  -- ---- the driver

  drive_variable : (k : ℕ) (x : Text) → has_marks x ≡ false → k < 2 ^ 63 → bytes_eq (variable_name k x) drive_name ≡ false
  drive_variable k x hx h =
      texts_differ (variable_name k x) drive_name
      (λ (e : variable_name k x ≡ drive_name). let z : true ≡ false = sym (text_same drive_name) ∙ (ap (bytes_eq drive_name) (sym e) ∙ word_apart (codes "drive") k x refl hx h) in cc)

  -- so does the driver
  pub driver_meant : DriverMeant q (piece_scope p r l)
  driver_meant =
      other_shown drive_name (record { variable = drive_variable; pointer = refl; frame = refl; next = refl; value = refl; to = refl; under = refl; result = refl })
      ∙ (items_meant p known.names).driver f known.found.cps

pub starts_meant : StartsAreMeant
starts_meant p f known l owner = (driver_meant p f known l owner, start_meant p f known l owner)
