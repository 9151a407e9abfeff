-- A name that no local of a piece has means in the piece what it means among the items: so does that of a spawner.
use Rattle.std.proofs.Common.{◌≡◌, ◌⊎◌, inl, inr, ℕ, ◌<◌, ◌^◌, Bool, true, false, not, ◌&&◌, ◌||◌, ◌==◌, cond, List, [], ◌∷◌, map, length, decimal, bytes_eq, refl, sym, ◌∙◌, ap, codes, arith}
use Rattle.cpc_base.specs.Bytes.{Text}
use Rattle.cpc_base.proofs.Truth.{eq_reflexive, or_by_second}
use Rattle.cpc_tree.specs.declared.program.Mode.TheVariants.{Native}
use Rattle.cpc_tree.specs.Lists.{holds_number}
use Rattle.cpc_tree.specs.Registers.{variables, outer_scope}
use Rattle.cpc_tree.specs.Syntax.{Ty, TyVoid, TyPointer, TyStruct, Function, Program}
use Rattle.cpc_tree.specs.Typing.{ALocal, AFunction, named, item_named, parameter_type}
use Rattle.cpc_meaning.proofs.Functions.{texts_differ}
use Rattle.cpc_convert_common.specs.Marks.{has_marks}
use Rattle.cpc_convert_common.specs.Converted.{marked, spawner_name}
use Rattle.cpc_convert_common.proofs.Marks.{marked_is, no_bar_decimal, decimal_no_spawn, no_bar_spawn}
use Rattle.cpc_forms.specs.Flow.{Place, Start, At}
use Rattle.cpc_graph_laws.proofs.Formed.{in_either}
use Rattle.cpc_lift_laws.proofs.Boxes.{boxes_are_below}
use Rattle.cpc_lift_laws.proofs.Lift.{boxes_exact}
use Rattle.cpc_chains_store_laws.specs.Driver.{any_pointer}
use Rattle.cpc_convert_flat_laws.proofs.Scopes.{NotLoaded, NoneLoaded, NotThisLoad, loaded_other}
use Rattle.cpc_chains_event.specs.Converted.{converted}
use Rattle.cpc_chains_event.specs.FlatLaws.{piece_scope}
use Rattle.cpc_convert_routines.specs.Arriving.{arriving_type}
use Rattle.cpc_convert_routines.specs.Named.{IsCps, IsOwner}
use Rattle.cpc_convert_routines.specs.Names.{piece_name, variable_name}
use Rattle.cpc_chains_event.specs.Pieces.{parameter_of, value_load, loaded, loads_of, words_if, words_of, begun, declares_of, piece_function}
use Rattle.cpc_convert_routines.specs.Taken.{takes_value}
use Rattle.cpc_convert_routines.specs.Routines.{Routine, routine_of, closure_of, is_plain, is_parameter, passed, variable_of, locals_of, chosen}
use Rattle.cpc_chains_event.proofs.Apart.{spawner_is, no_bar_nothing, spawn_nothing}
use Rattle.cpc_chains_event.proofs.Locals.{NoneCalled, none_append, passes}
use Rattle.cpc_chains_event.proofs.Meanings.{items_meant}
use Rattle.cpc_convert_routines.proofs.Numbers.{chosen_is}
use Rattle.cpc_chains_event.proofs.Fields.{variable_is}
use Rattle.cpc_lifted_laws.specs.Piece.Known.{CpsKnown}
use Rattle.cpc_chains_laws.proofs.Piece.Frames.{kept_small}
use Rattle.cpc_chains_laws.proofs.Piece.Scopes.{unmarked_name, loads_none, loads_append}

-- ---- a name that is that of no variable, and no word

module _ (p : Program) (f : Function) (known : CpsKnown p f) (l : Place) (owner : IsOwner (routine_of p f) l) where
  abbrev r : Routine
  r = routine_of p f

  abbrev q : Program
  q = converted p

  -- the numbers of what a piece loads and begins are those of variables
  loaded_small : (m : Place) (k : ℕ) → holds_number (loaded r m) k ≡ true → k < length (variables f)
  loaded_small Start k h = kept_small p f known l owner Start k (chosen_is (λ j. is_parameter f j && is_plain r j) (closure_of r Start) k h).0
  loaded_small (At n) k h = kept_small p f known l owner (At n) k h

  begun_small : (m : Place) (k : ℕ) → holds_number (begun r m) k ≡ true → k < length (variables f)
  begun_small (At n) k h = absurd (cc)
  begun_small Start k h = go (in_either k (chosen (λ j. not (is_parameter f j) && is_plain r j) (closure_of r Start)) r.boxes h)
    where
      go : (holds_number (chosen (λ j. not (is_parameter f j) && is_plain r j) (closure_of r Start)) k ≡ true) ⊎ (holds_number r.boxes k ≡ true) → k < length (variables f)
      go (inl i) = kept_small p f known l owner Start k (chosen_is (λ j. not (is_parameter f j) && is_plain r j) (closure_of r Start) k i).0
      go (inr i) = boxes_are_below p f.called f known.found.named k ((boxes_exact p f.called k).0 i)

  module _ (y : Text) (variable : (k : ℕ) (x : Text) → k < 2 ^ 63 → has_marks x ≡ false → bytes_eq (variable_name k x) y ≡ false) (word : (x : Text) → has_marks x ≡ false → bytes_eq (marked x (codes "")) y ≡ false) where
    locals_none : (ks : List ℕ) → ((k : ℕ) → holds_number ks k ≡ true → k < length (variables f)) → NoneCalled y (locals_of r ks)
    locals_none [] h = tt
    locals_none (k ∷ ks) h =
        let few = known.few_variables in
        let this = h k (ap (λ b. b || holds_number ks k) (eq_reflexive k)) in
        (variable k (variable_of r k).called (omega (arith, this, few)) (unmarked_name p f known k), locals_none ks (λ j i. h j (or_by_second (k == j) (holds_number ks j) i)))

    words_none : (a b c : Bool) (t : Ty) → NoneCalled y (words_if a b c t)
    words_none true true true t = (word (codes "to") refl, (word (codes "under") refl, (word (codes "result") refl, tt)))
    words_none true true false t = (word (codes "to") refl, (word (codes "under") refl, tt))
    words_none true false true t = (word (codes "to") refl, (word (codes "result") refl, tt))
    words_none true false false t = (word (codes "to") refl, tt)
    words_none false true true t = (word (codes "under") refl, (word (codes "result") refl, tt))
    words_none false true false t = (word (codes "under") refl, tt)
    words_none false false true t = (word (codes "result") refl, tt)
    words_none false false false t = tt

    value_none : NotLoaded y (value_load p r l)
    value_none = go (takes_value r l)
      where
        go : (b : Bool) → NotLoaded y (cond b (record { variable = codes "value__"; type = arriving_type p r l; field = codes "value__" } ∷ []) [])
        go true = NotThisLoad _ [] (word (codes "value") refl) NoneLoaded
        go false = NoneLoaded

    loaded_none : NotLoaded y (loads_of p r l)
    loaded_none = NotThisLoad _ _ (word (codes "next") refl) (loads_append y (value_load p r l) _ value_none (loads_none y (locals_of r (loaded r l)) (locals_none (loaded r l) (loaded_small l))))

    declares_none : NoneCalled y (declares_of p r l)
    declares_none = none_append y (words_of p r l) (locals_of r (begun r l)) (words_none _ _ _ f.result) (locals_none (begun r l) (begun_small l))

    -- no local hides it
    pub not_hidden : named q (piece_scope p r l) y ≡ item_named 0 q y
    not_hidden =
        passes q y _ _ (declares_of p r l) declares_none
        ∙ (loaded_other q y _ 2 (loads_of p r l) loaded_none
        ∙ (ap (λ b. cond b (ALocal 1 (TyPointer (TyStruct (piece_name f.called l)))) (named q (outer_scope (piece_function p r l)) y)) (word (codes "e") refl) ∙ ap (λ b. cond b (ALocal 0 any_pointer) (item_named 0 q y)) (word (codes "k") refl)))

-- ---- spawners

module _ (p : Program) (f : Function) (known : CpsKnown p f) (l : Place) (owner : IsOwner (routine_of p f) l) (g : Function) (cps : IsCps p g) where
  unmarked : has_marks g.called ≡ false
  unmarked = known.names.unmarked _ cps.has

  -- a spawner means itself in each piece
  pub spawner_meant : named (converted p) (piece_scope p (routine_of p f) l) (spawner_name g.called) ≡ AFunction Native TyVoid (map parameter_type (map parameter_of (passed g)))
  spawner_meant =
      not_hidden p f known l owner (spawner_name g.called)
      (λ k x small hx. texts_differ (variable_name k x) (spawner_name g.called)
      (λ (e : variable_name k x ≡ spawner_name g.called). decimal_no_spawn k small (marked_is x g.called (decimal k) (codes "spawn") hx unmarked (no_bar_decimal k small) no_bar_spawn (sym (variable_is k x) ∙ (e ∙ spawner_is g.called))).1))
      (λ w hw. texts_differ (marked w (codes "")) (spawner_name g.called)
      (λ (e : marked w (codes "") ≡ spawner_name g.called). spawn_nothing (sym (marked_is w g.called (codes "") (codes "spawn") hw unmarked no_bar_nothing no_bar_spawn (e ∙ spawner_is g.called)).1)))
      ∙ (items_meant p known.names).spawners g cps
