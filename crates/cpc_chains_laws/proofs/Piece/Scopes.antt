-- What names mean in a piece: words, primitives, pieces, the driver and spawners; and what its locals hold.
use Rattle.std.proofs.Common.{◌≡◌, ℕ, ◌+◌, ◌<◌, ◌^◌, Bool, true, false, cond, List, [], ◌∷◌, ◌++◌, map, length, decimal, slice_get, bytes_eq, Option, Some, None, refl, sym, ◌∙◌, ap, subst, codes, arith}
use Rattle.std.proofs.lemmas.Fmt.{decimal_is_IsNumeral}
use Rattle.cpc_base.specs.Bytes.{Text}
use Rattle.cpc_base.proofs.Truth.{not_under_ten}
use Rattle.cpc_base.proofs.Lists.{item_within}
use Rattle.cpc_tree.specs.declared.program.Mode.TheVariants.{Native}
use Rattle.cpc_tree.specs.Primitives.{Primitive, primitive_named}
use Rattle.cpc_tree.specs.Registers.{variables, outer_scope}
use Rattle.cpc_tree.specs.Syntax.{Ty, TyPointer, TyStruct, Variable, Function, Program}
use Rattle.cpc_tree.specs.Typing.{ALocal, AFunction, NotMeant, named, item_named, is_scalar}
use Rattle.cpc_store.specs.Store.{Value}
use Rattle.cpc_meaning.specs.Eval.{Slot, Register}
use Rattle.cpc_meaning.proofs.Functions.{texts_differ}
use Rattle.cpc_convert_common.specs.Marks.{has_marks}
use Rattle.cpc_convert_common.specs.Converted.{marked}
use Rattle.cpc_convert_common.proofs.Marks.{marked_is, no_bar_decimal, not_digits}
use Rattle.cpc_convert_image_laws.specs.InPlace.{is_cps}
use Rattle.cpc_forms.specs.Flow.{Place, Start, At}
use Rattle.cpc_lift_laws.specs.Lift.{variables_in, variable_count}
use Rattle.cpc_convert_flat_laws.specs.Boxes.{AllRegisters}
use Rattle.cpc_chains_store_laws.specs.Driver.{any_pointer}
use Rattle.cpc_convert_flat_laws.specs.Locals.{Holds, Load}
use Rattle.cpc_convert_flat_laws.proofs.Boxes.{register_at}
use Rattle.cpc_convert_flat_laws.proofs.Scopes.{NotLoaded, NoneLoaded, NotThisLoad, loaded_other}
use Rattle.cpc_convert_routines.specs.Names.{piece_name, variable_name, next_name}
use Rattle.cpc_convert_routines.specs.Routines.{Routine, routine_of, variable_of, variable_or, locals_of}
use Rattle.cpc_chains_event.specs.Pieces.{load_of, value_load, loaded, loads_of, words_if, words_of, begun, declares_of, below_if, called_so, piece_function}
use Rattle.cpc_convert_routines.specs.Taken.{takes_value}
use Rattle.cpc_convert_routines.specs.Arriving.{arriving_type}
use Rattle.cpc_chains_event.specs.Converted.{converted}
use Rattle.cpc_chains_event.specs.FlatLaws.{piece_scope}
use Rattle.cpc_chains_event.specs.LocalLaws.{piece_locals, MeansLocals}
use Rattle.cpc_convert_routines.specs.Named.{IsCps, IsOwner}
use Rattle.cpc_chains_event.proofs.Apart.{behind, piece_is, no_underscore_behind, no_bar_nothing, piece_nothing}
use Rattle.cpc_chains_event.proofs.Locals.{NoneCalled, closure_rise, loaded_below, locals_meant, boxes_rise, none_append, passes}
use Rattle.cpc_chains_event.proofs.Meanings.{items_meant}
use Rattle.cpc_convert_routines.proofs.Numbers.{AllBelow, NoneBelow, OneBelow, below_append, below_chosen, Rises, rises_below}
use Rattle.cpc_chains_event.proofs.Scopes.{nothing_hidden}
use Rattle.cpc_chains_event.proofs.Fields.{variable_is}
use Rattle.cpc_lifted_laws.specs.Piece.Known.{CpsKnown}
use Rattle.cpc_chains_laws.specs.Piece.Stood.{LocalsStand}

-- ---- names that are made, apart

-- what stands behind the underscores of a piece's name is no number
piece_number : (k : ℕ) (m : Place) → k < 2 ^ 63 → decimal k ≡ behind m → ⊥
piece_number k Start h e = not_digits 115 (decimal k) _ (not_under_ten 28 (omega arith)) (decimal_is_IsNumeral k (omega arith)).0.1 e
piece_number k (At n) h e = not_digits 97 (decimal k) _ (not_under_ten 10 (omega arith)) (decimal_is_IsNumeral k (omega arith)).0.1 e

variable_piece : (k : ℕ) (x f : Text) (m : Place) → k < 2 ^ 63 → has_marks x ≡ false → has_marks f ≡ false → bytes_eq (variable_name k x) (marked f (behind m)) ≡ false
variable_piece k x f m h hx hf =
    texts_differ (variable_name k x) (marked f (behind m))
    (λ (e : variable_name k x ≡ marked f (behind m)). piece_number k m h (marked_is x f (decimal k) (behind m) hx hf (no_bar_decimal k h) (no_underscore_behind m) (sym (variable_is k x) ∙ e)).1)

word_piece : (w f : Text) (m : Place) → has_marks w ≡ false → has_marks f ≡ false → bytes_eq (marked w (codes "")) (marked f (behind m)) ≡ false
word_piece w f m hw hf =
    texts_differ (marked w (codes "")) (marked f (behind m)) (λ (e : marked w (codes "") ≡ marked f (behind m)). piece_nothing m (sym (marked_is w f (codes "") (behind m) hw hf no_bar_nothing (no_underscore_behind m) e).1))

-- ---- scopes

-- a name that no variable has is not loaded
pub loads_none : (y : Text) (xs : List Variable) → NoneCalled y xs → NotLoaded y (map load_of xs)
loads_none y [] h = NoneLoaded
loads_none y (x ∷ xs) h = NotThisLoad (load_of x) (map load_of xs) h.0 (loads_none y xs h.1)

-- a name that neither row loads, both do not
pub loads_append : (y : Text) (xs ys : List Load) → NotLoaded y xs → NotLoaded y ys → NotLoaded y (xs ++ ys)
loads_append y _ ys NoneLoaded g = g
loads_append y _ ys (NotThisLoad l ls e h) g = NotThisLoad l (ls ++ ys) e (loads_append y ls ys h g)

module _ (p : Program) (f : Function) (known : CpsKnown p f) where
  abbrev pub r : Routine
  r = routine_of p f

  abbrev pub q : Program
  q = converted p

  abbrev count : ℕ
  count = length (variables f)

  pub cps : IsCps p f
  cps = known.found.cps

  pub unmarked_name : (k : ℕ) → has_marks (variable_of r k).called ≡ false
  unmarked_name k = go (slice_get (variables f) k) refl
    where
      go : (o : Option Variable) → slice_get (variables f) k ≡ o → has_marks (variable_or o).called ≡ false
      go None e = refl
      go (Some x) e = known.names.unmarked_variables f known.found.cps.has k x e

  unmarked : has_marks f.called ≡ false
  unmarked = known.names.unmarked _ known.found.cps.has

  boxes_below : AllBelow count r.boxes
  boxes_below =
      rises_below count 0 r.boxes
      (subst (λ n. Rises n 0 r.boxes) (let z : 0 + variable_count p f.called ≡ variable_count p f.called = omega arith in z ∙ ap variables_in known.found.named) (boxes_rise p f.called 0 (variable_count p f.called)))

  begun_below : (l : Place) → AllBelow count (begun r l)
  begun_below Start = below_append count _ _ (below_chosen count _ _ (rises_below count 0 _ (closure_rise p known.names f known.found.cps Start))) boxes_below
  begun_below (At n) = NoneBelow

  module _ (m : Place) where
    abbrev its : Text
    its = marked f.called (behind m)

    locals_none : (ks : List ℕ) → AllBelow count ks → NoneCalled its (locals_of r ks)
    locals_none _ NoneBelow = tt
    locals_none _ (OneBelow k ks h more) =
        (variable_piece k (variable_of r k).called f.called m (let few = known.few_variables in omega (arith, h, few)) (unmarked_name k) unmarked, locals_none ks more)

    words_none : (a b c : Bool) (t : Ty) → NoneCalled its (words_if a b c t)
    words_none a b c t = by a b c
      where
        to : bytes_eq (marked (codes "to") (codes "")) its ≡ false
        to = word_piece (codes "to") f.called m refl unmarked

        under : bytes_eq (marked (codes "under") (codes "")) its ≡ false
        under = word_piece (codes "under") f.called m refl unmarked

        result : bytes_eq (marked (codes "result") (codes "")) its ≡ false
        result = word_piece (codes "result") f.called m refl unmarked

        by : (a b c : Bool) → NoneCalled its (words_if a b c t)
        by true true true = (to, (under, (result, tt)))
        by true true false = (to, (under, tt))
        by true false true = (to, (result, tt))
        by true false false = (to, tt)
        by false true true = (under, (result, tt))
        by false true false = (under, tt)
        by false false true = (result, tt)
        by false false false = tt

    value_none : (l : Place) → NotLoaded its (value_load p r l)
    value_none l = go (takes_value r l)
      where
        go : (b : Bool) → NotLoaded its (cond b (record { variable = codes "value__"; type = arriving_type p r l; field = codes "value__" } ∷ []) [])
        go true = NotThisLoad _ [] (word_piece (codes "value") f.called m refl unmarked) NoneLoaded
        go false = NoneLoaded

    loaded_none : (l : Place) → NotLoaded its (loads_of p r l)
    loaded_none l = NotThisLoad _ _ (word_piece (codes "next") f.called m refl unmarked) (loads_append its (value_load p r l) _ (value_none l) (loads_none its (locals_of r (loaded r l)) (locals_none (loaded r l) (loaded_below p known.names f known.found.cps l))))

    declares_none : (l : Place) → NoneCalled its (declares_of p r l)
    declares_none l = none_append its (words_of p r l) (locals_of r (begun r l)) (words_none _ _ _ f.result) (locals_none (begun r l) (begun_below l))

    -- no local hides a piece
    piece_shown : (l : Place) → named q (piece_scope p r l) its ≡ item_named 0 q its
    piece_shown l =
        passes q its _ _ (declares_of p r l) (declares_none l)
        ∙ (loaded_other q its _ 2 (loads_of p r l) (loaded_none l)
        ∙ (ap (λ b. cond b (ALocal 1 (TyPointer (TyStruct (piece_name f.called l)))) (named q (outer_scope (piece_function p r l)) its)) (word_piece (codes "e") f.called m refl unmarked)
        ∙ ap (λ b. cond b (ALocal 0 any_pointer) (item_named 0 q its)) (word_piece (codes "k") f.called m refl unmarked)))

  -- a piece means itself in each piece
  pub piece_meant : (l m : Place) → IsOwner r m → named q (piece_scope p r l) (piece_name f.called m) ≡ AFunction Native any_pointer (any_pointer ∷ [])
  piece_meant l m owner =
      ap (named q (piece_scope p r l)) (piece_is f.called m) ∙ (piece_shown m l ∙ (ap (item_named 0 q) (sym (piece_is f.called m)) ∙ (items_meant p known.names).pieces f known.found.cps m owner))

  -- a primitive's name means nothing else
  pub primitive_meant : (l : Place) (x : Text) (prim : Primitive) → has_marks x ≡ false → primitive_named x ≡ Some prim → named q (piece_scope p r l) x ≡ NotMeant
  primitive_meant l x prim plain e =
      nothing_hidden p q r l x plain ∙ ((items_meant p known.names).kept x plain (ap is_cps (known.primitives x prim e)) ∙ known.primitives x prim e)

  -- ---- what locals hold

  module _ (l : Place) (owner : IsOwner r l) where
    pub meant : MeansLocals p r l
    meant = (locals_meant p known.names f known.found.cps).pieces l owner

    -- a local holds some value
    pub local_slot : (slots : List Slot) → AllRegisters slots → length slots ≡ length (piece_locals p r l) → (i : ℕ) (x : Variable) → slice_get (piece_locals p r l) i ≡ Some x → (v : Value) × (slice_get slots i ≡ Some (Register v))
    local_slot slots all number i x e = let less = item_within (piece_locals p r l) i x e in register_at slots i all (omega (arith, less, number))

    pub local_holds : (slots : List Slot) → (i : ℕ) (x : Variable) → slice_get (piece_locals p r l) i ≡ Some x → (v : Value) → slice_get slots i ≡ Some (Register v) → Holds q (piece_scope p r l) slots x.called x.type v
    local_holds slots i x e v at = record { slot = i; is_local = meant.meant q i x e; is_slot = at }

    -- the pointer to the frames below
    pub next_holds : (slots slots' : List Slot) (lower : Value) → LocalsStand p r l slots slots' lower → Holds q (piece_scope p r l) slots' next_name (below_if (is_scalar f.result) f.called) lower
    next_holds slots slots' lower h = record { slot = 2; is_local = meant.meant q 2 (called_so next_name (below_if (is_scalar f.result) f.called)) refl; is_slot = h.next }
