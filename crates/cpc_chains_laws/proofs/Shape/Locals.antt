-- In which locals the variables of a cps function stand in what is made of it: each in one of its own, which is of its type.
use Rattle.std.proofs.Common.{◌≡◌, ℕ, ◌<◌, ◌^◌, Bool, true, false, not, ◌==◌, ◌&&◌, ◌||◌, List, [], ◌++◌, length, slice_get, bytes_eq, codes, Option, Some, None, refl, sym, ◌∙◌, ap, subst, arith, ⊎_elim}
use Rattle.std.proofs.lemmas.Option.{slice_get_within}
use Rattle.cpc_base.specs.Bytes.{Text}
use Rattle.cpc_base.proofs.Truth.{eq_reflexive, eq_means}
use Rattle.cpc_base.proofs.Lists.{found_within}
use Rattle.cpc_tree.specs.Lists.{holds_number}
use Rattle.cpc_tree.specs.Registers.{variables}
use Rattle.cpc_tree.specs.Syntax.{Ty, Variable, Function, Program}
use Rattle.cpc_meaning.proofs.Functions.{text_same}
use Rattle.cpc_convert_common.specs.Marks.{has_marks}
use Rattle.cpc_convert_common.specs.Converted.{marked}
use Rattle.cpc_convert_common.specs.Members.{Has, OnTop, Below}
use Rattle.cpc_convert_common.proofs.Members.{has_either}
use Rattle.cpc_forms.specs.Flow.{Place, Start, At}
use Rattle.cpc_lift_laws.specs.Boxes.{is_box_in, has_block}
use Rattle.cpc_lift_laws.proofs.Lift.{boxes_exact}
use Rattle.cpc_convert_image_laws.specs.Locals.{local_type}
use Rattle.cpc_chains_event.specs.LocalLaws.{piece_locals}
use Rattle.cpc_convert_routines.specs.Named.{IsOwner}
use Rattle.cpc_convert_routines.specs.Names.{box_tag, variable_name, pointer_name, frame_name, next_name, value_name, to_name, under_name, result_name}
use Rattle.cpc_convert_routines.specs.Arriving.{arriving_type}
use Rattle.cpc_chains_event.specs.Pieces.{loaded, begun, called_so, to_frame, words_if, words_of, piece_function}
use Rattle.cpc_convert_routines.specs.Taken.{takes_value}
use Rattle.cpc_convert_routines.specs.Routines.{Routine, routine_of, closure_of, is_plain, is_parameter, variable_if, variable_or, local_of, locals_of, chosen}
use Rattle.cpc_chains_event.proofs.Fields.{variables_apart, word_apart}
use Rattle.cpc_chains_event.proofs.Locals.{closure_rise, locals_meant}
use Rattle.cpc_chains_event.proofs.Framed.{held}
use Rattle.cpc_chains_event.proofs.Made.{Mapped, OfNumber, map_has}
use Rattle.cpc_convert_routines.proofs.Numbers.{held_either, chosen_is, AllBelow, NoneBelow, OneBelow, rises_below}
use Rattle.cpc_chains_laws.specs.Shape.Help.{words}
use Rattle.cpc_chains_laws.specs.Shape.Shape.{AreApart, AreTyped}
use Rattle.cpc_lifted_laws.proofs.Shape.Calls.{CpsTyped}

-- ---- names

alike : (x y : Text) → x ≡ y → bytes_eq x y ≡ true
alike x y e = subst (λ z. bytes_eq x z ≡ true) e (text_same x)

module _ (p : Program) (f : Function) (known : CpsTyped p f) where
  small : (k : ℕ) (x : Variable) → slice_get (variables f) k ≡ Some x → k < 2 ^ 63
  small k x e = let a = slice_get_within (variables f) k x e in let b = known.named.few f known.cps.has in omega (arith, a, b)

  unmarked : (k : ℕ) (x : Variable) → slice_get (variables f) k ≡ Some x → has_marks x.called ≡ false
  unmarked k x e = known.named.unmarked_variables f known.cps.has k x e

  one_number : (j k : ℕ) (x y : Variable) → slice_get (variables f) j ≡ Some x → slice_get (variables f) k ≡ Some y → variable_name j x.called ≡ variable_name k y.called → j ≡ k
  one_number j k x y e i n = go (j == k) refl
    where
      go : (b : Bool) → (j == k) ≡ b → j ≡ k
      go true h = eq_means j k h
      go false h = absurd
          (let differ = variables_apart j k x.called y.called (small j x e) (small k y i) (unmarked j x e) (unmarked k y i) (λ (z : j ≡ k). let w : true ≡ false = sym (eq_reflexive k) ∙ (ap (λ m. m == k) (sym z) ∙ h) in absurd (cc)) in
          let w : true ≡ false = sym (alike (variable_name j x.called) (variable_name k y.called) n) ∙ differ in cc)

  no_word : (k : ℕ) (x : Variable) → slice_get (variables f) k ≡ Some x → ¬ (Has (variable_name k x.called) words)
  no_word k x e h = go (variable_name k x.called) refl h
    where
      differs : (w y : Text) → has_marks w ≡ false → y ≡ variable_name k x.called → y ≡ marked w [] → ⊥
      differs w y m i j =
          let differ = word_apart w k x.called m (unmarked k x e) (small k x e) in
          let z : true ≡ false = sym (alike (marked w []) (variable_name k x.called) (sym j ∙ i)) ∙ differ in absurd (cc)

      go : (y : Text) → y ≡ variable_name k x.called → Has y words → ⊥
      go _ i (OnTop _ _) = differs (codes "k") pointer_name refl i refl
      go _ i (Below _ _ _ (OnTop _ _)) = differs (codes "e") frame_name refl i refl
      go _ i (Below _ _ _ (Below _ _ _ (OnTop _ _))) = differs (codes "next") next_name refl i refl
      go _ i (Below _ _ _ (Below _ _ _ (Below _ _ _ (OnTop _ _)))) = differs (codes "value") value_name refl i refl
      go _ i (Below _ _ _ (Below _ _ _ (Below _ _ _ (Below _ _ _ (OnTop _ _))))) = differs (codes "to") to_name refl i refl
      go _ i (Below _ _ _ (Below _ _ _ (Below _ _ _ (Below _ _ _ (Below _ _ _ (OnTop _ _)))))) = differs (codes "under") under_name refl i refl
      go _ i (Below _ _ _ (Below _ _ _ (Below _ _ _ (Below _ _ _ (Below _ _ _ (Below _ _ _ (OnTop _ _))))))) = differs (codes "result") result_name refl i refl
      go y i (Below _ _ _ (Below _ _ _ (Below _ _ _ (Below _ _ _ (Below _ _ _ (Below _ _ _ (Below _ _ _ h'))))))) = elim h' [ ]

  pub apart : AreApart f variable_name
  apart = record { locals = one_number; words = no_word }

  -- ---- types

  abbrev r : Routine
  r = routine_of p f

  -- a variable of a piece has a word, or is the local of a variable of the function
  pub data IsKnown (v : Variable) : Type 0 where
    AWord : Has v.called words → IsKnown v
    AVariable : (j : ℕ) (y : Variable) → slice_get (variables f) j ≡ Some y → v ≡ local_of r j → IsKnown v

  -- these are numbers of variables
  abbrev AreThere : List ℕ → Type 0
  AreThere ns = (j : ℕ) → holds_number ns j ≡ true → (y : Variable) × (slice_get (variables f) j ≡ Some y)

  below_held : (high : ℕ) (ns : List ℕ) (n : ℕ) → AllBelow high ns → holds_number ns n ≡ true → n < high
  below_held high _ n NoneBelow h = absurd (cc)
  below_held high _ n (OneBelow m ns less more) h = go (m == n) refl h (λ i. below_held high ns n more i)
    where
      go : (b : Bool) → (m == n) ≡ b → (b || holds_number ns n) ≡ true → (holds_number ns n ≡ true → n < high) → n < high
      go true e i deeper = subst (λ k. k < high) (eq_means m n e) less
      go false e i deeper = deeper i

  closure_there : (l : Place) → AreThere (closure_of r l)
  closure_there l j h = found_within (variables f) j (below_held (length (variables f)) (closure_of r l) j (rises_below (length (variables f)) 0 (closure_of r l) (closure_rise p known.named f known.cps l)) h)

  block_there : (o : Option Variable) (j : ℕ) → has_block f j o ≡ true → (y : Variable) × (o ≡ Some y)
  block_there None j e = absurd (cc)
  block_there (Some y) j e = (y, refl)

  boxes_there : AreThere r.boxes
  boxes_there j h = block_there (slice_get (variables f) j) j (ap (λ o. is_box_in o j) (sym (known.named.found f known.cps.has)) ∙ (boxes_exact p f.called j).0 h)

  loaded_there : (l : Place) → AreThere (loaded r l)
  loaded_there Start j h = closure_there Start j (chosen_is (λ k. is_parameter f k && is_plain r k) (closure_of r Start) j h).0
  loaded_there (At n) j h = closure_there (At n) j h

  begun_there : (l : Place) → AreThere (begun r l)
  begun_there Start j h = held_either (chosen (λ k. not (is_parameter f k) && is_plain r k) (closure_of r Start)) r.boxes j ((y : Variable) × (slice_get (variables f) j ≡ Some y)) h
      (λ i. closure_there Start j (chosen_is (λ k. not (is_parameter f k) && is_plain r k) (closure_of r Start) j i).0) (λ i. boxes_there j i)
  begun_there (At n) j h = absurd (cc)

  local_known : (ns : List ℕ) → AreThere ns → (v : Variable) → Has v (locals_of r ns) → IsKnown v
  local_known ns there v h = go v (map_has (local_of r) v ns h)
    where
      go : (v : Variable) → Mapped (local_of r) ns v → IsKnown v
      go _ (OfNumber n k) = let y = there n (held n ns k) in AVariable n y.0 y.1 refl

  if_known : (b : Bool) (x : Variable) (xs : List Variable) → IsKnown x → ((v : Variable) → Has v xs → IsKnown v) → (v : Variable) → Has v (variable_if b x xs) → IsKnown v
  if_known true x xs k rest _ (OnTop _ _) = k
  if_known true x xs k rest v (Below _ _ _ h) = rest v h
  if_known false x xs k rest v h = rest v h

  words_known : (a b c : Bool) (t : Ty) (v : Variable) → Has v (words_if a b c t) → IsKnown v
  words_known a b c t v h =
      if_known a (called_so to_name to_frame) (variable_if b (called_so under_name to_frame) (variable_if c (called_so result_name t) [])) (AWord (Below _ _ _ (Below _ _ _ (Below _ _ _ (Below _ _ _ (OnTop _ _))))))
      (if_known b (called_so under_name to_frame) (variable_if c (called_so result_name t) []) (AWord (Below _ _ _ (Below _ _ _ (Below _ _ _ (Below _ _ _ (Below _ _ _ (OnTop _ _)))))))
      (if_known c (called_so result_name t) [] (AWord (Below _ _ _ (Below _ _ _ (Below _ _ _ (Below _ _ _ (Below _ _ _ (Below _ _ _ (OnTop _ _)))))))) (λ u k. elim k [ ]))) v h

  module _ (l : Place) where
    -- what stands behind the value that arrives
    rest_known : (v : Variable) → Has v (locals_of r (loaded r l) ++ (words_of p r l ++ locals_of r (begun r l))) → IsKnown v
    rest_known v h = ⊎_elim
        (λ a. local_known (loaded r l) (loaded_there l) v a)
        (λ b. ⊎_elim (λ a. words_known _ _ _ f.result v a) (λ a. local_known (begun r l) (begun_there l) v a) (has_either v (words_of p r l) (locals_of r (begun r l)) b))
        (has_either v (locals_of r (loaded r l)) (words_of p r l ++ locals_of r (begun r l)) h)

    all_known : (v : Variable) → Has v (piece_locals p r l) → IsKnown v
    all_known _ (OnTop _ _) = AWord (OnTop _ _)
    all_known _ (Below _ _ _ (OnTop _ _)) = AWord (Below _ _ _ (OnTop _ _))
    all_known _ (Below _ _ _ (Below _ _ _ (OnTop _ _))) = AWord (Below _ _ _ (Below _ _ _ (OnTop _ _)))
    all_known v (Below _ _ _ (Below _ _ _ (Below _ _ _ h))) = if_known (takes_value r l) (called_so value_name (arriving_type p r l)) _ (AWord (Below _ _ _ (Below _ _ _ (Below _ _ _ (OnTop _ _))))) rest_known v h

    one_typed : (k : ℕ) (x v : Variable) → slice_get (variables f) k ≡ Some x → IsKnown v → v.called ≡ variable_name k x.called → (tag : Text) × (v.type ≡ local_type (is_plain r k) x.type tag)
    one_typed k x v e (AWord h) i = absurd (no_word k x e (subst (λ y. Has y words) i h))
    one_typed k x v e (AVariable j y there is) i =
        let of_number = ap variable_or there in
        let name : variable_name j y.called ≡ variable_name k x.called = sym (ap (λ (u : Variable). u.called) is ∙ ap (λ (u : Variable). variable_name j u.called) of_number) ∙ i in
        let number = one_number j k y x there e name in
        let same : Some y ≡ Some x = sym there ∙ (ap (slice_get (variables f)) number ∙ e) in
        let variable : y ≡ x = cc in (
          box_tag f.called j,
          ap (λ (u : Variable). u.type) is ∙ (ap (λ (u : Variable). local_type (is_plain r j) u.type (box_tag f.called j)) (of_number ∙ variable) ∙ ap (λ m. local_type (is_plain r m) x.type (box_tag f.called j)) number),
        )

    pub locals_typed : IsOwner r l → AreTyped p f (piece_function p r l) variable_name
    locals_typed owner k x v e h i = one_typed k x v e (all_known v (subst (Has v) ((locals_meant p known.named f known.cps).pieces l owner).listed h)) i
