-- What the names of a node mean in the piece of its owner, and that the locals stand after an act of both.
use Rattle.std.proofs.Common.{◌≡◌, ℕ, ◌<◌, ◌^◌, Bool, true, false, not, ◌==◌, List, [], length, codes, slice_get, bytes_eq, Some, refl, sym, ◌∙◌, ap, subst, arith}
use Rattle.cpc_base.specs.Bytes.{Text}
use Rattle.cpc_base.proofs.Truth.{eq_reflexive, eq_means}
use Rattle.cpc_tree.specs.declared.program.Mode.TheVariants.{Native, Detached, Extern, Cps}
use Rattle.cpc_tree.specs.Lists.{holds_number}
use Rattle.cpc_tree.specs.Registers.{variables}
use Rattle.cpc_tree.specs.Syntax.{Ty, Variable, Function, Program}
use Rattle.cpc_tree.specs.Typing.{Meant, ALocal, AGlobal, AFunction, NotMeant, named, item_named, is_scalar}
use Rattle.cpc_tree.proofs.Named.{no_local}
use Rattle.cpc_store.specs.Store.{Value}
use Rattle.cpc_meaning.specs.Eval.{Slot, Register}
use Rattle.cpc_meaning.specs.Ways.{ways}
use Rattle.cpc_meaning.proofs.Functions.{text_same}
use Rattle.cpc_convert_common.specs.Marks.{has_marks}
use Rattle.cpc_convert_image_laws.specs.InPlace.{is_cps}
use Rattle.cpc_convert_image_laws.specs.Locals.{HasField, StandsFor, local_type}
use Rattle.cpc_convert_image_laws.specs.Native.{KeptItem, KeptGlobal, KeptFunction, LeftOut, KeptNothing}
use Rattle.cpc_convert_image_laws.specs.Relations.{Means, Changed, NoneChanged, BothChanged, OneToOne}
use Rattle.cpc_convert_image_laws.proofs.Locals.{scope_means, stands_kept, fits_kept}
use Rattle.cpc_convert_image_laws.proofs.Slots.{got_other}
use Rattle.cpc_forms.specs.Flow.{Place}
use Rattle.cpc_forms.specs.Graph.{at_node}
use Rattle.cpc_forms.specs.Split.{InGraph, split_form, position_scope}
use Rattle.cpc_convert_flat_laws.specs.Boxes.{AllRegisters}
use Rattle.cpc_convert_flat_laws.proofs.Boxes.{registers_set, slots_length}
use Rattle.cpc_chains_event.specs.LocalLaws.{piece_locals}
use Rattle.cpc_convert_routines.specs.Named.{IsOwner}
use Rattle.cpc_convert_routines.specs.Names.{box_tag, next_name, variable_name}
use Rattle.cpc_chains_event.specs.Pieces.{called_so, below_if}
use Rattle.cpc_convert_routines.specs.Routines.{Routine, routine_of, closure_of, is_plain, variable_of, variable_or, local_of, readings_of}
use Rattle.cpc_chains_event.proofs.BoxesThere.{structs_there}
use Rattle.cpc_chains_event.proofs.Fields.{variables_apart, word_apart}
use Rattle.cpc_chains_event.proofs.Meanings.{items_meant}
use Rattle.cpc_chains_event.proofs.Scopes.{nothing_hidden}
use Rattle.cpc_chains_event.proofs.Boxing.{held_has}
use Rattle.cpc_lifted_laws.specs.Accepted.Known.{Stays}
use Rattle.cpc_lifted_laws.specs.Accepted.Points.{UsedName, IsVariable, IsItem}
use Rattle.cpc_lifted_laws.proofs.Accepted.Functions.{scopes_mean_variables}
use Rattle.cpc_lifted_laws.specs.Piece.Known.{CpsKnown}
use Rattle.cpc_chains_laws.specs.Piece.Stood.{NodeAt, LocalsStand}
use Rattle.cpc_chains_laws.proofs.Piece.Frames.{Target, scope, kept_small}
use Rattle.cpc_chains_laws.proofs.Piece.Scopes.{unmarked_name, meant}
use Rattle.cpc_chains_laws.proofs.Piece.Ways.{is_split}

module _ (p : Program) (f : Function) (known : CpsKnown p f) (l : Place) (owner : IsOwner (routine_of p f) l) where
  abbrev r : Routine
  r = routine_of p f

  -- a variable that the owner keeps, its type, and its local
  pub record InLocal (k : ℕ) (t : Ty) (i : ℕ) : Type 0 where
    pub kept : holds_number (closure_of r l) k ≡ true
    pub stands : slice_get (piece_locals p r l) i ≡ Some (local_of r k)
    pub type : (variable_of r k).type ≡ t

  small : (k : ℕ) → holds_number (closure_of r l) k ≡ true → k < 2 ^ 63
  small k h = let less = kept_small p f known l owner l k h in let few = known.few_variables in omega (arith, less, few)

  one_to_one : OneToOne InLocal
  one_to_one = record {
    forth = λ k i j i' t u a b same.
        let first = (meant p f known l owner).meant (Target p f known l owner) i (local_of r k) a.stands in
        let second = (meant p f known l owner).meant (Target p f known l owner) i' (local_of r j) b.stands in
        let third : ALocal i (local_of r k).type ≡ ALocal i' (local_of r j).type = sym first ∙ (ap (λ m. named (Target p f known l owner) (scope p f known l owner) (local_of r m).called) same ∙ second) in
        cc;
    back = λ k i j i' t u a b same.
        let one : Some (local_of r k) ≡ Some (local_of r j) = sym a.stands ∙ (ap (slice_get (piece_locals p r l)) same ∙ b.stands) in
        let is : local_of r k ≡ local_of r j = cc in
        go k j (k == j) refl (ap (λ (v : Variable). v.called) is) (small k a.kept) (small j b.kept);
  }
    where
      go : (k j : ℕ) (b : Bool) → (k == j) ≡ b → variable_name k (variable_of r k).called ≡ variable_name j (variable_of r j).called → k < 2 ^ 63 → j < 2 ^ 63 → k ≡ j
      go k j true e same hk hj = eq_means k j e
      go k j false e same hk hj =
          let apart = variables_apart k j (variable_of r k).called (variable_of r j).called hk hj (unmarked_name p f known k) (unmarked_name p f known j) (λ (i : k ≡ j). let z : true ≡ false = sym (eq_reflexive j) ∙ (ap (λ m. m == j) (sym i) ∙ e) in absurd (cc)) in
          let z : true ≡ false = sym (text_same (variable_name j (variable_of r j).called)) ∙ (ap (λ x. bytes_eq x (variable_name j (variable_of r j).called)) (sym same) ∙ apart) in
          absurd (cc)

  one_type : (k i j i' : ℕ) (t u : Ty) → InLocal k t i → InLocal j u i' → k ≡ j → t ≡ u
  one_type k i j i' t u a b same = sym a.type ∙ (ap (λ m. (variable_of r m).type) same ∙ b.type)

  -- after an act of both the locals stand
  pub changed_stand : (slots slots' a b : List Slot) (lower : Value) → Changed InLocal slots slots' a b → LocalsStand p r l slots slots' lower → LocalsStand p r l a b lower
  changed_stand slots slots' a b lower changed stands = record {
    number = same_number a b changed ∙ stands.number;
    registers = still a b changed;
    next = under a b changed;
    pointer = stands.pointer;
    kept = λ k i h e. stands_kept InLocal slots slots' one_to_one a b (is_plain r k) k i (variable_of r k).type changed (record { kept = h; stands = e; type = refl }) (stands.kept k i h e);
    fits = λ k h. let at = (meant p f known l owner).kept k h in fits_kept InLocal slots slots' one_type a b k at.0 (variable_of r k).type changed (record { kept = h; stands = at.1; type = refl }) (stands.fits k h);
  }
    where
      same_number : (a b : List Slot) → Changed InLocal slots slots' a b → length b ≡ length slots'
      same_number _ _ NoneChanged = refl
      same_number _ _ (BothChanged k i t u v w at e g h) = slots_length slots' i (Register w)

      still : (a b : List Slot) → Changed InLocal slots slots' a b → AllRegisters b
      still _ _ NoneChanged = stands.registers
      still _ _ (BothChanged k i t u v w at e g h) = registers_set slots' i w stands.registers

      other : (k i : ℕ) → holds_number (closure_of r l) k ≡ true → slice_get (piece_locals p r l) i ≡ Some (local_of r k) → ¬ (i ≡ 2)
      other k i h e same =
          let one : Some (local_of r k) ≡ Some (called_so next_name (below_if (is_scalar f.result) f.called)) = sym e ∙ ap (slice_get (piece_locals p r l)) same in
          let is : local_of r k ≡ called_so next_name (below_if (is_scalar f.result) f.called) = cc in
          let z : true ≡ false = sym (text_same next_name) ∙ (ap (λ (v : Variable). bytes_eq next_name v.called) (sym is) ∙ word_apart (codes "next") k (variable_of r k).called refl (unmarked_name p f known k) (small k h)) in
          absurd (cc)

      under : (a b : List Slot) → Changed InLocal slots slots' a b → slice_get b 2 ≡ Some (Register lower)
      under _ _ NoneChanged = stands.next
      under _ _ (BothChanged k i t u v w at e g h) = got_other slots' i 2 _ (Register w) (other k i at.kept at.stands) stands.next

  -- ---- names

  module _ (n : ℕ) (at : NodeAt p f l n) (slots slots' : List Slot) (lower : Value) (stands : LocalsStand p r l slots slots' lower) where
    -- a name that is used, of a variable that is kept or of an item that stays
    pub record Used (x : Text) : Type 0 where
      pub used : UsedName p at.node.scope x
      pub kept : (k : ℕ) (t : Ty) → named p at.node.scope x ≡ ALocal k t → holds_number (closure_of r l) k ≡ true

    pub scope_is : (split_form p).code.scope f.called (InGraph l n) ≡ at.node.scope
    scope_is = ap (λ o. position_scope ((ways p).code.scope f.called) o (InGraph l n)) (is_split p f known) ∙ ap (at_node [] (λ k. k.scope)) at.is_node

    variable_is : (x : Text) (k : ℕ) (t : Ty) → named p at.node.scope x ≡ ALocal k t → slice_get (variables f) k ≡ Some (record { called = x; type = t })
    variable_is x k t e = scopes_mean_variables p f.called f (InGraph l n) known.found.named x k t (ap (λ s. named p s x) scope_is ∙ e)

    unmarked : (x : Text) → UsedName p at.node.scope x → has_marks x ≡ false
    unmarked x (IsVariable k t e) = known.names.unmarked_variables f known.found.cps.has k (record { called = x; type = t }) (variable_is x k t e)
    unmarked x (IsItem e stays) = stays.unmarked

    item_kept : (x : Text) → has_marks x ≡ false → KeptItem (Stays p) x (item_named 0 p x) (named (Target p f known l owner) (scope p f known l owner) x)
    item_kept x plain = go (item_named 0 p x) refl
      where
        shown : is_cps (item_named 0 p x) ≡ false → named (Target p f known l owner) (scope p f known l owner) x ≡ item_named 0 p x
        shown free = nothing_hidden p (Target p f known l owner) r l x plain ∙ (items_meant p known.names).kept x plain free

        kept : (m : Meant) → item_named 0 p x ≡ m → is_cps m ≡ false → KeptItem (Stays p) x m m → KeptItem (Stays p) x m (named (Target p f known l owner) (scope p f known l owner) x)
        kept m e free k = subst (λ y. KeptItem (Stays p) x m y) (sym (shown (ap is_cps e ∙ free) ∙ e)) k

        go : (m : Meant) → item_named 0 p x ≡ m → KeptItem (Stays p) x m (named (Target p f known l owner) (scope p f known l owner) x)
        go (ALocal k t) e = absurd (no_local 0 p x k t e)
        go (AGlobal k t) e = kept (AGlobal k t) e refl (KeptGlobal k t)
        go (AFunction Native t ts) e = kept (AFunction Native t ts) e refl (KeptFunction Native t ts (record { unmarked = plain; not_cps = ap is_cps e }))
        go (AFunction Detached t ts) e = kept (AFunction Detached t ts) e refl (KeptFunction Detached t ts (record { unmarked = plain; not_cps = ap is_cps e }))
        go (AFunction Extern t ts) e = kept (AFunction Extern t ts) e refl (KeptFunction Extern t ts (record { unmarked = plain; not_cps = ap is_cps e }))
        go (AFunction Cps t ts) e = LeftOut t ts _
        go NotMeant e = kept NotMeant e refl KeptNothing

    stands_for : (x : Text) (m : Meant) → named p at.node.scope x ≡ m → ((k : ℕ) (t : Ty) → m ≡ ALocal k t → holds_number (closure_of r l) k ≡ true)
        → StandsFor InLocal (is_plain r) variable_name (box_tag f.called) (Target p f known l owner) (scope p f known l owner) slots slots' x m
    stands_for x (ALocal k t) e kept =
        let h = kept k t refl in
        let local = (meant p f known l owner).kept k h in
        let is : variable_of r k ≡ record { called = x; type = t } = ap variable_or (variable_is x k t e) in (
          local.0,
          record { kept = h; stands = local.1; type = ap (λ (v : Variable). v.type) is },
          stands.kept k local.0 h local.1,
          subst (λ (v : Variable). named (Target p f known l owner) (scope p f known l owner) (variable_name k v.called) ≡ ALocal local.0 (local_type (is_plain r k) v.type (box_tag f.called k))) is ((meant p f known l owner).meant (Target p f known l owner) local.0 (local_of r k) local.1),
          field (holds_number r.boxes k) refl is,
        )
      where
        field : (b : Bool) → holds_number r.boxes k ≡ b → variable_of r k ≡ record { called = x; type = t } → HasField (not b) (Target p f known l owner) (box_tag f.called k) x t
        field true e is = subst (λ (v : Variable). HasField false (Target p f known l owner) (box_tag f.called k) v.called v.type) is ((structs_there p known.names).box f known.found.cps k (held_has r.boxes k e)).field
        field false e is = tt
    stands_for x (AGlobal k t) e kept = tt
    stands_for x (AFunction mode t ts) e kept = tt
    stands_for x NotMeant e kept = tt

    -- each means what it should
    pub names_mean : (x : Text) → Used x → Means (Stays p) InLocal (Target p f known l owner) (scope p f known l owner) slots slots' x (readings_of r at.node.scope x) (named p at.node.scope x)
    names_mean x u =
        scope_means (Stays p) InLocal p (Target p f known l owner) (is_plain r) variable_name (box_tag f.called) at.node.scope (scope p f known l owner) slots slots' x
        (stands_for x (named p at.node.scope x) refl u.kept) (item_kept x (unmarked x u.used))
