use Rattle.std.proofs.Common.{◌≡◌, ℕ, ◌+◌, ◌++◌, Bool, Some, List, [], ◌∷◌, length, length-append, drop, ap, sym, subst, ◌∙◌, arith}
use Rattle.std.specs.Prelude.{slice_set}
use Rattle.std.proofs.lemmas.List.{map-append}
use Rattle.std.proofs.lemmas.List.Elements.{All-push}
use Rattle.cpc_store.specs.declared.values.Class.TheVariants.{Auto}
use Rattle.cpc_store.specs.declared.values.Value.TheVariants as W
use Rattle.cpc_store.specs.Store.{next_block}
use Rattle.cpc_tree.specs.Erase.{type_of}
use Rattle.cpc_tree.specs.Syntax.{Ty}
use Rattle.cpc_tree.specs.Typing.{size}
use Rattle.cpc_meaning.specs.Eval as E
use Rattle.cpc_meaning.specs.Slots.{make_slot}
use Rattle.cpc_eval_values.specs.Shown.{values_of, store_of}
use Rattle.cpc_eval_index.specs.Indexed.{items_of}
use Rattle.cpc_eval_locals.specs.declared.variables.Variable as V
use Rattle.cpc_eval_locals.specs.Kept.{kept_by}
use Rattle.cpc_eval.specs.declared.around.Slot.{Slot}
use Rattle.cpc_eval.specs.declared.around.Slot.TheVariants as S
use Rattle.cpc_eval.specs.Around.{slot_of}
use Rattle.cpc_eval.specs.Spots.{AreLawful, IsLawfulSlot}
use Rattle.cpc_native_frames.specs.Back.{CanTakeBack}
use Rattle.cpc_native_frames.specs.Made.{slots_of}
use Rattle.cpc_native_frames.proofs.Back.{back_none, back_more}
use Rattle.cpc_native_frames.proofs.Filling.{make_on, on_none, on_more, on_end, rest_drop, next_at, none_at, pushed_set}
use Rattle.cpc_native_frames.proofs.Rising.{Rising, rise_more, rise_from}
use Rattle.cpc_native_frames.proofs.making.fill.Goals as goal

pub loop-i-init : goal.loop-i-init
loop-i-init c =
    let is = sym c.requires.empty in
    let P : List Slot → Type 0 = AreLawful in
    let none : P [] = λ k d h. absurd (omega (arith, h)) in
    record {
      count = ap length c.requires.empty;
      lawful = subst P is none;
      rise = (let Q : List Slot → Type 0 = λ l. Rising 0 l (next_block Auto c.args.store.now) in subst Q is (omega arith));
      back = λ names. (let Q : List Slot → Type 0 = λ l. CanTakeBack (slots_of names l) (store_of names c.args.store.now) (store_of names c.args.store.now) in subst Q is (back_none (store_of names c.args.store.now)));
      rest = λ names apart a e. ap (λ l. make_on (items_of names c.args.index.now) (slots_of names l) (kept_by names c.args.variables.now) (values_of names c.args.arguments.now) (store_of names c.args.store.now)) c.requires.empty
          ∙ on_none (items_of names c.args.index.now) (kept_by names c.args.variables.now) (values_of names c.args.arguments.now) (store_of names c.args.store.now) a e;
    }

-- ---- want of memory

pub returns-in_err-push-clause-back : goal.returns-in_err-push-clause-back
returns-in_err-push-clause-back c = λ names.
    let Q : List Slot → Type 0 = λ l. CanTakeBack (slots_of names l) (store_of names c.args.store.now) (store_of names c.loop-i.store) in
    subst Q (sym c.in_err-push.ensures.items) (c.loop-i.invariant.back names)

pub returns-in_err-slots-clause-back : goal.returns-in_err-slots-clause-back
returns-in_err-slots-clause-back c = λ names.
    let done = c.loop-i.slots.items in
    let slot = S.Register W.Unset in
    let was = store_of names c.args.store.now in
    let now = store_of names c.make_slot.new.store in
    let Q : List E.Slot → Type 0 = λ l. CanTakeBack l was now in
    subst Q (sym (ap (slots_of names) c.in_ok-push.ensures.items ∙ map-append (slot_of names) done (slot ∷ [])))
    (back_more (slots_of names done) (slot_of names slot) was (store_of names c.loop-i.store) now (c.loop-i.invariant.back names) (ap (store_of names) c.in_err-slots.ensures.err))

-- ---- all slots

pub loop-i-preserved : goal.loop-i-preserved
loop-i-preserved c =
    let i = c.loop-i.i in
    let done = c.loop-i.slots.items in
    let slot = c.in_ok-slots.field-0 in
    let row = slice_set c.push.new.self.items i slot in
    let is : row ≡ done ++ slot ∷ [] = ap (λ l. slice_set l i slot) c.in_ok-push.ensures.items ∙ pushed_set done i _ slot c.loop-i.invariant.count in
    let n = ap length is in
    let m = length-append done (slot ∷ []) in
    let P : List Slot → Type 0 = AreLawful in
    record {
      count = n ∙ (m ∙ ap (λ k. k + 1) c.loop-i.invariant.count);
      lawful = subst P (sym is) (All-push IsLawfulSlot done slot c.loop-i.invariant.lawful c.in_ok-slots.ensures.lawful);
      rise = (let Q : List Slot → Type 0 = λ l. Rising 0 l (next_block Auto c.make_slot.new.store) in subst Q (sym is) (rise_more 0 done slot (next_block Auto c.loop-i.store) (next_block Auto c.make_slot.new.store) c.loop-i.invariant.rise c.in_ok-slots.ensures.next));
      back = λ names. (let Q : List E.Slot → Type 0 = λ l. CanTakeBack l (store_of names c.args.store.now) (store_of names c.make_slot.new.store) in
          subst Q (sym (ap (slots_of names) is ∙ map-append (slot_of names) done (slot ∷ [])))
          (back_more (slots_of names done) (slot_of names slot) (store_of names c.args.store.now) (store_of names c.loop-i.store) (store_of names c.make_slot.new.store) (c.loop-i.invariant.back names) (c.in_ok-slots.ensures.alone names)));
      rest = λ names apart a e.
          let p = items_of names c.args.index.now in
          let ks = kept_by names c.args.variables.now in
          let vs = values_of names c.args.arguments.now in
          let v = c.index-variables-i.result in
          let k : Ty × Bool = (type_of names v.of, v.is_register) in
          let s = store_of names c.loop-i.store in
          let t = store_of names c.make_slot.new.store in
          let next = next_at (λ (x : V.Variable). (type_of names x.of, x.is_register)) c.args.variables.now i v c.loop-i-test.true c.index-variables-i.is in
          let front = slots_of names done in
          let made = λ (n : ℕ) (h : size p k.0 ≡ Some n). c.in_ok-slots.ensures.made names apart n h ∙ ap (λ w. make_slot k.1 n w s) (c.argument_at-first.ensures.value names) in
          let before = ap (λ l. make_on p front l (drop i vs) s) (sym next) ∙ c.loop-i.invariant.rest names apart a e in
          let after = on_more p front k (drop (i + 1) ks) (drop i vs) s t (slot_of names slot) a made before in
          ap (λ l. make_on p (slots_of names l) (drop (i + 1) ks) (drop (i + 1) vs) t) is
          ∙ (ap (λ l. make_on p l (drop (i + 1) ks) (drop (i + 1) vs) t) (map-append (slot_of names) done (slot ∷ []))
          ∙ (ap (λ l. make_on p (front ++ slot_of names slot ∷ []) (drop (i + 1) ks) l t) (sym (rest_drop vs i)) ∙ after));
    }

pub returns-clause-made : goal.returns-clause-made
returns-clause-made c = λ names apart a e.
    let p = items_of names c.args.index.now in
    let front = slots_of names c.loop-i.slots.items in
    let vs = values_of names c.args.arguments.now in
    let s = store_of names c.loop-i.store in
    let none = none_at (λ (x : V.Variable). (type_of names x.of, x.is_register)) c.args.variables.now c.loop-i.i (omega arith) in
    on_end p front (drop c.loop-i.i vs) s a (ap (λ l. make_on p front l (drop c.loop-i.i vs) s) (sym none) ∙ c.loop-i.invariant.rest names apart a e)

pub returns-clause-rise : goal.returns-clause-rise
returns-clause-rise c = rise_from 0 c.loop-i.slots.items _ c.loop-i.invariant.rise
