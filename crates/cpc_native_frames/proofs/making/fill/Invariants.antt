use Rattle.std.proofs.Common.{◌≡◌, List, length, drop}
use Rattle.cpc_tree.specs.Erase.{Names}
use Rattle.cpc_check_rules.specs.Apart.{AreApart}
use Rattle.cpc_store.specs.declared.values.Class.TheVariants.{Auto}
use Rattle.cpc_store.specs.Store.{Store, next_block}
use Rattle.cpc_meaning.specs.Answer.{Gives}
use Rattle.cpc_meaning.specs.Eval as E
use Rattle.cpc_eval_values.specs.Shown.{values_of, store_of}
use Rattle.cpc_eval_index.specs.Indexed.{items_of}
use Rattle.cpc_eval.specs.Spots.{AreLawful}
use Rattle.cpc_eval_locals.specs.Kept.{kept_by}
use Rattle.cpc_native_frames.specs.Back.{CanTakeBack}
use Rattle.cpc_native_frames.specs.Made.{make_kept, slots_of}
use Rattle.cpc_native_frames.proofs.Filling.{make_on}
use Rattle.cpc_native_frames.proofs.Rising.{Rising}
use Rattle.cpc_native_frames.proofs.making.fill.Given as goal

-- what all gives, the variables that are left give after those that are made
abbrev pub invariant-loop-i : goal.invariant-loop-i
invariant-loop-i l = record {
  count : length l.slots.items ≡ l.i;
  lawful : AreLawful l.slots.items;
  rise : Rising 0 l.slots.items (next_block Auto l.store);
  back : (names : Names) → CanTakeBack (slots_of names l.slots.items) (store_of names l.initial.store) (store_of names l.store);
  rest : (names : Names) → AreApart names → (a : List E.Slot × Store) → make_kept (items_of names l.index) (kept_by names l.variables) (values_of names l.arguments) (store_of names l.initial.store) ≡ Gives a
      → make_on (items_of names l.index) (slots_of names l.slots.items) (drop l.i (kept_by names l.variables)) (drop l.i (values_of names l.arguments)) (store_of names l.store) ≡ Gives a;
}
