use Rattle.std.proofs.Common.{[], refl, sym, ◌∙◌}
use Rattle.cpc_tree.specs.Erase.{Names}
use Rattle.cpc_eval_values.specs.Shown.{store_of}
use Rattle.cpc_native_frames.proofs.Freed.{meets_by}
use Rattle.cpc_native_frames.proofs.Living.{alive_is, all_freed, one_dead, no_fault}
use Rattle.cpc_native_frames.proofs.freeing.leave.Goals as goal

pub returns-then-are_live-clause-err : goal.returns-then-are_live-clause-err
returns-then-are_live-clause-err c =
    let names : Names = λ x. [] in
    let slots = c.args.slots.now in
    let s = c.args.store.now in
    let alive = sym (alive_is names s slots) ∙ (sym c.are_live.ensures ∙ c.if-are_live.true) in
    let freed = all_freed names 0 slots (store_of names s) c.requires alive in
    no_fault c.free_slots.result (store_of names c.free_slots.new.store) _ freed.0 _ (c.free_slots.ensures names) freed.1

pub returns-else-are_live-clause-value : goal.returns-else-are_live-clause-value
returns-else-are_live-clause-value c = λ names.
    let slots = c.args.slots.now in
    let s = c.args.store.now in
    let dead = sym (alive_is names s slots) ∙ (sym c.are_live.ensures ∙ c.if-are_live.false) in
    meets_by _ _ _ (sym (one_dead names 0 slots (store_of names s) c.requires dead)) refl
