use Rattle.std.proofs.Common.{sym, ap, ◌∙◌}
use Rattle.std.specs.Result.{result_map_both}
use Rattle.cpc_num.specs.declared.kinds.Fault.{Fault}
use Rattle.cpc_eval_values.specs.Shown.{store_of}
use Rattle.cpc_eval.specs.declared.around.Slot.{Slot}
use Rattle.cpc_eval.specs.Around.{slot_of}
use Rattle.cpc_native_frames.specs.Made.{free_slot}
use Rattle.cpc_native_frames.proofs.Freed.{block_freed}
use Rattle.cpc_native_frames.proofs.freeing.free_slot.Goals as goal

pub returns-in_ok-free-in-Boxed-clause-value : goal.returns-in_ok-free-in-Boxed-clause-value
returns-in_ok-free-in-Boxed-clause-value c = λ names.
    sym (ap (result_map_both {D = Fault} (λ _. store_of names c.free.new.self) (λ fault. fault)) c.in_ok-free-in-Boxed.was)
    ∙ (block_freed names c.in-Boxed.number c.args.store.now c.free.new.self c.free.result c.free.ensures.value
    ∙ ap (λ (x : Slot). free_slot (slot_of names x) (store_of names c.args.store.now)) (sym c.in-Boxed.is))
