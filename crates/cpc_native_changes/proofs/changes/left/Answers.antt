use Rattle.cpc_eval_values.specs.Shown.{store_of}
use Rattle.cpc_native_frames.specs.Made.{slots_of}
use Rattle.cpc_native_changes.proofs.Foretold.{left_some, left_none}
use Rattle.cpc_native_changes.proofs.changes.left.Goals as goal

pub returns-in-Some-clause-value : goal.returns-in-Some-clause-value
returns-in-Some-clause-value c = λ names k stood v slots store.
    left_some names k stood v (slots_of names c.args.around.now.slots.now) (store_of names c.args.around.now.store.now) slots store c.in-Some.field-0 (c.in-Some.ensures.leaves names c.requires)

pub returns-in-None-clause-value : goal.returns-in-None-clause-value
returns-in-None-clause-value c = λ names k stood v slots store.
    left_none names k stood v (slots_of names c.args.around.now.slots.now) (store_of names c.args.around.now.store.now) slots store (c.in-None.ensures.leaves names c.requires)
