use Rattle.cpc_tree.specs.Erase.{function_of}
use Rattle.cpc_native_points.specs.Depth.{deep}
use Rattle.cpc_native_points.specs.Seen.{point_of}
use Rattle.cpc_eval_values.specs.Shown.{values_of, store_of}
use Rattle.cpc_eval_index.specs.Indexed.{items_of}
use Rattle.cpc_native_frames.specs.Made.{slots_of}
use Rattle.cpc_native_frames.proofs.Back.{any_err, as_before}
use Rattle.cpc_native_frames.proofs.Framing.{entered}
use Rattle.cpc_native_frames.proofs.frame.enter.Goals as goal

pub returns-clause-made : goal.returns-clause-made
returns-clause-made c = λ names told a e.
    let f = function_of names c.args.function.now in
    entered (items_of names c.args.index.now) f (store_of names c.args.store.now) (store_of names c.make_slots.new.store) (slots_of names c.in_ok-slots.slots.items) (point_of c.begin.new.point)
    (values_of names c.args.arguments.now) a (c.requires.own names told.apart) (c.begin.ensures.point names)
    (λ q h. c.in_ok-slots.ensures.made names told.apart f (c.variables_of-variables.ensures names told) q h) e

pub begin-requires : goal.begin-requires
begin-requires c = record { room = c.in_ok-point.ensures.room (deep c.args.function.now.body) c.depth_of-depth.ensures }

pub returns-in_err-point-clause-err : goal.returns-in_err-point-clause-err
returns-in_err-point-clause-err c = any_err c.from_residual.result _ (λ names. as_before (store_of names c.args.store.now))
