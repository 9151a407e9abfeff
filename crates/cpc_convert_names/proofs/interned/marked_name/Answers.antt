use Rattle.cpc_convert_names.proofs.Growing.{marked_is}
use Rattle.cpc_convert_names.proofs.interned.marked_name.Goals as goal

pub returns-clause-is : goal.returns-clause-is
returns-clause-is c = λ source to g s e.
    let first = c.in_ok-text.ensures in
    let second = c.in_ok-extend_from_slice.ensures.items in
    let third = c.in_ok-extend_from_slice-2.ensures.items in
    let seen = c.deref.ensures.value in
    marked_is source c.args.names.now c.interned.new.names to c.args.of _ c.args.rest.now c.deref.result.now g c.in_ok-name.ensures.grown s e (cc) (c.in_ok-name.ensures.is to s)
