use Rattle.std.proofs.Common.{◌≡◌, ◌++◌, ◌∙◌, ap, decimal}
use Rattle.cpc_convert_common.specs.Converted.{marked}
use Rattle.cpc_convert_names.proofs.interned.numbered_name.Goals as goal

pub returns-clause-is : goal.returns-clause-is
returns-clause-is c = λ source to g s e.
    let printed = c.in_ok-digits.ensures.ok in
    let bytes = c.as_bytes.ensures.value in
    let first = c.in_ok-rest.ensures.items in
    let second = c.in_ok-extend_from_slice.ensures.items in
    let seen = c.deref.ensures.value in
    let same : c.deref.result.now ≡ c.args.word.now ++ decimal c.args.number = cc in
    c.in_ok-name.ensures.is source to g s e ∙ ap (marked (to c.args.of)) same
