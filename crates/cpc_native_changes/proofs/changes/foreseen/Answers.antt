use Rattle.cpc_tree.specs.Erase.{type_of}
use Rattle.cpc_meaning.specs.Act as M
use Rattle.cpc_native_stood.specs.Stood.{context_in, stood_of}
use Rattle.cpc_native_changes.proofs.Standing.{tells_found, tells_none}
use Rattle.cpc_native_changes.proofs.changes.foreseen.Goals as goal

pub returns-in-Some-clause-value : goal.returns-in-Some-clause-value
returns-in-Some-clause-value c = λ names o texts serving.
    let frame = c.args.frame.now in
    let k = context_in names c.args.index.now frame c.args.store.now in
    let stood = stood_of names frame in
    tells_found names k stood c.in-Enters.name c.in-Some.function (M.act k (type_of names frame.function.now.result) o stood) (c.in-Enters.ensures names o texts serving) (c.in-Some.ensures.value names texts.told.apart)

pub returns-in-None-clause-value : goal.returns-in-None-clause-value
returns-in-None-clause-value c = λ names o texts serving.
    let frame = c.args.frame.now in
    let k = context_in names c.args.index.now frame c.args.store.now in
    let stood = stood_of names frame in
    absurd (tells_none names k stood c.in-Enters.name (M.act k (type_of names frame.function.now.result) o stood) (c.in-Enters.ensures names o texts serving) (c.in-None.ensures.value names texts.told.apart))
