use Rattle.cpc_eval.specs.Around.{context_of}
use Rattle.cpc_native_changes.proofs.Foretold.{found_enters, not_found}
use Rattle.cpc_native_changes.proofs.changes.entered.Goals as goal

pub returns-in-Some-clause-value : goal.returns-in-Some-clause-value
returns-in-Some-clause-value c = λ names stood ws told.
    found_enters names (context_of names c.args.around.now) stood _ c.in-Some.function ws (c.in-Some.ensures.value names told.apart)

pub returns-in-None-clause-value : goal.returns-in-None-clause-value
returns-in-None-clause-value c = λ names stood ws told. not_found names (context_of names c.args.around.now) stood _ ws (c.in-None.ensures.value names told.apart)
