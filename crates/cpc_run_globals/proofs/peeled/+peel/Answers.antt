use Rattle.cpc_tree.specs.Erase.{type_of}
use Rattle.cpc_run_globals.specs.Rows.{element_layout}
use Rattle.cpc_run_globals.proofs.Held.{peeled_array}
use Rattle.cpc_run_globals.proofs.peeled.+peel.Goals as goal

pub returns-in-Some : goal.returns-in-Some
returns-in-Some t c = λ names items.
    let n = c.in-Array.count in
    let inner = c.in_ok-inner-in-Array.inner in
    rw (c.in-Array.is, ← c.deref.ensures, c.in-Some.ensures.1) (peeled_array items (type_of names c.deref.result.now) n inner.times (element_layout names items inner.element) (c.in_ok-inner-in-Array.ensures names items))
