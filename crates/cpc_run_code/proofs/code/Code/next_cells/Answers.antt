use Rattle.std.proofs.Common.{arith}
use Rattle.cpc_run_code.specs.Code.{items_in, store_in, stack_in, IsWell, Runs}
use Rattle.cpc_run_code.proofs.code.Code.next_cells.Goals as goal

pub next_cells-requires : goal.next_cells-requires
unfolding IsWell
next_cells-requires c = c.requires.well

pub returns-clause-more : goal.returns-clause-more
unfolding items_in store_in stack_in Runs
returns-clause-more c = λ names s runs store running made small more t step.
    c.next_cells.ensures.more names s (record { runs = runs; store = store; running = running; made = made; bounded = small }) more t step

pub returns-clause-within : goal.returns-clause-within
unfolding items_in store_in stack_in Runs
returns-clause-within c = λ names s runs store running made cap small le told t step.
    c.next_cells.ensures.within names s (record { runs = runs; store = store; running = running; made = made; bounded = omega (arith, le, small) }) cap small le told t step

pub returns-clause-next : goal.returns-clause-next
unfolding items_in store_in stack_in Runs
returns-clause-next c = λ names s runs store running made small alone t step.
    c.next_cells.ensures.next names s (record { runs = runs; store = store; running = running; made = made; bounded = small }) alone t step
