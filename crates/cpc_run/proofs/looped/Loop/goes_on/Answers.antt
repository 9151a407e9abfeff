use Rattle.std.proofs.Common.{◌++◌, ◌≤◌, arith, false, [], Some, None, Ok, Err, refl, ap, sym, subst, ◌∙◌}
use Rattle.cpc_meaning.specs.Plain.{plain, running_function, Asks, Returned, Went}
use Rattle.cpc_meaning.specs.Trees.{trees}
use Rattle.cpc_eval_values.specs.Shown.{value_of}
use Rattle.cpc_run.specs.Answers.{CameAnswered}
use Rattle.cpc_run_code.specs.Code.{AskedIn, EndsIdle, Same, done_of, store_in, stack_in}
use Rattle.cpc_run_code.specs.Stacks.{request_of}
use Rattle.cpc_run_code.specs.Well.{AsksServed}
use Rattle.cpc_meaning_laws.specs.Pointer.Made.{IsMadeCode}
use Rattle.cpc_run.specs.States.{settles, where_running, program_in}
use Rattle.cpc_meaning.specs.Events.{callbacks}
use Rattle.cpc_meaning.specs.Machine.{code_step}
use Rattle.cpc_meaning.specs.Runs.{live_cells}
use Rattle.cpc_run.specs.Shorts.{IsBeyond}
use Rattle.cpc_run_code.specs.declared.short.Short.TheVariants as W
use Rattle.cpc_run.proofs.Shorts.{goes_count, by_more, err_is, memory_counts}
use Rattle.cpc_run.proofs.Hosted.{asked_by_mid, code_by, faulted_says, none_said}
use Rattle.cpc_run.proofs.Steps.{faulted_so}
use Rattle.cpc_run.proofs.Going.{asks_back, asks_known, asks_room, asks_there}
use Rattle.cpc_run.proofs.looped.Loop.goes_on.Goals as goal

pub returns-in-Returned-clause-steady : goal.returns-in-Returned-clause-steady
returns-in-Returned-clause-steady g c = record {
  well = c.in_ok-step.ensures.well;
  idle = λ e. subst (λ x. EndsIdle x c.step.new.self) c.in-Returned.is c.in_ok-step.ensures.idle;
  fits = c.requires.steady.fits;
  counted = c.requires.steady.counted;
  numbered = c.requires.steady.numbered;
}

pub returns-in-Went-clause-did : goal.returns-in-Went-clause-did
returns-in-Went-clause-did g c = (
  [],
  λ names fits spells sent s within stands rest left.
      let l = c.args.self.now in
      let m = c.step.new.self in
      let k = stack_in names l.machine in
      let did : Same (Ok (Went (store_in names m) (stack_in names m))) (plain (trees (program_in names l)) (store_in names l.machine) k) =
      subst (λ x. Same (done_of names m x) (plain (trees (program_in names l)) (store_in names l.machine) k)) c.in-Went.is (c.in_ok-step.ensures.did names fits.runs) in
      code_by (CameAnswered names g.R.HostRule.answers [] rest None (record l { machine = m }) (sent ++ c.args.pending.now.items) s) names l s (Went (store_in names m) (stack_in names m)) (tt, tt) stands.store did (
        record { store = refl; running = sym (ap (λ b. where_running b (stack_in names m)) c.requires.running); lists = stands.lists; printed_so = stands.printed_so; going = stands.going },
        none_said g.R.HostRule.answers rest s _ refl left,
      ),
)

pub returns-in-Returned-clause-did : goal.returns-in-Returned-clause-did
returns-in-Returned-clause-did g c = (
  [],
  λ names fits spells sent s within stands rest left.
      let l = c.args.self.now in
      let m = c.step.new.self in
      let k = stack_in names l.machine in
      let v = value_of names c.in-Returned.field-0 in
      let did : Same (Ok (Returned v (store_in names m))) (plain (trees (program_in names l)) (store_in names l.machine) k) =
      subst (λ x. Same (done_of names m x) (plain (trees (program_in names l)) (store_in names l.machine) k)) c.in-Returned.is (c.in_ok-step.ensures.did names fits.runs) in
      code_by (CameAnswered names g.R.HostRule.answers [] rest None (record l { machine = m; running = false }) (sent ++ c.args.pending.now.items) s) names l s (Returned v (store_in names m)) (tt, tt) stands.store did (
        record { store = refl; running = refl; lists = stands.lists; printed_so = stands.printed_so; going = stands.going },
        none_said g.R.HostRule.answers rest s _ refl left,
      ),
)

pub returns-in_ok-asked-in-Asked-clause-did : goal.returns-in_ok-asked-in-Asked-clause-did
returns-in_ok-asked-in-Asked-clause-did g c =
    let h = c.in_ok-asked-in-Asked.ensures.did in (
      h.0,
      λ names fits spells sent s within stands rest left.
          let l = c.args.self.now in
          let mid = record l { machine = c.step.new.self } in
          let k = stack_in names l.machine in
          let r = c.in-Asked.request in
          let T = CameAnswered names g.R.HostRule.answers h.0 rest c.in_ok-asked-in-Asked.field-0 c.asked.new.self (sent ++ c.asked.new.pending.items) s in
          let told = subst (λ x. AskedIn names l.machine c.step.new.self x) c.in-Asked.is (c.in_ok-step.ensures.asked names) in
          let did : Same (Ok (Asks (request_of names r))) (plain (trees (program_in names l)) (store_in names l.machine) k) =
          subst (λ x. Same (done_of names c.step.new.self x) (plain (trees (program_in names l)) (store_in names l.machine) k)) c.in-Asked.is (c.in_ok-step.ensures.did names fits.runs) in
          code_by T names l s (Asks (request_of names r)) (tt, tt) stands.store did
          (asked_by_mid T names l mid s (request_of names r) (c.in_ok-step.ensures.items names) told.0
          (h.1 names (record { runs = c.in_ok-step.ensures.runs names fits.runs; main = fits.main; serves = fits.serves; items = fits.items ∙ sym (c.in_ok-step.ensures.items names) }) spells sent s
          (subst (λ j. IsMadeCode s.store j) (sym told.0) (within.made.running k (stands.running ∙ ap (λ b. where_running b k) c.requires.running))) (record {
            store = stands.store ∙ sym told.1;
            asks = stands.running ∙ ap (λ b. where_running b k) c.requires.running ∙ ap Some (sym told.0);
            name = told.2 ∙ sym (ap (λ j. running_function j) told.0);
            lists = stands.lists;
            printed_so = stands.printed_so;
            going = stands.going;
          }) rest left)),
    )

pub returns-in-Faulted-clause-did : goal.returns-in-Faulted-clause-did
returns-in-Faulted-clause-did g c = (
  [],
  λ names fits spells sent s within stands rest left.
      let l = c.args.self.now in
      let k = stack_in names l.machine in
      let printed = sent ++ c.args.pending.now.items in
      let told = subst (λ x. AskedIn names l.machine c.step.new.self x) c.in-Faulted.is (c.in_ok-step.ensures.asked names) in
      let did : Same (Err c.in-Faulted.fault) (plain (trees (program_in names l)) (store_in names l.machine) k) =
      subst (λ x. Same (done_of names c.step.new.self x) (plain (trees (program_in names l)) (store_in names l.machine) k)) c.in-Faulted.is (c.in_ok-step.ensures.did names fits.runs) in (
        faulted_so names l (record l { machine = c.step.new.self }) printed printed s c.in-Faulted.fault c.in-Faulted.function stands c.requires.running told did,
        faulted_says g.R.HostRule.answers (program_in names l) rest s k c.in-Faulted.fault (plain (trees (program_in names l)) s.store k) (subst (λ t. Same (Err c.in-Faulted.fault) (plain (trees (program_in names l)) t k)) (sym stands.store) did) left,
      ),
)

pub returns-in-Some-clause-short : goal.returns-in-Some-clause-short
returns-in-Some-clause-short g c = λ names fits sent s within stands.
    let l = c.args.self.now in
    let running = stands.running ∙ ap (λ b. where_running b (stack_in names l.machine)) c.requires.running in
    let over = c.in-Some.ensures.some in
    goes_count (IsBeyond c.args.cap c.in-Some.short) names l s running
    (λ t step. by_more c.args.cap c.next_cells.result c.in-Some.short (live_cells s) (live_cells t) over within.live
    (λ more. c.next_cells.ensures.more names s fits.runs stands.store running (within.made.running (stack_in names l.machine) running) (omega (arith, within.live, c.requires.cap)) more t step))

pub returns-in-Went-clause-capped : goal.returns-in-Went-clause-capped
returns-in-Went-clause-capped g c = λ names fits sent s within stands.
    let l = c.args.self.now in
    let running = stands.running ∙ ap (λ b. where_running b (stack_in names l.machine)) c.requires.running in
    goes_count (λ n. n ≤ c.args.cap) names l s running
    (λ t step. c.next_cells.ensures.within names s fits.runs stands.store running (within.made.running (stack_in names l.machine) running) c.args.cap c.requires.cap within.live c.in_default.ensures.none t step)

pub returns-in-Returned-clause-capped : goal.returns-in-Returned-clause-capped
returns-in-Returned-clause-capped g c = λ names fits sent s within stands.
    let l = c.args.self.now in
    let running = stands.running ∙ ap (λ b. where_running b (stack_in names l.machine)) c.requires.running in
    goes_count (λ n. n ≤ c.args.cap) names l s running
    (λ t step. c.next_cells.ensures.within names s fits.runs stands.store running (within.made.running (stack_in names l.machine) running) c.args.cap c.requires.cap within.live c.in_default.ensures.none t step)

pub returns-in_ok-asked-in-Asked-clause-capped : goal.returns-in_ok-asked-in-Asked-clause-capped
returns-in_ok-asked-in-Asked-clause-capped g c = λ names fits sent s within stands.
    let l = c.args.self.now in
    let running = stands.running ∙ ap (λ b. where_running b (stack_in names l.machine)) c.requires.running in
    goes_count (λ n. n ≤ c.args.cap) names l s running
    (λ t step. c.next_cells.ensures.within names s fits.runs stands.store running (within.made.running (stack_in names l.machine) running) c.args.cap c.requires.cap within.live c.in_default.ensures.none t step)

pub asked-requires-clause-served : goal.asked-requires-clause-served
asked-requires-clause-served g c =
    let at = c.requires.goes in
    subst (λ x. AsksServed x) c.in-Asked.is (c.in_ok-step.ensures.served at.names at.fits.runs)

pub asked-requires-clause-callback : goal.asked-requires-clause-callback
asked-requires-clause-callback g c =
    let l = c.args.self.now in
    let m = c.step.new.self in
    asks_back c.args.table.now c.args.cap l c.requires.goes c.requires.running m c.in-Asked.request c.in_ok-step.ensures.items c.in_ok-step.ensures.runs
    (λ names. subst (λ x. AskedIn names l.machine m x) c.in-Asked.is (c.in_ok-step.ensures.asked names))
    (λ names runs. subst (λ x. Same (done_of names m x) (plain (trees (program_in names l)) (store_in names l.machine) (stack_in names l.machine))) c.in-Asked.is (c.in_ok-step.ensures.did names runs))

pub asked-requires-clause-known : goal.asked-requires-clause-known
asked-requires-clause-known g c =
    let l = c.args.self.now in
    let m = c.step.new.self in
    asks_known c.args.table.now c.args.cap l c.requires.goes c.requires.running m c.in-Asked.request c.in_ok-step.ensures.items c.in_ok-step.ensures.runs
    (λ names. subst (λ x. AskedIn names l.machine m x) c.in-Asked.is (c.in_ok-step.ensures.asked names))
    (λ names runs. subst (λ x. Same (done_of names m x) (plain (trees (program_in names l)) (store_in names l.machine) (stack_in names l.machine))) c.in-Asked.is (c.in_ok-step.ensures.did names runs))

pub asked-requires-clause-there : goal.asked-requires-clause-there
asked-requires-clause-there g c =
    let l = c.args.self.now in
    let m = c.step.new.self in
    asks_there c.args.table.now c.args.cap l c.requires.goes c.requires.running m c.in-Asked.request c.in_ok-step.ensures.items c.in_ok-step.ensures.runs
    (λ names. subst (λ x. AskedIn names l.machine m x) c.in-Asked.is (c.in_ok-step.ensures.asked names))
    (λ names runs. subst (λ x. Same (done_of names m x) (plain (trees (program_in names l)) (store_in names l.machine) (stack_in names l.machine))) c.in-Asked.is (c.in_ok-step.ensures.did names runs))

pub asked-requires-clause-room : goal.asked-requires-clause-room
asked-requires-clause-room g c =
    let l = c.args.self.now in
    let m = c.step.new.self in
    let at = c.requires.goes in
    let running = at.stands.running ∙ ap (λ b. where_running b (stack_in at.names l.machine)) c.requires.running in
    let made = at.within.made.running (stack_in at.names l.machine) running in
    let small = c.next_cells.ensures.within at.names at.state at.fits.runs at.stands.store running made c.args.cap c.requires.cap at.within.live c.in_default.ensures.none at.next at.goes in
    asks_room c.args.table.now c.args.cap l at c.requires.running m c.in-Asked.request c.in_ok-step.ensures.items c.in_ok-step.ensures.runs
    (λ names. subst (λ x. AskedIn names l.machine m x) c.in-Asked.is (c.in_ok-step.ensures.asked names))
    (λ names runs. subst (λ x. Same (done_of names m x) (plain (trees (program_in names l)) (store_in names l.machine) (stack_in names l.machine))) c.in-Asked.is (c.in_ok-step.ensures.did names runs))
    (omega (arith, small, c.requires.cap))

pub returns-in_err-asked-in-Asked-clause-short : goal.returns-in_err-asked-in-Asked-clause-short
returns-in_err-asked-in-Asked-clause-short g c =
    let gone = c.from_residual-in_err-asked-in-Asked in
    let l = c.args.self.now in
    err_is _ gone.result W.Memory gone.ensures.1 (λ names fits sent s within stands.
    memory_counts c.args.cap W.Memory (settles names l s (code_step (callbacks (program_in names l)) s (stack_in names l.machine))) refl)
