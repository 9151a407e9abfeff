use Rattle.std.proofs.Common.{◌≡◌, ◌==◌, length, vec_len, ap, map, subst, ◌∙◌}
use Rattle.cpc_tree.specs.Erase.{item_of}
use Rattle.cpc_eval_index.specs.Indexed.{items_of}
use Rattle.cpc_sections.specs.Jobs.{EndsAs}
use Rattle.cpc_native.proofs.Same.{runs_same}
use Rattle.cpc_native_sections.specs.Led.{run_of}
use Rattle.cpc_native_sections.proofs.Running.{from_both, none_there}
use Rattle.cpc_native_sections.proofs.run.run_section.Goals as goal

pub returns : goal.returns
returns c =
    let program = c.args.program.now in
    let job = c.args.job.now in
    let m = c.in_ok-machine.machine in
    let count : vec_len job.cells ≡ length job.cells.items = job.cells.ok.0 in
    from_both c.run.result
    (λ end ends lawful. record {
      told = λ names runs.
          let p = map (item_of names) program.items.items in
          let running = runs_same names program.names m.texts.now p (items_of names m.index) c.in_ok-machine.ensures.texts (ap (map (item_of names)) c.in_ok-machine.ensures.index) runs in
          c.in_ok-machine.ensures.entered names runs c.args.bound end
          (subst (λ b. EndsAs names end (run_of names m (names job.function) b c.args.bound)) (c.is_empty-no_copy.ensures ∙ ap (λ n. n == 0) count ∙ none_there names job.cells.items) (ends names running));
      lawful = lawful;
    })
    c.run.ensures.end c.run.ensures.lawful
