use Rattle.std.proofs.Common.{map, drop, ◌++◌, ◌+◌, ap, sym, ◌∙◌}
use Rattle.cpc_meaning.specs.Start.{text_over, zero_of}
use Rattle.cpc_eval_values.specs.Shown.{values_of}
use Rattle.cpc_run_globals.proofs.Texts.{text_next, all_next}
use Rattle.cpc_run_globals.proofs.starts.text_cells.Goals as goal

pub loop-i-preserved : goal.loop-i-preserved
loop-i-preserved c = record {
  value = λ names.
      text_next names c.loop-i.cells.items c.text_cell.result c.args.bytes.now c.args.row.now c.loop-i.i _ _ c.loop-i-test.true (c.loop-i.invariant.value names) (c.text_cell.ensures.value names)
      ∙ ap (λ vs. values_of names vs ++ text_over (drop (c.loop-i.i + 1) c.args.bytes.now) (map zero_of (drop (c.loop-i.i + 1) c.args.row.now))) (sym c.in_ok-push.ensures.items);
  lawful = all_next c.loop-i.cells.items c.text_cell.result c.push.new.self.items c.loop-i.invariant.lawful c.text_cell.ensures.lawful c.in_ok-push.ensures.items;
}
