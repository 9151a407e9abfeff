use Rattle.std.proofs.Common.{◌≡◌, ◌+◌, min, sym, ◌∙◌, ap}
use Rattle.cpc_store.specs.Store as S
use Rattle.cpc_store.proofs.CodeLemmas.{store_cells-map}
use Rattle.cpc_meaning.specs.Runs.{frames_registers}
use Rattle.cpc_eval_values.specs.Shown.{store_of}
use Rattle.cpc_native.specs.Stacks.{frames_of}
use Rattle.cpc_native.proofs.Frames.{registers_counted}
use Rattle.cpc_native.proofs.machine.Machine.live_cells.Goals as goal

pub returns : goal.returns
returns c = λ names.
    let a : c.live_cells.result ≡ S.store_cells (store_of names c.args.self.now.store) = c.live_cells.ensures.count ∙ sym (store_cells-map names c.args.self.now.store) in
    let b : c.registers.result ≡ frames_registers (frames_of names c.args.self.now.calls.frames.items) = c.registers.ensures ∙ sym (registers_counted names c.args.self.now.calls.frames.items) in
    c.saturating_add.ensures ∙ ap (λ n. min (n + c.registers.result) 18446744073709551615) a ∙ ap (λ n. min (S.store_cells (store_of names c.args.self.now.store) + n) 18446744073709551615) b
