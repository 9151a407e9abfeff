use Rattle.std.proofs.Common.{◌∙◌, ap, sym}
use Rattle.std.specs.Option.{option_map}
use Rattle.cpc_base_memory.specs.Memory.{files_of}
use Rattle.cpc_base_memory.proofs.MemoryLemmas.{is_read}
use Rattle.cpc_base_memory.proofs.steady.SteadyShelfShelf.read_at.Goals as goal

pub returns-in-Some-clause-bytes : goal.returns-in-Some-clause-bytes
returns-in-Some-clause-bytes c =
    let files = c.args.self.now.files in
    let named = ap (λ held. files_of held.files c.args.name.now) (sym c.self.view_is) ∙ ap (λ fs. files_of fs c.args.name.now) (sym c.as_slice.ensures.value) ∙ ap (option_map (λ file. file.bytes.items)) (sym c.in-Some.ensures) in
    is_read files c.args.name.now c.in-Some.file.now.bytes.items c.args.offset c.copy_piece.new.into c.copy_piece.result named (rw c.as_slice-in-Some.ensures.value at c.copy_piece.ensures.piece)
