use Rattle.std.proofs.Common.{◌∙◌, ◌↔◌, ◌≡◌, Some, IsTrue, ap, sym, refl, subst, inr, true≢false}
use Rattle.std.specs.Option.{option_map}
use Rattle.cpc_base_memory.specs.Plan.{FailsNext}
use Rattle.cpc_base_memory.specs.Memory.{files_of}
use Rattle.cpc_base_memory.proofs.MemoryLemmas.{is_read, works, planned, no_bytes}
use Rattle.cpc_base_memory.proofs.mem_shelf.MemShelfShelf.read_at.Goals.{in_default-via-in-Some+else-not-fails, in_default-via-in_default}
use Rattle.cpc_base_memory.proofs.mem_shelf.MemShelfShelf.read_at.Goals as goal

there : (c : goal.After-slice_known-in-Some-1) → files_of c.args.self.now.files c.args.name.now ≡ Some c.in-Some.file.now.bytes.items
there c = ap (λ held. files_of held.files c.args.name.now) (sym c.self.view_is) ∙ ap (λ fs. files_of fs c.args.name.now) (sym c.as_slice.ensures.value) ∙ ap (option_map (λ file. file.bytes.items)) (sym c.in-Some.ensures)

pub returns-in-Some-clause-bytes : goal.returns-in-Some-clause-bytes
returns-in-Some-clause-bytes c =
    is_read c.args.self.now.files c.args.name.now c.in-Some.file.now.bytes.items c.args.offset c.copy_piece.new.into c.copy_piece.result (there c) (rw c.as_slice-in-Some.ensures.value at c.copy_piece.ensures.piece)

pub returns-in-Some-clause-fails : goal.returns-in-Some-clause-fails
returns-in-Some-clause-fails c =
    let says = subst (λ held. IsTrue c.fails_next-fails.result ↔ FailsNext held.plan) c.self.view_is c.fails_next-fails.ensures.fails in
    (λ e. absurd (true≢false (sym e)), works c.args.self.now.plan c.fails_next-fails.result says _ _ c.if-not-fails.true (there c))

pub returns-in_default-clause-fails : goal.returns-in_default-clause-fails
returns-in_default-clause-fails c =
    let says = subst (λ held. IsTrue c.fails_next-fails.result ↔ FailsNext held.plan) c.self.view_is c.fails_next-fails.ensures.fails in
    let first = ap (λ fs. files_of fs c.args.name.now) c.as_slice.ensures.value ∙ ap (λ held. files_of held.files c.args.name.now) c.self.view_is in
    elim c.in_default.branch [
      | in_default-via-in-Some+else-not-fails w ↦ (λ _. planned c.args.self.now.plan c.fails_next-fails.result says w.if-not-fails.false, λ _. refl)
      | in_default-via-in_default w ↦ (λ _. inr (no_bytes (λ file. file.bytes.items) _ _ w.in_default.ensures first), λ _. refl)
    ]
