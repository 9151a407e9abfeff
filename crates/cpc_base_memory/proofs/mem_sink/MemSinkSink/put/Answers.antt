use Rattle.std.proofs.Common.{◌↔◌, IsTrue, refl, subst, inr}
use Rattle.cpc_base_memory.specs.Plan.{FailsNext}
use Rattle.cpc_base_memory.proofs.MemoryLemmas.{planned}
use Rattle.cpc_base_memory.proofs.mem_sink.MemSinkSink.put.Goals.{then-fails-via-then-fails, then-fails-via-else-fails+then-self}
use Rattle.cpc_base_memory.proofs.mem_sink.MemSinkSink.put.Goals as goal

pub returns-then-fails-clause-fails : goal.returns-then-fails-clause-fails
returns-then-fails-clause-fails c =
    let says = subst (λ held. IsTrue c.fails_next-fails.result ↔ FailsNext held.plan) c.self.view_is c.fails_next-fails.ensures.fails in
    elim c.then-fails.branch [
      | then-fails-via-then-fails w ↦ (λ _. planned c.args.self.now.plan c.fails_next-fails.result says w.if-fails.true, λ _. refl)
      | then-fails-via-else-fails+then-self w ↦ (λ _. inr w.if-self.true, λ _. refl)
    ]
