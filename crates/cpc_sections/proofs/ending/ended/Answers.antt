use Rattle.std.proofs.Common.{subst}
use Rattle.cpc_sections.specs.Reads.{ReadsAs}
use Rattle.cpc_sections.proofs.Leaving.{read_end, unread_end}
use Rattle.cpc_sections.proofs.ending.ended.Goals as goal

pub returns-in-Some-clause-end : goal.returns-in-Some-clause-end
returns-in-Some-clause-end c = λ names.
    rw (c.if-no_copy.false) (read_end names c.args.store.now c.args.function c.args.value c.in-Some.cells (λ cells e. subst (λ o. ReadsAs o cells) c.in-Some.is (c.in_ok-cells.ensures.value cells e)))

pub returns-in-None-clause-end : goal.returns-in-None-clause-end
returns-in-None-clause-end c = λ names.
    rw (c.if-no_copy.false) (unread_end names c.args.store.now c.args.function c.args.value (λ cells e. subst (λ o. ReadsAs o cells) c.in-None.is (c.in_ok-cells.ensures.value cells e)))
