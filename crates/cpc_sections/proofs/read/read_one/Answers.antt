use Rattle.cpc_num.specs.declared.kinds.Kind.TheVariants as K
use Rattle.std.proofs.Common.{sym, ◌∙◌}
use Rattle.cpc_sections.proofs.Reading.{some_read, none_read, last_read}
use Rattle.cpc_sections.proofs.read.read_one.Goals as goal

pub returns-then-is_some-clause-value : goal.returns-then-is_some-clause-value
returns-then-is_some-clause-value c = λ v at. some_read K.Int c.read_kind-int.result v (sym c.is_some.ensures ∙ c.if-is_some.true) (c.read_kind-int.ensures.value v at)

pub returns-then-is_some-2-clause-value : goal.returns-then-is_some-2-clause-value
returns-then-is_some-2-clause-value c = λ v at. some_read K.Long c.read_kind-long.result v (sym c.is_some-2.ensures ∙ c.if-is_some-2.true) (c.read_kind-long.ensures.value v at)

pub returns-then-is_some-3-clause-value : goal.returns-then-is_some-3-clause-value
returns-then-is_some-3-clause-value c = λ v at. some_read K.Char c.read_kind-char.result v (sym c.is_some-3.ensures ∙ c.if-is_some-3.true) (c.read_kind-char.ensures.value v at)

pub returns-then-is_some-4-clause-value : goal.returns-then-is_some-4-clause-value
returns-then-is_some-4-clause-value c = λ v at. some_read K.UChar c.read_kind-byte.result v (sym c.is_some-4.ensures ∙ c.if-is_some-4.true) (c.read_kind-byte.ensures.value v at)

pub returns-then-is_some-5-clause-value : goal.returns-then-is_some-5-clause-value
returns-then-is_some-5-clause-value c = λ v at. some_read K.UInt c.read_kind-unsigned.result v (sym c.is_some-5.ensures ∙ c.if-is_some-5.true) (c.read_kind-unsigned.ensures.value v at)

pub returns-clause-value : goal.returns-clause-value
returns-clause-value c = λ v at.
    last_read c.read_kind.result v
    (none_read K.Int c.read_kind-int.result v (sym c.is_some.ensures ∙ c.if-is_some.false) (c.read_kind-int.ensures.value v at))
    (none_read K.Long c.read_kind-long.result v (sym c.is_some-2.ensures ∙ c.if-is_some-2.false) (c.read_kind-long.ensures.value v at))
    (none_read K.Char c.read_kind-char.result v (sym c.is_some-3.ensures ∙ c.if-is_some-3.false) (c.read_kind-char.ensures.value v at))
    (none_read K.UChar c.read_kind-byte.result v (sym c.is_some-4.ensures ∙ c.if-is_some-4.false) (c.read_kind-byte.ensures.value v at))
    (none_read K.UInt c.read_kind-unsigned.result v (sym c.is_some-5.ensures ∙ c.if-is_some-5.false) (c.read_kind-unsigned.ensures.value v at))
    (c.read_kind.ensures.value v at)
