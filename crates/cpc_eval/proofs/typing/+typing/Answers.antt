use Rattle.std.proofs.Common.{◌∙◌, ap}
use Rattle.cpc_eval_index.specs.Indexed.{items_of}
use Rattle.cpc_tree.specs.Typing as T
use Rattle.cpc_eval.specs.Around.{context_of}
use Rattle.cpc_eval.proofs.TypedParts.{unary_at, binary_at, index_at, choose_at, name_at, size_at, and_at, or_at, integer_at, character_at}
use Rattle.cpc_eval.proofs.typing.+typing.Goals as goal

pub typed-returns-in-Name : goal.typed-returns-in-Name
typed-returns-in-Name t c = λ names told.
    name_at names (context_of names c.args.around.now) c.args.e.now c.in-Name.word _ c.in-Name.is (c.name_type.ensures names ∙ ap T.type_named (c.meant.ensures.meant names told))

pub typed-returns-in-Integer : goal.typed-returns-in-Integer
typed-returns-in-Integer t c = λ names told. integer_at names (context_of names c.args.around.now) c.args.e.now _ _ _ _ c.in-Integer.is (c.int_value.ensures names)

pub typed-returns-in-Character : goal.typed-returns-in-Character
typed-returns-in-Character t c = λ names told. character_at names (context_of names c.args.around.now) c.args.e.now _ _ _ c.in-Character.is (c.int_value-in-Character.ensures names)

pub typed-returns-in-SizeOf : goal.typed-returns-in-SizeOf
typed-returns-in-SizeOf t c = λ names told. size_at names (context_of names c.args.around.now) c.args.e.now _ _ _ c.in-SizeOf.is (c.int_value-in-SizeOf.ensures names)

pub typed-returns-in-And : goal.typed-returns-in-And
typed-returns-in-And t c = λ names told. and_at names (context_of names c.args.around.now) c.args.e.now _ c.in-And.left c.in-And.right _ c.in-And.is (c.int_value-in-And.ensures names)

pub typed-returns-in-Or : goal.typed-returns-in-Or
typed-returns-in-Or t c = λ names told. or_at names (context_of names c.args.around.now) c.args.e.now _ c.in-Or.left c.in-Or.right _ c.in-Or.is (c.int_value-in-Or.ensures names)

pub typed_within-returns-in-Unary : goal.typed_within-returns-in-Unary
typed_within-returns-in-Unary t c = λ names told.
    unary_at names (context_of names c.args.around.now) c.args.e.now _ _ c.in-Unary.operand c.deref.result.now c.deref-in-Unary.result.now _ _ _ c.in-Unary.is c.deref.ensures c.deref-in-Unary.ensures
    (c.is_named.ensures names) (c.typed.ensures names told) (c.unary_form.ensures names)

pub typed_within-returns-in-Binary : goal.typed_within-returns-in-Binary
typed_within-returns-in-Binary t c = λ names told.
    binary_at names (context_of names c.args.around.now) c.args.e.now _ _ c.in-Binary.left c.in-Binary.right _ _ _ _ _ c.in-Binary.is c.deref-in-Binary.ensures c.deref-in-Binary-2.ensures
    (c.typed-in-Binary.ensures names told) (c.typed-in-Binary-2.ensures names told) (c.binary_form.ensures names (items_of names c.args.around.now.index.now))

pub typed_within-returns-in-Choose : goal.typed_within-returns-in-Choose
typed_within-returns-in-Choose t c = λ names told.
    choose_at names (context_of names c.args.around.now) c.args.e.now _ c.in-Choose.test c.in-Choose.yes c.in-Choose.no _ _ _ _ _ c.in-Choose.is c.deref-in-Choose.ensures c.deref-in-Choose-2.ensures
    (c.typed-in-Choose.ensures names told) (c.typed-in-Choose-2.ensures names told) (c.choice_form.ensures names)

pub typed_within-returns-in-Index : goal.typed_within-returns-in-Index
typed_within-returns-in-Index t c = λ names told.
    index_at names (context_of names c.args.around.now) c.args.e.now _ c.in-Index.operand c.in-Index.index _ _ _ _ _ c.in-Index.is c.deref-in-Index.ensures c.deref-in-Index-2.ensures
    (c.typed-in-Index.ensures names told) (c.typed-in-Index-2.ensures names told) (c.index_form.ensures names (items_of names c.args.around.now.index.now))
