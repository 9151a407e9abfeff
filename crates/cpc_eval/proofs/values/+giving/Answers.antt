use Rattle.std.proofs.Common.{◌∙◌, true, false, Ok, refl, ap, sym}
use Rattle.cpc_num.specs.declared.kinds.Kind.TheVariants.{Int}
use Rattle.cpc_tree.specs.Erase.{expr_of}
use Rattle.cpc_tree.specs.Syntax.{EUnary}
use Rattle.cpc_tree.specs.declared.program.UnaryOp.TheVariants.{AddressOf}
use Rattle.cpc_meaning.specs.Eval as E
use Rattle.cpc_shapes.specs.Forms.{is_named}
use Rattle.cpc_eval_index.specs.Indexed.{items_of}
use Rattle.cpc_eval_values.proofs.Meeting.{meets_as, meets_then, meets_fault}
use Rattle.cpc_eval.specs.Around.{context_of, type_in}
use Rattle.cpc_eval.specs.Shapes.{types_of, shapes_of}
use Rattle.cpc_eval.specs.Spots.{spot_of}
use Rattle.cpc_eval.proofs.EvalParts as V
use Rattle.cpc_eval.proofs.Forms.{meets_same, test_is, unary_seen, cast_seen, binary_seen, and_seen, or_seen, index_seen, choose_seen, member_seen, arrow_seen}
use Rattle.cpc_eval.proofs.Giving.{given_err, located_err, given_as, located_by}
use Rattle.cpc_eval.proofs.Literals.{literal_is}
use Rattle.cpc_eval.proofs.OtherForms.{address_met, unary_other, operator_other, branch_other, place_other, place_sign}
use Rattle.cpc_eval.proofs.PlaceParts as P
use Rattle.cpc_eval.proofs.TypedParts.{typed_as, unary_by, binary_by, index_by, choose_by, member_by, arrow_by, size_at, and_at, or_at, cast_at, integer_at, character_at}
use Rattle.cpc_eval.proofs.values.+giving.Goals as goal

-- ---- values

pub given-returns-in-Name-clause-value : goal.given-returns-in-Name-clause-value
given-returns-in-Name-clause-value t c = λ names told n.
    rw c.in-Name.is (c.given_name.ensures.value names told)

pub given-returns-in-Name-clause-typed : goal.given-returns-in-Name-clause-typed
given-returns-in-Name-clause-typed t c = λ names told.
    rw c.in-Name.is (c.given_name.ensures.typed names told)

pub given-returns-in-Integer-clause-value : goal.given-returns-in-Integer-clause-value
given-returns-in-Integer-clause-value t c = λ names told n.
    V.integer_valued (context_of names c.args.around.now) (expr_of names c.args.e.now) _ _ _ (ap (expr_of names) c.in-Integer.is) n (literal_is c.in-Integer.kind c.in-Integer.value _ (c.integer.ensures.value names))

pub given-returns-in-Integer-clause-typed : goal.given-returns-in-Integer-clause-typed
given-returns-in-Integer-clause-typed t c = λ names told.
    integer_at names (context_of names c.args.around.now) c.args.e.now _ _ _ _ c.in-Integer.is (c.int_value.ensures names)

pub given-returns-in-Character-clause-value : goal.given-returns-in-Character-clause-value
given-returns-in-Character-clause-value t c = λ names told n.
    V.character_valued (context_of names c.args.around.now) (expr_of names c.args.e.now) _ _ (ap (expr_of names) c.in-Character.is) n (literal_is Int c.in-Character.value _ (c.integer-in-Character.ensures.value names))

pub given-returns-in-Character-clause-typed : goal.given-returns-in-Character-clause-typed
given-returns-in-Character-clause-typed t c = λ names told.
    character_at names (context_of names c.args.around.now) c.args.e.now _ _ _ c.in-Character.is (c.int_value-in-Character.ensures names)

pub given-returns-in-SizeOf-clause-value : goal.given-returns-in-SizeOf-clause-value
given-returns-in-SizeOf-clause-value t c = λ names told n.
    c.with_type.ensures.value names _ (V.size_valued (context_of names c.args.around.now) (expr_of names c.args.e.now) _ _ (ap (expr_of names) c.in-SizeOf.is) n (c.size_of.ensures.value names told.apart))

pub given-returns-in-SizeOf-clause-typed : goal.given-returns-in-SizeOf-clause-typed
given-returns-in-SizeOf-clause-typed t c = λ names told.
    c.with_type.ensures.typed names _ (size_at names (context_of names c.args.around.now) c.args.e.now _ _ _ c.in-SizeOf.is (c.int_value-in-SizeOf.ensures names))

pub given-returns-in-Text-clause-value : goal.given-returns-in-Text-clause-value
given-returns-in-Text-clause-value t c = λ names told n.
    rw c.in-Text.is tt

pub given-returns-in-CallIn-clause-value : goal.given-returns-in-CallIn-clause-value
given-returns-in-CallIn-clause-value t c = λ names told n.
    rw c.in-CallIn.is tt

pub given-returns-in-Unary-clause-value : goal.given-returns-in-Unary-clause-value
given-returns-in-Unary-clause-value t c = λ names told n.
    V.unary_valued (context_of names c.args.around.now) (expr_of names c.args.e.now) _ _ _ (unary_seen names c.args.e.now _ _ _ _ c.in-Unary.is refl) (c.given_by_sign.ensures.value names told n)

pub given-returns-in-Binary-clause-value : goal.given-returns-in-Binary-clause-value
given-returns-in-Binary-clause-value t c = λ names told n.
    V.binary_as (context_of names c.args.around.now) (expr_of names c.args.e.now) _ _ _ _ (binary_seen names c.args.e.now _ _ _ _ _ _ c.in-Binary.is refl refl) (c.given_by_operator.ensures.value names told n)

pub given-returns-in-Cast-clause-value : goal.given-returns-in-Cast-clause-value
given-returns-in-Cast-clause-value t c = λ names told n.
    V.cast_as (context_of names c.args.around.now) (expr_of names c.args.e.now) _ _ _ (cast_seen names c.args.e.now _ _ _ _ c.in-Cast.is refl) (c.given_by_operator-in-Cast.ensures.value names told n)

pub given-returns-in-And-clause-value : goal.given-returns-in-And-clause-value
given-returns-in-And-clause-value t c = λ names told n.
    V.and_as (context_of names c.args.around.now) (expr_of names c.args.e.now) _ _ _ (and_seen names c.args.e.now _ _ _ _ _ c.in-And.is refl refl) (c.given_by_branches.ensures.value names told n)

pub given-returns-in-Or-clause-value : goal.given-returns-in-Or-clause-value
given-returns-in-Or-clause-value t c = λ names told n.
    V.or_as (context_of names c.args.around.now) (expr_of names c.args.e.now) _ _ _ (or_seen names c.args.e.now _ _ _ _ _ c.in-Or.is refl refl) (c.given_by_branches-in-Or.ensures.value names told n)

pub given-returns-in-Choose-clause-value : goal.given-returns-in-Choose-clause-value
given-returns-in-Choose-clause-value t c = λ names told n.
    V.choose_as (context_of names c.args.around.now) (expr_of names c.args.e.now) _ _ _ _ (choose_seen names c.args.e.now _ _ _ _ _ _ _ c.in-Choose.is refl refl refl) (c.given_by_branches-in-Choose.ensures.value names told n)

pub given-returns-in-Index-clause-value : goal.given-returns-in-Index-clause-value
given-returns-in-Index-clause-value t c = λ names told n.
    V.index_valued (context_of names c.args.around.now) (expr_of names c.args.e.now) _ _ _ (index_seen names c.args.e.now _ _ _ _ _ c.in-Index.is refl refl) (c.given_there.ensures.value names told n)

pub given-returns-in-Member-clause-value : goal.given-returns-in-Member-clause-value
given-returns-in-Member-clause-value t c = λ names told n.
    V.member_valued (context_of names c.args.around.now) (expr_of names c.args.e.now) _ _ _ (member_seen names c.args.e.now _ _ _ _ c.in-Member.is refl) (c.given_there-in-Member.ensures.value names told n)

pub given-returns-in-Arrow-clause-value : goal.given-returns-in-Arrow-clause-value
given-returns-in-Arrow-clause-value t c = λ names told n.
    V.arrow_valued (context_of names c.args.around.now) (expr_of names c.args.e.now) _ _ _ (arrow_seen names c.args.e.now _ _ _ _ c.in-Arrow.is refl) (c.given_there-in-Arrow.ensures.value names told n)

-- ---- an operator on one operand

pub given_by_sign-returns-in-Dereference-clause-value : goal.given_by_sign-returns-in-Dereference-clause-value
given_by_sign-returns-in-Dereference-clause-value t c = λ names told n.
    V.star_valued (context_of names c.args.around.now) (expr_of names c.args.e.now) _ _
    (unary_seen names c.args.e.now _ _ _ _ c.in-Unary.is refl ∙ ap (λ op. EUnary op (expr_of names c.in-Unary.operand.value)) c.in-Dereference.is) (c.given_there.ensures.value names told n)

pub given_by_sign-returns-in-AddressOf-clause-value : goal.given_by_sign-returns-in-AddressOf-clause-value
given_by_sign-returns-in-AddressOf-clause-value t c = λ names told n.
    V.address_valued (context_of names c.args.around.now) (expr_of names c.args.e.now) _ _ (unary_seen names c.args.e.now _ _ _ _ c.in-Unary.is c.deref.ensures ∙ ap (λ op. EUnary op (expr_of names c.deref.result.now)) c.in-AddressOf.is) n (c.address.ensures.value names told)

pub given_by_sign-returns-in-AddressOf-clause-typed : goal.given_by_sign-returns-in-AddressOf-clause-typed
given_by_sign-returns-in-AddressOf-clause-typed t c = λ names told.
    given_as names (context_of names c.args.around.now) (expr_of names c.args.e.now) _ _ (unary_seen names c.args.e.now _ _ _ _ c.in-Unary.is c.deref.ensures ∙ ap (λ op. EUnary op (expr_of names c.deref.result.now)) c.in-AddressOf.is) (c.address.ensures.typed names told)

pub given_by_sign-returns-in_err-inner-in_default-op-clause-value : goal.given_by_sign-returns-in_err-inner-in_default-op-clause-value
given_by_sign-returns-in_err-inner-in_default-op-clause-value t c = λ names told n.
    given_err names c.from_residual.result _ _ c.from_residual.ensures.1
    (V.sign_fails (context_of names c.args.around.now) (expr_of names c.args.e.now) _ _ _ (unary_seen names c.args.e.now _ _ _ _ c.in-Unary.is c.deref-in_default-op.ensures) c.in_default-op.not-Dereference c.in_default-op.not-AddressOf n (c.in_err-inner-in_default-op.ensures.value names told))

pub given_by_sign-returns-in_ok-inner-in_default-op-clause-value : goal.given_by_sign-returns-in_ok-inner-in_default-op-clause-value
given_by_sign-returns-in_ok-inner-in_default-op-clause-value t c = λ names told n.
    c.with_type.ensures.value names _
    (V.sign_valued (context_of names c.args.around.now) (expr_of names c.args.e.now) _ _ _ _ (unary_seen names c.args.e.now _ _ _ _ c.in-Unary.is c.deref-in_default-op.ensures) c.in_default-op.not-Dereference c.in_default-op.not-AddressOf n (c.in_ok-inner-in_default-op.ensures.value names told) (c.apply.ensures.value names))

pub given_by_sign-returns-in_ok-inner-in_default-op-clause-typed : goal.given_by_sign-returns-in_ok-inner-in_default-op-clause-typed
given_by_sign-returns-in_ok-inner-in_default-op-clause-typed t c = λ names told.
    c.with_type.ensures.typed names _
    (typed_as (context_of names c.args.around.now) (expr_of names c.args.e.now) _ _ (unary_seen names c.args.e.now _ _ _ _ c.in-Unary.is c.deref-in_default-op.ensures)
    (unary_by (context_of names c.args.around.now) c.in-Unary.op _ _ _ _ (c.is_named.ensures names ∙ ap (λ x. is_named (expr_of names x)) (c.deref-in_default-op-2.ensures ∙ sym c.deref-in_default-op.ensures)) (c.in_ok-inner-in_default-op.ensures.typed names told) (c.unary_form-of.ensures names)))

pub given_by_sign-returns-in_default : goal.given_by_sign-returns-in_default
given_by_sign-returns-in_default t c = record {
  value = λ names told n. unary_other names (context_of names c.args.around.now) c.args.e.now _ c.in_default.not-Unary;
  typed = λ names told. tt;
  lawful = tt;
}

pub address-returns-in-Name-clause-value : goal.address-returns-in-Name-clause-value
address-returns-in-Name-clause-value t c = λ names told n.
    rw c.in-Name.is (c.address_of_name.ensures.value names told)

pub address-returns-in-Name-clause-typed : goal.address-returns-in-Name-clause-typed
address-returns-in-Name-clause-typed t c = λ names told.
    rw c.in-Name.is (c.address_of_name.ensures.typed names told)

pub address-returns-in_err-there-in_default-clause-value : goal.address-returns-in_err-there-in_default-clause-value
address-returns-in_err-there-in_default-clause-value t c = λ names told n.
    given_err names c.from_residual.result _ _ c.from_residual.ensures.1
    (address_met names (context_of names c.args.around.now) c.args.e.now _ c.in_default.not-Name (meets_fault _ (E.place (context_of names c.args.around.now) (expr_of names c.args.e.now)) E.pointer_to (c.in_err-there-in_default.ensures.value names told n)))

pub address-returns-in_ok-there-in_default-clause-value : goal.address-returns-in_ok-there-in_default-clause-value
address-returns-in_ok-there-in_default-clause-value t c = λ names told n.
    c.with_type.ensures.value names _
    (address_met names (context_of names c.args.around.now) c.args.e.now _ c.in_default.not-Name
    (meets_then (spot_of c.in_ok-there-in_default.there.spot) (E.place (context_of names c.args.around.now) (expr_of names c.args.e.now)) E.pointer_to _ (c.in_ok-there-in_default.ensures.value names told n) (c.pointer_to.ensures.value names)))

pub address-returns-in_ok-there-in_default-clause-typed : goal.address-returns-in_ok-there-in_default-clause-typed
address-returns-in_ok-there-in_default-clause-typed t c = λ names told.
    c.with_type.ensures.typed names _
    (unary_by (context_of names c.args.around.now) AddressOf (expr_of names c.args.e.now) _ _ _ (c.is_named.ensures names) (c.in_ok-there-in_default.ensures.typed names told) (c.unary_form-of.ensures names))

-- ---- tests, and what a place holds

pub test-returns-in_err-given : goal.test-returns-in_err-given
test-returns-in_err-given t c = λ names told n.
    meets_same c.from_residual.result _ _ c.from_residual.ensures.1 (V.test_fails (context_of names c.args.around.now) (expr_of names c.args.e.now) _ n (c.in_err-given.ensures.value names told))

pub test-returns : goal.test-returns
test-returns t c = λ names told n.
    V.test_valued (context_of names c.args.around.now) (expr_of names c.args.e.now) _ _ n (c.in_ok-given.ensures.value names told) (c.holds.ensures names)

pub given_there-returns-in_err-there-clause-value : goal.given_there-returns-in_err-there-clause-value
given_there-returns-in_err-there-clause-value t c = λ names told n.
    given_err names c.from_residual.result _ _ c.from_residual.ensures.1 (P.there_fails (context_of names c.args.around.now) (expr_of names c.args.e.now) _ n (c.in_err-there.ensures.value names told))

pub given_there-returns-clause-value : goal.given_there-returns-clause-value
given_there-returns-clause-value t c = λ names told n.
    c.with_type.ensures.value names _
    (P.there_read (context_of names c.args.around.now) (expr_of names c.args.e.now) (spot_of c.in_ok-there.there.spot) (types_of names c.in_ok-there.there.typed) _ _ n (c.in_ok-there.ensures.value names told) (c.in_ok-there.ensures.typed names told) (c.place_of.ensures names)
    (c.read-value.ensures.value names))

pub given_there-returns-clause-typed : goal.given_there-returns-clause-typed
given_there-returns-clause-typed t c = λ names told.
    c.with_type.ensures.typed names _ (c.in_ok-there.ensures.typed names told)

-- ---- two operands, and casts

pub given_by_operator-returns-in_err-first-in-Binary-clause-value : goal.given_by_operator-returns-in_err-first-in-Binary-clause-value
given_by_operator-returns-in_err-first-in-Binary-clause-value t c = λ names told n.
    given_err names c.from_residual.result _ _ c.from_residual.ensures.1
    (V.binary_fails_first (context_of names c.args.around.now) (expr_of names c.args.e.now) _ _ _ _ (binary_seen names c.args.e.now _ _ _ _ _ _ c.in-Binary.is c.deref.ensures refl) n (c.in_err-first-in-Binary.ensures.value names told))

pub given_by_operator-returns-in_err-second-in-Binary-clause-value : goal.given_by_operator-returns-in_err-second-in-Binary-clause-value
given_by_operator-returns-in_err-second-in-Binary-clause-value t c = λ names told n.
    given_err names c.from_residual-in_err-second-in-Binary.result _ _ c.from_residual-in_err-second-in-Binary.ensures.1
    (V.binary_fails_second (context_of names c.args.around.now) (expr_of names c.args.e.now) _ _ _ _ _ (binary_seen names c.args.e.now _ _ _ _ _ _ c.in-Binary.is c.deref.ensures c.deref-in-Binary.ensures) n (c.in_ok-first-in-Binary.ensures.value names told) (c.in_err-second-in-Binary.ensures.value names told))

pub given_by_operator-returns-in_ok-second-in-Binary-clause-value : goal.given_by_operator-returns-in_ok-second-in-Binary-clause-value
given_by_operator-returns-in_ok-second-in-Binary-clause-value t c = λ names told n.
    let k = context_of names c.args.around.now in
    c.with_type.ensures.value names _
    (V.binary_valued k (expr_of names c.args.e.now) c.in-Binary.op _ _ _ _ _ (binary_seen names c.args.e.now _ _ _ _ _ _ c.in-Binary.is c.deref.ensures c.deref-in-Binary.ensures) n (c.in_ok-first-in-Binary.ensures.value names told) (c.in_ok-second-in-Binary.ensures.value names told)
    (c.operate_on.ensures.value names (type_in k (expr_of names c.deref.result.now)) (type_in k (expr_of names c.deref-in-Binary.result.now)) told.apart (c.in_ok-first-in-Binary.ensures.typed names told) (c.in_ok-second-in-Binary.ensures.typed names told)))

pub given_by_operator-returns-in_ok-second-in-Binary-clause-typed : goal.given_by_operator-returns-in_ok-second-in-Binary-clause-typed
given_by_operator-returns-in_ok-second-in-Binary-clause-typed t c = λ names told.
    c.with_type.ensures.typed names _
    (typed_as (context_of names c.args.around.now) (expr_of names c.args.e.now) _ _ (binary_seen names c.args.e.now _ _ _ _ _ _ c.in-Binary.is c.deref.ensures c.deref-in-Binary.ensures)
    (binary_by (context_of names c.args.around.now) c.in-Binary.op (expr_of names c.deref.result.now) (expr_of names c.deref-in-Binary.result.now) _ _ _ (c.in_ok-first-in-Binary.ensures.typed names told) (c.in_ok-second-in-Binary.ensures.typed names told) (c.binary_form-of.ensures names (items_of names c.args.around.now.index.now))))

pub given_by_operator-returns-in_err-inner-in-Cast-clause-value : goal.given_by_operator-returns-in_err-inner-in-Cast-clause-value
given_by_operator-returns-in_err-inner-in-Cast-clause-value t c = λ names told n.
    given_err names c.from_residual-in_err-inner-in-Cast.result _ _ c.from_residual-in_err-inner-in-Cast.ensures.1
    (V.cast_fails (context_of names c.args.around.now) (expr_of names c.args.e.now) _ _ _ (cast_seen names c.args.e.now _ _ _ _ c.in-Cast.is c.deref-in-Cast.ensures) n (c.in_err-inner-in-Cast.ensures.value names told))

pub given_by_operator-returns-in_ok-inner-in-Cast-clause-value : goal.given_by_operator-returns-in_ok-inner-in-Cast-clause-value
given_by_operator-returns-in_ok-inner-in-Cast-clause-value t c = λ names told n.
    c.with_type-in-Cast.ensures.value names _
    (V.cast_valued (context_of names c.args.around.now) (expr_of names c.args.e.now) _ _ _ _ (cast_seen names c.args.e.now _ _ _ _ c.in-Cast.is c.deref-in-Cast.ensures) n (c.in_ok-inner-in-Cast.ensures.value names told) (c.at_type.ensures.value names))

pub given_by_operator-returns-in_ok-inner-in-Cast-clause-typed : goal.given_by_operator-returns-in_ok-inner-in-Cast-clause-typed
given_by_operator-returns-in_ok-inner-in-Cast-clause-typed t c = λ names told.
    c.with_type-in-Cast.ensures.typed names _ (cast_at names (context_of names c.args.around.now) c.args.e.now _ _ _ c.in-Cast.is)

pub given_by_operator-returns-in_default : goal.given_by_operator-returns-in_default
given_by_operator-returns-in_default t c = record {
  value = λ names told n. operator_other names (context_of names c.args.around.now) c.args.e.now _ c.in_default.not-Binary c.in_default.not-Cast;
  typed = λ names told. tt;
  lawful = tt;
}

-- ---- one of two operands by a test

pub given_by_branches-returns-in_err-test-in-And-clause-value : goal.given_by_branches-returns-in_err-test-in-And-clause-value
given_by_branches-returns-in_err-test-in-And-clause-value t c = λ names told n.
    given_err names c.from_residual.result _ _ c.from_residual.ensures.1
    (V.and_fails (context_of names c.args.around.now) (expr_of names c.args.e.now) _ _ _ (and_seen names c.args.e.now _ _ _ _ _ c.in-And.is c.deref.ensures refl) n (c.in_err-test-in-And.ensures names told))

pub given_by_branches-returns-in_err-second-in-And-clause-value : goal.given_by_branches-returns-in_err-second-in-And-clause-value
given_by_branches-returns-in_err-second-in-And-clause-value t c = λ names told n.
    given_err names c.from_residual-in_err-second-in-And.result _ _ c.from_residual-in_err-second-in-And.ensures.1
    (V.and_goes_wrong (context_of names c.args.around.now) (expr_of names c.args.e.now) _ _ _ (and_seen names c.args.e.now _ _ _ _ _ c.in-And.is c.deref.ensures c.deref-then-branch.ensures) n
    (λ m. test_is _ true _ c.if-branch.true (c.in_ok-test-in-And.ensures names told m)) (c.in_err-second-in-And.ensures.value names told))

pub given_by_branches-returns-in_ok-second-in-And-clause-value : goal.given_by_branches-returns-in_ok-second-in-And-clause-value
given_by_branches-returns-in_ok-second-in-And-clause-value t c = λ names told n.
    V.and_goes (context_of names c.args.around.now) (expr_of names c.args.e.now) _ _ _ _ (and_seen names c.args.e.now _ _ _ _ _ c.in-And.is c.deref.ensures c.deref-then-branch.ensures) n
    (λ m. test_is _ true _ c.if-branch.true (c.in_ok-test-in-And.ensures names told m)) (c.in_ok-second-in-And.ensures.value names told) (c.tested.ensures.value names)

pub given_by_branches-returns-in_ok-second-in-And-clause-typed : goal.given_by_branches-returns-in_ok-second-in-And-clause-typed
given_by_branches-returns-in_ok-second-in-And-clause-typed t c = λ names told.
    c.tested.ensures.typed names _ (and_at names (context_of names c.args.around.now) c.args.e.now _ c.in-And.left c.in-And.right _ c.in-And.is refl)

pub given_by_branches-returns-else-branch-clause-value : goal.given_by_branches-returns-else-branch-clause-value
given_by_branches-returns-else-branch-clause-value t c = λ names told n.
    meets_as _ (Ok (E.truth_value false)) _ (ap Ok (c.truth.ensures.value names))
    (V.and_stops (context_of names c.args.around.now) (expr_of names c.args.e.now) _ _ (and_seen names c.args.e.now _ _ _ _ _ c.in-And.is c.deref.ensures refl) n
    (λ m. test_is _ false _ c.if-branch.false (c.in_ok-test-in-And.ensures names told m)))

pub given_by_branches-returns-else-branch-clause-typed : goal.given_by_branches-returns-else-branch-clause-typed
given_by_branches-returns-else-branch-clause-typed t c = λ names told.
    and_at names (context_of names c.args.around.now) c.args.e.now _ c.in-And.left c.in-And.right _ c.in-And.is (c.truth.ensures.typed names)

pub given_by_branches-returns-in_err-test-in-Or-clause-value : goal.given_by_branches-returns-in_err-test-in-Or-clause-value
given_by_branches-returns-in_err-test-in-Or-clause-value t c = λ names told n.
    given_err names c.from_residual-in_err-test-in-Or.result _ _ c.from_residual-in_err-test-in-Or.ensures.1
    (V.or_fails (context_of names c.args.around.now) (expr_of names c.args.e.now) _ _ _ (or_seen names c.args.e.now _ _ _ _ _ c.in-Or.is c.deref-in-Or.ensures refl) n (c.in_err-test-in-Or.ensures names told))

pub given_by_branches-returns-in_err-second-in-Or-clause-value : goal.given_by_branches-returns-in_err-second-in-Or-clause-value
given_by_branches-returns-in_err-second-in-Or-clause-value t c = λ names told n.
    given_err names c.from_residual-in_err-second-in-Or.result _ _ c.from_residual-in_err-second-in-Or.ensures.1
    (V.or_goes_wrong (context_of names c.args.around.now) (expr_of names c.args.e.now) _ _ _ (or_seen names c.args.e.now _ _ _ _ _ c.in-Or.is c.deref-in-Or.ensures c.deref-else-branch-2.ensures) n
    (λ m. test_is _ false _ c.if-branch-2.false (c.in_ok-test-in-Or.ensures names told m)) (c.in_err-second-in-Or.ensures.value names told))

pub given_by_branches-returns-in_ok-second-in-Or-clause-value : goal.given_by_branches-returns-in_ok-second-in-Or-clause-value
given_by_branches-returns-in_ok-second-in-Or-clause-value t c = λ names told n.
    V.or_goes (context_of names c.args.around.now) (expr_of names c.args.e.now) _ _ _ _ (or_seen names c.args.e.now _ _ _ _ _ c.in-Or.is c.deref-in-Or.ensures c.deref-else-branch-2.ensures) n
    (λ m. test_is _ false _ c.if-branch-2.false (c.in_ok-test-in-Or.ensures names told m)) (c.in_ok-second-in-Or.ensures.value names told) (c.tested-else-branch-2.ensures.value names)

pub given_by_branches-returns-in_ok-second-in-Or-clause-typed : goal.given_by_branches-returns-in_ok-second-in-Or-clause-typed
given_by_branches-returns-in_ok-second-in-Or-clause-typed t c = λ names told.
    c.tested-else-branch-2.ensures.typed names _ (or_at names (context_of names c.args.around.now) c.args.e.now _ c.in-Or.left c.in-Or.right _ c.in-Or.is refl)

pub given_by_branches-returns-then-branch-2-clause-value : goal.given_by_branches-returns-then-branch-2-clause-value
given_by_branches-returns-then-branch-2-clause-value t c = λ names told n.
    meets_as _ (Ok (E.truth_value true)) _ (ap Ok (c.truth-then-branch-2.ensures.value names))
    (V.or_stops (context_of names c.args.around.now) (expr_of names c.args.e.now) _ _ (or_seen names c.args.e.now _ _ _ _ _ c.in-Or.is c.deref-in-Or.ensures refl) n
    (λ m. test_is _ true _ c.if-branch-2.true (c.in_ok-test-in-Or.ensures names told m)))

pub given_by_branches-returns-then-branch-2-clause-typed : goal.given_by_branches-returns-then-branch-2-clause-typed
given_by_branches-returns-then-branch-2-clause-typed t c = λ names told.
    or_at names (context_of names c.args.around.now) c.args.e.now _ c.in-Or.left c.in-Or.right _ c.in-Or.is (c.truth-then-branch-2.ensures.typed names)

pub given_by_branches-returns-in_err-test-in-Choose-clause-value : goal.given_by_branches-returns-in_err-test-in-Choose-clause-value
given_by_branches-returns-in_err-test-in-Choose-clause-value t c = λ names told n.
    given_err names c.from_residual-in_err-test-in-Choose.result _ _ c.from_residual-in_err-test-in-Choose.ensures.1
    (V.choose_fails (context_of names c.args.around.now) (expr_of names c.args.e.now) _ _ _ _ (choose_seen names c.args.e.now _ _ _ _ _ _ _ c.in-Choose.is c.deref-in-Choose.ensures refl refl) n (c.in_err-test-in-Choose.ensures names told))

pub given_by_branches-returns-in_err-arm-in-Choose-clause-value : goal.given_by_branches-returns-in_err-arm-in-Choose-clause-value
given_by_branches-returns-in_err-arm-in-Choose-clause-value t c = λ names told n.
    given_err names c.from_residual-in_err-arm-in-Choose.result _ _ c.from_residual-in_err-arm-in-Choose.ensures.1
    (V.choose_yes_fails (context_of names c.args.around.now) (expr_of names c.args.e.now) _ _ _ _ (choose_seen names c.args.e.now _ _ _ _ _ _ _ c.in-Choose.is c.deref-in-Choose.ensures c.deref-then-branch-3.ensures refl) n
    (λ m. test_is _ true _ c.if-branch-3.true (c.in_ok-test-in-Choose.ensures names told m)) (c.in_err-arm-in-Choose.ensures.value names told))

pub given_by_branches-returns-in_ok-arm-in-Choose-clause-value : goal.given_by_branches-returns-in_ok-arm-in-Choose-clause-value
given_by_branches-returns-in_ok-arm-in-Choose-clause-value t c = λ names told n.
    c.with_type.ensures.value names _
    (V.choose_yes (context_of names c.args.around.now) (expr_of names c.args.e.now) _ _ _ (types_of names c.choice_form-of.result) (shapes_of names c.used_if.result) _ _ (choose_seen names c.args.e.now _ _ _ _ _ _ _ c.in-Choose.is c.deref-in-Choose.ensures c.deref-then-branch-3.ensures c.deref-then-branch-3-2.ensures) n
    (λ m. test_is _ true _ c.if-branch-3.true (c.in_ok-test-in-Choose.ensures names told m)) (c.in_ok-arm-in-Choose.ensures.value names told)
    (choose_by (context_of names c.args.around.now) (expr_of names c.deref-in-Choose.result.now) (expr_of names c.deref-then-branch-3.result.now) (expr_of names c.deref-then-branch-3-2.result.now) _ _ (types_of names c.choice_form-of.result) (c.in_ok-arm-in-Choose.ensures.typed names told) (c.typed.ensures names told) (c.choice_form-of.ensures names)) (c.used_if.ensures names) (c.at_shape.ensures.value names))

pub given_by_branches-returns-in_ok-arm-in-Choose-clause-typed : goal.given_by_branches-returns-in_ok-arm-in-Choose-clause-typed
given_by_branches-returns-in_ok-arm-in-Choose-clause-typed t c = λ names told.
    c.with_type.ensures.typed names _
    (typed_as (context_of names c.args.around.now) (expr_of names c.args.e.now) _ _ (choose_seen names c.args.e.now _ _ _ _ _ _ _ c.in-Choose.is c.deref-in-Choose.ensures c.deref-then-branch-3.ensures c.deref-then-branch-3-2.ensures)
    (choose_by (context_of names c.args.around.now) (expr_of names c.deref-in-Choose.result.now) (expr_of names c.deref-then-branch-3.result.now) (expr_of names c.deref-then-branch-3-2.result.now) _ _ (types_of names c.choice_form-of.result) (c.in_ok-arm-in-Choose.ensures.typed names told) (c.typed.ensures names told) (c.choice_form-of.ensures names)))

pub given_by_branches-returns-in_err-arm-in-Choose-2-clause-value : goal.given_by_branches-returns-in_err-arm-in-Choose-2-clause-value
given_by_branches-returns-in_err-arm-in-Choose-2-clause-value t c = λ names told n.
    given_err names c.from_residual-in_err-arm-in-Choose-2.result _ _ c.from_residual-in_err-arm-in-Choose-2.ensures.1
    (V.choose_no_fails (context_of names c.args.around.now) (expr_of names c.args.e.now) _ _ _ _ (choose_seen names c.args.e.now _ _ _ _ _ _ _ c.in-Choose.is c.deref-in-Choose.ensures refl c.deref-else-branch-3.ensures) n
    (λ m. test_is _ false _ c.if-branch-3.false (c.in_ok-test-in-Choose.ensures names told m)) (c.in_err-arm-in-Choose-2.ensures.value names told))

pub given_by_branches-returns-in_ok-arm-in-Choose-2-clause-value : goal.given_by_branches-returns-in_ok-arm-in-Choose-2-clause-value
given_by_branches-returns-in_ok-arm-in-Choose-2-clause-value t c = λ names told n.
    c.with_type-else-branch-3.ensures.value names _
    (V.choose_no (context_of names c.args.around.now) (expr_of names c.args.e.now) _ _ _ (types_of names c.choice_form-of-else-branch-3.result) (shapes_of names c.used_if-else-branch-3.result) _ _ (choose_seen names c.args.e.now _ _ _ _ _ _ _ c.in-Choose.is c.deref-in-Choose.ensures c.deref-else-branch-3-2.ensures c.deref-else-branch-3.ensures) n
    (λ m. test_is _ false _ c.if-branch-3.false (c.in_ok-test-in-Choose.ensures names told m)) (c.in_ok-arm-in-Choose-2.ensures.value names told)
    (choose_by (context_of names c.args.around.now) (expr_of names c.deref-in-Choose.result.now) (expr_of names c.deref-else-branch-3-2.result.now) (expr_of names c.deref-else-branch-3.result.now) _ _ (types_of names c.choice_form-of-else-branch-3.result) (c.typed-else-branch-3.ensures names told) (c.in_ok-arm-in-Choose-2.ensures.typed names told) (c.choice_form-of-else-branch-3.ensures names)) (c.used_if-else-branch-3.ensures names) (c.at_shape-else-branch-3.ensures.value names))

pub given_by_branches-returns-in_ok-arm-in-Choose-2-clause-typed : goal.given_by_branches-returns-in_ok-arm-in-Choose-2-clause-typed
given_by_branches-returns-in_ok-arm-in-Choose-2-clause-typed t c = λ names told.
    c.with_type-else-branch-3.ensures.typed names _
    (typed_as (context_of names c.args.around.now) (expr_of names c.args.e.now) _ _ (choose_seen names c.args.e.now _ _ _ _ _ _ _ c.in-Choose.is c.deref-in-Choose.ensures c.deref-else-branch-3-2.ensures c.deref-else-branch-3.ensures)
    (choose_by (context_of names c.args.around.now) (expr_of names c.deref-in-Choose.result.now) (expr_of names c.deref-else-branch-3-2.result.now) (expr_of names c.deref-else-branch-3.result.now) _ _ (types_of names c.choice_form-of-else-branch-3.result) (c.typed-else-branch-3.ensures names told) (c.in_ok-arm-in-Choose-2.ensures.typed names told) (c.choice_form-of-else-branch-3.ensures names)))

pub given_by_branches-returns-in_default : goal.given_by_branches-returns-in_default
given_by_branches-returns-in_default t c = record {
  value = λ names told n. branch_other names (context_of names c.args.around.now) c.args.e.now _ c.in_default.not-And c.in_default.not-Or c.in_default.not-Choose;
  typed = λ names told. tt;
  lawful = tt;
}

-- ---- places

pub located-returns-in-Name-clause-value : goal.located-returns-in-Name-clause-value
located-returns-in-Name-clause-value t c = λ names told n.
    rw c.in-Name.is (c.located_name.ensures.value names told)

pub located-returns-in-Name-clause-typed : goal.located-returns-in-Name-clause-typed
located-returns-in-Name-clause-typed t c = λ names told.
    rw c.in-Name.is (c.located_name.ensures.typed names told)

pub located-returns-in_err-inner-in-Dereference-clause-value : goal.located-returns-in_err-inner-in-Dereference-clause-value
located-returns-in_err-inner-in-Dereference-clause-value t c = λ names told n.
    located_err c.from_residual.result _ _ c.from_residual.ensures.1
    (P.star_fails (context_of names c.args.around.now) (expr_of names c.args.e.now) _ _ (unary_seen names c.args.e.now _ _ _ _ c.in-Unary.is c.deref.ensures ∙ ap (λ op. EUnary op (expr_of names c.deref.result.now)) c.in-Dereference.is) n (c.in_err-inner-in-Dereference.ensures.value names told))

pub located-returns-in_ok-inner-in-Dereference-clause-value : goal.located-returns-in_ok-inner-in-Dereference-clause-value
located-returns-in_ok-inner-in-Dereference-clause-value t c = λ names told n.
    c.placed.ensures.value _
    (P.star_placed (context_of names c.args.around.now) (expr_of names c.args.e.now) _ _ _ (unary_seen names c.args.e.now _ _ _ _ c.in-Unary.is c.deref.ensures ∙ ap (λ op. EUnary op (expr_of names c.deref.result.now)) c.in-Dereference.is) n (c.in_ok-inner-in-Dereference.ensures.value names told) (c.pointed.ensures.value names))

pub located-returns-in_ok-inner-in-Dereference-clause-typed : goal.located-returns-in_ok-inner-in-Dereference-clause-typed
located-returns-in_ok-inner-in-Dereference-clause-typed t c = λ names told.
    c.placed.ensures.typed names _
    (typed_as (context_of names c.args.around.now) (expr_of names c.args.e.now) _ _ (unary_seen names c.args.e.now _ _ _ _ c.in-Unary.is c.deref.ensures)
    (unary_by (context_of names c.args.around.now) c.in-Unary.op _ _ _ _ (c.is_named.ensures names ∙ ap (λ x. is_named (expr_of names x)) (c.deref-in-Dereference.ensures ∙ sym c.deref.ensures)) (c.in_ok-inner-in-Dereference.ensures.typed names told) (c.unary_form-of.ensures names)))

pub located-returns-in_default-op : goal.located-returns-in_default-op
located-returns-in_default-op t c = record {
  value = λ names told n. place_sign names (context_of names c.args.around.now) c.args.e.now _ _ _ _ c.in-Unary.is c.in_default-op.not-Dereference;
  typed = λ names told. tt;
  lawful = tt;
}

pub located-returns-in_err-first-in-Index-clause-value : goal.located-returns-in_err-first-in-Index-clause-value
located-returns-in_err-first-in-Index-clause-value t c = λ names told n.
    located_err c.from_residual-in_err-first-in-Index.result _ _ c.from_residual-in_err-first-in-Index.ensures.1
    (P.index_fails_first (context_of names c.args.around.now) (expr_of names c.args.e.now) _ _ _ (index_seen names c.args.e.now _ _ _ _ _ c.in-Index.is c.deref-in-Index.ensures refl) n (c.in_err-first-in-Index.ensures.value names told))

pub located-returns-in_err-second-in-Index-clause-value : goal.located-returns-in_err-second-in-Index-clause-value
located-returns-in_err-second-in-Index-clause-value t c = λ names told n.
    located_err c.from_residual-in_err-second-in-Index.result _ _ c.from_residual-in_err-second-in-Index.ensures.1
    (P.index_fails_second (context_of names c.args.around.now) (expr_of names c.args.e.now) _ _ _ _ (index_seen names c.args.e.now _ _ _ _ _ c.in-Index.is c.deref-in-Index.ensures c.deref-in-Index-2.ensures) n (c.in_ok-first-in-Index.ensures.value names told) (c.in_err-second-in-Index.ensures.value names told))

pub located-returns-in_err-sum-in-Index-clause-value : goal.located-returns-in_err-sum-in-Index-clause-value
located-returns-in_err-sum-in-Index-clause-value t c = λ names told n.
    let k = context_of names c.args.around.now in
    located_err c.from_residual-in_err-sum-in-Index.result _ _ c.from_residual-in_err-sum-in-Index.ensures.1
    (P.index_fails_sum k (expr_of names c.args.e.now) _ _ _ _ _ (index_seen names c.args.e.now _ _ _ _ _ c.in-Index.is c.deref-in-Index.ensures c.deref-in-Index-2.ensures) n (c.in_ok-first-in-Index.ensures.value names told) (c.in_ok-second-in-Index.ensures.value names told)
    (c.in_err-sum-in-Index.ensures.value names (type_in k (expr_of names c.deref-in-Index.result.now)) (type_in k (expr_of names c.deref-in-Index-2.result.now)) told.apart (c.in_ok-first-in-Index.ensures.typed names told) (c.in_ok-second-in-Index.ensures.typed names told)))

pub located-returns-in_ok-sum-in-Index-clause-value : goal.located-returns-in_ok-sum-in-Index-clause-value
located-returns-in_ok-sum-in-Index-clause-value t c = λ names told n.
    let k = context_of names c.args.around.now in
    c.placed-in-Index.ensures.value _
    (P.index_placed k (expr_of names c.args.e.now) _ _ _ _ _ _ (index_seen names c.args.e.now _ _ _ _ _ c.in-Index.is c.deref-in-Index.ensures c.deref-in-Index-2.ensures) n (c.in_ok-first-in-Index.ensures.value names told) (c.in_ok-second-in-Index.ensures.value names told)
    (c.in_ok-sum-in-Index.ensures.value names (type_in k (expr_of names c.deref-in-Index.result.now)) (type_in k (expr_of names c.deref-in-Index-2.result.now)) told.apart (c.in_ok-first-in-Index.ensures.typed names told) (c.in_ok-second-in-Index.ensures.typed names told)) (c.pointed-in-Index.ensures.value names))

pub located-returns-in_ok-sum-in-Index-clause-typed : goal.located-returns-in_ok-sum-in-Index-clause-typed
located-returns-in_ok-sum-in-Index-clause-typed t c = λ names told.
    c.placed-in-Index.ensures.typed names _
    (typed_as (context_of names c.args.around.now) (expr_of names c.args.e.now) _ _ (index_seen names c.args.e.now _ _ _ _ _ c.in-Index.is c.deref-in-Index.ensures c.deref-in-Index-2.ensures)
    (index_by (context_of names c.args.around.now) (expr_of names c.deref-in-Index.result.now) (expr_of names c.deref-in-Index-2.result.now) (types_of names c.in_ok-first-in-Index.first.typed) (types_of names c.in_ok-second-in-Index.second.typed) _ (c.in_ok-first-in-Index.ensures.typed names told) (c.in_ok-second-in-Index.ensures.typed names told) (c.index_form.ensures names (items_of names c.args.around.now.index.now))))

pub located-returns-in_err-inner-in-Member-clause-value : goal.located-returns-in_err-inner-in-Member-clause-value
located-returns-in_err-inner-in-Member-clause-value t c = λ names told n.
    located_err c.from_residual-in_err-inner-in-Member.result _ _ c.from_residual-in_err-inner-in-Member.ensures.1
    (P.member_fails (context_of names c.args.around.now) (expr_of names c.args.e.now) _ _ _ (member_seen names c.args.e.now _ _ c.in-Member.field _ c.in-Member.is c.deref-in-Member.ensures) n (c.in_err-inner-in-Member.ensures.value names told))

pub located-returns-in_err-start-in-Member-clause-value : goal.located-returns-in_err-start-in-Member-clause-value
located-returns-in_err-start-in-Member-clause-value t c = λ names told n.
    located_err c.from_residual-in_err-start-in-Member.result _ _ c.from_residual-in_err-start-in-Member.ensures.1
    (P.member_fails_pointer (context_of names c.args.around.now) (expr_of names c.args.e.now) _ _ (spot_of c.in_ok-inner-in-Member.inner.spot) _ (member_seen names c.args.e.now _ _ c.in-Member.field _ c.in-Member.is c.deref-in-Member.ensures) n (c.in_ok-inner-in-Member.ensures.value names told) (c.in_err-start-in-Member.ensures.value names))

pub located-returns-in_ok-start-in-Member-clause-value : goal.located-returns-in_ok-start-in-Member-clause-value
located-returns-in_ok-start-in-Member-clause-value t c = λ names told n.
    P.member_placed (context_of names c.args.around.now) (expr_of names c.args.e.now) _ _ (spot_of c.in_ok-inner-in-Member.inner.spot) _ (types_of names c.in_ok-inner-in-Member.inner.typed) _ _ (member_seen names c.args.e.now _ _ c.in-Member.field _ c.in-Member.is c.deref-in-Member.ensures) n
    (c.in_ok-inner-in-Member.ensures.value names told) (c.in_ok-start-in-Member.ensures.value names) (c.in_ok-inner-in-Member.ensures.typed names told) (c.place_of.ensures names) (c.field_spot.ensures.value names told.apart)

pub located-returns-in_ok-start-in-Member-clause-typed : goal.located-returns-in_ok-start-in-Member-clause-typed
located-returns-in_ok-start-in-Member-clause-typed t c = λ names told.
    located_by names _ _ _ (λ o h. typed_as (context_of names c.args.around.now) (expr_of names c.args.e.now) _ o (member_seen names c.args.e.now _ _ c.in-Member.field _ c.in-Member.is c.deref-in-Member.ensures)
    (member_by (context_of names c.args.around.now) (expr_of names c.deref-in-Member.result.now) _ (types_of names c.in_ok-inner-in-Member.inner.typed) o _ (c.in_ok-inner-in-Member.ensures.typed names told) (c.place_of.ensures names) h)) (c.field_spot.ensures.typed names told.apart)

pub located-returns-in_err-inner-in-Arrow-clause-value : goal.located-returns-in_err-inner-in-Arrow-clause-value
located-returns-in_err-inner-in-Arrow-clause-value t c = λ names told n.
    located_err c.from_residual-in_err-inner-in-Arrow.result _ _ c.from_residual-in_err-inner-in-Arrow.ensures.1
    (P.arrow_fails (context_of names c.args.around.now) (expr_of names c.args.e.now) _ _ _ (arrow_seen names c.args.e.now _ _ c.in-Arrow.field _ c.in-Arrow.is c.deref-in-Arrow.ensures) n (c.in_err-inner-in-Arrow.ensures.value names told))

pub located-returns-in_ok-inner-in-Arrow-clause-value : goal.located-returns-in_ok-inner-in-Arrow-clause-value
located-returns-in_ok-inner-in-Arrow-clause-value t c = λ names told n.
    P.arrow_placed (context_of names c.args.around.now) (expr_of names c.args.e.now) _ _ _ (types_of names c.in_ok-inner-in-Arrow.inner.typed) (shapes_of names c.used_if.result) _ _ (arrow_seen names c.args.e.now _ _ c.in-Arrow.field _ c.in-Arrow.is c.deref-in-Arrow.ensures) n
    (c.in_ok-inner-in-Arrow.ensures.value names told) (c.in_ok-inner-in-Arrow.ensures.typed names told) (c.used_if.ensures names) (c.pointee_of-of.ensures names) (c.field_spot-in-Arrow.ensures.value names told.apart)

pub located-returns-in_ok-inner-in-Arrow-clause-typed : goal.located-returns-in_ok-inner-in-Arrow-clause-typed
located-returns-in_ok-inner-in-Arrow-clause-typed t c = λ names told.
    located_by names _ _ _ (λ o h. typed_as (context_of names c.args.around.now) (expr_of names c.args.e.now) _ o (arrow_seen names c.args.e.now _ _ c.in-Arrow.field _ c.in-Arrow.is c.deref-in-Arrow.ensures)
    (arrow_by (context_of names c.args.around.now) (expr_of names c.deref-in-Arrow.result.now) _ (types_of names c.in_ok-inner-in-Arrow.inner.typed) o (shapes_of names c.used_if.result) _ (c.in_ok-inner-in-Arrow.ensures.typed names told) (c.used_if.ensures names) (c.pointee_of-of.ensures names) h)) (c.field_spot-in-Arrow.ensures.typed names told.apart)

pub located-returns-in_default : goal.located-returns-in_default
located-returns-in_default t c = record {
  value = λ names told n. place_other names (context_of names c.args.around.now) c.args.e.now _ c.in_default.not-Name c.in_default.not-Unary c.in_default.not-Index c.in_default.not-Member c.in_default.not-Arrow;
  typed = λ names told. tt;
  lawful = tt;
}
