use Rattle.std.proofs.Common.{inl, inr, arith, ◌∙◌}
use Rattle.cpc_check_values.proofs.Wanting.{front_row}
use Rattle.cpc_check_values.proofs.wants.primitive_want.Goals.{in_default-via-in-RtDetach+else-place-ge3, in_default-via-in_default}
use Rattle.cpc_check_values.proofs.wants.primitive_want.Goals as goal

pub returns-in_default : goal.returns-in_default
returns-in_default c = λ names.
    c.front_want.ensures names
    ∙ front_row names c.args.primitive c.args.given _ c.args.place (elim c.in_default.branch [
      | in_default-via-in-RtDetach+else-place-ge3 w ↦ inl (w.in-RtDetach.is, omega (arith, w.if-place-ge3.false))
      | in_default-via-in_default w ↦ inr w.in_default.not-RtDetach
    ])
