use Rattle.std.proofs.Common.{ap, ◌∙◌}
use Rattle.cpc_tree.specs.Locate.{ident}
use Rattle.cpc_check_rules.specs.Noted.{noted, first_of}
use Rattle.cpc_types.specs.Found.{found_of}
use Rattle.cpc_types.specs.Scoped.{scope_of}
use Rattle.cpc_shapes.specs.Forms as F
use Rattle.cpc_check_values.proofs.Taken.{arrow_typed, arrow_absent}
use Rattle.cpc_check_values.proofs.fields.arrow_rules.Goals as goal
use Rattle.cpc_check_values.proofs.fields.arrow_rules.Goals.{then-typed, else-typed}

pub returns-clause-noted : goal.returns-clause-noted
returns-clause-noted c = λ names apart.
    let s = scope_of names c.args.scope.now in
    let o = found_of names c.args.found in
    let x = ident names c.args.field in
    let whole = F.arrow_of s.items o x.text in
    elim c.if-typed.branch [
      | then-typed w ↦
          ap first_of w.first-is
          ∙ (w.note_field.ensures names
          ∙ ap (noted (first_of c.args.first.now)) (arrow_typed s o c.args.place x _ _ _ _ whole (c.base_of-base.ensures names apart) (c.pointed.ensures names) (c.in_ok-whole.ensures names apart) (c.is_typed-typed.ensures names) w.if-typed.true))
      | else-typed w ↦
          ap first_of w.first-is ∙ ap (noted (first_of c.args.first.now)) (arrow_absent s o c.args.place x _ whole (c.is_typed-typed.ensures names) w.if-typed.false)
    ]
