use Rattle.std.proofs.Common.{sym, ap, ◌∙◌}
use Rattle.cpc_check_rules.specs.Noted.{noted, first_of}
use Rattle.cpc_check_values.specs.Named.{callee_breaks}
use Rattle.cpc_check_values.specs.Stands.{where_of}
use Rattle.cpc_check_values.proofs.called.named_rules.Goals as goal

pub returns-in-Function : goal.returns-in-Function
returns-in-Function c = λ names.
    c.note_function.ensures names
    ∙ ap (λ k. noted (first_of c.args.first.now) (callee_breaks (where_of names c.args.w.now) c.args.place k)) (sym c.in-Function.is)

pub returns-in-Primitive : goal.returns-in-Primitive
returns-in-Primitive c = λ names.
    c.note_primitive.ensures names
    ∙ ap (λ k. noted (first_of c.args.first.now) (callee_breaks (where_of names c.args.w.now) c.args.place k)) (sym c.in-Primitive.is)
