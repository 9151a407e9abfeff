use Rattle.std.proofs.Common.{map, drop, ap, ◌∙◌}
use Rattle.cpc_tree.specs.Locate.{ident, located_stmt, located_parameter}
use Rattle.cpc_check_rules.specs.FunctionRules as F
use Rattle.cpc_check_rules.specs.Noted.{noted, first_of}
use Rattle.cpc_check_names.proofs.Many.{too_many, not_many}
use Rattle.cpc_check_names.proofs.variables.many_rules.Goals as goal
use Rattle.cpc_check_names.proofs.variables.many_rules.Goals.{in-Some, in_default}

pub returns : goal.returns
returns c = λ names.
    let k = ap (map (ident names)) c.deref.ensures.value ∙ c.in_ok-words.ensures names in
    let o = first_of c.args.first.now in
    let words = c.deref.result.now in
    let limit = c.variable_limit.result in
    let all = F.variables (map (located_parameter names) c.args.parameters.now) (located_stmt names c.args.body.now) in
    let l = ap (λ n. noted o (F.first_of (drop n all))) c.variable_limit.ensures in
    elim c.match-get.branch [
      | in-Some w ↦
          let e = too_many names o words limit w.in-Some.word.now all w.in-Some.ensures.lookup.3.0 w.in-Some.ensures.lookup.1 k in
          ap first_of w.first-is ∙ (w.note.ensures ∙ (e ∙ l))
      | in_default w ↦
          let e = not_many names o words limit all w.in_default.ensures.lookup.3 k in
          ap first_of w.first-is ∙ (e ∙ l)
    ]
