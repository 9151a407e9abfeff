use Rattle.std.proofs.Common.{sym, ap, ◌∙◌, subst, rules}
use Rattle.cpc_num.specs.Number.{IsOf, residue}
use Rattle.cpc_num.proofs.KindLemmas.{IsOf-convert, residue-convert, convert-same}
use Rattle.cpc_num.proofs.conversion.convert.Goals as goal

pub returns-then-rest-greatest-clause-value : goal.returns-then-rest-greatest-clause-value
returns-then-rest-greatest-clause-value c = search rules

pub returns-then-rest-greatest-clause-fits : goal.returns-then-rest-greatest-clause-fits
returns-then-rest-greatest-clause-fits c = subst (IsOf c.args.kind) (sym (returns-then-rest-greatest-clause-value c)) (IsOf-convert c.args.kind c.args.value)

pub returns-then-rest-greatest-clause-same : goal.returns-then-rest-greatest-clause-same
returns-then-rest-greatest-clause-same c = λ h. returns-then-rest-greatest-clause-value c ∙ convert-same c.args.kind c.args.value h

pub returns-then-rest-greatest-clause-congruent : goal.returns-then-rest-greatest-clause-congruent
returns-then-rest-greatest-clause-congruent c = ap (residue c.args.kind) (returns-then-rest-greatest-clause-value c) ∙ residue-convert c.args.kind c.args.value

pub returns-else-rest-greatest-clause-value : goal.returns-else-rest-greatest-clause-value
returns-else-rest-greatest-clause-value c = search rules

pub returns-else-rest-greatest-clause-fits : goal.returns-else-rest-greatest-clause-fits
returns-else-rest-greatest-clause-fits c = subst (IsOf c.args.kind) (sym (returns-else-rest-greatest-clause-value c)) (IsOf-convert c.args.kind c.args.value)

pub returns-else-rest-greatest-clause-same : goal.returns-else-rest-greatest-clause-same
returns-else-rest-greatest-clause-same c = λ h. returns-else-rest-greatest-clause-value c ∙ convert-same c.args.kind c.args.value h

pub returns-else-rest-greatest-clause-congruent : goal.returns-else-rest-greatest-clause-congruent
returns-else-rest-greatest-clause-congruent c = ap (residue c.args.kind) (returns-else-rest-greatest-clause-value c) ∙ residue-convert c.args.kind c.args.value
