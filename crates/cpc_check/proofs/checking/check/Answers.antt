use Rattle.std.proofs.Common.{◌≡◌, ap, sym, subst, ◌∙◌}
use Rattle.cpc_tree.specs.Locate.{located}
use Rattle.cpc_check_rules.specs.Rule.{IsFirst}
use Rattle.cpc_check_rules.specs.Rules.{breaks}
use Rattle.cpc_check_rules.specs.Noted.{first_of, pair_of}
use Rattle.std.specs.Prelude.{option_map}
use Rattle.cpc_check_rules.proofs.Firsts.{is_first, is_none}
use Rattle.cpc_check.proofs.Whole.{noted_whole, breach_is}
use Rattle.cpc_check.proofs.checking.check.Goals as goal

pub invariant_of-result : goal.invariant_of-result
invariant_of-result c = record {
  read = ∣ c.requires.read ∣₁;
  within = ∣ c.requires.within ∣₁;
  unbroken = is_none (breaks c.args.dialect (located c.args.program)) (sym (noted_whole c.args.dialect c.args.program (first_of c.in-Ok.found.0) c.are_distinct.ensures c.requires.within c.in-Ok.ensures.noted) ∙ ap (λ o. option_map pair_of o) c.in_default.is);
  tabled = ∣ c.in-Ok-of.ensures ∣₁;
}

pub returns-in-Some-clause-refused : goal.returns-in-Some-clause-refused
returns-in-Some-clause-refused c = λ p breach e.
    let is : c.in-Some.breach ≡ breach = breach_is c.args.program p c.in-Some.breach breach e in
    let first = is_first (breaks c.args.dialect (located c.args.program)) c.in-Some.breach.place c.in-Some.breach.rule
    (sym (noted_whole c.args.dialect c.args.program (first_of c.in-Ok.found.0) c.are_distinct.ensures c.requires.within c.in-Ok.ensures.noted) ∙ ap (λ o. option_map pair_of o) c.in-Some.is) in
    subst (λ b. IsFirst (breaks c.args.dialect (located c.args.program)) b.place b.rule) is first

pub of-requires : goal.of-requires
of-requires c = c.in-Ok.ensures.declared.declares
