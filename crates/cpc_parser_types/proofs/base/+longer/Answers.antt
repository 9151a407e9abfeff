use Rattle.std.proofs.Common.{sym, ap, ◌∙◌}
use Rattle.std.specs.Option.{option_map}
use Rattle.cpc_parser_types.specs.TypeViews.{base_type, ending_of, next_pair}
use Rattle.cpc_parser_types.proofs.BaseSteps.{words_none, words_next, words_last}
use Rattle.cpc_parser_types.proofs.base.+longer.Goals as goal

pub returns-in_default-clause-reads : goal.returns-in_default-clause-reads
returns-in_default-clause-reads t c = λ names. words_none names (base_type names c.args.base, ending_of c.args.ending) c.args.tokens.now c.in_default.ensures.cases

pub returns-in-Some-next-clause-reads : goal.returns-in-Some-next-clause-reads
returns-in-Some-next-clause-reads t c =
    λ names. words_next names (base_type names c.args.base, ending_of c.args.ending) (c.in-Some-next.kind, ending_of c.in-Some-next.ending) c.args.tokens.now c.in-Some.token.now c.in-Some.rest.now
    c.in-Some.ensures.cases.0 (sym (c.next.ensures names) ∙ ap (option_map next_pair) c.in-Some-next.is) ∙ c.longer.ensures.reads names

pub returns-in-None-clause-reads : goal.returns-in-None-clause-reads
returns-in-None-clause-reads t c =
    λ names. words_last names (base_type names c.args.base, ending_of c.args.ending) c.args.tokens.now c.in-Some.token.now c.in-Some.rest.now
    c.in-Some.ensures.cases.0 (sym (c.next.ensures names) ∙ ap (option_map next_pair) c.in-None.is)
