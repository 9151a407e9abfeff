use Rattle.std.proofs.Common.{rules, ◌≡◌, ◌∙◌, ap, sym, codes, false, Some, None}
use Rattle.std.specs.Prelude.{bytes_eq}
use Rattle.std.specs.Option.{option_map_or}
use Rattle.clap.specs.Words.{found_of}
use Rattle.cpc_cli_command.proofs.CommandLemmas.{first_is}
use Rattle.cpc_cli_command.proofs.words.is_given.Goals as goal

pub returns-in-Some : goal.returns-in-Some
returns-in-Some c =
    let first = first_is (found_of c.args.values.now) c.args.name.now (Some c.in-Some.value.now) c.in-Some.ensures in
    let same : c.eq.result ≡ bytes_eq c.in-Some.value.now (codes "true") = search rules in
    same ∙ sym (ap (λ o. option_map_or (λ v. bytes_eq v (codes "true")) o false) first)

pub returns-in-None : goal.returns-in-None
returns-in-None c =
    let first = first_is (found_of c.args.values.now) c.args.name.now None c.in-None.ensures in
    sym (ap (λ o. option_map_or (λ v. bytes_eq v (codes "true")) o false) first)
