use Rattle.std.proofs.Common.{Err, ◌≡◌, ◌<◌, length, map, sym, subst}
use Rattle.cpc_base.specs.declared.names.Name.{Name}
use Rattle.cpc_tree.specs.Erase.{in_table}
use Rattle.cpc_tree.specs.Cut.{IsCut}
use Rattle.cpc_tree.specs.Grammar.{IsParseFault}
use Rattle.cpc_tree.specs.Locate.{located_item}
use Rattle.cpc_tree.specs.declared.program.Program.{Program}
use Rattle.cpc_parser.specs.ItemViews.{IfFault}
use Rattle.cpc_parser_types.specs.Views.{placed}
use Rattle.cpc_translate.proofs.Within.{placed_alike, uncut_told, unread_told}
use Rattle.cpc_translate.proofs.reading.parsed.Goals as goal

pub returns-in-Err-clause-refused : goal.returns-in-Err-clause-refused
returns-in-Err-clause-refused c = λ fault e. uncut_told c.args.dialect c.args.text.now fault c.in-Err.stop c.uncut.result c.uncut.ensures e c.in-Err.ensures.fault

pub returns-in-Ok-parse-clause-within : goal.returns-in-Ok-parse-clause-within
returns-in-Ok-parse-clause-within c = record {
  alike = λ names h.
      let table = c.tokens.new.names in
      let p = c.in-Ok-parse.program in
      let is : p.names ≡ table = c.in-Ok-parse.ensures.program.0 in
      let same : (n : Name) → n.0 < length table → names n ≡ in_table table n = subst (λ t. (n : Name) → n.0 < length t → names n ≡ in_table t n) is h in
      let tokens : placed names c.as_slice.result.now ≡ placed (in_table table) c.as_slice.result.now =
      subst (λ ts. placed names ts ≡ placed (in_table table) ts) (sym c.as_slice.ensures.value) (placed_alike table names same c.in-Ok.tokens.items c.in-Ok.ensures.below) in
      subst (λ t. map (located_item names) p.items.items ≡ map (located_item (in_table t)) p.items.items) (sym is) (c.in-Ok-parse.ensures.alike names (in_table table) tokens);
}

pub returns-clause-refused : goal.returns-clause-refused
returns-clause-refused c = λ fault e.
    let list = placed (in_table c.tokens.new.names) c.as_slice.result.now in
    let cut : IsCut c.args.text.now c.args.dialect list = subst (λ ts. IsCut c.args.text.now c.args.dialect (placed (in_table c.tokens.new.names) ts)) (sym c.as_slice.ensures.value) c.in-Ok.ensures.cut in
    unread_told c.args.dialect c.args.text.now fault list cut c.in-Err-parse.stop c.unread.result c.unread.ensures e
    (subst (λ end. IfFault {X = Program} (Err c.in-Err-parse.stop) (λ f. IsParseFault c.args.dialect list end f.place f.number)) c.end_of_text.ensures c.in-Err-parse.ensures.fault)
