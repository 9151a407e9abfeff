use Rattle.std.proofs.Common.{◌≡◌, ◌<◌, length, map, sym, subst}
use Rattle.cpc_base.specs.declared.names.Name.{Name}
use Rattle.cpc_tree.specs.Erase.{in_table}
use Rattle.cpc_tree.specs.Locate.{located_item}
use Rattle.cpc_parser_types.specs.Views.{placed}
use Rattle.tests_graphs.proofs.Within.{placed_alike}
use Rattle.tests_graphs.proofs.reading.parsed.Goals as goal

pub returns-in-Ok-parse-clause-within : goal.returns-in-Ok-parse-clause-within
returns-in-Ok-parse-clause-within c = record {
  alike = λ names h.
      let table = c.tokens.new.names in
      let p = c.in-Ok-parse.program in
      let is : p.names ≡ table = c.in-Ok-parse.ensures.program.0 in
      let same : (n : Name) → n.0 < length table → names n ≡ in_table table n = subst (λ t. (n : Name) → n.0 < length t → names n ≡ in_table t n) is h in
      let tokens : placed names c.as_slice.result.now ≡ placed (in_table table) c.as_slice.result.now =
      subst (λ ts. placed names ts ≡ placed (in_table table) ts) (sym c.as_slice.ensures.value) (placed_alike table names same c.in-Ok.tokens.items c.in-Ok.ensures.below) in
      subst (λ t. map (located_item names) p.items.items ≡ map (located_item (in_table t)) p.items.items) (sym is) (c.in-Ok-parse.ensures.alike names (in_table table) tokens);
}
