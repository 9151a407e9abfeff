use Rattle.std.proofs.Common.{◌∙◌, map, List, sym, ap, subst}
use Rattle.cpc_tree.specs.Erase.{Table, in_table, item_of}
use Rattle.cpc_tree.specs.declared.program.Item as GItem
use Rattle.cpc_convert_names.specs.Tables.{HasGrown}
use Rattle.cpc_convert_names.proofs.Growing.{grown_none}
use Rattle.cpc_chains_items.specs.Listed.{listed}
use Rattle.cpc_chains_code.proofs.Meant.{after_none, converts}
use Rattle.cpc_chains_code.proofs.converting.convert.Goals as goal

pub returns-clause-is : goal.returns-clause-is
returns-clause-is c = λ speakable within of has.
    let source : Table = c.args.lifted.now.source.now.names in
    let before : HasGrown source c.in_ok-names.names = subst (HasGrown source) (sym c.in_ok-names.ensures) (grown_none source) in
    let after : HasGrown source c.of.new.names = subst (λ (t : Table). HasGrown t c.of.new.names) c.in_ok-names.ensures c.in_ok-book.ensures.grown in
    ap (λ (t : Table). map (item_of (in_table t)) c.into_program.result.items.items) c.into_program.ensures.names
    ∙ (ap (λ (l : List GItem.Item). map (item_of (in_table c.of.new.names)) l) c.into_program.ensures.items
    ∙ converts c.args.lifted.now c.of.new.names c.in_ok-book.book c.in_ok-book.ensures.lifted after (λ to s named. c.in_ok-book.ensures.is to before s named) (λ to. listed to c.write.new.items)
    (λ from to g same. after_none _ _ _ (c.new-items.ensures to) (c.in_ok-write.ensures from to g same)) speakable within of has)
