use Rattle.std.proofs.Common.{◌≡◌, ◌++◌, drop, map}
use Rattle.cpc_tree.specs.Erase.{Names}
use Rattle.cpc_tree.specs.Locate.{ident, located_list}
use Rattle.cpc_check_names.specs.Words.{words_in}
use Rattle.cpc_check_names.proofs.words.+gathered.Given as goal

-- with what is left, all of the row is gathered
abbrev pub invariant-add_row-loop-s : goal.invariant-add_row-loop-s
invariant-add_row-loop-s l = (names : Names) → map (ident names) l.words.items ++ words_in l.wanted (located_list names (drop l.s-index l.row)) ≡ map (ident names) l.initial.words.items ++ words_in l.wanted (located_list names l.row)
