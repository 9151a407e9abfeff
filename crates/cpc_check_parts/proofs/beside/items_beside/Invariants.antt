use Rattle.std.proofs.Common.{◌≡◌, map}
use Rattle.cpc_tree.specs.Erase.{Names, item_of}
use Rattle.cpc_check_rules.specs.Apart.{AreApart}
use Rattle.cpc_check_rules.specs.Noted.{noted, first_of}
use Rattle.cpc_types.specs.Scoped.{all_items, first_items}
use Rattle.cpc_check_items.specs.Pasts.{AreEarlier}
use Rattle.cpc_check_parts.proofs.Rows.{left}
use Rattle.cpc_check_parts.proofs.beside.items_beside.Given as goal

abbrev pub invariant-loop-i : goal.invariant-loop-i
invariant-loop-i l = record {
  all : all_items l.scope ≡ l.program.items.items;
  items : l.item-items ≡ l.program.items.items;
  noted : (names : Names) → AreApart names
      → noted (first_of l.first) (left names (map (item_of names) l.program.items.items) l.program.items.items l.i) ≡ noted (first_of l.fn.first) (left names (map (item_of names) l.program.items.items) l.program.items.items 0);
  earlier : (names : Names) → AreApart names → AreEarlier names (first_items names l.i l.program.items.items) l.earlier;
}
