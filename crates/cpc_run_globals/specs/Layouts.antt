-- What layouts say of items.
use Rattle.std.specs.Prelude.{◌≡◌, List, reverse}
use Rattle.cpc_tree.specs.Erase.{Names}
use Rattle.cpc_tree.specs.Syntax as S
use Rattle.cpc_check_rules.specs.Apart.{AreApart}
use Rattle.cpc_eval_index.specs.Indexed.{items_of}
use Rattle.cpc_run_globals.specs.declared.layouts.Layouts.{Layouts}

-- these items, the last first, are those of the program of the layouts
pub record AreLayouts (l : Layouts) (names : Names) (items : List S.Item) : Type 0 where
  pub apart : AreApart names
  pub same : items ≡ reverse (items_of names l.index)
