-- The marks of the code, as the definitions have them.
use Rattle.std.specs.Prelude.{List, map, Option, option_map}
use Rattle.cpc_base.specs.Bytes.{Text}
use Rattle.cpc_tree.specs.Erase.{Names, type_of}
use Rattle.cpc_tree.specs.Syntax.{Ty}
use Rattle.cpc_eval_locals.specs.declared.marks.Declared.{Declared}
use Rattle.cpc_eval_locals.specs.declared.marks.Own.{Own}
use Rattle.cpc_eval_locals.specs.declared.marks.Mark as G
use Rattle.cpc_eval_locals.specs.Marks.{Mark}

abbrev pub own_seen : Names → Option Own → Option (Text × Ty)
own_seen names o = option_map (λ (w : Own). (names w.name, type_of names w.of.now)) o

abbrev pub declared_seen : Names → Option Declared → Option (Text × Ty)
declared_seen names o = option_map (λ (w : Declared). (names w.name, type_of names w.of)) o

abbrev pub mark_seen : Names → G.Mark → Mark
mark_seen names m = record { depth = m.depth; key = m.key; count = m.count; own = declared_seen names m.own }

abbrev pub marks_seen : Names → List G.Mark → List Mark
marks_seen names ms = map (mark_seen names) ms
