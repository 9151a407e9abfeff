-- The locals of the code, as the definitions have them.
use Rattle.std.specs.Prelude.{true, false, option_map, drop, List, Option}
use Rattle.cpc_base.specs.Bytes.{Text}
use Rattle.cpc_tree.specs.Erase.{Names, type_of}
use Rattle.cpc_tree.specs.Points.{Path}
use Rattle.cpc_native_points.specs.declared.parts.Part.{Part}
use Rattle.cpc_native_points.specs.Seen.{path_of}
use Rattle.cpc_eval_locals.specs.Held.{Held}
use Rattle.cpc_eval_locals.specs.Marks as M
use Rattle.cpc_eval_locals.specs.declared.looking.Local.{Local}
use Rattle.cpc_eval_locals.specs.declared.looking.Reached.{Reached}
use Rattle.cpc_eval_locals.specs.declared.looking.Way as G
use Rattle.cpc_eval_locals.specs.declared.looking.Way.TheVariants as W
use Rattle.cpc_eval_locals.specs.declared.looking.Next.{Next}
use Rattle.cpc_eval_locals.specs.declared.looking.Next.TheVariants as N

abbrev pub held_of : Names → Option Local → Held
held_of names o = option_map (λ (l : Local). (l.slot, type_of names l.of.now)) o

-- the way that the code found, to the rest of a path
abbrev pub way_of : G.Way → Path → M.Way
way_of W.Down p = M.Down p
way_of W.Stays p = M.Past true
way_of W.Leaves p = M.Past false
way_of W.Off p = M.Off

-- what a name stands for from what was reached on
abbrev pub look_from : Names → Text → List Part → Reached → List M.Mark → Held
look_from names x path at ms = M.look x at.count (held_of names at.held) at.depth (path_of (drop at.depth path)) ms

-- the same, where a mark was gone over
abbrev pub look_next : Names → Text → List Part → Next → List M.Mark → Held
look_next names x path (N.Goes at) ms = look_from names x path at ms
look_next names x path (N.Ends o) ms = held_of names o
