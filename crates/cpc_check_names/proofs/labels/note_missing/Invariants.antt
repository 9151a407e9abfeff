use Rattle.std.proofs.Common.{◌≡◌, List, map, nat_eq}
use Rattle.std.specs.HashSet as set
use Rattle.cpc_tree.specs.Erase.{Names}
use Rattle.cpc_tree.specs.Located.{Ident}
use Rattle.cpc_tree.specs.Locate.{ident}
use Rattle.cpc_check_rules.specs.FunctionRules.{missing}
use Rattle.cpc_check_rules.specs.Noted.{noted, first_of}
use Rattle.cpc_check_names.specs.Held.{AreHeld}
use Rattle.cpc_check_names.proofs.Held.{left}
use Rattle.cpc_check_names.proofs.labels.note_missing.Given as goal

-- with what is left, all of the row is noted
abbrev pub invariant-loop-word : goal.invariant-loop-word
invariant-loop-word l = (names : Names) (row : List Ident) → AreHeld names (set.contains nat_eq l.known) row
    → noted (first_of l.first) (missing row (left names l.words l.word-index)) ≡ noted (first_of l.initial.first) (missing row (map (ident names) l.words))
