use Rattle.std.proofs.Common.{◌≡◌, [], map, nat_eq}
use Rattle.std.specs.HashSet as set
use Rattle.cpc_tree.specs.Erase.{Names}
use Rattle.cpc_tree.specs.Locate.{ident}
use Rattle.cpc_check_rules.specs.FunctionRules.{repeated}
use Rattle.cpc_check_rules.specs.Noted.{noted, first_of}
use Rattle.cpc_check_rules.specs.Apart.{AreApart}
use Rattle.cpc_check_names.specs.Held.{AreHeld}
use Rattle.cpc_check_names.proofs.Held.{so_far, left}
use Rattle.cpc_check_names.proofs.labels.note_repeated.Given as goal

-- the set holds the names so far, and with what is left all of the row is noted
abbrev pub invariant-loop-word : goal.invariant-loop-word
invariant-loop-word l = (names : Names) → AreApart names
    → AreHeld names (set.contains nat_eq l.held) (so_far names l.words l.word-index)
    × (noted (first_of l.first) (repeated l.rule (so_far names l.words l.word-index) (left names l.words l.word-index)) ≡ noted (first_of l.initial.first) (repeated l.rule [] (map (ident names) l.words)))
