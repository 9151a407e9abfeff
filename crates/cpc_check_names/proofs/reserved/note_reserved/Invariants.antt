use Rattle.std.proofs.Common.{◌≡◌, map}
use Rattle.cpc_tree.specs.Erase.{in_table}
use Rattle.cpc_tree.specs.Locate.{ident}
use Rattle.cpc_check_rules.specs.FunctionRules.{reserved_breaks}
use Rattle.cpc_check_rules.specs.Noted.{noted, first_of}
use Rattle.cpc_check_names.proofs.Held.{left}
use Rattle.cpc_check_names.proofs.reserved.note_reserved.Given as goal

-- with what is left, all of the row is noted
abbrev pub invariant-loop-word : goal.invariant-loop-word
invariant-loop-word l = noted (first_of l.first) (reserved_breaks l.dialect (left (in_table l.names) l.words l.word-index)) ≡ noted (first_of l.initial.first) (reserved_breaks l.dialect (map (ident (in_table l.names)) l.words))
