use Rattle.std.proofs.Common.{◌≡◌, map, take}
use Rattle.cpc_tree.specs.Erase.{Names, field_of, parameter_of}
use Rattle.cpc_chains_event.specs.Pieces as P
use Rattle.cpc_chains_items.proofs.parts.parameters_of.Given as goal

-- the parameters so far
abbrev pub invariant-loop-field : goal.invariant-loop-field
invariant-loop-field l = (to : Names) → map (parameter_of to) l.parameters.items ≡ map P.parameter_of (map (field_of to) (take l.field-index l.fields))
