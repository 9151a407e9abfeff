use Rattle.std.proofs.Common.{◌≡◌, map, drop}
use Rattle.cpc_tree.specs.Erase.{Names, field_of}
use Rattle.cpc_tree.specs.Syntax.{Program}
use Rattle.cpc_types_structs.specs.Sized.{AreSizes}
use Rattle.cpc_types.specs.Integral.{AreIntegral, have_integers}
use Rattle.cpc_types.proofs.integers.fields_integers.Given as goal

-- the fields so far are integers, so those that are left decide
abbrev pub invariant-loop-field : goal.invariant-loop-field
invariant-loop-field l = (names : Names) (p : Program) → AreSizes l.items.declared.structs names p → AreIntegral l.items names p
    → have_integers p (map (field_of names) l.fields) ≡ have_integers p (map (field_of names) (drop l.field-index l.fields))
