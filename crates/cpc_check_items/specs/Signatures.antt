-- What is declared of functions, as the code has it.
use Rattle.std.specs.Prelude.{Bool, not, List, map}
use Rattle.cpc_tree.specs.declared.program.Mode.{Mode}
use Rattle.cpc_tree.specs.declared.program.Mode.TheVariants.{Extern}
use Rattle.cpc_tree.specs.declared.program.Parameter.{Parameter}
use Rattle.cpc_tree.specs.Syntax.{Ty}
use Rattle.cpc_tree.specs.Erase.{Names, type_of}
use Rattle.cpc_tree.specs.Locate.{located_parameter}
use Rattle.cpc_check_rules.specs.ItemRules as R
use Rattle.cpc_check_items.specs.declared.signatures.Signature.{Signature}

-- the types of parameters
abbrev pub types_of : Names → List Parameter → List Ty
types_of names ps = R.types (map (located_parameter names) ps)

-- what is declared
abbrev pub signature_of : Names → Signature → R.Signature
signature_of names s = record { mode = s.mode; result = type_of names s.result.now; parameters = types_of names s.parameters.now; is_defined = s.is_defined }

-- one is a function of the host, and the other is none
abbrev pub are_mixed : Mode → Mode → Bool
are_mixed Extern mode = not (R.is_extern mode)
are_mixed _ mode = R.is_extern mode
