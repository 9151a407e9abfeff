-- What is asked for by a call.
use Rattle.cpc_tree.specs.Erase.{Names}
use Rattle.cpc_tree.specs.PrimitiveNames.{primitive_of}
use Rattle.cpc_eval_values.specs.Requests.{Asked, Builtin, Host}
use Rattle.cpc_native_builtins.specs.declared.call.Call.{Call}
use Rattle.cpc_native_builtins.specs.declared.call.Call.TheVariants as C

-- what is asked for: a primitive, or a function of the host
abbrev pub asked_of : Names → Call → Asked
asked_of names (C.Builtin b) = Builtin (primitive_of b)
asked_of names (C.Host x) = Host (names x)
