-- What is known of calls that begin.
use Rattle.std.specs.Prelude.{◌≡◌, true, List, Some}
use Rattle.cpc_base.specs.Bytes.{Text}
use Rattle.cpc_store.specs.Store.{Value}
use Rattle.cpc_tree.specs.Syntax.{Function, Program}
use Rattle.cpc_tree.specs.Typing.{function_named}
use Rattle.cpc_meaning.specs.Threads.{is_cps_mode}
use Rattle.cpc_lifted_laws.specs.Arrival.Taken.{IsGiven}

-- the name of a cps function, where it is that of a function
abbrev pub NamesCps : Program → Text → Type 0
NamesCps p x = (f : Function) → function_named p x ≡ Some f → is_cps_mode f.mode ≡ true

-- a cps function is called, with arguments that are as they should be
abbrev pub CallsCps : Program → Text → List Value → Type 0
CallsCps p x arguments = IsGiven p x arguments × NamesCps p x
