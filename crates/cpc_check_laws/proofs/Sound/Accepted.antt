-- Programs that are read and break no rule are never stuck.
use Rattle.std.proofs.Common.{◌≡◌, List, []}
use Rattle.cpc_base.specs.declared.stop.Place.{Place}
use Rattle.cpc_base.specs.declared.stop.Dialect.{Dialect}
use Rattle.cpc_base.specs.declared.stop.Dialect.TheVariants as D
use Rattle.cpc_tree.specs.Tokens.{Placed}
use Rattle.cpc_tree.specs.Located.{LProgram, bare}
use Rattle.cpc_tree.specs.Grammar.{IsProgram}
use Rattle.cpc_check_rules.specs.Rules.{breaks}
use Rattle.cpc_check_laws.specs.Sound.Promises.{AcceptedIsTyped, AcceptedThreadsNeverStuck, AcceptedCallbacksNeverStuck}
use Rattle.cpc_check_laws.proofs.Sound.Agreement.{Facts}
use Rattle.cpc_check_laws.proofs.Sound.Grammar.{items_shape}
use Rattle.cpc_check_laws.proofs.Sound.Programs.{program_typed, program_facts}
use Rattle.cpc_check_laws.proofs.Sound.Threads.{threads_never_stuck}
use Rattle.cpc_check_laws.proofs.Sound.Events.{callbacks_never_stuck}

pub accepted_is_typed : AcceptedIsTyped
accepted_is_typed dialect list end p read h = program_typed dialect p (items_shape list p.items read.1 read.3) h

pub accepted_threads_never_stuck : AcceptedThreadsNeverStuck
accepted_threads_never_stuck list end p read h = threads_never_stuck (bare p) (accepted_is_typed D.Cpc list end p read h)

pub accepted_callbacks_never_stuck : AcceptedCallbacksNeverStuck
accepted_callbacks_never_stuck list end p read h = callbacks_never_stuck (bare p) (accepted_is_typed D.Event list end p read h)

-- what is known of the items of such a program
pub accepted_facts : (dialect : Dialect) (list : List Placed) (end : Place) (p : LProgram) → IsProgram dialect list end p → breaks dialect p ≡ [] → Facts (bare p)
accepted_facts dialect list end p read h = program_facts dialect p (items_shape list p.items read.1 read.3) h
