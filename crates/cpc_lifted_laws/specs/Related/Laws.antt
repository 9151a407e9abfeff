-- The laws that can be told without the relation, as statements: of the agenda's items, of walks, and of returns.
use Rattle.std.specs.Prelude.{◌≡◌, ℕ, List, []}
use Rattle.cpc_meaning.specs.Agenda.{Agenda, begin_round, poll}
use Rattle.cpc_tree.specs.Trace.{Told}
use Rattle.cpc_store.specs.Store.{Value}
use Rattle.cpc_lifted_laws.specs.Related.Sums.{total}

-- no item is lost or doubled where a round begins, nor at a poll
pub record ItemsStay (T : Type 0) : Type 0 where
  pub begins : (w : T → ℕ) (a : Agenda T) → a.round ≡ [] → total w (begin_round a) ≡ total w a
  pub polled : (w : T → ℕ) (told : Told) (vs : List Value) (a : Agenda T) → total w (poll told vs a) ≡ total w a
