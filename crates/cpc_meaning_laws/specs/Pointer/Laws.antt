-- What is known of the pointers of a run.
use Rattle.std.specs.Prelude.{◌≡◌, ℕ, List, []}
use Rattle.cpc_tree.specs.Syntax.{Program}
use Rattle.cpc_tree.specs.Points.{Point}
use Rattle.cpc_store.specs.declared.values.Class.{Class}
use Rattle.cpc_store.specs.declared.values.Class.TheVariants.{Static}
use Rattle.cpc_store.specs.Store.{Value, Store, alloc}
use Rattle.cpc_meaning.specs.Answer.{Gives, ◌>>=◌}
use Rattle.cpc_meaning.specs.Events.{event}
use Rattle.cpc_meaning.specs.History.{History}
use Rattle.cpc_meaning.specs.Plain.{Form, Stack, Done, Went, Returned, Asks, answered}
use Rattle.cpc_meaning_laws.specs.Pointer.Made.{IsMadeCode, IsMadeState}

-- what a step came to, where its store has one more block
abbrev pub done_with : {P : Type 0} → Class → (cells : List Value) → Done P → Done P
done_with class cells (Went t k) = Went (alloc class cells t) k
done_with class cells (Returned v t) = Returned v (alloc class cells t)
done_with class cells (Asks r) = Asks r

-- where no pointer leads into the block that is made next, a request is answered alike before and after it is made: the same goes on, and the same faults
abbrev pub AnsweredAlike : Type 0
AnsweredAlike = (p : Form Point) (class : Class) (cells : List Value) (s : Store) (k : Stack Point) (v : Value) → ¬ (class ≡ Static) → IsMadeCode s k
    → answered p (alloc class cells s) k v ≡ (answered p s k v >>= λ done. Gives (done_with class cells done))

-- in each state of the event run of a program to which nothing is told, each pointer leads into a block that was made
abbrev pub RunsAreMade : Type 0
RunsAreMade = (q : Program) (h : History) (n : ℕ) → h.polls ≡ [] → IsMadeState (event q h n)
