-- Leaders to which a piece goes.
use Rattle.std.specs.Prelude.{◌≡◌, ℕ, ◌<◌, List, true}
use Rattle.cpc_tree.specs.Lists.{holds_number}

-- each of these leaders is below a count
abbrev pub AreLeaders : (count : ℕ) → List ℕ → Type 0
AreLeaders count stubs = (k : ℕ) → holds_number stubs k ≡ true → k < count
