-- One turn of a search, as code makes it: a queue, marks of what was seen, and the place in the queue that is looked at.
use Rattle.std.specs.Prelude.{◌≡◌, ◌+◌, ℕ, suc, Bool, true, false, List, ◌++◌, All, drop}
use Rattle.cpc_lift_laws.specs.Search as S
use Rattle.cpc_lift_closures.specs.Rows.{IsNumber, MarksAre}

-- the queue after an owner with this row of sources, which was seen before or not
abbrev pub queued : (was_seen : Bool) → List ℕ → List ℕ → List ℕ
queued true queue row = queue
queued false queue row = queue ++ row

-- what is left of the search, with one turn more, is left of it after the turn
pub record GoesOn (ways : List S.Link) (count at n : ℕ) (old seen new : List ℕ) (marks : List Bool) : Type 0 where
  pub next : List ℕ
  pub marked : MarksAre count next marks
  pub same : S.search ways (suc n) (drop at old) seen ≡ S.search ways n (drop (at + 1) new) next

-- all numbers of these rows are below this one
abbrev pub AreNumbers : ℕ → List (List ℕ) → Type 0
AreNumbers count rows = All (λ row. All (IsNumber count) row) rows
