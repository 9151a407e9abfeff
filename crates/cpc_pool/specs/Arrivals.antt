-- What comes while the end of a job is asked for.
use Rattle.std.specs.Prelude.{◌≡◌, ◌⊎◌, ℕ, ◌+◌, ◌-◌, ◌^◌, ◌<◌, ◌≤◌, List, [], ◌∷◌, ◌++◌, length, All, Some}
use Rattle.cpc_pool_ends.specs.declared.done.Done.{Done}
use Rattle.cpc_pool.specs.Acts.{NoneAt, Ran, Taken}

-- what contracts see of a pool with both its passes
pub record Known (J E : Type 0) : Type 0 where
  -- the least number that a job may have which is sent
  pub next : ℕ
  -- the completions that came before they were asked for, in the order in which they came
  pub early : List (Done J E)
  -- those of the jobs that the pool ran itself, which were not accepted yet
  pub own : List (Done J E)
  -- those that were accepted from workers
  pub popped : List (Done J E)
  -- the numbers of the jobs that were sent, in order
  pub sent : List ℕ

-- These were accepted, in this order: the first of the pool's own list, which leaves the rest of it, and once none is left, what was popped
abbrev pub Came : {X : Type 0} → (own left popped after came : List X) → Type 0
Came {X} own left popped after came =
    ((own ≡ came ++ left) × (after ≡ popped))
    ⊎ ((there : List X) × (left ≡ []) × (came ≡ own ++ there) × (after ≡ popped ++ there))

-- none of these completions is of the same job
abbrev pub NoneOf : {J E : Type 0} → (J → J → Type 0) → J → List (Done J E) → Type 0
NoneOf {J} {E} same j came = All (λ (d : Done J E). same d.job j → ⊥) came

-- None of what came is of the same job, and all of it is kept, in order, behind what was kept before
abbrev pub Waits : {J E : Type 0} → (J → J → Type 0) → J → (early kept own left popped after : List (Done J E)) → Type 0
Waits {J} {E} same j early kept own left popped after =
    (came : List (Done J E)) × Came own left popped after came × NoneOf same j came × (kept ≡ early ++ came)

-- The last that came is of the same job, and this is its end. None before it is, and all those are kept, in order, behind what was kept before
abbrev pub Answers : {J E : Type 0} → (J → J → Type 0) → J → (early kept own left popped after : List (Done J E)) → E → Type 0
Answers {J} {E} same j early kept own left popped after e =
    (came : List (Done J E)) × (d : Done J E) × Came own left popped after (came ++ d ∷ []) × NoneOf same j came × (kept ≡ early ++ came)
    × same d.job j × (e ≡ d.end)

-- The end is that of the first completion of the same job among those that were kept, and then nothing more was accepted; otherwise it is
-- the first of the same job that came
abbrev pub Finished : {J E : Type 0} → (J → J → Type 0) → J → Known J E → Known J E → E → Type 0
Finished same j old new e =
    (Taken same j old.early new.early (Some e) × (new.own ≡ old.own) × (new.popped ≡ old.popped))
    ⊎ (NoneAt same old.early (length old.early) j × Answers same j old.early new.early old.own new.own old.popped new.popped e)

-- Neither among the completions that were kept nor among those that came is one of the same job, and all of them are kept
abbrev pub Unfinished : {J E : Type 0} → (J → J → Type 0) → J → Known J E → Known J E → Type 0
Unfinished same j old new =
    NoneAt same old.early (length old.early) j × Waits same j old.early new.early old.own new.own old.popped new.popped

-- the greatest number of a job: none comes after it, so no job of this number is sent
abbrev pub last_number : ℕ
last_number = 2 ^ 64 - 1

-- A job was submitted: it was sent, where its number may be, or the pool ran it. The least number that may be sent is then the next one, and
-- stays only where the job's number may not be sent. The other completions stay
abbrev pub Handed : {J E : Type 0} → (J → ℕ) → (J → E → Type 0) → J → Known J E → Known J E → Type 0
Handed number ends j old new =
    (new.early ≡ old.early) × (new.popped ≡ old.popped)
    × (((((new.next ≡ old.next) × ((number j < old.next) ⊎ (number j ≡ last_number))) ⊎ ((old.next ≤ number j) × (new.next ≡ number j + 1))) × (new.sent ≡ old.sent) × Ran ends j old.own new.own)
    ⊎ ((old.next ≤ number j) × (new.next ≡ number j + 1) × (new.sent ≡ old.sent ++ number j ∷ []) × (new.own ≡ old.own)))
