-- The blocks of a call, taken back.
use Rattle.std.specs.Prelude.{◌≡◌, ℕ, List, ◌++◌, replicate, None}
use Rattle.cpc_store.specs.declared.values.Class.TheVariants.{Auto}
use Rattle.cpc_store.specs.Store.{Value, Store, alloc, next_block}
use Rattle.cpc_meaning.specs.Answer.{Gives}
use Rattle.cpc_meaning.specs.Eval as E
use Rattle.cpc_meaning.specs.Slots.{free_slots}

-- the store is as it was, but for the numbers of auto blocks that were made and freed since
pub record IsAsBefore (old new : Store) : Type 0 where
  pub freed : ℕ
  pub is : new ≡ record old { auto = old.auto ++ replicate freed None }

-- the blocks of these slots can be freed, which leaves the store as it was before they were made, but for their numbers
pub record CanTakeBack (slots : List E.Slot) (old new : Store) : Type 0 where
  pub store : Store
  pub frees : free_slots slots new ≡ Gives store
  pub back : IsAsBefore old store

-- a slot that was made: a register, or the next block
abbrev pub IsMade : E.Slot → (old new : Store) → Type 0
IsMade (E.Register v) old new = new ≡ old
IsMade (E.Boxed n) old new = (n ≡ next_block Auto old) × ((cells : List Value) × (new ≡ alloc Auto cells old))
