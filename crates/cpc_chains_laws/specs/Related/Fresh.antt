-- Frame blocks at which no value has arrived, and blocks that were made and freed.
use Rattle.std.specs.Prelude.{◌≡◌, ℕ, zero, suc, List, [], ◌∷◌, ◌++◌, slice_get, Option, Some, None}
use Rattle.cpc_store.specs.Store.{Value, Unset, Blocks}

-- no value has arrived at a frame: its third cell, that of `value__`, is unset
abbrev pub IsFresh : Option (List Value) → Type 0
IsFresh None = Unit {0}
IsFresh (Some cells) = slice_get cells 2 ≡ Some Unset

-- none has arrived at any
abbrev pub AllFresh : Blocks → Type 0
AllFresh [] = Unit {0}
AllFresh (x ∷ bs) = IsFresh x × AllFresh bs

-- blocks, and so many that were made behind them and freed
abbrev pub beyond : ℕ → Blocks → Blocks
beyond zero bs = bs
beyond (suc n) bs = beyond n (bs ++ None ∷ [])
