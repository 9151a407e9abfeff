-- How cps functions are cut, by what a frame keeps a variable, and callbacks with the blocks that they own.
use Rattle.std.specs.Prelude.{◌≡◌, ℕ, Bool, List, map, slice_get, Option, Some, None}
use Rattle.cpc_base.specs.Bytes.{Text}
use Rattle.cpc_store.specs.declared.values.Class.TheVariants.{Auto}
use Rattle.cpc_store.specs.Store.{Value, Unset, At as Pointer}
use Rattle.cpc_meaning.specs.Agenda.{Agenda}
use Rattle.cpc_meaning.specs.Eval.{Slot, Register, Boxed}
use Rattle.cpc_meaning.specs.Events.{Callback}
use Rattle.cpc_forms.specs.Flow.{Place}
use Rattle.cpc_lifted_laws.specs.Related.Sums.{all_joined}

-- how cps functions are cut: the name of the piece of an owner, the variables that the frames of an owner keep in the order of their
-- fields, the name of the spawner, and which functions are not cut, which are native or detached
pub record Cut : Type 0 where
  pub piece : Text → Place → Text
  pub keeps : Text → Place → List ℕ
  pub spawner : Text → Text
  pub whole : Text → Bool

-- the value by which a frame keeps a variable: a register's value, or the pointer to a box
abbrev pub value_in : Option Slot → Value
value_in (Some (Register v)) = v
value_in (Some (Boxed n)) = Pointer Auto n 0
value_in None = Unset

-- the values by which it keeps these variables
abbrev pub copied : List Slot → List ℕ → List Value
copied slots ks = map (λ (k : ℕ). value_in (slice_get slots k)) ks

-- a callback, and the numbers of the frame blocks of its chain
pub record Tagged : Type 0 where
  pub callback : Callback
  pub owned : List ℕ

-- a callback that bears a tag, and without it
abbrev pub IsUntagged : Tagged → Callback → Type 0
IsUntagged t c = t.callback ≡ c

-- the blocks of all chains of an agenda
abbrev pub owned_in : Agenda Tagged → List ℕ
owned_in a = all_joined (λ (t : Tagged). t.owned) a
