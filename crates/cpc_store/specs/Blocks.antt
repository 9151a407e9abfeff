-- The blocks of one class as a list by number, made of a look-up of the live ones.
use Rattle.std.specs.Prelude.{◌≡◌, ◌≤◌, ℕ, List, map, Option, None, IfSome}
use Rattle.std.specs.List.{range_with_len, All}
use Rattle.std.specs.Option.{option_map}
use Rattle.std.specs.Global.{Vec}
use Rattle.cpc_base.specs.declared.names.Name.{Name}
use Rattle.cpc_store.specs.declared.values.Value.{Value}
use Rattle.cpc_store.specs.Store.{ValueOf, BlocksOf}
use Rattle.cpc_store.specs.Seen.{seen, IsLawful}

-- what a look-up has at each number below a count, by number
abbrev pub listed : {X : Type 0} → ℕ → (ℕ → X) → List X
listed made at = map at (range_with_len 0 made)

-- the cells of a block, if it is live
abbrev pub seen_block : Option (Vec Value) → Option (List (ValueOf Name))
seen_block block = option_map (λ cells. map seen cells.items) block

-- all cells of a live block are lawful
abbrev pub IsLawfulBlock : Option (Vec Value) → Type 0
IsLawfulBlock block = IfSome block (λ cells. All (λ v. IsLawful (seen v)) cells.items)

-- the blocks of a class of which so many were made, by a look-up of the live ones
abbrev pub blocks_seen : ℕ → (ℕ → Option (Vec Value)) → BlocksOf Name
blocks_seen made at = listed made (λ n. seen_block (at n))

-- the look-up has lawful blocks alone, and none from the count on
pub record IsClass (made : ℕ) (at : ℕ → Option (Vec Value)) : Type 0 where
  pub below : (n : ℕ) → made ≤ n → at n ≡ None
  pub lawful : (n : ℕ) → IsLawfulBlock (at n)
