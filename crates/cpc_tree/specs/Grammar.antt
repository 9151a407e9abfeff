-- What reading a program answers: the program that the tokens are, or the first token at which none is left.
use Rattle.std.specs.Prelude.{◌≡◌, ℕ, ◌≤◌, List, [], ◌∷◌, ◌++◌}
use Rattle.cpc_base.specs.declared.stop.Place.{Place}
use Rattle.cpc_base.specs.declared.stop.Dialect.{Dialect}
use Rattle.cpc_base.specs.declared.stop.Dialect.TheVariants as D
use Rattle.cpc_base.specs.Bytes.{Text}
use Rattle.cpc_tree.specs.Tokens.{Placed}
use Rattle.cpc_tree.specs.Cut.{text_start, place_behind, IsCut}
use Rattle.cpc_tree.specs.Located.{LItem, LProgram}
use Rattle.cpc_tree.specs.ItemGrammar.{ReadsItems}

-- the numbers of the faults
abbrev pub syntax_fault : ℕ
syntax_fault = 1

abbrev pub deep_fault : ℕ
deep_fault = 2

-- how deep a text may nest
abbrev pub nesting_limit : Dialect → ℕ
nesting_limit D.Cpc = 256
nesting_limit D.Event = 512

-- the tokens up to the end are the program, within the nesting of the dialect
abbrev pub IsProgram : Dialect → List Placed → Place → LProgram → Type 0
IsProgram dialect list end program = (program.end ≡ end) × (h : ℕ) × (h ≤ nesting_limit dialect) × ReadsItems list program.items h

-- the text is cut and read as the program
abbrev pub Parses : Dialect → Text → LProgram → Type 0
Parses dialect text program = (list : List Placed) × IsCut text dialect list × IsProgram dialect list (place_behind text_start text) program

-- the tokens begin a program that nests so deep at most
abbrev pub IsOpen : ℕ → List Placed → Type 0
IsOpen limit front = (rest : List Placed) × (items : List LItem) × (h : ℕ) × (h ≤ limit) × ReadsItems (front ++ rest) items h

-- the tokens begin a program, however deep
abbrev pub IsBegun : List Placed → Type 0
IsBegun front = (limit : ℕ) × IsOpen limit front

-- The first token at which no program is left, or none within the nesting. At the end of the text no program is left
-- where the tokens begin one but are none.
pub data FaultsAt (dialect : Dialect) (front : List Placed) : List Placed → ℕ → Type 0 where
  syntax_at : (t : Placed) (left : List Placed) → IsOpen (nesting_limit dialect) front → (IsBegun (front ++ t ∷ []) → ⊥) → FaultsAt dialect front (t ∷ left) syntax_fault
  syntax_at_end : IsOpen (nesting_limit dialect) front → ((items : List LItem) (h : ℕ) → ReadsItems front items h → ⊥) → FaultsAt dialect front [] syntax_fault
  deep_at : (t : Placed) (left : List Placed) → IsOpen (nesting_limit dialect) front → IsBegun (front ++ t ∷ []) → (IsOpen (nesting_limit dialect) (front ++ t ∷ []) → ⊥)
      → FaultsAt dialect front (t ∷ left) deep_fault

-- the place of the first of the tokens, or the end of the text
abbrev pub first_place : Place → List Placed → Place
first_place end [] = end
first_place end (t ∷ list) = t.place

-- the fault of tokens that are no program within the nesting
abbrev pub IsParseFault : Dialect → List Placed → Place → Place → ℕ → Type 0
IsParseFault dialect list end place number =
    (front : List Placed) × (left : List Placed) × (list ≡ front ++ left) × (place ≡ first_place end left) × FaultsAt dialect front left number
