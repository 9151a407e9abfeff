-- How many registers a piece has at most: as many as its function has variables, and 7 more.
use Rattle.std.proofs.Common.{◌≡◌, ℕ, ◌+◌, ◌≤◌, Bool, true, false, not, ◌&&◌, List, [], ◌∷◌, ◌++◌, length, Option, arith}
use Rattle.cpc_tree.specs.Registers.{variables}
use Rattle.cpc_tree.specs.Syntax.{Variable, Function, Program}
use Rattle.cpc_base.specs.Bytes.{Text}
use Rattle.cpc_base.proofs.Lists.{length_of_map, length_of_append}
use Rattle.cpc_store.specs.Store.{Value}
use Rattle.cpc_tree.specs.Points.{Point}
use Rattle.cpc_meaning.specs.Eval.{Slot, Register, Boxed}
use Rattle.cpc_meaning.specs.Plain.{Frame}
use Rattle.cpc_meaning.specs.Runs.{slots_registers, most_variables}
use Rattle.cpc_forms.specs.Flow.{Place, Start, At}
use Rattle.cpc_convert_routines.specs.Arriving.{arriving_type}
use Rattle.cpc_chains_event.specs.LocalLaws.{piece_locals}
use Rattle.cpc_convert_routines.specs.Named.{IsNamed, IsCps, IsOwner}
use Rattle.cpc_convert_routines.specs.Names.{value_name}
use Rattle.cpc_convert_routines.specs.Taken.{takes_value}
use Rattle.cpc_chains_event.specs.Pieces.{called_so, loaded, words_of, begun}
use Rattle.cpc_convert_routines.specs.Routines.{Routine, routine_of, closure_of, local_of, locals_of, variable_if, is_plain, is_parameter, chosen}
use Rattle.cpc_chains_laws.specs.Related.Running.{Places}
use Rattle.cpc_lifted_laws.specs.Piece.Known.{CpsKnown}
use Rattle.cpc_chains_laws.specs.Piece.Stood.{Stood, AtRow, AtCall}
use Rattle.cpc_chains_laws.proofs.Piece.Frames.{kept_number}
use Rattle.cpc_chains_laws.proofs.Entry.Counting.{variables_shared}
use Rattle.cpc_chains_laws.proofs.Entry.Resuming.{words_of_number}
use Rattle.cpc_lifted_laws.proofs.Runs.Bounds.{most_within}

few_registers : (slots : List Slot) → slots_registers slots ≤ length slots
few_registers [] = omega arith
few_registers (Register v ∷ slots) = let h = few_registers slots in omega (arith, h)
few_registers (Boxed n ∷ slots) = let h = few_registers slots in omega (arith, h)

if_number : (b : Bool) (x : Variable) (xs : List Variable) → length (variable_if b x xs) ≤ 1 + length xs
if_number true x xs = omega arith
if_number false x xs = omega arith

-- no piece has more registers than this
abbrev pub ArePlacesThin : Program → Places → Type 0
ArePlacesThin p There = (f : Text) (l : Place) (n : ℕ) (slots : List Slot) (o : Option Value) (next : Value) (piece : Frame Point) (o' : Option Value) → There f l n slots o next piece o' → slots_registers piece.slots ≤ 7 + most_variables p

module _ (p : Program) (named : IsNamed p) (known : (f : Function) → IsCps p f → CpsKnown p f) (f : Function) (cps : IsCps p f) where
  abbrev r : Routine
  r = routine_of p f

  -- a variable is loaded or begun, not both
  loaded_begun : (l : Place) → IsOwner r l → length (loaded r l) + length (begun r l) ≤ length (variables f)
  loaded_begun Start owner =
      let h = variables_shared p named f cps in
      let e = length_of_append (chosen (λ k. not (is_parameter f k) && is_plain r k) (closure_of r Start)) r.boxes in
      omega (arith, h, e)
  loaded_begun (At n) owner = let h = kept_number p f (known f cps) (At n) owner (At n) in omega (arith, h)

  locals_number : (l : Place) → IsOwner r l → length (piece_locals p r l) ≤ 7 + length (variables f)
  locals_number l owner =
      let a = if_number (takes_value r l) (called_so value_name (arriving_type p r l)) (locals_of r (loaded r l) ++ (words_of p r l ++ locals_of r (begun r l))) in
      let b = length_of_append (locals_of r (loaded r l)) (words_of p r l ++ locals_of r (begun r l)) in
      let c = length_of_append (words_of p r l) (locals_of r (begun r l)) in
      let d = length_of_map (local_of r) (loaded r l) in
      let e = length_of_map (local_of r) (begun r l) in
      let g = words_of_number p r l in
      let h = loaded_begun l owner in
      omega (arith, a, b, c, d, e, g, h)

  slots_few : (l : Place) → IsOwner r l → (slots : List Slot) → length slots ≡ length (piece_locals p r l) → slots_registers slots ≤ 7 + most_variables p
  slots_few l owner slots number =
      let a = few_registers slots in
      let b = locals_number l owner in
      let c = most_within p f cps in
      omega (arith, a, b, c, number)

-- wherever a piece stands
pub stood_thin : (p : Program) → IsNamed p → ((f : Function) → IsCps p f → CpsKnown p f) → ArePlacesThin p (Stood p)
stood_thin p named known _ _ _ _ _ _ _ _ (AtRow g l n slots o lower slots' is node has at locals arrives) = slots_few p named known g is.cps l node.owner slots' locals.number
stood_thin p named known _ _ _ _ _ _ _ _ (AtCall g l m n slots v lower slots' is node at call back locals) = slots_few p named known g is.cps l node.owner slots' locals.number
