-- Which numbers have rows in a piece: those of the nodes that its owner owns and that have a row, and leaders that are not its own.
use Rattle.std.proofs.Common.{◌≡◌, ◌⊎◌, inl, inr, ⊎_elim, ℕ, ◌<◌, Bool, true, false, not, ◌&&◌, ◌||◌, ◌==◌, List, [], ◌∷◌, ◌++◌, length, Some, refl, ◌∙◌, ap, subst}
use Rattle.cpc_base.proofs.Lists.{found_within}
use Rattle.cpc_tree.specs.Lists.{holds_number}
use Rattle.cpc_tree.specs.Syntax.{Function, Program}
use Rattle.cpc_forms.specs.Flow.{Place, At, Flow, is_owner, owner_of, goes_to, Owns, Itself, Onwards}
use Rattle.cpc_forms.specs.Graph.{graph_of}
use Rattle.cpc_forms.specs.Pieces.{is_owned_by, piece_nodes, first_of}
use Rattle.cpc_graph_laws.specs.Laws.{flow_in}
use Rattle.cpc_graph_laws.proofs.Leaders.{inside, leader_below}
use Rattle.cpc_graph_laws.proofs.Owners.{owner_owns}
use Rattle.cpc_graph_laws.proofs.Owning.{pieces_hold_theirs, place_self}
use Rattle.cpc_graph_laws.proofs.Splits.{owner_there}
use Rattle.cpc_convert_routines.specs.Routines.{Routine, routine_of, chosen}
use Rattle.cpc_chains_event.specs.Rows.{owner_at, reached, stubs_of, row_of, falls, stub_behind, numbers_from, numbers_of}
use Rattle.cpc_convert_routines.specs.Nodes.{is_own, has_row, rows_nodes}
use Rattle.cpc_chains_event.proofs.Labels.{rows_stand_once, turned_is, behind_is}
use Rattle.cpc_convert_routines.proofs.Numbers.{held_either, chosen_is}
use Rattle.cpc_chains_laws.proofs.Piece.Ways.{listed}

-- what is listed is a node or a leader that is not the piece's own
pub from_is : (p : Program) (r : Routine) (l : Place) (stubs placed ns : List ℕ) (m : ℕ) → holds_number (numbers_from p r l stubs placed ns) m ≡ true → (holds_number ns m ≡ true) ⊎ (holds_number stubs m ≡ true)
from_is p r l stubs placed [] m h = absurd (cc)
from_is p r l stubs placed (n ∷ ns) m h = go (n == m) refl h (λ i. from_is p r l stubs (b ++ placed) ns m i)
  where
    b : List ℕ
    b = stub_behind stubs placed (falls (row_of p r l n).lines)

    go : (c : Bool) → (n == m) ≡ c → (c || holds_number (b ++ numbers_from p r l stubs (b ++ placed) ns) m) ≡ true
        → (holds_number (numbers_from p r l stubs (b ++ placed) ns) m ≡ true → (holds_number ns m ≡ true) ⊎ (holds_number stubs m ≡ true)) → ((c || holds_number ns m) ≡ true) ⊎ (holds_number stubs m ≡ true)
    go true e i deeper = inl refl
    go false e i deeper =
        held_either b (numbers_from p r l stubs (b ++ placed) ns) m ((holds_number ns m ≡ true) ⊎ (holds_number stubs m ≡ true)) i
        (λ j. inr (behind_is stubs placed (falls (row_of p r l n).lines) m j).0) (λ j. deeper j)

not_own : (a b : Bool) → (a && not b) ≡ true → b ≡ true → ⊥
not_own true true e h = absurd (cc)
not_own true false e h = absurd (cc)
not_own false b e h = absurd (cc)

module _ (p : Program) (f : Function) (l : Place) where
  abbrev r : Routine
  r = routine_of p f

  abbrev flow : Flow
  flow = flow_in p f

  no_stub : (n : ℕ) → is_own r.split l n ≡ true → holds_number (stubs_of r l) n ≡ true → ⊥
  no_stub n own h = not_own (holds_number (reached r l) n) (is_own r.split l n) (chosen_is (λ m. holds_number (reached r l) m && not (is_own r.split l m)) r.split.leaders n h).1 own

  -- a row of a node that is the piece's own is that of a node which its owner owns, and which has a row
  pub own_row : (n : ℕ) → holds_number (numbers_of p r l) n ≡ true → is_own r.split l n ≡ true → (owner_of flow n ≡ Some l) × (has_row r.split n ≡ true)
  own_row n h own = held_either from (chosen (λ m. not (holds_number from m)) (stubs_of r l)) n ((owner_of flow n ≡ Some l) × (has_row r.split n ≡ true)) h
      (λ i. ⊎_elim (λ a. node a) (λ a. absurd (no_stub n own a)) (from_is p r l (stubs_of r l) [] (rows_nodes r.split l) n i))
      (λ i. absurd (no_stub n own (chosen_is (λ m. not (holds_number from m)) (stubs_of r l) n i).0))
    where
      from : List ℕ
      from = numbers_from p r l (stubs_of r l) [] (rows_nodes r.split l)

      node : holds_number (rows_nodes r.split l) n ≡ true → (owner_of flow n ≡ Some l) × (has_row r.split n ≡ true)
      node i = let c = chosen_is (has_row r.split) (piece_nodes r.split l) n (turned_is (first_of r.split l) (chosen (has_row r.split) (piece_nodes r.split l)) n i) in ((pieces_hold_theirs p f l n).0 c.0, c.1)

  -- what has an owner is a node
  pub owned_below : (n : ℕ) (k : Place) → owner_of flow n ≡ Some k → n < length (graph_of p f).nodes
  owned_below n k e = let w = owner_owns flow k n e in go (At n) w.0 w.1 n refl
    where
      go : (a : Place) (d : ℕ) → Owns flow k d a → (m : ℕ) → a ≡ At m → m < length (graph_of p f).nodes
      go _ _ (Itself i) m j = leader_below flow (inside p f) m (subst (λ x. is_owner flow x ≡ true) j i)
      go _ _ (Onwards d a j owns goes leads) m i = let z : j ≡ m = cc in (inside p f).target a m (subst (λ x. goes_to flow a x ≡ true) z goes)

  -- each such node has its row
  pub row_there : (n : ℕ) → owner_of flow n ≡ Some l → has_row r.split n ≡ true → (holds_number (numbers_of p r l) n ≡ true) × (is_own r.split l n ≡ true)
  row_there n e has =
      let node = found_within (graph_of p f).nodes n (owned_below n l e) in
      ((rows_stand_once p f l).nodes n (listed p f l n e has), ap (λ o. is_owned_by l (owner_at o)) (owner_there (graph_of p f) n node.0 node.1) ∙ (ap (is_owned_by l) e ∙ place_self l))
