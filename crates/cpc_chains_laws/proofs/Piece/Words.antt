-- The words of a piece: for the frame that it gives, for one below that, and for the value that it returns, where a node uses them.
use Rattle.std.proofs.Common.{◌≡◌, ℕ, ◌≤◌, Bool, true, false, not, ◌||◌, ◌==◌, List, [], ◌∷◌, length, slice_get, Some, refl, ◌∙◌, ap, arith, codes}
use Rattle.cpc_base.proofs.Truth.{eq_means, or_by_second}
use Rattle.cpc_tree.specs.Lists.{holds_number, is_empty}
use Rattle.cpc_tree.specs.Syntax.{Ty, Function, Program}
use Rattle.cpc_forms.specs.Flow.{Place}
use Rattle.cpc_forms.specs.Graph.{Node, at_node}
use Rattle.cpc_chains_event.specs.LocalLaws.{piece_locals, StandsIn}
use Rattle.cpc_convert_routines.specs.Named.{IsOwner}
use Rattle.cpc_convert_routines.specs.Names.{to_name, under_name, result_name}
use Rattle.cpc_chains_event.specs.Pieces.{called_so, to_frame, words_if, is_wait, is_entry}
use Rattle.cpc_convert_routines.specs.Taken.{any_node, is_result}
use Rattle.cpc_convert_routines.specs.Routines.{Routine, routine_of}
use Rattle.cpc_convert_routines.specs.Nodes.{has_row, rows_nodes}
use Rattle.cpc_chains_event.specs.Rows.{stubs_of}
use Rattle.cpc_chains_event.proofs.Fields.{word_apart}
use Rattle.cpc_lifted_laws.specs.Piece.Known.{CpsKnown}
use Rattle.cpc_chains_laws.specs.Piece.Stood.{NodeAt}
use Rattle.cpc_chains_laws.proofs.Piece.Frames.{Word}
use Rattle.cpc_chains_laws.proofs.Piece.Scopes.{meant}
use Rattle.cpc_chains_laws.proofs.Piece.Stubs.{first_word}
use Rattle.cpc_chains_laws.proofs.Piece.Ways.{owner_is, listed}

-- a test holds of one of these nodes where it holds of this one
pub any_has : (r : Routine) (test : Node → Bool) (ns : List ℕ) (n : ℕ) (node : Node) → slice_get r.split.graph.nodes n ≡ Some node → holds_number ns n ≡ true → test node ≡ true → any_node r test ns ≡ true
any_has r test [] n node e h t = absurd (cc)
any_has r test (k ∷ ns) n node e h t = go (k == n) refl h (λ i. any_has r test ns n node e i t)
  where
    go : (b : Bool) → (k == n) ≡ b → (b || holds_number ns n) ≡ true → (holds_number ns n ≡ true → any_node r test ns ≡ true) → any_node r test (k ∷ ns) ≡ true
    go true i j deeper = ap (λ b. b || any_node r test ns) (ap (λ m. at_node false test (slice_get r.split.graph.nodes m)) (eq_means k n i) ∙ (ap (at_node false test) e ∙ t))
    go false i j deeper = or_by_second (at_node false test (slice_get r.split.graph.nodes k)) (any_node r test ns) (deeper j)

-- three words at most
pub words_few : (a b c : Bool) (t : Ty) → length (words_if a b c t) ≤ 3
words_few true true true t = omega arith
words_few true true false t = omega arith
words_few true false true t = omega arith
words_few true false false t = omega arith
words_few false true true t = omega arith
words_few false true false t = omega arith
words_few false false true t = omega arith
words_few false false false t = omega arith

second_word : (a b c : Bool) (t : Ty) → b ≡ true → StandsIn (called_so under_name to_frame) (words_if a b c t)
second_word true true c t e = (1, refl)
second_word false true c t e = (0, refl)
second_word a false c t e = absurd (cc)

third_word : (a b c : Bool) (t : Ty) → c ≡ true → StandsIn (called_so result_name t) (words_if a b c t)
third_word true true true t e = (2, refl)
third_word true false true t e = (1, refl)
third_word false true true t e = (1, refl)
third_word false false true t e = (0, refl)
third_word a b false t e = absurd (cc)

module _ (p : Program) (f : Function) (known : CpsKnown p f) (l : Place) (owner : IsOwner (routine_of p f) l) where
  abbrev r : Routine
  r = routine_of p f

  -- a word for a frame below is no variable's name
  pub under_word : (j : ℕ) → slice_get (piece_locals p r l) j ≡ Some (called_so under_name to_frame) → Word p f known l owner under_name to_frame j
  under_word j e = record { stands = e; variable = λ k x plain small. word_apart (codes "under") k x refl plain small; next = refl }

  pub result_word : (j : ℕ) → slice_get (piece_locals p r l) j ≡ Some (called_so result_name f.result) → Word p f known l owner result_name f.result j
  result_word j e = record { stands = e; variable = λ k x plain small. word_apart (codes "result") k x refl plain small; next = refl }

  module _ (n : ℕ) (at : NodeAt p f l n) (has : has_row r.split n ≡ true) where
    some_node : (test : Node → Bool) → test at.node ≡ true → any_node r test (rows_nodes r.split l) ≡ true
    some_node test t = any_has r test (rows_nodes r.split l) n at.node at.is_node (listed p f l n (owner_is p f l n at) has) t

    -- where a node waits, calls a cps function, or returns a value, the word that it uses is there
    pub wait_word : is_wait at.node.manner at.node.stood ≡ true → StandsIn (called_so to_name to_frame) (piece_locals p r l)
    wait_word e =
        (meant p f known l owner).words (called_so to_name to_frame) (
          0,
          first_word _ (any_node r (λ node. is_entry p node.stood) (rows_nodes r.split l)) (any_node r (λ node. is_result node.stood) (rows_nodes r.split l)) f.result
              (or_by_second (not (is_empty (stubs_of r l))) (any_node r (λ node. is_wait node.manner node.stood) (rows_nodes r.split l)) (some_node (λ node. is_wait node.manner node.stood) e)),
        )

    pub entry_word : is_entry p at.node.stood ≡ true → StandsIn (called_so under_name to_frame) (piece_locals p r l)
    entry_word e =
        (meant p f known l owner).words (called_so under_name to_frame)
        (second_word (not (is_empty (stubs_of r l)) || any_node r (λ node. is_wait node.manner node.stood) (rows_nodes r.split l)) (any_node r (λ node. is_entry p node.stood) (rows_nodes r.split l))
        (any_node r (λ node. is_result node.stood) (rows_nodes r.split l)) f.result (some_node (λ node. is_entry p node.stood) e))

    pub value_word : is_result at.node.stood ≡ true → StandsIn (called_so result_name f.result) (piece_locals p r l)
    value_word e =
        (meant p f known l owner).words (called_so result_name f.result)
        (third_word (not (is_empty (stubs_of r l)) || any_node r (λ node. is_wait node.manner node.stood) (rows_nodes r.split l)) (any_node r (λ node. is_entry p node.stood) (rows_nodes r.split l))
        (any_node r (λ node. is_result node.stood) (rows_nodes r.split l)) f.result (some_node (λ node. is_result node.stood) e))
