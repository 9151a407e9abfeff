-- Rows of numbers below a bound: the numbers of a piece's rows are numbers of nodes, and those of boxes rise.
use Rattle.std.proofs.Common.{◌≡◌, ℕ, suc, ◌+◌, ◌≤◌, ◌<◌, Bool, true, false, not, ◌&&◌, ◌||◌, ◌==◌, if◌then◌else◌, List, [], ◌∷◌, ◌++◌, length, nat_le, nat_lt, Option, Some, None, refl, arith}
use Rattle.cpc_base.proofs.Truth.{eq_means}
use Rattle.cpc_tree.specs.Lists.{holds_number}
use Rattle.cpc_tree.specs.Syntax.{Program}
use Rattle.cpc_forms.specs.Flow.{Place}
use Rattle.cpc_forms.specs.Split.{number_if}
use Rattle.cpc_forms.specs.Pieces.{is_owned_by, owned_from, without, fronted, first_of}
use Rattle.cpc_convert_routines.specs.Routines.{Routine, chosen}
use Rattle.cpc_convert_routines.specs.Nodes.{is_own, has_row, turned, rows_nodes}
use Rattle.cpc_chains_event.specs.Rows.{reached, stubs_of, row_of, falls, number_where, stub_behind, numbers_from, numbers_of}
use Rattle.cpc_convert_routines.proofs.Numbers.{AllBelow, NoneBelow, OneBelow, below_append, below_chosen}

-- a number that is held is below what all are below
pub below_held : (high : ℕ) (ns : List ℕ) (n : ℕ) → AllBelow high ns → holds_number ns n ≡ true → n < high
below_held high _ n NoneBelow h = absurd (cc)
below_held high _ n (OneBelow m ns less more) h = go (m == n) refl h (λ i. below_held high ns n more i)
  where
    go : (b : Bool) → (m == n) ≡ b → (b || holds_number ns n) ≡ true → (holds_number ns n ≡ true → n < high) → n < high
    go true e i deeper = let z = eq_means m n e in omega (arith, z, less)
    go false e i deeper = deeper i

below_if : (high : ℕ) (b : Bool) (n : ℕ) (ns : List ℕ) → n < high → AllBelow high ns → AllBelow high (number_if b n ns)
below_if high true n ns h a = OneBelow n ns h a
below_if high false n ns h a = a

below_without : (high m : ℕ) (ns : List ℕ) → AllBelow high ns → AllBelow high (without m ns)
below_without high m _ NoneBelow = NoneBelow
below_without high m _ (OneBelow n ns h a) = below_if high (not (n == m)) n (without m ns) h (below_without high m ns a)

below_fronted : (high m : ℕ) (ns : List ℕ) → AllBelow high ns → AllBelow high (fronted m ns)
below_fronted high m ns a = go (holds_number ns m) refl
  where
    go : (b : Bool) → holds_number ns m ≡ b → AllBelow high (if b then m ∷ without m ns else ns)
    go true e = OneBelow m (without m ns) (below_held high ns m a e) (below_without high m ns a)
    go false e = a

below_owned : (high : ℕ) (l : Place) (n : ℕ) (os : List (Option Place)) → n + length os ≤ high → AllBelow high (owned_from l n os)
below_owned high l n [] h = NoneBelow
below_owned high l n (o ∷ os) h = below_if high (is_owned_by l o) n (owned_from l (suc n) os) (omega (arith, h)) (below_owned high l (suc n) os (omega (arith, h)))

below_turned : (high m : ℕ) (ns : List ℕ) → AllBelow high ns → AllBelow high (turned m ns)
below_turned high m ns a = below_append high (chosen (λ n. nat_le m n) ns) (chosen (λ n. nat_lt n m) ns) (below_chosen high (λ n. nat_le m n) ns a) (below_chosen high (λ n. nat_lt n m) ns a)

below_behind : (high : ℕ) (stubs placed : List ℕ) → AllBelow high stubs → (o : Option ℕ) → AllBelow high (stub_behind stubs placed o)
below_behind high stubs placed a None = NoneBelow
below_behind high stubs placed a (Some n) = go (holds_number stubs n) (not (holds_number placed n)) refl
  where
    go : (b c : Bool) → holds_number stubs n ≡ b → AllBelow high (number_where (b && c) n)
    go true true e = OneBelow n [] (below_held high stubs n a e) NoneBelow
    go true false e = NoneBelow
    go false c e = NoneBelow

below_from : (p : Program) (r : Routine) (l : Place) (high : ℕ) (stubs placed : List ℕ) → AllBelow high stubs → (ns : List ℕ) → AllBelow high ns → AllBelow high (numbers_from p r l stubs placed ns)
below_from p r l high stubs placed s _ NoneBelow = NoneBelow
below_from p r l high stubs placed s _ (OneBelow n ns h a) =
    OneBelow n _ h
    (below_append high (stub_behind stubs placed (falls (row_of p r l n).lines)) _ (below_behind high stubs placed s (falls (row_of p r l n).lines))
    (below_from p r l high stubs (stub_behind stubs placed (falls (row_of p r l n).lines) ++ placed) s ns a))

-- the numbers of a piece
pub below_numbers : (p : Program) (r : Routine) (l : Place) (high : ℕ) → length r.split.owners ≤ high → AllBelow high r.split.leaders → AllBelow high (numbers_of p r l)
below_numbers p r l high few leaders =
    let stubs = below_chosen high (λ n. holds_number (reached r l) n && not (is_own r.split l n)) r.split.leaders leaders in
    let nodes = below_turned high (first_of r.split l) _ (below_chosen high (has_row r.split) _ (below_fronted high (first_of r.split l) _ (below_owned high l 0 r.split.owners (omega (arith, few))))) in
    let from = below_from p r l high (stubs_of r l) [] stubs (rows_nodes r.split l) nodes in
    below_append high (numbers_from p r l (stubs_of r l) [] (rows_nodes r.split l)) _ from (below_chosen high (λ n. not (holds_number (numbers_from p r l (stubs_of r l) [] (rows_nodes r.split l)) n)) (stubs_of r l) stubs)
