-- The limit of cells, by numbers of cells that are capped far above it.
use Rattle.std.proofs.Common.{◌≡◌, ℕ, ◌≤◌, ◌<◌, List, true, false, ◌&&◌, nat_le, nat_lt, inl, inr, Option, Some, None, is_some, option_map, refl, ap, sym, ◌∙◌, arith}
use Rattle.std.proofs.lemmas.Bool.{cases_lt}
use Rattle.std.proofs.lemmas.Bool.Decides.{nat_tests}
use Rattle.cpc_tree.specs.Syntax.{Ty, Variable, Program}
use Rattle.cpc_tree.specs.Typing as T
use Rattle.cpc_check_rules.specs.Scopes as R
use Rattle.cpc_check_rules.specs.ItemRules.{is_oversized}
use Rattle.cpc_shapes.specs.Counted.{fields_count}
use Rattle.cpc_types_structs.specs.Sized.{capped, capped_size}

-- ---- numbers: a capped one is on the same side of the limit

low_same : (c k : ℕ) → c ≡ capped k → c ≤ 65536 → c ≡ k
low_same c k e h = omega arith

low_again : (c k : ℕ) → c ≡ capped k → c ≤ 65536 → nat_le k 65536 ≡ true
low_again c k e h = let g : c ≡ k = low_same c k e h in grind (arith, nat_tests)

high_again : (c k : ℕ) → c ≡ capped k → 65536 < c → nat_le k 65536 ≡ false
high_again c k e h = let g : 65536 < k = omega arith in grind (arith, nat_tests)

over_same : (c k : ℕ) → c ≡ capped k → nat_lt 65536 c ≡ nat_lt 65536 k
over_same c k e = elim (cases_lt 65536 k) [
  | inl h ↦ let g : 65536 < c = omega arith in let a : nat_lt 65536 c ≡ true = grind (arith, nat_tests) in let b : nat_lt 65536 k ≡ true = grind (arith, nat_tests) in a ∙ sym b
  | inr h ↦ let g : c ≡ k = omega arith in ap (nat_lt 65536) g
]

sized_same : (c k : ℕ) → c ≡ capped k → (nat_lt 0 c && nat_le c 65536) ≡ (nat_lt 0 k && nat_le k 65536)
sized_same c k e = elim (cases_lt 65536 k) [
  | inl h ↦
      let g : 65536 < c = omega arith in
      let a : nat_lt 0 c ≡ nat_lt 0 k = grind (arith, nat_tests) in
      let b : nat_le c 65536 ≡ nat_le k 65536 = grind (arith, nat_tests) in
      ap (λ x. x && nat_le c 65536) a ∙ ap (λ x. nat_lt 0 k && x) b
  | inr h ↦ let g : c ≡ k = omega arith in ap (λ n. nat_lt 0 n && nat_le n 65536) g
]

-- ---- numbers that may be absent

cells_some : (o : Option ℕ) (c : ℕ) → Some c ≡ option_map capped o → (nat_lt 0 c && nat_le c 65536) ≡ R.has_cells o
cells_some None c e = cc
cells_some (Some k) c e = let f : c ≡ capped k = cc in sized_same c k f

cells_none : (o : Option ℕ) → None ≡ option_map capped o → false ≡ R.has_cells o
cells_none None e = refl
cells_none (Some k) e = cc

over_is : (o : Option ℕ) (c : ℕ) → Some c ≡ option_map capped o → nat_lt 65536 c ≡ is_oversized o
over_is None c e = cc
over_is (Some k) c e = let f : c ≡ capped k = cc in over_same c k f

under_is : (o : Option ℕ) → None ≡ option_map capped o → false ≡ is_oversized o
under_is None e = refl
under_is (Some k) e = cc

-- ---- types and fields

within_by : (s : R.Scope) (t : Ty) (o : Option ℕ) (c : ℕ) → T.size s.items t ≡ o → Some c ≡ option_map capped o → c ≤ 65536 → Some c ≡ R.measured s t
within_by s t None c is e h = cc
within_by s t (Some k) c is e h = let f : c ≡ capped k = cc in rw is (rw (low_again c k f h) (ap Some (low_same c k f h)))

over_by : (s : R.Scope) (t : Ty) (o : Option ℕ) (c : ℕ) → T.size s.items t ≡ o → Some c ≡ option_map capped o → 65536 < c → None ≡ R.measured s t
over_by s t None c is e h = cc
over_by s t (Some k) c is e h = let f : c ≡ capped k = cc in rw is (rw (high_again c k f h) refl)

none_by : (s : R.Scope) (t : Ty) (o : Option ℕ) → T.size s.items t ≡ o → None ≡ option_map capped o → None ≡ R.measured s t
none_by s t None is e = rw is refl
none_by s t (Some k) is e = cc

pub measured_within : (s : R.Scope) (t : Ty) (c : ℕ) → Some c ≡ capped_size s.items t → c ≤ 65536 → Some c ≡ R.measured s t
measured_within s t c e h = within_by s t (T.size s.items t) c refl e h

pub measured_over : (s : R.Scope) (t : Ty) (c : ℕ) → Some c ≡ capped_size s.items t → 65536 < c → None ≡ R.measured s t
measured_over s t c e h = over_by s t (T.size s.items t) c refl e h

pub measured_none : (s : R.Scope) (t : Ty) → None ≡ capped_size s.items t → None ≡ R.measured s t
measured_none s t e = none_by s t (T.size s.items t) refl e

pub sized_some : (s : R.Scope) (t : Ty) (c : ℕ) → Some c ≡ capped_size s.items t → (nat_lt 0 c && nat_le c 65536) ≡ R.is_sized s t
sized_some s t c e = cells_some (T.size s.items t) c e

pub sized_none : (s : R.Scope) (t : Ty) → None ≡ capped_size s.items t → false ≡ R.is_sized s t
sized_none s t e = cells_none (T.size s.items t) e

pub over_some : (p : Program) (fs : List Variable) (c : ℕ) → Some c ≡ option_map capped (fields_count p fs) → nat_lt 65536 c ≡ is_oversized (fields_count p fs)
over_some p fs c e = over_is (fields_count p fs) c e

pub over_none : (p : Program) (fs : List Variable) → None ≡ option_map capped (fields_count p fs) → false ≡ is_oversized (fields_count p fs)
over_none p fs e = under_is (fields_count p fs) e

some_same : (o : Option ℕ) → is_some (option_map capped o) ≡ is_some o
some_same None = refl
some_same (Some k) = refl

-- a type is complete where its cells are counted
pub complete_is : (p : Program) (t : Ty) → is_some (capped_size p t) ≡ is_some (T.size p t)
complete_is p t = some_same (T.size p t)
