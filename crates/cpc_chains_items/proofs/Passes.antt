-- Parameters that are passed, one by one.
use Rattle.std.proofs.Common.{◌≡◌, ℕ, zero, suc, ◌+◌, true, false, Bool, List, [], ◌∷◌, ◌++◌, Option, Some, slice_get, refl, sym, ap, ◌∙◌, arith}
use Rattle.cpc_tree.specs.Syntax.{Variable}
use Rattle.cpc_tree.specs.Typing.{is_scalar}
use Rattle.cpc_convert_routines.specs.Names.{variable_name}
use Rattle.cpc_convert_routines.specs.Routines.{variable_if, passed_from}
use Rattle.cpc_chains_items.specs.Passed.{passed_one, passed_always, passed_at}

put_before : (b : Bool) (x : Variable) (rest more : List Variable) → variable_if b x (rest ++ more) ≡ variable_if b x rest ++ more
put_before true x rest more = refl
put_before false x rest more = refl

-- one more parameter
pub passed_more : (k n j : ℕ) (xs : List Variable) → j ≡ k + n → passed_from k (suc n) xs ≡ passed_from k n xs ++ passed_one j (slice_get xs n)
passed_more k zero j [] is = refl
passed_more k zero j (x ∷ xs) is = let same : k ≡ j = omega (arith, is) in ap (λ m. variable_if (is_scalar x.type) (record { called = variable_name m x.called; type = x.type }) []) same
passed_more k (suc n) j [] is = refl
passed_more k (suc n) j (x ∷ xs) is =
    let v : Variable = record { called = variable_name k x.called; type = x.type } in
    ap (variable_if (is_scalar x.type) v) (passed_more (suc k) n j xs (omega (arith, is))) ∙ put_before (is_scalar x.type) v (passed_from (suc k) n xs) (passed_one j (slice_get xs n))

-- a parameter whose value is passed
pub passed_scalar : (k : ℕ) (o : Option Variable) (x : Variable) → o ≡ Some x → is_scalar x.type ≡ true → passed_always k o ≡ passed_one k o
passed_scalar k o x is scalar = ap (passed_always k) is ∙ (ap (λ b. variable_if b (passed_at k x) []) (sym scalar) ∙ sym (ap (passed_one k) is))

-- one whose value is not
pub passed_no_value : (k : ℕ) (o : Option Variable) (x : Variable) → o ≡ Some x → is_scalar x.type ≡ false → passed_one k o ≡ []
passed_no_value k o x is other = ap (passed_one k) is ∙ ap (λ b. variable_if b (passed_at k x) []) other
