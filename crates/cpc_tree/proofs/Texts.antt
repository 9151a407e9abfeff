-- The text of a name by what its table has at its number.
use Rattle.std.proofs.Common.{◌≡◌, ℕ, List, [], get_or, Some, None, sym, ap, ◌∙◌}
use Rattle.std.specs.Prelude.{slice_get, unwrap_or}
use Rattle.std.proofs.lemmas.Option.{get_or_from_slice_get, unwrap_or-slice_get}
use Rattle.cpc_base.specs.Bytes.{Text}

pub text_there : (table : List Text) (n : ℕ) (t : Text) → Some t ≡ slice_get table n → t ≡ get_or table n []
text_there table n t e = sym (get_or_from_slice_get table n t [] (sym e))

-- a name that the table does not have has no bytes
pub text_absent : (table : List Text) (n : ℕ) → None ≡ slice_get table n → [] ≡ get_or table n []
text_absent table n e = ap (λ o. unwrap_or o []) e ∙ unwrap_or-slice_get table n []
