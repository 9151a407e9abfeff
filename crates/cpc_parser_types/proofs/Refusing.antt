-- What a function gives that refuses behind what it read.
use Rattle.std.proofs.Common.{◌≡◌, ℕ, List, Result, Err, refl}
use Rattle.std.specs.Result.{IsErrAnd}
use Rattle.cpc_tree.specs.Tokens.{Placed}
use Rattle.cpc_parser_reading.specs.Reading.{Reading, ◌>>=◌}
use Rattle.cpc_parser_types.specs.declared.refusal.Refusal as GRefusal
use Rattle.cpc_parser_types.specs.Views.{Refuses, Gives}
use Rattle.cpc_parser_types.proofs.Giving.{err_on}

-- the refusal that is handed on
pub refused_is : {Y : Type 0} {x : Result Y GRefusal.Refusal} {e : GRefusal.Refusal} → x ≡ Err e → IsErrAnd x (λ y. y ≡ e)
refused_is {Y} {x} {e} i = rw i refl

-- that of a part
pub refused_through : {Y A B : Type 0} (view : Y → B × ℕ × List Placed) (x : Result Y GRefusal.Refusal) (e : GRefusal.Refusal) (r : Reading Placed A) (s : Reading Placed B) (k : A × ℕ × List Placed → Reading Placed B)
    → x ≡ Err e → Refuses e r → s ≡ (r >>= k) → Gives view x s
refused_through view x e r s k i g j = rw i (err_on e r s k g j)
