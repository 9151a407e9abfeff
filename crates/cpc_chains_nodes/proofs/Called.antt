-- The cps function that is found by a name.
use Rattle.std.proofs.Common.{◌≡◌, suc, bytes_eq, List, [], ◌∷◌, map, Some, All, arith}
use Rattle.cpc_base.specs.Bytes.{Text}
use Rattle.cpc_base.proofs.Lists.{if_some_gives, none_not_some}
use Rattle.cpc_tree.specs.Erase.{Names}
use Rattle.cpc_forms_code.specs.declared.lifted.LiftedFunction.{LiftedFunction}
use Rattle.cpc_convert_names.specs.Book.{find}
use Rattle.cpc_convert_names.specs.Called.{name_in}
use Rattle.cpc_convert_names.specs.declared.called.Called.{Called}

-- likewise what holds of all lifted functions
pub lifted_found : (P : LiftedFunction → Type 0) (names : Names) (cs : List Called) (x : Text) (c : Called) → All P (map (λ (d : Called). d.lifted.now) cs) → find names cs x ≡ Some c → P c.lifted.now
lifted_found P names [] x c all e = absurd (none_not_some c e)
lifted_found P names (d ∷ cs) x c all e =
    if_some_gives (λ (f : Called). P f.lifted.now) d c (bytes_eq (name_in names d.lifted.now) x) (find names cs x) (all 0 d.lifted.now (omega arith)) (λ h. lifted_found P names cs x c (λ k u lt. all (suc k) u (omega (arith, lt))) h) e
