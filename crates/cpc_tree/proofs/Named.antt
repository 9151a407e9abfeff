-- What the names of items stand for.
use Rattle.std.proofs.Common.{◌≡◌, [], ℕ, suc, Bool, true, false, cond, ◌∷◌, bytes_eq}
use Rattle.cpc_base.specs.Bytes.{Text}
use Rattle.cpc_tree.specs.Syntax.{Ty, StructItem, GlobalItem, PrototypeItem, FunctionItem, Program}
use Rattle.cpc_tree.specs.Typing.{Meant, ALocal, item_named}

no_either : (b : Bool) (a c : Meant) (k : ℕ) (t : Ty) → (a ≡ ALocal k t → ⊥) → (c ≡ ALocal k t → ⊥) → cond b a c ≡ ALocal k t → ⊥
no_either true a c k t f g e = f e
no_either false a c k t f g e = g e

-- an item is no local
pub no_local : (n : ℕ) (p : Program) (x : Text) (k : ℕ) (t : Ty) → item_named n p x ≡ ALocal k t → ⊥
no_local n [] x k t e = absurd (cc)
no_local n (StructItem tag fs ∷ items) x k t e = no_local n items x k t e
no_local n (GlobalItem g u start ∷ items) x k t e = no_either (bytes_eq g x) _ _ k t (λ h. absurd (cc)) (no_local (suc n) items x k t) e
no_local n (PrototypeItem mode f r ps ∷ items) x k t e = no_either (bytes_eq f x) _ _ k t (λ h. absurd (cc)) (no_local n items x k t) e
no_local n (FunctionItem f ∷ items) x k t e = no_either (bytes_eq f.called x) _ _ k t (λ h. absurd (cc)) (no_local n items x k t) e
