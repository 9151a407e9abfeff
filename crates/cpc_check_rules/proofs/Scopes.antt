-- What names stand for in a scope with one more name.
use Rattle.std.proofs.Common.{◌≡◌, true, false, List, [], ◌∷◌, bytes_eq, refl}
use Rattle.cpc_base.specs.Bytes.{Text}
use Rattle.cpc_tree.specs.Syntax.{Variable, Program}
use Rattle.cpc_tree.specs.Typing.{ALocal}
use Rattle.cpc_check_rules.specs.Scopes.{Block, meant, with_name}

-- the name stands for what was declared last
pub meant_last : (items : Program) (bs : List Block) (v : Variable) (x : Text) → bytes_eq v.called x ≡ true → meant (with_name (record { items = items; blocks = bs }) v) x ≡ ALocal 0 v.type
meant_last items [] v x e = rw e refl
meant_last items (b ∷ bs) v x e = rw e refl

-- any other name means what it meant before
pub meant_before : (items : Program) (bs : List Block) (v : Variable) (x : Text) → bytes_eq v.called x ≡ false → meant (with_name (record { items = items; blocks = bs }) v) x ≡ meant (record { items = items; blocks = bs }) x
meant_before items [] v x e = rw e refl
meant_before items (b ∷ bs) v x e = rw e refl
