-- The primitive of a name.
use Rattle.std.proofs.Common.{◌≡◌, Bool, true, false, List, [], ◌∷◌, map, Option, Some, option_map, refl, ap, ◌∙◌}
use Rattle.std.specs.Prelude.{find, bytes_eq, if◌then◌else◌}
use Rattle.cpc_base.specs.Bytes.{Text}
use Rattle.cpc_base.proofs.Truth.{bytes_eq_exchanged}
use Rattle.cpc_tree.specs.Primitives as P
use Rattle.cpc_tree.specs.declared.primitive.Primitive.{Primitive}
use Rattle.cpc_tree.specs.PrimitiveNames.{primitive_of, spelling_of, all_primitives, primitive_found}

chosen : (b : Bool) (p : Primitive) (o : Option Primitive) (r : Option P.Primitive) → option_map primitive_of o ≡ r
    → option_map primitive_of (if b then Some p else o) ≡ (if b then Some (primitive_of p) else r)
chosen true p o r e = refl
chosen false p o r e = e

named_in : (x : Text) (ps : List Primitive) → option_map primitive_of (find (λ p. bytes_eq x (spelling_of p)) ps) ≡ P.primitive_in (map (λ p. (spelling_of p, primitive_of p)) ps) x
named_in x [] = refl
named_in x (p ∷ ps) =
    chosen (bytes_eq x (spelling_of p)) p (find (λ q. bytes_eq x (spelling_of q)) ps) (P.primitive_in (map (λ q. (spelling_of q, primitive_of q)) ps) x) (named_in x ps)
    ∙ ap (λ b. if b then Some (primitive_of p) else P.primitive_in (map (λ q. (spelling_of q, primitive_of q)) ps) x) (bytes_eq_exchanged x (spelling_of p))

pub found_named : (x : Text) → option_map primitive_of (primitive_found x) ≡ P.primitive_named x
unfolding primitive_found
found_named x = named_in x all_primitives
