-- What the cells of a type hold is the same where the type is complete in both programs.
use Rattle.std.proofs.Common.{◌≡◌, List, Option, Some, refl, ap}
use Rattle.cpc_tree.specs.Syntax.{Ty, Program}
use Rattle.cpc_tree.specs.Typing.{cells, ◌>>=◌}
use Rattle.cpc_meaning.specs.Layout.{scalars, layout}
use Rattle.cpc_convert_image_laws.specs.Relations.{Less, AsIs, Untold, Extends}

pub layout_same : (p q : Program) → Extends p q → (t : Ty) (ts : List Ty) → cells p t ≡ Some ts → layout q t ≡ layout p t
layout_same p q types t ts e = ap (λ o. o >>= λ us. scalars us) (go (cells p t) (cells q t) (types.cells t) e)
  where
    go : (a b : Option (List Ty)) → Less a b → a ≡ Some ts → b ≡ a
    go _ _ (AsIs o) e = refl
    go _ _ (Untold o) e = absurd (cc)
