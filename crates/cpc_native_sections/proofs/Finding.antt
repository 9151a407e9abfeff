-- The first function of a name among items.
use Rattle.std.proofs.Common.{◌≡◌, true, false, Option, Some, None, refl}
use Rattle.std.specs.Prelude.{option_map}
use Rattle.std.specs.Option.{is_some}
use Rattle.cpc_base.specs.Bytes.{Text}
use Rattle.cpc_tree.specs.Syntax.{Function, Program}
use Rattle.cpc_tree.specs.Typing.{function_named}
use Rattle.cpc_native_sections.specs.Pointed.{or_named}

-- what an item defines is found
pub is_found : {A : Type 0} (f : A → Function) (o : Option A) (items : Program) (x : Text) → true ≡ is_some o → or_named (option_map f o) items x ≡ option_map f o
is_found f (Some a) items x e = refl
is_found f None items x e = absurd cc

-- else the first among the others
pub goes_past : {A : Type 0} (f : A → Function) (o : Option A) (items : Program) (x : Text) → false ≡ is_some o → or_named (option_map f o) items x ≡ function_named items x
goes_past f (Some a) items x e = absurd cc
goes_past f None items x e = refl
