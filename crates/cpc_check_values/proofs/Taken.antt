-- What fields break, by what they are taken of.
use Rattle.std.proofs.Common.{◌≡◌, Bool, true, false, [], ◌∷◌, Option, Some, None, is_some, refl, sym, ap, ◌∙◌}
use Rattle.std.specs.Prelude.{if◌then◌else◌}
use Rattle.std.specs.Option.{is_none}
use Rattle.cpc_base.specs.declared.stop.Place.{Place}
use Rattle.cpc_tree.specs.Syntax.{Ty, TyVoid, TyStruct}
use Rattle.cpc_tree.specs.Located.{Ident}
use Rattle.cpc_tree.specs.Typing.{Typed, used, fields}
use Rattle.cpc_check_rules.specs.Scopes.{Scope}
use Rattle.cpc_check_rules.specs.Rule.{at_if}
use Rattle.cpc_check_rules.specs.Operators as O
use Rattle.cpc_check_rules.specs.declared.rule.Rule.TheVariants as R
use Rattle.cpc_check_values.specs.declared.fields.Base.{Base}
use Rattle.cpc_check_values.specs.declared.fields.Base.TheVariants.{Fields, Incomplete}
use Rattle.cpc_check_values.specs.Bases.{base_of, base_breaks}

chosen : (b : Bool) (q x : Place) (whole : Option Typed) → base_breaks (if b then Incomplete else Fields) q x whole ≡ (if b then (q, R.Incomplete) ∷ [] else at_if (is_none whole) x R.NoField)
chosen true q x whole = refl
chosen false q x whole = refl

field_row : (s : Scope) (t : Option Ty) (q : Place) (x : Ident) (whole : Option Typed) → base_breaks (base_of s t) q x.place whole ≡ O.field_breaks s t q x whole
field_row s None q x whole = refl
field_row s (Some (TyStruct tag)) q x whole = chosen (is_none (fields s.items tag)) q x.place whole
field_row s (Some TyVoid) q x whole = refl
field_row s (Some t) q x whole = refl

-- a field of what an expression points to, which has a type
arrow_row : (s : Scope) (o : Option Typed) (q : Place) (x : Ident) (whole : Option Typed) → is_some o ≡ true → base_breaks (base_of s (O.pointed (O.used_of o))) q x.place whole ≡ O.arrow_breaks s o q x whole
arrow_row s None q x whole e = absurd cc
arrow_row s (Some d) q x whole e = field_row s (O.pointed (used d)) q x whole

pub arrow_typed : (s : Scope) (o : Option Typed) (q : Place) (x : Ident) (base : Base) (to : Option Ty) (typed : Bool) (found whole : Option Typed)
    → base_of s to ≡ base → to ≡ O.pointed (O.used_of o) → found ≡ whole → typed ≡ is_some o → typed ≡ true → base_breaks base q x.place found ≡ O.arrow_breaks s o q x whole
arrow_typed s o q x base to typed found whole e f g h t =
    ap (λ b. base_breaks b q x.place found) (sym e)
    ∙ ap (λ u. base_breaks (base_of s u) q x.place found) f
    ∙ ap (λ w. base_breaks (base_of s (O.pointed (O.used_of o))) q x.place w) g
    ∙ arrow_row s o q x whole (sym h ∙ t)

-- an expression without a type
pub arrow_absent : (s : Scope) (o : Option Typed) (q : Place) (x : Ident) (typed : Bool) (whole : Option Typed) → typed ≡ is_some o → typed ≡ false → [] ≡ O.arrow_breaks s o q x whole
arrow_absent s None q x typed whole h t = refl
arrow_absent s (Some d) q x typed whole h t = absurd cc
