-- What texts begin with and hold, and the names that are kept.
use Rattle.std.proofs.Common.{◌≡◌, ℕ, ◌+◌, ◌-◌, ◌<◌, Bool, true, false, ◌&&◌, ◌||◌, eqb, List, [], ◌∷◌, length, get_or, take, drop, refl, sym, ap, ◌∙◌, None}
use Rattle.std.specs.Prelude.{codes, slice_get}
use Rattle.std.specs.List.{starts_with}
use Rattle.std.proofs.lemmas.List.{drop_more}
use Rattle.cpc_base.specs.Bytes.{Text}
use Rattle.cpc_base.specs.declared.stop.Dialect.{Dialect}
use Rattle.cpc_base.specs.declared.stop.Dialect.TheVariants as D
use Rattle.cpc_base.proofs.Lists.{rest_whole}
use Rattle.cpc_tree.proofs.Texts.{text_absent}
use Rattle.cpc_check_rules.specs.FunctionRules.{begins_with, holds_underscores, is_reserved}

and_true : (a b : Bool) → (a && b) ≡ ((a && true) && b)
and_true true b = refl
and_true false b = refl

pub begins_is : (w x : Text) → starts_with eqb x w ≡ begins_with w x
begins_is [] x = refl
begins_is (b ∷ w) [] = refl
begins_is (b ∷ w) (c ∷ x) = ap (λ t. eqb b c && t) (begins_is w x) ∙ and_true (eqb b c) (begins_with w x)

-- two underscores here, or further on
pub underscores_more : (x : Text) (i : ℕ) → i < length x → holds_underscores (drop i x) ≡ (begins_with (codes "__") (drop i x) || holds_underscores (drop (i + 1) x))
underscores_more x i h =
    ap holds_underscores (drop_more x i 0 h)
    ∙ ap (λ y. begins_with (codes "__") y || holds_underscores (drop (i + 1) x)) (sym (drop_more x i 0 h))

-- none here, so what is further on decides
pub underscores_step : (x : Text) (i : ℕ) (t : Bool) → i < length x → t ≡ begins_with (codes "__") (take (length x - i) (drop i x)) → t ≡ false → holds_underscores (drop i x) ≡ holds_underscores x
    → holds_underscores (drop (i + 1) x) ≡ holds_underscores x
underscores_step x i t h e f k =
    let here : begins_with (codes "__") (drop i x) ≡ false = ap (begins_with (codes "__")) (sym (rest_whole x i)) ∙ (sym e ∙ f) in
    sym (ap (λ b. b || holds_underscores (drop (i + 1) x)) here) ∙ (sym (underscores_more x i h) ∙ k)

pub empty_kept : (dialect : Dialect) → false ≡ is_reserved dialect []
empty_kept D.Event = refl
empty_kept D.Cpc = refl

pub absent_kept : (dialect : Dialect) (table : List Text) (n : ℕ) → None ≡ slice_get table n → false ≡ is_reserved dialect (get_or table n [])
absent_kept dialect table n e = empty_kept dialect ∙ ap (is_reserved dialect) (text_absent table n e)
