-- The first variable that is one too many.
use Rattle.std.proofs.Common.{◌≡◌, ℕ, ◌+◌, ◌<◌, ◌≤◌, List, ◌∷◌, length, get_or, drop, map, sym, ap, ◌∙◌, Option}
use Rattle.std.proofs.lemmas.List.{drop_more, drop_all, drop-map}
use Rattle.cpc_base.specs.declared.stop.Place.{Place}
use Rattle.cpc_tree.specs.declared.program.Word.{Word}
use Rattle.cpc_tree.specs.Located.{Ident}
use Rattle.cpc_tree.specs.Erase.{Names}
use Rattle.cpc_tree.specs.Locate.{ident}
use Rattle.cpc_check_rules.specs.declared.rule.Rule.{Rule}
use Rattle.cpc_check_rules.specs.declared.rule.Rule.TheVariants.{TooMany}
use Rattle.cpc_check_rules.specs.FunctionRules as F
use Rattle.cpc_check_rules.specs.Noted.{earlier, noted}

abbrev Firsts : Type 0
Firsts = Option (Place × Rule)

pub too_many : (names : Names) (o : Firsts) (words : List Word) (n : ℕ) (w : Word) (vs : List Ident) → n < length words → w ≡ get_or words n w → map (ident names) words ≡ vs
    → earlier o (w.place, TooMany) ≡ noted o (F.first_of (drop n vs))
too_many names o words n w vs h e k =
    ap (λ v. noted o (F.first_of (map (ident names) (v ∷ drop (n + 1) words)))) e
    ∙ (ap (λ ws. noted o (F.first_of (map (ident names) ws))) (sym (drop_more words n w h))
    ∙ (ap (λ ys. noted o (F.first_of ys)) (sym (drop-map (ident names) n words)) ∙ ap (λ ys. noted o (F.first_of (drop n ys))) k))

pub not_many : (names : Names) (o : Firsts) (words : List Word) (n : ℕ) (vs : List Ident) → length words ≤ n → map (ident names) words ≡ vs
    → o ≡ noted o (F.first_of (drop n vs))
not_many names o words n vs h k =
    ap (λ ws. noted o (F.first_of (map (ident names) ws))) (sym (drop_all n words h))
    ∙ (ap (λ ys. noted o (F.first_of ys)) (sym (drop-map (ident names) n words)) ∙ ap (λ ys. noted o (F.first_of (drop n ys))) k)
