-- Other texts that tell all names apart: they differ from the given ones at each name that is not in the table, also as faults tell them.
use Rattle.std.proofs.Common.{◌≡◌, ◌≤◌, ◌==◌, ◌&&◌, ℕ, suc, Bool, true, false, nat_lt, [], ◌∷◌, length, bytes_eq, arith, refl, sym, ap, subst, ◌∙◌}
use Rattle.std.proofs.lemmas.Bool.{eqb-true}
use Rattle.std.specs.Prelude.{codes}
use Rattle.cpc_base.specs.Bytes.{Text}
use Rattle.cpc_base.specs.declared.names.Name.{Name}
use Rattle.cpc_base.proofs.Truth.{lt_fails, lt_holds, or_neither, apart_next, apart_over, apart_under, not_next}
use Rattle.cpc_base.specs.declared.stop.Dialect.TheVariants as D
use Rattle.cpc_tree.specs.Erase.{Names, Table}
use Rattle.cpc_meaning.specs.Start.{begins_with_underscores, before_underscores}
use Rattle.cpc_meaning.proofs.Functions.{text_same}
use Rattle.cpc_check_rules.specs.Apart.{AreApart, IsUnknown, Spells}
use Rattle.cpc_check_rules.specs.FunctionRules.{begins_with, holds_underscores, is_kept}
use Rattle.cpc_check_laws.proofs.Run.Stands.{whole}
use Rattle.cpc_native_laws.specs.Laws.{AreOthers}

-- ---- texts without underscores

no_underscores_first : (b : ℕ) (bs : Text) → begins_with (codes "__") (b ∷ bs) ≡ false → begins_with_underscores (b ∷ bs) ≡ false
no_underscores_first b [] e = refl
no_underscores_first b (c ∷ bs) e = go (b == 95) refl (c == 95) refl
  where
    go : (s : Bool) → (b == 95) ≡ s → (t : Bool) → (c == 95) ≡ t → (s && t) ≡ false
    go true i true j =
        let both : begins_with (codes "__") (95 ∷ 95 ∷ bs) ≡ false =
        subst (λ y. begins_with (codes "__") (95 ∷ y ∷ bs) ≡ false) (eqb-true c 95 j) (subst (λ y. begins_with (codes "__") (y ∷ c ∷ bs) ≡ false) (eqb-true b 95 i) e) in
        absurd cc
    go true i false j = refl
    go false i t j = refl

-- a text that means nothing is shown whole
unknown_whole : (x : Text) → IsUnknown x → before_underscores x ≡ x
unknown_whole x h = whole x (or_neither (is_kept x) (holds_underscores x) (h.reserved D.Cpc)).1

-- ---- the other texts

module _ (from : Names) (table : Table) where
  -- a name that is in the table or not
  abbrev moved : (is_inside : Bool) → Name → Text
  moved true x = from x
  moved false x = from (record { 0 = suc x.0 })

  -- those in the table have their texts, each of the others that of the next
  abbrev pub others : Names
  others x = moved (nat_lt x.0 (length table)) x

  others_apart : AreApart from → (a b : Name) → bytes_eq (others a) (others b) ≡ (a.0 == b.0)
  others_apart told a b = go (nat_lt a.0 (length table)) (nat_lt b.0 (length table)) refl refl
    where
      go : (i j : Bool) → nat_lt a.0 (length table) ≡ i → nat_lt b.0 (length table) ≡ j → bytes_eq (moved i a) (moved j b) ≡ (a.0 == b.0)
      go true true e f = told.told a b
      go true false e f = told.told a (record { 0 = suc b.0 }) ∙ apart_over a.0 b.0 (length table) e f
      go false true e f = told.told (record { 0 = suc a.0 }) b ∙ apart_under a.0 b.0 (length table) e f
      go false false e f = told.told (record { 0 = suc a.0 }) (record { 0 = suc b.0 }) ∙ apart_next a.0 b.0

  others_unknown : Spells table from → (x : Name) → length table ≤ x.0 → IsUnknown (others x)
  others_unknown spells x h = subst (λ b. IsUnknown (moved b x)) (sym (lt_fails x.0 (length table) h)) (spells.outside (record { 0 = suc x.0 }) (omega (arith, h)))

  pub others_spell : Spells table from → Spells table others
  others_spell spells = record {
    apart = record { told = others_apart spells.apart };
    inside = λ x h. ap (λ b. moved b x) (lt_holds x.0 (length table) h) ∙ spells.inside x h;
    outside = others_unknown spells;
  }

  others_moved : Spells table from → (x : Name) → length table ≤ x.0 → from x ≡ others x → ⊥
  others_moved spells x h e =
      let next = e ∙ ap (λ b. moved b x) (lt_fails x.0 (length table) h) in
      not_next x.0 (sym (text_same (from x)) ∙ (ap (bytes_eq (from x)) next ∙ spells.apart.told x (record { 0 = suc x.0 })))

  -- they differ at each name that the table does not have
  pub are_others : Spells table from → AreOthers table from others
  are_others spells = record {
    differ = λ x h e. others_moved spells x h (sym (unknown_whole (from x) (spells.outside x h)) ∙ e ∙ unknown_whole (others x) (others_unknown spells x h));
  }
