-- Other texts that tell the names of a program: they differ from the given ones at each name that is not in its table.
use Rattle.std.proofs.Common.{◌≡◌, ◌<◌, ◌≤◌, ◌==◌, ℕ, suc, Bool, true, false, nat_lt, length, slice_get, Some, None, bytes_eq, arith, List, [], refl, sym, ap, subst, ◌∙◌}
use Rattle.cpc_base.specs.Bytes.{Text}
use Rattle.cpc_base.specs.declared.names.Name.{Name}
use Rattle.cpc_base.proofs.Truth.{lt_holds, lt_fails, lt_means, apart_next, apart_over, apart_under, not_next}
use Rattle.cpc_tree.specs.Erase.{Names, Table}
use Rattle.cpc_tree.specs.declared.program.Parameter.{Parameter}
use Rattle.cpc_meaning.proofs.Functions.{text_same}
use Rattle.cpc_check_rules.specs.Apart.{AreApart, IsUnknown, Spells}
use Rattle.cpc_eval_variables.specs.Told.{IsTold}

module _ (from : Names) (table : Table) where
  -- a name that is in the table or not
  abbrev moved : (is_inside : Bool) → Name → Text
  moved true x = from x
  moved false x = from (record { 0 = suc x.0 })

  -- those in the table have their texts, each of the others that of the next
  abbrev pub others : Names
  others x = moved (nat_lt x.0 (length table)) x

  pub others_differ : AreApart from → (x : Name) → from x ≡ others x → x.0 < length table
  others_differ told x e = go (nat_lt x.0 (length table)) refl e
    where
      go : (b : Bool) → nat_lt x.0 (length table) ≡ b → from x ≡ moved b x → x.0 < length table
      go true i h = lt_means x.0 (length table) i
      go false i h = absurd (not_next x.0 (sym (text_same (from x)) ∙ (ap (bytes_eq (from x)) h ∙ told.told x (record { 0 = suc x.0 }))))

  others_apart : AreApart from → (a b : Name) → bytes_eq (others a) (others b) ≡ (a.0 == b.0)
  others_apart told a b = go (nat_lt a.0 (length table)) (nat_lt b.0 (length table)) refl refl
    where
      go : (i j : Bool) → nat_lt a.0 (length table) ≡ i → nat_lt b.0 (length table) ≡ j → bytes_eq (moved i a) (moved j b) ≡ (a.0 == b.0)
      go true true e f = told.told a b
      go true false e f = told.told a (record { 0 = suc b.0 }) ∙ apart_over a.0 b.0 (length table) e f
      go false true e f = told.told (record { 0 = suc a.0 }) b ∙ apart_under a.0 b.0 (length table) e f
      go false false e f = told.told (record { 0 = suc a.0 }) (record { 0 = suc b.0 }) ∙ apart_next a.0 b.0

  others_unknown : Spells table from → (x : Name) → length table ≤ x.0 → IsUnknown (others x)
  others_unknown spells x h = subst (λ b. IsUnknown (moved b x)) (sym (lt_fails x.0 (length table) h)) (spells.outside (record { 0 = suc x.0 }) (omega (arith, h)))

  pub others_spell : Spells table from → Spells table others
  others_spell spells = record {
    apart = record { told = others_apart spells.apart };
    inside = λ x h. ap (λ b. moved b x) (lt_holds x.0 (length table) h) ∙ spells.inside x h;
    outside = others_unknown spells;
  }

  pub others_told : (ps : List Parameter) → IsTold from ps → IsTold others ps
  others_told ps is = record {
    apart = record { told = others_apart is.apart };
    unnamed = λ k p e none x. go k p e none x (nat_lt x.0 (length table));
  }
    where
      go : (k : ℕ) (p : Parameter) → slice_get ps k ≡ Some p → p.word ≡ None → (x : Name) (b : Bool) → bytes_eq [] (moved b x) ≡ false
      go k p e none x true = is.unnamed k p e none x
      go k p e none x false = is.unnamed k p e none (record { 0 = suc x.0 })
