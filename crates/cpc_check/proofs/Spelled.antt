-- A spelling of all names by the texts of a table: a name that the table does not have has a text of its own, which means
-- nothing to the language.
use Rattle.std.proofs.Common.{◌≡◌, ℕ, ◌+◌, ◌<◌, ◌≤◌, inl, inr, zero, suc, Bool, true, false, ◌==◌, [], ◌∷◌, length, get_or, refl, sym, ap, subst, ◌∙◌, arith}
use Rattle.std.specs.Prelude.{bytes_eq, replicate}
use Rattle.std.proofs.lemmas.Bool.{cases_lt, cases_order}
use Rattle.std.proofs.lemmas.Bool.Decides.{Decides-eqb}
use Rattle.std.proofs.lemmas.Slice.Eq.{bytes_eq-Decides}
use Rattle.std.proofs.lemmas.List.{get_or_past, get_or_default, length-replicate}
use Rattle.cpc_base.specs.Bytes.{Text}
use Rattle.cpc_base.specs.Texts.{AreDistinct}
use Rattle.cpc_base.specs.declared.stop.Dialect.{Dialect}
use Rattle.cpc_base.specs.declared.stop.Dialect.TheVariants as D
use Rattle.cpc_tree.specs.Erase.{Names, Table}
use Rattle.cpc_check_rules.specs.FunctionRules.{holds_underscores, is_reserved}
use Rattle.cpc_check_rules.specs.Apart.{IsUnknown, Spells}

-- the bytes of all texts
bytes_of : Table → ℕ
bytes_of [] = 0
bytes_of (x ∷ xs) = length x + bytes_of xs

-- a text for the n-th name, longer than each of the table
outside : Table → ℕ → Text
outside table n = 0 ∷ replicate (bytes_of table + n) 0

pub spelling : Table → Names
spelling table name = get_or table name.0 (outside table name.0)

-- ---- texts that mean nothing

no_underscores : (n : ℕ) → holds_underscores (replicate n 0) ≡ false
no_underscores zero = refl
no_underscores (suc n) = no_underscores n

unreserved : (dialect : Dialect) (n : ℕ) → is_reserved dialect (0 ∷ replicate n 0) ≡ false
unreserved D.Event n = refl
unreserved D.Cpc n = no_underscores n

unknown : (n : ℕ) → IsUnknown (0 ∷ replicate n 0)
unknown n = record { reserved = λ dialect. unreserved dialect n; primitive = refl; main = refl }

-- ---- texts that differ

longest : (table : Table) (n : ℕ) (d : Text) → n < length table → length (get_or table n d) ≤ bytes_of table
unfolding bytes_of
longest [] n d h = absurd (omega (arith, h))
longest (x ∷ xs) zero d h = omega arith
longest (x ∷ xs) (suc n) d h = let shorter : length (get_or xs n d) ≤ bytes_of xs = longest xs n d (omega (arith, h)) in omega (arith, shorter)

outside_length : (table : Table) (n : ℕ) → length (outside table n) ≡ suc (bytes_of table + n)
unfolding bytes_of outside
outside_length table n = ap suc (length-replicate (bytes_of table + n) 0)

module _ (table : Table) (distinct : AreDistinct table) where
  text : ℕ → Text
  text n = get_or table n (outside table n)

  past : (n : ℕ) → length table ≤ n → length (text n) ≡ suc (bytes_of table + n)
  unfolding text
  past n h = ap length (get_or_past table n (outside table n) h) ∙ outside_length table n

  front : (n : ℕ) → n < length table → length (text n) ≤ bytes_of table
  unfolding text
  front n h = longest table n (outside table n) h

  mixed : (m n : ℕ) → m < length table → length table ≤ n → text m ≡ text n → ⊥
  mixed m n h k e = let same : length (text m) ≡ length (text n) = ap length e in absurd (omega (arith, front m h, past n k, same))

  both_past : (m n : ℕ) → length table ≤ m → length table ≤ n → text m ≡ text n → m ≡ n
  both_past m n h k e = let same : length (text m) ≡ length (text n) = ap length e in omega (arith, past m h, past n k, same)

  ordered : (m n : ℕ) → m < n → n < length table → text m ≡ text n → ⊥
  unfolding text
  ordered m n h k e = distinct m n (outside table m) h k (e ∙ get_or_default table n (outside table n) (outside table m) k)

  both_front : (m n : ℕ) → m < length table → n < length table → text m ≡ text n → m ≡ n
  both_front m n h k e = elim (cases_order m n) [
    | inl same ↦ same
    | inr (inl lt) ↦ absurd (ordered m n lt k e)
    | inr (inr gt) ↦ absurd (ordered n m gt h (sym e))
  ]

  told : (m n : ℕ) → text m ≡ text n → m ≡ n
  told m n e = elim (cases_lt m (length table)) [
    | inl h ↦ elim (cases_lt n (length table)) [ inl k ↦ both_front m n h k e | inr k ↦ absurd (mixed m n h k e) ]
    | inr h ↦ elim (cases_lt n (length table)) [ inl k ↦ absurd (mixed n m k h (sym e)) | inr k ↦ both_past m n h k e ]
  ]

  same_test : (m n : ℕ) → bytes_eq (text m) (text n) ≡ (m == n)
  same_test m n = go (bytes_eq (text m) (text n)) (m == n)
      (λ e. (Decides-eqb m n).1 (told m n ((bytes_eq-Decides (text m) (text n)).0 e)))
      (λ e. (bytes_eq-Decides (text m) (text n)).1 (ap text ((Decides-eqb m n).0 e)))
    where
      go : (x y : Bool) → (x ≡ true → y ≡ true) → (y ≡ true → x ≡ true) → x ≡ y
      go true y f g = sym (f refl)
      go false true f g = g refl
      go false false f g = refl

  -- it spells the names of the table, and tells all names apart
  pub spells : Spells table (spelling table)
  unfolding text spelling outside
  spells = record {
    apart = record { told = λ a b. same_test a.0 b.0 };
    inside = λ n h. get_or_default table n.0 (outside table n.0) [] h;
    outside = λ n h. subst IsUnknown (sym (get_or_past table n.0 (outside table n.0) h)) (unknown (bytes_of table + n.0));
  }
