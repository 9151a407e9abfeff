-- What a table's names are by any texts that spell them.
use Rattle.std.proofs.Common.{◌≡◌, ℕ, zero, suc, ◌≤◌, inl, inr, true, false, List, [], ◌∷◌, ◌++◌, length, get_or, map, refl, sym, ap, ◌∙◌, arith}
use Rattle.std.specs.Prelude.{bytes_eq, codes, if◌then◌else◌}
use Rattle.std.proofs.lemmas.Bool.{cases_lt}
use Rattle.cpc_base.specs.Bytes.{Text}
use Rattle.cpc_base.specs.declared.stop.Dialect.{Dialect}
use Rattle.cpc_base.specs.declared.names.Name.{Name}
use Rattle.cpc_tree.specs.declared.program.CType as GType
use Rattle.cpc_tree.specs.declared.program.CType.TheVariants as C
use Rattle.cpc_tree.specs.declared.program.Word.{Word}
use Rattle.cpc_tree.specs.declared.program.Function.{Function}
use Rattle.cpc_tree.specs.declared.program.Item.{Item}
use Rattle.cpc_tree.specs.declared.program.Item.TheVariants as I
use Rattle.cpc_tree.specs.declared.program.Parameter.{Parameter}
use Rattle.cpc_tree.specs.Erase.{Names, Table, in_table, type_of}
use Rattle.cpc_tree.specs.Located.{LFunction}
use Rattle.cpc_tree.specs.Locate.{ident, located_function, located_item, located_parameter}
use Rattle.cpc_check_rules.specs.declared.rule.Rule.TheVariants.{Reserved}
use Rattle.cpc_check_rules.specs.Rule.{at_if}
use Rattle.cpc_check_rules.specs.Apart.{Spells}
use Rattle.cpc_check_rules.specs.FunctionRules.{is_reserved, reserved_breaks}
use Rattle.cpc_check_rules.specs.Rules.{is_main, has_main}
use Rattle.cpc_check_names.proofs.Spelled.{empty_kept}

past : (table : Table) (n : ℕ) → length table ≤ n → get_or table n [] ≡ []
past [] n h = refl
past (x ∷ xs) zero h = absurd (omega arith)
past (x ∷ xs) (suc n) h = past xs n (omega arith)

-- no other name begins a program
no_main : (f : LFunction) → bytes_eq f.called.text (codes "main") ≡ false → is_main f ≡ false
no_main f e = rw e refl

-- which function begins a program hangs on no spelling of types
result_same : (f : LFunction) (a b : Names) (t : GType.CType) → is_main (record f { result = type_of a t }) ≡ is_main (record f { result = type_of b t })
result_same f a b C.Void = refl
result_same f a b (C.Int kind) = refl
result_same f a b C.Condvar = refl
result_same f a b (C.Pointer' p t) = refl
result_same f a b (C.Code' p r shape row) = refl
result_same f a b (C.Struct tag) = refl
result_same f a b (C.Array' p t n) = refl

parameters_same : (f : LFunction) (a b : Names) (ps : List Parameter) → is_main (record f { parameters = map (located_parameter a) ps }) ≡ is_main (record f { parameters = map (located_parameter b) ps })
parameters_same f a b [] = refl
parameters_same f a b (p ∷ ps) = refl

module _ (table : Table) (names : Names) (s : Spells table names) where
  kept_told : (dialect : Dialect) (n : Name) → is_reserved dialect (in_table table n) ≡ is_reserved dialect (names n)
  kept_told dialect n = elim (cases_lt n.0 (length table)) [
    | inl h ↦ ap (is_reserved dialect) (sym (s.inside n h))
    | inr h ↦ ap (is_reserved dialect) (past table n.0 h) ∙ sym (empty_kept dialect) ∙ sym ((s.outside n h).reserved dialect)
  ]

  -- which names are kept
  pub reserved_told : (dialect : Dialect) (words : List Word) → reserved_breaks dialect (map (ident (in_table table)) words) ≡ reserved_breaks dialect (map (ident names) words)
  reserved_told dialect [] = refl
  reserved_told dialect (w ∷ ws) =
      ap (λ b. at_if b w.place Reserved ++ reserved_breaks dialect (map (ident (in_table table)) ws)) (kept_told dialect w.name)
      ∙ ap (λ row. at_if (is_reserved dialect (names w.name)) w.place Reserved ++ row) (reserved_told dialect ws)

  -- which functions a program may begin with
  pub main_told : (f : Function) → is_main (located_function (in_table table) f) ≡ is_main (located_function names f)
  main_told f =
      let n = f.word.name in
      let g : LFunction = located_function (in_table table) f in
      let k : LFunction = record g { called = ident names f.word } in
      elim (cases_lt n.0 (length table)) [
        | inl h ↦
            ap (λ (x : Text). is_main (record g { called = record { place = f.word.place; text = x } })) (sym (s.inside n h))
            ∙ result_same k (in_table table) names f.result
            ∙ parameters_same (record k { result = type_of names f.result }) (in_table table) names f.parameters.items
        | inr h ↦
            no_main g (ap (λ x. bytes_eq x (codes "main")) (past table n.0 h))
            ∙ sym (no_main (located_function names f) ((s.outside n h).main))
      ]

  -- whether there is one
  pub has_main_told : (xs : List Item) → has_main (map (located_item (in_table table)) xs) ≡ has_main (map (located_item names) xs)
  has_main_told [] = refl
  has_main_told (I.Struct tag fields ∷ xs) = has_main_told xs
  has_main_told (I.Global w t start ∷ xs) = has_main_told xs
  has_main_told (I.Prototype p mode w r ps ∷ xs) = has_main_told xs
  has_main_told (I.Function f ∷ xs) =
      ap (λ b. if b then true else has_main (map (located_item (in_table table)) xs)) (main_told f)
      ∙ ap (λ b. if is_main (located_function names f) then true else b) (has_main_told xs)
