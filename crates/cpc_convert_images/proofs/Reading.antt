-- How the code reads a name.
use Rattle.std.proofs.Common.{◌≡◌, ℕ, ◌==◌, ◌<◌, Bool, true, false, nat_lt, [], ◌∷◌, Option, Some, None, option_map, slice_get, get_or, length, bytes_eq, arith, refl, sym, ap, ◌∙◌}
use Rattle.std.proofs.lemmas.Bool.Decides.{nat_tests}
use Rattle.std.proofs.lemmas.Option.{slice_get_within, slice_get_read}
use Rattle.cpc_base.specs.Bytes.{Text}
use Rattle.cpc_base.specs.declared.names.Name.{Name}
use Rattle.cpc_tree.specs.Erase.{Names, text_of}
use Rattle.cpc_tree.specs.Registers.{slot_of, or_empty}
use Rattle.cpc_tree.specs.Syntax.{Expr, ENamed}
use Rattle.cpc_forms_code.specs.declared.boxed.Variable.{Variable}
use Rattle.cpc_forms_code.specs.Seen.{scope_seen}
use Rattle.cpc_convert_names.specs.Names.{variable_name}
use Rattle.cpc_convert_image_laws.specs.Images as I
use Rattle.cpc_convert_image_laws.specs.Locals.{readings_in, reading_of}
use Rattle.cpc_convert_names.specs.Counted.{called_of}
use Rattle.cpc_convert_names.proofs.Rows.{local_at, locals_ended}
use Rattle.cpc_convert_images.specs.Readings.{AreRead, Reads, Bare, Inside, readings_by}
use Rattle.cpc_convert_images.specs.declared.readings.Readings.{Readings}
use Rattle.cpc_convert_images.proofs.Slots.{none_read, some_read, Found, found_within}

-- where none is in scope a name stays
pub bare : (from to : Names) (marks : ℕ → Bool) (r : Readings) (x : Name) → r.scope ≡ None → from x ≡ to x → ENamed (to x) ≡ I.image_named (readings_by from marks r (from x)) (from x)
bare from to marks r x e same = ap ENamed (sym same) ∙ ap (λ o. I.image_named (readings_in marks variable_name (scope_seen from r.variables.now o) (from x)) (from x)) (sym e)

module _ (from to : Names) (marks : ℕ → Bool) (r : Readings) (x : Name) (are : AreRead from to marks r) where
  -- one that stands for no variable does too
  pub unread : [] ≡ slot_of (scope_seen from r.variables.now r.scope) (from x) → from x ≡ to x → ENamed (to x) ≡ I.image_named (readings_by from marks r (from x)) (from x)
  unread e same = ap ENamed (sym same) ∙ ap (λ o. I.image_named o (from x)) (sym (none_read marks variable_name (from x) (scope_seen from r.variables.now r.scope) e))

  module _ (k : ℕ) (slot : k ∷ [] ≡ slot_of (scope_seen from r.variables.now r.scope) (from x)) where
    found : Found from r.variables.now (from x) k
    found = found_within from r.variables.now (from x) (length r.variables.now) r.scope k slot

    inside : k < length r.variables.now
    inside = slice_get_within r.variables.now k found.variable found.there

    -- the variable is there, and so is its local
    pub no_variable : false ≡ nat_lt k (length r.variables.now) → ⊥
    no_variable e = let lt = inside in absurd (grind (arith, nat_tests, lt, e))

    pub no_local : false ≡ nat_lt k (length r.locals.now) → ⊥
    no_local e = locals_ended to r.variables.now r.locals.now r.locals.now k found.variable are.locals refl e found.there

    -- it is called as the name
    same_name : (v : Variable) (o : Option Name) → v.name ≡ o → slice_get r.variables.now k ≡ Some v → bytes_eq (called_of from v) (from x) ≡ true → called_of to v ≡ to x
    same_name v None none at is =
        let no : bytes_eq [] (from x) ≡ false = are.named.each k v at none x in
        let yes : bytes_eq [] (from x) ≡ true = ap (λ o. bytes_eq (or_empty (option_map (text_of from) o)) (from x)) (sym none) ∙ is in
        absurd cc
    same_name v (Some m) some at is =
        let yes : bytes_eq (from m) (from x) ≡ true = ap (λ o. bytes_eq (or_empty (option_map (text_of from) o)) (from x)) (sym some) ∙ is in
        let number : (m.0 == x.0) ≡ true = sym (are.apart.told m x) ∙ yes in
        let same : m.0 ≡ x.0 = grind (arith, nat_tests, number) in
        let one : m ≡ x = ap (λ n. record { 0 = n }) same in
        ap (λ o. or_empty (option_map (text_of to) o)) some ∙ ap to one

    -- so it is read in its local
    pub in_its_local : (v : Variable) (n : Name) (e : Expr) → true ≡ nat_lt k (length r.variables.now) → v ≡ get_or r.variables.now k v → true ≡ nat_lt k (length r.locals.now) → n ≡ get_or r.locals.now k n → from x ≡ to x
        → e ≡ I.image_named (Some (reading_of v.is_register (to n) (to x))) (to x) → e ≡ I.image_named (readings_by from marks r (from x)) (from x)
    in_its_local v n e within at within_locals at_locals same is =
        let lt = inside in
        let there : slice_get r.variables.now k ≡ Some v = slice_get_read r.variables.now (length r.variables.now) k v refl lt at in
        let again = found.there in
        let one : found.variable ≡ v = cc in
        let called : called_of to v ≡ to x = same_name v v.name refl there (ap (λ w. bytes_eq (called_of from w) (from x)) (sym one) ∙ found.called) in
        let local : to n ≡ variable_name k (to x) = local_at to r.variables.now r.locals.now r.locals.now k n v are.locals refl within_locals at_locals there ∙ ap (variable_name k) called in
        let mark = are.marked k v there in
        is ∙ (ap (λ b. I.image_named (Some (reading_of b (to n) (to x))) (to x)) mark ∙ (ap (λ t. I.image_named (Some (reading_of (marks k) t (to x))) (to x)) local
        ∙ (ap (λ t. I.image_named (Some (reading_of (marks k) (variable_name k t) t)) t) (sym same) ∙ ap (λ o. I.image_named o (from x)) (sym (some_read marks variable_name (from x) (scope_seen from r.variables.now r.scope) k slot)))))

some_none : {A : Type 0} (x : A) → Some x ≡ None → ⊥
some_none x e = absurd cc

-- where one is in scope, names are read by the texts of the source
pub either : (from to : Names) (marks : ℕ → Bool) (r : Readings) (P : Type 0) (j : ℕ) → Reads from to marks r → r.scope ≡ Some j → (AreRead from to marks r → P) → P
either from to marks r P j (Bare e) is f = absurd (some_none j (sym is ∙ e))
either from to marks r P j (Inside are) is f = f are

-- where none is in scope, none is read
pub none_in_scope : (names : Names) (marks : ℕ → Bool) (r : Readings) → r.scope ≡ None → (x : Text) → readings_by names marks r x ≡ None
none_in_scope names marks r e x = ap (λ o. readings_in marks variable_name (scope_seen names r.variables.now o) x) e
