-- What the number of a variable in scope says of it, and how its name is read.
use Rattle.std.proofs.Common.{◌≡◌, ℕ, zero, suc, Bool, true, false, if◌then◌else◌, List, [], ◌∷◌, Option, Some, None, slice_get, bytes_eq, refl, sym, ap, ◌∙◌}
use Rattle.cpc_base.specs.Bytes.{Text}
use Rattle.cpc_base.proofs.Lists.{nil_not_cons}
use Rattle.cpc_tree.specs.Erase.{Names}
use Rattle.cpc_tree.specs.Registers.{slot_of}
use Rattle.cpc_tree.specs.Typing.{Scope, Local}
use Rattle.cpc_forms_code.specs.declared.boxed.Variable.{Variable}
use Rattle.cpc_forms_code.specs.Seen.{scope_within, scope_behind, local_seen}
use Rattle.cpc_convert_image_laws.specs.Locals.{readings_in, reading_of}
use Rattle.cpc_convert_names.specs.Counted.{called_of}

-- ---- readings

module _ (marks : ℕ → Bool) (spelled : ℕ → Text → Text) (x : Text) where
  none_here : (l : Local) (scope : Scope) → ([] ≡ slot_of scope x → readings_in marks spelled scope x ≡ None) → (b : Bool) → bytes_eq l.called x ≡ b → [] ≡ slot_of (l ∷ scope) x → readings_in marks spelled (l ∷ scope) x ≡ None
  none_here l scope rest true is e = absurd (nil_not_cons l.slot [] (e ∙ ap (λ c. if c then l.slot ∷ [] else slot_of scope x) is))
  none_here l scope rest false is e =
      ap (λ c. if c then Some (reading_of (marks l.slot) (spelled l.slot x) x) else readings_in marks spelled scope x) is ∙ rest (e ∙ ap (λ c. if c then l.slot ∷ [] else slot_of scope x) is)

  pub none_read : (scope : Scope) → [] ≡ slot_of scope x → readings_in marks spelled scope x ≡ None
  none_read [] e = refl
  none_read (l ∷ scope) e = none_here l scope (none_read scope) (bytes_eq l.called x) refl e

  some_here : (l : Local) (scope : Scope) (k : ℕ) → (k ∷ [] ≡ slot_of scope x → readings_in marks spelled scope x ≡ Some (reading_of (marks k) (spelled k x) x)) → (b : Bool) → bytes_eq l.called x ≡ b → k ∷ [] ≡ slot_of (l ∷ scope) x
      → readings_in marks spelled (l ∷ scope) x ≡ Some (reading_of (marks k) (spelled k x) x)
  some_here l scope k rest true is e =
      let found : k ∷ [] ≡ l.slot ∷ [] = e ∙ ap (λ c. if c then l.slot ∷ [] else slot_of scope x) is in
      let same : l.slot ≡ k = cc in
      ap (λ c. if c then Some (reading_of (marks l.slot) (spelled l.slot x) x) else readings_in marks spelled scope x) is ∙ ap (λ m. Some (reading_of (marks m) (spelled m x) x)) same
  some_here l scope k rest false is e =
      ap (λ c. if c then Some (reading_of (marks l.slot) (spelled l.slot x) x) else readings_in marks spelled scope x) is ∙ rest (e ∙ ap (λ c. if c then l.slot ∷ [] else slot_of scope x) is)

  pub some_read : (scope : Scope) (k : ℕ) → k ∷ [] ≡ slot_of scope x → readings_in marks spelled scope x ≡ Some (reading_of (marks k) (spelled k x) x)
  some_read [] k e = absurd (nil_not_cons k [] (sym e))
  some_read (l ∷ scope) k e = some_here l scope k (some_read scope k) (bytes_eq l.called x) refl e

-- ---- variables

-- the variable of a number has the name
pub record Found (names : Names) (vs : List Variable) (x : Text) (k : ℕ) : Type 0 where
  pub variable : Variable
  pub there : slice_get vs k ≡ Some variable
  pub called : bytes_eq (called_of names variable) x ≡ true

module _ (names : Names) (vs : List Variable) (x : Text) where
  found_here : (d : ℕ) → ((o : Option ℕ) (k : ℕ) → k ∷ [] ≡ slot_of (scope_within names vs d o) x → Found names vs x k) → (j k : ℕ) (v : Variable) (b : Bool) → bytes_eq (called_of names v) x ≡ b → slice_get vs j ≡ Some v
      → k ∷ [] ≡ slot_of (local_seen names j v ∷ scope_within names vs d v.outer) x → Found names vs x k
  found_here d rest j k v true is at e =
      let found : k ∷ [] ≡ j ∷ [] = e ∙ ap (λ c. if c then j ∷ [] else slot_of (scope_within names vs d v.outer) x) is in
      let same : k ≡ j = cc in
      record { variable = v; there = ap (slice_get vs) same ∙ at; called = is }
  found_here d rest j k v false is at e = rest v.outer k (e ∙ ap (λ c. if c then j ∷ [] else slot_of (scope_within names vs d v.outer) x) is)

  found_behind : (d : ℕ) → ((o : Option ℕ) (k : ℕ) → k ∷ [] ≡ slot_of (scope_within names vs d o) x → Found names vs x k) → (j k : ℕ) (o : Option Variable) → slice_get vs j ≡ o
      → k ∷ [] ≡ slot_of (scope_behind names (scope_within names vs d) j o) x → Found names vs x k
  found_behind d rest j k None at e = absurd (nil_not_cons k [] (sym e))
  found_behind d rest j k (Some v) at e = found_here d rest j k v (bytes_eq (called_of names v) x) refl at e

  pub found_within : (d : ℕ) (o : Option ℕ) (k : ℕ) → k ∷ [] ≡ slot_of (scope_within names vs d o) x → Found names vs x k
  found_within d None k e = absurd (nil_not_cons k [] (sym e))
  found_within zero (Some j) k e = absurd (nil_not_cons k [] (sym e))
  found_within (suc d) (Some j) k e = found_behind d (found_within d) j k (slice_get vs j) refl e
