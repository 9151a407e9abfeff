-- Where no function of the host is missing, those that the code of a checked program asks for are there.
use Rattle.std.proofs.Common.{◌≡◌, inl, inr, ℕ, ℤ, Bool, true, false, cond, List, [], ◌∷◌, length, Option, Some, None, refl, sym, subst}
use Rattle.std.proofs.Math.Logic.{∥∥₁_elim}
use Rattle.std.proofs.lemmas.Option.{get_or_from_slice_get}
use Rattle.std.specs.Prelude.{slice_get}
use Rattle.cpc_base.specs.Bytes.{Text}
use Rattle.cpc_base.specs.declared.names.Name.{Name}
use Rattle.cpc_base.specs.declared.stop.Dialect.{Dialect}
use Rattle.cpc_base.proofs.Truth.{never_both}
use Rattle.cpc_hosts.specs.Tables.{is_there}
use Rattle.cpc_tree.specs.Erase.{Table, in_table, program_of}
use Rattle.cpc_tree.specs.Locate.{located}
use Rattle.cpc_tree.specs.Syntax.{Ty, Parameter, Item, StructItem, GlobalItem, PrototypeItem, FunctionItem, Program}
use Rattle.cpc_tree.specs.declared.program.Mode.{Mode}
use Rattle.cpc_tree.specs.declared.program.Mode.TheVariants.{Extern, Native, Cps, Detached}
use Rattle.cpc_tree.specs.declared.program.Program as GProgram
use Rattle.cpc_tree.proofs.Places.{bare_program}
use Rattle.cpc_store.specs.declared.values.Value as V
use Rattle.cpc_meaning.specs.Answer.{Gives}
use Rattle.cpc_meaning.specs.Machine.{ints_of}
use Rattle.cpc_eval_values.specs.Shown.{values_of}
use Rattle.cpc_check_rules.specs.Rules.{breaks}
use Rattle.cpc_check.specs.Accepted.{IsRead}
use Rattle.cpc_check_served_laws.specs.Laws.{AcceptedAskDeclared, AsksDeclared, DeclaresHost, IsHost}
use Rattle.cpc_run.specs.Hosts.{HasHosts, missing_item, missing_of, or_else}
use Rattle.cpc_run_code.proofs.Numbers.{ints_many}

module _ (there : List (Text × ℕ)) where
  neither : (a b : Option Text) → or_else a b ≡ None → (a ≡ None) × (b ≡ None)
  neither None b e = (refl, e)
  neither (Some x) b e = absurd (cc)

  -- the item that declares it
  prototype_there : (x : Text) (n : ℕ) (mode : Mode) (y : Text) (r : Ty) (ps : List Parameter) → missing_item there (PrototypeItem mode y r ps) ≡ None → IsHost x n (PrototypeItem mode y r ps) → is_there x n there ≡ true
  prototype_there x n Extern y r ps e h =
      subst (λ z. is_there z n there ≡ true) h.0 (subst (λ k. is_there y k there ≡ true) (sym h.1) (go (is_there y (length ps) there) e))
    where
      go : (b : Bool) → cond b None (Some y) ≡ None → b ≡ true
      go true i = refl
      go false i = absurd (cc)
  prototype_there x n Native y r ps e h = absurd h
  prototype_there x n Cps y r ps e h = absurd h
  prototype_there x n Detached y r ps e h = absurd h

  item_there : (x : Text) (n : ℕ) (item : Item) → missing_item there item ≡ None → IsHost x n item → is_there x n there ≡ true
  item_there x n (PrototypeItem mode y r ps) e h = prototype_there x n mode y r ps e h
  item_there x n (StructItem tag fields) e h = absurd h
  item_there x n (GlobalItem y t start) e h = absurd h
  item_there x n (FunctionItem f) e h = absurd h

  declared_there : (x : Text) (n : ℕ) (q : Program) → missing_of there q ≡ None → DeclaresHost q x n → is_there x n there ≡ true
  declared_there x n [] e h = absurd h
  declared_there x n (item ∷ items) e (inl h) = item_there x n item (neither (missing_item there item) (missing_of there items) e).0 h
  declared_there x n (item ∷ items) e (inr h) = declared_there x n items (neither (missing_item there item) (missing_of there items) e).1 h

  -- a checked program asks for functions of the host as it declares them
  pub checked_has_hosts : AcceptedAskDeclared → (p : GProgram.Program) (dialect : Dialect) → ∥ IsRead dialect (located p) ∥₁ → breaks dialect (located p) ≡ [] → missing_of there (program_of p) ≡ None → HasHosts there (program_of p)
  checked_has_hosts law p dialect read unbroken none s k x vs asks = go (is_there x (length vs) there) refl
    where
      not_false : is_there x (length vs) there ≡ false → ⊥
      not_false i =
          ∥∥₁_elim read (λ x y. absurd x) (λ (r : IsRead dialect (located p)).
          let parses = r.parses in
          let declares = subst AsksDeclared (bare_program p) (law dialect parses.0 _ (located p) parses.2 unbroken) in
          never_both (is_there x (length vs) there) (declared_there x (length vs) (program_of p) none (declares s k x vs asks)) i)

      go : (b : Bool) → is_there x (length vs) there ≡ b → is_there x (length vs) there ≡ true
      go true i = i
      go false i = absurd (not_false i)

  -- a call of one that is there, by its text and with its numbers, has an answer
  pub not_missing : (table : Table) (x : Name) (text : Text) (vs : List V.Value) (zs ys : List ℤ) → slice_get table x.0 ≡ Some text → ints_of (values_of (in_table table) vs) ≡ Gives zs → ys ≡ zs
      → is_there (in_table table x) (length vs) there ≡ true → is_there text (length ys) there ≡ false → ⊥
  not_missing table x text vs zs ys found numbers same h none =
      let named : is_there text (length vs) there ≡ true = subst (λ t. is_there t (length vs) there ≡ true) (get_or_from_slice_get table x.0 text [] found) h in
      let many : is_there text (length zs) there ≡ true = subst (λ n. is_there text n there ≡ true) (sym (ints_many (in_table table) vs zs numbers)) named in
      never_both (is_there text (length zs) there) many (subst (λ xs. is_there text (length xs) there ≡ false) same none)
