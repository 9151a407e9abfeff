-- What a step does to the live cells, by the parts that are looked at.
use Rattle.std.proofs.Common.{◌≡◌, ℕ, List, Option, Some, None, option_map, refl, sym, ap, subst, ◌∙◌}
use Rattle.std.specs.Option.{IfSome}
use Rattle.std.specs.Borrow.{Bor}
use Rattle.cpc_base.specs.Bytes.{Text}
use Rattle.cpc_base.specs.declared.names.Name.{Name}
use Rattle.cpc_tree.specs.Erase.{Names, function_of}
use Rattle.cpc_tree.specs.declared.program.Function as G
use Rattle.cpc_tree.specs.Syntax.{Function}
use Rattle.cpc_tree.specs.Typing.{function_named}
use Rattle.cpc_check_rules.specs.Apart.{AreApart}
use Rattle.cpc_store.specs.Store.{Value, Store}
use Rattle.cpc_meaning.specs.Answer.{Answer, Gives, Faults, NoAnswer, ◌>>=◌, needed}
use Rattle.cpc_meaning.specs.Eval as E
use Rattle.cpc_meaning.specs.Act as M
use Rattle.cpc_meaning.specs.Slots.{free_slots}
use Rattle.cpc_meaning.proofs.Functions.{found_again}
use Rattle.cpc_eval_index.specs.declared.index.Index.{Index}
use Rattle.cpc_eval_index.specs.Indexed.{items_of, IsOwn}
use Rattle.cpc_native_frames.specs.Living.{CanLeave}
use Rattle.cpc_native_plans.specs.Calls.{IsNamed, entering}
use Rattle.cpc_native_changes.specs.Foreseen.{Foresees}
use Rattle.cpc_native_changes.specs.declared.changes.Change.{Change}
use Rattle.cpc_native_changes.specs.declared.changes.Change.TheVariants as C

-- a function that is found by a name is its own
pub own_found : (index : Index) (name : Name) (o : Option (Bor G.Function)) → ((names : Names) → AreApart names → option_map (λ (f : Bor G.Function). function_of names f.now) o ≡ function_named (items_of names index) (names name))
    → IfSome o (λ f. IsOwn index f.now)
own_found index name None h = tt
own_found index name (Some f) h = λ names apart. found_again (items_of names index) (names name) (function_of names f.now) (sym (h names apart))

module _ (names : Names) (c : E.Context) (stood : M.Stood) where
  pub by_same : (change : Change) (a b : Answer M.Act) → a ≡ b → Foresees names c stood change a → Foresees names c stood change b
  by_same change a b e h = let Q : Answer M.Act → Type 0 = Foresees names c stood change in subst Q e h

  -- ---- calls that are left

  leaves_some : (n : ℕ) (v : Value) (a : Answer Store) → CanLeave (Some n) a → Foresees names c stood C.Leaves (a >>= (λ s. Gives (M.Leaves v s)))
  leaves_some n v (Gives s) h = refl
  leaves_some n v (Faults e) h = absurd h
  leaves_some n v NoAnswer h = tt

  leaves_none : (v : Value) (a : Answer Store) → CanLeave None a → Foresees names c stood C.Stays (a >>= (λ s. Gives (M.Leaves v s)))
  leaves_none v (Gives s) h = absurd h
  leaves_none v (Faults e) h = refl
  leaves_none v NoAnswer h = tt

  module _ (v : Value) (slots : List E.Slot) (s : Store) (slots_are : c.slots ≡ slots) (store_is : c.store ≡ s) where
    same_freed : free_slots slots s ≡ free_slots c.slots c.store
    same_freed = ap (λ l. free_slots l s) (sym slots_are) ∙ ap (free_slots c.slots) (sym store_is)

    pub left_some : (n : ℕ) → CanLeave (Some n) (free_slots slots s) → Foresees names c stood C.Leaves (M.leaves c v)
    left_some n h = let Q : Answer Store → Type 0 = CanLeave (Some n) in leaves_some n v (free_slots c.slots c.store) (subst Q same_freed h)

    pub left_none : CanLeave None (free_slots slots s) → Foresees names c stood C.Stays (M.leaves c v)
    left_none h = let Q : Answer Store → Type 0 = CanLeave None in leaves_none v (free_slots c.slots c.store) (subst Q same_freed h)

  -- ---- calls

  pub found_enters : (o : Option Function) (g : Bor G.Function) (ws : List Value) → Some (function_of names g.now) ≡ o → Foresees names c stood (C.Enters g) (needed o >>= (λ f. Gives (M.Enters f ws)))
  found_enters None g ws e = absurd cc
  found_enters (Some f) g ws e = cc

  -- the name that is called, after the arguments
  pub named_then : (change : Change) (x : Text) (a : Answer (Text × List Value)) → IsNamed (Some x) a → ((ws : List Value) → Foresees names c stood change (entering c (x, ws))) → Foresees names c stood change (a >>= entering c)
  named_then change x (Gives q) h g = let is : x ≡ q.0 = cc in let Q : Text → Type 0 = λ y. Foresees names c stood change (entering c (y, q.1)) in subst Q is (g q.1)
  named_then change x (Faults d) h g = absurd cc
  named_then change x NoAnswer h g = tt

  pub not_found : (o : Option Function) (ws : List Value) → None ≡ o → Foresees names c stood C.Stays (needed o >>= (λ f. Gives (M.Enters f ws)))
  not_found None ws e = tt
  not_found (Some f) ws e = absurd cc

  pub unnamed : (a : Answer (Text × List Value)) → IsNamed None a → Foresees names c stood C.Stays (a >>= entering c)
  unnamed (Gives q) h = absurd cc
  unnamed (Faults d) h = refl
  unnamed NoAnswer h = tt
