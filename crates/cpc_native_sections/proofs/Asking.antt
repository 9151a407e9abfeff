-- What the code of a section asks for.
use Rattle.std.proofs.Common.{◌≡◌, ℕ, Bool, true, false, ℤ, pos, [], ◌∷◌, Option, Some, Result, Ok, Err, refl, sym, ap, subst, ◌∙◌}
use Rattle.std.specs.Prelude.{int_lt, unsigned_abs}
use Rattle.std.specs.Result.{result_map_both}
use Rattle.cpc_base.specs.Bytes.{Text}
use Rattle.cpc_base.specs.declared.names.Name.{Name}
use Rattle.cpc_num.specs.declared.kinds.Fault.{Fault}
use Rattle.cpc_num.specs.declared.kinds.Fault.TheVariants as F
use Rattle.cpc_num.specs.declared.kinds.Kind.{Kind}
use Rattle.cpc_tree.specs.Erase.{Names}
use Rattle.cpc_tree.specs.Points.{Point}
use Rattle.cpc_tree.specs.Syntax.{Program}
use Rattle.cpc_store.specs.declared.values.Block.{Block}
use Rattle.cpc_store.specs.declared.values.Class.TheVariants.{Heap}
use Rattle.cpc_store.specs.declared.values.Value as V
use Rattle.cpc_store.specs.Store.{Value, Unset, Whole, At, Store, alloc, free, next_block, unset_cells}
use Rattle.cpc_store.specs.Seen.{seen}
use Rattle.cpc_store.specs.Codes.{map_store}
use Rattle.cpc_store.proofs.CodeLemmas.{alloc-map, unset_cells-map, next_block-map, free-map}
use Rattle.cpc_meaning.specs.Answer.{Answer, Gives, Faults, NoAnswer, ◌>>=◌, of_result}
use Rattle.cpc_meaning.specs.Plain.{Form, Stack, Done, answered}
use Rattle.cpc_meaning.specs.Requests.{Builtin, Malloc, Free, Request}
use Rattle.cpc_meaning.specs.Section.{section_asks, section_next, allocated}
use Rattle.cpc_meaning.specs.Trees.{trees}
use Rattle.cpc_eval_values.specs.Shown.{value_of, store_of}
use Rattle.cpc_eval_index.specs.Indexed.{items_of}
use Rattle.cpc_native.specs.declared.machine.Machine.{Machine}
use Rattle.cpc_native.specs.Stacks.{stack_of}
use Rattle.cpc_native.specs.Well.{IsSameBut}
use Rattle.cpc_native.proofs.Same.{same_stack}
use Rattle.cpc_sections.specs.declared.job.SectionEnd as E
use Rattle.cpc_sections.specs.declared.job.SectionEnd.TheVariants as D
use Rattle.cpc_native_sections.specs.Led.{LeadsTo, asking_of, answer_of}
use Rattle.cpc_native_sections.proofs.Leading.{led_nowhere}

-- the same answer of the same things
alike : (i j : Program) (s t : Store) (k l : Stack Point) (v w : Value) → i ≡ j → s ≡ t → k ≡ l → v ≡ w → answered (trees i) s k v ≡ answered (trees j) t l w
alike i j s t k l v w a b c d = ap (λ x. answered (trees x) s k v) a ∙ ap (λ x. answered (trees j) x k v) b ∙ ap (λ x. answered (trees j) t x v) c ∙ ap (answered (trees j) t l) d

-- what a block that is freed comes to
abbrev freed_of : Result Store Fault → Answer (Store × Value)
freed_of r = of_result r >>= λ t. Gives (t, Unset)

module _ (names : Names) (old mid new : Machine) (f : Text) (no_copy : Bool) (function : Name) (o : Option E.SectionEnd) (same : IsSameBut old mid) where
  abbrev p : Form Point
  p = trees (items_of names old.index)

  abbrev s : Store
  s = store_of names old.store

  abbrev k : Stack Point
  k = stack_of names old

  -- what answers in the machine in the middle is what the request comes to
  answers : (r : Request) (v w : Value) (t : Store) → section_asks p s k r.asked r.arguments ≡ answered p t k w → v ≡ w → store_of names mid.store ≡ t
      → LeadsTo names new o (answer_of names mid f no_copy (names function) v) → LeadsTo names new o (asking_of names old f no_copy (names function) r)
  answers r v w t e d store h =
      subst (λ a. LeadsTo names new o (λ rest. section_next rest f no_copy (names function) a))
      (alike (items_of names mid.index) (items_of names old.index) (store_of names mid.store) t (stack_of names mid) k v w (ap (items_of names) same.index) store (same_stack names old mid same) d ∙ sym e) h

  -- ---- a block is made

  made_so : (kind : Kind) (count : ℤ) (n : ℕ) → int_lt count (pos 0) ≡ false → unsigned_abs count ≡ n
      → allocated Heap (Whole kind count) s ≡ Gives (alloc Heap (unset_cells n) s, At Heap (next_block Heap s) 0)
  made_so kind count n e d = simp (e, d) refl

  pub led_made : (kind : Kind) (count : ℤ) (n : ℕ) (b : Block) → int_lt count (pos 0) ≡ false → unsigned_abs count ≡ n → mid.store ≡ alloc Heap (unset_cells n) old.store
      → b ≡ record { class = Heap; number = next_block Heap old.store }
      → LeadsTo names new o (answer_of names mid f no_copy (names function) (At b.class b.number 0))
      → LeadsTo names new o (asking_of names old f no_copy (names function) (record { asked = Builtin Malloc; arguments = Whole kind count ∷ [] }))
  led_made kind count n b e d store block h =
      answers (record { asked = Builtin Malloc; arguments = Whole kind count ∷ [] }) (At b.class b.number 0) (At Heap (next_block Heap s) 0) (alloc Heap (unset_cells n) s)
      (ap (λ a. a >>= λ r. answered p r.0 k r.1) (made_so kind count n e d))
      (ap (λ (c : Block). At c.class c.number 0) block ∙ ap (λ m. At Heap m 0) (sym (next_block-map names Heap old.store)))
      (ap (store_of names) store ∙ sym (alloc-map names Heap (unset_cells n) old.store) ∙ ap (λ cells. alloc Heap cells s) (unset_cells-map names n)) h

  -- ---- a block is freed

  abbrev free_act : Result Store Fault → Answer (Done Point)
  free_act r = freed_of r >>= λ x. answered p x.0 k x.1

  pub led_freed : (what : V.Value) → Ok mid.store ≡ free Heap (seen what) old.store → LeadsTo names new o (answer_of names mid f no_copy (names function) Unset)
      → LeadsTo names new o (asking_of names old f no_copy (names function) (record { asked = Builtin Free; arguments = value_of names what ∷ [] }))
  led_freed what e h =
      answers (record { asked = Builtin Free; arguments = value_of names what ∷ [] }) Unset Unset (store_of names mid.store)
      (ap free_act (free-map names Heap (seen what) old.store ∙ ap (result_map_both (map_store names) (λ fault. fault)) (sym e))) refl refl h

-- ---- faults

module _ (names : Names) (old new : Machine) (f : Text) (no_copy : Bool) (function : Name) where
  abbrev q : Form Point
  q = trees (items_of names old.index)

  abbrev t : Store
  t = store_of names old.store

  abbrev j : Stack Point
  j = stack_of names old

  -- a request that comes to a fault
  faults : (r : Request) (fault : Fault) → section_asks q t j r.asked r.arguments ≡ Faults fault → LeadsTo names new (Some (D.Faulted fault function)) (asking_of names old f no_copy (names function) r)
  faults r fault e = subst (λ a. LeadsTo names new (Some (D.Faulted fault function)) (λ rest. section_next rest f no_copy (names function) a)) (sym e) (λ rest. refl)

  -- a request of which nothing is said
  pub unsaid : (r : Request) (o : Option E.SectionEnd) → section_asks q t j r.asked r.arguments ≡ NoAnswer → LeadsTo names new o (asking_of names old f no_copy (names function) r)
  unsaid r o e = subst (λ a. LeadsTo names new o (λ rest. section_next rest f no_copy (names function) a)) (sym e) (led_nowhere names new o)

  below_so : (kind : Kind) (count : ℤ) → int_lt count (pos 0) ≡ true → allocated Heap (Whole kind count) t ≡ Faults F.Length
  below_so kind count e = simp e refl

  pub led_below : (kind : Kind) (count : ℤ) → int_lt count (pos 0) ≡ true
      → LeadsTo names new (Some (D.Faulted F.Length function)) (asking_of names old f no_copy (names function) (record { asked = Builtin Malloc; arguments = Whole kind count ∷ [] }))
  led_below kind count e = faults (record { asked = Builtin Malloc; arguments = Whole kind count ∷ [] }) F.Length (ap (λ a. a >>= λ r. answered q r.0 j r.1) (below_so kind count e))

  pub led_not_freed : (what : V.Value) (fault : Fault) → Err fault ≡ free Heap (seen what) old.store
      → LeadsTo names new (Some (D.Faulted fault function)) (asking_of names old f no_copy (names function) (record { asked = Builtin Free; arguments = value_of names what ∷ [] }))
  led_not_freed what fault e =
      faults (record { asked = Builtin Free; arguments = value_of names what ∷ [] }) fault
      (ap (λ r. freed_of r >>= λ x. answered q x.0 j x.1) (free-map names Heap (seen what) old.store ∙ ap (result_map_both (map_store names) (λ fault. fault)) (sym e)))
