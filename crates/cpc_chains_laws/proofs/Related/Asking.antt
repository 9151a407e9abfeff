-- What running code asks for is answered alike in both, where replies lead to states that are related: primitives, and the host's functions.
use Rattle.std.proofs.Common.{◌≡◌, ℕ, ℤ, pos, Bool, true, false, ◌&&◌, cond, ◌==◌, int_lt, unsigned_abs, replicate, List, [], ◌∷◌, ◌++◌, map, Some, None, is_some, slice_set, Result, Ok, Err, refl, sym, ◌∙◌, ap, subst, arith}
use Rattle.std.specs.List.{All}
use Rattle.std.specs.Fmt.{signed_decimal}
use Rattle.cpc_base.specs.Bytes.{Text}
use Rattle.cpc_num.specs.declared.kinds.Fault.{Fault}
use Rattle.cpc_num.specs.declared.kinds.Fault.TheVariants as F
use Rattle.cpc_num.specs.declared.kinds.Kind.TheVariants.{Long}
use Rattle.cpc_store.specs.declared.values.Class.TheVariants.{Heap}
use Rattle.cpc_store.specs.Store.{Value, Unset, Whole, Null, At as Pointer, Cond, Blocks, Store, same_class, cells_of, next_block, alloc, with_blocks, blocks, free}
use Rattle.cpc_tree.specs.Lists.{rest_of}
use Rattle.cpc_tree.specs.Points.{Point}
use Rattle.cpc_tree.specs.Trace.{Output, HostCall, Exited}
use Rattle.cpc_meaning.specs.Answer.{Answer, Gives, Faults, ◌>>=◌, of_result}
use Rattle.cpc_meaning.specs.Agenda.{Agenda, cond_new, cond_free, signal, signal_all}
use Rattle.cpc_meaning.specs.Machine.{ends, marks, with_agenda, reply, byte_of, replies, acts, int_of, cond_of, ints_of, first_answer, primitive, host_call, asked_by}
use Rattle.cpc_meaning.specs.Plain.{Stack}
use Rattle.cpc_meaning.specs.Requests.{Asked, Builtin, Host, ToSpawn, Section, Primitive, Print, Putc, Puts, Now, CondNew, CondFree, Signal, SignalAll, Exit, Malloc, Free}
use Rattle.cpc_meaning.specs.Section.{allocated, freed}
use Rattle.cpc_meaning.specs.Threads.{Thread, thread_primitive, threads_of}
use Rattle.cpc_meaning.specs.Events.{Callback, callbacks_of, event_primitive}
use Rattle.cpc_meaning.proofs.Agendas.{SameResult, BothOk, BothErr, signals, signals_all, made, freed as released}
use Rattle.cpc_forms.specs.Split.{Position}
use Rattle.cpc_convert_image_laws.specs.Held.{IsHeld, IsHeldStore}
use Rattle.cpc_convert_image_laws.specs.Relations.{Meets, BothGive, BothFault, Stuck, Answered, BothAnswer}
use Rattle.cpc_convert_image_laws.proofs.Answers.{self_then}
use Rattle.cpc_convert_image_laws.proofs.Beside as S
use Rattle.cpc_convert_flat_laws.specs.Blocks.{count, Owns}
use Rattle.cpc_chains_laws.specs.Related.Fresh.{AllFresh}
use Rattle.cpc_lifted_laws.specs.Related.Sums.{total}
use Rattle.cpc_lifted_laws.specs.Related.Cut.{Tagged, IsUntagged, owned_in}
use Rattle.cpc_chains_laws.specs.Related.Items.{ItemFor}
use Rattle.cpc_lifted_laws.proofs.Related.Sums.{total_signal, total_signal_all, total_freed}
use Rattle.cpc_chains_laws.proofs.Related.Relation.{Source, Target, Shared, AgendaFor, source_state, target_state}
use Rattle.cpc_chains_laws.proofs.Related.Setting.{Setting, from_form, to_form, is_common, is_answered}
use Rattle.cpc_chains_laws.proofs.Related.Turns.{owns_again}

-- ---- acts on the heap leave boxes as they are

-- the store of an answer, or else this one
abbrev store_in : Store → Answer (Store × Value) → Store
store_in s (Gives r) = r.0
store_in s _ = s

pub allocated_boxes : (v : Value) (s t : Store) (u : Value) → allocated Heap v s ≡ Gives (t, u) → t.auto ≡ s.auto
allocated_boxes (Whole kind z) s t u e = go (int_lt z (pos 0)) e
  where
    go : (b : Bool) → cond {A = Answer (Store × Value)} b (Faults F.Length) (Gives (alloc Heap (replicate (unsigned_abs z) Unset) s, Pointer Heap (next_block Heap s) 0)) ≡ Gives (t, u) → t.auto ≡ s.auto
    go true i = absurd (cc)
    go false i = let same : alloc Heap (replicate (unsigned_abs z) Unset) s ≡ t = ap (store_in s) i in sym (ap (λ (r : Store). r.auto) same)
allocated_boxes _ s t u e = absurd (cc)

free_boxes : (v : Value) (s t : Store) → free Heap v s ≡ Ok t → t.auto ≡ s.auto
free_boxes Null s t e = let same : s ≡ t = cc in sym (ap (λ (r : Store). r.auto) same)
free_boxes (Pointer d n k) s t e = go (same_class Heap d && is_some (cells_of d n s) && (k == 0)) e
  where
    go : (b : Bool) → cond b (Ok (with_blocks Heap (slice_set (blocks Heap s) n None) s)) (Err F.BadFree) ≡ Ok t → t.auto ≡ s.auto
    go true i = let same : with_blocks Heap (slice_set (blocks Heap s) n None) s ≡ t = cc in sym (ap (λ (r : Store). r.auto) same)
    go false i = absurd (cc)
free_boxes _ s t e = absurd (cc)

pub freed_boxes : (v : Value) (s t : Store) (u : Value) → freed Heap v s ≡ Gives (t, u) → t.auto ≡ s.auto
freed_boxes v s t u e = go (free Heap v s) refl e
  where
    then_unset : Answer Store → Answer (Store × Value)
    then_unset a = a >>= λ r. Gives (r, Unset)

    go : (r : Result Store Fault) → free Heap v s ≡ r → then_unset (of_result r) ≡ Gives (t, u) → t.auto ≡ s.auto
    go (Ok r) i j = free_boxes v s t (let same : r ≡ t = ap (store_in s) j in i ∙ ap (λ (r : Store). Ok r) same)
    go (Err fault) i j = absurd (cc)

-- ---- requests

-- agendas that stand for each other, whose items own the blocks, at which no value has arrived
pub record Agendas (z : Setting) (bs : Blocks) (owned : List ℕ) (a : Agenda (Thread Position)) (tags : Agenda Tagged) (b : Agenda Callback) : Type 0 where
  pub alike : AgendaFor z.cut bs a tags b
  pub owns : Owns bs (owned ++ owned_in tags)
  pub fresh : AllFresh bs

-- what running code asks of the agenda: both act, and no item is lost or doubled, or both fault
pub data ThreeResults (z : Setting) (bs : Blocks) (tags : Agenda Tagged) : Result (Agenda (Thread Position)) Fault → Result (Agenda Callback) Fault → Type 0 where
  AllOk : (a : Agenda (Thread Position)) (t : Agenda Tagged) (c : Agenda Callback) → AgendaFor z.cut bs a t c → ((n : ℕ) → total (λ (x : Tagged). count n x.owned) t ≡ total (λ (x : Tagged). count n x.owned) tags) → ThreeResults z bs tags (Ok a) (Ok c)
  AllErr : (fault : Fault) → ThreeResults z bs tags (Err fault) (Err fault)

three : (z : Setting) (bs : Blocks) (tags : Agenda Tagged) (u : Result (Agenda (Thread Position)) Fault) (v : Result (Agenda Tagged) Fault) (w : Result (Agenda Callback) Fault)
    → ((t : Agenda Tagged) → v ≡ Ok t → (n : ℕ) → total (λ (x : Tagged). count n x.owned) t ≡ total (λ (x : Tagged). count n x.owned) tags)
    → SameResult (ItemFor z.cut bs) u v → SameResult IsUntagged v w → ThreeResults z bs tags u w
three z bs tags _ _ _ same (BothOk a t g) (BothOk _ c i) = AllOk a t c (record { items = g; untagged = i }) (same t refl)
three z bs tags _ _ _ same (BothErr fault) (BothErr _) = AllErr fault

-- The stacks k and j run, with these boxes. States are related as R says, where the run exits and where a reply goes on.
module _ (z : Setting) (bs : Blocks) (owned : List ℕ) (boxes : Blocks) (k : Stack Position) (j : Stack Point) (R : Source → Target → Type 0) (exits : (x : Source) (y : Target) (n : ℤ) → x.trace ≡ y.trace → R (ends (Exited n) x) (ends (Exited n) y)) (reply_alike : (w : Shared) (a : Agenda (Thread Position)) (tags : Agenda Tagged) (c : Agenda Callback) → IsHeldStore z.codes w.store → w.store.auto ≡ boxes → Agendas z bs owned a tags c → (v : Value) → IsHeld z.codes v → Meets R (reply (from_form z) k v (source_state w (Some k) a)) (reply (to_form z) j v (target_state w bs (Some j) c))) where
  abbrev Steps : Answer Source → Answer Target → Type 0
  Steps = Meets R

  acts_alike : (w : Shared) (a : Agenda (Thread Position)) (tags : Agenda Tagged) (c : Agenda Callback) → IsHeldStore z.codes w.store → w.store.auto ≡ boxes → Agendas z bs owned a tags c
      → (u : Result (Agenda (Thread Position)) Fault) (v : Result (Agenda Callback) Fault) → ThreeResults z bs tags u v
      → Steps (acts (from_form z) k u (source_state w (Some k) a)) (acts (to_form z) j v (target_state w bs (Some j) c))
  acts_alike w a tags c source same_boxes g _ _ (AllOk a' t' c' g' same) = reply_alike w a' t' c' source same_boxes (record { alike = g'; owns = owns_again bs owned tags t' same g.owns; fresh = g.fresh }) Unset tt
  acts_alike w a tags c source same_boxes g _ _ (AllErr fault) = BothFault fault

  module _ (w : Shared) (a : Agenda (Thread Position)) (tags : Agenda Tagged) (c : Agenda Callback) (source : IsHeldStore z.codes w.store) (same_boxes : w.store.auto ≡ boxes) (g : Agendas z bs owned a tags c) where
    abbrev x : Source
    x = source_state w (Some k) a

    abbrev y : Target
    y = target_state w bs (Some j) c

    -- what is printed
    output_alike : (bytes : Text) → Steps (reply (from_form z) k Unset (marks (Output bytes) x)) (reply (to_form z) j Unset (marks (Output bytes) y))
    output_alike bytes = reply_alike (record w { trace = w.trace ++ Output bytes ∷ [] }) a tags c source same_boxes g Unset tt

    -- an act on the store
    replies_alike : (u : Answer (Store × Value)) (v : Answer (Store × Value)) → ((t : Store) (v : Value) → u ≡ Gives (t, v) → t.auto ≡ w.store.auto) → Meets (Answered z.codes bs) u v → Steps (replies (from_form z) k u x) (replies (to_form z) j v y)
    replies_alike _ _ kept (BothGive _ _ (BothAnswer t v h i)) = reply_alike (record w { store = t }) a tags c h (kept t v refl ∙ same_boxes) g v i
    replies_alike _ _ kept (BothFault fault) = BothFault fault
    replies_alike _ _ kept (Stuck v) = Stuck _

    now_alike : a.now ≡ c.now
    now_alike = g.alike.items.now ∙ g.alike.untagged.now

    made_alike : a.conditions_made ≡ c.conditions_made
    made_alike = g.alike.items.conditions_made ∙ g.alike.untagged.conditions_made

    conditions : Agendas z bs owned (cond_new a) (cond_new tags) (cond_new c)
    conditions = record { alike = record { items = made (ItemFor z.cut bs) a tags g.alike.items; untagged = made IsUntagged tags c g.alike.untagged }; owns = g.owns; fresh = g.fresh }

    freed_three : (n : ℕ) → ThreeResults z bs tags (cond_free n a) (cond_free n c)
    freed_three n = three z bs tags _ (cond_free n tags) _ (λ t e m. total_freed (λ (x : Tagged). count m x.owned) n tags t e) (released (ItemFor z.cut bs) n a tags g.alike.items) (released IsUntagged n tags c g.alike.untagged)

    signal_three : (n : ℕ) → ThreeResults z bs tags (signal n a) (signal n c)
    signal_three n = three z bs tags _ (signal n tags) _ (λ t e m. total_signal (λ (x : Tagged). count m x.owned) n tags t e) (signals (ItemFor z.cut bs) n a tags g.alike.items) (signals IsUntagged n tags c g.alike.untagged)

    all_three : (n : ℕ) → ThreeResults z bs tags (signal_all n a) (signal_all n c)
    all_three n = three z bs tags _ (signal_all n tags) _ (λ t e m. total_signal_all (λ (x : Tagged). count m x.owned) n tags t e) (signals_all (ItemFor z.cut bs) n a tags g.alike.items) (signals_all IsUntagged n tags c g.alike.untagged)

    -- a primitive of both is none of the threads' own
    own_alike : (prim : Primitive) → is_common prim ≡ true → (vs : List Value) → Steps (thread_primitive (from_form z) prim vs k x) (event_primitive (to_form z) prim vs j y)
    own_alike Print e vs = Stuck _
    own_alike Putc e vs = Stuck _
    own_alike Puts e vs = Stuck _
    own_alike Now e vs = Stuck _
    own_alike CondNew e vs = Stuck _
    own_alike CondFree e vs = Stuck _
    own_alike Signal e vs = Stuck _
    own_alike SignalAll e vs = Stuck _
    own_alike Exit e vs = Stuck _
    own_alike Malloc e vs = Stuck _
    own_alike Free e vs = Stuck _
    own_alike _ e vs = absurd cc

    primitive_alike : (prim : Primitive) → is_common prim ≡ true → (vs : List Value) → All (IsHeld z.codes) vs → Steps (primitive (threads_of (from_form z)) prim vs k x) (primitive (callbacks_of (to_form z)) prim vs j y)
    primitive_alike Print e (v ∷ []) h = self_then _ (int_of v) _ _ (λ n. output_alike (signed_decimal n ++ 10 ∷ []))
    primitive_alike Putc e (v ∷ []) h = output_alike (byte_of v ∷ [])
    primitive_alike Puts e vs h = output_alike (map byte_of vs)
    primitive_alike Now e [] h =
        subst (λ n. Steps (reply (from_form z) k (Whole Long (pos a.now)) x) (reply (to_form z) j (Whole Long (pos n)) y)) now_alike (reply_alike w a tags c source same_boxes g (Whole Long (pos a.now)) tt)
    primitive_alike CondNew e [] h =
        subst (λ n. Steps (reply (from_form z) k (Cond a.conditions_made) (with_agenda x (cond_new a))) (reply (to_form z) j (Cond n) (with_agenda y (cond_new c)))) made_alike
        (reply_alike w (cond_new a) (cond_new tags) (cond_new c) source same_boxes conditions (Cond a.conditions_made) tt)
    primitive_alike CondFree e (v ∷ []) h = self_then _ (cond_of v) _ _ (λ n. acts_alike w a tags c source same_boxes g _ _ (freed_three n))
    primitive_alike Signal e (v ∷ []) h = self_then _ (cond_of v) _ _ (λ n. acts_alike w a tags c source same_boxes g _ _ (signal_three n))
    primitive_alike SignalAll e (v ∷ []) h = self_then _ (cond_of v) _ _ (λ n. acts_alike w a tags c source same_boxes g _ _ (all_three n))
    primitive_alike Exit e (v ∷ []) h = self_then _ (int_of v) _ _ (λ n. BothGive _ _ (exits x y n refl))
    primitive_alike Malloc e (v ∷ []) h = replies_alike _ _ (allocated_boxes v w.store) (S.allocated_alike z.codes bs w.store source Heap v tt)
    primitive_alike Free e (v ∷ []) h = replies_alike _ _ (freed_boxes v w.store) (S.freed_alike z.codes bs w.store source Heap v tt (h 0 v (omega arith)))
    primitive_alike prim e vs h = own_alike prim e vs

    host_alike : (name : Text) (vs : List Value) → Steps (host_call (from_form z) name vs k x) (host_call (to_form z) name vs j y)
    host_alike name vs =
        self_then _ (ints_of vs) _ _ (λ zs. reply_alike (record w { history = record w.history { answers = rest_of w.history.answers }; trace = w.trace ++ HostCall name zs (first_answer w.history.answers) ∷ [] })
        a tags c source same_boxes g (Whole Long (first_answer w.history.answers)) tt)

    -- what running code asks for
    pub asked_alike : (asked : Asked) → is_answered asked ≡ true → (vs : List Value) → All (IsHeld z.codes) vs → Steps (asked_by (threads_of (from_form z)) k x asked vs) (asked_by (callbacks_of (to_form z)) j y asked vs)
    asked_alike (Builtin prim) e vs h = primitive_alike prim e vs h
    asked_alike (Host name) e vs h = host_alike name vs
    asked_alike (ToSpawn name) e vs h = absurd cc
    asked_alike (Section name) e vs h = absurd cc
