-- The boxes of a call are given back, one statement for each: alike with the call's own, be it a fault.
use Rattle.std.proofs.Common.{◌≡◌, ℕ, suc, ◌+◌, List, [], ◌∷◌, length, map, Some, None, Result, Ok, Err, refl, ◌∙◌, ap, subst, codes, arith}
use Rattle.cpc_base.specs.Bytes.{Text}
use Rattle.cpc_num.specs.declared.kinds.Fault.{Fault}
use Rattle.cpc_tree.specs.Syntax.{Ty, ENamed, NoExpr, AndExpr, Stmts, AndStmt, Function, Program}
use Rattle.cpc_tree.specs.Typing.{Scope, NotMeant, named, function_named}
use Rattle.cpc_tree.specs.Points.{Point, Simple}
use Rattle.cpc_tree.specs.Points as P
use Rattle.cpc_tree.specs.Trace.{Failed}
use Rattle.cpc_store.specs.declared.values.Class.TheVariants.{Auto}
use Rattle.cpc_store.specs.Store.{Unset, At, Store, free}
use Rattle.cpc_meaning.specs.Answer.{Gives, Faults, ◌>>=◌, of_result}
use Rattle.cpc_meaning.specs.Eval.{Slot, Boxed}
use Rattle.cpc_meaning.specs.Slots.{free_slots}
use Rattle.cpc_meaning.specs.Section.{freed}
use Rattle.cpc_meaning.specs.Plain.{Frame as CallFrame}
use Rattle.cpc_meaning.specs.Trees.{trees}
use Rattle.cpc_meaning.specs.Machine.{next, ends, replies}
use Rattle.cpc_meaning.specs.Start.{before_underscores}
use Rattle.cpc_meaning.specs.Events.{callbacks}
use Rattle.cpc_convert_flat_laws.specs.Flat.{before, Stands, LineAt}
use Rattle.cpc_convert_flat_laws.specs.Walks.{World, at_line, Walk, FaultsAfter, frame_at}
use Rattle.cpc_convert_flat_laws.specs.Locals.{Holds}
use Rattle.cpc_convert_flat_laws.specs.Boxes.{unboxes_one, Unboxing, NoUnboxing, PassSlot, AndUnbox}
use Rattle.cpc_meaning_laws.proofs.Cell.Calls.{leaving_gives_back}
use Rattle.cpc_convert_flat_laws.proofs.Fields.{held}
use Rattle.cpc_convert_flat_laws.proofs.Asking.{asks_unbox}
use Rattle.cpc_convert_flat_laws.proofs.Flat.{path_at}
use Rattle.cpc_convert_flat_laws.proofs.Walks.{stay, rise_cons, rise_more, walk_cons}
use Rattle.cpc_convert_flat_laws.proofs.AtLine.{line_path, line_found, line_scope, line_passed}
use Rattle.cpc_convert_flat_laws.proofs.LineSteps.{call_step}
use Rattle.cpc_convert_flat_laws.proofs.Steps.{step_fails}

module _ (q : Program) (w : World) (fn : Text) (g : Function) (body : Stmts) (below : List (CallFrame Point)) (is_g : function_named q fn ≡ Some g) (scope : Scope) (n : ℕ) (rest : Stmts) (slots : List Slot) (is_named : named q scope (codes "rt_unbox") ≡ NotMeant) where
  -- one box is given back
  unbox_gives : (k : ℕ) (y : Text) (left : Stmts) (s t : Store) (u : Ty) (b : ℕ) → Holds q scope slots y u (At Auto b 0) → Stands g body k scope n (AndStmt (unboxes_one y) left) → free Auto (At Auto b 0) s ≡ Ok t
      → Walk q w.trace 1 (at_line w fn below k (AndStmt (unboxes_one y) left) slots s) (at_line w fn below (suc k) left slots t)
  unbox_gives k y left s t u b h st is_free =
      let l : LineAt g body k scope n (unboxes_one y) left = record { statement = unboxes_one y; stands = st; is_bare = refl; is_line = refl } in
      let answer : freed Auto (At Auto b 0) s ≡ Gives (t, Unset) = ap (λ r. of_result r >>= λ t. Gives (t, Unset)) is_free in
      let back : free_slots (Boxed b ∷ []) s ≡ Gives t = ap (λ r. of_result r >>= free_slots []) is_free in
      let few = leaving_gives_back (Boxed b ∷ []) s t back in
      rise_more 1 0 1 _ _ (omega arith)
      (call_step q w fn g body below is_g k scope n left slots s None (ENamed (codes "rt_unbox")) (AndExpr (ENamed y) NoExpr) l _ t Unset
      (asks_unbox q scope slots s g.result None (ENamed y) Auto b is_named (held q scope slots s y u (At Auto b 0) h))
      (λ j. ap (λ a. replies (trees q) j a (at_line w fn below k (AndStmt (unboxes_one y) left) slots s)) answer)
      t slots refl 0 (omega (arith, few)))

  -- one that cannot be given back
  unbox_faults : (k : ℕ) (y : Text) (left : Stmts) (s : Store) (u : Ty) (b : ℕ) (fault : Fault) → Holds q scope slots y u (At Auto b 0) → Stands g body k scope n (AndStmt (unboxes_one y) left) → free Auto (At Auto b 0) s ≡ Err fault
      → next (callbacks q) (at_line w fn below k (AndStmt (unboxes_one y) left) slots s) ≡ Some (ends (Failed fault (before_underscores fn)) (at_line w fn below k (AndStmt (unboxes_one y) left) slots s))
  unbox_faults k y left s u b fault h st is_free =
      let l : LineAt g body k scope n (unboxes_one y) left = record { statement = unboxes_one y; stands = st; is_bare = refl; is_line = refl } in
      let answer : freed Auto (At Auto b 0) s ≡ Faults fault = ap (λ r. of_result r >>= λ t. Gives (t, Unset)) is_free in
      let is_act = asks_unbox q scope slots s g.result None (ENamed y) Auto b is_named (held q scope slots s y u (At Auto b 0) h) in
      step_fails q w fn g below is_g slots s (line_path g body k scope n (unboxes_one y) left l) scope (line_scope g body k scope n (unboxes_one y) left l _) (Simple (unboxes_one y)) (line_found g body k scope n (unboxes_one y) left l) _ fault is_act
      (ap (λ a. replies (trees q) (record { frames = frame_at fn (P.Here (path_at k (unboxes_one y))) slots ∷ below; arriving = None }) a (at_line w fn below k (AndStmt (unboxes_one y) left) slots s)) answer)

  -- all of them
  pub unboxes_walk : (k : ℕ) (xs : List Slot) (ys : List Text) (s t : Store) → Unboxing q scope slots xs ys → free_slots xs s ≡ Gives t → Stands g body k scope n (before (map unboxes_one ys) rest)
      → Walk q w.trace (length ys) (at_line w fn below k (before (map unboxes_one ys) rest) slots s) (at_line w fn below (k + length ys) rest slots t)
  unboxes_walk k _ _ s t NoUnboxing e st =
      let same : s ≡ t = cc in
      subst (λ u. Walk q w.trace 0 (at_line w fn below k rest slots s) (at_line w fn below (k + 0) rest slots u)) same
      (subst (λ j. Walk q w.trace 0 (at_line w fn below k rest slots s) (at_line w fn below j rest slots s)) (let z : k ≡ k + 0 = omega arith in z) (stay _))
  unboxes_walk k _ ys s t (PassSlot v xs _ more) e st = unboxes_walk k xs ys s t more e st
  unboxes_walk k _ _ s t (AndUnbox b xs y u ys h more) e st =
      by_free (free Auto (At Auto b 0) s) refl e (λ r is. unboxes_walk (suc k) xs ys r t more is (line_passed g body k scope n (unboxes_one y) (before (map unboxes_one ys) rest) (record { statement = unboxes_one y; stands = st; is_bare = refl; is_line = refl })))
    where
      left : Stmts
      left = before (map unboxes_one ys) rest

      by_free : (r : Result Store Fault) → free Auto (At Auto b 0) s ≡ r → (of_result r >>= λ t. free_slots xs t) ≡ Gives t
          → ((r : Store) → free_slots xs r ≡ Gives t → Walk q w.trace (length ys) (at_line w fn below (suc k) (before (map unboxes_one ys) rest) slots r) (at_line w fn below (suc k + length ys) rest slots t))
          → Walk q w.trace (suc (length ys)) (at_line w fn below k (AndStmt (unboxes_one y) (before (map unboxes_one ys) rest)) slots s) (at_line w fn below (k + suc (length ys)) rest slots t)
      by_free (Err fault) is f deeper = absurd (cc)
      by_free (Ok r) is f deeper =
          subst (λ j. Walk q w.trace (suc (length ys)) (at_line w fn below k (AndStmt (unboxes_one y) left) slots s) (at_line w fn below j rest slots t)) (let z : suc k + length ys ≡ k + suc (length ys) = omega arith in z)
          (walk_cons (length ys) _ _ _ (unbox_gives k y left s r u b h st is) (deeper r f))

  -- or the first fault
  pub unboxes_fault : (k : ℕ) (xs : List Slot) (ys : List Text) (s : Store) (fault : Fault) → Unboxing q scope slots xs ys → free_slots xs s ≡ Faults fault → Stands g body k scope n (before (map unboxes_one ys) rest)
      → FaultsAfter q w.trace fn fault (at_line w fn below k (before (map unboxes_one ys) rest) slots s)
  unboxes_fault k _ _ s fault NoUnboxing e st = absurd (cc)
  unboxes_fault k _ ys s fault (PassSlot v xs _ more) e st = unboxes_fault k xs ys s fault more e st
  unboxes_fault k _ _ s fault (AndUnbox b xs y u ys h more) e st =
      by_free (free Auto (At Auto b 0) s) refl e (λ r is. unboxes_fault (suc k) xs ys r fault more is (line_passed g body k scope n (unboxes_one y) (before (map unboxes_one ys) rest) (record { statement = unboxes_one y; stands = st; is_bare = refl; is_line = refl })))
    where
      left : Stmts
      left = before (map unboxes_one ys) rest

      by_free : (r : Result Store Fault) → free Auto (At Auto b 0) s ≡ r → (of_result r >>= λ t. free_slots xs t) ≡ Faults fault
          → ((r : Store) → free_slots xs r ≡ Faults fault → FaultsAfter q w.trace fn fault (at_line w fn below (suc k) (before (map unboxes_one ys) rest) slots r))
          → FaultsAfter q w.trace fn fault (at_line w fn below k (AndStmt (unboxes_one y) (before (map unboxes_one ys) rest)) slots s)
      by_free (Err other) is f deeper =
          let same : other ≡ fault = cc in
          record { steps = 0; grown = 0; last = _; leads = stay _; faults = unbox_faults k y left s u b fault h st (is ∙ ap Err same) }
      by_free (Ok r) is f deeper =
          let d = deeper r f in
          record { steps = suc d.steps; grown = 1 + d.grown; last = d.last; leads = rise_cons d.steps 1 d.grown _ _ _ (unbox_gives k y left s r u b h st is) d.leads; faults = d.faults }
