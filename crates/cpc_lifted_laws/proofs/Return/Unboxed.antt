-- Boxes are given back, one statement for each, of which the first may have a label: what the piece comes to, by what the call's own slots do.
use Rattle.std.proofs.Common.{◌≡◌, ℕ, suc, ◌+◌, ◌<◌, List, [], ◌∷◌, length, map, Some, None, Result, Ok, Err, refl, ap, subst, codes, arith, ◌≤◌}
use Rattle.cpc_base.specs.Bytes.{Text}
use Rattle.cpc_num.specs.declared.kinds.Fault.{Fault}
use Rattle.cpc_tree.specs.Syntax.{Ty, ENamed, NoExpr, AndExpr, Stmts, AndStmt, Function, Program}
use Rattle.cpc_tree.specs.Typing.{Scope, NotMeant, named, function_named}
use Rattle.cpc_tree.specs.Points.{Point, Simple}
use Rattle.cpc_tree.specs.Points as P
use Rattle.cpc_tree.specs.Trace.{Failed}
use Rattle.cpc_store.specs.declared.values.Class.TheVariants.{Auto}
use Rattle.cpc_store.specs.Store.{Unset, At, Store, free}
use Rattle.cpc_meaning.specs.Answer.{Answer, Gives, Faults, NoAnswer, ◌>>=◌, of_result}
use Rattle.cpc_meaning.specs.Eval.{Slot, Boxed}
use Rattle.cpc_meaning.specs.Slots.{free_slots}
use Rattle.cpc_meaning.specs.Section.{freed}
use Rattle.cpc_meaning.specs.Plain.{Frame as CallFrame}
use Rattle.cpc_meaning.specs.Trees.{trees}
use Rattle.cpc_meaning.specs.Machine.{next, ends, replies}
use Rattle.cpc_meaning.specs.Start.{before_underscores}
use Rattle.cpc_meaning.specs.Events.{callbacks}
use Rattle.cpc_convert_flat_laws.specs.Flat.{before, Stands, LineAt}
use Rattle.cpc_convert_flat_laws.specs.Walks.{World, Here, at_line, Walk, FaultsAfter, frame_at}
use Rattle.cpc_convert_flat_laws.specs.Locals.{Holds}
use Rattle.cpc_convert_flat_laws.specs.Boxes.{unboxes_one, Unboxing, NoUnboxing, PassSlot, AndUnbox}
use Rattle.cpc_convert_flat_laws.proofs.Fields.{held}
use Rattle.cpc_convert_flat_laws.proofs.Asking.{asks_unbox}
use Rattle.cpc_convert_flat_laws.proofs.Flat.{path_at}
use Rattle.cpc_meaning_laws.proofs.Cell.Calls.{leaving_gives_back}
use Rattle.cpc_convert_flat_laws.proofs.Walks.{stay, rise_cons, rise_more, walk_cons}
use Rattle.cpc_convert_flat_laws.proofs.AtLine.{line_path, line_found, line_scope, line_passed}
use Rattle.cpc_convert_flat_laws.proofs.LineSteps.{call_step}
use Rattle.cpc_convert_flat_laws.proofs.Steps.{step_fails}

-- registers have no blocks
pub none_freed : (q : Program) (scope : Scope) (slots xs : List Slot) (s : Store) → Unboxing q scope slots xs [] → free_slots xs s ≡ Gives s
none_freed q scope slots _ s NoUnboxing = refl
none_freed q scope slots _ s (PassSlot v xs _ more) = none_freed q scope slots xs s more

module _ (q : Program) (w : World) (fn : Text) (g : Function) (body : Stmts) (below : List (CallFrame Point)) (is_g : function_named q fn ≡ Some g) (scope : Scope) (n : ℕ) (slots : List Slot) (is_named : named q scope (codes "rt_unbox") ≡ NotMeant) where
  -- what comes of m statements, of which the first is the k-th, by what freeing the slots answers: all of them are passed, or one of them faults
  abbrev pub Comes : (k m : ℕ) → (rest : Stmts) → (from : Here) → Answer Store → Type 0
  Comes k m rest from (Gives t) = Walk q w.trace m from (at_line w fn below (k + m) rest slots t)
  Comes k m rest from (Faults fault) = (a : FaultsAfter q w.trace fn fault from) × (a.steps < m) × (a.grown ≤ m)
  Comes k m rest from NoAnswer = Unit {0}

  -- one box is given back
  one_gives : (k : ℕ) (y : Text) (left : Stmts) (s t : Store) (u : Ty) (b : ℕ) → Holds q scope slots y u (At Auto b 0) → (l : LineAt g body k scope n (unboxes_one y) left) → free Auto (At Auto b 0) s ≡ Ok t
      → Walk q w.trace 1 (at_line w fn below k (AndStmt l.statement left) slots s) (at_line w fn below (suc k) left slots t)
  one_gives k y left s t u b h l is_free =
      let answer : freed Auto (At Auto b 0) s ≡ Gives (t, Unset) = ap (λ r. of_result r >>= λ t. Gives (t, Unset)) is_free in
      let back : free_slots (Boxed b ∷ []) s ≡ Gives t = ap (λ r. of_result r >>= free_slots []) is_free in
      let few = leaving_gives_back (Boxed b ∷ []) s t back in
      rise_more 1 0 1 _ _ (omega arith)
      (call_step q w fn g body below is_g k scope n left slots s None (ENamed (codes "rt_unbox")) (AndExpr (ENamed y) NoExpr) l _ t Unset
      (asks_unbox q scope slots s g.result None (ENamed y) Auto b is_named (held q scope slots s y u (At Auto b 0) h))
      (λ j. ap (λ a. replies (trees q) j a (at_line w fn below k (AndStmt l.statement left) slots s)) answer)
      t slots refl 0 (omega (arith, few)))

  -- one that cannot be given back
  one_faults : (k : ℕ) (y : Text) (left : Stmts) (s : Store) (u : Ty) (b : ℕ) (fault : Fault) → Holds q scope slots y u (At Auto b 0) → (l : LineAt g body k scope n (unboxes_one y) left) → free Auto (At Auto b 0) s ≡ Err fault
      → next (callbacks q) (at_line w fn below k (AndStmt l.statement left) slots s) ≡ Some (ends (Failed fault (before_underscores fn)) (at_line w fn below k (AndStmt l.statement left) slots s))
  one_faults k y left s u b fault h l is_free =
      let answer : freed Auto (At Auto b 0) s ≡ Faults fault = ap (λ r. of_result r >>= λ t. Gives (t, Unset)) is_free in
      let is_act = asks_unbox q scope slots s g.result None (ENamed y) Auto b is_named (held q scope slots s y u (At Auto b 0) h) in
      step_fails q w fn g below is_g slots s (line_path g body k scope n (unboxes_one y) left l) scope (line_scope g body k scope n (unboxes_one y) left l _) (Simple (unboxes_one y)) (line_found g body k scope n (unboxes_one y) left l) _ fault is_act
      (ap (λ a. replies (trees q) (record { frames = frame_at fn (P.Here (path_at k l.statement)) slots ∷ below; arriving = None }) a (at_line w fn below k (AndStmt l.statement left) slots s)) answer)

  -- one, and then others
  after_one : (k m : ℕ) (y : Text) (left rest : Stmts) (xs : List Slot) (s : Store) (u : Ty) (b : ℕ) → Holds q scope slots y u (At Auto b 0) → (l : LineAt g body k scope n (unboxes_one y) left)
      → ((r : Store) → Comes (suc k) m rest (at_line w fn below (suc k) left slots r) (free_slots xs r))
      → Comes k (suc m) rest (at_line w fn below k (AndStmt l.statement left) slots s) (free_slots (Boxed b ∷ xs) s)
  after_one k m y left rest xs s u b h l others = go (free Auto (At Auto b 0) s) refl
    where
      from : Here
      from = at_line w fn below k (AndStmt l.statement left) slots s

      then_come : (r : Store) → Walk q w.trace 1 from (at_line w fn below (suc k) left slots r) → (a : Answer Store) → Comes (suc k) m rest (at_line w fn below (suc k) left slots r) a → Comes k (suc m) rest from a
      then_come r first (Gives t) d = subst (λ j. Walk q w.trace (suc m) from (at_line w fn below j rest slots t)) (let z : suc k + m ≡ k + suc m = omega arith in z) (walk_cons m _ _ _ first d)
      then_come r first (Faults fault) d =
          let less = d.1 in
          let low = d.2 in
          (record { steps = suc d.0.steps; grown = 1 + d.0.grown; last = d.0.last; leads = rise_cons d.0.steps 1 d.0.grown _ _ _ first d.0.leads; faults = d.0.faults }, omega (arith, less), omega (arith, low))
      then_come r first NoAnswer d = tt

      go : (r : Result Store Fault) → free Auto (At Auto b 0) s ≡ r → Comes k (suc m) rest from (of_result r >>= λ t. free_slots xs t)
      go (Ok r) is = then_come r (one_gives k y left s r u b h l is) (free_slots xs r) (others r)
      go (Err fault) is = (record { steps = 0; grown = 0; last = from; leads = stay from; faults = one_faults k y left s u b fault h l is }, omega arith, omega arith)

  -- all of them
  pub unboxes_come : (k : ℕ) (xs : List Slot) (ys : List Text) (rest : Stmts) (s : Store) → Unboxing q scope slots xs ys → Stands g body k scope n (before (map unboxes_one ys) rest)
      → Comes k (length ys) rest (at_line w fn below k (before (map unboxes_one ys) rest) slots s) (free_slots xs s)
  unboxes_come k _ _ rest s NoUnboxing st = subst (λ j. Walk q w.trace 0 (at_line w fn below k rest slots s) (at_line w fn below j rest slots s)) (let z : k ≡ k + 0 = omega arith in z) (stay _)
  unboxes_come k _ ys rest s (PassSlot v xs _ more) st = unboxes_come k xs ys rest s more st
  unboxes_come k _ _ rest s (AndUnbox b xs y u ys h more) st =
      let l : LineAt g body k scope n (unboxes_one y) (before (map unboxes_one ys) rest) = record { statement = unboxes_one y; stands = st; is_bare = refl; is_line = refl } in
      after_one k (length ys) y (before (map unboxes_one ys) rest) rest xs s u b h l (λ r. unboxes_come (suc k) xs ys rest r more (line_passed g body k scope n (unboxes_one y) (before (map unboxes_one ys) rest) l))

  -- all of them, the first with a label
  pub first_come : (k : ℕ) (xs : List Slot) (y : Text) (ys : List Text) (rest : Stmts) (s : Store) → Unboxing q scope slots xs (y ∷ ys) → (l : LineAt g body k scope n (unboxes_one y) (before (map unboxes_one ys) rest))
      → Comes k (suc (length ys)) rest (at_line w fn below k (AndStmt l.statement (before (map unboxes_one ys) rest)) slots s) (free_slots xs s)
  first_come k _ y ys rest s (PassSlot v xs _ more) l = first_come k xs y ys rest s more l
  first_come k _ _ _ rest s (AndUnbox b xs y u ys h more) l =
      after_one k (length ys) y (before (map unboxes_one ys) rest) rest xs s u b h l (λ r. unboxes_come (suc k) xs ys rest r more (line_passed g body k scope n (unboxes_one y) (before (map unboxes_one ys) rest) l))
