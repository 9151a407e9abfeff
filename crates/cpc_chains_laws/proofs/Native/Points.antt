-- The points of native code at which nothing is spawned: the same stands there in both programs, and control goes on alike.
use Rattle.std.proofs.Common.{◌≡◌, ◌⊎◌, inl, inr, Bool, true, false, List, option_map, Option, Some, None, refl, sym, ◌∙◌, ap, subst}
use Rattle.cpc_base.specs.Bytes.{Text}
use Rattle.cpc_check_rules.specs.Operators as O
use Rattle.cpc_store.specs.Store.{Store}
use Rattle.cpc_tree.specs.Points.{Path, Point, Here, Arrival, End, Found, Simple, Test, Nothing, found, next_point}
use Rattle.cpc_tree.specs.Registers.{scope_in_function}
use Rattle.cpc_tree.specs.Syntax.{Exprs, Stmt, Call, Detach, Spawn, Function, Program}
use Rattle.cpc_tree.specs.Typing.{Scope, named, function_named}
use Rattle.cpc_meaning.specs.Act.{Stood, AtStatement, AtArrival}
use Rattle.cpc_meaning.specs.Eval.{Slot}
use Rattle.cpc_meaning.specs.Plain.{context, asking}
use Rattle.cpc_meaning.specs.Threads.{is_cps_mode}
use Rattle.cpc_meaning.specs.Trees.{trees, stood_at, scope_from, point_after, arrival_at}
use Rattle.cpc_meaning.specs.Ways.{only_if, way_from, arrival_from, goes_in_step, arrives_later, manner_at}
use Rattle.cpc_convert_common.specs.Converted.{respawned}
use Rattle.cpc_convert_common.proofs.Respawn.{founds, respawned_found}
use Rattle.cpc_forms.specs.Split.{Position, InTree, split_form}
use Rattle.cpc_meaning.specs.Names.{AllNamesFound, AllNamesStood}
use Rattle.cpc_convert_image_laws.specs.Native.{KeptName, IsArrival, IsNativeStood}
use Rattle.cpc_convert_image_laws.specs.Relations as R
use Rattle.cpc_convert_image_laws.specs.Stacks.{frame_of, Onwards, BothGoTo, GoesNowhere, NativePoint}
use Rattle.cpc_convert_routines.specs.Kept.{kept_function}
use Rattle.cpc_chains_event.specs.Converted.{converted}
use Rattle.cpc_lifted_laws.specs.Accepted.Points.{UsedName, StaysItself, FoundKnown, IsSpawn}
use Rattle.cpc_lifted_laws.proofs.Accepted.Counts.{not_cps}
use Rattle.cpc_lifted_laws.specs.Native.Convertible.{Convertible}
use Rattle.cpc_lifted_laws.specs.Native.Instance.{ClosedName, UsedAt}
use Rattle.cpc_chains_laws.proofs.Native.Names.{names_grow, names_join}
use Rattle.cpc_lifted_laws.proofs.Native.Respawned.{same_next, same_scope_from}
use Rattle.cpc_chains_laws.proofs.Native.Wholes.{kept_named}

-- a spawn is not the same as a call
no_spawn : (p : Program) (scope : Scope) (st : Stmt) → respawned_found (Simple st) ≡ Simple st → IsSpawn st ⊎ StaysItself p scope st → StaysItself p scope st
no_spawn p scope st same (inr h) = h
no_spawn p scope st same (inl w) = absurd (let g = w.0 in let es = w.1 in let e : st ≡ Spawn g es = w.2 in let i : respawned_found (Simple (Spawn g es)) ≡ Simple (Spawn g es) = subst (λ s. respawned_found (Simple s) ≡ Simple s) e same in cc)

-- where a step may go, and where control goes
only_alike : (Pos : Position → Point → Type 0) → ((b : Point) → Pos (InTree b) b) → (b : Bool) (o : Option Point) → Onwards Pos (option_map (λ to. InTree to) (only_if b o)) o
only_alike Pos pos true (Some c) = BothGoTo (InTree c) c (pos c)
only_alike Pos pos true None = GoesNowhere None
only_alike Pos pos false o = GoesNowhere o

module _ (p : Program) (h : Convertible p) (f : Text) (fn : Function) (is : function_named p f ≡ Some fn) (c : is_cps_mode fn.mode ≡ false) where
  abbrev q : Program
  q = converted p

  is_there : function_named q f ≡ Some (kept_function fn)
  is_there = kept_named p h.names h.named f fn is c

  abbrev scope_here : Point → Scope
  scope_here b = (split_form p).code.scope f (InTree b)

  -- ---- names

  -- names that are used at a point
  used_at : (b : Point) (path : Path) → scope_here b ≡ scope_in_function fn path → (s : Found) → found fn.body path ≡ s → AllNamesFound (UsedName p (scope_here b)) s → AllNamesFound (UsedAt p f b) s
  used_at b path sc s e names = go (O.is_detached fn.mode) refl
    where
      go : (d : Bool) → O.is_detached fn.mode ≡ d → AllNamesFound (UsedAt p f b) s
      go true d =
          names_join (UsedName p (scope_here b)) (ClosedName p (scope_here b)) (UsedAt p f b) (λ x l m. record { used = l; closed = λ k. m }) s names
          (subst (λ s. AllNamesFound (ClosedName p (scope_here b)) s) e (subst (λ scope. AllNamesFound (ClosedName p scope) (found fn.body path)) (sym sc) (h.closes f fn is d path)))
      go false d =
          names_grow (UsedName p (scope_here b)) (UsedAt p f b)
          (λ x l. record { used = l; closed = λ k. absurd (let i : Some k.function ≡ Some fn = sym k.named ∙ is in let j : k.function ≡ fn = cc in let z : true ≡ false = sym k.detached ∙ (ap (λ (g : Function). O.is_detached g.mode) j ∙ d) in cc) }) s names

  -- ---- what stands there

  -- what stands at a point is the same in both, and known
  pub record Good (b : Point) (st : Stood) : Type 0 where
    pub same : st ≡ (trees q).code.stood f b
    pub native : (slots : List Slot) (s : Store) → IsNativeStood (context (split_form p) s (frame_of f (InTree b) slots)) st
    pub names : AllNamesStood (UsedAt p f b) st
    pub written : (slots : List Slot) (s : Store) (g : Found) → asking st ≡ Some g → IsArrival (context (split_form p) s (frame_of f (InTree b) slots)) g
    pub no_spawn : (g : Text) (es : Exprs) → st ≡ AtStatement (Simple (Spawn g es)) → ⊥

  module _ (path : Path) (s : Found) (e : found fn.body path ≡ s) (stays : respawned_found s ≡ s) where
    -- what stands in the target
    stands : found (respawned fn.body) path ≡ s
    stands = founds fn.body path ∙ (ap respawned_found e ∙ stays)

    stood_here : (split_form p).code.stood f (InTree (Here path)) ≡ AtStatement s
    stood_here = ap (λ o. stood_at o (Here path)) is ∙ ap (λ s. AtStatement s) e

    stood_arrival : (split_form p).code.stood f (InTree (Arrival path)) ≡ AtArrival s
    stood_arrival = ap (λ o. stood_at o (Arrival path)) is ∙ ap (λ s. AtArrival s) e

    same_scope : scope_here (Here path) ≡ scope_here (Arrival path)
    same_scope = ap (λ o. scope_from o (Here path)) is ∙ sym (ap (λ o. scope_from o (Arrival path)) is)

    -- a statement stays itself
    itself : (st : Stmt) → s ≡ Simple st → StaysItself p (scope_here (Here path)) st
    itself st i = no_spawn p (scope_here (Here path)) st (subst (λ s. respawned_found s ≡ s) i stays) (h.positions.native f fn (InTree (Here path)) st is (not_cps fn.mode c) (stood_here ∙ ap (λ s. AtStatement s) i))

    -- what is known makes its names known, and what arrives there is written
    names_of : (b : Point) (s : Found) → ((st : Stmt) → s ≡ Simple st → StaysItself p (scope_here b) st) → FoundKnown p (scope_here b) s → AllNamesFound (UsedName p (scope_here b)) s
    names_of b (Simple st) i k = k.names (i st refl)
    names_of b (Test t) i k = k
    names_of b Nothing i k = tt

    arrives_in : (b : Point) (s : Found) → FoundKnown p (scope_here b) s → (slots : List Slot) (t : Store) → IsArrival (context (split_form p) t (frame_of f (InTree b) slots)) s
    arrives_in b (Simple (Call to g es)) k slots t = k.written slots t
    arrives_in b (Simple (Detach to g es)) k slots t = k.written slots t
    arrives_in b (Simple _) k slots t = tt
    arrives_in b (Test o) k slots t = tt
    arrives_in b Nothing k slots t = tt

    native_in : (s : Found) → ((st : Stmt) → s ≡ Simple st → StaysItself p (scope_here (Here path)) st) → FoundKnown p (scope_here (Here path)) s → (slots : List Slot) (t : Store)
        → IsNativeStood (context (split_form p) t (frame_of f (InTree (Here path)) slots)) (AtStatement s)
    native_in (Simple st) i k slots t = k.native slots t (i st refl)
    native_in (Test o) i k slots t = tt
    native_in Nothing i k slots t = tt

    found_same : (x y : Found) → Some x ≡ Some y → x ≡ y
    found_same x y i = cc

    statement_same : (x y : Found) → AtStatement x ≡ AtStatement y → x ≡ y
    statement_same x y i = cc

    spawn_differs : (g : Text) (es : Exprs) → s ≡ Simple (Spawn g es) → ⊥
    spawn_differs g es i = let j : respawned_found (Simple (Spawn g es)) ≡ Simple (Spawn g es) = subst (λ s. respawned_found s ≡ s) i stays in absurd (cc)

    pub good_here : Good (Here path) ((split_form p).code.stood f (InTree (Here path)))
    good_here =
        let k = h.positions.known f fn (InTree (Here path)) s is stood_here in
        subst (Good (Here path)) (sym stood_here) (record {
          same = ap (λ s. AtStatement s) (sym stands) ∙ sym (ap (λ o. stood_at o (Here path)) is_there);
          native = native_in s itself k;
          names = used_at (Here path) path (ap (λ o. scope_from o (Here path)) is) s e (names_of (Here path) s itself k);
          written = λ slots t g i. subst (λ g. IsArrival (context (split_form p) t (frame_of f (InTree (Here path)) slots)) g) (found_same s g i) (arrives_in (Here path) s k slots t);
          no_spawn = λ g es i. spawn_differs g es (statement_same s (Simple (Spawn g es)) i);
        })

    pub good_arrival : Good (Arrival path) ((split_form p).code.stood f (InTree (Arrival path)))
    good_arrival =
        let k = h.positions.arriving f fn (InTree (Arrival path)) s is stood_arrival in
        subst (Good (Arrival path)) (sym stood_arrival) (record {
          same = ap (λ s. AtArrival s) (sym stands) ∙ sym (ap (λ o. stood_at o (Arrival path)) is_there);
          native = λ slots t. arrives_in (Arrival path) s k slots t;
          names = used_at (Arrival path) path (ap (λ o. scope_from o (Arrival path)) is) s e (names_of (Arrival path) s (λ st i. subst (λ scope. StaysItself p scope st) same_scope (itself st i)) k);
          written = λ slots t g i. absurd (cc);
          no_spawn = λ g es i. absurd (cc);
        })

  pub good_end : Good End ((split_form p).code.stood f (InTree End))
  good_end =
      subst (Good End) (sym (ap (λ o. stood_at o End) is))
      (record { same = sym (ap (λ o. stood_at o End) is_there); native = λ slots t. tt; names = tt; written = λ slots t g i. absurd (cc); no_spawn = λ g es i. absurd (cc) })

  -- ---- points

  module _ (C : Text → Type 0) (Pairs : Function → Function → Type 0) (Pos : Text → Position → Point → Type 0) (pair : Pairs fn (kept_function fn)) (pos : (b : Point) → Pos f (InTree b) b) where
    goes_alike : (b : Point) (t : Bool) → Onwards (Pos f) (option_map (λ to. InTree to) (way_from p (Some fn) b t)) (next_point (respawned fn.body) b t)
    goes_alike (Here path) t =
        subst (λ o. Onwards (Pos f) (option_map (λ to. InTree to) (way_from p (Some fn) (Here path) t)) o) (sym (same_next fn.body (Here path) t))
        (only_alike (Pos f) pos (goes_in_step (manner_at p fn path) (found fn.body path) t) (next_point fn.body (Here path) t))
    goes_alike (Arrival path) t =
        subst (λ o. Onwards (Pos f) (option_map (λ to. InTree to) (way_from p (Some fn) (Arrival path) t)) o) (sym (same_next fn.body (Arrival path) t))
        (only_alike (Pos f) pos (arrives_later (manner_at p fn path)) (next_point fn.body (Arrival path) t))
    goes_alike End t = GoesNowhere None

    arrival_alike : (b : Point) → Onwards (Pos f) (option_map (λ to. InTree to) (arrival_from p (Some fn) b)) (arrival_at b)
    arrival_alike (Here path) = only_alike (Pos f) pos (arrives_later (manner_at p fn path)) (Some (Arrival path))
    arrival_alike (Arrival path) = GoesNowhere None
    arrival_alike End = GoesNowhere None

    pub native_point : (b : Point) → Good b ((split_form p).code.stood f (InTree b)) → ((x : Text) → UsedAt p f b x → KeptName C x (named p (scope_here b) x) (named q (scope_here b) x)) → (s : Store) (slots : List Slot)
        → NativePoint C Pairs Pos (UsedAt p f b) (split_form p) (trees q) s f (InTree b) b slots
    native_point b g names s slots = record {
      function = subst (λ u. R.Found Pairs (function_named p f) u) (sym is_there) (subst (λ o. R.Found Pairs o (Some (kept_function fn))) (sym is) (R.BothFound fn (kept_function fn) pair (record { result = refl; parameters = refl })));
      scope = ap (λ o. scope_from o b) is ∙ (sym (same_scope_from fn b) ∙ sym (ap (λ o. scope_from o b) is_there));
      stood = g.same;
      native = g.native slots s;
      all_names = g.names;
      names = names;
      goes = λ t.
          subst (λ o. Onwards (Pos f) (option_map (λ to. InTree to) (way_from p o b t)) (point_after (function_named q f) b t)) (sym is)
          (subst (λ o. Onwards (Pos f) (option_map (λ to. InTree to) (way_from p (Some fn) b t)) (point_after o b t)) (sym is_there) (goes_alike b t));
      arrival = subst (λ o. Onwards (Pos f) (option_map (λ to. InTree to) (arrival_from p o b)) (arrival_at b)) (sym is) (arrival_alike b);
    }
