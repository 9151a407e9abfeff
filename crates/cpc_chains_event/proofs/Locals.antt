-- The variables of a piece have names of their own, and each is found by its name.
use Rattle.std.proofs.Common.{◌≡◌, ℕ, zero, suc, ◌+◌, ◌<◌, ◌≤◌, ◌^◌, Bool, true, false, not, ◌&&◌, ◌||◌, ◌==◌, cond, List, [], ◌∷◌, ◌++◌, map, length, get_or, slice_get, bytes_eq, Option, Some, None, refl, sym, ◌∙◌, ap, subst, codes, arith}
use Rattle.std.proofs.lemmas.Option.{slice_get-get_or, slice_get_within}
use Rattle.cpc_base.specs.Bytes.{Text}
use Rattle.cpc_base.proofs.Truth.{eq_reflexive, or_by_second, or_neither, eq_means, bytes_eq_fails_back, not_holds, and_first, and_second}
use Rattle.cpc_base.proofs.Lists.{append_empty}
use Rattle.cpc_num.specs.declared.kinds.Kind.TheVariants.{Int}
use Rattle.cpc_tree.specs.Lists.{holds_number, is_empty}
use Rattle.cpc_tree.specs.Syntax.{Ty, TyPointer, TyStruct, TyInt, Stmt, Stmts, NoStmt, AndStmt, Variable, Function, Program}
use Rattle.cpc_tree.specs.Points.{locals_in}
use Rattle.cpc_tree.specs.Registers.{variables}
use Rattle.cpc_tree.specs.Typing.{Scope, ALocal, named, is_scalar}
use Rattle.cpc_tree.proofs.Holding.{holds_both}
use Rattle.cpc_meaning.proofs.Functions.{text_same}
use Rattle.cpc_convert_common.specs.Marks.{has_marks}
use Rattle.cpc_convert_common.specs.Converted.{marked}
use Rattle.cpc_forms.specs.Flow.{Place, Start, At}
use Rattle.cpc_forms.specs.Pieces.{Once, NoNumber, AndOther}
use Rattle.cpc_lift_laws.specs.Search.{Link, keepers, closure_from}
use Rattle.cpc_lift_laws.specs.Lift.{boxes_from, variables_in, variable_count}
use Rattle.cpc_lift_laws.specs.Boxes.{is_box}
use Rattle.cpc_convert_flat_laws.specs.Flat.{before}
use Rattle.cpc_convert_flat_laws.specs.Locals.{Load, loads_one, loaded_scope, declares_one, declared_scope, Scalars, NoScalars, AndScalar}
use Rattle.cpc_chains_store_laws.specs.Frames.{frees_frame}
use Rattle.cpc_chains_store_laws.specs.Driver.{value_field, any_pointer}
use Rattle.cpc_convert_flat_laws.proofs.Lines.{line_one}
use Rattle.cpc_convert_routines.specs.Names.{piece_name, variable_name, pointer_name, frame_name, next_name, value_name, to_name, under_name, result_name}
use Rattle.cpc_convert_routines.specs.Routines.{Routine, routine_of, closure_of, is_plain, variable_of, variable_or, stood_variable, local_of, locals_of, variable_if, is_parameter, chosen}
use Rattle.cpc_convert_routines.specs.Arriving.{arriving_type}
use Rattle.cpc_convert_routines.specs.Nodes.{rows_nodes}
use Rattle.cpc_chains_event.specs.Rows.{stubs_of, piece_statements}
use Rattle.cpc_chains_event.specs.Pieces.{load_of, below_if, value_load, loaded, loads_of, is_wait, is_entry, called_so, words_if, words_of, begun, declares_of, boxing_of, piece_function}
use Rattle.cpc_convert_routines.specs.Taken.{takes_value, any_node, is_result}
use Rattle.cpc_chains_event.specs.FlatLaws.{piece_scope, piece_count}
use Rattle.cpc_convert_routines.specs.Named.{IsNamed, IsCps}
use Rattle.cpc_chains_event.specs.LocalLaws.{piece_locals, StandsIn, AllLocalsAreMeant}
use Rattle.cpc_chains_event.proofs.Fields.{variables_apart, word_apart, local_scalar, plain_scalar}
use Rattle.cpc_chains_event.proofs.Lines.{AreLines, bare_lines, piece_lines}
use Rattle.cpc_chains_event.proofs.Flat.{boxes_done}
use Rattle.cpc_chains_event.proofs.StructsThere.{arriving_scalar}
use Rattle.cpc_convert_routines.proofs.Numbers.{not_in_append, once_append, chosen_is, chosen_has, chosen_out, once_chosen, AllBelow, NoneBelow, OneBelow, below_append, below_chosen, Rises, NoneRise, OneRise, rises_lower, rises_below, rises_once}

-- ---- names apart

-- none of these is called so
abbrev pub NoneCalled : Text → List Variable → Type 0
NoneCalled y [] = Unit {0}
NoneCalled y (v ∷ vs) = (bytes_eq v.called y ≡ false) × NoneCalled y vs

-- no two are called alike
abbrev pub Apart : List Variable → Type 0
Apart [] = Unit {0}
Apart (v ∷ vs) = NoneCalled v.called vs × Apart vs

pub none_append : (y : Text) (xs ys : List Variable) → NoneCalled y xs → NoneCalled y ys → NoneCalled y (xs ++ ys)
none_append y [] ys h g = g
none_append y (x ∷ xs) ys h g = (h.0, none_append y xs ys h.1 g)

none_if : (y : Text) (b : Bool) (x : Variable) (rest : List Variable) → bytes_eq x.called y ≡ false → NoneCalled y rest → NoneCalled y (variable_if b x rest)
none_if y true x rest e h = (e, h)
none_if y false x rest e h = h

apart_if : (b : Bool) (x : Variable) (rest : List Variable) → NoneCalled x.called rest → Apart rest → Apart (variable_if b x rest)
apart_if true x rest h g = (h, g)
apart_if false x rest h g = g

-- ---- scopes

pub passes : (q : Program) (y : Text) (scope : Scope) (n : ℕ) (vs : List Variable) → NoneCalled y vs → named q (declared_scope scope n vs) y ≡ named q scope y
passes q y scope n [] h = refl
passes q y scope n (v ∷ vs) h = passes q y (record { called = v.called; type = v.type; slot = n } ∷ scope) (suc n) vs h.1 ∙ ap (λ b. cond b (ALocal n v.type) (named q scope y)) h.0

-- each variable is found by its name
found_there : (q : Program) (scope : Scope) (n : ℕ) (vs : List Variable) (i : ℕ) (x : Variable) → Apart vs → slice_get vs i ≡ Some x → named q (declared_scope scope n vs) x.called ≡ ALocal (n + i) x.type
found_there q scope n [] i x h e = absurd (cc)
found_there q scope n (v ∷ vs) zero x h e =
    let same : v ≡ x = cc in
    subst (λ u. named q (declared_scope scope n (v ∷ vs)) u.called ≡ ALocal (n + 0) u.type) same
    (passes q v.called (record { called = v.called; type = v.type; slot = n } ∷ scope) (suc n) vs h.0
    ∙ (ap (λ b. cond b (ALocal n v.type) (named q scope v.called)) (text_same v.called) ∙ ap (λ m. ALocal m v.type) (let z : n ≡ n + 0 = omega arith in z)))
found_there q scope n (v ∷ vs) (suc i) x h e =
    found_there q (record { called = v.called; type = v.type; slot = n } ∷ scope) (suc n) vs i x h.1 e ∙ ap (λ m. ALocal m x.type) (let z : suc n + i ≡ n + suc i = omega arith in z)

-- a load, as a variable
abbrev loaded_variable : Load → Variable
loaded_variable l = record { called = l.variable; type = l.type }

loads_declared : (scope : Scope) (n : ℕ) (ls : List Load) → loaded_scope scope n ls ≡ declared_scope scope n (map loaded_variable ls)
loads_declared scope n [] = refl
loads_declared scope n (l ∷ ls) = loads_declared (record { called = l.variable; type = l.type; slot = n } ∷ scope) (suc n) ls

declared_append : (scope : Scope) (n m : ℕ) (xs ys : List Variable) → m ≡ n + length xs → declared_scope (declared_scope scope n xs) m ys ≡ declared_scope scope n (xs ++ ys)
declared_append scope n m [] ys e = ap (λ k. declared_scope scope k ys) (let z : m ≡ n = omega (arith, e) in z)
declared_append scope n m (x ∷ xs) ys e = declared_append (record { called = x.called; type = x.type; slot = n } ∷ scope) (suc n) m xs ys (let z : m ≡ suc n + length xs = omega (arith, e) in z)

map_length : (ls : List Load) → length (map loaded_variable ls) ≡ length ls
map_length [] = refl
map_length (l ∷ ls) = ap suc (map_length ls)

-- ---- the variables of a flat body

append_assoc : (xs ys zs : List Variable) → (xs ++ ys) ++ zs ≡ xs ++ (ys ++ zs)
append_assoc [] ys zs = refl
append_assoc (x ∷ xs) ys zs = ap (λ us. x ∷ us) (append_assoc xs ys zs)

length_append : (xs ys : List Variable) → length (xs ++ ys) ≡ length xs + length ys
length_append [] ys = let z : length ys ≡ 0 + length ys = omega arith in z
length_append (x ∷ xs) ys = let h = length_append xs ys in let z : suc (length (xs ++ ys)) ≡ suc (length xs) + length ys = omega (arith, h) in z

lines_locals : (ss : List Stmt) (rest : Stmts) → AreLines ss → locals_in (before ss rest) ≡ locals_in rest
lines_locals [] rest h = refl
lines_locals (s ∷ ss) rest h = ap (λ vs. vs ++ locals_in (before ss rest)) (line_one s h.0).declares ∙ lines_locals ss rest h.1

loads_locals : (e : Text) (ls : List Load) (rest : Stmts) → locals_in (before (map (loads_one e) ls) rest) ≡ map loaded_variable ls ++ locals_in rest
loads_locals e [] rest = refl
loads_locals e (l ∷ ls) rest = ap (λ vs. loaded_variable l ∷ vs) (loads_locals e ls rest)

declares_locals : (ds : List Variable) (rest : Stmts) → locals_in (before (map declares_one ds) rest) ≡ ds ++ locals_in rest
declares_locals [] rest = refl
declares_locals (d ∷ ds) rest = ap (λ vs. d ∷ vs) (declares_locals ds rest)

-- ---- positions

in_front : (x : Variable) (xs ys : List Variable) → StandsIn x xs → StandsIn x (xs ++ ys)
in_front x xs ys h = (h.0, go xs h.0 h.1)
  where
    go : (xs : List Variable) (i : ℕ) → slice_get xs i ≡ Some x → slice_get (xs ++ ys) i ≡ Some x
    go [] i e = absurd (cc)
    go (z ∷ xs) zero e = e
    go (z ∷ xs) (suc i) e = go xs i e

pub in_back : (x : Variable) (xs ys : List Variable) → StandsIn x ys → StandsIn x (xs ++ ys)
in_back x [] ys h = h
in_back x (z ∷ xs) ys h = let i = in_back x xs ys h in (suc i.0, i.1)

in_if : (x : Variable) (b : Bool) (y : Variable) (rest : List Variable) → StandsIn x rest → StandsIn x (variable_if b y rest)
in_if x true y rest h = (suc h.0, h.1)
in_if x false y rest h = h

pub in_locals : (r : Routine) (k : ℕ) (ks : List ℕ) → holds_number ks k ≡ true → StandsIn (local_of r k) (locals_of r ks)
in_locals r k [] h = absurd (cc)
in_locals r k (j ∷ ks) h = go (j == k) refl h (λ i. in_locals r k ks i)
  where
    go : (b : Bool) → (j == k) ≡ b → (b || holds_number ks k) ≡ true → (holds_number ks k ≡ true → StandsIn (local_of r k) (locals_of r ks)) → StandsIn (local_of r k) (local_of r j ∷ locals_of r ks)
    go true e i deeper = (0, ap (λ m. Some (local_of r m)) (eq_means j k e))
    go false e i deeper = let d = deeper i in (suc d.0, d.1)

-- ---- numbers of variables

closure_rises : (ways uses : List Link) (l k n : ℕ) → Rises (k + n) k (closure_from ways uses l k n)
closure_rises ways uses l k zero = NoneRise k
closure_rises ways uses l k (suc n) = go (holds_number (keepers ways uses k) l) (subst (λ m. Rises m (suc k) (closure_from ways uses l (suc k) n)) (let z : suc k + n ≡ k + suc n = omega arith in z) (closure_rises ways uses l (suc k) n))
  where
    go : (b : Bool) → Rises (k + suc n) (suc k) (closure_from ways uses l (suc k) n) → Rises (k + suc n) k (cond b (k ∷ closure_from ways uses l (suc k) n) (closure_from ways uses l (suc k) n))
    go true r = OneRise k k _ (omega arith) (omega arith) r
    go false r = rises_lower (k + suc n) k (suc k) _ (omega arith) r

pub boxes_rise : (p : Program) (f : Text) (k n : ℕ) → Rises (k + n) k (boxes_from p f k n)
boxes_rise p f k zero = NoneRise k
boxes_rise p f k (suc n) = go (is_box p f k) (subst (λ m. Rises m (suc k) (boxes_from p f (suc k) n)) (let z : suc k + n ≡ k + suc n = omega arith in z) (boxes_rise p f (suc k) n))
  where
    go : (b : Bool) → Rises (k + suc n) (suc k) (boxes_from p f (suc k) n) → Rises (k + suc n) k (cond b (k ∷ boxes_from p f (suc k) n) (boxes_from p f (suc k) n))
    go true r = OneRise k k _ (omega arith) (omega arith) r
    go false r = rises_lower (k + suc n) k (suc k) _ (omega arith) r

-- ---- rows of variables

abbrev AllNone : List Variable → List Variable → Type 0
AllNone [] ys = Unit {0}
AllNone (x ∷ xs) ys = NoneCalled x.called ys × AllNone xs ys

apart_append : (xs ys : List Variable) → Apart xs → Apart ys → AllNone xs ys → Apart (xs ++ ys)
apart_append [] ys h g i = g
apart_append (x ∷ xs) ys h g i = (none_append x.called xs ys h.0 i.0, apart_append xs ys h.1 g i.1)

all_none_if : (b : Bool) (x : Variable) (rest ys : List Variable) → NoneCalled x.called ys → AllNone rest ys → AllNone (variable_if b x rest) ys
all_none_if true x rest ys h g = (h, g)
all_none_if false x rest ys h g = g

once_parts : (xs ys : List ℕ) → Once (xs ++ ys) → Once xs × Once ys
once_parts [] ys o = (NoNumber, o)
once_parts (x ∷ xs) ys (AndOther _ _ e o) = let h = once_parts xs ys o in (AndOther x xs (or_neither (holds_number xs x) (holds_number ys x) (sym (holds_both xs ys x) ∙ e)).0 h.0, h.1)

below_more : (low high : ℕ) (ns : List ℕ) → low ≤ high → AllBelow low ns → AllBelow high ns
below_more low high _ h NoneBelow = NoneBelow
below_more low high _ h (OneBelow n ns b more) = OneBelow n ns (omega arith) (below_more low high ns h more)

scalars_append : (xs ys : List Variable) → Scalars xs → Scalars ys → Scalars (xs ++ ys)
scalars_append _ ys NoScalars h = h
scalars_append _ ys (AndScalar x xs e more) h = AndScalar x (xs ++ ys) e (scalars_append xs ys more h)

scalars_if : (b : Bool) (x : Variable) (rest : List Variable) → (b ≡ true → is_scalar x.type ≡ true) → Scalars rest → Scalars (variable_if b x rest)
scalars_if true x rest h g = AndScalar x rest (h refl) g
scalars_if false x rest h g = g

-- what points to the frame below
pub below_scalar : (f : Text) (b : Bool) → is_scalar (below_if b f) ≡ true
below_scalar f true = refl
below_scalar f false = refl

-- ---- words

module _ (a b c : Bool) (t : Ty) where
  words_apart : Apart (words_if a b c t)
  words_apart =
      apart_if a _ _ (none_if _ b _ _ refl (none_if _ c _ [] refl tt))
      (apart_if b _ _ (none_if _ c _ [] refl tt) (apart_if c _ [] tt tt))

  words_none : (y : Text) → bytes_eq to_name y ≡ false → bytes_eq under_name y ≡ false → bytes_eq result_name y ≡ false → NoneCalled y (words_if a b c t)
  words_none y d e f = none_if y a _ _ d (none_if y b _ _ e (none_if y c _ [] f tt))

  words_scalar : (c ≡ true → is_scalar t ≡ true) → Scalars (words_if a b c t)
  words_scalar h = scalars_if a _ _ (λ e. refl) (scalars_if b _ _ (λ e. refl) (scalars_if c _ [] h NoScalars))

module _ (p : Program) (ok : IsNamed p) (f : Function) (c : IsCps p f) where
  abbrev r : Routine
  r = routine_of p f

  abbrev count : ℕ
  count = length (variables f)

  unmarked_name : (k : ℕ) → has_marks (variable_of r k).called ≡ false
  unmarked_name k = go (slice_get (variables f) k) refl
    where
      go : (o : Option Variable) → slice_get (variables f) k ≡ o → has_marks (variable_or o).called ≡ false
      go None e = refl
      go (Some x) e = ok.unmarked_variables f c.has k x e

  small : (k : ℕ) → k < count → k < 2 ^ 63
  small k h = let few = ok.few f c.has in omega (arith, few, h)

  -- ---- names of locals

  none_var : (k : ℕ) (ks : List ℕ) → k < count → AllBelow count ks → holds_number ks k ≡ false → NoneCalled (local_of r k).called (locals_of r ks)
  none_var k _ h NoneBelow e = tt
  none_var k _ h (OneBelow j js b more) e =
      let d = or_neither (j == k) (holds_number js k) e in
      (variables_apart j k (variable_of r j).called (variable_of r k).called (small j b) (small k h) (unmarked_name j) (unmarked_name k) (λ (i : j ≡ k). let z : true ≡ false = sym (eq_reflexive k) ∙ (ap (λ m. m == k) (sym i) ∙ d.0) in absurd (cc)), none_var k js h more d.1)

  pub none_word : (w : Text) (ks : List ℕ) → has_marks w ≡ false → AllBelow count ks → NoneCalled (marked w []) (locals_of r ks)
  none_word w _ m NoneBelow = tt
  none_word w _ m (OneBelow j js b more) =
      (bytes_eq_fails_back (marked w []) (variable_name j (variable_of r j).called) (word_apart w j (variable_of r j).called m (unmarked_name j) (small j b)), none_word w js m more)

  apart_vars : (ks : List ℕ) → Once ks → AllBelow count ks → Apart (locals_of r ks)
  apart_vars _ NoNumber b = tt
  apart_vars _ (AndOther k ks e o) (OneBelow _ _ h b) = (none_var k ks h b e, apart_vars ks o b)

  pub locals_scalar : (ks : List ℕ) → AllBelow count ks → Scalars (locals_of r ks)
  locals_scalar _ NoneBelow = NoScalars
  locals_scalar _ (OneBelow k ks h b) = AndScalar _ _ (one k h) (locals_scalar ks b)
    where
      nothing : Variable
      nothing = record { called = []; type = TyInt Int }

      one : (k : ℕ) → k < count → is_scalar (local_of r k).type ≡ true
      one k h =
          let e = slice_get-get_or (variables f) k nothing h in
          subst (λ o. is_scalar (stood_variable r k (variable_or o)).type ≡ true) (sym e) (local_scalar (is_plain r k) _ _ (plain_scalar p ok f c k (get_or (variables f) k nothing) e))

  module _ (x y z : Bool) (t : Ty) where
    abbrev words : List Variable
    words = words_if x y z t

    words_then : (js : List ℕ) → Once js → AllBelow count js → Apart (words ++ locals_of r js)
    words_then js o b =
        apart_append words (locals_of r js) (words_apart x y z t) (apart_vars js o b)
        (all_none_if x _ _ (locals_of r js) (none_word (codes "to") js refl b) (all_none_if y _ _ (locals_of r js) (none_word (codes "under") js refl b) (all_none_if z _ [] (locals_of r js) (none_word (codes "result") js refl b) tt)))

    var_then : (k : ℕ) (js : List ℕ) → k < count → AllBelow count js → holds_number js k ≡ false → NoneCalled (local_of r k).called (words ++ locals_of r js)
    var_then k js h b e =
        none_append (local_of r k).called words (locals_of r js)
        (words_none x y z t (local_of r k).called (word_apart (codes "to") k (variable_of r k).called refl (unmarked_name k) (small k h)) (word_apart (codes "under") k (variable_of r k).called refl (unmarked_name k) (small k h)) (word_apart (codes "result") k (variable_of r k).called refl (unmarked_name k) (small k h)))
        (none_var k js h b e)

    vars_then : (ks js : List ℕ) → Once (ks ++ js) → AllBelow count ks → AllBelow count js → AllNone (locals_of r ks) (words ++ locals_of r js)
    vars_then _ js o NoneBelow b = tt
    vars_then _ js (AndOther _ _ e o) (OneBelow k ks h more) b = (var_then k js h b (or_neither (holds_number ks k) (holds_number js k) (sym (holds_both ks js k) ∙ e)).1, vars_then ks js o more b)

    -- variables, words and variables
    tail_apart : (ks js : List ℕ) → Once (ks ++ js) → AllBelow count ks → AllBelow count js → Apart (locals_of r ks ++ (words ++ locals_of r js))
    tail_apart ks js o b d =
        let h = once_parts ks js o in
        apart_append (locals_of r ks) (words ++ locals_of r js) (apart_vars ks h.0 b) (words_then js h.1 d) (vars_then ks js o b d)

    -- and no other word among them
    tail_none : (w : Text) (ks js : List ℕ) → has_marks w ≡ false → bytes_eq to_name (marked w []) ≡ false → bytes_eq under_name (marked w []) ≡ false → bytes_eq result_name (marked w []) ≡ false → AllBelow count ks → AllBelow count js
        → NoneCalled (marked w []) (locals_of r ks ++ (words ++ locals_of r js))
    tail_none w ks js m d e i b g =
        none_append (marked w []) (locals_of r ks) (words ++ locals_of r js) (none_word w ks m b)
        (none_append (marked w []) words (locals_of r js) (words_none x y z t (marked w []) d e i) (none_word w js m g))

    -- all variables of a piece
    all_apart : (v : Bool) (u s n : Ty) (ks js : List ℕ) → Once (ks ++ js) → AllBelow count ks → AllBelow count js
        → Apart (called_so pointer_name any_pointer ∷ called_so frame_name s ∷ called_so next_name n ∷ variable_if v (called_so value_name u) (locals_of r ks ++ (words ++ locals_of r js)))
    all_apart v u s n ks js o b d = (
      (refl, (refl, none_if _ v _ _ refl (tail_none (codes "k") ks js refl refl refl refl b d))),
      (
        (refl, none_if _ v _ _ refl (tail_none (codes "e") ks js refl refl refl refl b d)),
        (none_if _ v _ _ refl (tail_none (codes "next") ks js refl refl refl refl b d), apart_if v _ _ (tail_none (codes "value") ks js refl refl refl refl b d) (tail_apart ks js o b d)),
      ),
    )

  -- ---- the numbers of a piece's variables

  pub closure_rise : (l : Place) → Rises count 0 (closure_of r l)
  closure_rise l = subst (λ n. Rises n 0 (closure_of r l)) (let z : 0 + count ≡ count = omega arith in z) (closure_rises _ _ _ 0 count)

  pub counted : variable_count p f.called ≡ count
  counted = ap variables_in (ok.found f c.has)

  boxes_all : Rises count 0 r.boxes
  boxes_all = subst (λ n. Rises n 0 r.boxes) (let z : 0 + variable_count p f.called ≡ variable_count p f.called = omega arith in z ∙ counted) (boxes_rise p f.called 0 (variable_count p f.called))

  abbrev passes_in : ℕ → Bool
  passes_in k = is_parameter f k && is_plain r k

  abbrev begins_in : ℕ → Bool
  begins_in k = not (is_parameter f k) && is_plain r k

  plain_unboxed : (b : Bool) (k : ℕ) → (b && is_plain r k) ≡ true → holds_number r.boxes k ≡ false
  plain_unboxed b k e = not_holds (holds_number r.boxes k) (and_second b (is_plain r k) e)

  once_all : (l : Place) → Once (loaded r l ++ begun r l)
  once_all Start =
      let ks = closure_of r Start in
      let o = rises_once count 0 ks (closure_rise Start) in
      once_append (chosen passes_in ks) (chosen begins_in ks ++ r.boxes) (once_chosen passes_in ks o)
      (once_append (chosen begins_in ks) r.boxes (once_chosen begins_in ks o) (rises_once count 0 r.boxes boxes_all) (λ n h. plain_unboxed (not (is_parameter f n)) n (chosen_is begins_in ks n h).1))
      (λ n h. let t = (chosen_is passes_in ks n h).1 in not_in_append (chosen begins_in ks) r.boxes n (chosen_out begins_in ks n (ap (λ b. not b && is_plain r n) (and_first (is_parameter f n) (is_plain r n) t))) (plain_unboxed (is_parameter f n) n t))
  once_all (At n) = once_append (closure_of r (At n)) [] (rises_once count 0 _ (closure_rise (At n))) NoNumber (λ m h. refl)

  pub loaded_below : (l : Place) → AllBelow count (loaded r l)
  loaded_below Start = below_chosen count passes_in _ (rises_below count 0 _ (closure_rise Start))
  loaded_below (At n) = rises_below count 0 _ (closure_rise (At n))

  begun_below : (l : Place) → AllBelow count (begun r l)
  begun_below Start = below_append count _ _ (below_chosen count begins_in _ (rises_below count 0 _ (closure_rise Start))) (rises_below count 0 _ boxes_all)
  begun_below (At n) = NoneBelow

  module _ (l : Place) where
    abbrev rest : List Variable
    rest = locals_of r (loaded r l) ++ (words_of p r l ++ locals_of r (begun r l))

    abbrev makes : Bool
    makes = not (is_empty (stubs_of r l)) || any_node r (λ node. is_wait node.manner node.stood) (rows_nodes r.split l)

    abbrev calls : Bool
    calls = any_node r (λ node. is_entry p node.stood) (rows_nodes r.split l)

    abbrev gives : Bool
    gives = any_node r (λ node. is_result node.stood) (rows_nodes r.split l)

    piece_apart : Apart (piece_locals p r l)
    piece_apart = all_apart makes calls gives f.result (takes_value r l) (arriving_type p r l) (TyPointer (TyStruct (piece_name f.called l))) (below_if (is_scalar f.result) f.called) (loaded r l) (begun r l) (once_all l) (loaded_below l) (begun_below l)

    -- ---- their order

    same_locals : (xs : List Variable) → map loaded_variable (map load_of xs) ≡ xs
    same_locals [] = refl
    same_locals (x ∷ xs) = ap (λ us. x ∷ us) (same_locals xs)

    loads_are : (xs more : List Variable) → map loaded_variable (value_load p r l ++ map load_of xs) ++ more ≡ variable_if (takes_value r l) (called_so value_name (arriving_type p r l)) (xs ++ more)
    loads_are xs more = go (takes_value r l)
      where
        go : (b : Bool) → map loaded_variable (cond b (record { variable = value_name; type = arriving_type p r l; field = value_field } ∷ []) [] ++ map load_of xs) ++ more ≡ variable_if b (called_so value_name (arriving_type p r l)) (xs ++ more)
        go true = ap (λ us. called_so value_name (arriving_type p r l) ∷ (us ++ more)) (same_locals xs)
        go false = ap (λ us. us ++ more) (same_locals xs)

    -- what a piece loads and declares
    abbrev opened : List Variable
    opened = map loaded_variable (loads_of p r l) ++ declares_of p r l

    locals_are : called_so pointer_name any_pointer ∷ called_so frame_name (TyPointer (TyStruct (piece_name f.called l))) ∷ opened ≡ piece_locals p r l
    locals_are = ap (λ us. called_so pointer_name any_pointer ∷ called_so frame_name (TyPointer (TyStruct (piece_name f.called l))) ∷ called_so next_name (below_if (is_scalar f.result) f.called) ∷ us) (loads_are (locals_of r (loaded r l)) (declares_of p r l))

    no_locals : locals_in (before (boxing_of r l) (AndStmt (frees_frame pointer_name) (before (piece_statements p r l) NoStmt))) ≡ []
    no_locals = lines_locals (boxing_of r l) _ (bare_lines (boxing_of r l) (boxes_done r l)) ∙ lines_locals (piece_statements p r l) NoStmt (piece_lines p r l)

    listed : variables (piece_function p r l) ≡ piece_locals p r l
    listed =
        ap (λ us. called_so pointer_name any_pointer ∷ called_so frame_name (TyPointer (TyStruct (piece_name f.called l))) ∷ us)
        (loads_locals frame_name (loads_of p r l) _ ∙ ap (λ us. map loaded_variable (loads_of p r l) ++ us) (declares_locals (declares_of p r l) _ ∙ (ap (λ us. declares_of p r l ++ us) no_locals ∙ append_empty (declares_of p r l))))
        ∙ locals_are

    scope_is : piece_scope p r l ≡ declared_scope [] 0 (piece_locals p r l)
    scope_is =
        ap (λ s. declared_scope s (2 + length (loads_of p r l)) (declares_of p r l)) (loads_declared _ 2 (loads_of p r l))
        ∙ (declared_append _ 2 (2 + length (loads_of p r l)) (map loaded_variable (loads_of p r l)) (declares_of p r l) (ap (λ n. 2 + n) (sym (map_length (loads_of p r l)))) ∙ ap (declared_scope [] 0) locals_are)

    pub meant : (q : Program) (i : ℕ) (x : Variable) → slice_get (piece_locals p r l) i ≡ Some x → named q (piece_scope p r l) x.called ≡ ALocal i x.type
    meant q i x e = ap (λ s. named q s x.called) scope_is ∙ (found_there q [] 0 (piece_locals p r l) i x piece_apart e ∙ ap (λ m. ALocal m x.type) (let z : 0 + i ≡ i = omega arith in z))

    -- ---- where they stand

    from_rest : (x : Variable) → StandsIn x rest → StandsIn x (piece_locals p r l)
    from_rest x h = let i = in_if x (takes_value r l) (called_so value_name (arriving_type p r l)) rest h in (suc (suc (suc i.0)), i.1)

    from_loaded : (k : ℕ) → holds_number (loaded r l) k ≡ true → StandsIn (local_of r k) (piece_locals p r l)
    from_loaded k h = from_rest (local_of r k) (in_front (local_of r k) (locals_of r (loaded r l)) _ (in_locals r k (loaded r l) h))

    from_begun : (k : ℕ) → holds_number (begun r l) k ≡ true → StandsIn (local_of r k) (piece_locals p r l)
    from_begun k h = from_rest (local_of r k) (in_back (local_of r k) (locals_of r (loaded r l)) _ (in_back (local_of r k) (words_of p r l) _ (in_locals r k (begun r l) h)))

    from_words : (x : Variable) → StandsIn x (words_of p r l) → StandsIn x (piece_locals p r l)
    from_words x h = from_rest x (in_back x (locals_of r (loaded r l)) _ (in_front x (words_of p r l) _ h))

    -- each is one of so many
    pub locals_count : (i : ℕ) (x : Variable) → slice_get (piece_locals p r l) i ≡ Some x → i < piece_count p r l
    locals_count i x e =
        let within = slice_get_within (piece_locals p r l) i x e in
        let a = ap length locals_are in
        let b = length_append (map loaded_variable (loads_of p r l)) (declares_of p r l) in
        let d = map_length (loads_of p r l) in
        omega (arith, within, a, b, d)

    all_scalar : (gives ≡ true → is_scalar f.result ≡ true) → Scalars (piece_locals p r l)
    all_scalar h =
        AndScalar _ _ refl (AndScalar _ _ refl (AndScalar _ _ (below_scalar f.called (is_scalar f.result))
        (scalars_if (takes_value r l) _ rest (λ e. arriving_scalar p r l)
        (scalars_append (locals_of r (loaded r l)) _ (locals_scalar (loaded r l) (loaded_below l)) (scalars_append (words_of p r l) _ (words_scalar makes calls gives f.result h) (locals_scalar (begun r l) (begun_below l)))))))

  held_right : (xs ys : List ℕ) (k : ℕ) → holds_number ys k ≡ true → holds_number (xs ++ ys) k ≡ true
  held_right xs ys k h = holds_both xs ys k ∙ or_by_second (holds_number xs k) (holds_number ys k) h

  held_left : (xs ys : List ℕ) (k : ℕ) → holds_number xs k ≡ true → holds_number (xs ++ ys) k ≡ true
  held_left xs ys k h = holds_both xs ys k ∙ ap (λ b. b || holds_number ys k) h

  -- what is kept stands there
  kept_there : (l : Place) (k : ℕ) → holds_number (closure_of r l) k ≡ true → StandsIn (local_of r k) (piece_locals p r l)
  kept_there (At n) k h = from_loaded (At n) k h
  kept_there Start k h = go (holds_number r.boxes k) refl (is_parameter f k) refl
    where
      ks : List ℕ
      ks = closure_of r Start

      go : (b : Bool) → holds_number r.boxes k ≡ b → (d : Bool) → is_parameter f k ≡ d → StandsIn (local_of r k) (piece_locals p r Start)
      go true e d i = from_begun Start k (held_right (chosen begins_in ks) r.boxes k e)
      go false e true i = from_loaded Start k (chosen_has passes_in ks k h (ap (λ b. b && is_plain r k) i ∙ ap not e))
      go false e false i = from_begun Start k (held_left (chosen begins_in ks) r.boxes k (chosen_has begins_in ks k h (ap (λ b. not b && is_plain r k) i ∙ ap not e)))

module _ (p : Program) (ok : IsNamed p) (f : Function) (c : IsCps p f) where
  -- where a box stands at the start, behind the frame below
  pub box_stands : (k : ℕ) → holds_number (routine_of p f).boxes k ≡ true → StandsIn (local_of (routine_of p f) k) (variable_if (takes_value (routine_of p f) Start) (called_so value_name (arriving_type p (routine_of p f) Start)) (rest p ok f c Start))
  box_stands k h =
      let x = local_of (routine_of p f) k in
      in_if x (takes_value (routine_of p f) Start) (called_so value_name (arriving_type p (routine_of p f) Start)) (rest p ok f c Start)
      (in_back x (locals_of (routine_of p f) (loaded (routine_of p f) Start)) _ (in_back x (words_of p (routine_of p f) Start) _
      (in_locals (routine_of p f) k (begun (routine_of p f) Start) (held_right p ok f c (chosen (begins_in p ok f c) (closure_of (routine_of p f) Start)) (routine_of p f).boxes k h))))

pub locals_meant : AllLocalsAreMeant
locals_meant p ok f c = record {
  pieces = λ l o. record { listed = listed p ok f c l; scalar = all_scalar p ok f c l; meant = meant p ok f c l; kept = kept_there p ok f c l; words = from_words p ok f c l };
  boxes = λ k h. from_begun p ok f c Start k (held_right p ok f c (chosen (begins_in p ok f c) (closure_of (routine_of p f) Start)) (routine_of p f).boxes k h);
}
