-- The opening of a piece breaks no rule: its frame, what it loads, what it declares, its boxes, and the frame given back.
use Rattle.std.proofs.Common.{◌≡◌, ℕ, zero, suc, ◌+◌, ◌<◌, ◌≤◌, ◌^◌, Bool, true, false, not, ◌&&◌, ◌==◌, ◌||◌, cond, List, [], ◌∷◌, ◌++◌, map, length, slice_get, nat_le, bytes_eq, Option, Some, None, refl, sym, ◌∙◌, ap, subst, arith}
use Rattle.std.proofs.lemmas.Bool.Decides.{nat_tests}
use Rattle.cpc_base.specs.Bytes.{Text}
use Rattle.cpc_base.proofs.Truth.{eq_reflexive, lt_means, or_by_second, and_both}
use Rattle.cpc_num.specs.declared.kinds.Kind.TheVariants.{Int}
use Rattle.cpc_tree.specs.Lists.{holds_number}
use Rattle.cpc_tree.specs.Points.{locals}
use Rattle.cpc_tree.specs.Registers.{variables, as_variable}
use Rattle.cpc_tree.specs.Syntax.{Ty, TyInt, TyPointer, TyStruct, ENamed, Declare, Variable, Parameter, Function, Program}
use Rattle.cpc_tree.specs.Typing as T
use Rattle.cpc_tree.specs.Typing.{ALocal, named, is_scalar, size, field, ◌>>=◌}
use Rattle.cpc_check_rules.specs.Scopes as S
use Rattle.cpc_check_rules.specs.Scopes.{meant, measured, cell_limit, has_cells, in_block}
use Rattle.cpc_check_rules.specs.Operators.{Where}
use Rattle.cpc_check_rules.specs.StmtRules.{stmt_breaks}
use Rattle.cpc_check_laws.proofs.Native.OnePlace.{stmt_here}
use Rattle.cpc_chains_laws.specs.Complete.Flat.{Runs, NoRow, AndLine, NoneOf, NoText, AndOther, Distinct, NoneDistinct, AndDistinct, names_of, loaded, Loadable, NoLoad, AndLoad, AllHaveCells, NoCells, AndCells, Fresh}
use Rattle.cpc_chains_laws.proofs.Complete.Flat.{opens_run, fresh_in, runs_both, none_apart}
use Rattle.cpc_chains_laws.proofs.Complete.Frames.{boxes_fine, fills_fine, frees_fine}
use Rattle.cpc_lifted_laws.proofs.Complete.Makers.{takes_itself}
use Rattle.cpc_meaning.proofs.Functions.{texts_differ, scalar_size}
use Rattle.cpc_convert_image_laws.specs.Locals.{local_type}
use Rattle.cpc_convert_image_laws.specs.Relations.{Less, AsIs, Untold}
use Rattle.cpc_forms.specs.Flow.{Place, Start, At}
use Rattle.cpc_lift_laws.specs.Boxes.{is_box, has_block, is_box_in}
use Rattle.cpc_lift_laws.proofs.Lift.{boxes_exact}
use Rattle.cpc_chains_store_laws.specs.Driver.{next_field, value_field, any_pointer, head_fields}
use Rattle.cpc_convert_flat_laws.specs.Locals.{Load, loads_one, declares_one, Scalars, NoScalars, AndScalar}
use Rattle.cpc_chains_store_laws.specs.Frames.{frees_frame}
use Rattle.cpc_convert_flat_laws.specs.Structs.{IsStruct}
use Rattle.cpc_chains_event.specs.Converted.{converted}
use Rattle.cpc_chains_event.specs.FlatLaws.{piece_scope}
use Rattle.cpc_convert_routines.specs.Arriving.{arriving_type}
use Rattle.cpc_chains_event.specs.LocalLaws.{piece_locals, StandsIn}
use Rattle.cpc_convert_routines.specs.Named.{IsOwner, TheStart, ALeader}
use Rattle.cpc_convert_routines.specs.Names.{piece_name, box_tag, variable_name, pointer_name, frame_name, next_name, value_name}
use Rattle.cpc_chains_event.specs.Pieces.{load_of, below_if, next_load, value_load, loads_of, called_so, words_of, begun, declares_of, fills_if, box_lines, boxing_lines, boxing_of}
use Rattle.cpc_convert_routines.specs.Taken.{takes_value}
use Rattle.cpc_chains_event.specs.Pieces as P
use Rattle.cpc_convert_routines.specs.Routines.{Routine, routine_of, closure_of, is_plain, variable_of, variable_or, stood_variable, local_of, locals_of, variable_if, passed_from, passed, is_parameter}
use Rattle.cpc_chains_event.specs.StructLaws.{IsBox}
use Rattle.cpc_chains_event.proofs.BoxesThere.{structs_there}
use Rattle.cpc_chains_event.proofs.Fields.{frame_fields, passed_rise, kept_rises, plain_scalar}
use Rattle.cpc_chains_event.proofs.Locals.{locals_meant, in_locals, below_scalar}
use Rattle.cpc_convert_routines.proofs.Numbers.{chosen_is}
use Rattle.cpc_chains_event.proofs.StructsThere.{arriving_scalar}
use Rattle.cpc_chains_event.proofs.Boxing.{held_has}
use Rattle.cpc_lifted_laws.specs.Accepted.Pieces.{VariablesHaveCells}
use Rattle.cpc_lifted_laws.specs.Piece.Known.{CpsKnown}
use Rattle.cpc_chains_laws.proofs.Piece.Scopes as scopes
use Rattle.cpc_chains_laws.specs.Rules.Laws.{Knows}
use Rattle.cpc_chains_laws.proofs.Bodies.Spawners.{struct_there}
use Rattle.cpc_chains_laws.proofs.RowBodies.Inside.{first_blocks, begins, declared, inside, is_inside, local, free}

-- ---- names apart

not_same : (j n : ℕ) → j < n → j ≡ n + 0 → ⊥
not_same j n h e = absurd (omega (arith, h, e))

-- a variable that stands before these is called as none of them, where each is found by its name
none_from : (q : Program) (scope : T.Scope) (x : Variable) (j : ℕ) → named q scope x.called ≡ ALocal j x.type → (n : ℕ) → j < n → (ys : List Variable)
    → ((i : ℕ) (y : Variable) → slice_get ys i ≡ Some y → named q scope y.called ≡ ALocal (n + i) y.type) → NoneOf x.called (names_of ys)
none_from q scope x j a n less [] h = NoText
none_from q scope x j a n less (y ∷ ys) h =
    AndOther y.called (names_of ys)
    (texts_differ y.called x.called (λ (e : y.called ≡ x.called). let z : ALocal j x.type ≡ ALocal (n + 0) y.type = sym a ∙ (ap (named q scope) (sym e) ∙ h 0 y refl) in let i : j ≡ n + 0 = cc in not_same j n less i))
    (none_from q scope x j a (suc n) (omega (arith, less)) ys (λ i z e. h (suc i) z e ∙ ap (λ m. ALocal m z.type) (let w : n + suc i ≡ suc n + i = omega arith in w)))

distinct_from : (q : Program) (scope : T.Scope) (n : ℕ) (xs : List Variable) → ((i : ℕ) (x : Variable) → slice_get xs i ≡ Some x → named q scope x.called ≡ ALocal (n + i) x.type) → Distinct (names_of xs)
distinct_from q scope n [] h = NoneDistinct
distinct_from q scope n (x ∷ xs) h =
    let rest : (i : ℕ) (y : Variable) → slice_get xs i ≡ Some y → named q scope y.called ≡ ALocal (suc n + i) y.type = λ i y e. h (suc i) y e ∙ ap (λ m. ALocal m y.type) (let w : n + suc i ≡ suc n + i = omega arith in w) in
    AndDistinct x.called (names_of xs) (none_from q scope x (n + 0) (h 0 x refl) (suc n) (omega arith) xs rest) (distinct_from q scope (suc n) xs rest)

none_left : (x : Text) (xs ys : List Variable) → NoneOf x (names_of (xs ++ ys)) → NoneOf x (names_of xs)
none_left x [] ys h = NoText
none_left x (z ∷ xs) ys (AndOther _ _ e h) = AndOther z.called (names_of xs) e (none_left x xs ys h)

-- ---- loads

-- a load from a field of a struct
pub record LoadFine (items : Program) (tag : Text) (x : Load) : Type 0 where
  pub index : ℕ
  pub type : Ty
  pub there : field items tag x.field ≡ Some (index, type)
  pub scalar : is_scalar type ≡ true
  pub takes : S.takes_value x.type false type ≡ true
  pub own : is_scalar x.type ≡ true

abbrev pub AllLoad : Program → Text → List Load → Type 0
AllLoad items tag [] = Unit {0}
AllLoad items tag (x ∷ xs) = LoadFine items tag x × AllLoad items tag xs

load_append : (items : Program) (tag : Text) (xs ys : List Load) → AllLoad items tag xs → AllLoad items tag ys → AllLoad items tag (xs ++ ys)
load_append items tag [] ys h g = g
load_append items tag (x ∷ xs) ys h g = (h.0, load_append items tag xs ys h.1 g)

cells_of : (items : Program) (t : Ty) → is_scalar t ≡ true → has_cells (size items t) ≡ true
cells_of items t e = ap has_cells (scalar_size items t e)

loadable : (items : Program) (tag e : Text) (xs : List Load) → NoneOf e (names_of (map loaded xs)) → AllLoad items tag xs → Loadable items tag e xs
loadable items tag e [] n h = NoLoad
loadable items tag e (x ∷ xs) (AndOther _ _ i n) h = AndLoad x xs h.0.index h.0.type i h.0.there h.0.scalar h.0.takes (cells_of items x.type h.0.own) (loadable items tag e xs n h.1)

loads_named : (xs : List Variable) → map loaded (map load_of xs) ≡ xs
loads_named [] = refl
loads_named (x ∷ xs) = ap (λ zs. x ∷ zs) (loads_named xs)

cells_have : (items : Program) (xs : List Variable) → Scalars xs → AllHaveCells items xs
cells_have items _ NoScalars = NoCells
cells_have items _ (AndScalar x xs e h) = AndCells x xs (cells_of items x.type e) (cells_have items xs h)

scalars_right : (xs ys : List Variable) → Scalars (xs ++ ys) → Scalars ys
scalars_right [] ys h = h
scalars_right (x ∷ xs) ys (AndScalar _ _ e h) = scalars_right xs ys h

scalars_left : (xs ys : List Variable) → Scalars (xs ++ ys) → Scalars xs
scalars_left [] ys h = NoScalars
scalars_left (x ∷ xs) ys (AndScalar _ _ e h) = AndScalar x xs e (scalars_left xs ys h)

scalars_past : (b : Bool) (x : Variable) (xs : List Variable) → Scalars (variable_if b x xs) → Scalars xs
scalars_past true x xs (AndScalar _ _ e h) = h
scalars_past false x xs h = h

-- ---- arguments

-- a scalar parameter is passed
pub passed_has : (base count : ℕ) (xs : List Variable) (i : ℕ) (x : Variable) → i < count → slice_get xs i ≡ Some x → is_scalar x.type ≡ true → StandsIn (record { called = variable_name (base + i) x.called; type = x.type }) (passed_from base count xs)
passed_has base zero xs i x h e s = absurd (omega (arith, h))
passed_has base (suc n) [] i x h e s = absurd (cc)
passed_has base (suc n) (y ∷ ys) zero x h e s =
    let same : y ≡ x = cc in (
      0,
      ap (λ (z : Variable). slice_get (variable_if (is_scalar z.type) (record { called = variable_name base z.called; type = z.type }) (passed_from (suc base) n ys)) 0) same
          ∙ (ap (λ b. slice_get (variable_if b (record { called = variable_name base x.called; type = x.type }) (passed_from (suc base) n ys)) 0) s ∙ ap (λ m. Some (record { called = variable_name m x.called; type = x.type })) (let z : base ≡ base + 0 = omega arith in z)),
    )
passed_has base (suc n) (y ∷ ys) (suc i) x h e s =
    let d = passed_has (suc base) n ys i x (omega (arith, h)) e s in
    subst (λ m. StandsIn (record { called = variable_name m x.called; type = x.type }) (passed_from base (suc n) (y ∷ ys))) (let z : suc base + i ≡ base + suc i = omega arith in z)
    (behind (is_scalar y.type) (record { called = variable_name base y.called; type = y.type }) (passed_from (suc base) n ys) (record { called = variable_name (suc base + i) x.called; type = x.type }) d)
  where
    behind : (b : Bool) (z : Variable) (rest : List Variable) (w : Variable) → StandsIn w rest → StandsIn w (variable_if b z rest)
    behind true z rest w at = (suc at.0, at.1)
    behind false z rest w at = at

-- ---- sizes

fits : (n : ℕ) → n ≤ 2 ^ 16 → cond (nat_le n cell_limit) (Some n) None ≡ Some n
fits n h = grind (arith, nat_tests)

pub measured_is : (s : S.Scope) (t : Ty) (n : ℕ) → size s.items t ≡ Some n → n ≤ 2 ^ 16 → measured s t ≡ Some n
measured_is s t n e h = let i : measured s t ≡ cond (nat_le n cell_limit) (Some n) None = simp e refl in i ∙ fits n h

less_size : (a b : Option ℕ) (m : ℕ) → Less a b → a ≡ Some m → b ≡ Some m
less_size _ _ m (AsIs o) e = e
less_size _ _ m (Untold o) e = absurd (cc)

-- where types have the same sizes, fields stand at the same offsets
field_same : (a b : Program) → ((t : Ty) → size a t ≡ size b t) → (x : Text) (n : ℕ) (xs : List Variable) → T.field_from a n xs x ≡ T.field_from b n xs x
field_same a b h x n [] = refl
field_same a b h x n (y ∷ ys) = ap (λ o. cond (bytes_eq y.called x) (Some (n, y.type)) o) (ap (λ o. o >>= λ m. T.field_from a (n + m) ys x) (h y.type) ∙ by (size b y.type) (λ m. field_same a b h x (n + m) ys))
  where
    by : (o : Option ℕ) → ((m : ℕ) → T.field_from a (n + m) ys x ≡ T.field_from b (n + m) ys x) → (o >>= λ m. T.field_from a (n + m) ys x) ≡ (o >>= λ m. T.field_from b (n + m) ys x)
    by None g = refl
    by (Some m) g = g m

same_fields : (a b : Program) → ((t : Ty) → size a t ≡ size b t) → (x : Text) (o : Option (List Variable)) → (o >>= λ xs. T.field_from a 0 xs x) ≡ (o >>= λ xs. T.field_from b 0 xs x)
same_fields a b h x None = refl
same_fields a b h x (Some xs) = field_same a b h x 0 xs

missing : (xs : List Parameter) (ys : List Variable) (j : ℕ) → j < length xs → slice_get (map as_variable xs ++ ys) j ≡ None → ⊥
missing [] ys j h i = absurd (omega (arith, h))
missing (x ∷ xs) ys zero h i = absurd (cc)
missing (x ∷ xs) ys (suc j) h i = missing xs ys j (omega (arith, h)) i

module _ (p : Program) (f : Function) (known : CpsKnown p f) (all : Program) (k : Knows p all) where
  abbrev r : Routine
  r = routine_of p f

  -- ---- structs

  -- what the frames of an owner keep
  abbrev pub kept : Place → List Variable
  kept Start = passed f
  kept (At n) = locals_of r (closure_of r (At n))

  -- the struct of the frames of an owner
  pub struct : (l : Place) → IsOwner r l → IsStruct all (piece_name f.called l) (head_fields (arriving_type p r l) (kept l))
  struct _ TheStart =
      struct_there p all k (piece_name f.called Start) (head_fields (TyInt Int) (passed f)) (frame_fields (TyInt Int) 0 (passed f) refl (passed_rise p known.names f known.found.cps)) ((structs_there p known.names).start f known.found.cps)
  struct _ (ALeader n has) =
      struct_there p all k (piece_name f.called (At n)) (head_fields (arriving_type p r (At n)) (locals_of r (closure_of r (At n))))
      (frame_fields (arriving_type p r (At n)) 0 (locals_of r (closure_of r (At n))) (arriving_scalar p r (At n)) (kept_rises p known.names f known.found.cps (At n))) ((structs_there p known.names).leader f known.found.cps n has)

  -- ---- what is loaded

  -- a parameter that is a register, in its local, is passed
  parameter_passed : (j : ℕ) → (is_parameter f j && is_plain r j) ≡ true → StandsIn (local_of r j) (passed f)
  parameter_passed j e = go (slice_get (variables f) j) refl
    where
      parts : (is_parameter f j ≡ true) × (is_plain r j ≡ true)
      parts = and_both (is_parameter f j) (is_plain r j) e

      less : j < length f.parameters
      less = lt_means j (length f.parameters) parts.0

      go : (o : Option Variable) → slice_get (variables f) j ≡ o → StandsIn (stood_variable r j (variable_or (slice_get (variables f) j))) (passed f)
      go None i = absurd (missing f.parameters (locals f.body) j less i)
      go (Some x) i =
          let scalar = plain_scalar p known.names f known.found.cps j x i parts.1 in
          let is_local : stood_variable r j (variable_or (slice_get (variables f) j)) ≡ record { called = variable_name j x.called; type = x.type } =
          ap (λ o. stood_variable r j (variable_or o)) i ∙ ap (λ b. record { called = variable_name j x.called; type = local_type b x.type (box_tag f.called j) }) parts.1 in
          subst (λ w. StandsIn w (passed f)) (sym is_local) (subst (λ m. StandsIn (record { called = variable_name m x.called; type = x.type }) (passed f)) (let z : 0 + j ≡ j = omega arith in z) (passed_has 0 (length f.parameters) (variables f) j x less i scalar))

  -- a local that is loaded
  local_load : (l : Place) → IsOwner r l → (x : Variable) → is_scalar x.type ≡ true → StandsIn x (kept l) → LoadFine all (piece_name f.called l) (load_of x)
  local_load l o x s at = record { index = suc (suc (suc at.0)); type = x.type; there = (struct l o).field (suc (suc (suc at.0))) x at.1; scalar = s; takes = takes_itself x.type s; own = s }

  all_loaded : (l : Place) → IsOwner r l → (js : List ℕ) → Scalars (locals_of r js) → ((j : ℕ) → holds_number js j ≡ true → StandsIn (local_of r j) (kept l)) → AllLoad all (piece_name f.called l) (map load_of (locals_of r js))
  all_loaded l o [] s h = tt
  all_loaded l o (j ∷ js) (AndScalar _ _ e s) h = (local_load l o (local_of r j) e (h j (ap (λ b. b || holds_number js j) (eq_reflexive j))), all_loaded l o js s (λ i e. h i (or_by_second (j == i) (holds_number js i) e)))

  -- each number that is loaded is kept
  loaded_kept : (l : Place) (j : ℕ) → holds_number (P.loaded r l) j ≡ true → StandsIn (local_of r j) (kept l)
  loaded_kept Start j h = parameter_passed j (chosen_is (λ i. is_parameter f i && is_plain r i) (closure_of r Start) j h).1
  loaded_kept (At n) j h = in_locals r j (closure_of r (At n)) h

  module _ (l : Place) (owner : IsOwner r l) where
    abbrev sc : T.Scope
    sc = piece_scope p r l

    -- the variables of the piece are its pointer and what the opening declares
    listed : piece_locals p r l ≡ called_so pointer_name any_pointer ∷ declared p f known l owner all k
    listed = ap (λ xs. called_so pointer_name any_pointer ∷ called_so frame_name (TyPointer (TyStruct (piece_name f.called l))) ∷ called_so next_name (below_if (is_scalar f.result) f.called) ∷ xs) (go (takes_value r l))
      where
        go : (b : Bool) → variable_if b (called_so value_name (arriving_type p r l)) (locals_of r (P.loaded r l) ++ declares_of p r l)
            ≡ map loaded (cond b (record { variable = value_name; type = arriving_type p r l; field = value_field } ∷ []) [] ++ map load_of (locals_of r (P.loaded r l))) ++ declares_of p r l
        go true = ap (λ xs. called_so value_name (arriving_type p r l) ∷ (xs ++ declares_of p r l)) (sym (loads_named (locals_of r (P.loaded r l))))
        go false = ap (λ xs. xs ++ declares_of p r l) (sym (loads_named (locals_of r (P.loaded r l))))

    scalars : Scalars (piece_locals p r l)
    scalars = (scopes.meant p f known l owner).scalar (known.results l)

    tail_scalars : Scalars (locals_of r (P.loaded r l) ++ (words_of p r l ++ locals_of r (begun r l)))
    tail_scalars = go scalars
      where
        go : Scalars (piece_locals p r l) → Scalars (locals_of r (P.loaded r l) ++ (words_of p r l ++ locals_of r (begun r l)))
        go (AndScalar _ _ _ (AndScalar _ _ _ (AndScalar _ _ _ h))) = scalars_past (takes_value r l) _ _ h

    found : (i : ℕ) (x : Variable) → slice_get (called_so pointer_name any_pointer ∷ declared p f known l owner all k) i ≡ Some x → named (converted p) sc x.called ≡ ALocal i x.type
    found i x e = (scopes.meant p f known l owner).meant (converted p) i x (ap (λ xs. slice_get xs i) listed ∙ e)

    zero_plus : (i : ℕ) (t : Ty) → ALocal i t ≡ ALocal (0 + i) t
    zero_plus i t = ap (λ m. ALocal m t) (let z : i ≡ 0 + i = omega arith in z)

    all_apart : Distinct (names_of (called_so pointer_name any_pointer ∷ declared p f known l owner all k))
    all_apart = distinct_from (converted p) sc 0 (called_so pointer_name any_pointer ∷ declared p f known l owner all k) (λ i x e. found i x e ∙ zero_plus i x.type)

    -- no variable that is declared is called as another one
    fresh : Fresh (first_blocks p f known l owner all k) (declared p f known l owner all k)
    fresh = go all_apart
      where
        go : Distinct (names_of (called_so pointer_name any_pointer ∷ declared p f known l owner all k)) → Fresh (first_blocks p f known l owner all k) (declared p f known l owner all k)
        go (AndDistinct _ _ n d) = fresh_in (called_so pointer_name any_pointer ∷ []) [] (declared p f known l owner all k) d (λ x o. ap (λ b. cond b (Some any_pointer) None) (none_apart pointer_name x _ n o))

    frame_apart : NoneOf frame_name (names_of (map loaded (loads_of p r l)))
    frame_apart = go all_apart
      where
        go : Distinct (names_of (called_so pointer_name any_pointer ∷ declared p f known l owner all k)) → NoneOf frame_name (names_of (map loaded (loads_of p r l)))
        go (AndDistinct _ _ _ (AndDistinct _ _ n d)) = none_left frame_name (map loaded (loads_of p r l)) (declares_of p r l) n

    next_fine : LoadFine all (piece_name f.called l) (next_load f)
    next_fine = record { index = 1; type = any_pointer; there = (struct l owner).field 1 (called_so next_field any_pointer) refl; scalar = refl; takes = takes (is_scalar f.result); own = below_scalar f.called (is_scalar f.result) }
      where
        takes : (b : Bool) → S.takes_value (below_if b f.called) false any_pointer ≡ true
        takes true = refl
        takes false = refl

    value_fine : AllLoad all (piece_name f.called l) (value_load p r l)
    value_fine = go (takes_value r l)
      where
        one : LoadFine all (piece_name f.called l) (record { variable = value_name; type = arriving_type p r l; field = value_field })
        one = record { index = 2; type = arriving_type p r l; there = (struct l owner).field 2 (called_so value_field (arriving_type p r l)) refl; scalar = arriving_scalar p r l; takes = takes_itself (arriving_type p r l) (arriving_scalar p r l); own = arriving_scalar p r l }

        go : (b : Bool) → AllLoad all (piece_name f.called l) (cond b (record { variable = value_name; type = arriving_type p r l; field = value_field } ∷ []) [])
        go true = (one, tt)
        go false = tt

    loads_fine : AllLoad all (piece_name f.called l) (loads_of p r l)
    loads_fine = (
      next_fine,
      load_append all (piece_name f.called l) (value_load p r l) _ value_fine
          (all_loaded l owner (P.loaded r l) (scalars_left (locals_of r (P.loaded r l)) _ tail_scalars) (λ j h. loaded_kept l j h)),
    )

    -- the opening
    pub opening_runs : Runs (begins p f known l owner all k) (Declare frame_name (TyPointer (TyStruct (piece_name f.called l))) (Some (ENamed pointer_name)) ∷ (map (loads_one frame_name) (loads_of p r l) ++ map declares_one (declares_of p r l))) (inside p f known l owner all k)
    opening_runs =
        subst (Runs (begins p f known l owner all k) _) (is_inside p f known l owner all k)
        (opens_run (begins p f known l owner all k) pointer_name frame_name (piece_name f.called l) 0 (loads_of p r l) (declares_of p r l) refl refl fresh (loadable all (piece_name f.called l) frame_name (loads_of p r l) frame_apart loads_fine)
        (cells_have all (declares_of p r l) (scalars_right (locals_of r (P.loaded r l)) (declares_of p r l) tail_scalars)))

    -- the frame is given back
    pub frame_freed : stmt_breaks (inside p f known l owner all k) (stmt_here (frees_frame pointer_name)) ≡ []
    frame_freed = frees_fine (inside p f known l owner all k) refl refl (free p f known l owner all k) pointer_name 0 _ (local p f known l owner all k (called_so pointer_name any_pointer) (0, refl))

  -- ---- boxes

  boxed_there : (j : ℕ) → holds_number r.boxes j ≡ true → (x : Variable) × (slice_get (variables f) j ≡ Some x)
  boxed_there j h = go (slice_get (variables f) j) refl
    where
      boxed : is_box p f.called j ≡ true
      boxed = (boxes_exact p f.called j).0 h

      go : (o : Option Variable) → slice_get (variables f) j ≡ o → (x : Variable) × (slice_get (variables f) j ≡ Some x)
      go None e = absurd (let z : true ≡ false = sym boxed ∙ (ap (λ o. is_box_in o j) known.found.named ∙ ap (has_block f j) e) in cc)
      go (Some x) e = (x, e)

  pub box_field : (tag : Text) (x : Variable) → IsBox p (converted p) tag x → field all tag x.called ≡ Some (0, x.type)
  box_field tag x b = ap (λ o. o >>= λ xs. T.field_from all 0 xs x.called) (k.fields tag) ∙ (same_fields all (converted p) (λ t. ap (λ o. o >>= λ xs. Some (length xs)) (k.cells t)) x.called (T.fields (converted p) tag) ∙ b.field)

  module _ (cells : VariablesHaveCells p f) where
    abbrev v : Where
    v = inside p f known Start TheStart all k

    box_local : (j : ℕ) → holds_number r.boxes j ≡ true → meant v.scope (local_of r j).called ≡ ALocal 0 (TyPointer (TyStruct (box_tag f.called j)))
    box_local j h =
        local p f known Start TheStart all k (local_of r j) ((locals_meant p known.names f known.found.cps).boxes j h)
        ∙ ap (λ b. ALocal 0 (local_type (not b) (variable_of r j).type (box_tag f.called j))) h

    box_size : (j : ℕ) → holds_number r.boxes j ≡ true → (m : ℕ) × (measured v.scope (TyStruct (box_tag f.called j)) ≡ Some m)
    box_size j h =
        let x = boxed_there j h in
        let c = cells j x.0 x.1 in
        let b = (structs_there p known.names).box f known.found.cps j (held_has r.boxes j h) in
        let its : size (converted p) (TyStruct (box_tag f.called j)) ≡ Some c.0 = less_size _ _ c.0 b.size (ap (λ o. size p (variable_or o).type) x.1 ∙ c.1) in
        (c.0, measured_is v.scope (TyStruct (box_tag f.called j)) c.0 (ap (λ o. o >>= λ xs. Some (length xs)) (k.cells (TyStruct (box_tag f.called j))) ∙ its) c.3)

    argument : (j : ℕ) → holds_number r.boxes j ≡ true → (is_parameter f j && is_scalar (variable_of r j).type) ≡ true → StandsIn (record { called = (local_of r j).called; type = (variable_of r j).type }) (passed f)
    argument j h e =
        let x = boxed_there j h in
        let parts = and_both (is_parameter f j) (is_scalar (variable_of r j).type) e in
        let is : variable_of r j ≡ x.0 = ap variable_or x.1 in
        subst (λ (w : Variable). StandsIn (record { called = variable_name j w.called; type = w.type }) (passed f)) (sym is)
        (subst (λ m. StandsIn (record { called = variable_name m x.0.called; type = x.0.type }) (passed f)) (let z : 0 + j ≡ j = omega arith in z)
        (passed_has 0 (length f.parameters) (variables f) j x.0 (lt_means j (length f.parameters) parts.0) x.1 (ap (λ (w : Variable). is_scalar w.type) (sym is) ∙ parts.1)))

    fills_run : (j : ℕ) → holds_number r.boxes j ≡ true → (b : Bool) → (is_parameter f j && is_scalar (variable_of r j).type) ≡ b → Runs v (fills_if b (local_of r j).called (variable_of r j).called) v
    fills_run j h false e = NoRow v
    fills_run j h true e =
        let at = argument j h e in
        let b = (structs_there p known.names).box f known.found.cps j (held_has r.boxes j h) in
        AndLine v v _ [] refl
        (fills_fine v refl refl (free p f known Start TheStart all k) (local_of r j).called (variable_of r j).called frame_name (local_of r j).called (box_tag f.called j) (piece_name f.called Start) 0 0 0 (suc (suc (suc at.0))) (variable_of r j).type (box_local j h)
        (box_field (box_tag f.called j) (variable_of r j) b) (local p f known Start TheStart all k (called_so frame_name (TyPointer (TyStruct (piece_name f.called Start)))) (1, refl))
        ((struct Start TheStart).field (suc (suc (suc at.0))) (record { called = (local_of r j).called; type = (variable_of r j).type }) at.1) (and_both (is_parameter f j) (is_scalar (variable_of r j).type) e).1)
        (NoRow v)

    boxes_run : (js : List ℕ) → ((j : ℕ) → holds_number js j ≡ true → holds_number r.boxes j ≡ true) → Runs v (boxing_lines r js) v
    boxes_run [] h = NoRow v
    boxes_run (j ∷ js) h =
        let here = h j (ap (λ b. b || holds_number js j) (eq_reflexive j)) in
        let m = box_size j here in
        AndLine v v _ _ refl (boxes_fine v refl refl (free p f known Start TheStart all k) (local_of r j).called 0 m.0 _ (TyStruct (box_tag f.called j)) (box_local j here) m.1)
        (runs_both v v v _ _ (fills_run j here (is_parameter f j && is_scalar (variable_of r j).type) refl) (boxes_run js (λ i e. h i (or_by_second (j == i) (holds_number js i) e))))

  -- the boxes that a piece makes
  pub boxing_runs : VariablesHaveCells p f → (l : Place) (owner : IsOwner r l) → Runs (inside p f known l owner all k) (boxing_of r l) (inside p f known l owner all k)
  boxing_runs cells _ TheStart = boxes_run cells r.boxes (λ j h. h)
  boxing_runs cells _ (ALeader n has) = NoRow _
