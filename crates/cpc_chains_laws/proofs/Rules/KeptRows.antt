-- Items that stay of a program that breaks no rule of the dialect Cpc break none of the dialect Event.
use Rattle.std.proofs.Common.{◌≡◌, inl, ℕ, suc, Bool, true, false, List, [], ◌∷◌, ◌++◌, map, reverse, length, bytes_eq, refl, sym, ◌∙◌, ap, subst}
use Rattle.cpc_base.specs.Bytes.{Text}
use Rattle.cpc_base.proofs.Truth.{false_unless_true, and_both, true_not_false}
use Rattle.cpc_base.specs.declared.stop.Dialect.TheVariants as D
use Rattle.cpc_tree.specs.declared.program.Mode.{Mode}
use Rattle.cpc_tree.specs.declared.program.Mode.TheVariants.{Extern, Native, Cps, Detached}
use Rattle.cpc_tree.specs.Syntax.{Ty, TyVoid, Variable, Parameter, Function, Item, StructItem, GlobalItem, PrototypeItem, FunctionItem, Program}
use Rattle.cpc_tree.specs.Typing.{Meant, ALocal, AGlobal, AFunction, NotMeant, is_scalar, item_named, parameter_type, parameter_types}
use Rattle.cpc_tree.specs.Registers.{or_empty, as_variable}
use Rattle.cpc_tree.specs.Points.{locals}
use Rattle.cpc_check_rules.specs.Scopes.{in_items}
use Rattle.cpc_check_rules.specs.ItemRules.{Signature, is_function}
use Rattle.cpc_meaning.specs.Threads.{is_cps_mode}
use Rattle.cpc_meaning.proofs.Functions.{text_same}
use Rattle.cpc_check_laws.specs.Sound.Typed.{is_own}
use Rattle.cpc_check_laws.proofs.Sound.Agreement.{Grows}
use Rattle.cpc_check_laws.proofs.Sound.Items.{named_more, is_defined, function_there}
use Rattle.cpc_check_laws.proofs.Sound.Knowing.{Known, Same}
use Rattle.cpc_check_laws.proofs.Run.Names.{primitive_kept}
use Rattle.cpc_lifted_laws.specs.Complete.Kept.{KeptName, KeptLocal, KeptGlobal, KeptFunction, KeptCps, KeptNothing, all_scalar, KeepsItems}
use Rattle.cpc_lifted_laws.specs.Complete.Steps.{HasSteps}
use Rattle.cpc_convert_common.specs.Marks.{has_marks}
use Rattle.cpc_convert_common.specs.Converted.{spawner_name, prototype}
use Rattle.cpc_convert_common.specs.Members.{Has, OnTop, Below}
use Rattle.cpc_convert_common.proofs.Members.{has_left}
use Rattle.cpc_convert_image_laws.specs.InPlace.{is_cps}
use Rattle.cpc_convert_routines.specs.Kept.{kept_items}
use Rattle.cpc_convert_routines.specs.Named.{IsNamed, IsCps}
use Rattle.cpc_convert_routines.specs.Names.{variable_name}
use Rattle.cpc_chains_event.specs.Pieces.{parameter_of, spawner_function}
use Rattle.cpc_convert_routines.specs.Routines.{variable_if, passed_from, passed}
use Rattle.cpc_chains_event.proofs.Made.{has_spawner}
use Rattle.cpc_lifted_laws.specs.Accepted.Names.{HasNames}
use Rattle.cpc_lifted_laws.proofs.Rules.Items.{Declares, Beside}
use Rattle.cpc_chains_laws.proofs.Rules.Kept.{KeptItem, KeepStruct, KeepGlobal, KeepPrototype, KeepFunction, stays_meant}
use Rattle.cpc_lifted_laws.proofs.Rules.Meant.{nothing_meant}
use Rattle.cpc_chains_laws.proofs.Rules.Parts.{Parts, both_parts, kept_parts, kept_nothing, made_meant, declares_plain}
use Rattle.cpc_lifted_laws.proofs.Rules.Rows.{rows}
use Rattle.cpc_lifted_laws.proofs.Rules.Source.{known_at, known_whole}
use Rattle.cpc_chains_laws.proofs.Rules.Types.{grows_of, beyond_none, beyond_kept}
use Rattle.cpc_chains_event.proofs.Extending.{beyond_append}

-- what stands before the items that stay
pub record Front (p front : Program) : Type 0 where
  pub parts : Parts p front
  pub unmarked : (z : Text) → has_marks z ≡ false → (i : Item) → Has i front → Declares z i → ⊥
  pub structs : (tag : Text) (fs : List Variable) → Has (StructItem tag fs) front → has_marks tag ≡ true
  pub spawners : (f : Function) → IsCps p f → Has (prototype (spawner_function f)) front

-- what is known of a source
pub record Source (p : Program) : Type 0 where
  pub names : HasNames p
  pub named : IsNamed p
  pub fine : rows D.Cpc p [] p ≡ []
  pub own : (f : Function) → Has (FunctionItem f) p → is_own f.mode ≡ true
  pub steps : (f : Function) → Has (FunctionItem f) p → HasSteps f.body

-- ---- what stays in general

pub beside_other : (x : Text) (new : Signature) (i : Item) → (Declares x i → ⊥) → Beside x new i
beside_other x new (StructItem tag fs) h = tt
beside_other x new (GlobalItem g t s) h = false_unless_true (bytes_eq g x) h
beside_other x new (PrototypeItem m f r ps) h = inl (false_unless_true (bytes_eq f x) h)
beside_other x new (FunctionItem f) h = inl (false_unless_true (bytes_eq f.called x) h)

pub beside_kept : (x : Text) (new : Signature) (i j : Item) → KeptItem i j → Beside x new i → Beside x new j
beside_kept x new _ _ (KeepStruct tag fs) h = h
beside_kept x new _ _ (KeepGlobal g t s) h = h
beside_kept x new _ _ (KeepPrototype m f r ps e) h = h
beside_kept x new _ _ (KeepFunction f e) h = h

pub declares_kept : (x : Text) (i j : Item) → KeptItem i j → Declares x j → Declares x i
declares_kept x _ _ (KeepStruct tag fs) h = h
declares_kept x _ _ (KeepGlobal g t s) h = h
declares_kept x _ _ (KeepPrototype m f r ps e) h = h
declares_kept x _ _ (KeepFunction f e) h = h

-- a function that is there
pub function_has : (q : Program) (f : Function) → Has (FunctionItem f) q → is_function f.called q ≡ true
function_has q f h = go q (split q h)
  where
    split : (xs : Program) → Has (FunctionItem f) xs → (a : Program) × (b : Program) × (xs ≡ a ++ FunctionItem f ∷ b)
    split _ (OnTop _ xs) = ([], xs, refl)
    split _ (Below _ y xs h) = let s = split xs h in (y ∷ s.0, s.1, ap (λ zs. y ∷ zs) s.2)

    go : (q : Program) → (a : Program) × (b : Program) × (q ≡ a ++ FunctionItem f ∷ b) → is_function f.called q ≡ true
    go q s = subst (λ xs. is_function f.called xs ≡ true) (sym s.2) (function_there s.0 s.1 f f.called (text_same f.called))

-- ---- what a spawner takes

pub passed_types : (k : ℕ) (ps : List Parameter) (rest : List Variable) → all_scalar (map parameter_type ps) ≡ true → map parameter_type (map parameter_of (passed_from k (length ps) (map as_variable ps ++ rest))) ≡ map parameter_type ps
passed_types k [] rest h = refl
passed_types k (q ∷ ps) rest h =
    let s = and_both (is_scalar q.type) (all_scalar (map parameter_type ps)) h in
    ap (λ b. map parameter_type (map parameter_of (variable_if b (record { called = variable_name k (or_empty q.called); type = q.type }) (passed_from (suc k) (length ps) (map as_variable ps ++ rest))))) s.0 ∙ ap (λ ts. q.type ∷ ts) (passed_types (suc k) ps rest s.1)

-- ---- names

kept_same : (x : Text) (m : Meant) → KeptName x m m
kept_same x (ALocal k t) = KeptLocal k k t
kept_same x (AGlobal k t) = KeptGlobal k k t
kept_same x (AFunction mode r ps) = KeptFunction mode r ps
kept_same x NotMeant = KeptNothing NotMeant (λ prim e. refl)

pub kept_cps : (x : Text) (m n : Meant) → is_cps m ≡ true → KeptName x m n
kept_cps x (AFunction Cps r ps) n e = KeptCps r ps n
kept_cps x (AFunction Native r ps) n e = absurd (cc)
kept_cps x (AFunction Detached r ps) n e = absurd (cc)
kept_cps x (AFunction Extern r ps) n e = absurd (cc)
kept_cps x (ALocal k t) n e = absurd (cc)
kept_cps x (AGlobal k t) n e = absurd (cc)
kept_cps x NotMeant n e = absurd (cc)

module _ (p front : Program) (source : Source p) (ahead : Front p front) where
  -- these items of the source are some of it
  abbrev pub PartOf : Program → Type 0
  PartOf xs = (back : Program) × (p ≡ xs ++ back)

  pub in_p : (xs : Program) → PartOf xs → (x : Item) → Has x xs → Has x p
  in_p xs part x h = subst (Has x) (sym part.1) (has_left x xs part.0 h)

  pub marked_nothing : (xs : Program) → PartOf xs → (x : Text) → has_marks x ≡ true → in_items (reverse xs) x ≡ NotMeant
  marked_nothing xs part x e = nothing_meant x xs (λ i h d. true_not_false (sym e ∙ (declares_plain p source.names source.named x i (in_p xs part i h) d).0))

  abbrev pub after : Program → Program
  after xs = front ++ kept_items xs

  pub parts_after : (xs : Program) → PartOf xs → Parts p (after xs)
  parts_after xs part = both_parts p front (kept_items xs) ahead.parts (kept_parts p xs (in_p xs part))

  pub named_kept : (xs : Program) → PartOf xs → (x : Text) → KeptName x (in_items (reverse xs) x) (in_items (reverse (after xs)) x)
  named_kept xs part x = by_marks (has_marks x) refl
    where
      by_cps : has_marks x ≡ false → (b : Bool) → is_cps (in_items (reverse xs) x) ≡ b → KeptName x (in_items (reverse xs) x) (in_items (reverse (after xs)) x)
      by_cps e true c = kept_cps x _ _ c
      by_cps e false c =
          subst (KeptName x (in_items (reverse xs) x)) (sym (stays_meant front xs x (nothing_meant x front (λ i h d. ahead.unmarked x e i h d)) c)) (kept_same x (in_items (reverse xs) x))

      by_marks : (b : Bool) → has_marks x ≡ b → KeptName x (in_items (reverse xs) x) (in_items (reverse (after xs)) x)
      by_marks true e =
          subst (λ m. KeptName x m (in_items (reverse (after xs)) x)) (sym (marked_nothing xs part x e))
          (KeptNothing _ (λ prim k. kept_nothing p source.names source.named x (primitive_kept x prim k) (after xs) (parts_after xs part)))
      by_marks false e = by_cps e (is_cps (in_items (reverse xs) x)) refl

  pub grown : (xs : Program) → PartOf xs → Grows xs (after xs)
  grown xs part = grows_of xs (after xs) (beyond_append [] front xs (kept_items xs) (beyond_none front ahead.structs) (beyond_kept xs (λ i h. source.named.unmarked i (in_p xs part i h))))

  abbrev known : (xs : Program) → PartOf xs → Known p xs
  known xs part = known_at p source.own source.fine xs part.0 part.1

  -- the function of a name that stands for one
  pub defined : (xs : Program) → PartOf xs → (x : Text) (m : Mode) (r : Ty) (ps : List Ty) → in_items (reverse xs) x ≡ AFunction m r ps → is_own m ≡ true
      → (g : Function) × Has (FunctionItem g) p × (g.called ≡ x) × (AFunction g.mode g.result (parameter_types g) ≡ AFunction m r ps)
  defined xs part x m r ps e own =
      let k = known xs part in
      let first : item_named 0 xs x ≡ AFunction m r ps = subst (λ z. Same z (item_named 0 xs x)) e (k.same x) in
      let whole : item_named 0 p x ≡ AFunction m r ps = subst (λ ys. item_named 0 ys x ≡ AFunction m r ps) (sym part.1) (named_more 0 xs part.0 x (AFunction m r ps) tt first) in
      let g = is_defined x p (k.promised x m r ps first own) in
      let there = source.names.there x g.0 g.1 in
      (g.0, there.0, there.1, sym ((known_whole p source.own source.fine).defined x g.0 g.1) ∙ whole)

  spawned : (xs : Program) → PartOf xs → (x : Text) (r : Ty) (ps : List Ty) → in_items (reverse xs) x ≡ AFunction Cps r ps → all_scalar ps ≡ true → in_items (reverse (after xs)) (spawner_name x) ≡ AFunction Native TyVoid ps
  spawned xs part x r ps e s =
      let g = defined xs part x Cps r ps e refl in
      let f = g.0 in
      let mode : f.mode ≡ Cps = let z = g.3 in cc in
      let same : parameter_types f ≡ ps = let z = g.3 in cc in
      let cps : IsCps p f = record { has = g.1; mode = ap is_cps_mode mode } in
      let meant : in_items (reverse (after xs)) (spawner_name f.called) ≡ AFunction Native TyVoid (map parameter_type (map parameter_of (passed f))) =
      made_meant p source.names source.named (spawner_function f) (has_spawner p f cps) (after xs) (parts_after xs part) (has_left (prototype (spawner_function f)) front (kept_items xs) (ahead.spawners f cps)) in
      let taken : map parameter_type (map parameter_of (passed f)) ≡ map parameter_type f.parameters = passed_types 0 f.parameters (locals f.body) (ap all_scalar same ∙ s) in
      ap (λ y. in_items (reverse (after xs)) (spawner_name y)) (sym g.2) ∙ (meant ∙ ap (λ ts. AFunction Native TyVoid ts) (taken ∙ same))

  -- what stays is found among the items that stay of those so far
  pub keeps : (xs : Program) → PartOf xs → KeepsItems xs (after xs)
  keeps xs part = record { names = named_kept xs part; cells = (grown xs part).cells; fields = (grown xs part).fields; spawners = spawned xs part }
