-- What is made of the cps functions of a program has names of its own: functions each once, and so structs.
use Rattle.std.proofs.Common.{◌≡◌, inl, inr, ℕ, ◌+◌, ◌||◌, Bool, true, false, List, [], ◌∷◌, ◌++◌, map, bytes_eq, refl, sym, ◌∙◌, ap, subst, append_assoc, codes}
use Rattle.cpc_base.specs.Bytes.{Text}
use Rattle.cpc_base.specs.declared.stop.Dialect.TheVariants as D
use Rattle.cpc_base.proofs.Truth.{never_both}
use Rattle.cpc_tree.specs.Lists.{holds_number}
use Rattle.cpc_tree.specs.Syntax.{Function, StructItem, GlobalItem, PrototypeItem, FunctionItem, Program}
use Rattle.cpc_meaning.specs.Threads.{is_cps_mode}
use Rattle.cpc_meaning.proofs.Functions.{text_same}
use Rattle.cpc_convert_common.specs.Converted.{marked, spawner_name}
use Rattle.cpc_convert_common.specs.Members.{Has, OnTop, Below}
use Rattle.cpc_convert_common.proofs.Members.{has_right}
use Rattle.cpc_convert_common.proofs.Marks.{NoUnderscore, marked_is, no_bar_spawn}
use Rattle.cpc_forms.specs.Flow.{Place, Start, At, flow_of}
use Rattle.cpc_forms.specs.Graph.{graph_of}
use Rattle.cpc_forms.specs.Pieces as P
use Rattle.cpc_convert_routines.specs.Names.{piece_name}
use Rattle.cpc_convert_routines.specs.Routines.{Routine, routine_of}
use Rattle.cpc_chains_event.specs.Pieces.{piece_function, leader_function, spawner_function, made_of}
use Rattle.cpc_convert_routines.specs.Kept.{routine_if, routines_in, routines}
use Rattle.cpc_chains_event.specs.Converted.{all_made}
use Rattle.cpc_convert_routines.specs.Named.{IsNamed, IsCps, ALeader}
use Rattle.cpc_chains_event.proofs.Apart.{behind, piece_is, spawner_is, no_underscore_behind, piece_spawn, StartIsSmall}
use Rattle.cpc_chains_event.proofs.Labels.{leaders_rise}
use Rattle.cpc_chains_event.proofs.Made.{Made, MadeSpawner, MadePiece, Mapped, OfNumber, map_has, made_is, unmarked, small}
use Rattle.cpc_convert_routines.proofs.Numbers.{rises_once}
use Rattle.cpc_chains_event.proofs.Framed.{held, pieces_same}
use Rattle.cpc_lifted_laws.proofs.Rules.Items.{Beside, beside_each}
use Rattle.cpc_lifted_laws.proofs.Rules.Rows.{rows, Once, NoneOnce, AndOnce, once_both, has_at}
use Rattle.cpc_lifted_laws.proofs.Rules.Source.{signature, defined_once}

-- ---- numbers each once

-- what is made of numbers each of which stands once, where it tells them by its names
pub once_map : {A : Type 0} (called : A → Text) (F : ℕ → A) (ns : List ℕ) → P.Once ns → ((m n : ℕ) → Has m ns → Has n ns → called (F m) ≡ called (F n) → m ≡ n) → Once called (map F ns)
once_map called F _ P.NoNumber tells = NoneOnce
once_map called F _ (P.AndOther n ns e o) tells =
    AndOnce (F n) (map F ns) (λ y h k. other y (map_has F y ns h) k) (once_map called F ns o (λ i j a b k. tells i j (Below i n ns a) (Below j n ns b) k))
  where
    other : (y : _) → Mapped F ns y → called (F n) ≡ called y → ⊥
    other _ (OfNumber m h) k = never_both (holds_number ns n) (held n ns (subst (λ i. Has i ns) (sym (tells n m (OnTop n ns) (Below m n ns h) k)) h)) e

-- the leaders of a function
pub leaders_once : (p : Program) (f : Function) → P.Once (routine_of p f).split.leaders
leaders_once p f = let flow = flow_of (graph_of p f) in rises_once (0 + flow.size) 0 (routine_of p f).split.leaders (leaders_rise flow 0 flow.size)

-- ---- functions of the source

module _ (p : Program) (fine : rows D.Cpc p [] p ≡ []) where
  -- two functions at two places have two names
  pub functions_apart : (front : Program) (f : Function) (back : Program) → p ≡ front ++ FunctionItem f ∷ back → (g : Function) → Has (FunctionItem g) back → f.called ≡ g.called → ⊥
  functions_apart front f back e g h k =
      let s = split back h in
      let at = front ++ FunctionItem f ∷ s.0 in
      let d = defined_once p fine at g s.1 (e ∙ ap (λ ys. front ++ FunctionItem f ∷ ys) s.2 ∙ sym (append_assoc front (FunctionItem f ∷ s.0) (FunctionItem g ∷ s.1))) in
      go (beside_each g.called (signature g.mode g.result g.parameters true) at d.0 d.1 (FunctionItem f) (has_at front s.0 (FunctionItem f)))
    where
      split : (xs : Program) → Has (FunctionItem g) xs → (a : Program) × (b : Program) × (xs ≡ a ++ FunctionItem g ∷ b)
      split _ (OnTop _ xs) = ([], xs, refl)
      split _ (Below _ y xs h) = let s = split xs h in (y ∷ s.0, s.1, ap (λ zs. y ∷ zs) s.2)

      or_true : (a : Bool) → (a || true) ≡ false → ⊥
      or_true true i = absurd (cc)
      or_true false i = absurd (cc)

      go : Beside g.called (signature g.mode g.result g.parameters true) (FunctionItem f) → ⊥
      go (inl i) = never_both (bytes_eq f.called g.called) (ap (bytes_eq f.called) (sym k) ∙ text_same f.called) i
      go (inr i) = or_true _ i.0

-- ---- names that are made

-- a name that is made of a function among these items
pub record MadeOf (items : Program) (name : Text) : Type 0 where
  pub function : Function
  pub has : Has (FunctionItem function) items
  pub mode : is_cps_mode function.mode ≡ true
  pub rest : Text
  pub is : name ≡ marked function.called rest
  pub underscore : NoUnderscore rest

pub of_made : (p : Program) (items : Program) (g : Function) → Made p items g → MadeOf items g.called
of_made p items _ (MadeSpawner f h c) = record { function = f; has = h; mode = c; rest = codes "spawn"; is = spawner_is f.called; underscore = no_bar_spawn }
of_made p items _ (MadePiece f l h c o) = record { function = f; has = h; mode = c; rest = behind l; is = piece_is f.called l; underscore = no_underscore_behind l }

abbrev pub called : Function → Text
called f = f.called

module _ (p : Program) (ok : IsNamed p) (fine : rows D.Cpc p [] p ≡ []) where
  -- names of two functions are apart
  pub apart_of : (front : Program) (f : Function) (back : Program) → p ≡ front ++ FunctionItem f ∷ back → (x y rest : Text) → x ≡ marked f.called rest → NoUnderscore rest → MadeOf back y → x ≡ y → ⊥
  apart_of front f back e x y rest i n m k =
      let in_p : Has (FunctionItem m.function) p = subst (Has (FunctionItem m.function)) (sym e) (has_right _ front (FunctionItem f ∷ back) (Below _ _ _ m.has)) in
      let f_in : Has (FunctionItem f) p = subst (Has (FunctionItem f)) (sym e) (has_at front back (FunctionItem f)) in
      functions_apart p fine front f back e m.function m.has (marked_is f.called m.function.called rest m.rest (unmarked ok f f_in) (unmarked ok m.function in_p) n m.underscore (sym i ∙ k ∙ m.is)).0

  -- what is made of one function
  module _ (f : Function) (c : IsCps p f) where
    abbrev r : Routine
    r = routine_of p f

    pub leaders_told : (m n : ℕ) → Has m r.split.leaders → Has n r.split.leaders → piece_name f.called (At m) ≡ piece_name f.called (At n) → m ≡ n
    leaders_told m n h g k = let e = (pieces_same p ok f f (At m) (At n) c.has c.has (small ok f c (At m) (ALeader m h)) (small ok f c (At n) (ALeader n g)) k).1 in (cc)

    pub start_told : (n : ℕ) → Has n r.split.leaders → piece_name f.called Start ≡ piece_name f.called (At n) → ⊥
    start_told n h k = let e = (pieces_same p ok f f Start (At n) c.has c.has StartIsSmall (small ok f c (At n) (ALeader n h)) k).1 in absurd (cc)

    spawner_told : (l : Place) → spawner_name f.called ≡ piece_name f.called l → ⊥
    spawner_told l k =
        piece_spawn l (sym (marked_is f.called f.called (codes "spawn") (behind l) (unmarked ok f c.has) (unmarked ok f c.has) no_bar_spawn (no_underscore_behind l) (sym (spawner_is f.called) ∙ k ∙ piece_is f.called l)).1)

    no_leader : (x : Text) → ((n : ℕ) → Has n r.split.leaders → x ≡ piece_name f.called (At n) → ⊥) → (y : Function) → Mapped (leader_function p r) r.split.leaders y → x ≡ y.called → ⊥
    no_leader x h _ (OfNumber n k) e = h n k e

    start_first : (y : Function) → Has y (map (leader_function p r) r.split.leaders) → (piece_function p r Start).called ≡ y.called → ⊥
    start_first y h k = no_leader (piece_name f.called Start) start_told y (map_has (leader_function p r) y r.split.leaders h) k

    spawner_first : (y : Function) → Has y (piece_function p r Start ∷ map (leader_function p r) r.split.leaders) → (spawner_function f).called ≡ y.called → ⊥
    spawner_first _ (OnTop _ _) k = spawner_told Start k
    spawner_first y (Below _ _ _ h) k = no_leader (spawner_name f.called) (λ n _ e. spawner_told (At n) e) y (map_has (leader_function p r) y r.split.leaders h) k

    pub one_once : Once called (made_of p r)
    one_once = AndOnce _ _ spawner_first (AndOnce _ _ start_first (once_map called (leader_function p r) r.split.leaders (leaders_once p f) leaders_told))

  of_one : (f : Function) (items : Program) → is_cps_mode f.mode ≡ true → (g : Function) → Has g (made_of p (routine_of p f)) → (rest : Text) × (g.called ≡ marked f.called rest) × NoUnderscore rest
  of_one f items e _ (OnTop _ _) = (codes "spawn", spawner_is f.called, no_bar_spawn)
  of_one f items e _ (Below _ _ _ (OnTop _ _)) = (behind Start, piece_is f.called Start, no_underscore_behind Start)
  of_one f items e g (Below _ _ _ (Below _ _ _ h)) = by_number g (map_has (leader_function p (routine_of p f)) g (routine_of p f).split.leaders h)
    where
      by_number : (g : Function) → Mapped (leader_function p (routine_of p f)) (routine_of p f).split.leaders g → (rest : Text) × (g.called ≡ marked f.called rest) × NoUnderscore rest
      by_number _ (OfNumber n k) = (behind (At n), piece_is f.called (At n), no_underscore_behind (At n))

  once_from : (front items : Program) → p ≡ front ++ items → Once called (all_made p (routines_in p items))
  once_from front [] e = NoneOnce
  once_from front (StructItem t fs ∷ items) e = once_from (front ++ StructItem t fs ∷ []) items (e ∙ sym (append_assoc front _ items))
  once_from front (GlobalItem x t s ∷ items) e = once_from (front ++ GlobalItem x t s ∷ []) items (e ∙ sym (append_assoc front _ items))
  once_from front (PrototypeItem m x r ps ∷ items) e = once_from (front ++ PrototypeItem m x r ps ∷ []) items (e ∙ sym (append_assoc front _ items))
  once_from front (FunctionItem f ∷ items) e = go (is_cps_mode f.mode) refl (once_from (front ++ FunctionItem f ∷ []) items (e ∙ sym (append_assoc front _ items)))
    where
      go : (b : Bool) → is_cps_mode f.mode ≡ b → Once called (all_made p (routines_in p items)) → Once called (all_made p (routine_if b p f (routines_in p items)))
      go false c o = o
      go true c o =
          once_both called (made_of p (routine_of p f)) (all_made p (routines_in p items)) (one_once f (record { has = subst (Has (FunctionItem f)) (sym e) (has_at front items (FunctionItem f)); mode = c })) o
          (λ x y h k i. let w = of_one f items c x h in apart_of front f items e x.called y.called w.0 w.1 w.2 (of_made p items y (made_is p items y k)) i)

  -- the functions that are made
  pub made_once : Once called (all_made p (routines p))
  made_once = once_from [] p refl
