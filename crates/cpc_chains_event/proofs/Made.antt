-- What is made of the cps functions of a program, and that its names are apart.
use Rattle.std.proofs.Common.{◌≡◌, ℕ, ⊎_elim, Bool, true, false, List, [], ◌∷◌, map, bytes_eq, Some, refl, sym, ◌∙◌, ap, subst, codes}
use Rattle.cpc_base.specs.Bytes.{Text}
use Rattle.cpc_tree.specs.Syntax.{Function, Item, StructItem, GlobalItem, PrototypeItem, FunctionItem, Program}
use Rattle.cpc_tree.specs.Typing.{function_named}
use Rattle.cpc_meaning.specs.Threads.{is_cps_mode}
use Rattle.cpc_meaning.proofs.Functions.{same_text}
use Rattle.cpc_convert_common.specs.Marks.{has_marks}
use Rattle.cpc_convert_common.specs.Members.{Has, OnTop, Below}
use Rattle.cpc_convert_common.proofs.Marks.{marked_is, marked_differs, no_bar_spawn}
use Rattle.cpc_convert_common.proofs.Members.{has_left, has_right, has_either}
use Rattle.cpc_forms.specs.Flow.{Place, Start, At}
use Rattle.cpc_convert_routines.specs.Routines.{Routine, routine_of}
use Rattle.cpc_chains_event.specs.Pieces.{piece_function, leader_function, spawner_function, made_of}
use Rattle.cpc_convert_routines.specs.Kept.{routine_if, routines_in, routines}
use Rattle.cpc_chains_event.specs.Converted.{all_made}
use Rattle.cpc_convert_routines.specs.Named.{IsOwner, TheStart, ALeader, IsNamed, IsCps}
use Rattle.cpc_chains_event.proofs.Apart.{behind, piece_is, spawner_is, no_underscore_behind, piece_spawn, Small, StartIsSmall, NumberIsSmall, behind_is}

-- ---- what is made

-- a spawner or a piece of a cps function among these items
pub data Made (p : Program) (items : List Item) : Function → Type 0 where
  MadeSpawner : (f : Function) → Has (FunctionItem f) items → is_cps_mode f.mode ≡ true → Made p items (spawner_function f)
  MadePiece : (f : Function) (l : Place) → Has (FunctionItem f) items → is_cps_mode f.mode ≡ true → IsOwner (routine_of p f) l → Made p items (piece_function p (routine_of p f) l)

-- also among more items
made_later : (p : Program) (item : Item) (items : List Item) (g : Function) → Made p items g → Made p (item ∷ items) g
made_later p item items _ (MadeSpawner f h c) = MadeSpawner f (Below _ item items h) c
made_later p item items _ (MadePiece f l h c o) = MadePiece f l (Below _ item items h) c o

pub has_map : {A : Type 0} (F : ℕ → A) (n : ℕ) (ns : List ℕ) → Has n ns → Has (F n) (map F ns)
has_map F n _ (OnTop _ ns) = OnTop _ _
has_map F n _ (Below _ m ns h) = Below _ _ _ (has_map F n ns h)

-- a leader that a made function is of
pub data Mapped {A : Type 0} (F : ℕ → A) (ns : List ℕ) : A → Type 0 where
  OfNumber : (n : ℕ) → Has n ns → Mapped F ns (F n)

mapped_later : {A : Type 0} (F : ℕ → A) (n : ℕ) (ns : List ℕ) (x : A) → Mapped F ns x → Mapped F (n ∷ ns) x
mapped_later F n ns _ (OfNumber m k) = OfNumber m (Below m n ns k)

pub map_has : {A : Type 0} (F : ℕ → A) (x : A) (ns : List ℕ) → Has x (map F ns) → Mapped F ns x
map_has F x [] h = elim h [ ]
map_has F _ (n ∷ ns) (OnTop _ _) = OfNumber n (OnTop n ns)
map_has F x (n ∷ ns) (Below _ _ _ h) = mapped_later F n ns x (map_has F x ns h)

-- what is made is made
module _ (p : Program) where
  made_one : (f : Function) (items : List Item) → is_cps_mode f.mode ≡ true → (g : Function) → Has g (made_of p (routine_of p f)) → Made p (FunctionItem f ∷ items) g
  made_one f items c _ (OnTop _ _) = MadeSpawner f (OnTop _ items) c
  made_one f items c _ (Below _ _ _ (OnTop _ _)) = MadePiece f Start (OnTop _ items) c TheStart
  made_one f items c g (Below _ _ _ (Below _ _ _ h)) = of_leader g (map_has (leader_function p (routine_of p f)) g (routine_of p f).split.leaders h)
    where
      of_leader : (g : Function) → Mapped (leader_function p (routine_of p f)) (routine_of p f).split.leaders g → Made p (FunctionItem f ∷ items) g
      of_leader _ (OfNumber n k) = MadePiece f (At n) (OnTop _ items) c (ALeader n k)

  made_either : (f : Function) (items : List Item) (g : Function) → (Has g (all_made p (routines_in p items)) → Made p items g) → (b : Bool) → is_cps_mode f.mode ≡ b → Has g (all_made p (routine_if b p f (routines_in p items)))
      → Made p (FunctionItem f ∷ items) g
  made_either f items g rest true e k = ⊎_elim (λ a. made_one f items e g a) (λ a. made_later p (FunctionItem f) items g (rest a)) (has_either g (made_of p (routine_of p f)) (all_made p (routines_in p items)) k)
  made_either f items g rest false e k = made_later p (FunctionItem f) items g (rest k)

  pub made_is : (items : List Item) (g : Function) → Has g (all_made p (routines_in p items)) → Made p items g
  made_is [] g h = elim h [ ]
  made_is (StructItem t fs ∷ items) g h = made_later p _ items g (made_is items g h)
  made_is (GlobalItem x t s ∷ items) g h = made_later p _ items g (made_is items g h)
  made_is (PrototypeItem m x r ps ∷ items) g h = made_later p _ items g (made_is items g h)
  made_is (FunctionItem f ∷ items) g h = made_either f items g (λ a. made_is items g a) (is_cps_mode f.mode) refl h

  -- and all of it is there
  owner_there : (r : Routine) (l : Place) → IsOwner r l → Has (piece_function p r l) (made_of p r)
  owner_there r _ TheStart = Below _ _ _ (OnTop _ _)
  owner_there r _ (ALeader n k) = Below _ _ _ (Below _ _ _ (has_map (leader_function p r) n r.split.leaders k))

  made_if : (e : Function) (items : List Item) (g : Function) → Has g (all_made p (routines_in p items)) → (b : Bool) → Has g (all_made p (routine_if b p e (routines_in p items)))
  made_if e items g h true = has_right g (made_of p (routine_of p e)) (all_made p (routines_in p items)) h
  made_if e items g h false = h

  pub made_has : (items : List Item) (f g : Function) → Has (FunctionItem f) items → is_cps_mode f.mode ≡ true → Has g (made_of p (routine_of p f)) → Has g (all_made p (routines_in p items))
  made_has [] f g h c k = elim h [ ]
  made_has (StructItem t fs ∷ items) f g (Below _ _ _ h) c k = made_has items f g h c k
  made_has (GlobalItem x t s ∷ items) f g (Below _ _ _ h) c k = made_has items f g h c k
  made_has (PrototypeItem m x r ps ∷ items) f g (Below _ _ _ h) c k = made_has items f g h c k
  made_has (FunctionItem e ∷ items) f g (OnTop _ _) c k = subst (λ b. Has g (all_made p (routine_if b p f (routines_in p items)))) (sym c) (has_left g (made_of p (routine_of p f)) _ k)
  made_has (FunctionItem e ∷ items) f g (Below _ _ _ h) c k = made_if e items g (made_has items f g h c k) (is_cps_mode e.mode)

  pub has_piece : (f : Function) → IsCps p f → (l : Place) → IsOwner (routine_of p f) l → Has (piece_function p (routine_of p f) l) (all_made p (routines p))
  has_piece f c l o = made_has p f _ c.has c.mode (owner_there (routine_of p f) l o)

  pub has_spawner : (f : Function) → IsCps p f → Has (spawner_function f) (all_made p (routines p))
  has_spawner f c = made_has p f _ c.has c.mode (OnTop _ _)

-- ---- its names

module _ {p : Program} (ok : IsNamed p) where
  pub unmarked : (f : Function) → Has (FunctionItem f) p → has_marks f.called ≡ false
  unmarked f h = ok.unmarked (FunctionItem f) h

  pub small : (f : Function) → IsCps p f → (l : Place) → IsOwner (routine_of p f) l → Small l
  small f h _ TheStart = StartIsSmall
  small f h _ (ALeader n k) = NumberIsSmall n (ok.small f h n k)

  -- functions of one name are one
  pub one_function : (f g : Function) → Has (FunctionItem f) p → Has (FunctionItem g) p → f.called ≡ g.called → f ≡ g
  one_function f g h k e = let z : Some f ≡ Some g = sym (ok.found f h) ∙ ap (function_named p) e ∙ ok.found g k in cc

module _ (p : Program) (ok : IsNamed p) where
  -- what is made of one name is one
  pub made_once : (g h : Function) → Made p p g → Made p p h → h.called ≡ g.called → h ≡ g
  made_once _ _ (MadeSpawner f has c) (MadeSpawner e has' c') k =
      let m = marked_is e.called f.called (codes "spawn") (codes "spawn") (unmarked ok e has') (unmarked ok f has) no_bar_spawn no_bar_spawn (sym (spawner_is e.called) ∙ k ∙ spawner_is f.called) in
      ap spawner_function (one_function ok e f has' has m.0)
  made_once _ _ (MadeSpawner f has c) (MadePiece e l has' c' o) k =
      let m = marked_is e.called f.called (behind l) (codes "spawn") (unmarked ok e has') (unmarked ok f has) (no_underscore_behind l) no_bar_spawn (sym (piece_is e.called l) ∙ k ∙ spawner_is f.called) in
      absurd (piece_spawn l m.1)
  made_once _ _ (MadePiece f l has c o) (MadeSpawner e has' c') k =
      let m = marked_is e.called f.called (codes "spawn") (behind l) (unmarked ok e has') (unmarked ok f has) no_bar_spawn (no_underscore_behind l) (sym (spawner_is e.called) ∙ k ∙ piece_is f.called l) in
      absurd (piece_spawn l (sym m.1))
  made_once _ _ (MadePiece f l has c o) (MadePiece e n has' c' o') k =
      let m = marked_is e.called f.called (behind n) (behind l) (unmarked ok e has') (unmarked ok f has) (no_underscore_behind n) (no_underscore_behind l) (sym (piece_is e.called n) ∙ k ∙ piece_is f.called l) in
      let same = behind_is n l (small ok e (record { has = has'; mode = c' }) n o') (small ok f (record { has = has; mode = c }) l o) m.1 in
      ap (λ x. piece_function p (routine_of p x) n) (one_function ok e f has' has m.0) ∙ ap (piece_function p (routine_of p f)) same

  pub made_one_name : (g : Function) → Has g (all_made p (routines p)) → (h : Function) → Has h (all_made p (routines p)) → bytes_eq h.called g.called ≡ true → h ≡ g
  made_one_name g k h j e = made_once g h (made_is p p g k) (made_is p p h j) (same_text h.called g.called e)

  -- no name that is made is one without marks
  pub made_marked : (x : Text) → has_marks x ≡ false → (h : Function) → Has h (all_made p (routines p)) → bytes_eq h.called x ≡ false
  made_marked x e h j = go h (made_is p p h j)
    where
      go : (h : Function) → Made p p h → bytes_eq h.called x ≡ false
      go _ (MadeSpawner f has c) = ap (λ y. bytes_eq y x) (spawner_is f.called) ∙ marked_differs f.called (codes "spawn") x e
      go _ (MadePiece f l has c o) = ap (λ y. bytes_eq y x) (piece_is f.called l) ∙ marked_differs f.called (behind l) x e
