-- What one more entry makes of a scope.
use Rattle.std.proofs.Common.{◌≡◌, ℕ, ◌+◌, ◌<◌, ◌==◌, true, false, List, [], ◌∷◌, ◌++◌, length, get_or, suc, drop, take, add-one, reverse, bytes_eq, refl, ap, sym, ◌∙◌}
use Rattle.std.proofs.lemmas.List.{reverse-append, take_more}
use Rattle.std.proofs.Math.Seq.{drop-cons}
use Rattle.cpc_tree.specs.Erase.{Names, type_of}
use Rattle.cpc_check_rules.specs.Apart.{AreApart}
use Rattle.cpc_tree.specs.declared.program.Parameter.{Parameter}
use Rattle.cpc_base.specs.Bytes.{Text}
use Rattle.cpc_base.specs.declared.names.Name.{Name}
use Rattle.cpc_tree.specs.Syntax.{Variable, Program}
use Rattle.cpc_tree.specs.Typing.{ALocal}
use Rattle.cpc_check_rules.specs.Scopes.{Scope, Block, meant, is_here, with_name, with_block}
use Rattle.cpc_check_rules.proofs.Scopes.{meant_last, meant_before}
use Rattle.cpc_types.specs.declared.blocks.Local.{Local}
use Rattle.cpc_types.specs.declared.blocks.Entry.{Entry}
use Rattle.cpc_types.specs.declared.blocks.Entry.TheVariants as E
use Rattle.cpc_types.specs.Blocks.{entered, local_of, without_block, with_parameter, with_parameters}

-- ---- scopes

rest_without : (items : Program) (bs : List Block) (v : Variable) → without_block (with_name (record { items = items; blocks = bs }) v) ≡ without_block (record { items = items; blocks = bs })
rest_without items [] v = refl
rest_without items (b ∷ bs) v = refl

-- a name goes with its block
pub without_name : (s : Scope) (v : Variable) → without_block (with_name s v) ≡ without_block s
without_name s v = rest_without s.items s.blocks v

here_last : (items : Program) (bs : List Block) (v : Variable) (x : Text) → bytes_eq v.called x ≡ true → is_here (with_name (record { items = items; blocks = bs }) v).blocks x ≡ true
here_last items [] v x e = rw e refl
here_last items (b ∷ bs) v x e = rw e refl

here_before : (items : Program) (bs : List Block) (v : Variable) (x : Text) → bytes_eq v.called x ≡ false → is_here (with_name (record { items = items; blocks = bs }) v).blocks x ≡ is_here bs x
here_before items [] v x e = rw e refl
here_before items (b ∷ bs) v x e = rw e refl

-- ---- entries

pub begin_entered : (names : Names) (items : Program) (xs ys : List Entry) → ys ≡ xs ++ E.Begin ∷ [] → entered names items (reverse ys) ≡ with_block (entered names items (reverse xs))
begin_entered names items xs ys e = ap (λ zs. entered names items (reverse zs)) e ∙ ap (entered names items) (reverse-append xs (E.Begin ∷ []))

pub name_entered : (names : Names) (items : Program) (xs ys : List Entry) (l : Local) → ys ≡ xs ++ E.Named l ∷ [] → entered names items (reverse ys) ≡ with_name (entered names items (reverse xs)) (local_of names l)
name_entered names items xs ys l e = ap (λ zs. entered names items (reverse zs)) e ∙ ap (entered names items) (reverse-append xs (E.Named l ∷ []))

pub begin_left : (names : Names) (items : Program) (xs ys : List Entry) → ys ≡ xs ++ E.Begin ∷ [] → without_block (entered names items (reverse ys)) ≡ entered names items (reverse xs)
begin_left names items xs ys e = ap without_block (begin_entered names items xs ys e)

pub name_left : (names : Names) (items : Program) (xs ys : List Entry) (l : Local) → ys ≡ xs ++ E.Named l ∷ [] → without_block (entered names items (reverse ys)) ≡ without_block (entered names items (reverse xs))
name_left names items xs ys l e = ap without_block (name_entered names items xs ys l e) ∙ without_name (entered names items (reverse xs)) (local_of names l)

-- the entries up to a place and the one there
pub up_to : (xs : List Entry) (i : ℕ) (e : Entry) → i < length xs → e ≡ get_or xs i e → take (i + 1) xs ≡ take i xs ++ e ∷ []
up_to xs i e h same = take_more xs i e h ∙ ap (λ d. take i xs ++ d ∷ []) (sym same)

-- what a name stands for where a block begins last, where it is declared last, and where another is
pub meant_at_begin : (names : Names) (items : Program) (xs : List Entry) (i : ℕ) (e : Entry) (x : Text) → i < length xs → e ≡ get_or xs i e → e ≡ E.Begin
    → meant (entered names items (reverse (take (i + 1) xs))) x ≡ meant (entered names items (reverse (take i xs))) x
meant_at_begin names items xs i e x h same is = ap (λ s. meant s x) (begin_entered names items (take i xs) (take (i + 1) xs) (up_to xs i e h same ∙ ap (λ d. take i xs ++ d ∷ []) is))

pub meant_at_name : (names : Names) (items : Program) (xs : List Entry) (i : ℕ) (e : Entry) (l : Local) (n : Name) → AreApart names → i < length xs → e ≡ get_or xs i e → e ≡ E.Named l → (l.name.0 == n.0) ≡ true
    → meant (entered names items (reverse (take (i + 1) xs))) (names n) ≡ ALocal 0 (type_of names l.of)
meant_at_name names items xs i e l n apart h same is equal =
    let s = entered names items (reverse (take i xs)) in
    ap (λ s. meant s (names n)) (name_entered names items (take i xs) (take (i + 1) xs) l (up_to xs i e h same ∙ ap (λ d. take i xs ++ d ∷ []) is))
    ∙ meant_last s.items s.blocks (local_of names l) (names n) (apart.told l.name n ∙ equal)

pub meant_past_name : (names : Names) (items : Program) (xs : List Entry) (i : ℕ) (e : Entry) (l : Local) (n : Name) → AreApart names → i < length xs → e ≡ get_or xs i e → e ≡ E.Named l → (l.name.0 == n.0) ≡ false
    → meant (entered names items (reverse (take (i + 1) xs))) (names n) ≡ meant (entered names items (reverse (take i xs))) (names n)
meant_past_name names items xs i e l n apart h same is other =
    let s = entered names items (reverse (take i xs)) in
    ap (λ s. meant s (names n)) (name_entered names items (take i xs) (take (i + 1) xs) l (up_to xs i e h same ∙ ap (λ d. take i xs ++ d ∷ []) is))
    ∙ meant_before s.items s.blocks (local_of names l) (names n) (apart.told l.name n ∙ other)

-- the same of whether the innermost block has a name
pub here_at_begin : (names : Names) (items : Program) (xs : List Entry) (i : ℕ) (e : Entry) (x : Text) → i < length xs → e ≡ get_or xs i e → e ≡ E.Begin
    → is_here (entered names items (reverse (take (i + 1) xs))).blocks x ≡ false
here_at_begin names items xs i e x h same is = ap (λ s. is_here s.blocks x) (begin_entered names items (take i xs) (take (i + 1) xs) (up_to xs i e h same ∙ ap (λ d. take i xs ++ d ∷ []) is))

pub here_at_name : (names : Names) (items : Program) (xs : List Entry) (i : ℕ) (e : Entry) (l : Local) (n : Name) → AreApart names → i < length xs → e ≡ get_or xs i e → e ≡ E.Named l → (l.name.0 == n.0) ≡ true
    → is_here (entered names items (reverse (take (i + 1) xs))).blocks (names n) ≡ true
here_at_name names items xs i e l n apart h same is equal =
    let s = entered names items (reverse (take i xs)) in
    ap (λ s. is_here s.blocks (names n)) (name_entered names items (take i xs) (take (i + 1) xs) l (up_to xs i e h same ∙ ap (λ d. take i xs ++ d ∷ []) is))
    ∙ here_last s.items s.blocks (local_of names l) (names n) (apart.told l.name n ∙ equal)

pub here_past_name : (names : Names) (items : Program) (xs : List Entry) (i : ℕ) (e : Entry) (l : Local) (n : Name) → AreApart names → i < length xs → e ≡ get_or xs i e → e ≡ E.Named l → (l.name.0 == n.0) ≡ false
    → is_here (entered names items (reverse (take (i + 1) xs))).blocks (names n) ≡ is_here (entered names items (reverse (take i xs))).blocks (names n)
here_past_name names items xs i e l n apart h same is other =
    let s = entered names items (reverse (take i xs)) in
    ap (λ s. is_here s.blocks (names n)) (name_entered names items (take i xs) (take (i + 1) xs) l (up_to xs i e h same ∙ ap (λ d. take i xs ++ d ∷ []) is))
    ∙ here_before s.items s.blocks (local_of names l) (names n) (apart.told l.name n ∙ other)

-- blocks leave the items alone
pub items_inside : (names : Names) (items : Program) (es : List Entry) → (entered names items es).items ≡ items
items_inside names items [] = refl
items_inside names items (E.Begin ∷ es) = items_inside names items es
items_inside names items (E.Named l ∷ es) = items_inside names items es

-- one more parameter is entered
pub parameter_entered : (names : Names) (s t : Scope) (ps : List Parameter) (i : ℕ) (p : Parameter) → i < length ps → p ≡ get_or ps i p → t ≡ with_parameter names s p
    → with_parameters names s (drop i ps) ≡ with_parameters names t (drop (i + 1) ps)
parameter_entered names s t ps i p h same is =
    let d : drop i ps ≡ p ∷ drop (i + 1) ps = drop-cons ps i p h ∙ ap (λ y. y ∷ drop (suc i) ps) (sym same) ∙ ap (λ j. p ∷ drop j ps) (sym (add-one i)) in
    ap (with_parameters names s) d ∙ ap (λ r. with_parameters names r (drop (i + 1) ps)) (sym is)
