-- Flat bodies break no rule: rows, openings, labels, and the names that they declare.
use Rattle.std.proofs.Common.{◌≡◌, ◌||◌, not, ℕ, ◌+◌, ◌≤◌, Bool, true, false, cond, List, [], ◌∷◌, ◌++◌, length, map, reverse, drop, Some, None, bytes_eq, refl, sym, ◌∙◌, ap, ap₂, subst, arith}
use Rattle.std.specs.Prelude.{is_some}
use Rattle.std.proofs.lemmas.List.{append-nil, map-append, length-append, length-map, drop_all}
use Rattle.cpc_base.specs.Bytes.{Text}
use Rattle.cpc_base.specs.declared.stop.Dialect.TheVariants as D
use Rattle.cpc_base.proofs.Truth.{by_false_true, and_both}
use Rattle.cpc_tree.specs.Syntax.{TyPointer, TyStruct, ENamed, EArrow, Stmt, Block, Empty, Declare, Assign, Call, Detach, Spawn, If, While, DoWhile, For, Goto, Label, Break, Continue, Return, Stmts, NoStmt, AndStmt, Absent, Present, Variable, Program}
use Rattle.cpc_tree.specs.Located.{LParameter}
use Rattle.cpc_tree.specs.Typing.{ALocal, APlace, size, field}
use Rattle.cpc_tree.specs.Primitives.{any_pointer}
use Rattle.cpc_meaning.proofs.Functions.{text_same, same_text, texts_differ}
use Rattle.cpc_check_rules.specs.declared.rule.Rule.{Rule}
use Rattle.cpc_check_rules.specs.declared.rule.Rule.TheVariants.{Twice, Incomplete, NoLabel, LabelTwice, Reserved}
use Rattle.cpc_check_rules.specs.Rule.{at_if}
use Rattle.cpc_check_rules.specs.Scopes as S
use Rattle.cpc_check_rules.specs.Scopes.{Scope, in_block, in_blocks, in_items, meant, takes_value, takes_typed, with_name, has_cells, is_sized, is_here}
use Rattle.cpc_check_rules.specs.Operators.{Where}
use Rattle.cpc_check_rules.specs.StmtRules.{behind, stmts_breaks}
use Rattle.cpc_check_rules.specs.FunctionRules.{among, repeated, missing, labels, labels_in, gotos, gotos_in, stray_breaks, stray_in, reserved_breaks, parameter_names, locals, locals_in, first_of}
use Rattle.cpc_check_laws.proofs.Native.NativeValues.{both_none}
use Rattle.cpc_check_laws.proofs.Native.OnePlace.{here, ident_here, stmt_here, stmts_here}
use Rattle.cpc_convert_flat_laws.specs.Flat.{before, is_plain, is_line, is_flat}
use Rattle.cpc_convert_flat_laws.specs.Locals.{Load, loads_one, declares_one}
use Rattle.cpc_chains_store_laws.specs.Frames.{opens_frame}
use Rattle.cpc_convert_flat_laws.proofs.Rows.{before_append}
use Rattle.cpc_lifted_laws.specs.Complete.Sets.{Sets}
use Rattle.cpc_chains_laws.specs.Complete.Flat.{named_at, all_named_at, called, Runs, NoRow, AndDeclare, AndLine, NoneOf, NoText, AndOther, Distinct, AndDistinct, OneOf, IsFirst, IsLater, AllOf, NoneAsked, AndKnown, names_of, line_labels, plain_gotos, line_gotos, labels_of, gotos_of, line_locals, locals_of, all_flat, NoneKept, NoneIsKept, AndUnkept, loaded, Loadable, NoLoad, AndLoad, AllHaveCells, NoCells, AndCells, Fresh, NoFresh, AndFresh}
use Rattle.cpc_chains_laws.specs.Complete.Laws.{FlatFine}
use Rattle.cpc_lifted_laws.proofs.Complete.Makers.{scalar_used, local_has, arrow_has}
use Rattle.cpc_lifted_laws.proofs.Complete.Rows.{start_fine}

-- ---- texts

distinct_parts : (x : Text) (xs : List Text) → Distinct (x ∷ xs) → NoneOf x xs × Distinct xs
distinct_parts _ _ (AndDistinct x xs n d) = (n, d)

-- a text that is none of these is apart from each of them
pub none_apart : (x y : Text) (ys : List Text) → NoneOf x ys → OneOf y ys → bytes_eq x y ≡ false
none_apart x y _ (AndOther z ys e n) (IsFirst _ _ i) = texts_differ x y (λ (k : x ≡ y). by_false_true (sym e ∙ (let j : z ≡ y = same_text z y i in ap (λ a. bytes_eq a x) j ∙ ap (λ a. bytes_eq y a) k ∙ text_same y)))
none_apart x y _ (AndOther z ys e n) (IsLater _ _ o) = none_apart x y ys n o
none_apart x y _ NoText o = elim o [ ]

-- ---- rows

-- behind a line is where it stands
line_behind : (v : Where) (s : Stmt) → is_line s ≡ true → behind v (stmt_here s) ≡ v
line_behind v (Declare x t o) h = by_false_true h
line_behind v (Block ss) h = refl
line_behind v Empty h = refl
line_behind v (Assign e op a) h = refl
line_behind v (Call to f es) h = refl
line_behind v (Detach to f es) h = refl
line_behind v (Spawn f es) h = refl
line_behind v (If t a b) h = refl
line_behind v (While t s) h = refl
line_behind v (DoWhile s t) h = refl
line_behind v (For first t step s) h = refl
line_behind v (Goto l) h = refl
line_behind v (Label l s) h = refl
line_behind v Break h = refl
line_behind v Continue h = refl
line_behind v (Return o) h = refl

-- rows before statements that break no rule
pub rows_fine : (v u : Where) (ss : List Stmt) (rest : Stmts) → Runs v ss u → stmts_breaks u (stmts_here rest) ≡ [] → stmts_breaks v (stmts_here (before ss rest)) ≡ []
rows_fine _ _ _ rest (NoRow v) k = k
rows_fine _ _ _ rest (AndDeclare v u x t o ss e f g h) k =
    both_none _ _ (both_none _ _ (ap (λ b. at_if b here Twice) e) (both_none _ _ (ap (λ b. at_if (not b) here Incomplete) f) g)) (rows_fine (named_at v (called x t)) u ss rest h k)
rows_fine _ _ _ rest (AndLine v u s ss e f h) k =
    both_none _ _ f (subst (λ w. stmts_breaks w (stmts_here (before ss rest)) ≡ []) (sym (line_behind v s e)) (rows_fine v u ss rest h k))

pub runs_both : (v u t : Where) (ss rs : List Stmt) → Runs v ss u → Runs u rs t → Runs v (ss ++ rs) t
runs_both _ _ t _ rs (NoRow v) k = k
runs_both _ _ t _ rs (AndDeclare v u x d o ss e f g h) k = AndDeclare v t x d o (ss ++ rs) e f g (runs_both (named_at v (called x d)) u t ss rs h k)
runs_both _ _ t _ rs (AndLine v u s ss e f h) k = AndLine v t s (ss ++ rs) e f (runs_both v u t ss rs h k)

-- ---- openings

-- a variable that is declared hides no other
pub later_meant : (v : Where) (x : Variable) (y : Text) → bytes_eq x.called y ≡ false → meant (named_at v x).scope y ≡ meant v.scope y
later_meant v x y e = go v.scope.blocks
  where
    go : (blocks : List S.Block) → in_blocks (with_name (record { items = v.scope.items; blocks = blocks }) x).blocks (in_items (reverse v.scope.items) y) y ≡ in_blocks blocks (in_items (reverse v.scope.items) y) y
    go [] = simp (e) refl
    go (b ∷ bs) = simp (e) refl

pub first_meant : (v : Where) (x : Variable) (y : Text) → bytes_eq x.called y ≡ true → meant (named_at v x).scope y ≡ ALocal 0 x.type
first_meant v x y e = go v.scope.blocks
  where
    go : (blocks : List S.Block) → in_blocks (with_name (record { items = v.scope.items; blocks = blocks }) x).blocks (in_items (reverse v.scope.items) y) y ≡ ALocal 0 x.type
    go [] = simp (e) refl
    go (b ∷ bs) = simp (e) refl

fresh_parts : (blocks : List S.Block) (x : Variable) (xs : List Variable) → Fresh blocks (x ∷ xs) → (is_here blocks x.called ≡ false) × Fresh (with_name (record { items = []; blocks = blocks }) x).blocks xs
fresh_parts _ _ _ (AndFresh blocks x xs e f) = (e, f)

loads_over : (items : Program) (e tag : Text) (k : ℕ) (ls : List Load) → Loadable items tag e ls → (v : Where) → v.scope.items ≡ items → meant v.scope e ≡ ALocal k (TyPointer (TyStruct tag)) → Fresh v.scope.blocks (map loaded ls)
    → Runs v (map (loads_one e) ls) (all_named_at v (map loaded ls))
loads_over items e tag k _ NoLoad v same h f = NoRow v
loads_over items e tag k _ (AndLoad l ls n t i j s c z more) v same h f =
    let x = loaded l in
    let u = named_at v x in
    let g = fresh_parts v.scope.blocks x (map loaded ls) f in
    let there : meant u.scope e ≡ ALocal k (TyPointer (TyStruct tag)) = later_meant v x e i ∙ h in
    let is_field : field u.scope.items tag l.field ≡ Some (n, t) = ap (λ items. field items tag l.field) same ∙ j in
    let has = arrow_has u (ENamed e) (APlace (TyPointer (TyStruct tag))) tag l.field n t (local_has u e k (TyPointer (TyStruct tag)) there) refl is_field in
    let sets : Sets u l.type (EArrow (ENamed e) l.field) = record { type = APlace t; has = has; takes = rw (scalar_used t s) c } in
    AndDeclare v (all_named_at u (map loaded ls)) l.variable l.type (Some (EArrow (ENamed e) l.field)) (map (loads_one e) ls) g.0 (ap (λ items. has_cells (size items l.type)) same ∙ z)
    (start_fine u l.variable l.type (EArrow (ENamed e) l.field) sets) (loads_over items e tag k ls more u same there g.1)

pub loads_run : (v : Where) (e tag : Text) (k : ℕ) (ls : List Load) → meant v.scope e ≡ ALocal k (TyPointer (TyStruct tag)) → Loadable v.scope.items tag e ls → Fresh v.scope.blocks (map loaded ls) → Runs v (map (loads_one e) ls) (all_named_at v (map loaded ls))
loads_run v e tag k ls h loads f = loads_over v.scope.items e tag k ls loads v refl h f

declares_over : (items : Program) (xs : List Variable) → AllHaveCells items xs → (v : Where) → v.scope.items ≡ items → Fresh v.scope.blocks xs → Runs v (map declares_one xs) (all_named_at v xs)
declares_over items _ NoCells v same f = NoRow v
declares_over items _ (AndCells x xs c more) v same f =
    let g = fresh_parts v.scope.blocks x xs f in
    AndDeclare v (all_named_at (named_at v x) xs) x.called x.type None (map declares_one xs) g.0 (ap (λ items. has_cells (size items x.type)) same ∙ c) refl (declares_over items xs more (named_at v x) same g.1)

pub declares_run : (v : Where) (xs : List Variable) → AllHaveCells v.scope.items xs → Fresh v.scope.blocks xs → Runs v (map declares_one xs) (all_named_at v xs)
declares_run v xs cells f = declares_over v.scope.items xs cells v refl f

fresh_left : (blocks : List S.Block) (xs ys : List Variable) → Fresh blocks (xs ++ ys) → Fresh blocks xs
fresh_left blocks [] ys f = NoFresh blocks
fresh_left blocks (x ∷ xs) ys f = let g = fresh_parts blocks x (xs ++ ys) f in AndFresh blocks x xs g.0 (fresh_left (with_name (record { items = []; blocks = blocks }) x).blocks xs ys g.1)

fresh_right : (v : Where) (xs ys : List Variable) → Fresh v.scope.blocks (xs ++ ys) → Fresh (all_named_at v xs).scope.blocks ys
fresh_right v [] ys f = f
fresh_right v (x ∷ xs) ys f = fresh_right (named_at v x) xs ys (fresh_parts v.scope.blocks x (xs ++ ys) f).1

same_items : (v : Where) (xs : List Variable) → (all_named_at v xs).scope.items ≡ v.scope.items
same_items v [] = refl
same_items v (x ∷ xs) = same_items (named_at v x) xs

pub named_both : (v : Where) (xs ys : List Variable) → all_named_at v (xs ++ ys) ≡ all_named_at (all_named_at v xs) ys
named_both v [] ys = refl
named_both v (x ∷ xs) ys = named_both (named_at v x) xs ys

-- what an opening declares: the frame, what is loaded, and the other locals
abbrev pub opened : (frame tag : Text) → List Load → List Variable → List Variable
opened e tag ls ds = called e (TyPointer (TyStruct tag)) ∷ (map loaded ls ++ ds)

-- a piece opens with rows that break no rule
pub opens_run : (v : Where) (k e tag : Text) (j : ℕ) (ls : List Load) (ds : List Variable) → meant v.scope k ≡ ALocal j any_pointer → bytes_eq e k ≡ false → Fresh v.scope.blocks (opened e tag ls ds)
    → Loadable v.scope.items tag e ls → AllHaveCells v.scope.items ds
    → Runs v (Declare e (TyPointer (TyStruct tag)) (Some (ENamed k)) ∷ (map (loads_one e) ls ++ map declares_one ds)) (all_named_at v (opened e tag ls ds))
opens_run v k e tag j ls ds h apart fresh loads cells =
    let x = called e (TyPointer (TyStruct tag)) in
    let u = named_at v x in
    let g = fresh_parts v.scope.blocks x (map loaded ls ++ ds) fresh in
    let there : meant u.scope k ≡ ALocal j any_pointer = later_meant v x k apart ∙ h in
    let sets : Sets u (TyPointer (TyStruct tag)) (ENamed k) = record { type = APlace any_pointer; has = local_has u k j any_pointer there; takes = refl } in
    let first = loads_run u e tag 0 ls (first_meant v x e (text_same e)) loads (fresh_left u.scope.blocks (map loaded ls) ds g.1) in
    let second = declares_run (all_named_at u (map loaded ls)) ds (subst (λ items. AllHaveCells items ds) (sym (same_items u (map loaded ls))) cells) (fresh_right u (map loaded ls) ds g.1) in
    AndDeclare v (all_named_at v (opened e tag ls ds)) e (TyPointer (TyStruct tag)) (Some (ENamed k)) (map (loads_one e) ls ++ map declares_one ds) g.0 refl (start_fine u e (TyPointer (TyStruct tag)) (ENamed k) sets)
    (subst (Runs u (map (loads_one e) ls ++ map declares_one ds)) (sym (named_both u (map loaded ls) ds)) (runs_both u (all_named_at u (map loaded ls)) (all_named_at (all_named_at u (map loaded ls)) ds) (map (loads_one e) ls) (map declares_one ds) first second))

-- so its body breaks none, where what stands behind the opening breaks none
pub opens_fine : (v : Where) (k e tag : Text) (j : ℕ) (ls : List Load) (ds : List Variable) (rest : Stmts) → meant v.scope k ≡ ALocal j any_pointer → bytes_eq e k ≡ false → Fresh v.scope.blocks (opened e tag ls ds)
    → Loadable v.scope.items tag e ls → AllHaveCells v.scope.items ds
    → stmts_breaks (all_named_at v (opened e tag ls ds)) (stmts_here rest) ≡ [] → stmts_breaks v (stmts_here (opens_frame k e tag ls ds rest)) ≡ []
opens_fine v k e tag j ls ds rest h apart fresh loads cells fine =
    subst (λ ss. stmts_breaks v (stmts_here (AndStmt (Declare e (TyPointer (TyStruct tag)) (Some (ENamed k))) ss)) ≡ []) (before_append (map (loads_one e) ls) (map declares_one ds) rest)
    (rows_fine v (all_named_at v (opened e tag ls ds)) (Declare e (TyPointer (TyStruct tag)) (Some (ENamed k)) ∷ (map (loads_one e) ls ++ map declares_one ds)) rest (opens_run v k e tag j ls ds h apart fresh loads cells) fine)

-- ---- fresh names

pub fresh_in : (b : S.Block) (bs : List S.Block) (xs : List Variable) → Distinct (names_of xs) → ((x : Text) → OneOf x (names_of xs) → in_block b x ≡ None) → Fresh (b ∷ bs) xs
fresh_in b bs [] d h = NoFresh (b ∷ bs)
fresh_in b bs (x ∷ xs) d h =
    let g = distinct_parts x.called (names_of xs) d in
    AndFresh (b ∷ bs) x xs (ap is_some (h x.called (IsFirst x.called (names_of xs) (text_same x.called)))) (fresh_in (x ∷ b) bs xs g.1 (λ y o. others y (none_apart x.called y (names_of xs) g.0 o) (h y (IsLater x.called (names_of xs) o))))
  where
    others : (y : Text) → bytes_eq x.called y ≡ false → in_block b y ≡ None → in_block (x ∷ b) y ≡ None
    others y e k = ap (λ c. cond c (Some x.type) (in_block b y)) e ∙ k

-- ---- labels

pub repeated_fine : (rule : Rule) (before xs : List Text) → Distinct xs → ((x : Text) → OneOf x xs → among x (map ident_here before) ≡ false) → repeated rule (map ident_here before) (map ident_here xs) ≡ []
repeated_fine rule before [] d h = refl
repeated_fine rule before (x ∷ xs) d h =
    let g = distinct_parts x xs d in
    both_none _ _ (ap (λ b. at_if b here rule) (h x (IsFirst x xs (text_same x))))
    (repeated_fine rule (x ∷ before) xs g.1 (λ y o. ap (λ b. b || among y (map ident_here before)) (none_apart x y xs g.0 o) ∙ h y (IsLater x xs o)))

-- texts of which no two are one
pub distinct_fine : (rule : Rule) (xs : List Text) → Distinct xs → repeated rule [] (map ident_here xs) ≡ []
distinct_fine rule xs d = repeated_fine rule [] xs d (λ x o. refl)

one_among : (x : Text) (known : List Text) → OneOf x known → among x (map ident_here known) ≡ true
one_among x _ (IsFirst y ys e) = ap (λ b. b || among x (map ident_here ys)) e
one_among x _ (IsLater y ys o) = later (bytes_eq y x) (one_among x ys o)
  where
    later : (b : Bool) → among x (map ident_here ys) ≡ true → (b || among x (map ident_here ys)) ≡ true
    later true e = refl
    later false e = e

-- texts that are all among these
pub known_fine : (known xs : List Text) → AllOf known xs → missing (map ident_here known) (map ident_here xs) ≡ []
known_fine known _ NoneAsked = refl
known_fine known _ (AndKnown x xs o h) = both_none _ _ (ap (λ b. at_if (not b) here NoLabel) (one_among x known o)) (known_fine known xs h)

-- ---- lines

-- what a statement names, and that no loop is left in it
record Names (s : Stmt) (labelled asked declared : List Text) : Type 0 where
  labels : labels (stmt_here s) ≡ map ident_here labelled
  gotos : gotos (stmt_here s) ≡ map ident_here asked
  locals : locals (stmt_here s) ≡ map ident_here declared
  stray : stray_breaks (stmt_here s) ≡ []

plain_names : (s : Stmt) → is_plain s ≡ true → Names s [] (plain_gotos s) []
plain_names Empty h = record { labels = refl; gotos = refl; locals = refl; stray = refl }
plain_names (Assign e op a) h = record { labels = refl; gotos = refl; locals = refl; stray = refl }
plain_names (Call to f es) h = record { labels = refl; gotos = refl; locals = refl; stray = refl }
plain_names (Detach to f es) h = record { labels = refl; gotos = refl; locals = refl; stray = refl }
plain_names (Spawn f es) h = record { labels = refl; gotos = refl; locals = refl; stray = refl }
plain_names (Goto l) h = record { labels = refl; gotos = refl; locals = refl; stray = refl }
plain_names (Return o) h = record { labels = refl; gotos = refl; locals = refl; stray = refl }
plain_names (Block ss) h = by_false_true h
plain_names (Declare x t o) h = by_false_true h
plain_names (If e a b) h = by_false_true h
plain_names (While t s) h = by_false_true h
plain_names (DoWhile s t) h = by_false_true h
plain_names (For first t step s) h = by_false_true h
plain_names (Label l s) h = by_false_true h
plain_names Break h = by_false_true h
plain_names Continue h = by_false_true h

line_names : (s : Stmt) → is_line s ≡ true → Names s (line_labels s) (line_gotos s) []
line_names (Label l s) h = let k = line_names s h in record { labels = ap (λ xs. ident_here l ∷ xs) k.labels; gotos = k.gotos; locals = k.locals; stray = k.stray }
line_names (If e s Absent) h =
    let k = plain_names s h in
    record { labels = ap (λ xs. xs ++ []) k.labels; gotos = append-nil (gotos (stmt_here s)) ∙ k.gotos; locals = ap (λ xs. xs ++ []) k.locals; stray = ap (λ xs. xs ++ []) k.stray }
line_names (If e s (Present t)) h = by_false_true h
line_names Empty h = plain_names Empty h
line_names (Assign e op a) h = plain_names (Assign e op a) h
line_names (Call to f es) h = plain_names (Call to f es) h
line_names (Detach to f es) h = plain_names (Detach to f es) h
line_names (Spawn f es) h = plain_names (Spawn f es) h
line_names (Goto l) h = plain_names (Goto l) h
line_names (Return o) h = plain_names (Return o) h
line_names (Block ss) h = by_false_true h
line_names (Declare x t o) h = by_false_true h
line_names (While t s) h = by_false_true h
line_names (DoWhile s t) h = by_false_true h
line_names (For first t step s) h = by_false_true h
line_names Break h = by_false_true h
line_names Continue h = by_false_true h

flat_names : (s : Stmt) → is_flat s ≡ true → Names s (line_labels s) (line_gotos s) (line_locals s)
flat_names (Declare x t o) h = record { labels = refl; gotos = refl; locals = refl; stray = refl }
flat_names (Label l s) h = line_names (Label l s) h
flat_names (If e a b) h = line_names (If e a b) h
flat_names Empty h = line_names Empty h
flat_names (Assign e op a) h = line_names (Assign e op a) h
flat_names (Call to f es) h = line_names (Call to f es) h
flat_names (Detach to f es) h = line_names (Detach to f es) h
flat_names (Spawn f es) h = line_names (Spawn f es) h
flat_names (Goto l) h = line_names (Goto l) h
flat_names (Return o) h = line_names (Return o) h
flat_names (Block ss) h = by_false_true h
flat_names (While t s) h = by_false_true h
flat_names (DoWhile s t) h = by_false_true h
flat_names (For first t step s) h = by_false_true h
flat_names Break h = by_false_true h
flat_names Continue h = by_false_true h

-- ---- flat bodies

-- the names of a flat body
pub record AllNames (ss : List Stmt) : Type 0 where
  pub labels : labels_in (stmts_here (before ss NoStmt)) ≡ map ident_here (labels_of ss)
  pub gotos : gotos_in (stmts_here (before ss NoStmt)) ≡ map ident_here (gotos_of ss)
  pub locals : locals_in (stmts_here (before ss NoStmt)) ≡ map ident_here (locals_of ss)
  pub stray : stray_in (stmts_here (before ss NoStmt)) ≡ []

pub all_names : (ss : List Stmt) → all_flat ss ≡ true → AllNames ss
all_names [] h = record { labels = refl; gotos = refl; locals = refl; stray = refl }
all_names (s ∷ ss) h =
    let g = and_both (is_flat s) (all_flat ss) h in
    let k = flat_names s g.0 in
    let l = all_names ss g.1 in
    record {
      labels = ap₂ (λ x y. x ++ y) k.labels l.labels ∙ sym (map-append ident_here (line_labels s) (labels_of ss));
      gotos = ap₂ (λ x y. x ++ y) k.gotos l.gotos ∙ sym (map-append ident_here (line_gotos s) (gotos_of ss));
      locals = ap₂ (λ x y. x ++ y) k.locals l.locals ∙ sym (map-append ident_here (line_locals s) (locals_of ss));
      stray = both_none _ _ k.stray l.stray;
    }

pub unkept_fine : (xs : List Text) → NoneKept xs → reserved_breaks D.Event (map ident_here xs) ≡ []
unkept_fine _ NoneIsKept = refl
unkept_fine _ (AndUnkept x xs e h) = both_none _ _ (ap (λ b. at_if b here Reserved) e) (unkept_fine xs h)

pub flat_fine : (ps : List LParameter) (ss : List Stmt) → all_flat ss ≡ true → Distinct (labels_of ss) → AllOf (labels_of ss) (gotos_of ss) → NoneKept (locals_of ss ++ labels_of ss)
    → length (parameter_names ps) + length (locals_of ss) ≤ 1023 → FlatFine ps ss
flat_fine ps ss flat distinct known unkept few =
    let k = all_names ss flat in
    record {
      labelled = ap₂ (λ x y. repeated LabelTwice [] x ++ missing x y) k.labels k.gotos ∙ both_none _ _ (distinct_fine LabelTwice (labels_of ss) distinct) (known_fine (labels_of ss) (gotos_of ss) known);
      stray = k.stray;
      reserved = ap₂ (λ x y. reserved_breaks D.Event (x ++ y)) k.locals k.labels ∙ ap (reserved_breaks D.Event) (sym (map-append ident_here (locals_of ss) (labels_of ss))) ∙ unkept_fine (locals_of ss ++ labels_of ss) unkept;
      many = ap (λ x. first_of (drop 1023 (parameter_names ps ++ x))) k.locals ∙ ap first_of (drop_all 1023 (parameter_names ps ++ map ident_here (locals_of ss)) (few_names (locals_of ss) few));
    }
  where
    few_names : (xs : List Text) → length (parameter_names ps) + length xs ≤ 1023 → length (parameter_names ps ++ map ident_here xs) ≤ 1023
    few_names xs h = let e : length (parameter_names ps ++ map ident_here xs) ≡ length (parameter_names ps) + length xs = length-append (parameter_names ps) (map ident_here xs) ∙ ap (λ n. length (parameter_names ps) + n) (length-map xs ident_here) in omega (arith, e, h)
