-- The labels of statements as the code adds them to a table, one after the other.
use Rattle.std.proofs.Common.{◌≡◌, ℕ, suc, ◌+◌, ◌<◌, Bool, true, false, List, [], ◌∷◌, ◌++◌, length, take, get_or, Option, Some, None, if◌then◌else◌, bytes_eq, cond, nat_eq, refl, sym, ap, subst, ◌∙◌, append_assoc, arith, Vec, Box, Global}
use Rattle.std.specs.Prelude.{IfSome}
use Rattle.std.proofs.lemmas.List.{map-append, take_more, length-take-le}
use Rattle.cpc_base.specs.Bytes.{Text}
use Rattle.cpc_base.specs.declared.names.Name.{Name}
use Rattle.cpc_base.specs.declared.stop.Place.{Place}
use Rattle.cpc_tree.specs.declared.program.Expr as GExpr
use Rattle.cpc_tree.specs.declared.program.Statement.{Statement}
use Rattle.cpc_tree.specs.declared.program.Statement.TheVariants as T
use Rattle.cpc_tree.specs.Syntax.{Stmt, Present}
use Rattle.cpc_tree.specs.Erase.{Names, stmt_of, list_of}
use Rattle.cpc_tree.specs.Points.{Path, Nth, TheTest, TheYes, TheNo, TheStep, TheBody, or_else, path_under, path_later, enter, labelled, labelled_in}
use Rattle.cpc_tree.proofs.Nodes.{for_seen}
use Rattle.cpc_check_rules.specs.Apart.{AreApart}
use Rattle.cpc_native_points.specs.declared.parts.Part as G
use Rattle.cpc_native_points.specs.declared.parts.Part.TheVariants as V
use Rattle.cpc_native_points.specs.declared.table.Node.{Node}
use Rattle.cpc_native_points.specs.declared.table.Table.{Table}
use Rattle.cpc_native_points.specs.Parts.{child, statement_at}
use Rattle.cpc_native_points.specs.Seen.{part_of, path_of}
use Rattle.cpc_native_points.specs.Tabled.{place_at, or_place, IsWay, AtBody, Grows, IsLed, LeadsTo, Tells, under_way, Gathers}
use Rattle.cpc_native_points.proofs.Nodes.{do_seen, while_seen}
use Rattle.cpc_native_points.proofs.Walking.{part_there}
use Rattle.cpc_native_points.proofs.Ways.{way_more, way_added}

-- ---- paths

pub or_none : (o : Option Path) → or_else o None ≡ o
or_none None = refl
or_none (Some p) = refl

or_assoc : (a b c : Option Path) → or_else (or_else a b) c ≡ or_else a (or_else b c)
or_assoc None b c = refl
or_assoc (Some p) b c = refl

under_both : (way : List G.Part) (a b : Option Path) → under_way way (or_else a b) ≡ or_else (under_way way a) (under_way way b)
under_both way None b = refl
under_both way (Some p) b = refl

under_part : (way : List G.Part) (n : G.Part) (o : Option Path) → under_way (way ++ n ∷ []) o ≡ under_way way (path_under (part_of n) o)
under_part way n None = refl
under_part way n (Some p) = ap (λ q. Some (q ++ p)) (map-append part_of way (n ∷ [])) ∙ ap (λ (q : Path). Some q) (append_assoc (path_of way) (part_of n ∷ []) p)

later_else : (a b : Option Path) → path_later (or_else a b) ≡ or_else (path_later a) (path_later b)
later_else None b = refl
later_else (Some []) b = refl
later_else (Some (Nth k ∷ p)) b = refl
later_else (Some (TheTest ∷ p)) b = refl
later_else (Some (TheYes ∷ p)) b = refl
later_else (Some (TheNo ∷ p)) b = refl
later_else (Some (TheStep ∷ p)) b = refl
later_else (Some (TheBody ∷ p)) b = refl

later_under : (n : ℕ) (o : Option Path) → path_later (path_under (Nth n) o) ≡ path_under (Nth (suc n)) o
later_under n None = refl
later_under n (Some p) = refl

-- ---- rows

last_labelled : (names : Names) (l : Text) (ys : List Statement) (x : Statement)
    → labelled_in l (list_of names (ys ++ x ∷ [])) ≡ or_else (labelled_in l (list_of names ys)) (path_under (Nth (length ys)) (labelled l (stmt_of names x)))
last_labelled names l [] x = or_none (path_under (Nth 0) (labelled l (stmt_of names x)))
last_labelled names l (y ∷ ys) x =
    let a = path_under (Nth 0) (labelled l (stmt_of names y)) in
    let b = labelled_in l (list_of names ys) in
    let o = labelled l (stmt_of names x) in
    ap (λ c. or_else a (path_later c)) (last_labelled names l ys x)
    ∙ ap (or_else a) (later_else b (path_under (Nth (length ys)) o) ∙ ap (or_else (path_later b)) (later_under (length ys) o))
    ∙ sym (or_assoc a (path_later b) (path_under (Nth (suc (length ys))) o))

-- one more statement of a row
pub row_labelled : (names : Names) (l : Text) (xs : List Statement) (n : ℕ) (x : Statement) → n < length xs → x ≡ get_or xs n x
    → labelled_in l (list_of names (take (n + 1) xs)) ≡ or_else (labelled_in l (list_of names (take n xs))) (path_under (Nth n) (labelled l (stmt_of names x)))
row_labelled names l xs n x h e =
    ap (λ ys. labelled_in l (list_of names ys)) (take_more xs n x h ∙ ap (λ (y : Statement). take n xs ++ y ∷ []) (sym e))
    ∙ last_labelled names l (take n xs) x
    ∙ ap (λ k. or_else (labelled_in l (list_of names (take n xs))) (path_under (Nth k) (labelled l (stmt_of names x)))) (length-take-le n xs (omega arith))

-- ---- what tables tell

-- a statement was added
pub record Added (old new : Table) (part : G.Part) (above : Option ℕ) (k : ℕ) : Type 0 where
  pub number : k ≡ length old.nodes.items
  pub nodes : new.nodes.items ≡ old.nodes.items ++ record { part = part; above = above } ∷ []
  pub places : (x : ℕ) → place_at new x ≡ place_at old x

pub grows_added : (old new : Table) (part : G.Part) (above : Option ℕ) (k : ℕ) → Added old new part above k → Grows old new
grows_added old new part above k a = λ at way w.
    let P : List Node → Type 0 = λ ns. IsWay ns at way in
    subst P (sym a.nodes) (way_more old.nodes.items (record { part = part; above = above } ∷ []) at way w)

pub grows_both : (a b c : Table) → Grows a b → Grows b c → Grows a c
grows_both a b c f g = λ at way w. g at way (f at way w)

pub grows_same : (a b : Table) → b.nodes.items ≡ a.nodes.items → Grows a b
grows_same a b e = λ at way w. let P : List Node → Type 0 = λ ns. IsWay ns at way in subst P (sym e) w

way_to : (old new : Table) (part : G.Part) (above : Option ℕ) (k : ℕ) → Added old new part above k → (way : List G.Part) → IsWay old.nodes.items above way → IsWay new.nodes.items (Some k) (way ++ part ∷ [])
way_to old new part above k a way w =
    let n : Node = record { part = part; above = above } in
    let P : List Node → Type 0 = λ ns. IsWay ns (Some k) (way ++ part ∷ []) in
    subst P (sym a.nodes) (way_added old.nodes.items n k way a.number w)

module _ (body : Stmt) where
  leads_on : (a b : Table) → Grows a b → (place : Option ℕ) (o : Option Path) → LeadsTo body a.nodes.items place o → LeadsTo body b.nodes.items place o
  leads_on a b g None o h = h
  leads_on a b g (Some k) o h = record { way = h.way; is = g (Some k) h.way h.is; inner = h.inner; there = h.there; whole = h.whole }

  -- the same, where the ways stay and the labels are the same
  pub tells_on : (a b : Table) → Grows a b → ((x : ℕ) → place_at b x ≡ place_at a x) → (x : Name) (o : Option Path) → Tells body a x o → Tells body b x o
  tells_on a b g e x o h =
      let P : Option ℕ → Type 0 = λ place. LeadsTo body b.nodes.items place o in
      subst P (sym (e x.0)) (leads_on a b g (place_at a x.0) o h)

  tells_as : (t : Table) (x : Name) (o q : Option Path) → o ≡ q → Tells body t x o → Tells body t x q
  tells_as t x o q e h = let P : Option Path → Type 0 = Tells body t x in subst P e h

  -- a label that is put before the statement at the end of the way, unless there was one of its name
  led : (t : Table) (k : ℕ) (way : List G.Part) (inner : Stmt) (o : Option Path) → IsWay t.nodes.items (Some k) (way ++ V.Body ∷ []) → statement_at body (path_of (way ++ V.Body ∷ [])) ≡ Present inner
      → (old : Option ℕ) → LeadsTo body t.nodes.items old o → (b : Bool) → LeadsTo body t.nodes.items (or_place old (cond b (Some k) None)) (or_else o (under_way way (if b then Some (TheBody ∷ enter inner) else None)))
  led t k way inner o w there None h true =
      let s = enter inner in
      let q : Option Path = Some (path_of way ++ TheBody ∷ s) in
      let all : path_of (way ++ V.Body ∷ []) ++ s ≡ path_of way ++ TheBody ∷ s = ap (λ p. p ++ s) (map-append part_of way (V.Body ∷ [])) ∙ append_assoc (path_of way) (TheBody ∷ []) s in
      record { way = way ++ V.Body ∷ []; is = w; inner = inner; there = there; whole = ap (λ p. or_else p q) h ∙ ap (λ (p : Path). Some p) (sym all) }
  led t k way inner o w there None h false = or_none o ∙ h
  led t k way inner o w there (Some old) h b =
      let q = under_way way (if b then Some (TheBody ∷ enter inner) else None) in
      record { way = h.way; is = h.is; inner = h.inner; there = h.there; whole = ap (λ p. or_else p q) h.whole ∙ ap (λ (p : Path). Some p) refl }

  -- ---- where labels lead

  pub led_to : (nodes : List Node) (k : ℕ) (o : Option Path) (new : Path) → IsLed body nodes k o
      → ((way : List G.Part) (inner : Stmt) → IsWay nodes (Some k) way → statement_at body (path_of way) ≡ Present inner → new ≡ path_of way ++ enter inner) → IfSome o (λ q. new ≡ q)
  led_to nodes k o new l f = let P : Option Path → Type 0 = λ q. IfSome q (λ p. new ≡ p) in subst P (sym l.whole) (f l.way l.inner l.is l.there)

pub led_nowhere : (o : Option Path) (new : Path) → o ≡ None → IfSome o (λ q. new ≡ q)
led_nowhere o new e = let P : Option Path → Type 0 = λ q. IfSome q (λ p. new ≡ p) in subst P (sym e) tt

-- ---- one statement after the other

-- a label was put before the statement that was added
pub record Put (old new : Table) (label : Name) (k : ℕ) : Type 0 where
  pub nodes : new.nodes.items ≡ old.nodes.items
  pub places : (x : ℕ) → place_at new x ≡ or_place (place_at old x) (cond (nat_eq label.0 x) (Some k) None)

module _ (names : Names) where
  pub gathers_none : (t : Table) (at : Option ℕ) (s : Stmt) (label : Text → Option Path) → ((l : Text) → label l ≡ None) → Gathers names t t at s label
  gathers_none t at s label none = λ body way w there x o h.
      tells_as body t x o _ (sym (or_none o) ∙ ap (λ q. or_else o (under_way way q)) (sym (none (names x)))) h

  pub gathers_as : (a b : Table) (at : Option ℕ) (s : Stmt) (f g : Text → Option Path) → ((l : Text) → f l ≡ g l) → Gathers names a b at s f → Gathers names a b at s g
  gathers_as a b at s f g e h = λ body way w there x o i. tells_as body b x _ _ (ap (λ q. or_else o (under_way way q)) (e (names x))) (h body way w there x o i)

  pub gathers_both : (a b c : Table) (at : Option ℕ) (s : Stmt) (f g : Text → Option Path) → Grows a b → Gathers names a b at s f → Gathers names b c at s g → Gathers names a c at s (λ l. or_else (f l) (g l))
  gathers_both a b c at s f g grows first second = λ body way w there x o h.
      let p = f (names x) in
      let q = g (names x) in
      tells_as body c x _ _ (or_assoc o (under_way way p) (under_way way q) ∙ ap (or_else o) (sym (under_both way p q)))
      (second body way (grows at way w) there x (or_else o (under_way way p)) (first body way w there x o h))

  -- the labels of a part
  pub gathers_part : (a b c : Table) (part : G.Part) (at : Option ℕ) (k : ℕ) (around inner : Stmt) (f : Text → Option Path) → child around (part_of part) ≡ Present inner → Added a b part at k
      → Gathers names b c (Some k) inner f → Gathers names a c at around (λ l. path_under (part_of part) (f l))
  gathers_part a b c part at k around inner f is added more = λ body way w there x o h.
      tells_as body c x _ _ (ap (or_else o) (under_part way part (f (names x))))
      (more body (way ++ part ∷ []) (way_to a b part at k added way w) (part_there body around (Present inner) way part there is) x o (tells_on body a b (grows_added a b part at k added) added.places x o h))

  pub gathers_label : AreApart names → (a b c d : Table) (label : Name) (at : Option ℕ) (k : ℕ) (around inner : Stmt) → child around TheBody ≡ Present inner → Added a b V.Body at k → Put b c label k
      → Gathers names c d (Some k) inner (λ l. labelled l inner) → Gathers names a d at around (λ l. if bytes_eq (names label) l then Some (TheBody ∷ enter inner) else path_under TheBody (labelled l inner))
  gathers_label apart a b c d label at k around inner is added put more = λ body way w there x o h.
      let to = way_to a b V.Body at k added way w in
      let here = part_there body around (Present inner) way V.Body there is in
      let mine : Bool → Option Path = λ r. if r then Some (TheBody ∷ enter inner) else None in
      let same : nat_eq label.0 x.0 ≡ bytes_eq (names label) (names x) = sym (apart.told label x) in
      let before : Tells body b x o = tells_on body a b (grows_added a b V.Body at k added) added.places x o h in
      let N : List Node → Type 0 = λ ns. LeadsTo body ns (place_at c x.0) (or_else o (under_way way (mine (nat_eq label.0 x.0)))) in
      let P : Option ℕ → Type 0 = λ p. LeadsTo body b.nodes.items p (or_else o (under_way way (mine (nat_eq label.0 x.0)))) in
      let put_there : Tells body c x (or_else o (under_way way (mine (nat_eq label.0 x.0)))) = subst N (sym put.nodes) (subst P (sym (put.places x.0)) (led body b k way inner o to here (place_at b x.0) before (nat_eq label.0 x.0))) in
      tells_as body d x _ _ (whole way o (labelled (names x) inner) (enter inner) (nat_eq label.0 x.0) (bytes_eq (names label) (names x)) same)
      (more body (way ++ V.Body ∷ []) (grows_same b c put.nodes (Some k) (way ++ V.Body ∷ []) to) here x (or_else o (under_way way (mine (nat_eq label.0 x.0)))) put_there)
    where
      whole : (way : List G.Part) (o q : Option Path) (s : Path) (r e : Bool) → r ≡ e
          → or_else (or_else o (under_way way (if r then Some (TheBody ∷ s) else None))) (under_way (way ++ V.Body ∷ []) q) ≡ or_else o (under_way way (if e then Some (TheBody ∷ s) else path_under TheBody q))
      whole way o q s true true same = or_assoc o (under_way way (Some (TheBody ∷ s))) (under_way (way ++ V.Body ∷ []) q)
      whole way o q s false false same = ap (λ p. or_else p (under_way (way ++ V.Body ∷ []) q)) (or_none o) ∙ ap (or_else o) (under_part way V.Body q)
      whole way o q s true false same = absurd (let h : true ≡ false = same in cc)
      whole way o q s false true same = absurd (let h : false ≡ true = same in cc)

  -- ---- a whole body

  some_or_none : (o : Option Path) → or_else None (under_way [] o) ≡ o
  some_or_none None = refl
  some_or_none (Some p) = refl

  pub gathered_all : (a b : Table) (body : Stmt) → ((x : ℕ) → place_at a x ≡ None) → Gathers names a b None body (λ l. labelled l body) → (x : Name) → Tells body b x (labelled (names x) body)
  gathered_all a b body none all x =
      let P : Option ℕ → Type 0 = λ place. LeadsTo body a.nodes.items place None in
      tells_as body b x _ _ (some_or_none (labelled (names x) body)) (all body [] AtBody refl x None (subst P (sym (none x.0)) refl))

-- ---- statements that have a body alone for their labels

pub record HasBody (names : Names) (e b : Statement) : Type 0 where
  pub there : child (stmt_of names e) TheBody ≡ Present (stmt_of names b)
  pub labels : (l : Text) → path_under TheBody (labelled l (stmt_of names b)) ≡ labelled l (stmt_of names e)

-- as it is seen
has_body : (names : Names) (e b : Statement) (s : Stmt) → stmt_of names e ≡ s → child s TheBody ≡ Present (stmt_of names b) → ((l : Text) → path_under TheBody (labelled l (stmt_of names b)) ≡ labelled l s) → HasBody names e b
has_body names e b s seen there labels = record { there = ap (λ z. child z TheBody) seen ∙ there; labels = λ l. labels l ∙ ap (labelled l) (sym seen) }

pub while_body : (names : Names) (e : Statement) (place : Place) (test : GExpr.Expr) (body : Box Statement Global) → e ≡ T.While place test body → HasBody names e body.value
while_body names e place test body h = has_body names e body.value _ (while_seen names e place test body h) refl (λ l. refl)

pub do_body : (names : Names) (e : Statement) (place : Place) (body : Box Statement Global) (test : GExpr.Expr) → e ≡ T.DoWhile place body test → HasBody names e body.value
do_body names e place body test h = has_body names e body.value _ (do_seen names e place body test h) refl (λ l. refl)

pub for_body : (names : Names) (e : Statement) (place : Place) (first : Vec Statement Global) (test : Option GExpr.Expr) (step : Option (Box Statement Global)) (body : Box Statement Global) → e ≡ T.For place first test step body → HasBody names e body.value
for_body names e place first test step body h = has_body names e body.value _ (for_seen names e place first test step body h) refl (λ l. refl)
