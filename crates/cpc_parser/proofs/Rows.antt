-- Further globals are read one after another.
use Rattle.std.proofs.Common.{◌≡◌, ℕ, ◌≤◌, Bool, true, false, List, [], ◌∷◌, ◌++◌, map, length, max, Option, Some, None, nat_lt, cond, refl, sym, ap, subst, ◌∙◌, append_assoc, arith}
use Rattle.std.proofs.lemmas.List.{map-append}
use Rattle.cpc_tree.specs.declared.token.Punctuator.TheVariants as P
use Rattle.cpc_tree.specs.Tokens.{Placed}
use Rattle.cpc_tree.specs.Syntax.{Ty}
use Rattle.cpc_tree.specs.Located.{LExpr, LVariable, LItem}
use Rattle.cpc_parser_reading.specs.Reading.{Reading, Read, Fault, Deep, ◌>>=◌, expect, after}
use Rattle.cpc_parser_reading.specs.Phrase.{After}
use Rattle.cpc_parser_reading.specs.Chain.{links}
use Rattle.cpc_parser_reading.specs.Operators.{tail_from}
use Rattle.cpc_parser_reading.specs.Exact.{Good}
use Rattle.cpc_parser_reading.proofs.Readers.{after_branch, many_on, links_end, links_stop, exact_after}
use Rattle.cpc_parser_types.specs.Begins.{begins}
use Rattle.cpc_parser_types.specs.TypeReaders.{is_comma}
use Rattle.cpc_parser_types.specs.Declarators.{declarator_at}
use Rattle.cpc_parser_types.specs.Views.{lexeme, Refuses}
use Rattle.cpc_parser_types.specs.declared.refusal.Refusal.{Refusal}
use Rattle.cpc_parser_types.specs.declared.refusal.Refusal.TheVariants as R
use Rattle.cpc_parser_types.proofs.Params.{commas}
use Rattle.cpc_parser.specs.ItemReaders.{is_semicolon, is_equal, start_at, global_of, global_at}
use Rattle.cpc_parser.specs.ItemViews.{flat, onto, row_at, row_links, InRow, more_at, starting_at}
use Rattle.cpc_parser.proofs.Globals.{Global, GlobalEnd, global_exact, ends_global, comma_ends}

-- what was read
abbrev so : LItem × ℕ × List Placed → Reading Placed LItem
so y = Read y

same : (y z : LItem × ℕ × List Placed) → so y ≡ so z → y ≡ z
same y z e = cc

module _ (b : Ty) (d : ℕ) where
  row_on : (vs : List (LVariable × Option LExpr)) (h : ℕ) (t : Placed) (rest : List Placed) → h ≤ d → is_comma t.lexeme ≡ true
      → links (row_links b d) vs h (t ∷ rest) ≡ (after (λ t. is_comma t.lexeme) (global_at b d) (t ∷ rest) >>= λ z. links (row_links b d) (vs ++ z.0 ∷ []) (max h z.1) z.2)
  row_on vs h t rest le e = many_on (after_branch commas (global_exact d b)) (λ v k i. ends_global b v k (comma_ends k i)) d (omega arith) (omega arith) vs h t rest le e

  nests : (ts : List Placed) (v : LVariable × Option LExpr) (k : ℕ) (rest : List Placed) → after (λ t. is_comma t.lexeme) (global_at b d) ts ≡ Read (v, k, rest) → k ≤ d
  nests ts v k rest e =
      let g : Good lexeme (after (λ t. is_comma t.lexeme) (global_at b d)) (After (λ t. is_comma t.lexeme) (Global b)) (GlobalEnd b) d ts (Read (v, k, rest)) =
      subst (λ r. Good lexeme (after (λ t. is_comma t.lexeme) (global_at b d)) (After (λ t. is_comma t.lexeme) (Global b)) (GlobalEnd b) d ts r) e (((exact_after commas (global_exact d b)).at d (omega arith) (omega arith)).good ts) in
      g.fits

  one_read : (r : Reading Placed (LVariable × Option LExpr)) (w : LItem) (rest : List Placed) → ((r >>= λ x. Read (global_of x.0, x.1, x.2)) >>= λ x. Read (x.0, 0, x.2)) ≡ Read (w, 0, rest)
      → (v : LVariable × Option LExpr) × (k : ℕ) × (r ≡ Read (v, k, rest)) × (global_of v ≡ w)
  one_read (Read x) w rest e = let p = same (global_of x.0, 0, x.2) (w, 0, rest) e in (x.0, x.1, ap (λ u. Read (x.0, x.1, u)) (ap (λ u. u.2) p), ap (λ u. u.0) p)
  one_read (Fault left) w rest e = absurd cc
  one_read (Deep left) w rest e = absurd cc

  -- one global more
  pub row_step : (ts : List Placed) (old done : List LItem) (rest : List Placed) → InRow b d ts old done rest → begins P.Comma rest ≡ true → (w : LItem) (behind : List Placed) → flat (more_at b d) rest ≡ Read (w, 0, behind) → InRow b d ts old (done ++ w ∷ []) behind
  row_step ts old done [] i c w behind e = absurd cc
  row_step ts old done (t ∷ rest) (vs, h, le, is, l) c w behind e =
      let o = one_read (after (λ t. is_comma t.lexeme) (global_at b d) (t ∷ rest)) w behind e in
      let k = nests (t ∷ rest) o.0 o.1 behind o.2 in
      let z = row_on vs h t rest le c ∙ ap (λ u. u >>= λ z. links (row_links b d) (vs ++ z.0 ∷ []) (max h z.1) z.2) o.2 in
      let m : done ++ w ∷ [] ≡ old ++ map global_of (vs ++ o.0 ∷ []) =
      ap (λ u. u ++ w ∷ []) is ∙ (append_assoc old (map global_of vs) (w ∷ []) ∙ ap (λ u. old ++ u) (ap (λ u. map global_of vs ++ u ∷ []) (sym o.3) ∙ sym (map-append global_of vs (o.0 ∷ [])))) in
      (vs ++ o.0 ∷ [], max h o.1, omega (arith, le, k), m, l ∙ z)

  row_is : (ts : List Placed) (old : List LItem) (r : Reading Placed (List (LVariable × Option LExpr))) → links (row_links b d) [] 0 ts ≡ r
      → onto old (row_at b d) ts ≡ (((r >>= λ x. expect (λ t. is_semicolon t.lexeme) x.2 >>= λ y. Read (x.0, x.1, y.2)) >>= λ x. Read (map global_of x.0, x.1, x.2)) >>= λ x. Read (old ++ x.0, 0, x.2))
  row_is ts old r e = ap (λ u. ((u >>= λ x. expect (λ t. is_semicolon t.lexeme) x.2 >>= λ y. Read (x.0, x.1, y.2)) >>= λ x. Read (map global_of x.0, x.1, x.2)) >>= λ x. Read (old ++ x.0, 0, x.2)) e

  one_fails : (r : Refusal) (s : Reading Placed (LVariable × Option LExpr)) → Refuses r ((s >>= λ x. Read (global_of x.0, x.1, x.2)) >>= λ x. Read (x.0, 0, x.2)) → Refuses r s
  one_fails R.Memory s g = tt
  one_fails (R.Syntax n) (Read x) (left, m, e) = absurd cc
  one_fails (R.Syntax n) (Fault l) (left, m, e) = (l, (let i : l ≡ left = cc in ap length i ∙ m), refl)
  one_fails (R.Syntax n) (Deep l) (left, m, e) = absurd cc
  one_fails (R.Deep n) (Read x) (left, m, e) = absurd cc
  one_fails (R.Deep n) (Fault l) (left, m, e) = absurd cc
  one_fails (R.Deep n) (Deep l) (left, m, e) = (l, (let i : l ≡ left = cc in ap length i ∙ m), refl)

  -- a refusal in a global is one of the row
  pub row_fails : (r : Refusal) (ts : List Placed) (old done : List LItem) (rest : List Placed) → InRow b d ts old done rest → begins P.Comma rest ≡ true → Refuses r (flat (more_at b d) rest) → Refuses r (onto old (row_at b d) ts)
  row_fails r ts old done [] i c g = absurd cc
  row_fails r ts old done (t ∷ rest) (vs, h, le, is, l) c g =
      let s = one_fails r (after (λ t. is_comma t.lexeme) (global_at b d) (t ∷ rest)) g in
      refused r _ s (λ left e. rw (row_is ts old (Fault left) (l ∙ (row_on vs h t rest le c ∙ ap (λ u. u >>= λ z. links (row_links b d) (vs ++ z.0 ∷ []) (max h z.1) z.2) e))) refl)
      (λ left e. rw (row_is ts old (Deep left) (l ∙ (row_on vs h t rest le c ∙ ap (λ u. u >>= λ z. links (row_links b d) (vs ++ z.0 ∷ []) (max h z.1) z.2) e))) refl) where
        refused : (r : Refusal) (s : Reading Placed (LVariable × Option LExpr)) → Refuses r s → ((left : List Placed) → s ≡ Fault left → onto old (row_at b d) ts ≡ Fault left) → ((left : List Placed) → s ≡ Deep left → onto old (row_at b d) ts ≡ Deep left)
            → Refuses r (onto old (row_at b d) ts)
        refused R.Memory s g f k = tt
        refused (R.Syntax n) s (left, m, e) f k = (left, m, f left e)
        refused (R.Deep n) s (left, m, e) f k = (left, m, k left e)

  closing : (old done : List LItem) (vs : List (LVariable × Option LExpr)) (h : ℕ) (r : Reading Placed (Unit {0})) → done ≡ old ++ map global_of vs
      → (((r >>= λ y. Read (vs, h, y.2)) >>= λ x. Read (map global_of x.0, x.1, x.2)) >>= λ x. Read (old ++ x.0, 0, x.2)) ≡ (r >>= λ x. Read (done, 0, x.2))
  closing old done vs h (Read x) e = ap (λ u. Read (u, 0, x.2)) (sym e)
  closing old done vs h (Fault left) e = refl
  closing old done vs h (Deep left) e = refl

  -- the end of the row
  pub row_ends : (ts : List Placed) (old done : List LItem) (rest : List Placed) → InRow b d ts old done rest → begins P.Comma rest ≡ false → onto old (row_at b d) ts ≡ (expect (λ t. is_semicolon t.lexeme) rest >>= λ x. Read (done, 0, x.2))
  row_ends ts old done [] (vs, h, le, is, l) c = row_is ts old (Read (vs, h, [])) (l ∙ links_end (row_links b d) vs h) ∙ closing old done vs h (Fault []) is
  row_ends ts old done (t ∷ rest) (vs, h, le, is, l) c =
      row_is ts old (Read (vs, h, t ∷ rest)) (l ∙ links_stop (row_links b d) vs h t rest (rw c refl)) ∙ closing old done vs h (expect (λ t. is_semicolon t.lexeme) (t ∷ rest)) is

  -- what follows a declarator
  abbrev pub with_start : LVariable × ℕ × List Placed → Reading Placed LItem
  with_start v = flat (starting_at d) v.2 >>= λ o. Read (global_of (v.0, o.0), 0, o.2)

  by_part : (x : LVariable) (h : ℕ) (r : Reading Placed LExpr)
      → (((r >>= λ y. Read ((x, Some y.0), max h y.1, y.2)) >>= λ v. Read (global_of v.0, v.1, v.2)) >>= λ v. Read (v.0, 0, v.2))
      ≡ (((r >>= λ y. Read (Some y.0, y.1, y.2)) >>= λ y. Read (y.0, 0, y.2)) >>= λ o. Read (global_of (x, o.0), 0, o.2))
  by_part x h (Read y) = refl
  by_part x h (Fault left) = refl
  by_part x h (Deep left) = refl

  by_room : (x : LVariable) (h : ℕ) (t : Placed) (ts : List Placed) (e : Bool) (c : Bool)
      → ((cond e (cond c (Deep (t ∷ ts)) (start_at d (t ∷ ts) >>= λ y. Read ((x, Some y.0), max h y.1, y.2))) (Read ((x, None), h, t ∷ ts)) >>= λ v. Read (global_of v.0, v.1, v.2)) >>= λ v. Read (v.0, 0, v.2))
      ≡ ((cond e (cond c (Deep (t ∷ ts)) (start_at d (t ∷ ts) >>= λ y. Read (Some y.0, y.1, y.2))) (Read (None, 0, t ∷ ts)) >>= λ y. Read (y.0, 0, y.2)) >>= λ o. Read (global_of (x, o.0), 0, o.2))
  by_room x h t ts false c = refl
  by_room x h t ts true true = refl
  by_room x h t ts true false = by_part x h (start_at d (t ∷ ts))

  by_tail : (x : LVariable) (h : ℕ) (ts : List Placed)
      → ((tail_from (λ t. is_equal t.lexeme) (λ h. nat_lt d 1) (λ h j. max h j) (start_at d) x h ts >>= λ v. Read (global_of v.0, v.1, v.2)) >>= λ v. Read (v.0, 0, v.2)) ≡ with_start (x, h, ts)
  by_tail x h [] = refl
  by_tail x h (t ∷ ts) = by_room x h t ts (is_equal t.lexeme) (nat_lt d 1)

  by_declarator : (r : Reading Placed LVariable)
      → (((r >>= λ x. tail_from (λ t. is_equal t.lexeme) (λ h. nat_lt d 1) (λ h j. max h j) (start_at d) x.0 x.1 x.2) >>= λ v. Read (global_of v.0, v.1, v.2)) >>= λ v. Read (v.0, 0, v.2)) ≡ (r >>= λ x. with_start x)
  by_declarator (Read x) = by_tail x.0 x.1 x.2
  by_declarator (Fault left) = refl
  by_declarator (Deep left) = refl

  by_comma : (r : Reading Placed (Unit {0}))
      → (((r >>= λ u. global_at b d u.2) >>= λ v. Read (global_of v.0, v.1, v.2)) >>= λ v. Read (v.0, 0, v.2)) ≡ (r >>= λ u. declarator_at b d u.2 >>= λ x. with_start x)
  by_comma (Read u) = by_declarator (declarator_at b d u.2)
  by_comma (Fault left) = refl
  by_comma (Deep left) = refl

  -- a further global, part behind part
  pub more_steps : (ts : List Placed) → flat (more_at b d) ts ≡ (expect (λ t. is_comma t.lexeme) ts >>= λ u. declarator_at b d u.2 >>= λ x. with_start x)
  more_steps ts = by_comma (expect (λ t. is_comma t.lexeme) ts)
