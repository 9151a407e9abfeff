-- Fields of structs are read one after another.
use Rattle.std.proofs.Common.{◌≡◌, ℕ, ◌≤◌, true, false, List, [], ◌∷◌, ◌++◌, length, max, refl, sym, ap, subst, ◌∙◌, append_assoc, arith}
use Rattle.std.proofs.lemmas.List.{append-nil}
use Rattle.cpc_base.specs.declared.stop.Place.{Place}
use Rattle.cpc_tree.specs.declared.token.Punctuator.TheVariants as P
use Rattle.cpc_tree.specs.Tokens.{Placed}
use Rattle.cpc_tree.specs.Syntax.{Ty}
use Rattle.cpc_tree.specs.Located.{Ident, LVariable, LItem}
use Rattle.cpc_tree.specs.TypeGrammar.{mark}
use Rattle.cpc_parser_reading.specs.Reading.{Reading, Read, Fault, Deep, ◌>>=◌, expect, after}
use Rattle.cpc_parser_reading.specs.Chain.{links}
use Rattle.cpc_parser_reading.specs.Lists.{several}
use Rattle.cpc_parser_reading.specs.Exact.{Any, Good}
use Rattle.cpc_parser_reading.proofs.Readers.{branch, many_on, separated_on, links_end, links_stop, starts_mapped, starts_bind}
use Rattle.cpc_parser_types.specs.Begins.{begins}
use Rattle.cpc_parser_types.specs.TypeReaders.{Ending, base_at, is_comma}
use Rattle.cpc_parser_types.specs.TypeViews.{base_reader, begins_base}
use Rattle.cpc_parser_types.specs.Declarators.{declarator_at}
use Rattle.cpc_parser_types.specs.Views.{lexeme, Refuses}
use Rattle.cpc_parser_types.specs.declared.refusal.Refusal.{Refusal}
use Rattle.cpc_parser_types.specs.declared.refusal.Refusal.TheVariants as R
use Rattle.cpc_parser_types.proofs.Giving.{read_is}
use Rattle.cpc_parser_types.proofs.Declarators.{declarator_exact}
use Rattle.cpc_parser_types.proofs.Params.{commas}
use Rattle.cpc_parser_statements.proofs.LocalExact.{starts_words}
use Rattle.cpc_parser.specs.ItemReaders.{is_semicolon, is_brace, is_unbrace, second, line_at, rows, joined, fields_at, structure, structure_at}
use Rattle.cpc_parser.specs.ItemViews.{flat, onto, field_row_at, field_left_at, InFields, line_links, InLines}
use Rattle.cpc_parser.proofs.Fields.{Line, comma_bracket, line_exact, line_sample}

-- what was put behind other values
onto_read : {A : Type 0} (done : List A) (r : Reading Placed (List A)) (new : List A) (after : List Placed) → (r >>= λ x. Read (done ++ x.0, 0, x.2)) ≡ Read (new, 0, after)
    → (v : List A) × (k : ℕ) × (r ≡ Read (v, k, after)) × (done ++ v ≡ new)
onto_read done (Read x) new after e =
    let p = read_is (done ++ x.0, 0, x.2) (new, 0, after) e in
    (x.0, x.1, ap (λ u. Read (x.0, x.1, u)) (ap (λ u. u.2) p), ap (λ u. u.0) p)
onto_read done (Fault left) new after e = absurd cc
onto_read done (Deep left) new after e = absurd cc

-- a refusal says nothing of values
refused : {A B C : Type 0} (f : A × ℕ × List Placed → B × ℕ × List Placed) (k : A × ℕ × List Placed → Reading Placed C) (r : Refusal) (s : Reading Placed A) → Refuses r (s >>= λ x. Read (f x)) → Refuses r (s >>= k)
refused f k R.Memory s g = tt
refused f k (R.Syntax n) (Read x) (left, m, e) = absurd cc
refused f k (R.Syntax n) (Fault l) (left, m, e) = (l, (let i : l ≡ left = cc in ap length i ∙ m), refl)
refused f k (R.Syntax n) (Deep l) (left, m, e) = absurd cc
refused f k (R.Deep n) (Read x) (left, m, e) = absurd cc
refused f k (R.Deep n) (Fault l) (left, m, e) = absurd cc
refused f k (R.Deep n) (Deep l) (left, m, e) = (l, (let i : l ≡ left = cc in ap length i ∙ m), refl)

refused_on : {A B : Type 0} (k : A × ℕ × List Placed → Reading Placed B) (r : Refusal) (s : Reading Placed A) → Refuses r s → Refuses r (s >>= k)
refused_on k R.Memory s g = tt
refused_on k (R.Syntax n) s (left, m, e) = (left, m, ap (λ u. u >>= k) e)
refused_on k (R.Deep n) s (left, m, e) = (left, m, ap (λ u. u >>= k) e)

-- the end of a declaration of fields, which are put behind others
abbrev closed : List LVariable → Reading Placed (List LVariable) → Reading Placed (List LVariable)
closed old r = (r >>= λ x. expect (λ t. is_semicolon t.lexeme) x.2 >>= λ y. Read (x.0, x.1, y.2)) >>= λ x. Read (old ++ x.0, 0, x.2)

module _ (b : Ty) (d : ℕ) where
  -- the first field
  pub field_first : (ts us : List Placed) (old : List LVariable) (x : LVariable) (h : ℕ) → h ≤ d → declarator_at b d ts ≡ Read (x, h, us) → InFields b d ts old (old ++ x ∷ []) us
  field_first ts us old x h le e = (x ∷ [], h, le, refl, ap (λ r. (r >>= λ x. Read (x.0 ∷ [], x.1, x.2)) >>= λ x. field_left_at b d x.0 x.1 x.2) e)

  field_on : (vs : List LVariable) (h : ℕ) (q : Place) (rest : List Placed) → h ≤ d → field_left_at b d vs h (mark q P.Comma ∷ rest) ≡ (declarator_at b d rest >>= λ z. field_left_at b d (vs ++ z.0 ∷ []) (max h z.1) z.2)
  field_on vs h q rest le = separated_on commas (declarator_exact d b) (λ x k e f h r. comma_bracket k e) d (omega arith) vs h (mark q P.Comma) rest (omega arith) le refl

  -- one field more
  pub field_next : (ts : List Placed) (old done : List LVariable) (q : Place) (rest us : List Placed) (x : LVariable) (n : ℕ) → InFields b d ts old done (mark q P.Comma ∷ rest) → n ≤ d → declarator_at b d rest ≡ Read (x, n, us) → InFields b d ts old (done ++ x ∷ []) us
  field_next ts old done q rest us x n (vs, h, le, is, l) m e =
      (vs ++ x ∷ [], max h n, omega (arith, le, m), ap (λ u. u ++ x ∷ []) is ∙ append_assoc old vs (x ∷ []), l ∙ (field_on vs h q rest le ∙ ap (λ r. r >>= λ z. field_left_at b d (vs ++ z.0 ∷ []) (max h z.1) z.2) e))

  -- a refusal in the first field, and in a further one
  pub field_fails_first : (ts : List Placed) (old : List LVariable) (r : Refusal) → Refuses r (declarator_at b d ts) → Refuses r (onto old (field_row_at b d) ts)
  field_fails_first ts old r g =
      let s = refused_on (λ x. Read (x.0 ∷ [], x.1, x.2)) r (declarator_at b d ts) g in
      let u = refused_on (λ x. field_left_at b d x.0 x.1 x.2) r _ s in
      let v = refused_on (λ x. expect (λ t. is_semicolon t.lexeme) x.2 >>= λ y. Read (x.0, x.1, y.2)) r _ u in
      refused_on (λ x. Read (old ++ x.0, 0, x.2)) r _ v

  pub field_fails : (ts : List Placed) (old done : List LVariable) (q : Place) (rest : List Placed) (r : Refusal) → InFields b d ts old done (mark q P.Comma ∷ rest) → Refuses r (declarator_at b d rest) → Refuses r (onto old (field_row_at b d) ts)
  field_fails ts old done q rest r (vs, h, le, is, l) g =
      let u = refused_on (λ z. field_left_at b d (vs ++ z.0 ∷ []) (max h z.1) z.2) r (declarator_at b d rest) g in
      let w = refused_on (λ x. expect (λ t. is_semicolon t.lexeme) x.2 >>= λ y. Read (x.0, x.1, y.2)) r _ u in
      subst (λ s. Refuses r (closed old s)) (sym (l ∙ field_on vs h q rest le)) (refused_on (λ x. Read (old ++ x.0, 0, x.2)) r _ w)

  field_closed : (old done : List LVariable) (vs : List LVariable) (h : ℕ) (r : Reading Placed (Unit {0})) → done ≡ old ++ vs → ((r >>= λ y. Read (vs, h, y.2)) >>= λ x. Read (old ++ x.0, 0, x.2)) ≡ (r >>= λ x. Read (done, 0, x.2))
  field_closed old done vs h (Read x) e = ap (λ u. Read (u, 0, x.2)) (sym e)
  field_closed old done vs h (Fault left) e = refl
  field_closed old done vs h (Deep left) e = refl

  field_stop : (vs : List LVariable) (h : ℕ) (rest : List Placed) → begins P.Comma rest ≡ false → field_left_at b d vs h rest ≡ Read (vs, h, rest)
  field_stop vs h [] c = links_end (several (λ t. is_comma t.lexeme) false (after (λ t. is_comma t.lexeme) (declarator_at b d))) vs h
  field_stop vs h (t ∷ rest) c = links_stop (several (λ t. is_comma t.lexeme) false (after (λ t. is_comma t.lexeme) (declarator_at b d))) vs h t rest (rw c refl)

  -- the end of the row
  pub field_ends : (ts : List Placed) (old done : List LVariable) (rest : List Placed) → InFields b d ts old done rest → begins P.Comma rest ≡ false → onto old (field_row_at b d) ts ≡ (expect (λ t. is_semicolon t.lexeme) rest >>= λ x. Read (done, 0, x.2))
  field_ends ts old done rest (vs, h, le, is, l) c = ap (closed old) (l ∙ field_stop vs h rest c) ∙ field_closed old done vs h (expect (λ t. is_semicolon t.lexeme) rest) is

module _ (d : ℕ) where
  by_row : (old : List LVariable) (v : Ty × Ending) (h : ℕ) (r : Reading Placed (List LVariable))
      → (((r >>= λ y. Read ((v, y.0), max h y.1, y.2)) >>= λ u. Read (second u.0, u.1, u.2)) >>= λ y. Read (old ++ y.0, 0, y.2)) ≡ (r >>= λ y. Read (old ++ y.0, 0, y.2))
  by_row old v h (Read y) = refl
  by_row old v h (Fault left) = refl
  by_row old v h (Deep left) = refl

  by_base : (old : List LVariable) (r : Reading Placed (Ty × Ending))
      → (((r >>= λ v. field_row_at v.0.0 d v.2 >>= λ y. Read ((v.0, y.0), max v.1 y.1, y.2)) >>= λ u. Read (second u.0, u.1, u.2)) >>= λ y. Read (old ++ y.0, 0, y.2)) ≡ ((r >>= λ v. Read (v.0.0, v.1, v.2)) >>= λ b. onto old (field_row_at b.0 d) b.2)
  by_base old (Read v) = by_row old v.0 v.1 (field_row_at v.0.0 d v.2)
  by_base old (Fault left) = refl
  by_base old (Deep left) = refl

  -- a declaration of fields is a base type and a row
  pub line_steps : (old : List LVariable) (ts : List Placed) → onto old (line_at d) ts ≡ (base_reader d ts >>= λ b. onto old (field_row_at b.0 d) b.2)
  line_steps old ts = by_base old (base_at d ts)

  line_nests : (ts : List Placed) (v : List LVariable) (k : ℕ) (rest : List Placed) → line_at d ts ≡ Read (v, k, rest) → k ≤ d
  line_nests ts v k rest e =
      let g : Good lexeme (line_at d) Line Any d ts (Read (v, k, rest)) = subst (λ r. Good lexeme (line_at d) Line Any d ts r) e (((line_exact d).at d (omega arith) (omega arith)).good ts) in
      g.fits

  line_on : (vs : List (List LVariable)) (h : ℕ) (t : Placed) (rest : List Placed) → h ≤ d → begins_base (t ∷ rest) ≡ true → links (line_links d) vs h (t ∷ rest) ≡ (line_at d (t ∷ rest) >>= λ z. links (line_links d) (vs ++ z.0 ∷ []) (max h z.1) z.2)
  line_on vs h t rest le e = many_on (branch (starts_mapped (starts_bind starts_words (line_sample d)) second) (line_exact d)) (λ v k i. tt) d (omega arith) (omega arith) vs h t rest le e

  rows_end : (vs : List (List LVariable)) (v : List LVariable) → rows (vs ++ v ∷ []) ≡ rows vs ++ v
  rows_end [] v = append-nil v
  rows_end (w ∷ vs) v = ap (λ u. w ++ u) (rows_end vs v) ∙ sym (append_assoc w (rows vs) v)

  -- the first declaration
  pub lines_first : (ts : List Placed) (done : List LVariable) (rest : List Placed) → onto [] (line_at d) ts ≡ Read (done, 0, rest) → InLines d ts done rest
  lines_first ts done rest e = let o = onto_read [] (line_at d ts) done rest e in (o.0, o.1, rest, [], 0, omega arith, o.2, sym o.3 ∙ sym (append-nil o.0), refl)

  -- one declaration more
  pub lines_next : (ts : List Placed) (done : List LVariable) (rest : List Placed) → InLines d ts done rest → begins_base rest ≡ true → (new : List LVariable) (after : List Placed) → onto done (line_at d) rest ≡ Read (new, 0, after) → InLines d ts new after
  lines_next ts done [] i c new after e = absurd cc
  lines_next ts done (t ∷ rest) (v, k, us, vs, h, le, f, is, l) c new after e =
      let o = onto_read done (line_at d (t ∷ rest)) new after e in
      let n = line_nests (t ∷ rest) o.0 o.1 after o.2 in
      let m : new ≡ v ++ rows (vs ++ o.0 ∷ []) = sym o.3 ∙ (ap (λ u. u ++ o.0) is ∙ (append_assoc v (rows vs) o.0 ∙ ap (λ u. v ++ u) (sym (rows_end vs o.0)))) in
      (v, k, us, vs ++ o.0 ∷ [], max h o.1, omega (arith, le, n), f, m, l ∙ (line_on vs h t rest le c ∙ ap (λ u. u >>= λ z. links (line_links d) (vs ++ z.0 ∷ []) (max h z.1) z.2) o.2))

  -- the fields from what was read first and of what is left
  abbrev further_lines : (List LVariable) × ℕ × List Placed → Reading Placed (List (List LVariable)) → Reading Placed (List LVariable)
  further_lines x r = ((r >>= λ y. Read ((x.0, y.0), max x.1 y.1, y.2)) >>= λ v. Read (joined v.0, v.1, v.2)) >>= λ v. Read (v.0, 0, v.2)

  fields_is : (ts : List Placed) (v : List LVariable) (k : ℕ) (us : List Placed) (r : Reading Placed (List (List LVariable))) → line_at d ts ≡ Read (v, k, us) → links (line_links d) [] 0 us ≡ r → flat (fields_at d) ts ≡ further_lines (v, k, us) r
  fields_is ts v k us r e f =
      ap (λ s. ((s >>= λ x. links (line_links d) [] 0 x.2 >>= λ y. Read ((x.0, y.0), max x.1 y.1, y.2)) >>= λ v. Read (joined v.0, v.1, v.2)) >>= λ v. Read (v.0, 0, v.2)) e ∙ ap (further_lines (v, k, us)) f

  -- a refusal in the first declaration, and in a further one
  pub lines_fail_first : (ts : List Placed) (r : Refusal) → Refuses r (onto [] (line_at d) ts) → Refuses r (flat (fields_at d) ts)
  lines_fail_first ts r g =
      let s = refused (λ x. (x.0, 0, x.2)) (λ x. links (line_links d) [] 0 x.2 >>= λ y. Read ((x.0, y.0), max x.1 y.1, y.2)) r (line_at d ts) g in
      let u = refused_on (λ v. Read (joined v.0, v.1, v.2)) r _ s in
      refused_on (λ v. Read (v.0, 0, v.2)) r _ u

  pub lines_fail : (ts : List Placed) (done : List LVariable) (rest : List Placed) (r : Refusal) → InLines d ts done rest → begins_base rest ≡ true → Refuses r (onto done (line_at d) rest) → Refuses r (flat (fields_at d) ts)
  lines_fail ts done [] r i c g = absurd cc
  lines_fail ts done (t ∷ rest) r (v, k, us, vs, h, le, f, is, l) c g =
      let s = refused (λ x. (done ++ x.0, 0, x.2)) (λ z. links (line_links d) (vs ++ z.0 ∷ []) (max h z.1) z.2) r (line_at d (t ∷ rest)) g in
      let a = refused_on (λ y. Read ((v, y.0), max k y.1, y.2)) r _ s in
      let u = refused_on (λ v. Read (joined v.0, v.1, v.2)) r _ a in
      subst (λ s. Refuses r s) (sym (fields_is ts v k us _ f (l ∙ line_on vs h t rest le c))) (refused_on (λ v. Read (v.0, 0, v.2)) r _ u)

  -- no further declaration
  pub lines_end : (ts : List Placed) (done : List LVariable) (rest : List Placed) → InLines d ts done rest → begins_base rest ≡ false → flat (fields_at d) ts ≡ Read (done, 0, rest)
  lines_end ts done [] (v, k, us, vs, h, le, f, is, l) c = fields_is ts v k us _ f (l ∙ links_end (line_links d) vs h) ∙ ap (λ u. Read (u, 0, [])) (sym is)
  lines_end ts done (t ∷ rest) (v, k, us, vs, h, le, f, is, l) c = fields_is ts v k us _ f (l ∙ links_stop (line_links d) vs h t rest (rw c refl)) ∙ ap (λ u. Read (u, 0, t ∷ rest)) (sym is)

-- A struct behind its tag: its braces round the fields, and its end.
module _ (old : List LItem) (tag : Ident) (d : ℕ) where
  abbrev pub behind_fields : List LVariable × ℕ × List Placed → Reading Placed (List LItem)
  behind_fields f = expect (λ t. is_unbrace t.lexeme) f.2 >>= λ y. expect (λ t. is_semicolon t.lexeme) y.2 >>= λ z. Read (old ++ structure tag f.0, 0, z.2)

  by_end : (xs : List LVariable) (h : ℕ) (r : Reading Placed (Unit {0})) → (((r >>= λ y. Read (xs, h, y.2)) >>= λ x. Read (structure tag x.0, x.1, x.2)) >>= λ x. Read (old ++ x.0, 0, x.2)) ≡ (r >>= λ z. Read (old ++ structure tag xs, 0, z.2))
  by_end xs h (Read y) = refl
  by_end xs h (Fault left) = refl
  by_end xs h (Deep left) = refl

  by_brace : (xs : List LVariable) (h : ℕ) (r : Reading Placed (Unit {0}))
      → ((((r >>= λ y. Read (xs, h, y.2)) >>= λ x. expect (λ t. is_semicolon t.lexeme) x.2 >>= λ y. Read (x.0, x.1, y.2)) >>= λ x. Read (structure tag x.0, x.1, x.2)) >>= λ x. Read (old ++ x.0, 0, x.2))
      ≡ (r >>= λ y. expect (λ t. is_semicolon t.lexeme) y.2 >>= λ z. Read (old ++ structure tag xs, 0, z.2))
  by_brace xs h (Read y) = by_end xs h (expect (λ t. is_semicolon t.lexeme) y.2)
  by_brace xs h (Fault left) = refl
  by_brace xs h (Deep left) = refl

  by_fields : (r : Reading Placed (List LVariable))
      → ((((r >>= λ x. expect (λ t. is_unbrace t.lexeme) x.2 >>= λ y. Read (x.0, x.1, y.2)) >>= λ x. expect (λ t. is_semicolon t.lexeme) x.2 >>= λ y. Read (x.0, x.1, y.2)) >>= λ x. Read (structure tag x.0, x.1, x.2)) >>= λ x. Read (old ++ x.0, 0, x.2))
      ≡ ((r >>= λ x. Read (x.0, 0, x.2)) >>= λ f. behind_fields f)
  by_fields (Read x) = by_brace x.0 x.1 (expect (λ t. is_unbrace t.lexeme) x.2)
  by_fields (Fault left) = refl
  by_fields (Deep left) = refl

  by_open : (r : Reading Placed (Unit {0}))
      → ((((r >>= λ u. (fields_at d u.2 >>= λ x. expect (λ t. is_unbrace t.lexeme) x.2 >>= λ y. Read (x.0, x.1, y.2)) >>= λ x. expect (λ t. is_semicolon t.lexeme) x.2 >>= λ y. Read (x.0, x.1, y.2))) >>= λ x. Read (structure tag x.0, x.1, x.2)) >>= λ x. Read (old ++ x.0, 0, x.2))
      ≡ (r >>= λ u. flat (fields_at d) u.2 >>= λ f. behind_fields f)
  by_open (Read u) = by_fields (fields_at d u.2)
  by_open (Fault left) = refl
  by_open (Deep left) = refl

  pub structure_steps : (ts : List Placed) → onto old (structure_at tag d) ts ≡ (expect (λ t. is_brace t.lexeme) ts >>= λ u. flat (fields_at d) u.2 >>= λ f. behind_fields f)
  structure_steps ts = by_open (expect (λ t. is_brace t.lexeme) ts)
