-- The items of a program are read one declaration after another.
use Rattle.std.proofs.Common.{◌≡◌, ℕ, ◌≤◌, ◌<◌, true, false, List, [], ◌∷◌, ◌++◌, length, max, refl, sym, ap, subst, ◌∙◌, append_assoc, arith}
use Rattle.std.proofs.lemmas.List.{append-nil, length-map}
use Rattle.cpc_tree.specs.Erase.{Names}
use Rattle.cpc_tree.specs.declared.token.Token.{Token}
use Rattle.cpc_tree.specs.Tokens.{Placed, placed_of}
use Rattle.cpc_tree.specs.Located.{LItem}
use Rattle.cpc_tree.specs.ItemGrammar.{ReadsItem}
use Rattle.cpc_parser_reading.specs.Reading.{Reading, Read, Fault, Deep, ◌>>=◌}
use Rattle.cpc_parser_reading.specs.Chain.{links}
use Rattle.cpc_parser_reading.specs.Exact.{Any, Good}
use Rattle.cpc_parser_reading.proofs.Readers.{branch, many_on, links_end, links_stop}
use Rattle.cpc_parser_types.specs.Views.{lexeme, placed, Refuses}
use Rattle.cpc_parser_types.specs.declared.refusal.Refusal.{Refusal}
use Rattle.cpc_parser_types.specs.declared.refusal.Refusal.TheVariants as R
use Rattle.cpc_parser.specs.ItemReaders.{rows, item_at, starts_item, program_at}
use Rattle.cpc_parser.specs.ItemViews.{flat, onto, item_links, begins_item, InItems, program_whole}
use Rattle.cpc_parser.proofs.Items.{item_exact, starts}

rows_end : (vs : List (List LItem)) (v : List LItem) → rows (vs ++ v ∷ []) ≡ rows vs ++ v
rows_end [] v = append-nil v
rows_end (w ∷ vs) v = ap (λ u. w ++ u) (rows_end vs v) ∙ sym (append_assoc w (rows vs) v)

-- what was read
abbrev done_so : List LItem × ℕ × List Placed → Reading Placed (List LItem)
done_so x = Read x

pub same_read : (x y : List LItem × ℕ × List Placed) → done_so x ≡ done_so y → x ≡ y
same_read x y e = cc

-- what is put behind other items
pub onto_read : (done : List LItem) (r : Reading Placed (List LItem)) (new : List LItem) (after : List Placed) → (r >>= λ x. Read (done ++ x.0, 0, x.2)) ≡ Read (new, 0, after) → (v : List LItem) × (k : ℕ) × (r ≡ Read (v, k, after)) × (done ++ v ≡ new)
onto_read done (Read x) new after e =
    let p = same_read (done ++ x.0, 0, x.2) (new, 0, after) e in
    (x.0, x.1, ap (λ u. Read (x.0, x.1, u)) (ap (λ u. u.2) p), ap (λ u. u.0) p)
onto_read done (Fault left) new after e = absurd cc
onto_read done (Deep left) new after e = absurd cc

pub onto_fault : (done : List LItem) (r : Reading Placed (List LItem)) (left : List Placed) → (r >>= λ x. Read (done ++ x.0, 0, x.2)) ≡ Fault left → r ≡ Fault left
onto_fault done (Read x) left e = absurd cc
onto_fault done (Fault l) left e = ap (λ u. Fault u) (let i : l ≡ left = cc in i)
onto_fault done (Deep l) left e = absurd cc

pub onto_deep : (done : List LItem) (r : Reading Placed (List LItem)) (left : List Placed) → (r >>= λ x. Read (done ++ x.0, 0, x.2)) ≡ Deep left → r ≡ Deep left
onto_deep done (Read x) left e = absurd cc
onto_deep done (Fault l) left e = absurd cc
onto_deep done (Deep l) left e = ap (λ u. Deep u) (let i : l ≡ left = cc in i)

program_is : (d : ℕ) (ts : List Placed) (r : Reading Placed (List (List LItem))) → links (item_links d) [] 0 ts ≡ r → program_at d ts ≡ (r >>= λ x. Read (rows x.0, x.1, x.2))
unfolding program_at
program_is d ts r e = ap (λ u. u >>= λ x. Read (rows x.0, x.1, x.2)) e

module _ (d : ℕ) where
  goes_on : (vs : List (List LItem)) (h : ℕ) (t : Placed) (rest : List Placed) → h ≤ d → starts_item t.lexeme ≡ true
      → links (item_links d) vs h (t ∷ rest) ≡ (item_at d (t ∷ rest) >>= λ z. links (item_links d) (vs ++ z.0 ∷ []) (max h z.1) z.2)
  goes_on vs h t rest le e = many_on (branch (starts d) (item_exact d)) (λ v k i. tt) d (omega arith) (omega arith) vs h t rest le e

  nests : (t : Placed) (rest : List Placed) (v : List LItem) (k : ℕ) (after : List Placed) → item_at d (t ∷ rest) ≡ Read (v, k, after) → k ≤ d
  nests t rest v k after e =
      let g : Good lexeme (item_at d) ReadsItem Any d (t ∷ rest) (Read (v, k, after)) = subst (λ r. Good lexeme (item_at d) ReadsItem Any d (t ∷ rest) r) e (((item_exact d).at d (omega arith) (omega arith)).good (t ∷ rest)) in
      g.fits

  -- one declaration more
  pub step : (ts : List Placed) (done : List LItem) (rest : List Placed) → InItems d ts done rest → begins_item rest ≡ true → (new : List LItem) (after : List Placed) → onto done (item_at d) rest ≡ Read (new, 0, after) → InItems d ts new after
  step ts done [] i b new after e = absurd cc
  step ts done (t ∷ rest) (vs, h, le, is, l) b new after e =
      let o = onto_read done (item_at d (t ∷ rest)) new after e in
      let k = nests t rest o.0 o.1 after o.2 in
      let w : links (item_links d) vs h (t ∷ rest) ≡ links (item_links d) (vs ++ o.0 ∷ []) (max h o.1) after = goes_on vs h t rest le b ∙ ap (λ u. u >>= λ z. links (item_links d) (vs ++ z.0 ∷ []) (max h z.1) z.2) o.2 in
      (vs ++ o.0 ∷ [], max h o.1, omega (arith, le, k), sym o.3 ∙ (ap (λ u. u ++ o.0) is ∙ sym (rows_end vs o.0)), l ∙ w)

  -- a refusal in a declaration is one of the program
  pub fails : (r : Refusal) (ts : List Placed) (done : List LItem) (rest : List Placed) → InItems d ts done rest → begins_item rest ≡ true
      → Refuses r (onto done (item_at d) rest) → Refuses r (flat (program_whole d) ts)
  fails r ts done [] i b g = absurd cc
  fails R.Memory ts done (t ∷ rest) i b g = tt
  fails (R.Syntax n) ts done (t ∷ rest) (vs, h, le, is, l) b (left, m, e) =
      let o = onto_fault done (item_at d (t ∷ rest)) left e in
      let w = l ∙ (goes_on vs h t rest le b ∙ ap (λ u. u >>= λ z. links (item_links d) (vs ++ z.0 ∷ []) (max h z.1) z.2) o) in
      (left, m, rw (program_is d ts (Fault left) w) refl)
  fails (R.Deep n) ts done (t ∷ rest) (vs, h, le, is, l) b (left, m, e) =
      let o = onto_deep done (item_at d (t ∷ rest)) left e in
      let w = l ∙ (goes_on vs h t rest le b ∙ ap (λ u. u >>= λ z. links (item_links d) (vs ++ z.0 ∷ []) (max h z.1) z.2) o) in
      (left, m, rw (program_is d ts (Deep left) w) refl)

  -- all of the tokens have been read
  pub ends : (ts : List Placed) (done : List LItem) → InItems d ts done [] → flat (program_whole d) ts ≡ Read (done, 0, [])
  ends ts done (vs, h, le, is, l) = let w = l ∙ links_end (item_links d) vs h in rw (program_is d ts (Read (vs, h, [])) w, is) refl

  -- what is left begins no item
  pub stops : (ts : List Placed) (done : List LItem) (t : Placed) (rest : List Placed) → InItems d ts done (t ∷ rest) → starts_item t.lexeme ≡ false → flat (program_whole d) ts ≡ Fault (t ∷ rest)
  stops ts done t rest (vs, h, le, is, l) e = let w = l ∙ links_stop (item_links d) vs h t rest (rw e refl) in rw (program_is d ts (Read (vs, h, t ∷ rest)) w) refl

  -- tokens that are left and begin no item are the fault
  pub faults : (names : Names) (ts : List Placed) (done : List LItem) (rest : List Token) → InItems d ts done (placed names rest) → begins_item (placed names rest) ≡ false → 0 < length rest
      → Refuses (R.Syntax (length rest)) (flat (program_whole d) ts)
  faults names ts done [] i b l = absurd (omega arith)
  faults names ts done (t ∷ rest) i b l = (placed names (t ∷ rest), length-map (t ∷ rest) (placed_of names), stops ts done (placed_of names t) (placed names rest) i b)

  -- where nothing is left the items are all
  pub all_read : (names : Names) (ts : List Placed) (done : List LItem) (rest : List Token) → InItems d ts done (placed names rest) → length rest ≡ 0 → flat (program_whole d) ts ≡ Read (done, 0, [])
  all_read names ts done [] i l = ends ts done i
  all_read names ts done (t ∷ rest) i l = absurd (omega (arith, l))
