-- What the answer of the parser says.
use Rattle.std.proofs.Common.{◌≡◌, ℕ, List, [], ◌++◌, length, refl, sym, ap, subst, ◌∙◌}
use Rattle.cpc_base.specs.declared.stop.Place.{Place}
use Rattle.cpc_base.specs.declared.stop.Dialect.{Dialect}
use Rattle.cpc_tree.specs.Tokens.{Placed}
use Rattle.cpc_tree.specs.Located.{LItem, LProgram}
use Rattle.cpc_tree.specs.Grammar.{syntax_fault, deep_fault, nesting_limit, IsProgram, first_place, IsParseFault}
use Rattle.cpc_parser_reading.specs.Reading.{Reading, Read, Fault, Deep}
use Rattle.cpc_parser.specs.ItemViews.{flat, program_whole}
use Rattle.cpc_parser.proofs.Answer.{AnswerIs, answer_is, program_read}
use Rattle.cpc_parser.proofs.Loop.{same_read, onto_read, onto_fault, onto_deep}

no_fault : (left : List Placed) (v : List LItem) → Fault left ≡ Read (v, 0, []) → ⊥
no_fault left v e = absurd cc

no_deep : (left : List Placed) (v : List LItem) → Deep left ≡ Read (v, 0, []) → ⊥
no_deep left v e = absurd cc

module _ (dialect : Dialect) (ts : List Placed) (end : Place) where
  -- how all of the tokens are read
  abbrev all : Reading Placed (List LItem)
  all = flat (program_whole (nesting_limit dialect)) ts

  is_answer : (r : Reading Placed (List LItem)) → program_whole (nesting_limit dialect) ts ≡ r → AnswerIs dialect ts end r
  is_answer r e = subst (λ u. AnswerIs dialect ts end u) e (answer_is dialect ts end)

  -- items that were read are the program
  pub read_program : (v : List LItem) → all ≡ Read (v, 0, []) → IsProgram dialect ts end (record { items = v; end = end })
  read_program v e =
      let o = onto_read [] (program_whole (nesting_limit dialect) ts) v [] e in
      let a = is_answer (Read (o.0, o.1, [])) o.2 in
      subst (λ u. IsProgram dialect ts end (record { items = u; end = end })) o.3 a.1

  -- a refusal stands at the place of the tokens that are left
  pub syntax_place : (n : ℕ) (place : Place) → ((front rest : List Placed) → ts ≡ front ++ rest → length rest ≡ n → place ≡ first_place end rest) → (left : List Placed) → length left ≡ n → all ≡ Fault left → IsParseFault dialect ts end place syntax_fault
  syntax_place n place at left l e =
      let a = is_answer (Fault left) (onto_fault [] (program_whole (nesting_limit dialect) ts) left e) in
      (a.0, left, a.1, at a.0 left a.1 l, a.2)

  pub deep_place : (n : ℕ) (place : Place) → ((front rest : List Placed) → ts ≡ front ++ rest → length rest ≡ n → place ≡ first_place end rest) → (left : List Placed) → length left ≡ n → all ≡ Deep left → IsParseFault dialect ts end place deep_fault
  deep_place n place at left l e =
      let a = is_answer (Deep left) (onto_deep [] (program_whole (nesting_limit dialect) ts) left e) in
      (a.0, left, a.1, at a.0 left a.1 l, a.2)

  read_all : (q : LProgram) → IsProgram dialect ts end q → all ≡ Read (q.items, 0, [])
  read_all q p = let k = program_read dialect ts end q p in rw (k.1) refl

  -- what is a program is read as it
  pub is_read : (v : List LItem) (q : LProgram) → all ≡ Read (v, 0, []) → IsProgram dialect ts end q → record { items = v; end = end } ≡ q
  is_read v q e p =
      let k = same_read (v, 0, []) (q.items, 0, []) (sym e ∙ read_all q p) in
      ap (λ u. record { items = u.0; end = end }) k ∙ ap (λ u. record { items = q.items; end = u }) (sym p.0)

  -- a program is not refused
  pub no_syntax : (q : LProgram) (left : List Placed) → IsProgram dialect ts end q → all ≡ Fault left → ⊥
  no_syntax q left p e = no_fault left q.items (sym e ∙ read_all q p)

  pub no_depth : (q : LProgram) (left : List Placed) → IsProgram dialect ts end q → all ≡ Deep left → ⊥
  no_depth q left p e = no_deep left q.items (sym e ∙ read_all q p)
