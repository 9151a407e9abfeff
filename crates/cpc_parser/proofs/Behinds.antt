-- What stands behind the parameters of a function is read exactly.
use Rattle.std.proofs.Common.{◌≡◌, ℕ, ◌+◌, Bool, true, false, List, [], ◌∷◌, ◌++◌, Some, refl, sym, ap, subst, arith}
use Rattle.cpc_base.specs.declared.stop.Place.{Place}
use Rattle.cpc_tree.specs.declared.program.Mode.{Mode}
use Rattle.cpc_tree.specs.declared.token.Punctuator.TheVariants as P
use Rattle.cpc_tree.specs.Tokens.{Lexeme, Mark, Placed}
use Rattle.cpc_tree.specs.Located.{LStmt, LItem}
use Rattle.cpc_tree.specs.TypeGrammar.{mark}
use Rattle.cpc_tree.specs.StmtGrammar.{ReadsBlock}
use Rattle.cpc_tree.specs.ItemGrammar.{Head}
use Rattle.cpc_parser_reading.specs.Phrase.{Nothing, Mapped, Made, Headed, OneOf}
use Rattle.cpc_parser_reading.specs.Exact.{Any, Opens, Exact, Branch}
use Rattle.cpc_parser_reading.proofs.Readers.{exact_as, exact_made, exact_mapped, exact_nothing, exact_one_of, headed_branch}
use Rattle.cpc_parser_types.specs.Views.{lexeme}
use Rattle.cpc_parser_types.proofs.Bases.{spot}
use Rattle.cpc_parser_types.proofs.BaseWords.{at}
use Rattle.cpc_parser_statements.proofs.Stmts.{Blocked}
use Rattle.cpc_parser_statements.proofs.StmtExact.{block_exact}
use Rattle.cpc_parser.specs.ItemReaders.{Behind, Ends, Begins, behind_class, has_body, behind_low, declared, function_of, behind_part, behind_at}
use Rattle.cpc_parser.proofs.Places.{exact_less}

-- what stands behind the parameters of a function, in the words of the grammar
pub data ReadsBehind (q : Place) (mode : Mode) (x : Head) : List Placed → List LItem → ℕ → Type 0 where
  ends : (r : Place) → ReadsBehind q mode x (mark r P.Semicolon ∷ []) (declared q mode x tt) 0
  begins : (r s : Place) (g : List Placed) (ss : List LStmt) (j : ℕ) → has_body mode x ≡ true → ReadsBlock g ss j → ReadsBehind q mode x (mark r P.LeftBrace ∷ (g ++ mark s P.RightBrace ∷ [])) (function_of q mode x r ss) (j + 1)

-- in the readers' words
abbrev Parts : Place → Mode → Head → Behind → List Placed → List LItem → ℕ → Type 0
Parts q mode x Ends = Headed lexeme (λ k. behind_class (has_body mode x) k ≡ Some Ends) (λ t. Mapped (declared q mode x) Nothing)
Parts q mode x Begins = Headed lexeme (λ k. behind_class (has_body mode x) k ≡ Some Begins) (λ t. Made (function_of q mode x t.place) Blocked)

ends_is : (b : Bool) (k : Lexeme) → behind_class b k ≡ Some Ends → k ≡ Mark P.Semicolon
ends_is b (Mark P.Semicolon) e = refl
ends_is true (Mark P.LeftBrace) e = absurd cc
ends_is false (Mark P.LeftBrace) e = absurd cc
ends_is b k e = absurd cc

begins_is : (b : Bool) (k : Lexeme) → behind_class b k ≡ Some Begins → (k ≡ Mark P.LeftBrace) × (b ≡ true)
begins_is true (Mark P.LeftBrace) e = (refl, refl)
begins_is false (Mark P.LeftBrace) e = absurd cc
begins_is b (Mark P.Semicolon) e = absurd cc
begins_is b k e = absurd cc

begins_class : (b : Bool) → b ≡ true → behind_class b (Mark P.LeftBrace) ≡ Some Begins
begins_class b e = rw e refl

of_behind : (q : Place) (mode : Mode) (x : Head) (f : List Placed) (v : List LItem) (h : ℕ) → OneOf (Parts q mode x) f v h → ReadsBehind q mode x f v h
of_behind q mode x f v h (Ends, (t, g, e, p, (u, e1, (e2, z)))) =
    let i : t ≡ mark t.place P.Semicolon = ap (at t.place) (ends_is (has_body mode x) t.lexeme p) in
    rw (e, e2, e1, z) (subst (λ y. ReadsBehind q mode x (y ∷ []) (declared q mode x u) 0) (sym i) (ends t.place))
of_behind q mode x f v h (Begins, (t, g, e, p, (ss, i, e1, m, (k, r, e2, b)))) =
    let c = begins_is (has_body mode x) t.lexeme p in
    let w : t ≡ mark t.place P.LeftBrace = ap (at t.place) (c.0) in
    rw (e, e2, e1, m) (subst (λ y. ReadsBehind q mode x (y ∷ (k ++ mark r P.RightBrace ∷ [])) (function_of q mode x t.place ss) (i + 1)) (sym w) (begins t.place r k ss i c.1 b))

to_behind : (q : Place) (mode : Mode) (x : Head) (f : List Placed) (v : List LItem) (h : ℕ) → ReadsBehind q mode x f v h → OneOf (Parts q mode x) f v h
to_behind q mode x f v h (ends r) = (Ends, (mark r P.Semicolon, [], refl, refl, (tt, refl, (refl, refl))))
to_behind q mode x f v h (begins r s g ss j b m) = (Begins, (mark r P.LeftBrace, g ++ mark s P.RightBrace ∷ [], refl, begins_class (has_body mode x) b, (ss, j, refl, refl, (g, s, refl, m))))

module _ (n : ℕ) (q : Place) (mode : Mode) (x : Head) where
  part_exact : (c : Behind) → Branch lexeme (λ k. behind_class (has_body mode x) k ≡ Some c) n (behind_low c) (λ d. behind_part q mode x d c) (Parts q mode x c) Any
  part_exact Ends = headed_branch (λ t e. exact_mapped (declared q mode x) Any (exact_nothing n) (λ w k q. tt) (λ w k q. tt))
  part_exact Begins = headed_branch (λ t e. exact_less (exact_made (function_of q mode x t.place) Any (block_exact n) (λ w k q. tt) (λ w k q. tt)))

  sample : Opens (OneOf (Parts q mode x)) 0 []
  sample = record { rest = mark spot P.Semicolon ∷ []; value = declared q mode x tt; nest = 0; reads = to_behind q mode x _ _ _ (ends spot); fits = omega arith }

  -- what stands behind the parameters of a function is read exactly
  pub behind_exact : Exact lexeme n 0 (λ d. behind_at q mode x d) (ReadsBehind q mode x) Any
  behind_exact = exact_as (exact_one_of (behind_class (has_body mode x)) part_exact (λ c. omega arith) sample) (λ d ts a b. refl) (of_behind q mode x) (to_behind q mode x)
