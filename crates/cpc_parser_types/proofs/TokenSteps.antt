-- What code knows of the tokens, and what the readers give of them.
use Rattle.std.proofs.Common.{◌≡◌, ℕ, ◌+◌, ◌-◌, ◌≤◌, ◌<◌, true, false, List, [], ◌∷◌, Option, Result, max, if◌then◌else◌, ap, subst, ◌∙◌}
use Rattle.std.specs.Result.{IsErrAnd}
use Rattle.std.proofs.lemmas.Result.{err_from_is_err_and}
use Rattle.cpc_base.specs.declared.stop.Place.{Place}
use Rattle.cpc_tree.specs.declared.token.Punctuator.{Punctuator}
use Rattle.cpc_tree.specs.declared.token.Punctuator.TheVariants as P
use Rattle.cpc_tree.specs.declared.token.Token.{Token}
use Rattle.cpc_tree.specs.declared.token.TokenKind.TheVariants as T
use Rattle.cpc_tree.specs.Erase.{Names}
use Rattle.cpc_tree.specs.Tokens.{Placed}
use Rattle.cpc_tree.specs.Syntax.{Ty, TyCode}
use Rattle.cpc_tree.specs.Located.{Ident}
use Rattle.cpc_tree.specs.TypeGrammar.{types}
use Rattle.cpc_parser_reading.specs.Reading.{Reading, Read, Fault, Deep, ◌>>=◌, expect}
use Rattle.cpc_parser_types.specs.Begins.{is_mark, begins}
use Rattle.cpc_parser_types.specs.TypeReaders.{is_star, is_right}
use Rattle.cpc_parser_types.specs.TypeViews.{typed_reader, parameter_at, type_at, coded_at, parameters_at, maybe_name_at, pointed_at}
use Rattle.cpc_parser_types.specs.Views.{placed, Refuses, Gives}
use Rattle.cpc_parser_types.specs.declared.refusal.Refusal as GRefusal
use Rattle.cpc_parser_types.specs.declared.refusal.Refusal.TheVariants as R
use Rattle.cpc_parser_types.proofs.TypedSteps.{behind_at, behind_type_at, parameter_is, type_name_is}
use Rattle.cpc_parser_types.proofs.BehindSteps.{finished_at, behind_deep, behind_code, behind_plain}
use Rattle.cpc_parser_types.proofs.NamelessSteps.{coded_is, nameless_deep, nameless_code, nameless_plain}

-- behind both marks of a pointer to a function
pub code_tokens : (names : Names) (t : Ty) (h d : ℕ) (ts us rest : List Token) (q r : Place) → ts ≡ record { place = q; kind = T.Punctuator P.RightParen } ∷ us → us ≡ record { place = r; kind = T.Punctuator P.LeftParen } ∷ rest → 0 < d
    → coded_at t h d (placed names ts) ≡ (parameters_at (d - 1) (placed names rest) >>= λ x. expect (λ u. is_right u.lexeme) x.2 >>= λ y. Read (TyCode t (types x.0), max h (x.1 + 1), y.2))
code_tokens names t h d ts us rest q r e f room = rw (e, f) (coded_is t h d q r (placed names rest) room)

module _ (names : Names) (d : ℕ) (ts us : List Token) (t : Ty) (h : ℕ) (read : typed_reader d (placed names ts) ≡ Read (t, h, placed names us)) where
  begun : parameter_at d (placed names ts) ≡ behind_at d t h (placed names us)
  begun = parameter_is d (placed names ts) ∙ ap (λ r. r >>= λ x. behind_at d x.0 x.1 x.2) read

  pub param_deep : begins P.LeftParen (placed names us) ≡ true → d ≡ 0 → parameter_at d (placed names ts) ≡ Deep (placed names us)
  param_deep e z = begun ∙ behind_deep d t h (placed names us) e z

  pub param_code : (rest : List Token) (q : Place) → us ≡ record { place = q; kind = T.Punctuator P.LeftParen } ∷ rest → h ≤ d → 0 < d → parameter_at d (placed names ts) ≡ (expect (λ u. is_star u.lexeme) (placed names rest) >>= λ x. finished_at d t h x.2)
  param_code rest q e hi room = begun ∙ (ap (λ z. behind_at d t h (placed names z)) e ∙ behind_code d t h q (placed names rest) hi room)

  pub param_named : (rest more behind : List Token) (q r : Place) (o : Option Ident) → us ≡ record { place = q; kind = T.Punctuator P.LeftParen } ∷ rest → rest ≡ record { place = r; kind = T.Punctuator P.Star } ∷ more → h ≤ d → 0 < d
      → maybe_name_at d (placed names more) ≡ Read (o, 0, placed names behind)
      → parameter_at d (placed names ts) ≡ (coded_at t h d (placed names behind) >>= λ p. Read (record { called = o; type = p.0 }, p.1, p.2))
  param_named rest more behind q r o e f hi room n =
      param_code rest q e hi room
      ∙ (ap (λ z. expect (λ u. is_star u.lexeme) (placed names z) >>= λ x. finished_at d t h x.2) f ∙ ap (λ m. m >>= λ o. coded_at t h d o.2 >>= λ p. Read (record { called = o.0; type = p.0 }, p.1, p.2)) n)

  pub param_plain : (behind : List Token) (o : Option Ident) → begins P.LeftParen (placed names us) ≡ false → h ≤ d → maybe_name_at d (placed names us) ≡ Read (o, 0, placed names behind)
      → parameter_at d (placed names ts) ≡ (pointed_at t d (placed names behind) >>= λ p. Read (record { called = o; type = p.0 }, max h p.1, p.2))
  param_plain behind o e hi n =
      begun ∙ (behind_plain d t h (placed names us) hi e ∙ ap (λ m. m >>= λ o. pointed_at t d o.2 >>= λ p. Read (record { called = o.0; type = p.0 }, max h p.1, p.2)) n)

  nameless : type_at d (placed names ts) ≡ behind_type_at d t h (placed names us)
  nameless = type_name_is d (placed names ts) ∙ ap (λ r. r >>= λ x. behind_type_at d x.0 x.1 x.2) read

  pub type_deep : begins P.LeftParen (placed names us) ≡ true → d ≡ 0 → type_at d (placed names ts) ≡ Deep (placed names us)
  type_deep e z = nameless ∙ nameless_deep d t h (placed names us) e z

  pub type_plain : begins P.LeftParen (placed names us) ≡ false → type_at d (placed names ts) ≡ Read (t, h, placed names us)
  type_plain e = nameless ∙ nameless_plain d t h (placed names us) e

  pub type_code : (rest : List Token) (q : Place) → us ≡ record { place = q; kind = T.Punctuator P.LeftParen } ∷ rest → h ≤ d → 0 < d → type_at d (placed names ts) ≡ (expect (λ u. is_star u.lexeme) (placed names rest) >>= λ x. coded_at t h d x.2)
  type_code rest q e hi room = nameless ∙ (ap (λ z. behind_type_at d t h (placed names z)) e ∙ nameless_code d t h q (placed names rest) hi room)

-- a mark that begins the tokens is not refused
begun_refuses : {A : Type 0} (p : Punctuator) (us : List Placed) (e : GRefusal.Refusal) (s : Reading Placed A) → begins p us ≡ true → Refuses e (expect (λ t. is_mark p t.lexeme) us) → Refuses e s
begun_refuses p [] e s i g = absurd cc
begun_refuses p (u ∷ rest) e s i g = by e (subst (λ b. Refuses e (if b then Read (tt, 0, rest) else Fault (u ∷ rest))) i g) where
  by : (e : GRefusal.Refusal) → Refuses {A = Unit {0}} e (Read (tt, 0, rest)) → Refuses e s
  by R.Memory g = tt
  by (R.Syntax n) g = let j = g.2 in absurd cc
  by (R.Deep n) g = let j = g.2 in absurd cc

pub begun_err : {A Y : Type 0} (view : Y → A × ℕ × List Placed) (p : Punctuator) (us : List Placed) (x : Result Y GRefusal.Refusal) (e : GRefusal.Refusal) (s : Reading Placed A)
    → begins p us ≡ true → IsErrAnd x (λ y. y ≡ e) → Refuses e (expect (λ t. is_mark p t.lexeme) us) → Gives view x s
begun_err view p us x e s i j g = let k = err_from_is_err_and x j in rw (k.1, k.2) (begun_refuses p us e s i g)
