-- A text is read as one program at most; one that is accepted has no fault.
use Rattle.std.proofs.Common.{◌≡◌, ℕ, List, [], sym, ap, subst, ◌∙◌, arith}
use Rattle.cpc_base.specs.Bytes.{Text}
use Rattle.cpc_base.specs.declared.stop.Place.{Place}
use Rattle.cpc_base.specs.declared.stop.Dialect.{Dialect}
use Rattle.cpc_tree.specs.Tokens.{Placed}
use Rattle.cpc_tree.specs.Cut.{IsCut, IsLexFault, Tokens, Stopped, text_start, place_behind}
use Rattle.cpc_tree.specs.Located.{LItem, LProgram}
use Rattle.cpc_tree.specs.Grammar.{IsProgram, Parses}
use Rattle.cpc_parser_reading.specs.Reading.{Reading, Read}
use Rattle.cpc_lexer.proofs.Rows.{one_answer}
use Rattle.cpc_parser.proofs.Answer.{no_fault, program_read}
use Rattle.cpc_check_rules.specs.Rule.{Broken, IsFirst}
use Rattle.cpc_check_rules.specs.Rules.{breaks}
use Rattle.cpc_check_rules.specs.declared.rule.Rule.{Rule}
use Rattle.cpc_check.specs.Accepted.{Accepts}
use Rattle.cpc_translate.specs.declared.fault.TextFault.{TextFault}
use Rattle.cpc_translate.specs.Refusals.{IsTextFault, uncut, unread, unruly}

tokens_same : (l k : List Placed) → Tokens l ≡ Tokens k → l ≡ k
tokens_same l k e = cc

-- a text has one cut at most
one_cut : (text : Text) (dialect : Dialect) (l k : List Placed) → IsCut text dialect l → IsCut text dialect k → l ≡ k
one_cut text dialect l k a b = let o = one_answer text dialect in tokens_same l k (o.only (Tokens l) a ∙ sym (o.only (Tokens k) b))

-- a text with a cut has no fault of the cut
no_lex_fault : (text : Text) (dialect : Dialect) (l : List Placed) (q : Place) (n : ℕ) → IsCut text dialect l → IsLexFault text dialect q n → ⊥
no_lex_fault text dialect l q n a b =
    let o = one_answer text dialect in
    let e : Tokens l ≡ Stopped q n = o.only (Tokens l) a ∙ sym (o.only (Stopped q n) b) in
    absurd cc

items_same : (a b : List LItem) (h j : ℕ) (ts us : List Placed) → ◌≡◌ {A = Reading Placed (List LItem)} (Read (a, h, ts)) (Read (b, j, us)) → a ≡ b
items_same a b h j ts us e = let k : (a, h, ts) ≡ (b, j, us) = cc in ap (λ (x : List LItem × ℕ × List Placed). x.0) k

-- tokens are one program at most
one_tree : (dialect : Dialect) (list : List Placed) (end : Place) (p q : LProgram) → IsProgram dialect list end p → IsProgram dialect list end q → p ≡ q
one_tree dialect list end p q a b =
    let x = program_read dialect list end p a in
    let y = program_read dialect list end q b in
    let items = items_same p.items q.items x.0 y.0 [] [] (sym x.1 ∙ y.1) in
    let ends : p.end ≡ q.end = a.0 ∙ sym b.0 in
    λ j. record { items = items j; end = ends j }

pub one_program : (dialect : Dialect) (text : Text) (p q : LProgram) → Parses dialect text p → Parses dialect text q → p ≡ q
one_program dialect text p q (l, cut, a) (k, other, b) =
    let end = place_behind text_start text in
    one_tree dialect l end p q a (subst (λ u. IsProgram dialect u end q) (one_cut text dialect k l other cut) b)

none_first : (broken : Broken) (q : Place) (rule : Rule) → broken ≡ [] → IsFirst broken q rule → ⊥
none_first broken q rule e first = let h = subst (λ b. IsFirst b q rule) e first in let lt = h.0.1 in absurd (omega (arith, lt))

-- a text that is accepted is not refused
pub not_refused : (dialect : Dialect) (text : Text) (p : LProgram) → Accepts dialect text p → (fault : TextFault) → IsTextFault dialect text fault → ⊥
not_refused dialect text p accepted _ (uncut f faulty) =
    let r = accepted.parses in
    no_lex_fault text dialect r.0 f.place f.number r.1 faulty
not_refused dialect text p accepted _ (unread f list cut faulty) =
    let r = accepted.parses in
    let end = place_behind text_start text in
    no_fault dialect list end f.place f.number p (subst (λ u. IsProgram dialect u end p) (one_cut text dialect r.0 list r.1 cut) r.2) faulty
not_refused dialect text p accepted _ (unruly b q parses first) =
    let e : q ≡ p = one_program dialect text q p parses accepted.parses in
    none_first (breaks dialect q) b.place b.rule (ap (breaks dialect) e ∙ accepted.unbroken) first
