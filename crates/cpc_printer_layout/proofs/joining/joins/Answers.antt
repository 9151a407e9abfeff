use Rattle.std.proofs.Common.{◌≡◌, ap, sym, ◌∙◌, inl, inr}
use Rattle.cpc_tree.specs.Pieces as S
use Rattle.cpc_printer_layout.proofs.SpelledJoins.{joins_lexeme, tested}
use Rattle.cpc_printer_layout.proofs.joining.joins.Goals as goal

pub returns-in-Keyword : goal.returns-in-Keyword
returns-in-Keyword c =
    let b = c.args.b in
    let test = elim c.in-Keyword.is as (λ _. tested c.args.lexeme.now b ≡ S.in_word b) [
      | inl k ↦ ap (λ x. tested x b) k.1
      | inr h ↦ elim h as (λ _. tested c.args.lexeme.now b ≡ S.in_word b) [
        | inl n ↦ ap (λ x. tested x b) n.1
        | inr i ↦ elim i as (λ _. tested c.args.lexeme.now b ≡ S.in_word b) [
          | inl e ↦ ap (λ x. tested x b) e
          | inr z ↦ ap (λ x. tested x b) z.2
        ]
      ]
    ] in
    λ names dialect e. joins_lexeme c.args.lexeme.now b names dialect e ∙ (test ∙ sym c.is_in_word.ensures)

pub returns-in-Punctuator : goal.returns-in-Punctuator
returns-in-Punctuator c =
    λ names dialect e. joins_lexeme c.args.lexeme.now c.args.b names dialect e ∙ (ap (λ x. tested x c.args.b) c.in-Punctuator.is ∙ sym c.joins_mark.ensures)

pub returns-in-Character : goal.returns-in-Character
returns-in-Character c =
    λ names dialect e. joins_lexeme c.args.lexeme.now c.args.b names dialect e ∙ ap (λ x. tested x c.args.b) c.in-Character.is

pub returns-in-Text : goal.returns-in-Text
returns-in-Text c = λ names dialect e. joins_lexeme c.args.lexeme.now c.args.b names dialect e ∙ ap (λ x. tested x c.args.b) c.in-Text.is
