-- Blanks at the end of a text.
use Rattle.std.proofs.Common.{◌≡◌, ◌<◌, Bool, true, false, [], ◌∷◌, ◌++◌, length, Option, refl, ap, subst, ◌∙◌, sym, arith, append_assoc, length-append}
use Rattle.std.proofs.lemmas.List.{append-nil}
use Rattle.std.proofs.lemmas.List.Elements.{All-append, All-cons}
use Rattle.std.specs.List.{AllPass}
use Rattle.cpc_base.specs.Bytes.{Text}
use Rattle.cpc_tree.specs.Pieces.{is_blank}
use Rattle.cpc_base.specs.declared.stop.Dialect.{Dialect}
use Rattle.cpc_tree.specs.Erase.{Names}
use Rattle.cpc_tree.specs.Spelling.{spelling, IsApart}
use Rattle.cpc_printer_layout.specs.declared.sheet.Lexeme.{Lexeme}
use Rattle.cpc_printer_layout.specs.Sheets.{lexeme_of}
use Rattle.cpc_printer_layout.specs.Layout.{BlanksMore, IsPrevious, previous_spelling, IsSetBehind}

pub no_blanks : AllPass is_blank []
no_blanks = λ k d lt. absurd (omega arith)

pub one_blank : AllPass is_blank (32 ∷ [])
unfolding is_blank
one_blank = All-cons (λ b. is_blank b ≡ true) 32 [] refl no_blanks

pub one_line : AllPass is_blank (10 ∷ [])
unfolding is_blank
one_line = All-cons (λ b. is_blank b ≡ true) 10 [] refl no_blanks

pub two_lines : AllPass is_blank (10 ∷ 10 ∷ [])
unfolding is_blank
two_lines = All-cons (λ b. is_blank b ≡ true) 10 (10 ∷ []) refl one_line

pub four_blanks : AllPass is_blank (32 ∷ 32 ∷ 32 ∷ 32 ∷ [])
four_blanks = All-append (λ b. is_blank b ≡ true) (32 ∷ 32 ∷ []) (32 ∷ 32 ∷ []) two two where
  two : AllPass is_blank (32 ∷ 32 ∷ [])
  two = All-append (λ b. is_blank b ≡ true) (32 ∷ []) (32 ∷ []) one_blank one_blank

pub none_more : (was : Text) → BlanksMore false was was
none_more was = record { blanks = []; all = no_blanks; some = λ e. absurd cc; put = sym (append-nil was) }

pub some_more : (p : Bool) (was now blanks : Text) → AllPass is_blank blanks → 0 < length blanks → now ≡ was ++ blanks → BlanksMore p was now
some_more p was now blanks all lt e = record { blanks = blanks; all = all; some = λ f. lt; put = e }

pub then_more : (p q : Bool) (was now next : Text) → BlanksMore p was now → BlanksMore q now next → BlanksMore p was next
then_more p q was now next a b = record {
  blanks = a.blanks ++ b.blanks;
  all = All-append (λ b. is_blank b ≡ true) a.blanks b.blanks a.all b.all;
  some = λ e. let lt = a.some e in omega (arith, lt, length-append a.blanks b.blanks);
  put = b.put ∙ (ap (λ u. u ++ b.blanks) a.put ∙ append_assoc was a.blanks b.blanks);
}

-- no blank was put, so none was needed
not_needed : (p : Bool) (was now : Text) (m : BlanksMore p was now) → m.blanks ≡ [] → p ≡ false
not_needed false was now m e = refl
not_needed true was now m e = let lt = m.some refl in let f : length m.blanks ≡ 0 = ap (λ u. length u) e in absurd (omega arith)

pub set_behind : (p : Bool) (names : Names) (last : Option Lexeme) (x : Lexeme) (was now next word : Text) → BlanksMore p was now → word ≡ spelling (lexeme_of names x)
    → (p ≡ false → (dialect : Dialect) → IsPrevious dialect names last → IsApart (previous_spelling names last) word) → next ≡ now ++ word → IsSetBehind names last x was next
set_behind p names last x was now next word m e free put = record {
  blanks = m.blanks;
  all = m.all;
  apart = λ f dialect known. subst (λ u. IsApart (previous_spelling names last) u) e (free (not_needed p was now m f) dialect known);
  put = put ∙ (ap (λ u. u ++ word) m.put ∙ ap (λ u. (was ++ m.blanks) ++ u) e);
}
