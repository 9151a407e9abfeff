-- Characters and strings, byte by byte.
use Rattle.std.proofs.Common.{◌≡◌, ℕ, ◌+◌, ◌≤◌, ◌<◌, [], length, take, get_or, Some, None, refl, ap, ◌∙◌, arith}
use Rattle.std.proofs.lemmas.Bool.{ne_eqb}
use Rattle.cpc_base.specs.Bytes.{Text}
use Rattle.cpc_base.specs.declared.stop.Dialect.{Dialect}
use Rattle.cpc_tree.specs.Tokens.{Lexeme}
use Rattle.cpc_tree.specs.Pieces.{Token, Fault, Quote, Single, Double, Escape, NoEscape, State, Open, Whole, Wrong, unclosed, malformed, is_blank, in_word, quote_byte, next_quoted, first_state, next_state, state_of}
use Rattle.cpc_tree.proofs.Apart.{whole_blank}
use Rattle.cpc_lexer.specs.declared.front.Front.TheVariants as F
use Rattle.cpc_lexer.specs.Fronts.{IsLongestFront, IsFront}
use Rattle.cpc_lexer.proofs.Steps.{state_next, state_begun, longest_front, is_front}

first_quote : (quote : Quote) → first_state (quote_byte quote) ≡ Some (Open quote [] NoEscape)
unfolding first_state is_blank in_word
first_quote Single = refl
first_quote Double = refl

pub quote_begun : (t : Text) (quote : Quote) → 0 < length t → get_or t 0 0 ≡ quote_byte quote → state_of (take 1 t) ≡ Some (Open quote [] NoEscape)
quote_begun t quote lt e = state_begun t 0 lt ∙ (ap (λ b. first_state b) e ∙ first_quote quote)

next_open : (quote : Quote) (held : Text) (part : Escape) (b : ℕ) → (b ≡ 10 → ⊥) → next_state (Open quote held part) b ≡ Some (next_quoted quote held part b)
unfolding next_state
next_open quote held part b h = rw (ne_eqb b 10 h) refl

next_line : (quote : Quote) (held : Text) (part : Escape) (b : ℕ) → b ≡ 10 → next_state (Open quote held part) b ≡ None
unfolding next_state
next_line quote held part b h = rw h refl

next_wrong : (b : ℕ) → next_state Wrong b ≡ None
unfolding next_state
next_wrong b = refl

-- one more byte of a literal
pub quote_goes : (t : Text) (n : ℕ) (quote : Quote) (held : Text) (part : Escape) (s : State) → n < length t → state_of (take n t) ≡ Some (Open quote held part) → (get_or t n 0 ≡ 10 → ⊥)
    → next_quoted quote held part (get_or t n 0) ≡ s → state_of (take (n + 1) t) ≡ Some s
quote_goes t n quote held part s lt e ne f = state_next t n 0 (Open quote held part) lt e ∙ (next_open quote held part (get_or t n 0) ne ∙ ap (λ u. Some u) f)

pub quote_closed : (dialect : Dialect) (t : Text) (n : ℕ) (x : Lexeme) → n < length t → state_of (take (n + 1) t) ≡ Some (Whole x) → IsLongestFront dialect t (n + 1) (Token x)
quote_closed dialect t n x lt e = longest_front dialect t (n + 1) 0 (Whole x) (Token x) (omega arith) (omega arith) e (λ l. whole_blank x _) refl

pub quote_wrong : (dialect : Dialect) (t : Text) (n : ℕ) → n < length t → state_of (take (n + 1) t) ≡ Some Wrong → IsFront dialect t (F.Fault malformed) (n + 1)
quote_wrong dialect t n lt e = is_front dialect t (n + 1) (F.Fault malformed) tt (omega arith, omega arith) (longest_front dialect t (n + 1) 0 Wrong (Fault malformed) (omega arith) (omega arith) e (λ l. next_wrong _) refl)

pub quote_open : (dialect : Dialect) (t : Text) (n : ℕ) (quote : Quote) (held : Text) (part : Escape) → 1 ≤ n → n ≤ length t → state_of (take n t) ≡ Some (Open quote held part) → (n < length t → get_or t n 0 ≡ 10) → IsFront dialect t (F.Fault unclosed) n
quote_open dialect t n quote held part pos le e f = is_front dialect t n (F.Fault unclosed) tt (omega arith, omega arith) (longest_front dialect t n 0 (Open quote held part) (Fault unclosed) (omega arith) le e (λ lt. next_line quote held part (get_or t n 0) (f lt)) refl)
