-- Words that clap takes for no option, and for no name of a command.
use Rattle.std.proofs.Common.{◌≡◌, ◌==◌, Bool, true, false, true≢false, [], ◌∷◌, None, refl, codes}
use Rattle.std.specs.Prelude.{bytes_eq, ◌||◌}
use Rattle.clap.specs.Lexer.{long_of, short_of}
use Rattle.cpc_base.specs.Bytes.{Text}
use Rattle.cpc_base.proofs.Truth.{not_holds}
use Rattle.cpc_cli_command.specs.Usage.{IsPlain, is_verb}

-- clap takes the word for no option
pub record IsValue (word : Text) : Type 0 where
  pub no_long : long_of word ≡ None
  pub no_short : short_of word ≡ None
  pub no_end : bytes_eq word (45 ∷ 45 ∷ []) ≡ false

pub value_of : (word : Text) → IsPlain word → IsValue word
value_of [] e = record { no_long = refl; no_short = refl; no_end = refl }
value_of (x ∷ xs) e =
    let other : (x == 45) ≡ false = not_holds (x == 45) e in
    record { no_long = rw other refl; no_short = rw other refl; no_end = rw other refl }

-- the word is none of the five names
pub unnamed : (verb : Text) → is_verb verb ≡ false
    → (bytes_eq (codes "check") verb ≡ false) × (bytes_eq (codes "translate") verb ≡ false) × (bytes_eq (codes "run") verb ≡ false) × (bytes_eq (codes "exec") verb ≡ false) × (bytes_eq (codes "sample") verb ≡ false)
unnamed verb e = go (bytes_eq (codes "check") verb) (bytes_eq (codes "translate") verb) (bytes_eq (codes "run") verb) (bytes_eq (codes "exec") verb) (bytes_eq (codes "sample") verb) e
  where
    go : (c t r x s : Bool) → (c || (t || (r || (x || (s || false))))) ≡ false → (c ≡ false) × (t ≡ false) × (r ≡ false) × (x ≡ false) × (s ≡ false)
    go true t r x s e = absurd (true≢false e)
    go false true r x s e = absurd (true≢false e)
    go false false true x s e = absurd (true≢false e)
    go false false false true s e = absurd (true≢false e)
    go false false false false true e = absurd (true≢false e)
    go false false false false false e = (refl, refl, refl, refl, refl)
