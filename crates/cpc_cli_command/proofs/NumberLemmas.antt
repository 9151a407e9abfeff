-- What `parse` reads of a numeral.
use Rattle.std.proofs.Common.{◌≡◌, ◌<◌, ◌≤◌, ◌^◌, ℕ, true, [], ◌∷◌, length, Result, Ok, arith, nat_le}
use Rattle.std.specs.Char.{digit_value, is_ascii_digit}
use Rattle.std.specs.List.{list_all}
use Rattle.std.specs.Str.Parse.{AllDigits, ParsesUnsigned, digits_value}
use Rattle.std.proofs.Math.Nat.{pow-le-pow_right}
use Rattle.std.proofs.lemmas.Bool.Decides.{nat_tests}
use Rattle.std.proofs.lemmas.Result.{Ok-from_Ok_iff}
use Rattle.std.proofs.lemmas.Int.Digits.{digits_value-lt}
use Rattle.std.proofs.lemmas.Str.Parse.{numerals_by_value, parse_digits, tells_digits}
use Rattle.cpc_base.specs.Bytes.{Text}
use Rattle.cpc_base.proofs.Truth.{and_both}
use Rattle.cpc_cli_command.specs.Number.{is_numeral}

digit_of : (byte : ℕ) → is_ascii_digit byte ≡ true → digit_value byte < 10
digit_of byte e = grind (arith, nat_tests)

digits_of : (text : Text) → list_all is_ascii_digit text ≡ true → AllDigits 10 text
digits_of [] e = tt
digits_of (x ∷ xs) e =
    let two = and_both (is_ascii_digit x) (list_all is_ascii_digit xs) e in
    (digit_of x two.0, digits_of xs two.1)

-- it reads the number that the digits write
pub numeral_reads : {E : Type 0} (text : Text) (r : Result ℕ E) → ParsesUnsigned 64 10 text r → is_numeral text ≡ true → r ≡ Ok (digits_value 10 text)
numeral_reads text r h e =
    let one = and_both (nat_le 1 (length text)) _ e in
    let two = and_both (nat_le (length text) 18) _ one.1 in
    let digits = digits_of text two.1 in
    let some : 0 < length text = grind (arith, nat_tests) in
    let few : length text ≤ 18 = grind (arith, nat_tests) in
    let small : digits_value 10 text < 10 ^ length text = digits_value-lt 10 text digits in
    let bound : 10 ^ length text ≤ 10 ^ 18 = pow-le-pow_right (omega arith) few in
    let last : (10 ^ 18) < (2 ^ 64) = omega arith in
    let fits : digits_value 10 text < 2 ^ 64 = omega arith in
    Ok-from_Ok_iff r _ _ (parse_digits (numerals_by_value (AllDigits 10) tells_digits) 64 text r h digits) (some, fits)
