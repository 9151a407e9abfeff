-- What a read of a file gives, where the files are told.
use Rattle.std.proofs.Common.{◌≡◌, ℕ, ◌+◌, ◌<◌, ◌≤◌, List, [], ◌++◌, drop, length, take, Option, None, Some, ap, sym, ◌∙◌, arith, subst}
use Rattle.std.proofs.lemmas.Grind.{common_steps}
use Rattle.std.specs.Io.KnownBytes.{Consumes, IsAtEnd, Keeps, ReadConsumes}
use Rattle.std.specs.Io.{ReadsAtMost}
use Rattle.std.specs.Prelude.{IfOk, IfSome, Result, Ok, Err}
use Rattle.cpc_base.specs.Bytes.{Text}
use Rattle.cpc_base.specs.Outside.{Files, IsPiece, IsRead, WhereTold}
use Rattle.cpc_files.specs.Reads.{StandsAtFirst}

kept : (told : Option (List ℕ)) (bytes : List ℕ) → Keeps (Some bytes) told → told ≡ Some bytes
kept None bytes e = elim e [ ]
kept (Some xs) bytes e = ap Some e

-- what a read took from the front of these
taken : (rest bytes into : List ℕ) (offset n : ℕ) → n ≤ length into → drop offset bytes ≡ take n into ++ rest → (n ≡ 0 → 0 < length into → rest ≡ []) → IsPiece bytes offset into n
taken rest bytes into offset n fits cut end =
    let size : length (take n into) ≡ n = grind (arith, common_steps) in
    let same : take n (take n into ++ rest) ≡ take n into = grind (arith, common_steps) in
    let sum : length (take n into ++ rest) ≡ n + length rest = grind (arith, common_steps) in
    let many : length (drop offset bytes) ≡ n + length rest = ap length cut ∙ sum in
    record {
      same = sym (ap (take n) cut ∙ same);
      within = omega (arith, many);
      end = λ none room. let over : length rest ≡ 0 = ap length (end none room) in let left : length (drop offset bytes) ≡ 0 = omega (arith, many, none, over) in grind (arith, common_steps);
    }

left_after : (left : Option (List ℕ)) (bytes into : List ℕ) (offset n : ℕ) → n ≤ length into → Consumes (Some (drop offset bytes)) left (take n into) → (n ≡ 0 → 0 < length into → IsAtEnd left)
    → IsPiece bytes offset into n
left_after None bytes into offset n fits cut end = elim cut [ ]
left_after (Some rest) bytes into offset n fits cut end = taken rest bytes into offset n fits cut end

-- a read of a file that holds these bytes gives a piece of them
pub is_piece : {F : Type 0} (position : F → Option ℕ) (all remaining : F → Option (List ℕ)) (bytes : List ℕ) (file there left : F) (offset n : ℕ) (into : List ℕ)
    → StandsAtFirst position all remaining bytes file → position there ≡ Some offset → Keeps (all file) (all there)
    → Consumes (remaining there) (remaining left) (take n into) → (n ≡ 0 → 0 < length into → IsAtEnd (remaining left)) → n ≤ length into → IsPiece bytes offset into n
is_piece position all remaining bytes file there left offset n into stands at keeps takes end fits =
    let holds : all there ≡ Some bytes = kept (all there) bytes (subst (λ a. Keeps a (all there)) stands.holds keeps) in
    let from : Consumes (Some (drop offset bytes)) (remaining left) (take n into) = subst (λ r. Consumes r (remaining left) (take n into)) (stands.gives there offset at holds) takes in
    left_after (remaining left) bytes into offset n fits from end

-- a read of a file that was opened under a name and taken to an offset
pub piece_read : {F E : Type 0} (position : F → Option ℕ) (all remaining : F → Option (List ℕ)) (told : Option Files) (name : Text) (file there left : F) (offset k : ℕ) (into : List ℕ) (read : Result ℕ E)
    → WhereTold told (λ files. (bytes : Text) × (files name ≡ Some bytes) × StandsAtFirst position all remaining bytes file)
    → IfSome (position file) (λ p. (k ≡ offset) × (position there ≡ Some k)) → Keeps (all file) (all there)
    → ReadConsumes (remaining there) (remaining left) read into → ReadsAtMost read into → IfOk read (λ n. IsRead told name offset into n)
piece_read {F} position all remaining told name file there left offset k into (Err e) opened moved keeps takes fits = tt
piece_read {F} position all remaining told name file there left offset k into (Ok n) opened moved keeps takes fits = λ files is.
    let got = opened files is in
    let at = subst (λ p. IfSome p (λ _. (k ≡ offset) × (position there ≡ Some k))) got.2.first moved in
    (got.0, got.1, is_piece position all remaining got.0 file there left offset n into got.2 (at.1 ∙ ap Some at.0) keeps takes.0 takes.1 fits.0)
