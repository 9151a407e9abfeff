-- Names of the source, and names that are made, are names of the dialect Event.
use Rattle.std.proofs.Common.{◌≡◌, ℕ, ◌≤◌, ◌<◌, ◌^◌, Bool, true, false, List, [], ◌∷◌, ◌++◌, length, get_or, None, decimal, bytes_eq, codes, refl, arith, length-append}
use Rattle.std.specs.Prelude.{find}
use Rattle.std.specs.List.{AllPass, list_all}
use Rattle.std.specs.Char.{is_ascii_digit}
use Rattle.std.specs.Str.Parse.{AllDigits}
use Rattle.std.proofs.lemmas.List.Elements.{All-nil, All-cons, All-append}
use Rattle.std.proofs.lemmas.List.Sums.{AllPass-from_list_all}
use Rattle.std.proofs.lemmas.Str.Parse.{digit_from_value}
use Rattle.std.proofs.lemmas.Fmt.{decimal_is_IsNumeral, length-decimal-le}
use Rattle.cpc_base.specs.Bytes.{Text}
use Rattle.cpc_base.specs.declared.stop.Dialect.TheVariants as D
use Rattle.cpc_tree.specs.declared.token.Keyword.{Keyword}
use Rattle.cpc_tree.specs.declared.token.Keyword.TheVariants as K
use Rattle.cpc_tree.specs.Tokens.{keyword_spelling, keywords, keyword_of}
use Rattle.cpc_tree.specs.Pieces.{in_word}
use Rattle.cpc_tree.specs.Spelling.{IsName}
use Rattle.cpc_tree.proofs.Spelled.{digit_word}
use Rattle.cpc_convert_common.specs.Converted.{marked, spawner_name}
use Rattle.cpc_convert_common.specs.Marks.{has_marks}
use Rattle.cpc_convert_common.proofs.Marks.{marked_differs}
use Rattle.cpc_forms.specs.Flow.{Place, Start, At}
use Rattle.cpc_convert_routines.specs.Names.{start_name, leader_name, piece_name, value_tag, box_tag, variable_name, node_label}

-- ---- no keyword

-- no keyword has two underscores
keyword_plain : (k : Keyword) → has_marks (keyword_spelling k) ≡ false
keyword_plain K.Auto = refl
keyword_plain _ = refl

-- where none does, none is found
find_none : {A : Type 0} (p : A → Bool) → ((x : A) → p x ≡ false) → (xs : List A) → find p xs ≡ None
find_none p h [] = refl
find_none p h (x ∷ xs) = rw (h x) (find_none p h xs)

-- a name with two underscores is no keyword
marked_no_keyword : (f rest : Text) → keyword_of (marked f rest) ≡ None
unfolding keyword_of
marked_no_keyword f rest = find_none (λ (k : Keyword). bytes_eq (marked f rest) (keyword_spelling k)) (λ k. marked_differs f rest (keyword_spelling k) (keyword_plain k)) keywords

-- ---- bytes of a word

-- a underscore is a byte of a word
bar_word : in_word 95 ≡ true
unfolding in_word
bar_word = refl

-- and so are all digits of a number
digits_word : (ds : Text) → AllDigits 10 ds → AllPass in_word ds
digits_word [] all = All-nil (λ b. in_word b ≡ true)
digits_word (c ∷ ds) all = let d = digit_from_value c all.0 in All-cons (λ b. in_word b ≡ true) c ds (digit_word c d.0 d.1) (digits_word ds all.1)

decimal_word : (n : ℕ) → n < 2 ^ 64 → AllPass in_word (decimal n)
decimal_word n h = digits_word (decimal n) (decimal_is_IsNumeral n h).0.1

-- a name, two underscores and more
marked_word : (f rest : Text) → AllPass in_word f → AllPass in_word rest → AllPass in_word (marked f rest)
marked_word f rest a b = All-append (λ c. in_word c ≡ true) f (95 ∷ 95 ∷ rest) a (All-cons (λ c. in_word c ≡ true) 95 (95 ∷ rest) bar_word (All-cons (λ c. in_word c ≡ true) 95 rest bar_word b))

-- ---- names

-- what comes after a name leaves its first byte
marked_begins : (f rest : Text) → 0 < length f → is_ascii_digit (get_or f 0 0) ≡ false → is_ascii_digit (get_or (marked f rest) 0 0) ≡ false
marked_begins [] rest h e = absurd (omega arith)
marked_begins (c ∷ f) rest h e = e

-- what is made of a name of the dialect Cpc by not too many bytes is a name of the dialect Event
pub marked_name : (f rest : Text) → IsName D.Cpc f → AllPass in_word rest → length rest ≤ 24 → IsName D.Event (marked f rest)
marked_name f rest n all short =
    let size = length-append f (95 ∷ 95 ∷ rest) in
    let some = n.some in
    let limit = n.short in
    record {
      some = omega (arith, size, some);
      begins = marked_begins f rest n.some n.begins;
      word = marked_word f rest n.word all;
      no_keyword = marked_no_keyword f rest;
      short = omega (arith, size, limit, short);
    }

-- a short text of letters, digits and underscores that begins with none of the digits
pub word_name : (x : Text) → 0 < length x → length x ≤ 60 → is_ascii_digit (get_or x 0 0) ≡ false → AllPass in_word x → keyword_of x ≡ None → IsName D.Event x
word_name x some short begins word plain = record { some = some; begins = begins; word = word; no_keyword = plain; short = omega (arith, short) }

-- a name of the dialect Cpc is one of the dialect Event
pub name_widened : (x : Text) → IsName D.Cpc x → IsName D.Event x
name_widened x n = let limit = n.short in record { some = n.some; begins = n.begins; word = n.word; no_keyword = n.no_keyword; short = omega (arith, limit) }

-- ---- of functions and variables

letters : (x : Text) → list_all in_word x ≡ true → AllPass in_word x
letters x e = AllPass-from_list_all in_word x e

decimal_short : (n : ℕ) → n < 2 ^ 64 → length (decimal n) ≤ 20
decimal_short n h = length-decimal-le 20 n (omega arith) (omega (arith, h)) h

-- letters, and then the digits of a number
numbered_word : (x : Text) (n : ℕ) → AllPass in_word x → n < 2 ^ 64 → AllPass in_word (x ++ decimal n)
numbered_word x n a h = All-append (λ c. in_word c ≡ true) x (decimal n) a (decimal_word n h)

pub spawner_is_name : (f : Text) → IsName D.Cpc f → IsName D.Event (spawner_name f)
unfolding spawner_name in_word
spawner_is_name f n = marked_name f (codes "spawn") n (letters (codes "spawn") refl) (omega arith)

pub start_is_name : (f : Text) → IsName D.Cpc f → IsName D.Event (start_name f)
unfolding start_name in_word
start_is_name f n = marked_name f (codes "start") n (letters (codes "start") refl) (omega arith)

pub value_is_name : (f : Text) → IsName D.Cpc f → IsName D.Event (value_tag f)
unfolding value_tag in_word
value_is_name f n = marked_name f (codes "value") n (letters (codes "value") refl) (omega arith)

at_word : AllPass in_word (codes "at")
unfolding in_word
at_word = letters (codes "at") refl

box_word : AllPass in_word (codes "box")
unfolding in_word
box_word = letters (codes "box") refl

pub leader_is_name : (f : Text) (n : ℕ) → IsName D.Cpc f → n < 2 ^ 64 → IsName D.Event (leader_name f n)
unfolding leader_name
leader_is_name f n name h =
    let size = length-append (codes "at") (decimal n) in
    let short = decimal_short n h in
    marked_name f (codes "at" ++ decimal n) name (numbered_word (codes "at") n at_word h) (omega (arith, size, short))

pub box_is_name : (f : Text) (k : ℕ) → IsName D.Cpc f → k < 2 ^ 64 → IsName D.Event (box_tag f k)
unfolding box_tag
box_is_name f k name h =
    let size = length-append (codes "box") (decimal k) in
    let short = decimal_short k h in
    marked_name f (codes "box" ++ decimal k) name (numbered_word (codes "box") k box_word h) (omega (arith, size, short))

pub variable_is_name : (k : ℕ) (x : Text) → IsName D.Cpc x → k < 2 ^ 64 → IsName D.Event (variable_name k x)
unfolding variable_name
variable_is_name k x name h = let short = decimal_short k h in marked_name x (decimal k) name (decimal_word k h) (omega (arith, short))

-- the piece of an owner, whose number is not too great
abbrev pub IsSmall : Place → Type 0
IsSmall Start = Unit {0}
IsSmall (At n) = n < 2 ^ 64

pub piece_is_name : (f : Text) (l : Place) → IsName D.Cpc f → IsSmall l → IsName D.Event (piece_name f l)
piece_is_name f Start name h = start_is_name f name
piece_is_name f (At n) name h = leader_is_name f n name h

-- a label
pub label_is_name : (n : ℕ) → n < 2 ^ 64 → IsName D.Event (node_label n)
unfolding node_label
label_is_name n h =
    let front = length-append (codes "at") (decimal n) in
    let size = length-append (codes "at" ++ decimal n) (95 ∷ 95 ∷ codes "") in
    let short = decimal_short n h in
    record {
      some = omega (arith, size);
      begins = refl;
      word = marked_word (codes "at" ++ decimal n) (codes "") (numbered_word (codes "at") n at_word h) (All-nil (λ b. in_word b ≡ true));
      no_keyword = marked_no_keyword (codes "at" ++ decimal n) (codes "");
      short = omega (arith, size, front, short);
    }

-- ---- words of ours, and the primitives of the event loop

pub drive_name : IsName D.Event (codes "drive__")
unfolding keyword_of in_word
drive_name = word_name (codes "drive__") (omega arith) (omega arith) refl (letters (codes "drive__") refl) refl

pub frame_name : IsName D.Event (codes "frame__")
unfolding keyword_of in_word
frame_name = word_name (codes "frame__") (omega arith) (omega arith) refl (letters (codes "frame__") refl) refl

pub code_field_name : IsName D.Event (codes "code__")
unfolding keyword_of in_word
code_field_name = word_name (codes "code__") (omega arith) (omega arith) refl (letters (codes "code__") refl) refl

pub next_is_name : IsName D.Event (codes "next__")
unfolding keyword_of in_word
next_is_name = word_name (codes "next__") (omega arith) (omega arith) refl (letters (codes "next__") refl) refl

pub value_word_name : IsName D.Event (codes "value__")
unfolding keyword_of in_word
value_word_name = word_name (codes "value__") (omega arith) (omega arith) refl (letters (codes "value__") refl) refl

pub taken_is_name : IsName D.Event (codes "f__")
unfolding keyword_of in_word
taken_is_name = word_name (codes "f__") (omega arith) (omega arith) refl (letters (codes "f__") refl) refl

pub k_name : IsName D.Event (codes "k__")
unfolding keyword_of in_word
k_name = word_name (codes "k__") (omega arith) (omega arith) refl (letters (codes "k__") refl) refl

pub r_name : IsName D.Event (codes "r__")
unfolding keyword_of in_word
r_name = word_name (codes "r__") (omega arith) (omega arith) refl (letters (codes "r__") refl) refl

pub e_name : IsName D.Event (codes "e__")
unfolding keyword_of in_word
e_name = word_name (codes "e__") (omega arith) (omega arith) refl (letters (codes "e__") refl) refl

pub to_is_name : IsName D.Event (codes "to__")
unfolding keyword_of in_word
to_is_name = word_name (codes "to__") (omega arith) (omega arith) refl (letters (codes "to__") refl) refl

pub under_is_name : IsName D.Event (codes "under__")
unfolding keyword_of in_word
under_is_name = word_name (codes "under__") (omega arith) (omega arith) refl (letters (codes "under__") refl) refl

pub result_is_name : IsName D.Event (codes "result__")
unfolding keyword_of in_word
result_is_name = word_name (codes "result__") (omega arith) (omega arith) refl (letters (codes "result__") refl) refl

pub rt_frame_name : IsName D.Event (codes "rt_frame")
unfolding keyword_of in_word
rt_frame_name = word_name (codes "rt_frame") (omega arith) (omega arith) refl (letters (codes "rt_frame") refl) refl

pub rt_frame_free_name : IsName D.Event (codes "rt_frame_free")
unfolding keyword_of in_word
rt_frame_free_name = word_name (codes "rt_frame_free") (omega arith) (omega arith) refl (letters (codes "rt_frame_free") refl) refl

pub rt_box_name : IsName D.Event (codes "rt_box")
unfolding keyword_of in_word
rt_box_name = word_name (codes "rt_box") (omega arith) (omega arith) refl (letters (codes "rt_box") refl) refl

pub rt_unbox_name : IsName D.Event (codes "rt_unbox")
unfolding keyword_of in_word
rt_unbox_name = word_name (codes "rt_unbox") (omega arith) (omega arith) refl (letters (codes "rt_unbox") refl) refl

pub rt_ready_name : IsName D.Event (codes "rt_ready")
unfolding keyword_of in_word
rt_ready_name = word_name (codes "rt_ready") (omega arith) (omega arith) refl (letters (codes "rt_ready") refl) refl

pub rt_sleep_name : IsName D.Event (codes "rt_sleep")
unfolding keyword_of in_word
rt_sleep_name = word_name (codes "rt_sleep") (omega arith) (omega arith) refl (letters (codes "rt_sleep") refl) refl

pub rt_io_name : IsName D.Event (codes "rt_io")
unfolding keyword_of in_word
rt_io_name = word_name (codes "rt_io") (omega arith) (omega arith) refl (letters (codes "rt_io") refl) refl

pub rt_wait_name : IsName D.Event (codes "rt_wait")
unfolding keyword_of in_word
rt_wait_name = word_name (codes "rt_wait") (omega arith) (omega arith) refl (letters (codes "rt_wait") refl) refl

pub rt_detach_name : IsName D.Event (codes "rt_detach")
unfolding keyword_of in_word
rt_detach_name = word_name (codes "rt_detach") (omega arith) (omega arith) refl (letters (codes "rt_detach") refl) refl

pub main_name : IsName D.Event (codes "main")
unfolding keyword_of in_word
main_name = word_name (codes "main") (omega arith) (omega arith) refl (letters (codes "main") refl) refl

-- a name of the dialect Cpc
abbrev pub IsSourceName : Text → Type 0
IsSourceName x = IsName D.Cpc x

pub main_is_source : IsSourceName (codes "main")
unfolding keyword_of in_word
main_is_source = record { some = omega arith; begins = refl; word = letters (codes "main") refl; no_keyword = refl; short = omega arith }
