-- How code reads a base type with stars, and what stands behind it.
use Rattle.std.proofs.Common.{◌≡◌, ℕ, List, refl, ap, ◌∙◌}
use Rattle.cpc_tree.specs.Tokens.{Placed}
use Rattle.cpc_tree.specs.Syntax.{Ty}
use Rattle.cpc_tree.specs.Located.{LParameter}
use Rattle.cpc_parser_reading.specs.Reading.{Reading, Read, Fault, Deep, Reader, ◌>>=◌, mapped}
use Rattle.cpc_parser_reading.specs.Chain.{links}
use Rattle.cpc_parser_types.specs.TypeReaders.{Ending, Done, base_at, typed_at, star_links, Going, Part, piece_class, type_class, Piece, Open, Known, Closed, pieced, name_part, bracket_part, code_part, piece_links, type_links, type_coded, param_of, piece_type, lists}
use Rattle.cpc_parser_types.specs.Declarators.{pointer_links}
use Rattle.cpc_parser_types.specs.TypeViews.{base_reader, only_type, parameter_at, type_at}
use Rattle.cpc_parser_types.proofs.Seen.{links_seen}

typed_by : (d : ℕ) (r : Reading Placed (Ty × Ending))
    → ((r >>= λ x. links (star_links d) x.0 x.1 x.2) >>= λ x. Read (only_type x.0, x.1, x.2)) ≡ ((r >>= λ x. Read (only_type x.0, x.1, x.2)) >>= λ x. links (pointer_links d) x.0 x.1 x.2)
typed_by d (Read x) = links_seen only_type (star_links d) (pointer_links d) (λ v t. refl) (λ c v w. refl) (λ c h. refl) (λ c ts. refl) (λ c h j. refl) x.0 x.1 x.2
typed_by d (Fault left) = refl
typed_by d (Deep left) = refl

-- a base type, and stars behind it
pub typed_plain : (d : ℕ) (ts : List Placed) → mapped only_type (typed_at d) ts ≡ (base_reader d ts >>= λ x. links (pointer_links d) x.0 x.1 x.2)
typed_plain d ts = typed_by d (base_at d ts)

-- what goes on of a base type is forgotten
abbrev plainly : Piece → Piece
plainly (Open v) = Open (v.0, Done)
plainly (Known t x) = Known t x
plainly (Closed t o) = Closed t o

-- what stands behind the type of a parameter
abbrev pub behind_at : ℕ → Ty → ℕ → Reader Placed LParameter
behind_at d t h = mapped param_of (links (piece_links (λ us. lists d us) d) (Open (t, Done)) h)

-- what stands behind a type without a name
abbrev pub behind_type_at : ℕ → Ty → ℕ → Reader Placed Ty
behind_type_at d t h = mapped piece_type (links (type_links (λ us. lists d us) d) (Open (t, Done)) h)

plain_class : (p : Piece) (t : Placed) → piece_class p t.lexeme ≡ piece_class (plainly p) t.lexeme
plain_class (Open v) t = refl
plain_class (Known u x) t = refl
plain_class (Closed u o) t = refl

plain_pieced : (c : Going) (p : Piece) (w : Part) → plainly (pieced c p w) ≡ pieced c (plainly p) w
plain_pieced c (Open v) (name_part x) = refl
plain_pieced c (Open v) bracket_part = refl
plain_pieced c (Open v) (code_part o ps) = refl
plain_pieced c (Known u y) (name_part x) = refl
plain_pieced c (Known u y) bracket_part = refl
plain_pieced c (Known u y) (code_part o ps) = refl
plain_pieced c (Closed u y) (name_part x) = refl
plain_pieced c (Closed u y) bracket_part = refl
plain_pieced c (Closed u y) (code_part o ps) = refl

plain_param : (r : Reading Placed Piece) → (r >>= λ x. Read (param_of x.0, x.1, x.2)) ≡ ((r >>= λ x. Read (plainly x.0, x.1, x.2)) >>= λ x. Read (param_of x.0, x.1, x.2))
plain_param (Read (Open v, h, ts)) = refl
plain_param (Read (Known t x, h, ts)) = refl
plain_param (Read (Closed t o, h, ts)) = refl
plain_param (Fault left) = refl
plain_param (Deep left) = refl

param_by : (d : ℕ) (r : Reading Placed (Ty × Ending))
    → (((r >>= λ x. Read (Open x.0, x.1, x.2)) >>= λ x. links (piece_links (λ us. lists d us) d) x.0 x.1 x.2) >>= λ x. Read (param_of x.0, x.1, x.2))
    ≡ ((r >>= λ x. Read (only_type x.0, x.1, x.2)) >>= λ x. behind_at d x.0 x.1 x.2)
param_by d (Read x) =
    plain_param (links (piece_links (λ us. lists d us) d) (Open x.0) x.1 x.2)
    ∙ ap (λ r. r >>= λ x. Read (param_of x.0, x.1, x.2))
    (links_seen plainly (piece_links (λ us. lists d us) d) (piece_links (λ us. lists d us) d) plain_class plain_pieced (λ c h. refl) (λ c ts. refl) (λ c h j. refl) (Open x.0) x.1 x.2)
param_by d (Fault left) = refl
param_by d (Deep left) = refl

-- a parameter is a type and what stands behind it
pub parameter_is : (d : ℕ) (ts : List Placed) → parameter_at d ts ≡ (mapped only_type (typed_at d) ts >>= λ x. behind_at d x.0 x.1 x.2)
parameter_is d ts = param_by d (typed_at d ts)

plain_type_class : (p : Piece) (t : Placed) → type_class p t.lexeme ≡ type_class (plainly p) t.lexeme
plain_type_class (Open v) t = refl
plain_type_class (Known u x) t = refl
plain_type_class (Closed u o) t = refl

plain_coded : (c : Unit {0}) (p : Piece) (w : List LParameter) → plainly (type_coded c p w) ≡ type_coded c (plainly p) w
plain_coded c (Open v) w = refl
plain_coded c (Known u y) w = refl
plain_coded c (Closed u y) w = refl

plain_piece_type : (r : Reading Placed Piece) → (r >>= λ x. Read (piece_type x.0, x.1, x.2)) ≡ ((r >>= λ x. Read (plainly x.0, x.1, x.2)) >>= λ x. Read (piece_type x.0, x.1, x.2))
plain_piece_type (Read (Open v, h, ts)) = refl
plain_piece_type (Read (Known t x, h, ts)) = refl
plain_piece_type (Read (Closed t o, h, ts)) = refl
plain_piece_type (Fault left) = refl
plain_piece_type (Deep left) = refl

type_by : (d : ℕ) (r : Reading Placed (Ty × Ending))
    → (((r >>= λ x. Read (Open x.0, x.1, x.2)) >>= λ x. links (type_links (λ us. lists d us) d) x.0 x.1 x.2) >>= λ x. Read (piece_type x.0, x.1, x.2))
    ≡ ((r >>= λ x. Read (only_type x.0, x.1, x.2)) >>= λ x. behind_type_at d x.0 x.1 x.2)
type_by d (Read x) =
    plain_piece_type (links (type_links (λ us. lists d us) d) (Open x.0) x.1 x.2)
    ∙ ap (λ r. r >>= λ x. Read (piece_type x.0, x.1, x.2))
    (links_seen plainly (type_links (λ us. lists d us) d) (type_links (λ us. lists d us) d) plain_type_class plain_coded (λ c h. refl) (λ c ts. refl) (λ c h j. refl) (Open x.0) x.1 x.2)
type_by d (Fault left) = refl
type_by d (Deep left) = refl

-- so is a type without a name
pub type_name_is : (d : ℕ) (ts : List Placed) → type_at d ts ≡ (mapped only_type (typed_at d) ts >>= λ x. behind_type_at d x.0 x.1 x.2)
type_name_is d ts = type_by d (typed_at d ts)
