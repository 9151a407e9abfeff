-- What names stand for in blocks, over the items of a source and those of its event program.
use Rattle.std.proofs.Common.{◌≡◌, true, false, List, [], ◌∷◌, ◌++◌, Option, Some, None, bytes_eq, codes, refl, sym, ◌∙◌, ap}
use Rattle.cpc_base.specs.Bytes.{Text}
use Rattle.cpc_base.proofs.Truth.{by_false_true, or_by_second}
use Rattle.cpc_tree.specs.declared.program.Mode.{Mode}
use Rattle.cpc_tree.specs.Syntax.{Ty, Expr, ENamed, EInteger, ECharacter, EText, EUnary, EBinary, EAnd, EOr, EChoose, ECast, ESizeOf, EIndex, EMember, EArrow, ECall, Exprs, NoExpr, AndExpr, Variable}
use Rattle.cpc_tree.specs.Typing.{Meant, ALocal, AFunction}
use Rattle.cpc_meaning.proofs.Functions.{texts_differ}
use Rattle.cpc_check_rules.specs.Scopes.{Scope, Block, in_block, in_blocks, meant, with_name}
use Rattle.cpc_check_rules.specs.FunctionRules.{begins_with, holds_underscores}
use Rattle.cpc_convert_common.specs.Converted.{spawner_name}
use Rattle.cpc_convert_image_laws.specs.Images.{Readings, image, images, image_if}
use Rattle.cpc_lifted_laws.specs.Complete.Reads.{Reads, StaysLocal, StaysGlobal, StaysFunction, IsCps, StaysNothing}
use Rattle.cpc_lifted_laws.specs.Complete.Kept.{KeptName, KeptLocal, KeptGlobal, KeptFunction, KeptCps, KeptNothing}

-- ---- names that stay

-- each name stays
abbrev pub unread : Readings
unread x = None

mutual
  pub image_unread : (e : Expr) → image unread e ≡ e
  image_unread (ENamed x) = refl
  image_unread (EInteger kind z) = refl
  image_unread (ECharacter z) = refl
  image_unread (EText bytes) = refl
  image_unread (EUnary op e) = ap (EUnary op) (image_unread e)
  image_unread (EBinary op a b) = rw (image_unread a, image_unread b) refl
  image_unread (EAnd a b) = rw (image_unread a, image_unread b) refl
  image_unread (EOr a b) = rw (image_unread a, image_unread b) refl
  image_unread (EChoose t a b) = rw (image_unread t, image_unread a, image_unread b) refl
  image_unread (ECast t e) = ap (ECast t) (image_unread e)
  image_unread (ESizeOf t) = refl
  image_unread (EIndex a b) = rw (image_unread a, image_unread b) refl
  image_unread (EMember e x) = ap (λ e. EMember e x) (image_unread e)
  image_unread (EArrow e x) = ap (λ e. EArrow e x) (image_unread e)
  image_unread (ECall f es) = rw (image_unread f, images_unread es) refl

  pub images_unread : (es : Exprs) → images unread es ≡ es
  images_unread NoExpr = refl
  images_unread (AndExpr e es) = rw (image_unread e, images_unread es) refl

pub image_if_unread : (o : Option Expr) → image_if unread o ≡ o
image_if_unread None = refl
image_if_unread (Some e) = ap (λ e. Some e) (image_unread e)

-- a name that is kept stays
kept_reads : (s : Scope) (x : Text) (m n : Meant) → meant s x ≡ n → KeptName x m n → Reads s x None m
kept_reads s x _ _ e (KeptLocal j k t) = StaysLocal j k t e
kept_reads s x _ _ e (KeptGlobal j k t) = StaysGlobal j k t e
kept_reads s x _ _ e (KeptFunction mode r ps) = StaysFunction mode r ps e
kept_reads s x _ _ e (KeptCps r ps n) = IsCps None r ps
kept_reads s x _ _ e (KeptNothing n f) = StaysNothing (λ prim i. e ∙ f prim i)

pub stays : (s : Scope) (x : Text) (m : Meant) → KeptName x m (meant s x) → Reads s x None m
stays s x m h = kept_reads s x m (meant s x) refl h

-- also in blocks
pub kept_blocks : (x : Text) (blocks : List Block) (m n : Meant) → KeptName x m n → KeptName x (in_blocks blocks m x) (in_blocks blocks n x)
kept_blocks x [] m n h = h
kept_blocks x (b ∷ bs) m n h = go (in_block b x) refl (kept_blocks x bs m n h)
  where
    go : (o : Option Ty) → in_block b x ≡ o → KeptName x (in_blocks bs m x) (in_blocks bs n x) → KeptName x (in_blocks (b ∷ bs) m x) (in_blocks (b ∷ bs) n x)
    go None e k = simp (e) k
    go (Some t) e k = simp (e) (KeptLocal 0 0 t)

-- a function is one of the items
pub function_below : (x : Text) (blocks : List Block) (m : Meant) (mode : Mode) (r : Ty) (ps : List Ty) → in_blocks blocks m x ≡ AFunction mode r ps → m ≡ AFunction mode r ps
function_below x [] m mode r ps h = h
function_below x (b ∷ bs) m mode r ps h = go (in_block b x) refl (λ k. function_below x bs m mode r ps k)
  where
    go : (o : Option Ty) → in_block b x ≡ o → (in_blocks bs m x ≡ AFunction mode r ps → m ≡ AFunction mode r ps) → m ≡ AFunction mode r ps
    go None e later = later (let i : in_blocks (b ∷ bs) m x ≡ in_blocks bs m x = simp (e) refl in sym i ∙ h)
    go (Some t) e later = let i : ALocal 0 t ≡ AFunction mode r ps = (let j : in_blocks (b ∷ bs) m x ≡ ALocal 0 t = simp (e) refl in sym j ∙ h) in absurd cc

-- ---- names of spawners

-- no block has the name of a spawner
abbrev pub HidesNone : List Block → Type 0
HidesNone blocks = (x : Text) (m : Meant) → in_blocks blocks m (spawner_name x) ≡ m

underscores_in : (f rest : Text) → holds_underscores (f ++ 95 ∷ 95 ∷ rest) ≡ true
underscores_in [] rest = refl
underscores_in (c ∷ f) rest = or_by_second (begins_with (codes "__") (c ∷ (f ++ 95 ∷ 95 ∷ rest))) (holds_underscores (f ++ 95 ∷ 95 ∷ rest)) (underscores_in f rest)

-- a name without underscores is none of a spawner
no_spawner : (y x : Text) → holds_underscores y ≡ false → bytes_eq y (spawner_name x) ≡ false
unfolding spawner_name
no_spawner y x h = texts_differ y (spawner_name x) (λ (e : y ≡ spawner_name x). by_false_true (sym h ∙ ap holds_underscores e ∙ underscores_in x (codes "spawn")))

-- one more name without underscores
pub hides_none_more : (items : _) (blocks : List Block) (v : Variable) → holds_underscores v.called ≡ false → HidesNone blocks → HidesNone (with_name (record { items = items; blocks = blocks }) v).blocks
hides_none_more items [] v h k x m = simp (no_spawner v.called x h) refl
hides_none_more items (b ∷ bs) v h k x m = simp (no_spawner v.called x h) (k x m)
