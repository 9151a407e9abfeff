-- A request is answered alike before and after a block is made to which no pointer leads.
use Rattle.std.proofs.Common.{◌≡◌, true, List, [], ◌∷◌, Option, Some, None}
use Rattle.std.specs.List.{All}
use Rattle.std.proofs.lemmas.List.Elements.{All-head}
use Rattle.cpc_tree.specs.Syntax.{Expr}
use Rattle.cpc_store.specs.declared.values.Class.{Class}
use Rattle.cpc_store.specs.declared.values.Class.TheVariants.{Static}
use Rattle.cpc_store.specs.Store.{Value, Store, alloc}
use Rattle.cpc_meaning.specs.Answer.{Answer, Gives, ◌>>=◌, needed}
use Rattle.cpc_meaning.specs.Eval.{Slot, Spot, InSlot, InCell, place_type, assigned}
use Rattle.cpc_meaning.specs.Act.{GoesOn, write, assign, deliver, target_of}
use Rattle.cpc_meaning.specs.Plain.{Form, Frame as Call, Stack, perform, context, asking, frames_answered, answered}
use Rattle.cpc_meaning_laws.specs.Pointer.Made.{IsMadeStore, IsMadeSlot, IsMadeFrame, IsMadeCode}
use Rattle.cpc_meaning_laws.specs.Pointer.Laws.{done_with, AnsweredAlike}
use Rattle.cpc_meaning_laws.proofs.Pointer.Blocks.{Any, Alike, Given, Broken, Neither, then_alike, then_keeps, same_then, given_alike, saves}
use Rattle.cpc_meaning_laws.proofs.Pointer.Values.{IsMadeSpot, same_grown, places}

module _ {P : Type 0} (p : Form P) (class : Class) (more : List Value) (apart : ¬ (class ≡ Static)) (s : Store) (made : IsMadeStore s) where
  -- the same slots, and a store that has the block too
  abbrev with_block : List Slot × Store → List Slot × Store
  with_block r = (r.0, alloc class more r.1)

  module _ (frame : Call P) (below : List (Call P)) (slots_made : All (IsMadeSlot s) frame.slots) where
    writes : (spot : Spot) (v : Value) → IsMadeSpot s spot → Alike Any with_block (write (context p s frame) spot v) (write (context p (alloc class more s) frame) spot v)
    writes (InSlot k) v h = Given _ tt
    writes (InCell c n k) v h = then_alike Any Any (λ t. alloc class more t) with_block _ _ _ _ (saves class more s c n k v apart h) λ t i. Given _ tt

    assigns_so : (e : Expr) (v : Value) → Alike Any with_block (assign (context p s frame) e v) (assign (context p (alloc class more s) frame) e v)
    assigns_so e v =
        then_keeps (IsMadeSpot s) Any with_block _ _ _ _ (places s (alloc class more s) (same_grown class more s apart) made p.program (p.code.scope frame.function frame.point) frame.slots slots_made e) λ spot h.
        same_then Any with_block (needed (place_type (context p s frame) e)) _ _ λ t.
        same_then Any with_block (assigned t v) _ _ λ w. writes spot w h

    delivers : (o : Option Expr) (v : Value) → Alike Any with_block (deliver (context p s frame) o v) (deliver (context p (alloc class more s) frame) o v)
    delivers None v = Given _ tt
    delivers (Some e) v = assigns_so e v

    -- control goes on behind the statement that asked
    behind : (a b : Answer (List Slot × Store)) → Alike Any with_block a b
        → Alike Any (done_with class more) ((a >>= λ r. Gives (GoesOn true r.1 r.0)) >>= perform p s frame below) ((b >>= λ r. Gives (GoesOn true r.1 r.0)) >>= perform p (alloc class more s) frame below)
    behind _ _ (Given r h) = same_then Any (done_with class more) (needed (p.code.goes frame.function frame.point true)) _ _ λ next. Given _ tt
    behind _ _ (Broken fault) = Broken fault
    behind _ _ Neither = Neither

    at_target : (v : Value) (o : Option (Option Expr))
        → Alike Any (done_with class more) ((needed o >>= λ x. deliver (context p s frame) x v >>= λ r. Gives (GoesOn true r.1 r.0)) >>= perform p s frame below)
        ((needed o >>= λ x. deliver (context p (alloc class more s) frame) x v >>= λ r. Gives (GoesOn true r.1 r.0)) >>= perform p (alloc class more s) frame below)
    at_target v None = Neither
    at_target v (Some x) = behind _ _ (delivers x v)

  -- a value arrives where the code asks
  frames_answer : (v : Value) (frames : List (Call P)) → All (IsMadeFrame s) frames → Alike Any (done_with class more) (frames_answered p s v frames) (frames_answered p (alloc class more s) v frames)
  frames_answer v [] h = Neither
  frames_answer v (frame ∷ below) h =
      same_then Any (done_with class more) (needed (asking (p.code.stood frame.function frame.point))) _ _ λ f.
      at_target frame below (All-head (IsMadeFrame s) frame below h) v (target_of f)

-- for positions of any type
pub answered_alike : {P : Type 0} (p : Form P) (class : Class) (cells : List Value) (s : Store) (k : Stack P) (v : Value) → ¬ (class ≡ Static) → IsMadeCode s k
    → answered p (alloc class cells s) k v ≡ (answered p s k v >>= λ done. Gives (done_with class cells done))
answered_alike p class cells s k v apart h = given_alike Any (done_with class cells) _ _ (frames_answer p class cells apart s h.store v k.frames h.frames)

pub requests_alike : AnsweredAlike
requests_alike p class cells s k v apart h = answered_alike p class cells s k v apart h
