-- What a name stands for where it stands for a local, or for none.
use Rattle.std.proofs.Common.{◌≡◌, ℕ, Bool, true, false, List, [], ◌∷◌, Option, refl, if◌then◌else◌, bytes_eq}
use Rattle.cpc_base.specs.Bytes.{Text}
use Rattle.cpc_tree.specs.Primitives.{Primitive}
use Rattle.cpc_tree.specs.Registers.{slot_of}
use Rattle.cpc_tree.specs.Syntax.{Ty, Program}
use Rattle.cpc_tree.specs.Typing.{Scope, Meant, ALocal, named, item_named}
use Rattle.cpc_meaning.specs.Ways.{ByFrame, meant_manner}

by_frame : (b : Bool) (k n : ℕ) (t : Ty) (m : Meant) (s : List ℕ) (prim : Option Primitive) → k ∷ [] ≡ (if b then n ∷ [] else s) → (k ∷ [] ≡ s → meant_manner m prim ≡ ByFrame) → meant_manner (if b then ALocal n t else m) prim ≡ ByFrame
by_frame true k n t m s prim e f = refl
by_frame false k n t m s prim e f = f e

pub local_manner : (p : Program) (sc : Scope) (x : Text) (k : ℕ) (prim : Option Primitive) → k ∷ [] ≡ slot_of sc x → meant_manner (named p sc x) prim ≡ ByFrame
local_manner p [] x k prim e = absurd cc
local_manner p (l ∷ sc) x k prim e = by_frame (bytes_eq l.called x) k l.slot l.type (named p sc x) (slot_of sc x) prim e (local_manner p sc x k prim)

behind : (b : Bool) (n : ℕ) (t : Ty) (m o : Meant) (s : List ℕ) → [] ≡ (if b then n ∷ [] else s) → ([] ≡ s → m ≡ o) → (if b then ALocal n t else m) ≡ o
behind true n t m o s e f = absurd cc
behind false n t m o s e f = f e

pub no_local : (p : Program) (sc : Scope) (x : Text) → [] ≡ slot_of sc x → named p sc x ≡ item_named 0 p x
no_local p [] x e = refl
no_local p (l ∷ sc) x e = behind (bytes_eq l.called x) l.slot l.type (named p sc x) (item_named 0 p x) (slot_of sc x) e (no_local p sc x)
