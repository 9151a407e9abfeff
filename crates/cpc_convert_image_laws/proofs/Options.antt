-- What is made of what there is in the source, and in the target.
use Rattle.std.proofs.Common.{Bool, true, false, ◌&&◌, cond, Option, Some, None, is_some}
use Rattle.cpc_tree.specs.Typing.{◌>>=◌}
use Rattle.cpc_convert_image_laws.specs.Relations.{Less, AsIs, Untold}

pub less_then : {A B : Type 0} (a b : Option A) (f g : A → Option B) → Less a b → ((x : A) → Less (f x) (g x)) → Less (a >>= f) (b >>= g)
less_then _ _ f g (AsIs None) h = AsIs None
less_then _ _ f g (AsIs (Some x)) h = h x
less_then _ _ f g (Untold o) h = Untold (o >>= g)

-- what is there if something else is
pub less_if : {A B : Type 0} (a b : Option A) (x : B) → Less a b → Less (cond (is_some a) (Some x) None) (cond (is_some b) (Some x) None)
less_if _ _ x (AsIs o) = AsIs (cond (is_some o) (Some x) None)
less_if _ _ x (Untold o) = Untold (cond (is_some o) (Some x) None)

pub less_if_both : {A B : Type 0} (test : Bool) (a b : Option A) (x : B) → Less a b → Less (cond (test && is_some a) (Some x) None) (cond (test && is_some b) (Some x) None)
less_if_both true a b x h = less_if a b x h
less_if_both false a b x h = AsIs None
