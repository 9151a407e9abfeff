-- Tables with one more item.
use Rattle.std.proofs.Common.{◌≡◌, ℕ, ◌+◌, ◌<◌, ◌≤◌, inl, inr, List, [], ◌∷◌, ◌++◌, length, get_or, take, Option, Some, None, refl, ap, sym, ◌∙◌, arith, length-append}
use Rattle.std.specs.Prelude.{slice_get}
use Rattle.std.specs.List.{sum_by}
use Rattle.std.proofs.lemmas.List.{length-take-le, take_all, take-append-le, get_or_push, get_or_append_left}
use Rattle.std.proofs.lemmas.List.Sums.{sum_by-cons, sum_by_push}
use Rattle.std.proofs.lemmas.Option.{slice_get_within}
use Rattle.std.proofs.Math.Seq.{take-append_seam}
use Rattle.cpc_tree.specs.declared.program.Item.{Item}
use Rattle.cpc_tree.specs.declared.program.Item.TheVariants as I
use Rattle.cpc_shapes.proofs.Indexes.{pushed_at}
use Rattle.cpc_eval_index.specs.declared.tables.Tables.{Tables}
use Rattle.cpc_eval_index.specs.Ends.{inner_place, end_by}
use Rattle.cpc_eval_index.specs.Placed.{globals_in}
use Rattle.cpc_eval_index.specs.Tabled.{AreTables, globals_before}
use Rattle.cpc_eval_index.proofs.Standing.{inner_below}

weight_one : (y : Item) → globals_in y ≤ 1
weight_one (I.Global w t start) = omega arith
weight_one _ = omega arith

-- no more items are globals than there are
pub globals_few : (xs : List Item) → sum_by globals_in xs ≤ length xs
globals_few [] = omega arith
globals_few (x ∷ xs) =
    let h : sum_by globals_in xs ≤ length xs = globals_few xs in
    let g : globals_in x ≤ 1 = weight_one x in
    let e : sum_by globals_in (x ∷ xs) ≡ globals_in x + sum_by globals_in xs = sum_by-cons globals_in x xs in
    omega arith

module _ (xs : List Item) (y : Item) (i j : Tables) (e : ℕ) where
  -- what is added to the tables
  pub record IsAdded : Type 0 where
    pub globals : j.globals.items ≡ i.globals.items ++ i.count ∷ []
    pub ends : j.ends.items ≡ i.ends.items ++ e ∷ []
    pub count : j.count ≡ i.count + globals_in y
    pub end : e ≡ end_by i.ends.items (length xs) (inner_place xs y)

  before_pushed : AreTables xs i → IsAdded → (k : ℕ) (x : Item) → slice_get (xs ++ y ∷ []) k ≡ Some x → get_or j.globals.items k 0 ≡ globals_before (xs ++ y ∷ []) k
  before_pushed d a k x h = elim (pushed_at xs y k x h) [
    | inl is ↦
        let g : k < length xs = slice_get_within xs k x is in
        let f : length i.globals.items ≡ length xs = d.even in
        ap (λ l. get_or l k 0) a.globals
        ∙ get_or_append_left i.globals.items (i.count ∷ []) 0 k (omega arith)
        ∙ d.before k x is
        ∙ sym (ap (sum_by globals_in) (take-append-le k xs (y ∷ []) (omega arith)))
    | inr is ↦
        let f : length i.globals.items ≡ k = d.even ∙ sym is.0 in
        ap (λ l. get_or l k 0) a.globals
        ∙ get_or_push i.globals.items i.count 0 k f
        ∙ d.counted
        ∙ sym (ap (sum_by globals_in) (ap (λ m. take m (xs ++ y ∷ [])) is.0 ∙ take-append_seam xs (y ∷ [])))
  ]

  -- the ends of those that were there stay
  end_kept : AreTables xs i → IsAdded → (k : ℕ) → k ≤ length xs → (x : Item) → end_by j.ends.items k (inner_place (take k xs) x) ≡ end_by i.ends.items k (inner_place (take k xs) x)
  end_kept d a k le x = go (inner_place (take k xs) x) refl
    where
      go : (o : Option ℕ) → inner_place (take k xs) x ≡ o → end_by j.ends.items k o ≡ end_by i.ends.items k o
      go None is = refl
      go (Some m) is =
          let f : length i.ends.items ≡ length xs = d.ends in
          let g : m < length (take k xs) = inner_below (take k xs) x m is in
          let h : length (take k xs) ≡ k = length-take-le k xs le in
          ap (λ l. get_or l m m) a.ends ∙ get_or_append_left i.ends.items (e ∷ []) m m (omega arith)

  end_pushed : AreTables xs i → IsAdded → (k : ℕ) (x : Item) → slice_get (xs ++ y ∷ []) k ≡ Some x → get_or j.ends.items k k ≡ end_by j.ends.items k (inner_place (take k (xs ++ y ∷ [])) x)
  end_pushed d a k x h = elim (pushed_at xs y k x h) [
    | inl is ↦
        let g : k < length xs = slice_get_within xs k x is in
        let f : length i.ends.items ≡ length xs = d.ends in
        ap (λ l. get_or l k k) a.ends
        ∙ get_or_append_left i.ends.items (e ∷ []) k k (omega arith)
        ∙ d.ended k x is
        ∙ sym (end_kept d a k (omega arith) x)
        ∙ sym (ap (λ l. end_by j.ends.items k (inner_place l x)) (take-append-le k xs (y ∷ []) (omega arith)))
    | inr is ↦
        let f : length i.ends.items ≡ k = d.ends ∙ sym is.0 in
        ap (λ l. get_or l k k) a.ends
        ∙ get_or_push i.ends.items e k k f
        ∙ a.end
        ∙ ap (λ m. end_by i.ends.items m (inner_place xs y)) (sym is.0)
        ∙ ap (λ l. end_by i.ends.items k (inner_place l y)) (sym (take_all k xs (omega (arith, is.0))))
        ∙ sym (end_kept d a k (omega (arith, is.0)) y)
        ∙ ap (λ z. end_by j.ends.items k (inner_place (take k xs) z)) is.1
        ∙ sym (ap (λ l. end_by j.ends.items k (inner_place l x)) (take-append-le k xs (y ∷ []) (omega (arith, is.0))))
  ]

  -- the tables of one more item
  pub appended : AreTables xs i → IsAdded → AreTables (xs ++ y ∷ []) j
  appended d a = record {
    counted = a.count ∙ ap (λ n. n + globals_in y) d.counted ∙ sym (sum_by_push globals_in xs y);
    even = let f : length i.globals.items ≡ length xs = d.even in ap length a.globals ∙ length-append i.globals.items (i.count ∷ []) ∙ ap (λ n. n + 1) f ∙ sym (length-append xs (y ∷ []));
    before = before_pushed d a;
    ends = let f : length i.ends.items ≡ length xs = d.ends in ap length a.ends ∙ length-append i.ends.items (e ∷ []) ∙ ap (λ n. n + 1) f ∙ sym (length-append xs (y ∷ []));
    ended = end_pushed d a;
  }
