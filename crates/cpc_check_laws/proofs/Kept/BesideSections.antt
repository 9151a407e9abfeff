-- Sections take and bring back the same beside any heap frames.
use Rattle.std.proofs.Common.{◌≡◌, ℕ, suc, List, [], ◌∷◌, Option, Some, None, refl, sym, ◌∙◌, ap, subst}
use Rattle.std.specs.List.{All}
use Rattle.std.proofs.lemmas.List.Elements.{All-weaker}
use Rattle.cpc_base.specs.Bytes.{Text}
use Rattle.cpc_tree.specs.Syntax.{Function, Program}
use Rattle.cpc_tree.specs.Typing.{parameter_types}
use Rattle.cpc_store.specs.declared.values.Class.{Class}
use Rattle.cpc_store.specs.declared.values.Class.TheVariants.{Frame}
use Rattle.cpc_store.specs.declared.values.Scalar.{Scalar}
use Rattle.cpc_store.specs.Store.{Value, Unset, Whole, Null, At, Code, Cond, Store, Blocks, cells_of, load_block, load}
use Rattle.cpc_meaning.specs.Answer.{Answer, of_result}
use Rattle.cpc_meaning.specs.Plain.{Form}
use Rattle.cpc_meaning.specs.Section.{Job, SectionEnd, Gave, Broke, NoEnd, section_end}
use Rattle.cpc_meaning.specs.Copies.{copied, pointed_layout, copy_of, job_numbered, write_back, write_to, Collected, AllGave, OneFailed, NotClear, and_value, written, collected, collect_one, collect}
use Rattle.cpc_meaning_laws.specs.Pointer.Made.{IsMade}
use Rattle.cpc_meaning_laws.proofs.Pointer.Blocks.{Any, Given, Broken, Neither, Keeps, then_alike, then_keeps, same_then, as_is}
use Rattle.cpc_check_laws.specs.Kept.Kept.{NoFrames}
use Rattle.cpc_check_laws.specs.Kept.Beside.{with_frames, collected_beside, SectionsBeside}
use Rattle.cpc_check_laws.proofs.Kept.Sections.{IfJob, numbered}
use Rattle.cpc_check_laws.proofs.Kept.Beside.{not_frame, same_beside, Stores, saves_beside}
use Rattle.cpc_check_laws.proofs.Kept.BesideActs.{same_answer}

-- ---- what is copied

-- cells of a block that has the same cells
copies : (scalars : List Scalar) (c : Class) (n k : ℕ) (s t : Store) → cells_of c n t ≡ cells_of c n s → Keeps Any (copied scalars c n k s) (copied scalars c n k t)
copies [] c n k s t e = Given [] tt
copies (wanted ∷ more) c n k s t e =
    then_keeps Any Any (λ x. x) _ _ _ _ (subst (λ o. Keeps Any (of_result (load wanted c n k s)) (of_result (load_block wanted o k))) (sym e) (as_is (of_result (load wanted c n k s)))) λ v i.
    then_keeps Any Any (λ x. x) _ _ _ _ (copies more c n (suc k) s t e) λ vs j. Given (v ∷ vs) tt

copies_of : (p : Program) (f : Function) (v : Value) (s : Store) (bs : Blocks) → NoFrames s → IsMade s v → Keeps Any (copy_of p f v s) (copy_of p f v (with_frames bs s))
copies_of p f (At c n k) s bs none h = same_then Any (λ x. x) (pointed_layout p (parameter_types f)) _ _ λ scalars. copies scalars c n k s (with_frames bs s) (same_beside bs s none c n h)
copies_of p f Unset s bs none h = Given [] tt
copies_of p f (Whole kind z) s bs none h = Given [] tt
copies_of p f Null s bs none h = Given [] tt
copies_of p f (Code g) s bs none h = Given [] tt
copies_of p f (Cond n) s bs none h = Given [] tt

-- ---- what goes back

-- no pointer to a frame
abbrev IsApart : Value → Type 0
IsApart (At c n k) = ¬ (c ≡ Frame)
IsApart _ = Unit {0}

apart : (s : Store) (v : Value) → NoFrames s → IsMade s v → IsApart v
apart s (At c n k) none h = not_frame s c n none h
apart s Unset none h = tt
apart s (Whole kind z) none h = tt
apart s Null none h = tt
apart s (Code f) none h = tt
apart s (Cond n) none h = tt

module _ (bs : Blocks) where
  writes_back : (vs : List Value) (c : Class) (n k : ℕ) (s : Store) → ¬ (c ≡ Frame) → Stores bs (write_back vs c n k s) (write_back vs c n k (with_frames bs s))
  writes_back [] c n k s h = Given s tt
  writes_back (v ∷ vs) c n k s h = then_alike Any Any (with_frames bs) (with_frames bs) _ _ _ _ (saves_beside bs c n k v s h) λ t i. writes_back vs c n (suc k) t h

  writes_to : (v : Value) (cells : List Value) (s : Store) → IsApart v → Stores bs (write_to v cells s) (write_to v cells (with_frames bs s))
  writes_to (At c n k) cells s h = writes_back cells c n k s h
  writes_to Unset cells s h = Given s tt
  writes_to (Whole kind z) cells s h = Given s tt
  writes_to Null cells s h = Given s tt
  writes_to (Code f) cells s h = Given s tt
  writes_to (Cond n) cells s h = Given s tt

  -- what is left of a poll does the same beside the frames
  abbrev Rest : (Store → Collected) → Type 0
  Rest rest = (t : Store) → rest (with_frames bs t) ≡ collected_beside bs (rest t)

  and_beside : (v : Value) (x : Collected) → and_value v (collected_beside bs x) ≡ collected_beside bs (and_value v x)
  and_beside v (AllGave vs s) = refl
  and_beside v (OneFailed fault f) = refl
  and_beside v NotClear = refl

  wrote : (rest : Store → Collected) → Rest rest → (v : Value) (f : Text) (a b : Answer Store) → Stores bs a b → written rest v f b ≡ collected_beside bs (written rest v f a)
  wrote rest h v f _ _ (Given t i) = ap (and_value v) (h t) ∙ and_beside v (rest t)
  wrote rest h v f _ _ (Broken fault) = refl
  wrote rest h v f _ _ Neither = refl

  module _ {P : Type 0} (p : Form P) where
    ended : (rest : Store → Collected) → Rest rest → (job : Job) (s : Store) → IsApart job.pointer → (e : SectionEnd) → collected rest job (with_frames bs s) e ≡ collected_beside bs (collected rest job s e)
    ended rest h job s i (Gave v cells) = wrote rest h v job.function _ _ (writes_to job.pointer cells s i)
    ended rest h job s i (Broke fault f) = refl
    ended rest h job s i NoEnd = refl

    one : (bound : ℕ) (rest : Store → Collected) → Rest rest → (s : Store) (o : Option Job) → IfJob (λ j. IsApart j.pointer) o → collect_one p bound rest (with_frames bs s) o ≡ collected_beside bs (collect_one p bound rest s o)
    one bound rest h s None i = refl
    one bound rest h s (Some job) i = ended rest h job s i (section_end p job bound)

    collects : (bound : ℕ) (jobs : List Job) (ns : List ℕ) (s : Store) → All (λ (j : Job). IsApart j.pointer) jobs → collect p bound jobs ns (with_frames bs s) ≡ collected_beside bs (collect p bound jobs ns s)
    collects bound jobs [] s h = refl
    collects bound jobs (n ∷ ns) s h = one bound (λ t. collect p bound jobs ns t) (λ t. collects bound jobs ns t h) s (job_numbered jobs n) (numbered (λ (j : Job). IsApart j.pointer) jobs n h)

pub sections_beside : {P : Type 0} → SectionsBeside P
sections_beside p s bs none = record {
  copied = λ f v h. same_answer Any _ _ (copies_of p.program f v s bs none h);
  collected = λ bound jobs ns h. collects bs p bound jobs ns s (All-weaker (λ (j : Job). IsMade s j.pointer) (λ (j : Job). IsApart j.pointer) (λ j i. apart s j.pointer none i) jobs h);
}
