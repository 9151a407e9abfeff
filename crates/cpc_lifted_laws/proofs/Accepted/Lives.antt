-- What the heap, sections and saved cells leave as it is: which blocks of variables are live.
use Rattle.std.proofs.Common.{◌≡◌, ℕ, zero, suc, pos, Bool, true, false, cond, ◌&&◌, ◌==◌, List, [], ◌∷◌, replicate, slice_get, slice_set, Option, Some, None, Ok, Err, refl, sym, ◌∙◌, ap}
use Rattle.std.specs.Prelude.{is_some, int_lt, unsigned_abs}
use Rattle.std.specs.Result.{result_map_both}
use Rattle.cpc_num.specs.declared.kinds.Fault.TheVariants as F
use Rattle.cpc_store.specs.declared.values.Class.{Class}
use Rattle.cpc_store.specs.declared.values.Class.TheVariants.{Static, Auto, Heap, Frame}
use Rattle.cpc_store.specs.Store.{Value, Unset, Whole, Null, At, Blocks, Store, same_class, blocks, with_blocks, cells_of, live, next_block, alloc, free, save_in, save}
use Rattle.cpc_meaning.specs.Answer.{Answer, Gives, Faults, NoAnswer, of_result}
use Rattle.cpc_meaning.specs.Copies.{job_numbered, write_back, write_to, Collected, AllGave, OneFailed, NotClear, and_value, written, collected, collect_one, collect}
use Rattle.cpc_meaning.specs.Plain.{Form}
use Rattle.cpc_meaning.specs.Section.{Job, SectionEnd, Gave, Broke, NoEnd, section_end, allocated, freed}
use Rattle.cpc_meaning_laws.proofs.Pointer.Blocks.{Only, only_then, only_as}
use Rattle.cpc_convert_flat_laws.specs.Blocks.{one_if, lives}
use Rattle.cpc_lifted_laws.specs.Accepted.Moves.{SameLives}

-- ---- the heap

length_or : (b : Bool) (s : Store) (r : Store × Value) → SameLives s r.0 → Only (λ (r : Store × Value). SameLives s r.0) (cond b (Faults F.Length) (Gives r))
length_or true s r h = tt
length_or false s r h = h

pub allocated_lives : (v : Value) (s : Store) → Only (λ (r : Store × Value). SameLives s r.0) (allocated Heap v s)
allocated_lives (Whole kind z) s = length_or (int_lt z (pos 0)) s (alloc Heap (replicate (unsigned_abs z) Unset) s, At Heap (next_block Heap s) 0) (λ b. refl)
allocated_lives _ s = tt

free_lives : (v : Value) (s : Store) → Only (SameLives s) (of_result (free Heap v s))
free_lives Null s = λ b. refl
free_lives (At d n k) s = go (same_class Heap d && is_some (cells_of d n s) && (k == 0))
  where
    go : (b : Bool) → Only (SameLives s) (of_result (cond b (Ok (with_blocks Heap (slice_set (blocks Heap s) n None) s)) (Err F.BadFree)))
    go true = λ b. refl
    go false = tt
free_lives _ s = tt

pub freed_lives : (v : Value) (s : Store) → Only (λ (r : Store × Value). SameLives s r.0) (freed Heap v s)
freed_lives v s = only_then (SameLives s) (λ (r : Store × Value). SameLives s r.0) (of_result (free Heap v s)) _ (free_lives v s) (λ t h. h)

-- ---- saved cells

lives_written : (bs : Blocks) (n b : ℕ) (cells new : List Value) → live (slice_get bs n) ≡ Some cells → lives (slice_set bs n (Some new)) b ≡ lives bs b
lives_written [] n b cells new e = refl
lives_written (x ∷ bs) zero zero cells new e = sym (ap (λ o. one_if (is_some o)) e)
lives_written (x ∷ bs) zero (suc b) cells new e = refl
lives_written (x ∷ bs) (suc n) zero cells new e = refl
lives_written (x ∷ bs) (suc n) (suc b) cells new e = lives_written bs n b cells new e

set_lives : (c : Class) (n : ℕ) (cells new : List Value) (s : Store) → cells_of c n s ≡ Some cells → SameLives s (with_blocks c (slice_set (blocks c s) n (Some new)) s)
set_lives Static n cells new s e = λ b. refl
set_lives Auto n cells new s e = λ b. lives_written s.auto n b cells new e
set_lives Heap n cells new s e = λ b. refl
set_lives Frame n cells new s e = λ b. refl

pub save_lives : (c : Class) (n k : ℕ) (v : Value) (s : Store) → Only (SameLives s) (of_result (save c n k v s))
save_lives c n k v s = go (cells_of c n s) refl
  where
    go : (o : Option (List Value)) → cells_of c n s ≡ o → Only (SameLives s) (of_result (result_map_both (λ bs. with_blocks c bs s) (λ fault. fault) (save_in o (blocks c s) n k v)))
    go None e = tt
    go (Some cells) e = within (is_some (slice_get cells k))
      where
        within : (b : Bool) → Only (SameLives s) (of_result (result_map_both (λ bs. with_blocks c bs s) (λ fault. fault) (result_map_both (λ written. slice_set (blocks c s) n (Some written)) (λ fault. fault) (cond b (Ok (slice_set cells k v)) (Err F.Bounds)))))
        within true = set_lives c n cells (slice_set cells k v) s e
        within false = tt

-- ---- sections

lives_then : (s t u : Store) → SameLives s t → SameLives t u → SameLives s u
lives_then s t u h k b = k b ∙ h b

back_lives : (vs : List Value) (c : Class) (n k : ℕ) (s : Store) → Only (SameLives s) (write_back vs c n k s)
back_lives [] c n k s = λ b. refl
back_lives (v ∷ vs) c n k s =
    only_then (SameLives s) (SameLives s) (of_result (save c n k v s)) _ (save_lives c n k v s) λ t h.
    only_as (SameLives t) (SameLives s) (write_back vs c n (suc k) t) (λ u i. lives_then s t u h i) (back_lives vs c n (suc k) t)

to_lives : (v : Value) (cells : List Value) (s : Store) → Only (SameLives s) (write_to v cells s)
to_lives (At c n k) cells s = back_lives cells c n k s
to_lives _ cells s = λ b. refl

-- what the sections that a poll names come to
abbrev pub CollectedLives : Store → Collected → Type 0
CollectedLives s (AllGave vs t) = SameLives s t
CollectedLives s _ = Unit {0}

and_lives : (s t : Store) (v : Value) (x : Collected) → SameLives s t → CollectedLives t x → CollectedLives s (and_value v x)
and_lives s t v (AllGave vs u) h k = lives_then s t u h k
and_lives s t v (OneFailed fault f) h k = tt
and_lives s t v NotClear h k = tt

module _ {P : Type 0} (p : Form P) where
  one_lives : (bound : ℕ) (rest : Store → Collected) (s : Store) → ((t : Store) → CollectedLives t (rest t)) → (o : Option Job) → CollectedLives s (collect_one p bound rest s o)
  one_lives bound rest s later None = tt
  one_lives bound rest s later (Some job) = ended (section_end p job bound)
    where
      wrote : (v : Value) (a : Answer Store) → Only (SameLives s) a → CollectedLives s (written rest v job.function a)
      wrote v (Gives t) h = and_lives s t v (rest t) h (later t)
      wrote v (Faults fault) h = tt
      wrote v NoAnswer h = tt

      ended : (e : SectionEnd) → CollectedLives s (collected rest job s e)
      ended (Gave v cells) = wrote v (write_to job.pointer cells s) (to_lives job.pointer cells s)
      ended (Broke fault f) = tt
      ended NoEnd = tt

  pub collect_lives : (bound : ℕ) (jobs : List Job) (ns : List ℕ) (s : Store) → CollectedLives s (collect p bound jobs ns s)
  collect_lives bound jobs [] s = λ b. refl
  collect_lives bound jobs (n ∷ ns) s = one_lives bound (λ t. collect p bound jobs ns t) s (λ t. collect_lives bound jobs ns t) (job_numbered jobs n)
