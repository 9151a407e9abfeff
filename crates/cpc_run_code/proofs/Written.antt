-- What the sections that a poll names write: integers, through pointers into blocks that are there.
use Rattle.std.proofs.Common.{◌≡◌, ℕ, zero, suc, Bool, true, false, cond, List, [], ◌∷◌, Option, Some, None, Result, Ok, Err, length, refl, ap, subst, ◌∙◌}
use Rattle.std.specs.List.{All}
use Rattle.std.proofs.lemmas.List.Elements.{All-head, All-tail}
use Rattle.cpc_base.specs.Bytes.{Text}
use Rattle.cpc_num.specs.declared.kinds.Fault.{Fault}
use Rattle.cpc_num.specs.declared.kinds.Fault.TheVariants as F
use Rattle.cpc_tree.specs.Lists.{is_empty}
use Rattle.cpc_tree.specs.Typing.{function_named}
use Rattle.cpc_store.specs.declared.values.Class.{Class}
use Rattle.cpc_store.specs.Store.{Value, Unset, Whole, Null, At, Code, Cond, Store, save, store_cells}
use Rattle.cpc_store.proofs.CellLemmas.{store_cells-save}
use Rattle.cpc_meaning.specs.Answer.{Answer, Gives, Faults, NoAnswer, ◌>>=◌, of_result}
use Rattle.cpc_meaning.specs.Plain.{Form, Frame, Stack, stack_of, Done, Went, Returned, Asks, plain, running_function}
use Rattle.cpc_meaning.specs.Section.{Job, SectionEnd, Gave, Broke, NoEnd, section_done, all_integers, section_gave, copy_left, section_next, section_run, section_from, section_frame, section_end}
use Rattle.cpc_meaning.specs.Copies.{job_numbered, write_back, write_to, Collected, AllGave, OneFailed, NotClear, and_value, written, collected, collect_one, collect}
use Rattle.cpc_meaning_laws.specs.Pointer.Made.{IsMadeStore}
use Rattle.cpc_meaning_laws.proofs.Pointer.Blocks.{Only, only_then, only_as}
use Rattle.cpc_meaning_laws.proofs.Pointer.Stores.{Onward, onward_self, onward_then, save_onward}
use Rattle.cpc_check_laws.proofs.Kept.Values.{IsNumber, number_made}
use Rattle.cpc_check_laws.proofs.Kept.Stores.{only_both}
use Rattle.cpc_check_laws.proofs.Kept.Sections.{numbers}

-- ---- integers

-- the cells that a section gives are integers, or unset
abbrev GivesNumbers : SectionEnd → Type 0
GivesNumbers (Gave v cells) = All IsNumber cells
GivesNumbers (Broke fault f) = Unit {0}
GivesNumbers NoEnd = Unit {0}

gave_numbers : (f : Text) (v : Value) (o : Option (List Value)) → GivesNumbers (section_gave f v o)
gave_numbers f v None = tt
gave_numbers f v (Some cells) = go (all_integers cells) refl
  where
    go : (b : Bool) → all_integers cells ≡ b → GivesNumbers (cond b (Gave v cells) (Broke F.Kind f))
    go true e = numbers cells e
    go false e = tt

module _ {P : Type 0} (p : Form P) where
  module _ (f : Text) (no_copy : Bool) where
    next_numbers : (next : Store → Stack P → SectionEnd) (running : Text) → ((t : Store) (j : Stack P) → GivesNumbers (next t j)) → (a : Answer (Done P)) → GivesNumbers (section_next next f no_copy running a)
    next_numbers next running rest (Gives (Went t j)) = rest t j
    next_numbers next running rest (Gives (Returned v t)) = gave_numbers f v (copy_left no_copy t)
    next_numbers next running rest (Gives (Asks r)) = tt
    next_numbers next running rest (Faults fault) = tt
    next_numbers next running rest NoAnswer = tt

    run_numbers : (n : ℕ) (s : Store) (k : Stack P) → GivesNumbers (section_run p f no_copy n s k)
    run_numbers zero s k = tt
    run_numbers (suc n) s k = next_numbers (λ t j. section_run p f no_copy n t j) (running_function k) (run_numbers n) (plain p s k >>= section_done p s k)

  end_numbers : (job : Job) (bound : ℕ) → GivesNumbers (section_end p job bound)
  end_numbers job bound = go (section_frame p job (function_named p.program job.function))
    where
      go : (a : Answer (Frame P × Store)) → GivesNumbers (section_from p job bound a)
      go (Gives r) = run_numbers job.function (is_empty job.cells) bound r.1 (stack_of r.0)
      go (Faults fault) = tt
      go NoAnswer = tt

-- ---- what goes back

-- a later store with as many cells in blocks
record Rewritten (s t : Store) : Type 0 where
  pub onward : Onward s t
  pub cells : store_cells t ≡ store_cells s

itself : (s : Store) → IsMadeStore s → Rewritten s s
itself s made = record { onward = onward_self s made; cells = refl }

and_then : (s t u : Store) → Rewritten s t → Rewritten t u → Rewritten s u
and_then s t u h k = record { onward = onward_then s t u h.onward k.onward; cells = k.cells ∙ h.cells }

saved_cells : (c : Class) (n k : ℕ) (v : Value) (s : Store) → Only (λ t. store_cells t ≡ store_cells s) (of_result (save c n k v s))
saved_cells c n k v s = go (save c n k v s) refl
  where
    go : (r : Result Store Fault) → save c n k v s ≡ r → Only (λ t. store_cells t ≡ store_cells s) (of_result r)
    go (Ok t) e = store_cells-save c n k v s t e
    go (Err fault) e = tt

saves : (c : Class) (n k : ℕ) (v : Value) (s : Store) → IsMadeStore s → IsNumber v → Only (Rewritten s) (of_result (save c n k v s))
saves c n k v s made number =
    only_as (λ t. Onward s t × (store_cells t ≡ store_cells s)) (Rewritten s) (of_result (save c n k v s)) (λ t i. record { onward = i.0; cells = i.1 })
    (only_both (Onward s) (λ t. store_cells t ≡ store_cells s) (of_result (save c n k v s)) (save_onward c n k v s made (number_made s v number)) (saved_cells c n k v s))

writes_back : (vs : List Value) (c : Class) (n k : ℕ) (s : Store) → IsMadeStore s → All IsNumber vs → Only (Rewritten s) (write_back vs c n k s)
writes_back [] c n k s made h = itself s made
writes_back (v ∷ vs) c n k s made h =
    only_then (Rewritten s) (Rewritten s) (of_result (save c n k v s)) _ (saves c n k v s made (All-head IsNumber v vs h)) λ t on.
    only_as (Rewritten t) (Rewritten s) (write_back vs c n (suc k) t) (λ u i. and_then s t u on i) (writes_back vs c n (suc k) t on.onward.made (All-tail IsNumber v vs h))

writes_to : (v : Value) (cells : List Value) (s : Store) → IsMadeStore s → All IsNumber cells → Only (Rewritten s) (write_to v cells s)
writes_to (At c n k) cells s made h = writes_back cells c n k s made h
writes_to Unset cells s made h = itself s made
writes_to (Whole kind z) cells s made h = itself s made
writes_to Null cells s made h = itself s made
writes_to (Code f) cells s made h = itself s made
writes_to (Cond n) cells s made h = itself s made

-- where all sections gave a value, the store is a later one with as many cells in blocks
abbrev pub Collects : Store → Collected → Type 0
Collects s (AllGave vs t) = Onward s t × (store_cells t ≡ store_cells s)
Collects s (OneFailed fault f) = Unit {0}
Collects s NotClear = Unit {0}

and_collects : (s t : Store) (v : Value) (x : Collected) → Rewritten s t → Collects t x → Collects s (and_value v x)
and_collects s t v (AllGave vs u) h k = let all = and_then s t u h (record { onward = k.0; cells = k.1 }) in (all.onward, all.cells)
and_collects s t v (OneFailed fault f) h k = tt
and_collects s t v NotClear h k = tt

module _ {P : Type 0} (p : Form P) (bound : ℕ) where
  one_collects : (rest : Store → Collected) (s : Store) → IsMadeStore s → ((t : Store) → IsMadeStore t → Collects t (rest t)) → (o : Option Job) → Collects s (collect_one p bound rest s o)
  one_collects rest s made later None = tt
  one_collects rest s made later (Some job) = ended (section_end p job bound) (end_numbers p job bound)
    where
      wrote : (v : Value) (a : Answer Store) → Only (Rewritten s) a → Collects s (written rest v job.function a)
      wrote v (Gives t) h = and_collects s t v (rest t) h (later t h.onward.made)
      wrote v (Faults fault) h = tt
      wrote v NoAnswer h = tt

      ended : (e : SectionEnd) → GivesNumbers e → Collects s (collected rest job s e)
      ended (Gave v cells) h = wrote v (write_to job.pointer cells s) (writes_to job.pointer cells s made h)
      ended (Broke fault f) h = tt
      ended NoEnd h = tt

  pub collects : (jobs : List Job) (ns : List ℕ) (s : Store) → IsMadeStore s → Collects s (collect p bound jobs ns s)
  collects jobs [] s made = (onward_self s made, refl)
  collects jobs (n ∷ ns) s made = one_collects (λ t. collect p bound jobs ns t) s made (λ t on. collects jobs ns t on) (job_numbered jobs n)

-- ---- how many give a value

abbrev GivesMany : ℕ → Collected → Type 0
GivesMany n (AllGave vs t) = length vs ≡ n
GivesMany n (OneFailed fault f) = Unit {0}
GivesMany n NotClear = Unit {0}

module _ {P : Type 0} (p : Form P) (bound : ℕ) where
  one_more : (n : ℕ) (v : Value) (x : Collected) → GivesMany n x → GivesMany (suc n) (and_value v x)
  one_more n v (AllGave vs t) h = ap (λ k. suc k) h
  one_more n v (OneFailed fault f) h = tt
  one_more n v NotClear h = tt

  one_gives : (n : ℕ) (rest : Store → Collected) (s : Store) → ((t : Store) → GivesMany n (rest t)) → (o : Option Job) → GivesMany (suc n) (collect_one p bound rest s o)
  one_gives n rest s h None = tt
  one_gives n rest s h (Some job) = ended (section_end p job bound)
    where
      wrote : (v : Value) (a : Answer Store) → GivesMany (suc n) (written rest v job.function a)
      wrote v (Gives t) = one_more n v (rest t) (h t)
      wrote v (Faults fault) = tt
      wrote v NoAnswer = tt

      ended : (e : SectionEnd) → GivesMany (suc n) (collected rest job s e)
      ended (Gave v cells) = wrote v (write_to job.pointer cells s)
      ended (Broke fault f) = tt
      ended NoEnd = tt

  all_give : (jobs : List Job) (ns : List ℕ) (s : Store) → GivesMany (length ns) (collect p bound jobs ns s)
  all_give jobs [] s = refl
  all_give jobs (n ∷ ns) s = one_gives (length ns) (λ t. collect p bound jobs ns t) s (λ t. all_give jobs ns t) (job_numbered jobs n)

  -- there is a value for each number
  pub gave_all : (jobs : List Job) (ns : List ℕ) (s : Store) (vs : List Value) (t : Store) → collect p bound jobs ns s ≡ AllGave vs t → length vs ≡ length ns
  gave_all jobs ns s vs t e = subst (GivesMany (length ns)) e (all_give jobs ns s)
