-- Shelves in memory.
use Rattle.std.proofs.Common.{◌≡◌, ◌↔◌, ◌⊎◌, inl, inr, ℕ, List, refl, ap, sym, ◌∙◌, Bool, Option, Some, None, IsNone, IsTrue, Result, Ok, Err, IfOk, true, false, is_some, if◌then◌else◌, arith}
use Rattle.std.specs.Option.{option_map}
use Rattle.cpc_base.specs.Outside.{Files, Rose, WhereTold, IsPiece, IsRead}
use Rattle.cpc_base_memory.specs.Plan.{Plan, FailsNext}
use Rattle.cpc_base_memory.specs.Memory.{files_of, miss_count}
use Rattle.cpc_base_memory.specs.declared.mem_shelf.MemFile.{MemFile}

some_files : (x y : Files) → ◌≡◌ {A = Option Files} (Some x) (Some y) → x ≡ y
some_files x y e = cc

pub is_read : (files : List MemFile) (name bytes : List ℕ) (offset : ℕ) (into : List ℕ) (n : ℕ) → files_of files name ≡ Some bytes → IsPiece bytes offset into n
    → IsRead (Some (files_of files)) name offset into n
is_read files name bytes offset into n named piece = λ a e. (bytes, (λ j. sym (some_files (files_of files) a e) j name) ∙ named, piece)

-- the count of a name that stays there stays 0
pub held_never_rises : (old new : List MemFile) (before now : ℕ) (name : List ℕ) → ◌≡◌ {A = Option Files} (Some (files_of new)) (Some (files_of old)) → is_some (files_of old name) ≡ true
    → Rose (miss_count old before name) (miss_count new now name) → ⊥
held_never_rises old new before now name stays held rose =
    let at_first : miss_count old before name ≡ 0 = ap (λ b. if b then 0 else before) held in
    let same : files_of new name ≡ files_of old name = λ j. some_files (files_of new) (files_of old) stays j name in
    let at_last : miss_count new now name ≡ 0 = ap (λ b. if b then 0 else now) (ap is_some same ∙ held) in
    omega (arith, rose, at_first, at_last)

-- what a call of an object with a plan answers, by its two causes
module _ (plan : Plan) (fails : Bool) (says : IsTrue fails ↔ FailsNext plan) where
  pub works : {A : Type 0} (o : Option A) (a : A) → fails ≡ false → o ≡ Some a → FailsNext plan ⊎ IsNone o → false ≡ true
  works o a passes there (inl planned) = sym passes ∙ says.1 planned
  works o a passes there (inr none) = sym none ∙ ap is_some there

  pub planned : {B : Type 0} → fails ≡ true → FailsNext plan ⊎ B
  planned fails = inl (says.0 fails)

-- no first file gives no bytes
pub no_bytes : {A B : Type 0} (f : A → B) (o : Option A) (p : Option B) → None ≡ o → option_map f o ≡ p → IsNone p
no_bytes f o p none bytes = ap is_some (sym bytes ∙ ap (option_map f) (sym none))

-- what holds of an answer where the files are told holds of the files that are told
pub if_ok_told : {A E F : Type 0} (P : F → A → Type 0) (files : F) (r : Result A E) → IfOk r (λ a. WhereTold (Some files) (λ told. P told a)) → IfOk r (P files)
if_ok_told P files (Ok a) h = h files refl
if_ok_told P files (Err e) h = tt
