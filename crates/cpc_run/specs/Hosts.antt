-- Functions of the host in a run: those that a program needs, and what they answered.
use Rattle.std.specs.Prelude.{◌≡◌, ℕ, ℤ, true, List, [], ◌∷◌, ◌++◌, length, Option, Some, None, if◌then◌else◌}
use Rattle.cpc_base.specs.Bytes.{Text}
use Rattle.cpc_hosts.specs.Tables.{is_there}
use Rattle.cpc_tree.specs.Points.{Point}
use Rattle.cpc_tree.specs.Syntax.{Item, PrototypeItem, Program}
use Rattle.cpc_tree.specs.Trace.{Mark, HostCall}
use Rattle.cpc_tree.specs.declared.program.Mode.TheVariants.{Extern}
use Rattle.cpc_store.specs.Store.{Value, Store}
use Rattle.cpc_meaning.specs.Answer.{Gives}
use Rattle.cpc_meaning.specs.History.{History}
use Rattle.cpc_meaning.specs.Plain.{Stack, Asks, plain}
use Rattle.cpc_meaning.specs.Requests.{Host}
use Rattle.cpc_meaning.specs.Trees.{trees}

-- a function of the host that is declared and not among these, with its arity
abbrev pub missing_item : List (Text × ℕ) → Item → Option Text
missing_item there (PrototypeItem Extern x r ps) = if is_there x (length ps) there then None else Some x
missing_item there item = None

-- the first, if it is there, and else the second
abbrev pub or_else : Option Text → Option Text → Option Text
or_else None o = o
or_else (Some x) o = Some x

-- the first function of the host, by declaration, that is not among these, with its arity
abbrev pub missing_of : List (Text × ℕ) → Program → Option Text
missing_of there [] = None
missing_of there (x ∷ items) = or_else (missing_item there x) (missing_of there items)

-- whatever function of the host the code of a program asks for is among these, with as many arguments as it takes
abbrev pub HasHosts : List (Text × ℕ) → Program → Type 0
HasHosts there q =
    (s : Store) (k : Stack Point) (x : Text) (vs : List Value) → plain (trees q) s k ≡ Gives (Asks (record { asked = Host x; arguments = vs }))
    → is_there x (length vs) there ≡ true

-- the answers that marks tell, in order
abbrev pub answer_of : Mark → List ℤ
answer_of (HostCall x zs z) = z ∷ []
answer_of m = []

abbrev pub answers_of : List Mark → List ℤ
answers_of [] = []
answers_of (m ∷ ms) = answer_of m ++ answers_of ms

-- what a mark tells of a function of the host, if it does, is an answer that this one may give
abbrev pub IsAllowed : (Text → List ℤ → ℤ → Type 0) → Mark → Type 0
IsAllowed allows (HostCall x zs z) = allows x zs z
IsAllowed allows m = Unit {0}

-- each answer that marks tell may be given
abbrev pub HostsMeet : (Text → List ℤ → ℤ → Type 0) → List Mark → Type 0
HostsMeet allows [] = Unit {0}
HostsMeet allows (m ∷ ms) = IsAllowed allows m × HostsMeet allows ms

-- the history with these answers
abbrev pub with_answers : History → List ℤ → History
with_answers h answers = record h { answers = answers }
