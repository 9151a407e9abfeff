-- What contracts see of the shelves and the sink in memory.
use Rattle.std.specs.Prelude.{ℕ, Bool, false, ◌-◌, ◌++◌, min, max, List, length, Option, is_some, find, string_bytes, if◌then◌else◌}
use Rattle.std.specs.Option.{option_map}
use Rattle.std.specs.Str.{bytes_eq}
use Rattle.cpc_base.specs.Bytes.{Text}
use Rattle.cpc_base.specs.Outside.{Files, one_more}
use Rattle.cpc_base_memory.specs.Plan.{Plan, after_call}
use Rattle.cpc_base_memory.specs.declared.mem_shelf.MemFile.{MemFile}

-- a shelf: its files, the most bytes that a read gives, the calls that fail, and the faults so far
pub record HeldFiles : Type 0 where
  pub files : List MemFile
  pub most : ℕ
  pub plan : Plan
  pub raised : ℕ

-- a sink: the bytes taken, the most that a call takes, the calls that fail, the faults so far, and whether the last call found no memory
pub record HeldBytes : Type 0 where
  pub bytes : Text
  pub most : ℕ
  pub plan : Plan
  pub raised : ℕ
  pub starved : Bool

-- a shelf whose files are always read: its files, and the faults at absent names
pub record SteadyFiles : Type 0 where
  pub files : List MemFile
  pub misses : ℕ

-- the bytes of the first file of a name
abbrev pub files_of : List MemFile → Files
files_of files name = option_map (λ file. file.bytes.items) (find (λ file. bytes_eq name (string_bytes file.name)) files)

-- how many bytes of a file a read gives: what is left and has room, at most `most` but at least one
abbrev pub piece_size : Text → ℕ → ℕ → ℕ → ℕ
piece_size bytes offset room most = min (min (length bytes - offset) room) (max most 1)

-- how many bytes a read of a name gives, where the file is there
abbrev pub read_size : HeldFiles → Text → ℕ → ℕ → Option ℕ
read_size held name offset room = option_map (λ bytes. piece_size bytes offset room held.most) (files_of held.files name)

-- the shelf after a read
abbrev pub after_read : HeldFiles → HeldFiles
after_read held = record held { plan = after_call held.plan }

-- the shelf after a fault
abbrev pub after_fault : HeldFiles → HeldFiles
after_fault held = record held { plan = after_call held.plan; raised = one_more held.raised }

-- the sink after it took some bytes
abbrev pub after_put : HeldBytes → Text → HeldBytes
after_put held bytes = record held { bytes = held.bytes ++ bytes; plan = after_call held.plan; starved = false }

-- the sink after a fault, and whether it was for want of memory
abbrev pub after_refusal : HeldBytes → Bool → HeldBytes
after_refusal held starved = record held { plan = after_call held.plan; raised = one_more held.raised; starved = starved }

-- the count of a name that is there is the constant 0
abbrev pub miss_count : List MemFile → ℕ → Text → ℕ
miss_count files misses name = if is_some (files_of files name) then 0 else misses
