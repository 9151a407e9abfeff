-- The sample texts: programs of n threads, each of which waits ten times and adds to a total.
use Rattle.std.specs.Prelude.{ℕ, ◌++◌, codes, decimal, flat_map}
use Rattle.std.specs.List.{range_with_len}
use Rattle.cpc_base.specs.Bytes.{Text}

-- the function of the j-th of n threads; the last of them to end prints the total
abbrev pub thread : (n j : ℕ) → Text
thread n j = codes "cps void w" ++ (decimal j ++ (codes "(int a) {\n  int i;\n  int s;\n  s = a;\n  for (i = 0; i < 10; i += 1) {\n    cpc_yield();\n    s = s + i * "
    ++ (decimal j ++ (codes ";\n  }\n  total = total + s;\n  done = done + 1;\n  if (done == " ++ (decimal n ++ codes ") cpc_print(total);\n}\n")))))

-- the line that makes the j-th thread ready
abbrev pub spawn : (j : ℕ) → Text
spawn j = codes "  cpc_spawn w" ++ (decimal j ++ (codes "(" ++ (decimal j ++ codes ");\n")))

-- the functions of all n threads, and the lines that make them ready
abbrev pub threads : (n : ℕ) → Text
threads n = flat_map (thread n) (range_with_len 0 n)

abbrev pub spawns : (n : ℕ) → Text
spawns n = flat_map spawn (range_with_len 0 n)

-- the sample text of number n
abbrev pub sample_text : (n : ℕ) → Text
sample_text n = codes "int total;\nint done;\n" ++ (threads n ++ (codes "int main(void) {\n" ++ (spawns n ++ codes "  return 0;\n}\n")))
