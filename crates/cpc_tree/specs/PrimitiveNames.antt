-- The primitives of the code as those of the language, and their names.
use Rattle.std.specs.Prelude.{List, [], ◌∷◌, Option, codes, find, bytes_eq}
use Rattle.cpc_base.specs.Bytes.{Text}
use Rattle.cpc_tree.specs.Primitives as P
use Rattle.cpc_tree.specs.declared.primitive.Primitive.{Primitive}
use Rattle.cpc_tree.specs.declared.primitive.Primitive.TheVariants as R

-- a primitive of the code
abbrev pub primitive_of : Primitive → P.Primitive
primitive_of R.Print = P.Print
primitive_of R.Putc = P.Putc
primitive_of R.Puts = P.Puts
primitive_of R.Now = P.Now
primitive_of R.CondNew = P.CondNew
primitive_of R.CondFree = P.CondFree
primitive_of R.Signal = P.Signal
primitive_of R.SignalAll = P.SignalAll
primitive_of R.Exit = P.Exit
primitive_of R.Malloc = P.Malloc
primitive_of R.Free = P.Free
primitive_of R.Yield = P.Yield
primitive_of R.Sleep = P.Sleep
primitive_of R.IoWait = P.IoWait
primitive_of R.Wait = P.Wait
primitive_of R.RtFrame = P.RtFrame
primitive_of R.RtBox = P.RtBox
primitive_of R.RtFrameFree = P.RtFrameFree
primitive_of R.RtUnbox = P.RtUnbox
primitive_of R.RtReady = P.RtReady
primitive_of R.RtWait = P.RtWait
primitive_of R.RtSleep = P.RtSleep
primitive_of R.RtIo = P.RtIo
primitive_of R.RtDetach = P.RtDetach

-- its name
abbrev pub spelling_of : Primitive → Text
spelling_of R.Print = codes "cpc_print"
spelling_of R.Putc = codes "cpc_putc"
spelling_of R.Puts = codes "cpc_puts"
spelling_of R.Now = codes "cpc_now"
spelling_of R.CondNew = codes "cpc_cond_new"
spelling_of R.CondFree = codes "cpc_cond_free"
spelling_of R.Signal = codes "cpc_signal"
spelling_of R.SignalAll = codes "cpc_signal_all"
spelling_of R.Exit = codes "cpc_exit"
spelling_of R.Malloc = codes "malloc"
spelling_of R.Free = codes "free"
spelling_of R.Yield = codes "cpc_yield"
spelling_of R.Sleep = codes "cpc_sleep"
spelling_of R.IoWait = codes "cpc_io_wait"
spelling_of R.Wait = codes "cpc_wait"
spelling_of R.RtFrame = codes "rt_frame"
spelling_of R.RtBox = codes "rt_box"
spelling_of R.RtFrameFree = codes "rt_frame_free"
spelling_of R.RtUnbox = codes "rt_unbox"
spelling_of R.RtReady = codes "rt_ready"
spelling_of R.RtWait = codes "rt_wait"
spelling_of R.RtSleep = codes "rt_sleep"
spelling_of R.RtIo = codes "rt_io"
spelling_of R.RtDetach = codes "rt_detach"

-- all of them
abbrev pub all_primitives : List Primitive
all_primitives = R.Print ∷ R.Putc ∷ R.Puts ∷ R.Now ∷ R.CondNew ∷ R.CondFree ∷ R.Signal ∷ R.SignalAll ∷ R.Exit ∷ R.Malloc ∷ R.Free ∷ R.Yield ∷ R.Sleep ∷ R.IoWait ∷ R.Wait ∷ R.RtFrame ∷ R.RtBox ∷ R.RtFrameFree ∷ R.RtUnbox ∷ R.RtReady ∷ R.RtWait ∷ R.RtSleep ∷ R.RtIo ∷ R.RtDetach ∷ []

-- the one of a name
unfoldable pub primitive_found : Text → Option Primitive
primitive_found x = find (λ p. bytes_eq x (spelling_of p)) all_primitives
