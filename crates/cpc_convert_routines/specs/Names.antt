-- The names of what is generated. Each is a name of the source, or a word, with two underscores behind it and then a text without a underscore, which may
-- be empty. No function, variable, label or declared tag of the source holds two underscores, so that none of these is one; and the text before the first two underscores, with the text
-- behind them, tells any two apart. Behind the name of a function stand `spawn`, `start`, `value`, or `at` or `box` and a number; behind that
-- of a variable stands its number alone; behind a word of ours nothing. So no function is called as a variable, a field or a word, and no
-- variable as a word. Labels and tags have name spaces of their own: labels are `at` with a number and two underscores, tags those of the
-- functions that take such a frame up, and of the boxes of variables.
use Rattle.std.specs.Prelude.{ℕ, decimal, codes, ◌++◌}
use Rattle.cpc_base.specs.Bytes.{Text}
use Rattle.cpc_convert_common.specs.Converted.{marked}
use Rattle.cpc_forms.specs.Flow.{Place, Start, At}

-- `f__start`: the piece that a call of f enters
unfoldable pub start_name : Text → Text
start_name f = marked f (codes "start")

-- `f__at7`: the piece of a leader
unfoldable pub leader_name : Text → ℕ → Text
leader_name f n = marked f (codes "at" ++ decimal n)

-- the piece of an owner, and the tag of the frames that it takes up
abbrev pub piece_name : Text → Place → Text
piece_name f Start = start_name f
piece_name f (At n) = leader_name f n

-- `f__value`: the tag of any frame at which the value of f arrives
unfoldable pub value_tag : Text → Text
value_tag f = marked f (codes "value")

-- `f__box3`: the tag of the box of a variable
unfoldable pub box_tag : Text → ℕ → Text
box_tag f k = marked f (codes "box" ++ decimal k)

-- `x__7`: the local, the parameter or the field in which the variable x, of this number, stands
unfoldable pub variable_name : ℕ → Text → Text
variable_name k x = marked x (decimal k)

-- `at7__`: the label of a node in its piece, or of the lines that go to the leader of this number, in another one
unfoldable pub node_label : ℕ → Text
node_label n = marked (codes "at" ++ decimal n) (codes "")

-- the pointer that a piece takes
abbrev pub pointer_name : Text
pointer_name = codes "k__"

-- the frame that it points to
abbrev pub frame_name : Text
frame_name = codes "e__"

-- the frame below
abbrev pub next_name : Text
next_name = codes "next__"

-- the value that arrives
abbrev pub value_name : Text
value_name = codes "value__"

-- the frame that is given to the driver
abbrev pub to_name : Text
to_name = codes "to__"

-- the frame below one that is called
abbrev pub under_name : Text
under_name = codes "under__"

-- the value that is returned
abbrev pub result_name : Text
result_name = codes "result__"
