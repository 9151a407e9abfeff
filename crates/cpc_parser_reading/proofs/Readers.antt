-- How a grammar is read exactly: all lemmas of a reader's proof, and how to use them.
--
-- What is proved. A reader goes through a list of tokens of a type T with some room d for nesting. `kind : T → K` is
-- what matters of a token, its place aside. `Exact kind n low F R Q` says of the readers F d and the lists R, for each
-- room d from low up to n: what F d reads is in R within d, all of it, and stops only before tokens of which Q holds;
-- a `Fault` stands where the tokens before it begin a list of R within d, and no list goes on with a token of that
-- kind; a `Deep` stands where lists go on so, but none within d; and with more room nothing but `Deep` changes.
-- `answers`, `complete` and `once` make of it the answer to a whole list of tokens.
--
-- How a grammar is written. It is a `data` (or a `mutual` of some) over lists of tokens with the tree and the nesting
-- as indices, one constructor a production. It never mentions a reader. The readers are functions of lists, put
-- together by the combinators of `specs/`: a production is one `abbrev .._at` of the readers of what is inside it, and
-- one recursion on the room ties the knot: `read zero ts = Deep ts`, `read (suc room) ts = .._at (read room) ts`.
--
-- What a production costs, and how one is added:
-- 1. its constructor, and its reader: 1 to 3 lines each;
-- 2. its lists in the combinators' words, an `abbrev`: 1 line;
-- 3. from the constructor to these words and back (`to_..`, `of_..`): 1 to 8 lines each, mostly `append_assoc`;
-- 4. that it is exact: one term of the lemmas below, 1 to 4 lines, and no induction;
-- 5. where its first token chooses it: a class of the token's kind, and the least nesting it may have.
-- A nonterminal that refers to itself costs one more induction, on the room: `exact_start` at zero, and `exact_as` of
-- the productions at `suc n`. `SmallExpressions`, `SmallStatements` and `SmallRest` use all of it, on a language with the
-- shapes of C.
--
--   reader                     lists              lemma             asks
--   nothing                    Nothing            exact_nothing
--   one pick                   One                exact_one         some token has a value; kinds alike are picked alike
--   expect p                   Expect             exact_expect      some token is of the test
--   before F p                 Before R p         exact_before      F may stop before a token of p
--   after p F                  After p R          exact_after
--   bind F G, pair F G         Bound R S, Both    exact_bind, _pair G begins where F may stop (`joins`)
--   mapped f F                 Mapped f R         exact_mapped      what may stand behind f v is what may behind v
--                                                 exact_seen        the same, of values that are read
--   made f F                   Made f R           exact_made        the same; one room more, one nesting more
--   only ok F                  Only ok R          exact_only        what is begun can become one of these within the room
--   headed F                   Headed             headed_branch     exact behind each first token
--   one_of class low d F       OneOf R            exact_one_of      a branch for each class, and a sample of the least
--   either p low d F G         Either R S         exact_either      a list of G never seems to begin F
--   optional p low d F         Optional R         exact_optional    F begins with tokens of p
--   either_two p q low d F G   Either R S         exact_two         the second token tells them apart; one least room
--   tail F p full nest G       Tailed             exact_tail        what follows, in the same room (an else)
--                                                 exact_node        what follows, under a node above both (? :)
--   level op node room F G     Level              exact_level       operators from left to right, in the room inside
--   many p low d F             Many R             exact_many        what begins another may stand behind each
--   separated p F              Separated p R      exact_separated   a separator may stand behind each
--   chain F links              Chained            exact_chain       a `Joint`: how values and parts fit together
--
-- `chain` is the induction that levels, tails, lists and all repetition stand on. In it the class of the next token
-- may depend on the value so far, and so may what a part adds to the nesting before it and to its own: this is how
-- `f(a);` and `x = f(a);` are nested less than an expression with a call in it, and how a second `++` is refused.
-- `exact_as` tells a reader and its lists in other words, `exact_stop` what may stand behind a value. Where a value's
-- own mapping forgets what may stand behind it, read the closing token first and map then: anything may follow it.
-- `branch`, `after_branch` and `headed_branch` make the branches of a choice, and `starts_..` say how lists begin.
--
-- How the code follows. A function a production, whose one clause is that its result, seen as a tree, is what the
-- production's reader gives with the room; a refusal is the slice of tokens from its place on. Straight code needs no
-- answer, under `unfolding(.._at)`. `tokens.split_first()` says `tokens ≡ t ∷ rest`, which the lemmas of one step take,
-- and a pattern `[t, rest @ ..]` does not. A function that goes along a chain has its clause on `links`; its steps are
-- `links_end`, `links_stop`, `links_deep`, `links_fault`, `links_deeper`, and `links_on`, `many_on`, `separated_on`.
pub use Rattle.cpc_parser_reading.proofs.Heads.{stops_same, stops_all, stops_as, same_self, opens_as}
pub use Rattle.cpc_parser_reading.proofs.Tokens.{any_stops, exact_nothing, exact_one, exact_expect}
pub use Rattle.cpc_parser_reading.proofs.Sequence.{exact_before, exact_after, exact_bind, exact_pair}
pub use Rattle.cpc_parser_reading.proofs.Values.{exact_mapped, exact_seen, exact_made, exact_only, exact_as, exact_stop, exact_start}
pub use Rattle.cpc_parser_reading.proofs.Choice.{branch, after_branch, headed_branch, exact_one_of, starts_one_of, exact_either, exact_optional}
pub use Rattle.cpc_parser_reading.proofs.Two.{Apart, exact_two}
pub use Rattle.cpc_parser_reading.proofs.Chain.{links_end, links_stop, links_deep, links_fault, links_deeper}
pub use Rattle.cpc_parser_reading.proofs.Chains.{exact_chain, links_on, read_nest, fits_room, free_room}
pub use Rattle.cpc_parser_reading.proofs.Lists.{Over, last_to, last_of, last_all, exact_many, many_on, exact_separated, separated_on}
pub use Rattle.cpc_parser_reading.proofs.Levels.{exact_level, fits_below, free_below}
pub use Rattle.cpc_parser_reading.proofs.Tail.{exact_tail, exact_node, exact_trail}
pub use Rattle.cpc_parser_reading.proofs.Starts.{starts_after, starts_before, starts_mapped, starts_made, starts_only, starts_bind, starts_either, starts_chain, starts_level, starts_tail, starts_separated, starts_as}
pub use Rattle.cpc_parser_reading.proofs.Whole.{answers, complete}
pub use Rattle.cpc_parser_reading.proofs.Once.{once}
