-- Parts put in place of others at the end of a path.
use Rattle.std.proofs.Common.{◌≡◌, ℕ, ◌+◌, ◌-◌, List, [], ◌∷◌, ◌++◌, length, take, sym, ap, ◌∙◌, append_assoc, length-append, arith}
use Rattle.std.proofs.lemmas.List.{length-map, take-map, map-append, append-nil}
use Rattle.std.proofs.Math.Seq.{take-append_seam}
use Rattle.cpc_tree.specs.Points as P
use Rattle.cpc_tree.specs.Points.{Path}
use Rattle.cpc_native_points.specs.declared.parts.Part as G
use Rattle.cpc_native_points.specs.Seen.{part_of, path_of}
use Rattle.cpc_native_points.specs.Leads.{Goes}

-- what is kept
kept_is : (xs : List G.Part) (front back : Path) (kept dropped : ℕ) → path_of xs ≡ front ++ back → length back ≡ dropped → kept ≡ length xs - dropped → path_of (take kept xs) ≡ front
kept_is xs front back kept dropped e h k =
    let long : length xs ≡ length front + length back = sym (length-map xs part_of) ∙ ap length e ∙ length-append front back in
    let so_many : kept ≡ length front = omega arith in
    sym (take-map part_of kept xs) ∙ ap (take kept) e ∙ ap (λ n. take n (front ++ back)) so_many ∙ take-append_seam front back

-- with one part and what follows it
pub goes_to : (xs new : List G.Part) (kept dropped : ℕ) (n : G.Part) (more : Path) (m : P.Move) → kept ≡ length xs - dropped → path_of new ≡ path_of (take kept xs ++ n ∷ []) ++ more → Goes (path_of xs) dropped (part_of n ∷ more) m → m ≡ P.Into (path_of new)
goes_to xs new kept dropped n more m k e g =
    let front : path_of (take kept xs) ≡ g.front = kept_is xs g.front g.back kept dropped g.whole g.so_many k in
    let here : path_of (take kept xs ++ n ∷ []) ≡ g.front ++ part_of n ∷ [] = map-append part_of (take kept xs) (n ∷ []) ∙ ap (λ p. p ++ part_of n ∷ []) front in
    let all : path_of new ≡ g.front ++ (part_of n ∷ more) = e ∙ ap (λ p. p ++ more) here ∙ append_assoc g.front (part_of n ∷ []) more in
    g.is ∙ ap P.Into (sym all)

-- with one part alone
pub goes_alone : (xs new : List G.Part) (kept dropped : ℕ) (n : G.Part) (m : P.Move) → kept ≡ length xs - dropped → new ≡ take kept xs ++ n ∷ [] → Goes (path_of xs) dropped (part_of n ∷ []) m → m ≡ P.Into (path_of new)
goes_alone xs new kept dropped n m k e g = goes_to xs new kept dropped n [] m k (ap path_of e ∙ sym (append-nil (path_of (take kept xs ++ n ∷ [])))) g
