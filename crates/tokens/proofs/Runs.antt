-- The longest run of bytes that pass a test, at the front of a text.
use Rattle.std.proofs.Common.{◌≡◌, ℕ, suc, ◌+◌, Bool, true, false, cond, List, [], ◌∷◌, ◌++◌, length, take, drop, refl, ap, ◌∙◌, one-add}
use Rattle.std.specs.List.{prefix_len}
use Rattle.tokens.specs.Pieces.{All}

-- the bytes do not begin with one that passes
abbrev pub Ends : (ℕ → Bool) → List ℕ → Type 0
Ends p [] = Unit {0}
Ends p (b ∷ bs) = p b ≡ false

-- each byte of the run passes
pub run_all : (p : ℕ → Bool) (bs : List ℕ) → All p (take (prefix_len p bs) bs)
run_all p [] = tt
run_all p (b ∷ bs) = go (p b) refl (run_all p bs)
  where
    go : (t : Bool) → p b ≡ t → All p (take (prefix_len p bs) bs) → All p (take (cond t (1 + prefix_len p bs) 0) (b ∷ bs))
    go true e later = rw (one-add (prefix_len p bs)) (e, later)
    go false e later = tt

-- and the byte behind the run does not
pub run_ends : (p : ℕ → Bool) (bs : List ℕ) → Ends p (drop (prefix_len p bs) bs)
run_ends p [] = tt
run_ends p (b ∷ bs) = go (p b) refl (run_ends p bs)
  where
    go : (t : Bool) → p b ≡ t → Ends p (drop (prefix_len p bs) bs) → Ends p (drop (cond t (1 + prefix_len p bs) 0) (b ∷ bs))
    go true e later = rw (one-add (prefix_len p bs)) later
    go false e later = e

-- bytes that all pass, in front of one that does not, are the run
pub run_is : (p : ℕ → Bool) (xs rest : List ℕ) → All p xs → Ends p rest → prefix_len p (xs ++ rest) ≡ length xs
run_is p [] [] all ends = refl
run_is p [] (b ∷ rest) all ends = rw ends refl
run_is p (x ∷ xs) rest all ends = rw all.0 (one-add _ ∙ ap suc (run_is p xs rest all.1 ends))
