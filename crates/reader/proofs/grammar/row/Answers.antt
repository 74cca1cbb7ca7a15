use Rattle.std.proofs.Common.{◌≡◌, ◌≤◌, List, [], ◌∷◌, length, take, slice_index_or, refl, arith}
use Rattle.reader.specs.declared.class.Class.{Class}
use Rattle.reader.specs.declared.symbol.Symbol.{Symbol}
use Rattle.reader.proofs.grammar.row.Goals as goal

-- five places of a list that is no longer, and as many of them as it has
five_places :
    (d : Symbol) (xs : List Symbol) → length xs ≤ 5 →
    take (length xs) (slice_index_or xs 0 d ∷ slice_index_or xs 1 d ∷ slice_index_or xs 2 d ∷ slice_index_or xs 3 d ∷ slice_index_or xs 4 d ∷ []) ≡ xs
five_places d [] h = refl
five_places d (a ∷ []) h = refl
five_places d (a ∷ b ∷ []) h = refl
five_places d (a ∷ b ∷ e ∷ []) h = refl
five_places d (a ∷ b ∷ e ∷ f ∷ []) h = refl
five_places d (a ∷ b ∷ e ∷ f ∷ g ∷ []) h = refl
five_places d (a ∷ b ∷ e ∷ f ∷ g ∷ i ∷ xs) h = absurd (omega (arith, h))

pub returns : goal.returns
returns c =
    rw (c.nth_symbol.ensures, c.nth_symbol-2.ensures, c.nth_symbol-3.ensures, c.nth_symbol-4.ensures, c.nth_symbol-5.ensures)
    (five_places (Symbol.Token Class.Open) c.args.symbols.now c.requires)
