-- The sentences for refusals.
use Rattle.std.specs.Prelude.{ℕ, List, codes}
use Rattle.store.specs.declared.units.Refusal.{Refusal}
use Rattle.store.specs.declared.units.Refusal.TheVariants.{StoreLength, TextLength, NoName, Full, Missing}

-- what is told of a store that has another length
abbrev pub length_words : List ℕ
length_words = codes "the store has not the bytes of a store"

-- what is told of a store that was left as it was
abbrev pub refusal_words : Refusal → List ℕ
refusal_words StoreLength = length_words
refusal_words TextLength = codes "the text has too many bytes"
refusal_words NoName = codes "no name stands at the place told"
refusal_words Full = codes "16 other units are stored"
refusal_words Missing = codes "no unit of that name is stored"
