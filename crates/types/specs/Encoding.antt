-- What the encoding of types obeys.
use Rattle.std.specs.Prelude.{◌≡◌, ℕ, ◌<◌, Bool, true, List, length, drop, Some, None, Decides, Option, ◌≢◌}
use Rattle.std.specs.Str.{bytes_eq}
use Rattle.types.specs.Types.{Ty, size}
use Rattle.types.specs.Words.{node, node_word, node_number, Spelled, AllSpelled, types, spell, encode, encode_all, whole}
use Rattle.types.specs.declared.words.Node.{Node}

-- n words are the first type of a run; without a number, no type stands in front
abbrev pub FirstType : List ℕ → Option ℕ → Type 0
FirstType ws None = (t : Ty) (rest : List ℕ) → Spelled t → spell t rest ≢ ws
FirstType ws (Some n) = (t : Ty) × Spelled t × (n ≡ size t) × (spell t (drop n ws) ≡ ws)

-- the words are those of some types
abbrev pub AreTypes : List ℕ → Type 0
AreTypes ws = (ts : List Ty) × AllSpelled ts × (encode_all ts ≡ ws)

-- on the words of types the answer says whether the types are the same
abbrev pub TellsSame : List ℕ → List ℕ → Bool → Type 0
TellsSame xs ys r = (t u : Ty) → Spelled t → Spelled u → encode t ≡ xs → encode u ≡ ys → Decides r (t ≡ u)

-- a 32-bit word is the word of the node that it says, and a node with at most 30 bits of number is what its word says;
-- a type has one word for each label and leaf; decoding what was encoded gives it back; different types have different words;
-- whether words are equal tells whether their types are
pub record Encoding : Type 0 where
  pub reads : (w : ℕ) → w < 4294967296 → node_word (node w) ≡ w
  pub writes : (d : Node) → node_number d < 1073741824 → node (node_word d) ≡ d
  pub long : (t : Ty) → length (encode t) ≡ size t
  pub back : (ts : List Ty) → AllSpelled ts → types (encode_all ts) ≡ ts
  pub spelled : (ws : List ℕ) → AllSpelled (types ws)
  pub forth : (ws : List ℕ) → whole ws ≡ true → encode_all (types ws) ≡ ws
  pub apart : (t u : Ty) → Spelled t → Spelled u → encode t ≡ encode u → t ≡ u
  pub tells : (xs ys : List ℕ) → TellsSame xs ys (bytes_eq xs ys)
