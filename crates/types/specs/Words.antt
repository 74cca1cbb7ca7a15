-- Types in memory: a run of 32-bit words, one for each label and leaf, a label before its parts.
-- The top two bits tell what a word is, the other 30 are the number of the leaf or label.
use Rattle.std.specs.Prelude.{ℕ, zero, suc, ◌+◌, ◌-◌, ◌%◌, ◌<◌, Bool, cond, List, [], ◌∷◌, ◌++◌, length, take, drop, Some, None, Option, nat_le, nat_lt}
use Rattle.std.specs.Str.{bytes_eq}
use Rattle.std.specs.Option.{option_map}
use Rattle.types.specs.Types.{named, numbered, Ty, leaf, label0, label1, label2}
use Rattle.types.specs.declared.words.Node.{Node}
use Rattle.types.specs.declared.words.Node.TheVariants.{Leaf as LeafNode, Label0, Label1, Label2}

-- what a word says; of a number past 32 bits only the low 30 count
abbrev pub node : ℕ → Node
node w =
    cond (nat_lt w 1073741824) (LeafNode w)
    (cond (nat_lt w 2147483648) (Label0 (w - 1073741824))
    (cond (nat_lt w 3221225472) (Label1 (w - 2147483648)) (Label2 ((w - 3221225472) % 1073741824))))

-- the word of a node, and its number
abbrev pub node_word : Node → ℕ
node_word (LeafNode n) = n
node_word (Label0 n) = 1073741824 + n
node_word (Label1 n) = 2147483648 + n
node_word (Label2 n) = 3221225472 + n

abbrev pub node_number : Node → ℕ
node_number (LeafNode n) = n
node_number (Label0 n) = n
node_number (Label1 n) = n
node_number (Label2 n) = n

-- a node has a word where its number has at most 30 bits
abbrev pub word_of : Node → Option ℕ
word_of d = cond (nat_lt (node_number d) 1073741824) (Some (node_word d)) None

-- how many parts stand behind a word
abbrev pub parts : Node → ℕ
parts (LeafNode n) = 0
parts (Label0 n) = 0
parts (Label1 n) = 1
parts (Label2 n) = 2

-- a word in front of types takes the parts that its label has; one that lacks parts is lost
abbrev pub grown : Node → List Ty → List Ty
grown (LeafNode n) ts = leaf (numbered n) ∷ ts
grown (Label0 n) ts = label0 n ∷ ts
grown (Label1 n) [] = []
grown (Label1 n) (t ∷ ts) = label1 n t ∷ ts
grown (Label2 n) [] = []
grown (Label2 n) (t ∷ []) = t ∷ []
grown (Label2 n) (t ∷ u ∷ ts) = label2 n t u ∷ ts

-- the types that words spell, one behind the other
abbrev pub types : List ℕ → List Ty
types [] = []
types (w ∷ ws) = grown (node w) (types ws)

-- the words of a type in front of others; a named path has no word, and its place is held by 0
abbrev pub spell : Ty → List ℕ → List ℕ
spell (leaf (named p x)) ws = 0 ∷ ws
spell (leaf (numbered n)) ws = n ∷ ws
spell (label0 l) ws = (1073741824 + l) ∷ ws
spell (label1 l t) ws = (2147483648 + l) ∷ spell t ws
spell (label2 l t u) ws = (3221225472 + l) ∷ spell t (spell u ws)

abbrev pub encode : Ty → List ℕ
encode t = spell t []

abbrev pub encode_all : List Ty → List ℕ
encode_all [] = []
encode_all (t ∷ ts) = spell t (encode_all ts)

-- the words are whole types and nothing else
abbrev pub whole : List ℕ → Bool
whole ws = bytes_eq (encode_all (types ws)) ws

-- how many types there are once a word stands in front of k types, if these are enough for its parts
abbrev pub types_with : Node → ℕ → Option ℕ
types_with (LeafNode n) k = Some (k + 1)
types_with (Label0 n) k = Some (k + 1)
types_with (Label1 n) k = cond (nat_le 1 k) (Some k) None
types_with (Label2 n) k = cond (nat_le 2 k) (Some (k - 1)) None

-- how many parts follow a word, besides the types still wanted
abbrev pub wanting : Node → ℕ → ℕ
wanting (LeafNode n) k = k
wanting (Label0 n) k = k
wanting (Label1 n) k = suc k
wanting (Label2 n) k = suc (suc k)

-- how many words the first k types take, if so many stand there
abbrev pub span : List ℕ → ℕ → Option ℕ
span [] zero = Some 0
span [] (suc k) = None
span (w ∷ ws) zero = Some 0
span (w ∷ ws) (suc k) = option_map (λ n. suc n) (span ws (wanting (node w) k))

-- the words of the first type, and those behind it
abbrev pub first_type : List ℕ → Option (List ℕ × List ℕ)
first_type ws = option_map (λ n. (take n ws, drop n ws)) (span ws 1)

-- words copied over others from a place on
abbrev pub pasted : List ℕ → ℕ → List ℕ → List ℕ
pasted ws n out = take n out ++ (ws ++ drop (n + length ws) out)

-- a copy is made where there is room for it, and else nothing is changed
abbrev pub copied : List ℕ → ℕ → List ℕ → List ℕ
copied ws n out = cond (nat_le (n + length ws) (length out)) (pasted ws n out) out

abbrev pub copied_end : List ℕ → ℕ → ℕ → Option ℕ
copied_end ws n room = cond (nat_le (n + length ws) room) (Some (n + length ws)) None

-- the types that have words: every leaf is a number, and every number has at most 30 bits
abbrev pub Spelled : Ty → Type 0
Spelled (leaf (named p x)) = ⊥
Spelled (leaf (numbered n)) = n < 1073741824
Spelled (label0 l) = l < 1073741824
Spelled (label1 l t) = (l < 1073741824) × Spelled t
Spelled (label2 l t u) = (l < 1073741824) × Spelled t × Spelled u

abbrev pub AllSpelled : List Ty → Type 0
AllSpelled [] = Unit {0}
AllSpelled (t ∷ ts) = Spelled t × AllSpelled ts
