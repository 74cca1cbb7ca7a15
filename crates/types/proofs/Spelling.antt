-- Words and the types that they spell: encoding and decoding undo one another, and where a type ends.
use Rattle.std.proofs.Common.{◌≡◌, ℕ, suc, ◌+◌, ◌<◌, true, List, [], ◌∷◌, ◌++◌, length, take, drop, Some, None, Option, refl, ap, ◌∙◌, arith}
use Rattle.std.proofs.lemmas.Bool.Decides.{nat_tests}
use Rattle.std.proofs.lemmas.Slice.Eq.{bytes_eq-Decides}
use Rattle.std.proofs.lemmas.List.{take_at, drop_at}
use Rattle.std.specs.Option.{option_map}
use Rattle.types.specs.Types.{named, numbered, Ty, leaf, label0, label1, label2, size}
use Rattle.types.specs.Words.{node, grown, node_word, node_number, types, spell, encode, encode_all, whole, wanting, span, Spelled, AllSpelled}
use Rattle.types.specs.declared.words.Node.{Node}
use Rattle.types.specs.declared.words.Node.TheVariants.{Leaf as LeafNode, Label0, Label1, Label2}

pub node_leaf : (n : ℕ) → n < 1073741824 → node n ≡ LeafNode n
node_leaf n h = grind (arith, nat_tests)

pub node_label0 : (l : ℕ) → l < 1073741824 → node (1073741824 + l) ≡ Label0 l
node_label0 l h = grind (arith, nat_tests)

pub node_label1 : (l : ℕ) → l < 1073741824 → node (2147483648 + l) ≡ Label1 l
node_label1 l h = grind (arith, nat_tests)

pub node_label2 : (l : ℕ) → l < 1073741824 → node (3221225472 + l) ≡ Label2 l
node_label2 l h = grind (arith, nat_tests)

pub node_word_node : (w : ℕ) → w < 4294967296 → node_word (node w) ≡ w
node_word_node w h = grind (arith, nat_tests)

pub node_number_node : (w : ℕ) → node_number (node w) < 1073741824
node_number_node w = grind (arith, nat_tests)

pub node_node_word : (d : Node) → node_number d < 1073741824 → node (node_word d) ≡ d
node_node_word (LeafNode n) h = node_leaf n h
node_node_word (Label0 n) h = node_label0 n h
node_node_word (Label1 n) h = node_label1 n h
node_node_word (Label2 n) h = node_label2 n h

-- decoding an encoding gives it back
pub types_spell : (t : Ty) → Spelled t → (ws : List ℕ) → types (spell t ws) ≡ t ∷ types ws
types_spell (leaf (named p x)) s ws = absurd s
types_spell (leaf (numbered n)) s ws = let e = node_leaf n s in cc
types_spell (label0 l) s ws = let e = node_label0 l s in cc
types_spell (label1 l t) s ws = let e = node_label1 l s.0 in let f = types_spell t s.1 ws in cc
types_spell (label2 l t u) s ws =
    let e = node_label2 l s.0 in
    let f = types_spell t s.1 (spell u ws) in
    let g = types_spell u s.2 ws in
    cc

pub types_encode_all : (ts : List Ty) → AllSpelled ts → types (encode_all ts) ≡ ts
types_encode_all [] s = refl
types_encode_all (t ∷ ts) s = let e = types_spell t s.0 (encode_all ts) in let f = types_encode_all ts s.1 in cc

grown_spelled : (n : Node) (ts : List Ty) → node_number n < 1073741824 → AllSpelled ts → AllSpelled (grown n ts)
grown_spelled (LeafNode n) ts h s = (h, s)
grown_spelled (Label0 n) ts h s = (h, s)
grown_spelled (Label1 n) [] h s = tt
grown_spelled (Label1 n) (t ∷ ts) h s = ((h, s.0), s.1)
grown_spelled (Label2 n) [] h s = tt
grown_spelled (Label2 n) (t ∷ []) h s = s
grown_spelled (Label2 n) (t ∷ u ∷ ts) h s = ((h, s.0, s.1.0), s.1.1)

-- what words decode to has words
pub types_spelled : (ws : List ℕ) → AllSpelled (types ws)
types_spelled [] = tt
types_spelled (w ∷ ws) = grown_spelled (node w) (types ws) (node_number_node w) (types_spelled ws)

pub whole_is : (ws : List ℕ) → whole ws ≡ true → encode_all (types ws) ≡ ws
whole_is ws = (bytes_eq-Decides (encode_all (types ws)) ws).0

pub is_whole : (ws : List ℕ) → encode_all (types ws) ≡ ws → whole ws ≡ true
is_whole ws = (bytes_eq-Decides (encode_all (types ws)) ws).1

pub whole_encode_all : (ts : List Ty) → AllSpelled ts → whole (encode_all ts) ≡ true
whole_encode_all ts s = is_whole (encode_all ts) (ap encode_all (types_encode_all ts s))

-- different types have different words
pub encode_injective : (t u : Ty) → Spelled t → Spelled u → encode t ≡ encode u → t ≡ u
encode_injective t u p q e =
    let f = types_spell t p [] in
    let g = types_spell u q [] in
    let h = ap types e in
    cc

pub spell_append : (t : Ty) (xs ys : List ℕ) → spell t (xs ++ ys) ≡ spell t xs ++ ys
spell_append (leaf (named p x)) xs ys = refl
spell_append (leaf (numbered n)) xs ys = refl
spell_append (label0 l) xs ys = refl
spell_append (label1 l t) xs ys = ap (λ (zs : List ℕ). (2147483648 + l) ∷ zs) (spell_append t xs ys)
spell_append (label2 l t u) xs ys =
    ap (λ (zs : List ℕ). (3221225472 + l) ∷ zs) (ap (spell t) (spell_append u xs ys) ∙ spell_append t (spell u xs) ys)

pub spell_encode : (t : Ty) (ws : List ℕ) → spell t ws ≡ encode t ++ ws
spell_encode t ws = spell_append t [] ws

pub length_spell : (t : Ty) (ws : List ℕ) → length (spell t ws) ≡ size t + length ws
length_spell (leaf (named p x)) ws = omega arith
length_spell (leaf (numbered n)) ws = omega arith
length_spell (label0 l) ws = omega arith
length_spell (label1 l t) ws = let e = length_spell t ws in omega arith
length_spell (label2 l t u) ws = let e = length_spell t (spell u ws) in let f = length_spell u ws in omega arith

-- one word for each label and leaf
pub length_encode : (t : Ty) → length (encode t) ≡ size t
length_encode t = let e = length_spell t [] in omega arith

mapped_mapped : (o : Option ℕ) (m n k : ℕ) → k ≡ m + n → option_map (λ x. m + x) (option_map (λ x. n + x) o) ≡ option_map (λ x. k + x) o
mapped_mapped None m n k e = refl
mapped_mapped (Some x) m n k e = let f : m + (n + x) ≡ k + x = omega arith in ap Some f

mapped_suc : (o : Option ℕ) (n : ℕ) → option_map (λ x. suc x) (option_map (λ x. n + x) o) ≡ option_map (λ x. suc n + x) o
mapped_suc None n = refl
mapped_suc (Some x) n = let f : suc (n + x) ≡ suc n + x = omega arith in ap Some f

mapped_one : (o : Option ℕ) → option_map (λ x. suc x) o ≡ option_map (λ x. 1 + x) o
mapped_one None = refl
mapped_one (Some x) = let f : suc x ≡ 1 + x = omega arith in ap Some f

-- the words of a type are passed over as one type
pub span_spell : (t : Ty) → Spelled t → (ws : List ℕ) (k : ℕ) → span (spell t ws) (suc k) ≡ option_map (λ n. size t + n) (span ws k)
span_spell (leaf (named p x)) s ws k = absurd s
span_spell (leaf (numbered n)) s ws k = let e = node_leaf n s in ap (λ (d : Node). option_map (λ n. suc n) (span ws (wanting d k))) e ∙ mapped_one (span ws k)
span_spell (label0 l) s ws k = let e = node_label0 l s in ap (λ (d : Node). option_map (λ n. suc n) (span ws (wanting d k))) e ∙ mapped_one (span ws k)
span_spell (label1 l t) s ws k =
    ap (λ (d : Node). option_map (λ n. suc n) (span (spell t ws) (wanting d k))) (node_label1 l s.0)
    ∙ ap (option_map (λ n. suc n)) (span_spell t s.1 ws k)
    ∙ mapped_suc (span ws k) (size t)
span_spell (label2 l t u) s ws k =
    ap (λ (d : Node). option_map (λ n. suc n) (span (spell t (spell u ws)) (wanting d k))) (node_label2 l s.0)
    ∙ ap (option_map (λ n. suc n)) (span_spell t s.1 (spell u ws) (suc k) ∙ ap (option_map (λ n. size t + n)) (span_spell u s.2 ws k) ∙ mapped_mapped (span ws k) (size t) (size u) (size t + size u) refl)
    ∙ mapped_suc (span ws k) (size t + size u)

pub span_zero : (ws : List ℕ) → span ws 0 ≡ Some 0
span_zero [] = refl
span_zero (w ∷ ws) = refl

pub span_one : (t : Ty) → Spelled t → (ws : List ℕ) → span (spell t ws) 1 ≡ Some (size t)
span_one t s ws = span_spell t s ws 0 ∙ ap (option_map (λ n. size t + n)) (span_zero ws) ∙ (let e : size t + 0 ≡ size t = omega arith in ap Some e)

pub take_spell : (t : Ty) (ws : List ℕ) → take (size t) (spell t ws) ≡ encode t
take_spell t ws = ap (take (size t)) (spell_encode t ws) ∙ take_at (encode t) ws (size t) (length_encode t)

pub drop_spell : (t : Ty) (ws : List ℕ) → drop (size t) (spell t ws) ≡ ws
drop_spell t ws = ap (drop (size t)) (spell_encode t ws) ∙ drop_at (encode t) ws (size t) (length_encode t)
