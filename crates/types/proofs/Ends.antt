-- The loops that find the end of a type and test for whole types.
use Rattle.std.proofs.Common.{◌≡◌, ℕ, zero, suc, ◌+◌, ◌-◌, ◌<◌, ◌≤◌, Bool, true, false, List, [], ◌∷◌, ◌++◌, length, get_or, take, drop, Some, None, Option, sym, refl, ap, ◌∙◌, subst, arith, length-drop, take-append-drop, reverse}
use Rattle.std.proofs.lemmas.Bool.Decides.{nat_tests}
use Rattle.std.proofs.lemmas.List.{drop_more, drop_all, length-take-le, length-reverse, get_or-reverse, get_or_default}
use Rattle.std.specs.Option.{option_map}
use Rattle.types.specs.Types.{Ty}
use Rattle.types.specs.Words.{node, node_word, grown, types, encode_all, whole, wanting, parts, types_with, span}
use Rattle.types.specs.declared.words.Node.{Node}
use Rattle.types.specs.declared.words.Node.TheVariants.{Leaf as LeafNode, Label0, Label1, Label2}
use Rattle.types.proofs.Spelling.{node_word_node, whole_is, is_whole, span_zero}

-- what is left gives the answer: i words are passed, and so many types are still wanted
abbrev pub Ending : List ℕ → ℕ → ℕ → Type 0
Ending ws i wanted = option_map (λ n. i + n) (span (drop i ws) wanted) ≡ span ws 1

pub ending_start : (ws : List ℕ) → Ending ws 0 1
ending_start ws = go (span ws 1)
  where
    go : (o : Option ℕ) → option_map (λ n. 0 + n) o ≡ o
    go None = refl
    go (Some x) = let e : 0 + x ≡ x = omega arith in ap Some e

pub ending_none : (ws : List ℕ) (i wanted : ℕ) → Ending ws i wanted → wanted ≡ 0 → Some i ≡ span ws 1
ending_none ws i wanted e z =
    let f : i ≡ i + 0 = omega arith in
    ap Some f ∙ ap (option_map (λ n. i + n)) (sym (span_zero (drop i ws)) ∙ ap (span (drop i ws)) (sym z)) ∙ e

wanting_least : (d : Node) (k : ℕ) → k ≤ wanting d k
wanting_least (LeafNode n) k = omega arith
wanting_least (Label0 n) k = omega arith
wanting_least (Label1 n) k = omega arith
wanting_least (Label2 n) k = omega arith

span_lacks : (ws : List ℕ) (k : ℕ) → length ws < k → span ws k ≡ None
span_lacks [] zero h = absurd (omega arith)
span_lacks [] (suc k) h = refl
span_lacks (w ∷ ws) zero h = absurd (omega arith)
span_lacks (w ∷ ws) (suc k) h = let g = wanting_least (node w) k in ap (option_map (λ n. suc n)) (span_lacks ws (wanting (node w) k) (omega arith))

pub ending_lacks : (ws : List ℕ) (i wanted : ℕ) → Ending ws i wanted → length ws - i < wanted → None ≡ span ws 1
ending_lacks ws i wanted e h =
    let l = length-drop i ws in
    sym (ap (option_map (λ n. i + n)) (span_lacks (drop i ws) wanted (omega arith))) ∙ e

pub ending_more : (ws : List ℕ) (i wanted next : ℕ) → Ending ws i wanted → i < length ws → 0 < wanted →
    next ≡ wanting (node (get_or ws i 0)) (wanted - 1) → Ending ws (i + 1) next
ending_more ws i zero next e h w is = absurd (omega arith)
ending_more ws i (suc k) next e h w is =
    let d = drop_more ws i 0 h in
    let q : suc k - 1 ≡ k = omega arith in
    let f : span (drop i ws) (suc k) ≡ option_map (λ n. suc n) (span (drop (i + 1) ws) next) =
    ap (λ (xs : List ℕ). span xs (suc k)) d
    ∙ ap (λ (m : ℕ). option_map (λ n. suc n) (span (drop (i + 1) ws) m)) (sym (is ∙ ap (wanting (node (get_or ws i 0))) q)) in
    go (span (drop (i + 1) ws) next) (sym (ap (option_map (λ n. i + n)) f) ∙ e)
  where
    go : (o : Option ℕ) → option_map (λ n. i + n) (option_map (λ n. suc n) o) ≡ span ws 1 → option_map (λ n. (i + 1) + n) o ≡ span ws 1
    go None g = g
    go (Some x) g = let r : (i + 1) + x ≡ i + suc x = omega arith in ap Some r ∙ g

pub wanting_most : (d : Node) (k : ℕ) → wanting d k ≤ k + 2
wanting_most (LeafNode n) k = omega arith
wanting_most (Label0 n) k = omega arith
wanting_most (Label1 n) k = omega arith
wanting_most (Label2 n) k = omega arith

grown_whole : (d : Node) (ts : List Ty) → parts d ≤ length ts → encode_all (grown d ts) ≡ node_word d ∷ encode_all ts
grown_whole (LeafNode n) ts h = refl
grown_whole (Label0 n) ts h = refl
grown_whole (Label1 n) [] h = absurd (omega arith)
grown_whole (Label1 n) (t ∷ ts) h = refl
grown_whole (Label2 n) [] h = absurd (omega arith)
grown_whole (Label2 n) (t ∷ []) h = absurd (omega arith)
grown_whole (Label2 n) (t ∷ u ∷ ts) h = refl

grown_count : (d : Node) (ts : List Ty) → parts d ≤ length ts → length (grown d ts) + parts d ≡ length ts + 1
grown_count (LeafNode n) ts h = omega arith
grown_count (Label0 n) ts h = omega arith
grown_count (Label1 n) [] h = absurd (omega arith)
grown_count (Label1 n) (t ∷ ts) h = omega arith
grown_count (Label2 n) [] h = absurd (omega arith)
grown_count (Label2 n) (t ∷ []) h = absurd (omega arith)
grown_count (Label2 n) (t ∷ u ∷ ts) h = omega arith

grown_lost : (d : Node) (ts : List Ty) → length ts < parts d → grown d ts ≡ ts
grown_lost (LeafNode n) ts h = absurd (omega arith)
grown_lost (Label0 n) ts h = absurd (omega arith)
grown_lost (Label1 n) [] h = refl
grown_lost (Label1 n) (t ∷ ts) h = absurd (omega arith)
grown_lost (Label2 n) [] h = refl
grown_lost (Label2 n) (t ∷ []) h = refl
grown_lost (Label2 n) (t ∷ u ∷ ts) h = absurd (omega arith)

grown_length : (d : Node) (ts : List Ty) → length (encode_all (grown d ts)) ≤ suc (length (encode_all ts))
grown_length (LeafNode n) ts = omega arith
grown_length (Label0 n) ts = omega arith
grown_length (Label1 n) [] = omega arith
grown_length (Label1 n) (t ∷ ts) = omega arith
grown_length (Label2 n) [] = omega arith
grown_length (Label2 n) (t ∷ []) = omega arith
grown_length (Label2 n) (t ∷ u ∷ ts) = omega arith

with_some : (d : Node) (k n : ℕ) → types_with d k ≡ Some n → (parts d ≤ k) × (n + parts d ≡ k + 1)
with_some (LeafNode l) k n e = grind (arith, nat_tests)
with_some (Label0 l) k n e = grind (arith, nat_tests)
with_some (Label1 l) k n e = grind (arith, nat_tests)
with_some (Label2 l) k n e = grind (arith, nat_tests)

with_none : (d : Node) (k : ℕ) → types_with d k ≡ None → k < parts d
with_none (LeafNode l) k e = grind (arith, nat_tests)
with_none (Label0 l) k e = grind (arith, nat_tests)
with_none (Label1 l) k e = grind (arith, nat_tests)
with_none (Label2 l) k e = grind (arith, nat_tests)

-- the words from i on are whole types, so many of them
abbrev pub WholeFrom : List ℕ → ℕ → ℕ → Type 0
WholeFrom ws i count = (encode_all (types (drop i ws)) ≡ drop i ws) × (count ≡ length (types (drop i ws))) × (count + i ≤ length ws)

pub whole_start : (ws : List ℕ) → WholeFrom ws (length ws) 0
whole_start ws =
    let e = drop_all (length ws) ws (omega arith) in
    ((cc), (cc), omega arith)

pub whole_more : (ws : List ℕ) (i count next : ℕ) (d : Node) → WholeFrom ws (i + 1) count → i < length ws → get_or ws i 0 < 4294967296 →
    d ≡ node (get_or ws i 0) → types_with d count ≡ Some next → WholeFrom ws i next
whole_more ws i count next d (e, c, b) h w is told =
    let (p, n) = with_some d count next told in
    let m = drop_more ws i 0 h in
    let q = node_word_node (get_or ws i 0) w in
    let ts = types (drop (i + 1) ws) in
    let f : types (drop i ws) ≡ grown d ts = cc in
    let g = grown_whole d ts (omega arith) in
    let r = grown_count d ts (omega arith) in
    let l = ap (λ (us : List Ty). length us) f in
    ((cc), omega arith, omega arith)

prefix_length : (xs ys : List ℕ) → length (encode_all (types (xs ++ ys))) ≤ length xs + length (encode_all (types ys))
prefix_length [] ys = omega arith
prefix_length (x ∷ xs) ys = let g = grown_length (node x) (types (xs ++ ys)) in let h = prefix_length xs ys in omega arith

short_no_whole : (ws : List ℕ) → length (encode_all (types ws)) < length ws → (b : Bool) → whole ws ≡ b → b ≡ false
short_no_whole ws h true e = absurd (let f = ap (λ (xs : List ℕ). length xs) (whole_is ws e) in omega arith)
short_no_whole ws h false e = refl

pub whole_lacks : (ws : List ℕ) (i count : ℕ) (d : Node) → WholeFrom ws (i + 1) count → i < length ws → d ≡ node (get_or ws i 0) → types_with d count ≡ None → false ≡ whole ws
whole_lacks ws i count d (e, c, _) h is told =
    let p = with_none d count told in
    let m = drop_more ws i 0 h in
    let ts = types (drop (i + 1) ws) in
    let f : types (drop i ws) ≡ grown d ts = cc in
    let g = grown_lost d ts (omega arith) in
    let l : length (encode_all (types (drop i ws))) ≡ length (drop (i + 1) ws) = ap (λ (us : List Ty). length (encode_all us)) (f ∙ g) ∙ ap (λ (xs : List ℕ). length xs) e in
    let k = length-drop (i + 1) ws in
    let a = prefix_length (take i ws) (drop i ws) in
    let b = ap (λ (xs : List ℕ). length (encode_all (types xs))) (take-append-drop i ws) in
    let t = length-take-le i ws (omega arith) in
    sym (short_no_whole ws (omega arith) (whole ws) refl)

-- the same of the last k words, where a loop goes from the back
abbrev pub WholeBack : List ℕ → ℕ → ℕ → Type 0
WholeBack ws k count = (k ≤ length ws) × WholeFrom ws (length ws - k) count

-- the word that a loop from the back reads
abbrev pub ReadBack : List ℕ → ℕ → ℕ → Type 0
ReadBack ws k w = (k < length (reverse ws)) × (w ≡ get_or (reverse ws) k w)

read_back : (ws : List ℕ) (k w : ℕ) → ReadBack ws k w → (k < length ws) × (w ≡ get_or ws (length ws - (k + 1)) 0)
read_back ws k w (h, e) =
    let l : k < length ws = omega (arith, length-reverse ws) in
    let g = get_or-reverse ws k w l in
    let i : length ws - 1 - k ≡ length ws - (k + 1) = omega arith in
    (l, e ∙ g ∙ ap (λ (j : ℕ). get_or ws j w) i ∙ get_or_default ws (length ws - (k + 1)) w 0 (omega arith))

pub whole_back : (ws : List ℕ) (k count next w : ℕ) → ((i : ℕ) → get_or ws i 0 < 4294967296) → WholeBack ws k count → ReadBack ws k w → types_with (node w) count ≡ Some next → WholeBack ws (k + 1) next
whole_back ws k count next w fits p r told =
    let (l, e) = read_back ws k w r in
    let i : length ws - k ≡ (length ws - (k + 1)) + 1 = omega arith in
    (omega arith, whole_more ws (length ws - (k + 1)) count next (node w) (subst (λ (j : ℕ). WholeFrom ws j count) i p.1) (omega arith) (fits _) (ap node e) told)

pub lacks_back : (ws : List ℕ) (k count w : ℕ) → WholeBack ws k count → ReadBack ws k w → types_with (node w) count ≡ None → false ≡ whole ws
lacks_back ws k count w p r told =
    let (l, e) = read_back ws k w r in
    let i : length ws - k ≡ (length ws - (k + 1)) + 1 = omega arith in
    whole_lacks ws (length ws - (k + 1)) count (node w) (subst (λ (j : ℕ). WholeFrom ws j count) i p.1) (omega arith) (ap node e) told

pub whole_end : (ws : List ℕ) (k count : ℕ) → WholeBack ws k count → k ≡ length (reverse ws) → true ≡ whole ws
whole_end ws k count (_, (e, _, _)) l =
    let z : length ws - k ≡ 0 = omega (arith, length-reverse ws) in
    sym (is_whole ws (subst (λ (j : ℕ). encode_all (types (drop j ws)) ≡ drop j ws) z e))
