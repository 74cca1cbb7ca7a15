-- Encoding and decoding undo one another; what the words of a type say of it.
use Rattle.std.proofs.Common.{◌≡◌, ℕ, zero, suc, ◌+◌, ◌<◌, ◌≤◌, Bool, List, [], ◌∷◌, length, get_or, drop, Some, None, Decides, Option, sym, refl, ap, ◌∙◌, subst, arith}
use Rattle.std.proofs.lemmas.Slice.Eq.{bytes_eq-Decides}
use Rattle.std.specs.Str.{bytes_eq}
use Rattle.types.specs.Types.{numbered, Ty, leaf, label0, label1, label2, size}
use Rattle.types.specs.Words.{node, node_word, node_number, types, spell, encode, encode_all, whole, wanting, span, AllSpelled}
use Rattle.types.specs.Encoding.{Encoding, FirstType, AreTypes, TellsSame}
use Rattle.types.specs.declared.words.Node.{Node}
use Rattle.types.specs.declared.words.Node.TheVariants.{Leaf as LeafNode, Label0, Label1, Label2}
use Rattle.types.proofs.Same.{mapped_some}
use Rattle.types.proofs.Spelling.{node_word_node, node_node_word, node_number_node, types_spelled, types_encode_all, whole_is, is_whole, encode_injective, length_spell, length_encode, span_one}

-- the first type of a run
abbrev spell_all : List Ty → List ℕ → List ℕ
spell_all [] ws = ws
spell_all (t ∷ ts) ws = spell t (spell_all ts ws)

abbrev sizes : List Ty → ℕ
sizes [] = 0
sizes (t ∷ ts) = size t + sizes ts

record Fronts (ws : List ℕ) (k n : ℕ) : Type 0 where
  ts : List Ty
  spelled : AllSpelled ts
  many : length ts ≡ k
  long : n ≡ sizes ts
  whole_run : spell_all ts (drop n ws) ≡ ws

fronts_none : (ws : List ℕ) (n : ℕ) → Some 0 ≡ Some n → Fronts ws 0 n
fronts_none ws n e = let z : 0 ≡ n = cc in record { ts = []; spelled = tt; many = refl; long = sym z; whole_run = sym (ap (λ (m : ℕ). drop m ws) z) }

fronts_more : (w : ℕ) (ws : List ℕ) (k m : ℕ) (d : Node) → node_word d ≡ w → node_number d < 1073741824 → Fronts ws (wanting d k) m → Fronts (w ∷ ws) (suc k) (suc m)
fronts_more w ws k m (LeafNode x) e h f =
    let l = f.long in
    let r = f.whole_run in
    record { ts = leaf (numbered x) ∷ f.ts; spelled = (h, f.spelled); many = ap (λ (j : ℕ). suc j) f.many; long = omega arith; whole_run = cc }
fronts_more w ws k m (Label0 x) e h f =
    let l = f.long in
    let r = f.whole_run in
    record { ts = label0 x ∷ f.ts; spelled = (h, f.spelled); many = ap (λ (j : ℕ). suc j) f.many; long = omega arith; whole_run = cc }
fronts_more w ws k m (Label1 x) e h f = go f.ts f.spelled f.many f.long f.whole_run
  where
    go : (ts : List Ty) → AllSpelled ts → length ts ≡ suc k → m ≡ sizes ts → spell_all ts (drop m ws) ≡ ws → Fronts (w ∷ ws) (suc k) (suc m)
    go [] s c l r = absurd (omega arith)
    go (t ∷ ts) s c l r = record { ts = label1 x t ∷ ts; spelled = ((h, s.0), s.1); many = c; long = omega arith; whole_run = cc }
fronts_more w ws k m (Label2 x) e h f = go f.ts f.spelled f.many f.long f.whole_run
  where
    go : (ts : List Ty) → AllSpelled ts → length ts ≡ suc (suc k) → m ≡ sizes ts → spell_all ts (drop m ws) ≡ ws → Fronts (w ∷ ws) (suc k) (suc m)
    go [] s c l r = absurd (omega arith)
    go (t ∷ []) s c l r = absurd (omega arith)
    go (t ∷ u ∷ ts) s c l r = record { ts = label2 x t u ∷ ts; spelled = ((h, s.0, s.1.0), s.1.1); many = (let i : suc (length ts) ≡ suc k = omega arith in i); long = omega arith; whole_run = cc }

fronts : (ws : List ℕ) → ((i : ℕ) → get_or ws i 0 < 4294967296) → (k n : ℕ) → span ws k ≡ Some n → Fronts ws k n
fronts [] fits zero n e = fronts_none [] n e
fronts [] fits (suc k) n e = absurd (cc)
fronts (w ∷ ws) fits zero n e = fronts_none (w ∷ ws) n e
fronts (w ∷ ws) fits (suc k) n e =
    let m = mapped_some (λ (x : ℕ). suc x) (span ws (wanting (node w) k)) n e in
    let f = fronts ws (λ i. fits (suc i)) (wanting (node w) k) m.0 m.1 in
    subst (λ (j : ℕ). Fronts (w ∷ ws) (suc k) j) m.2 (fronts_more w ws k m.0 (node w) (node_word_node w (fits 0)) (node_number_node w) f)

pub first_type : (ws : List ℕ) → ((i : ℕ) → get_or ws i 0 < 4294967296) → (o : Option ℕ) → o ≡ span ws 1 → FirstType ws o
first_type ws fits None e =
    λ t rest s q.
    let h = span_one t s rest in
    let i = ap (λ (xs : List ℕ). span xs 1) q in
    cc
first_type ws fits (Some n) e = only (fronts ws fits 1 n (sym e))
  where
    pick : (ts : List Ty) → AllSpelled ts → length ts ≡ 1 → n ≡ sizes ts → spell_all ts (drop n ws) ≡ ws → FirstType ws (Some n)
    pick [] s c l r = absurd (omega arith)
    pick (t ∷ []) s c l r = (t, s.0, omega arith, r)
    pick (t ∷ u ∷ ts) s c l r = absurd (omega arith)

    only : Fronts ws 1 n → FirstType ws (Some n)
    only f = pick f.ts f.spelled f.many f.long f.whole_run

-- a first type lies within the run
pub first_within : (ws : List ℕ) (n : ℕ) → FirstType ws (Some n) → n ≤ length ws
first_within ws n (t, _, e, f) = let l = length_spell t (drop n ws) in let g = ap (λ (xs : List ℕ). length xs) f in omega arith

pub are_types : (ws : List ℕ) (r : Bool) → r ≡ whole ws → Decides r (AreTypes ws)
are_types ws r e = (
  (λ t. (types ws, types_spelled ws, whole_is ws (sym e ∙ t))),
  (λ a. e ∙ is_whole ws (subst (λ (xs : List ℕ). encode_all (types xs) ≡ xs) a.2 (ap encode_all (types_encode_all a.0 a.1)))),
)

pub tells_same : (xs ys : List ℕ) (r : Bool) → r ≡ bytes_eq xs ys → TellsSame xs ys r
tells_same xs ys r e t u p q f g =
    let d = bytes_eq-Decides xs ys in
    ((λ h. encode_injective t u p q (f ∙ d.0 (sym e ∙ h) ∙ sym g)), (λ h. e ∙ d.1 (sym f ∙ ap encode h ∙ g)))

pub encoding : Encoding
encoding = record {
  reads = node_word_node;
  writes = node_node_word;
  long = length_encode;
  back = types_encode_all;
  spelled = types_spelled;
  forth = whole_is;
  apart = encode_injective;
  tells = λ xs ys. tells_same xs ys (bytes_eq xs ys) refl;
}
