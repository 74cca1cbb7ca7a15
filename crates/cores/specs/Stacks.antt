-- Layers: their words and lines by numbers, and that they keep the laws where the core below does.
use Rattle.std.specs.Prelude.{◌≡◌, ℕ, suc, ◌+◌, ◌-◌, ◌<◌, ◌≤◌, Bool, true, false, cond, ltb, List, [], ◌∷◌, ◌++◌, map, length, Some, None, Ok, Err, Option, Result, ◌==◌, nat_eq, nat_le, nat_lt, refl}
use Rattle.std.proofs.Common.{sym, ap, ◌∙◌, arith, add-zero, add-suc, length-append}
use Rattle.std.proofs.lemmas.Bool.{false≢true}
use Rattle.std.proofs.lemmas.Bool.Decides.{nat_tests}
use Rattle.std.proofs.lemmas.List.{length-map}
use Rattle.std.specs.Option.{option_map}
use Rattle.std.specs.Str.{bytes_eq}
use Rattle.types.specs.Types.{Name, Ty, replace_opaque}
use Rattle.types.specs.Words.{whole, types}
use Rattle.cores.specs.Meaning.{Word, ProperWords, lookup_from, lookup, name_if_label, label_name_from, label_name, Outcome, gives, refuses, Stable}
use Rattle.cores.specs.Answers.{verdict, put, reply, leaves}
use Rattle.cores.specs.Lines.{Pattern, τ, ρ, plain, one, two, Line, Entry, label, operator, word, line_from, judge, blame, Closed, Within, AllWithin, Inside, OnLine, OnEntries}
use Rattle.cores.specs.Steps.{Items, itemized, line_reply, line_leaves}
use Rattle.cores.specs.Layers.{own_cause, own, layer_words, layer_rule}
use Rattle.cores.specs.declared.interface.Found.{Found}
use Rattle.cores.specs.declared.interface.Operation.{Operation}
use Rattle.cores.specs.declared.interface.Operation.TheVariants.{Literal, Function, Operator}
use Rattle.cores.specs.declared.interface.Refusal.{Refusal}
use Rattle.cores.specs.declared.interface.Refusal.TheVariants.{Size, Arguments, Short}
use Rattle.cores.specs.declared.layers.LayerCause.{LayerCause}
use Rattle.cores.specs.declared.layers.LayerCause.TheVariants.{Own, Below}
use Rattle.cores.specs.declared.lines.Position.{Position}
use Rattle.cores.specs.Rules.{line_from_on, judge_stable, blame_gives, gives_blame, replace_more, map_same}
use Rattle.cores.specs.Judging.{line_reply_lem, line_leaves_lem}

-- a layer has its words, or none
pub own_room : (es : List Entry) (n : ℕ) → nat_le (n + length es) 1073741824 ≡ true → own es n ≡ es
own_room es n e = ap (λ (c : Bool). cond c es []) e

pub own_none : (es : List Entry) (n : ℕ) → nat_le (n + length es) 1073741824 ≡ false → own es n ≡ []
own_none es n e = ap (λ (c : Bool). cond c es []) e

own_on : (P : Line → Type 0) (es : List Entry) (n : ℕ) → OnEntries P es → OnEntries P (own es n)
own_on P es n h = go (nat_le (n + length es) 1073741824)
  where
    go : (c : Bool) → OnEntries P (cond c es [])
    go true = h
    go false = tt

pub count_room : (es : List Entry) (ws : List Word) → nat_le (length ws + length es) 1073741824 ≡ true → length ws + length es ≡ length (layer_words es ws)
count_room es ws e =
    let f = length-append ws (map word (own es (length ws))) in
    let g = length-map (own es (length ws)) word in
    let h = ap (λ (xs : List Entry). length xs) (own_room es (length ws) e) in
    omega arith

pub count_none : (es : List Entry) (ws : List Word) → nat_le (length ws + length es) 1073741824 ≡ false → length ws ≡ length (layer_words es ws)
count_none es ws e =
    let f = length-append ws (map word (own es (length ws))) in
    let g = length-map (own es (length ws)) word in
    let h = ap (λ (xs : List Entry). length xs) (own_none es (length ws) e) in
    omega arith

-- the first of two finds
abbrev pub or_else : {A : Type 0} → Option A → Option A → Option A
or_else None o = o
or_else (Some x) o = Some x

or_cond : {A : Type 0} (c : Bool) (x : A) (p q : Option A) → cond c (Some x) (or_else p q) ≡ or_else (cond c (Some x) p) q
or_cond true x p q = refl
or_cond false x p q = refl

lookup_append : (k : ℕ) (xs ys : List Word) (x : Name) → lookup_from k (xs ++ ys) x ≡ or_else (lookup_from k xs x) (lookup_from (k + length xs) ys x)
lookup_append k [] ys x = ap (λ (n : ℕ). lookup_from n ys x) (sym (add-zero k))
lookup_append k (w ∷ xs) ys x =
    let e : suc k + length xs ≡ k + suc (length xs) = omega arith in
    ap (λ (o : Option Found). cond (bytes_eq x w.name) (Some (record { number = k; kind = w.kind })) o)
    (lookup_append (suc k) xs ys x ∙ ap (λ (n : ℕ). or_else (lookup_from (suc k) xs x) (lookup_from n ys x)) e)
    ∙ or_cond (bytes_eq x w.name) (record { number = k; kind = w.kind }) (lookup_from (suc k) xs x) (lookup_from (k + suc (length xs)) ys x)

-- a find of the layer's own, among all words
abbrev pub raised : ℕ → Found → Found
raised b f = record { number = b + f.number; kind = f.kind }

lookup_raised : (b j : ℕ) (ws : List Word) (x : Name) → lookup_from (b + j) ws x ≡ option_map (raised b) (lookup_from j ws x)
lookup_raised b j [] x = refl
lookup_raised b j (w ∷ ws) x =
    ap (λ (o : Option Found). cond (bytes_eq x w.name) (Some (record { number = b + j; kind = w.kind })) o)
    (ap (λ (n : ℕ). lookup_from n ws x) (sym (add-suc b j)) ∙ lookup_raised b (suc j) ws x)
    ∙ go (bytes_eq x w.name)
  where
    go : (c : Bool) → cond c (Some (record { number = b + j; kind = w.kind })) (option_map (raised b) (lookup_from (suc j) ws x))
        ≡ option_map (raised b) (cond c (Some (record { number = j; kind = w.kind })) (lookup_from (suc j) ws x))
    go true = refl
    go false = refl

lookup_bound : (j : ℕ) (ws : List Word) (x : Name) (f : Found) → lookup_from j ws x ≡ Some f → f.number < j + length ws
lookup_bound j [] x f e = absurd (cc)
lookup_bound j (w ∷ ws) x f e = go (bytes_eq x w.name) e (lookup_bound (suc j) ws x f)
  where
    go : (c : Bool) → cond c (Some (record { number = j; kind = w.kind })) (lookup_from (suc j) ws x) ≡ Some f →
        (lookup_from (suc j) ws x ≡ Some f → f.number < suc j + length ws) → f.number < j + suc (length ws)
    go true q again = let h : record { number = j; kind = w.kind } ≡ f = cc in let i = ap (λ (g : Found). g.number) h in omega arith
    go false q again = let i = again q in omega arith

-- what a stack finds: a word below, or an own one
pub find_below : (es : List Entry) (ws : List Word) (x : Name) (f : Found) → lookup ws x ≡ Some f → Some f ≡ lookup (layer_words es ws) x
find_below es ws x f e =
    sym (lookup_append 0 ws (map word (own es (length ws))) x ∙ ap (λ (o : Option Found). or_else o (lookup_from (0 + length ws) (map word (own es (length ws))) x)) e)

find_above : (es : List Entry) (ws : List Word) (x : Name) → lookup ws x ≡ None → lookup (layer_words es ws) x ≡ lookup_from (length ws + 0) (map word (own es (length ws))) x
find_above es ws x e =
    let f : 0 + length ws ≡ length ws + 0 = omega arith in
    lookup_append 0 ws (map word (own es (length ws))) x
    ∙ ap (λ (o : Option Found). or_else o (lookup_from (0 + length ws) (map word (own es (length ws))) x)) e
    ∙ ap (λ (n : ℕ). lookup_from n (map word (own es (length ws))) x) f

pub find_none : (es : List Entry) (ws : List Word) (x : Name) → lookup ws x ≡ None → nat_le (length ws + length es) 1073741824 ≡ false → None ≡ lookup (layer_words es ws) x
find_none es ws x e r = sym (find_above es ws x e ∙ ap (λ (fs : List Entry). lookup_from (length ws + 0) (map word fs) x) (own_none es (length ws) r))

pub find_own : (es : List Entry) (ws : List Word) (x : Name) → lookup ws x ≡ None → nat_le (length ws + length es) 1073741824 ≡ true →
    option_map (raised (length ws)) (lookup (map word es) x) ≡ lookup (layer_words es ws) x
find_own es ws x e r =
    sym (find_above es ws x e ∙ ap (λ (fs : List Entry). lookup_from (length ws + 0) (map word fs) x) (own_room es (length ws) r) ∙ lookup_raised (length ws) 0 (map word es) x)

pub own_bound : (es : List Entry) (x : Name) (f : Found) → lookup (map word es) x ≡ Some f → f.number < length es
own_bound es x f e = let h = lookup_bound 0 (map word es) x f e in let l = length-map es word in omega arith

-- labels by number
label_below : (k : ℕ) (xs ys : List Word) (l : ℕ) → k ≤ l → l < k + length xs → label_name_from k (xs ++ ys) l ≡ label_name_from k xs l
label_below k [] ys l h i = absurd (omega arith)
label_below k (w ∷ xs) ys l h i = go (l == k) refl (label_below (suc k) xs ys l)
  where
    go : (c : Bool) → (l == k) ≡ c → (suc k ≤ l → l < suc k + length xs → label_name_from (suc k) (xs ++ ys) l ≡ label_name_from (suc k) xs l) →
        cond c (name_if_label w.name w.kind) (label_name_from (suc k) (xs ++ ys) l) ≡ cond c (name_if_label w.name w.kind) (label_name_from (suc k) xs l)
    go true e again = refl
    go false e again = let n : l ≡ k → ⊥ = λ q. (let z : ◌≡◌ {A = Bool} true false = grind (arith, nat_tests) in false≢true (sym z)) in again (omega arith) (omega arith)

label_above : (k : ℕ) (xs ys : List Word) (l : ℕ) → k + length xs ≤ l → label_name_from k (xs ++ ys) l ≡ label_name_from (k + length xs) ys l
label_above k [] ys l h = ap (λ (n : ℕ). label_name_from n ys l) (sym (add-zero k))
label_above k (w ∷ xs) ys l h =
    let e : nat_eq l k ≡ false = grind (arith, nat_tests) in
    let f : suc k + length xs ≡ k + suc (length xs) = omega arith in
    ap (λ (c : Bool). cond c (name_if_label w.name w.kind) (label_name_from (suc k) (xs ++ ys) l)) e
    ∙ label_above (suc k) xs ys l (omega arith)
    ∙ ap (λ (n : ℕ). label_name_from n ys l) f

label_raised : (b j : ℕ) (ws : List Word) (l : ℕ) → label_name_from (b + j) ws (b + l) ≡ label_name_from j ws l
label_raised b j [] l = refl
label_raised b j (w ∷ ws) l =
    let e : nat_eq (b + l) (b + j) ≡ nat_eq l j = grind (arith, nat_tests) in
    ap (λ (c : Bool). cond c (name_if_label w.name w.kind) (label_name_from (suc (b + j)) ws (b + l))) e
    ∙ ap (λ (o : Option Name). cond (l == j) (name_if_label w.name w.kind) o) (ap (λ (n : ℕ). label_name_from n ws (b + l)) (sym (add-suc b j)) ∙ label_raised b (suc j) ws l)

pub name_below : (es : List Entry) (ws : List Word) (l : ℕ) → l < length ws → label_name ws l ≡ label_name (layer_words es ws) l
name_below es ws l h = sym (label_below 0 ws (map word (own es (length ws))) l (omega arith) (omega arith))

name_above : (es : List Entry) (ws : List Word) (l : ℕ) → length ws ≤ l → label_name (layer_words es ws) l ≡ label_name (map word (own es (length ws))) (l - length ws)
name_above es ws l h =
    let e : 0 + length ws ≡ length ws + 0 = omega arith in
    let f : l ≡ length ws + (l - length ws) = omega arith in
    label_above 0 ws (map word (own es (length ws))) l (omega arith)
    ∙ ap (λ (n : ℕ). label_name_from n (map word (own es (length ws))) l) e
    ∙ ap (λ (n : ℕ). label_name_from (length ws + 0) (map word (own es (length ws))) n) f
    ∙ label_raised (length ws) 0 (map word (own es (length ws))) (l - length ws)

pub name_own : (es : List Entry) (ws : List Word) (l : ℕ) → length ws ≤ l → nat_le (length ws + length es) 1073741824 ≡ true →
    label_name (map word es) (l - length ws) ≡ label_name (layer_words es ws) l
name_own es ws l h r = sym (name_above es ws l h ∙ ap (λ (fs : List Entry). label_name (map word fs) (l - length ws)) (own_room es (length ws) r))

pub name_none : (es : List Entry) (ws : List Word) (l : ℕ) → length ws ≤ l → nat_le (length ws + length es) 1073741824 ≡ false → None ≡ label_name (layer_words es ws) l
name_none es ws l h r = sym (name_above es ws l h ∙ ap (λ (fs : List Entry). label_name (map word fs) (l - length ws)) (own_none es (length ws) r))

-- lines by number
line_raised : (b j : ℕ) (es : List Entry) (n : ℕ) → line_from (b + j) es (b + n) ≡ line_from j es n
line_raised b j [] n = refl
line_raised b j (label x m ∷ es) n = ap (λ (k : ℕ). line_from k es (b + n)) (sym (add-suc b j)) ∙ line_raised b (suc j) es n
line_raised b j (operator x l ∷ es) n =
    let e : nat_eq (b + n) (b + j) ≡ nat_eq n j = grind (arith, nat_tests) in
    ap (λ (c : Bool). cond c (Some l) (line_from (suc (b + j)) es (b + n))) e
    ∙ ap (λ (o : Option Line). cond (n == j) (Some l) o) (ap (λ (k : ℕ). line_from k es (b + n)) (sym (add-suc b j)) ∙ line_raised b (suc j) es n)

pub line_own : (es : List Entry) (b n : ℕ) → b ≤ n → nat_le (b + length es) 1073741824 ≡ true → line_from 0 es (n - b) ≡ line_from b (own es b) n
line_own es b n h r =
    let e : b + 0 ≡ b = omega arith in
    let f : b + (n - b) ≡ n = omega arith in
    sym (line_raised b 0 es (n - b)) ∙ ap (λ (k : ℕ). line_from k es (b + (n - b))) e ∙ ap (line_from b es) f ∙ ap (λ (fs : List Entry). line_from b fs n) (sym (own_room es b r))

pub line_none : (es : List Entry) (b n : ℕ) → nat_le (b + length es) 1073741824 ≡ false → None ≡ line_from b (own es b) n
line_none es b n r = sym (ap (λ (fs : List Entry). line_from b fs n) (own_none es b r))

within_mono : (m n b : ℕ) (p : Pattern) → m ≤ n → Within m b p → Within n b p
within_mono m n b τ h w = tt
within_mono m n b ρ h w = tt
within_mono m n b (plain l) h w = omega arith
within_mono m n b (one l p) h w = (let i = w.0 in omega arith, within_mono m n b p h w.1)
within_mono m n b (two l p q) h w = (let i = w.0 in omega arith, within_mono m n b p h w.1, within_mono m n b q h w.2)

all_mono : (m n b : ℕ) (ps : List Pattern) → m ≤ n → AllWithin m b ps → AllWithin n b ps
all_mono m n b [] h w = tt
all_mono m n b (p ∷ ps) h w = (within_mono m n b p h w.0, all_mono m n b ps h w.1)

entries_mono : (m n b : ℕ) (es : List Entry) → m ≤ n → OnEntries (Inside m b) es → OnEntries (Inside n b) es
entries_mono m n b [] h w = tt
entries_mono m n b (label x k ∷ es) h w = entries_mono m n b es h w
entries_mono m n b (operator x l ∷ es) h w = ((all_mono m n b l.arguments h w.0.0, within_mono m n b l.result h w.0.1), entries_mono m n b es h w.1)

-- own labels are below the count of all words, and have 30 bits
own_inside : (es : List Entry) (b n : ℕ) → OnEntries (Inside (b + length es) b) es → (nat_le (b + length es) 1073741824 ≡ true → b + length es ≤ n) → OnEntries (Inside n b) (own es b)
own_inside es b n h r = go (nat_le (b + length es) 1073741824) r
  where
    go : (c : Bool) → (c ≡ true → b + length es ≤ n) → OnEntries (Inside n b) (cond c es [])
    go true le = entries_mono (b + length es) n b es (le refl) h
    go false le = tt

pub line_fits : (es : List Entry) (b n : ℕ) → OnEntries (Inside (b + length es) b) es → OnLine (Inside 1073741824 b) (line_from b (own es b) n)
line_fits es b n h = line_from_on (Inside 1073741824 b) b (own es b) n (own_inside es b 1073741824 h (λ e. grind (arith, nat_tests)))

-- the laws
pub proper_append : (xs ys : List Word) → ProperWords xs → ProperWords ys → ProperWords (xs ++ ys)
proper_append [] ys p q = q
proper_append (w ∷ xs) ys p q = (p.0, p.1, proper_append xs ys p.2 q)

pub layer_proper : (es : List Entry) (ws : List Word) → ProperWords ws → ProperWords (map word es) → ProperWords (layer_words es ws)
layer_proper es ws p q = proper_append ws (map word (own es (length ws))) p (go (nat_le (length ws + length es) 1073741824))
  where
    go : (c : Bool) → ProperWords (map word (cond c es []))
    go true = q
    go false = tt

pub layer_few : (es : List Entry) (ws : List Word) → length ws ≤ 1073741824 → length (layer_words es ws) ≤ 1073741824
layer_few es ws h = go (nat_le (length ws + length es) 1073741824) refl
  where
    go : (c : Bool) → nat_le (length ws + length es) 1073741824 ≡ c → length (layer_words es ws) ≤ 1073741824
    go true e = let f = count_room es ws e in let g : length ws + length es ≤ 1073741824 = grind (arith, nat_tests) in omega arith
    go false e = let f = count_none es ws e in omega arith

-- a core keeps the law where more words than its own are not opaque
stable_more : {K : Type 0} (m n : ℕ) → m ≤ n → (asked : List Ty → Outcome K) →
    ((θ : Ty → Ty) (ts : List Ty) (t : Ty) → asked ts ≡ gives t → asked (map (replace_opaque m θ) ts) ≡ gives (replace_opaque m θ t)) →
    (θ : Ty → Ty) (ts : List Ty) (t : Ty) → asked ts ≡ gives t → asked (map (replace_opaque n θ) ts) ≡ gives (replace_opaque n θ t)
stable_more m n le asked law θ ts t e =
    ap asked (sym (map_same (replace_opaque m (replace_opaque n θ)) (replace_opaque n θ) (replace_more m n le θ) ts))
    ∙ law (replace_opaque n θ) ts t e
    ∙ ap gives (replace_more m n le θ t)

pub layer_stable : {K : Type 0} (es : List Entry) (ws : List Word) (below : Operation → List Ty → Outcome K) →
    ((b : ℕ) → OnEntries (Closed b) es) → ((b : ℕ) → OnEntries (Inside (b + length es) b) es) →
    Stable (length ws) below → Stable (length (layer_words es ws)) (layer_rule es (length ws) below)
layer_stable {K} es ws below closed inside law θ o ts t e = by o e
  where
    le : length ws ≤ length (layer_words es ws)
    le = let f = length-append ws (map word (own es (length ws))) in omega arith

    under : (o : Operation) → blame Below (below o ts) ≡ gives t →
        blame Below (below o (map (replace_opaque (length (layer_words es ws)) θ) ts)) ≡ gives (replace_opaque (length (layer_words es ws)) θ t)
    under o q =
        gives_blame Below _ _
        (stable_more (length ws) (length (layer_words es ws)) le (below o) (λ θ ts t. law θ o ts t) θ ts t (blame_gives Below (below o ts) t q))

    above_all : (k : ℕ) → blame {L = LayerCause K} Own (judge (length ws) (line_from (length ws) (own es (length ws)) k) ts) ≡ gives t →
        blame {L = LayerCause K} Own (judge (length ws) (line_from (length ws) (own es (length ws)) k) (map (replace_opaque (length (layer_words es ws)) θ) ts))
        ≡ gives (replace_opaque (length (layer_words es ws)) θ t)
    above_all k q =
        gives_blame Own _ _
        (judge_stable (length (layer_words es ws)) (length ws) (line_from (length ws) (own es (length ws)) k)
        (line_from_on (Closed (length ws)) (length ws) (own es (length ws)) k (own_on (Closed (length ws)) es (length ws) (closed (length ws))))
        (line_from_on (Inside (length (layer_words es ws)) (length ws)) (length ws) (own es (length ws)) k
        (own_inside es (length ws) (length (layer_words es ws)) (inside (length ws)) (λ r. let f = count_room es ws r in omega arith)))
        θ ts t (blame_gives Own _ t q))

    split : (k : ℕ) (c : Bool) →
        cond c (blame Below (below (Operator k) ts)) (blame Own (judge (length ws) (line_from (length ws) (own es (length ws)) k) ts)) ≡ gives t →
        cond c (blame Below (below (Operator k) (map (replace_opaque (length (layer_words es ws)) θ) ts)))
        (blame Own (judge (length ws) (line_from (length ws) (own es (length ws)) k) (map (replace_opaque (length (layer_words es ws)) θ) ts)))
        ≡ gives (replace_opaque (length (layer_words es ws)) θ t)
    split k true q = under (Operator k) q
    split k false q = above_all k q

    by : (o : Operation) → layer_rule es (length ws) below o ts ≡ gives t →
        layer_rule es (length ws) below o (map (replace_opaque (length (layer_words es ws)) θ) ts) ≡ gives (replace_opaque (length (layer_words es ws)) θ t)
    by Literal q = under Literal q
    by Function q = under Function q
    by (Operator k) q = split k (nat_lt k (length ws)) q

-- answers of the layer's own operators
abbrev pub owned : {K : Type 0} → Result ℕ (Refusal Position) → Result ℕ (Refusal (LayerCause K))
owned (Ok n) = Ok n
owned (Err r) = Err (own_cause r)

owned_verdict : {K : Type 0} (w : Bool) (c : Outcome ℕ) (room : ℕ) →
    owned {K = K} (cond w (verdict (blame (λ n. let p : Position = record { number = n } in p) c) room) (Err Arguments)) ≡ cond w (verdict (blame Own c) room) (Err Arguments)
owned_verdict false c room = refl
owned_verdict true (refuses n) room = refl
owned_verdict {K} true (gives t) room = sized (nat_le (Rattle.types.specs.Types.size t) 32) (nat_le (Rattle.types.specs.Types.size t) room)
  where
    sized : (p q : Bool) →
        owned {K = K} (cond p (cond q (Ok (Rattle.types.specs.Types.size t)) (Err Short)) (Err Size)) ≡ cond p (cond q (Ok (Rattle.types.specs.Types.size t)) (Err Short)) (Err Size)
    sized true true = refl
    sized true false = refl
    sized false q = refl

pub own_reply : {K : Type 0} (es : List Entry) (b n : ℕ) (below : Operation → List Ty → Outcome K) (args : List ℕ) (room : ℕ) → b ≤ n →
    OnEntries (Inside (b + length es) b) es →
    owned (line_reply b (option_map (λ l. itemized l) (line_from b (own es b) n)) args room) ≡ reply (layer_rule es b below) (Operator n) args room
own_reply {K} es b n below args room h i =
    let e : ltb n b ≡ false = grind (arith, nat_tests) in
    ap owned (line_reply_lem b (line_from b (own es b) n) args room (line_fits es b n i))
    ∙ owned_verdict {K = K} (whole args) (judge b (line_from b (own es b) n) (types args)) room
    ∙ ap (λ (c : Bool). cond (whole args) (verdict (cond c (blame Below (below (Operator n) (types args))) (blame Own (judge b (line_from b (own es b) n) (types args)))) room) (Err Arguments)) (sym e)

pub own_leaves : {K : Type 0} (es : List Entry) (b n : ℕ) (below : Operation → List Ty → Outcome K) (args out : List ℕ) → b ≤ n →
    OnEntries (Inside (b + length es) b) es →
    line_leaves b (option_map (λ l. itemized l) (line_from b (own es b) n)) args out ≡ leaves (layer_rule es b below) (Operator n) args out
own_leaves {K} es b n below args out h i =
    let e : ltb n b ≡ false = grind (arith, nat_tests) in
    line_leaves_lem {K = LayerCause K} Own b (line_from b (own es b) n) args out (line_fits es b n i)
    ∙ ap (λ (c : Bool). cond (whole args) (put (cond c (blame Below (below (Operator n) (types args))) (blame Own (judge b (line_from b (own es b) n) (types args)))) out) out) (sym e)

-- the same, where the operation and the count below are told by equations
pub own_answer : {K : Type 0} (es : List Entry) (ws : List Word) (below : Operation → List Ty → Outcome K) (b n : ℕ) (o : Operation) (args out : List ℕ) (l : Option Items) →
    ((b : ℕ) → OnEntries (Inside (b + length es) b) es) → b ≡ length ws → b ≤ n → o ≡ Operator n → l ≡ option_map (λ l. itemized l) (line_from b (own es b) n) →
    (owned (line_reply b l args (length out)) ≡ reply (layer_rule es (length ws) below) o args (length out))
    × (line_leaves b l args out ≡ leaves (layer_rule es (length ws) below) o args out)
own_answer es ws below b n o args out l inside e h q f = (
  ap (λ (i : Option Items). owned (line_reply b i args (length out))) f
      ∙ own_reply es b n below args (length out) h (inside b)
      ∙ ap (λ (k : ℕ). reply (layer_rule es k below) (Operator n) args (length out)) e
      ∙ ap (λ (p : Operation). reply (layer_rule es (length ws) below) p args (length out)) (sym q),
  ap (λ (i : Option Items). line_leaves b i args out) f
      ∙ own_leaves es b n below args out h (inside b)
      ∙ ap (λ (k : ℕ). leaves (layer_rule es k below) (Operator n) args out) e
      ∙ ap (λ (p : Operation). leaves (layer_rule es (length ws) below) p args out) (sym q),
)
