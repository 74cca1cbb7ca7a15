-- Comparing words with the items of a line comes to the same as comparing types with the line.
use Rattle.std.specs.Prelude.{◌≡◌, ℕ, suc, ◌+◌, ◌<◌, Bool, true, false, cond, List, [], ◌∷◌, ◌++◌, take, drop, Some, None, Ok, Err, Option, Result, ◌==◌, ◌≢◌, refl}
use Rattle.std.proofs.Common.{sym, ap, subst, ◌∙◌, arith}
use Rattle.std.proofs.lemmas.Bool.Decides.{nat_tests, same_from_decides}
use Rattle.std.proofs.lemmas.Slice.Eq.{bytes_eq-Decides}
use Rattle.std.specs.Option.{option_map}
use Rattle.std.specs.Str.{bytes_eq}
use Rattle.types.specs.Types.{named, numbered, Ty, leaf, label0, label1, label2, size, same}
use Rattle.types.specs.Words.{spell, encode, encode_all, types, whole, Spelled, AllSpelled}
use Rattle.cores.specs.Meaning.{Outcome, gives, refuses}
use Rattle.cores.specs.Answers.{verdict, put}
use Rattle.cores.specs.Lines.{Pattern, τ, ρ, plain, one, two, Line, fill, Known, nothing, settle, after, onward, fit, meets, value, concludes, judge, blame, Within, AllWithin, Inside, OnLine}
use Rattle.cores.specs.Steps.{items_of, argument_items, itemized, placed, Reached, settle_words, bound, or_at, at_argument, at_end, proceed, run, words_of, item_words, result_words, worked, line_verdict, line_put, line_reply, line_leaves}
use Rattle.cores.specs.declared.interface.Refusal.TheVariants.{Arguments}
use Rattle.cores.specs.declared.lines.Position.{Position}
use Rattle.cores.specs.declared.lines.Item.{Item}
use Rattle.cores.specs.declared.lines.Item.TheVariants.{Arg, End, Label, Tau, Rho}
use Rattle.types.proofs.Same.{same_equal, same_self}
use Rattle.cores.specs.Fits.{cond_some, after_some}
use Rattle.types.proofs.Same.{mapped_some}
use Rattle.types.proofs.Spelling.{types_spelled, whole_is, encode_injective, spell_encode, length_encode, span_one, take_spell, drop_spell}

-- a state of the comparison, by the types that are known
abbrev stands : List ℕ → Known → ℕ → Reached
stands ws k q = record { rest = ws; tau = option_map encode k.tau; rho = option_map encode k.rho; position = q }

abbrev SpelledOption : Option Ty → Type 0
SpelledOption None = Unit {0}
SpelledOption (Some t) = Spelled t

abbrev KnownSpelled : Known → Type 0
KnownSpelled k = SpelledOption k.tau × SpelledOption k.rho

same_words : (u t : Ty) → Spelled u → Spelled t → bytes_eq (encode u) (encode t) ≡ same u t
same_words u t p q =
    let d = bytes_eq-Decides (encode u) (encode t) in
    same_from_decides {P = u ≡ t} (bytes_eq (encode u) (encode t)) (same u t)
    ((λ e. encode_injective u t p q (d.0 e)), (λ e. d.1 (ap encode e)))
    (same_equal u t, (λ e. subst (λ (x : Ty). same u x ≡ true) e (same_self u)))

settle_words_lem : (o : Option Ty) (t : Ty) → SpelledOption o → Spelled t → settle_words (option_map encode o) (encode t) ≡ option_map encode (settle o t)
settle_words_lem None t p q = refl
settle_words_lem (Some u) t p q =
    ap (λ (c : Bool). cond c (Some (encode u)) None) (same_words u t p q) ∙ go (same u t)
  where
    go : (c : Bool) → cond c (Some (encode u)) None ≡ option_map encode (cond c (Some u) None)
    go true = refl
    go false = refl

settle_spelled : (o : Option Ty) (t : Ty) → SpelledOption o → Spelled t → SpelledOption (settle o t)
settle_spelled None t p q = q
settle_spelled (Some u) t p q = go (same u t)
  where
    go : (c : Bool) → SpelledOption (cond c (Some u) None)
    go true = p
    go false = tt

bound_words : (o : Option Ty) (t : Ty) (ws : List ℕ) → SpelledOption o → Spelled t →
    bound (option_map encode o) (spell t ws) ≡ option_map {U = List ℕ × List ℕ} (λ u. (encode u, ws)) (settle o t)
bound_words o t ws p q =
    ap (λ (n : Option ℕ). after n (λ n. option_map {U = List ℕ × List ℕ} (λ v. (v, drop n (spell t ws))) (settle_words (option_map encode o) (take n (spell t ws))))) (span_one t q ws)
    ∙ ap (λ (xs : List ℕ). option_map {U = List ℕ × List ℕ} (λ v. (v, drop (size t) (spell t ws))) (settle_words (option_map encode o) xs)) (take_spell t ws)
    ∙ ap (λ (xs : List ℕ). option_map {U = List ℕ × List ℕ} (λ v. (v, xs)) (settle_words (option_map encode o) (encode t))) (drop_spell t ws)
    ∙ ap (option_map {U = List ℕ × List ℕ} (λ v. (v, ws))) (settle_words_lem o t p q)
    ∙ go (settle o t)
  where
    go : (r : Option Ty) → option_map {U = List ℕ × List ℕ} (λ v. (v, ws)) (option_map encode r) ≡ option_map {U = List ℕ × List ℕ} (λ u. (encode u, ws)) r
    go None = refl
    go (Some u) = refl

placed_plain : (b l : ℕ) → b + l < 1073741824 → placed b (1073741824 + l) ≡ 1073741824 + (b + l)
placed_plain b l h = omega arith

placed_one : (b l : ℕ) → b + l < 1073741824 → placed b (2147483648 + l) ≡ 2147483648 + (b + l)
placed_one b l h = omega arith

placed_two : (b l : ℕ) → b + l < 1073741824 → placed b (3221225472 + l) ≡ 3221225472 + (b + l)
placed_two b l h = omega arith

-- a word is the label wanted exactly where the numbers are the same
same_number : (c m n w : ℕ) → w ≡ c + n → (c + m == w) ≡ (m == n)
same_number c m n w e = grind (arith, nat_tests)

other_word : (x w : ℕ) → (x ≢ w) → (x == w) ≡ false
other_word x w h = grind (arith, nat_tests)

fit_spelled : (b : ℕ) (p : Pattern) (t : Ty) (k k' : Known) → Spelled t → KnownSpelled k → fit b p t k ≡ Some k' → KnownSpelled k'
fit_spelled b τ t k k' s ks e =
    let m = mapped_some (λ (x : Ty). let y : Known = record { tau = Some x; rho = k.rho } in y) (settle k.tau t) k' e in
    let g = subst SpelledOption m.1 (settle_spelled k.tau t ks.0 s) in
    subst KnownSpelled m.2 (g, ks.1)
fit_spelled b ρ t k k' s ks e =
    let m = mapped_some (λ (x : Ty). let y : Known = record { tau = k.tau; rho = Some x } in y) (settle k.rho t) k' e in
    let g = subst SpelledOption m.1 (settle_spelled k.rho t ks.1 s) in
    subst KnownSpelled m.2 (ks.0, g)
fit_spelled b (plain l) (leaf x) k k' s ks e = absurd (cc)
fit_spelled b (plain l) (label0 m) k k' s ks e =
    let c = cond_some (m == b + l) (Some k) k' e in
    let w : k ≡ k' = let h = c.1 in cc in
    subst KnownSpelled w ks
fit_spelled b (plain l) (label1 m t) k k' s ks e = absurd (cc)
fit_spelled b (plain l) (label2 m t u) k k' s ks e = absurd (cc)
fit_spelled b (one l p) (leaf x) k k' s ks e = absurd (cc)
fit_spelled b (one l p) (label0 m) k k' s ks e = absurd (cc)
fit_spelled b (one l p) (label1 m t) k k' s ks e =
    let c = cond_some (m == b + l) (fit b p t k) k' e in
    fit_spelled b p t k k' s.1 ks c.1
fit_spelled b (one l p) (label2 m t u) k k' s ks e = absurd (cc)
fit_spelled b (two l p q) (leaf x) k k' s ks e = absurd (cc)
fit_spelled b (two l p q) (label0 m) k k' s ks e = absurd (cc)
fit_spelled b (two l p q) (label1 m t) k k' s ks e = absurd (cc)
fit_spelled b (two l p q) (label2 m t u) k k' s ks e =
    let c = cond_some (m == b + l) (after (fit b p t k) (λ k'. fit b q u k')) k' e in
    let d = after_some (fit b p t k) (λ k'. fit b q u k') k' c.1 in
    fit_spelled b q u d.0 k' s.2 (fit_spelled b p t k d.0 s.1 ks d.1) d.2

-- an item that is a label, before words
label_step : (b w : ℕ) (is : List Item) (x : ℕ) (xs : List ℕ) (k : Known) (q : ℕ) (c : Bool) → (x == placed b w) ≡ c →
    run b (Label w ∷ is) (stands (x ∷ xs) k q) ≡ cond c (run b is (stands xs k q)) (Err q)
label_step b w is x xs k q c e =
    ap
    (λ (d : Bool).
    proceed
    (or_at q (option_map (λ r. let y : Reached = record { rest = r; tau = option_map encode k.tau; rho = option_map encode k.rho; position = q } in y) (cond d (Some xs) None)))
    (λ s'. run b is s'))
    e
    ∙ go c
  where
    go : (d : Bool) →
        proceed
        (or_at q (option_map (λ r. let y : Reached = record { rest = r; tau = option_map encode k.tau; rho = option_map encode k.rho; position = q } in y) (cond d (Some xs) None)))
        (λ s'. run b is s')
        ≡ cond d (run b is (stands xs k q)) (Err q)
    go true = refl
    go false = refl

onward_cond : {A B : Type 0} (q : ℕ) (c : Bool) (o : Option A) (f : A → Result B ℕ) → cond c (onward q o f) (Err q) ≡ onward q (cond c o None) f
onward_cond q true o f = refl
onward_cond q false o f = refl

onward_after : {A B C : Type 0} (q : ℕ) (o : Option A) (g : A → Option B) (f : B → Result C ℕ) (h : A → Result C ℕ) →
    ((x : A) → o ≡ Some x → h x ≡ onward q (g x) f) → onward q o h ≡ onward q (after o g) f
onward_after q None g f h e = refl
onward_after q (Some x) g f h e = e x refl

tau_step : (b : ℕ) (is : List Item) (t : Ty) (ws : List ℕ) (k : Known) (q : ℕ) → Spelled t → KnownSpelled k →
    run b (Tau ∷ is) (stands (spell t ws) k q) ≡ onward q (fit b τ t k) (λ k'. run b is (stands ws k' q))
tau_step b is t ws k q s ks =
    ap
    (λ (o : Option (List ℕ × List ℕ)).
    proceed
    (or_at q (option_map (λ (r : List ℕ × List ℕ). let y : Reached = record { rest = r.1; tau = Some r.0; rho = option_map encode k.rho; position = q } in y) o))
    (λ s'. run b is s'))
    (bound_words k.tau t ws ks.0 s)
    ∙ go (settle k.tau t)
  where
    go : (o : Option Ty) →
        proceed
        (or_at q (option_map (λ (r : List ℕ × List ℕ). let y : Reached = record { rest = r.1; tau = Some r.0; rho = option_map encode k.rho; position = q } in y) (option_map (λ u. (encode u, ws)) o)))
        (λ s'. run b is s')
        ≡ onward q (option_map (λ u. let y : Known = record { tau = Some u; rho = k.rho } in y) o) (λ k'. run b is (stands ws k' q))
    go None = refl
    go (Some u) = refl

rho_step : (b : ℕ) (is : List Item) (t : Ty) (ws : List ℕ) (k : Known) (q : ℕ) → Spelled t → KnownSpelled k →
    run b (Rho ∷ is) (stands (spell t ws) k q) ≡ onward q (fit b ρ t k) (λ k'. run b is (stands ws k' q))
rho_step b is t ws k q s ks =
    ap
    (λ (o : Option (List ℕ × List ℕ)).
    proceed
    (or_at q (option_map (λ (r : List ℕ × List ℕ). let y : Reached = record { rest = r.1; tau = option_map encode k.tau; rho = Some r.0; position = q } in y) o))
    (λ s'. run b is s'))
    (bound_words k.rho t ws ks.1 s)
    ∙ go (settle k.rho t)
  where
    go : (o : Option Ty) →
        proceed
        (or_at q (option_map (λ (r : List ℕ × List ℕ). let y : Reached = record { rest = r.1; tau = option_map encode k.tau; rho = Some r.0; position = q } in y) (option_map (λ u. (encode u, ws)) o)))
        (λ s'. run b is s')
        ≡ onward q (option_map (λ u. let y : Known = record { tau = k.tau; rho = Some u } in y) o) (λ k'. run b is (stands ws k' q))
    go None = refl
    go (Some u) = refl

run_pattern : (b : ℕ) (p : Pattern) (t : Ty) → Within 1073741824 b p → Spelled t → (k : Known) → KnownSpelled k → (is : List Item) (ws : List ℕ) (q : ℕ) →
    run b (items_of p is) (stands (spell t ws) k q) ≡ onward q (fit b p t k) (λ k'. run b is (stands ws k' q))
run_pattern b τ t w s k ks is ws q = tau_step b is t ws k q s ks
run_pattern b ρ t w s k ks is ws q = rho_step b is t ws k q s ks
run_pattern b (plain l) (leaf (named p x)) w s k ks is ws q = absurd s
run_pattern b (plain l) (leaf (numbered n)) w s k ks is ws q =
    let e = placed_plain b l w in label_step b (1073741824 + l) is n ws k q false (other_word n (placed b (1073741824 + l)) (λ f. omega arith))
run_pattern b (plain l) (label0 m) w s k ks is ws q =
    label_step b (1073741824 + l) is (1073741824 + m) ws k q (m == b + l) (same_number 1073741824 m (b + l) (placed b (1073741824 + l)) (placed_plain b l w))
    ∙ onward_cond q (m == b + l) (Some k) (λ k'. run b is (stands ws k' q))
run_pattern b (plain l) (label1 m t) w s k ks is ws q =
    let e = placed_plain b l w in
    let i = s.0 in
    label_step b (1073741824 + l) is (2147483648 + m) (spell t ws) k q false (other_word (2147483648 + m) (placed b (1073741824 + l)) (λ f. omega arith))
run_pattern b (plain l) (label2 m t u) w s k ks is ws q =
    let e = placed_plain b l w in
    let i = s.0 in
    label_step b (1073741824 + l) is (3221225472 + m) (spell t (spell u ws)) k q false (other_word (3221225472 + m) (placed b (1073741824 + l)) (λ f. omega arith))
run_pattern b (one l p) (leaf (named x y)) w s k ks is ws q = absurd s
run_pattern b (one l p) (leaf (numbered n)) w s k ks is ws q =
    let e = placed_one b l w.0 in label_step b (2147483648 + l) (items_of p is) n ws k q false (other_word n (placed b (2147483648 + l)) (λ f. omega arith))
run_pattern b (one l p) (label0 m) w s k ks is ws q =
    let e = placed_one b l w.0 in label_step b (2147483648 + l) (items_of p is) (1073741824 + m) ws k q false (other_word (1073741824 + m) (placed b (2147483648 + l)) (λ f. omega arith))
run_pattern b (one l p) (label1 m t) w s k ks is ws q =
    label_step b (2147483648 + l) (items_of p is) (2147483648 + m) (spell t ws) k q (m == b + l) (same_number 2147483648 m (b + l) (placed b (2147483648 + l)) (placed_one b l w.0))
    ∙ ap (λ (r : Result Reached ℕ). cond (m == b + l) r (Err q)) (run_pattern b p t w.1 s.1 k ks is ws q)
    ∙ onward_cond q (m == b + l) (fit b p t k) (λ k'. run b is (stands ws k' q))
run_pattern b (one l p) (label2 m t u) w s k ks is ws q =
    let e = placed_one b l w.0 in
    let i = s.0 in
    label_step b (2147483648 + l) (items_of p is) (3221225472 + m) (spell t (spell u ws)) k q false (other_word (3221225472 + m) (placed b (2147483648 + l)) (λ f. omega arith))
run_pattern b (two l p r) (leaf (named x y)) w s k ks is ws q = absurd s
run_pattern b (two l p r) (leaf (numbered n)) w s k ks is ws q =
    let e = placed_two b l w.0 in label_step b (3221225472 + l) (items_of p (items_of r is)) n ws k q false (other_word n (placed b (3221225472 + l)) (λ f. omega arith))
run_pattern b (two l p r) (label0 m) w s k ks is ws q =
    let e = placed_two b l w.0 in label_step b (3221225472 + l) (items_of p (items_of r is)) (1073741824 + m) ws k q false (other_word (1073741824 + m) (placed b (3221225472 + l)) (λ f. omega arith))
run_pattern b (two l p r) (label1 m t) w s k ks is ws q =
    let e = placed_two b l w.0 in
    let i = s.0 in
    label_step b (3221225472 + l) (items_of p (items_of r is)) (2147483648 + m) (spell t ws) k q false (other_word (2147483648 + m) (placed b (3221225472 + l)) (λ f. omega arith))
run_pattern b (two l p r) (label2 m t u) w s k ks is ws q =
    label_step b (3221225472 + l) (items_of p (items_of r is)) (3221225472 + m) (spell t (spell u ws)) k q (m == b + l)
    (same_number 3221225472 m (b + l) (placed b (3221225472 + l)) (placed_two b l w.0))
    ∙ ap (λ (x : Result Reached ℕ). cond (m == b + l) x (Err q))
    (run_pattern b p t w.1 s.1 k ks (items_of r is) (spell u ws) q
    ∙ onward_after q (fit b p t k) (λ k'. fit b r u k') (λ k'. run b is (stands ws k' q)) (λ k'. run b (items_of r is) (stands (spell u ws) k' q))
    (λ k' e. run_pattern b r u w.2 s.2 k' (fit_spelled b p t k k' s.1 ks e) is ws q))
    ∙ onward_cond q (m == b + l) (after (fit b p t k) (λ k'. fit b r u k')) (λ k'. run b is (stands ws k' q))

-- a type has a first word
at_argument_lem : (n : ℕ) (t : Ty) (ws : List ℕ) (s : Reached) → at_argument n (spell t ws) s ≡ Ok (record { rest = s.rest; tau = s.tau; rho = s.rho; position = n })
at_argument_lem n (leaf (named p x)) ws s = refl
at_argument_lem n (leaf (numbered m)) ws s = refl
at_argument_lem n (label0 l) ws s = refl
at_argument_lem n (label1 l t) ws s = refl
at_argument_lem n (label2 l t u) ws s = refl

at_end_lem : (n : ℕ) (t : Ty) (ws : List ℕ) (s : Reached) → at_end n (spell t ws) s ≡ Err n
at_end_lem n (leaf (named p x)) ws s = refl
at_end_lem n (leaf (numbered m)) ws s = refl
at_end_lem n (label0 l) ws s = refl
at_end_lem n (label1 l t) ws s = refl
at_end_lem n (label2 l t u) ws s = refl

-- a result depends on the variables alone
item_alike : (b : ℕ) (k : Known) (ws vs : List ℕ) (q r : ℕ) (i : Item) → item_words b (stands ws k q) i ≡ item_words b (stands vs k r) i
item_alike b k ws vs q r (Arg n) = refl
item_alike b k ws vs q r (End n) = refl
item_alike b k ws vs q r (Label w) = refl
item_alike b k ws vs q r Tau = refl
item_alike b k ws vs q r Rho = refl

result_alike : (b : ℕ) (k : Known) (ws vs : List ℕ) (q r : ℕ) (is : List Item) → result_words b (stands ws k q) is ≡ result_words b (stands vs k r) is
result_alike b k ws vs q r [] = refl
result_alike b k ws vs q r (i ∷ is) = let e = item_alike b k ws vs q r i in let f = result_alike b k ws vs q r is in cc

-- what comes of arguments, in words
abbrev spelled_meeting : ℕ → List Item → Result Known ℕ → Result (List ℕ) ℕ
spelled_meeting b res (Ok k) = Ok (result_words b (stands [] k 0) res)
spelled_meeting b res (Err n) = Err n

run_arguments : (b n : ℕ) (ps : List Pattern) (ts : List Ty) → AllWithin 1073741824 b ps → AllSpelled ts → (k : Known) → KnownSpelled k → (q : ℕ) (res : List Item) →
    proceed (run b (argument_items n ps) (stands (encode_all ts) k q)) (λ s. Ok (result_words b s res)) ≡ spelled_meeting b res (meets b n ps ts k)
run_arguments b n [] [] w s k ks q res = ap Ok (result_alike b k [] [] q 0 res)
run_arguments b n [] (t ∷ ts) w s k ks q res =
    ap (λ (r : Result Reached ℕ). proceed (proceed r (λ s'. Ok s')) (λ s. Ok (result_words b s res))) (at_end_lem n t (encode_all ts) (stands (encode_all (t ∷ ts)) k q))
run_arguments b n (p ∷ ps) [] w s k ks q res = refl
run_arguments b n (p ∷ ps) (t ∷ ts) w s k ks q res =
    ap
    (λ (r : Result Reached ℕ). proceed (proceed r (λ s'. run b (items_of p (argument_items (suc n) ps)) s')) (λ s. Ok (result_words b s res)))
    (at_argument_lem n t (encode_all ts) (stands (encode_all (t ∷ ts)) k q))
    ∙ ap (λ (r : Result Reached ℕ). proceed r (λ s. Ok (result_words b s res)))
    (run_pattern b p t w.0 s.0 k ks (argument_items (suc n) ps) (encode_all ts) n)
    ∙ go (fit b p t k) (λ k' e. run_arguments b (suc n) ps ts w.1 s.1 k' (fit_spelled b p t k k' s.0 ks e) n res)
  where
    go : (o : Option Known) →
        ((k' : Known) → o ≡ Some k' → proceed (run b (argument_items (suc n) ps) (stands (encode_all ts) k' n)) (λ s. Ok (result_words b s res)) ≡ spelled_meeting b res (meets b (suc n) ps ts k')) →
        proceed (onward n o (λ k'. run b (argument_items (suc n) ps) (stands (encode_all ts) k' n))) (λ s. Ok (result_words b s res))
        ≡ spelled_meeting b res (onward n o (λ k'. meets b (suc n) ps ts k'))
    go None again = refl
    go (Some k') again = again k' refl

value_words : (o : Option Ty) (ws : List ℕ) → words_of (option_map encode o) ++ ws ≡ spell (value o) ws
value_words None ws = refl
value_words (Some u) ws = sym (spell_encode u ws)

-- the words of a result are those of the type that it is
result_spelled : (b : ℕ) (k : Known) (p : Pattern) → Within 1073741824 b p → (is : List Item) →
    result_words b (stands [] k 0) (items_of p is) ≡ spell (fill b (value k.tau) (value k.rho) p) (result_words b (stands [] k 0) is)
result_spelled b k τ w is = value_words k.tau (result_words b (stands [] k 0) is)
result_spelled b k ρ w is = value_words k.rho (result_words b (stands [] k 0) is)
result_spelled b k (plain l) w is = let e = placed_plain b l w in cc
result_spelled b k (one l p) w is = let e = placed_one b l w.0 in let f = result_spelled b k p w.1 is in cc
result_spelled b k (two l p r) w is =
    let e = placed_two b l w.0 in
    let f = result_spelled b k p w.1 (items_of r is) in
    let g = result_spelled b k r w.2 is in
    cc

abbrev spelled_outcome : Outcome ℕ → Result (List ℕ) ℕ
spelled_outcome (gives t) = Ok (encode t)
spelled_outcome (refuses n) = Err n

worked_judge : (b : ℕ) (o : Option Line) (args : List ℕ) → OnLine (Inside 1073741824 b) o → whole args ≡ true →
    worked b (option_map (λ l. itemized l) o) args ≡ spelled_outcome (judge b o (types args))
worked_judge b None args i w = refl
worked_judge b (Some l) args i w =
    ap (λ (ws : List ℕ). worked b (Some (itemized l)) ws) (sym (whole_is args w))
    ∙ run_arguments b 1 l.arguments (types args) i.0 (types_spelled args) nothing (tt, tt) 1 (items_of l.result [])
    ∙ go (meets b 1 l.arguments (types args) nothing)
  where
    go : (m : Result Known ℕ) → spelled_meeting b (items_of l.result []) m ≡ spelled_outcome (concludes b l.result m)
    go (Ok k) = ap Ok (result_spelled b k l.result i.1 [])
    go (Err n) = refl

verdict_same : (c : Outcome ℕ) (room : ℕ) → line_verdict (spelled_outcome c) room ≡ verdict (blame (λ n. let p : Position = record { number = n } in p) c) room
verdict_same (gives t) room = let e = length_encode t in cc
verdict_same (refuses n) room = refl

put_same : {K : Type 0} (f : ℕ → K) (c : Outcome ℕ) (out : List ℕ) → line_put (spelled_outcome c) out ≡ put (blame f c) out
put_same f (gives t) out = let e = length_encode t in let g = spell_encode t (drop (size t) out) in cc
put_same f (refuses n) out = refl

-- what a line answers in words is what it says of types
pub line_reply_lem : (b : ℕ) (o : Option Line) (args : List ℕ) (room : ℕ) → OnLine (Inside 1073741824 b) o →
    line_reply b (option_map (λ l. itemized l) o) args room
    ≡ cond (whole args) (verdict (blame (λ n. let p : Position = record { number = n } in p) (judge b o (types args))) room) (Err Arguments)
line_reply_lem b o args room i = go (whole args) refl
  where
    go : (c : Bool) → whole args ≡ c → cond c (line_verdict (worked b (option_map (λ l. itemized l) o) args) room) (Err Arguments)
        ≡ cond c (verdict (blame (λ n. let p : Position = record { number = n } in p) (judge b o (types args))) room) (Err Arguments)
    go true e = ap (λ r. line_verdict r room) (worked_judge b o args i e) ∙ verdict_same (judge b o (types args)) room
    go false e = refl

pub line_leaves_lem : {K : Type 0} (f : ℕ → K) (b : ℕ) (o : Option Line) (args out : List ℕ) → OnLine (Inside 1073741824 b) o →
    line_leaves b (option_map (λ l. itemized l) o) args out ≡ cond (whole args) (put (blame f (judge b o (types args))) out) out
line_leaves_lem f b o args out i = go (whole args) refl
  where
    go : (c : Bool) → whole args ≡ c → cond c (line_put (worked b (option_map (λ l. itemized l) o) args) out) out ≡ cond c (put (blame f (judge b o (types args))) out) out
    go true e = ap (λ r. line_put r out) (worked_judge b o args i e) ∙ put_same f (judge b o (types args)) out
    go false e = refl
