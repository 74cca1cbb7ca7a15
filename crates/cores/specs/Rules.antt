-- Rules by lines: they give what is written, keep the law, and refuse at the first wrong argument.
use Rattle.std.specs.Prelude.{◌≡◌, ℕ, suc, ◌+◌, ◌≤◌, Bool, true, false, cond, ltb, List, [], ◌∷◌, ◌++◌, map, take, Some, None, Ok, Err, Option, Result, ◌==◌, nat_lt, refl}
use Rattle.std.proofs.Common.{sym, ap, ◌∙◌, inl, inr, arith}
use Rattle.std.proofs.lemmas.Bool.Decides.{Decides-ltb, nat_tests}
use Rattle.types.specs.Types.{Leaf, Ty, leaf, label0, label1, label2, replace, replace_opaque}
use Rattle.cores.specs.Meaning.{Outcome, gives, refuses}
use Rattle.cores.specs.Lines.{Pattern, τ, ρ, plain, one, two, Line, fill, Known, nothing, meets, value, concludes, judge, Entry, label, operator, line_from, blame, Closed, Within, AllWithin, Inside, OnLine, OnEntries}
use Rattle.cores.specs.Laws.{Accepts, FirstWrong}
use Rattle.cores.specs.Fits.{agrees_values, meets_fill, meets_sound}
use Rattle.cores.specs.Refusals.{Wrong, meets_wrong}

pub line_from_on : (P : Line → Type 0) (k : ℕ) (es : List Entry) (n : ℕ) → OnEntries P es → OnLine P (line_from k es n)
line_from_on P k [] n h = tt
line_from_on P k (label x m ∷ es) n h = line_from_on P (suc k) es n h
line_from_on P k (operator x l ∷ es) n h = go (n == k) (line_from_on P (suc k) es n h.1)
  where
    go : (c : Bool) → OnLine P (line_from (suc k) es n) → OnLine P (cond c (Some l) (line_from (suc k) es n))
    go true i = h.0
    go false i = i

refuses_gives : {K P : Type 0} (c : K) (t : Ty) → ◌≡◌ {A = Outcome K} (refuses c) (gives t) → P
refuses_gives c t e = absurd (cc)

pub judge_sound : (b : ℕ) (o : Option Line) (ts : List Ty) (u : Ty) → judge b o ts ≡ gives u → Accepts b o ts u
judge_sound b None ts u e = refuses_gives 1 u e
judge_sound b (Some l) ts u e = go (meets b 1 l.arguments ts nothing) refl e
  where
    go : (m : Result Known ℕ) → meets b 1 l.arguments ts nothing ≡ m → concludes b l.result m ≡ gives u → Accepts b (Some l) ts u
    go (Ok k) f q =
        let s = meets_sound b 1 l.arguments ts nothing k f (value k.tau) (value k.rho) (agrees_values k) in
        (value k.tau, value k.rho, sym s.1, (cc))
    go (Err n) f q = refuses_gives n u q

pub judge_complete : (b : ℕ) (o : Option Line) → OnLine (Closed b) o → (ts : List Ty) (u : Ty) → Accepts b o ts u → judge b o ts ≡ gives u
judge_complete b None c ts u a = absurd a
judge_complete b (Some l) c ts u (t, r, e, f) =
    let g = meets_fill b 1 l.arguments t r nothing (tt, tt) in
    let k = g.0 in
    let s = meets_sound b 1 l.arguments (map (fill b t r) l.arguments) nothing k g.1 (value k.tau) (value k.rho) (agrees_values k) in
    let d = c (value k.tau) (value k.rho) t r s.1 in
    ap (λ (us : List Ty). concludes b l.result (meets b 1 l.arguments us nothing)) e
    ∙ ap (concludes b l.result) g.1
    ∙ ap gives (d ∙ sym f)

-- a replacement of opaque parts goes to what τ and ρ stand for
pub fill_replace : (n : ℕ) (θ : Ty → Ty) (b : ℕ) (t r : Ty) (p : Pattern) → Within n b p →
    replace_opaque n θ (fill b t r p) ≡ fill b (replace_opaque n θ t) (replace_opaque n θ r) p
fill_replace n θ b t r τ w = refl
fill_replace n θ b t r ρ w = refl
fill_replace n θ b t r (plain l) w = let e = (Decides-ltb (b + l) n).1 w in cc
fill_replace n θ b t r (one l p) w = let e = (Decides-ltb (b + l) n).1 w.0 in let h = fill_replace n θ b t r p w.1 in cc
fill_replace n θ b t r (two l p q) w =
    let e = (Decides-ltb (b + l) n).1 w.0 in
    let h = fill_replace n θ b t r p w.1 in
    let i = fill_replace n θ b t r q w.2 in
    cc

all_replace : (n : ℕ) (θ : Ty → Ty) (b : ℕ) (t r : Ty) (ps : List Pattern) → AllWithin n b ps →
    map (replace_opaque n θ) (map (fill b t r) ps) ≡ map (fill b (replace_opaque n θ t) (replace_opaque n θ r)) ps
all_replace n θ b t r [] w = refl
all_replace n θ b t r (p ∷ ps) w = let e = fill_replace n θ b t r p w.0 in let h = all_replace n θ b t r ps w.1 in cc

pub judge_stable : (n b : ℕ) (o : Option Line) → OnLine (Closed b) o → OnLine (Inside n b) o →
    (θ : Ty → Ty) (ts : List Ty) (u : Ty) → judge b o ts ≡ gives u → judge b o (map (replace_opaque n θ) ts) ≡ gives (replace_opaque n θ u)
judge_stable n b None c i θ ts u e = refuses_gives 1 u e
judge_stable n b (Some l) c i θ ts u e =
    let a = judge_sound b (Some l) ts u e in
    judge_complete b (Some l) c (map (replace_opaque n θ) ts) (replace_opaque n θ u) (
      replace_opaque n θ a.0,
      replace_opaque n θ a.1,
      ap (map (replace_opaque n θ)) a.2 ∙ all_replace n θ b a.0 a.1 l.arguments i.0,
      ap (replace_opaque n θ) a.3 ∙ fill_replace n θ b a.0 a.1 l.result i.1,
    )

-- only the cause is told in another way
pub blame_gives : {K L : Type 0} (f : K → L) (o : Outcome K) (t : Ty) → blame f o ≡ gives t → o ≡ gives t
blame_gives f (gives u) t e = cc
blame_gives f (refuses c) t e = refuses_gives (f c) t e

pub gives_blame : {K L : Type 0} (f : K → L) (o : Outcome K) (t : Ty) → o ≡ gives t → blame f o ≡ gives t
gives_blame f o t e = cc

pub blame_refuses : {K L : Type 0} (f : K → L) (o : Outcome K) (d : L) → blame f o ≡ refuses d → (c : K) × (o ≡ refuses c) × (f c ≡ d)
blame_refuses f (gives u) d e = refuses_gives d u (sym e)
blame_refuses f (refuses c) d e = (c, refl, (cc))

judge_met : (b : ℕ) (l : Line) (ts : List Ty) (u : Ty) → judge b (Some l) ts ≡ gives u → (k : Known) × (meets b 1 l.arguments ts nothing ≡ Ok k)
judge_met b l ts u e = go (meets b 1 l.arguments ts nothing) refl e
  where
    go : (m : Result Known ℕ) → meets b 1 l.arguments ts nothing ≡ m → concludes b l.result m ≡ gives u → (k : Known) × (meets b 1 l.arguments ts nothing ≡ Ok k)
    go (Ok k) f q = (k, f)
    go (Err n) f q = refuses_gives n u q

judge_wrong : (b : ℕ) (l : Line) (ts : List Ty) (n : ℕ) → judge b (Some l) ts ≡ refuses n → Wrong b 1 l.arguments ts nothing n
judge_wrong b l ts n e = go (meets b 1 l.arguments ts nothing) refl e
  where
    go : (m : Result Known ℕ) → meets b 1 l.arguments ts nothing ≡ m → concludes b l.result m ≡ refuses n → Wrong b 1 l.arguments ts nothing n
    go (Ok k) f q = refuses_gives n (fill b (value k.tau) (value k.rho) l.result) (sym q)
    go (Err m) f q = meets_wrong b 1 l.arguments ts nothing n (f ∙ (let h : m ≡ n = cc in ap Err h))

pub first_wrong : {K : Type 0} (f : ℕ → K) (b : ℕ) (o : Option Line) (asked : List Ty → Outcome K) →
    ((ts : List Ty) → asked ts ≡ blame f (judge b o ts)) → (ts : List Ty) (c : K) → asked ts ≡ refuses c →
    (n : ℕ) × (f n ≡ c) × FirstWrong asked ts n
first_wrong f b None asked is ts c e = (
  1,
  (let h : ◌≡◌ {A = Outcome _} (refuses (f 1)) (refuses c) = sym (is ts) ∙ e in cc),
  record {
    fine = 0;
    next = refl;
    within = omega arith;
    before = inr (refl, λ us t q. refuses_gives (f 1) t (sym (is us) ∙ q));
    at = λ _ g. refuses_gives (f 1) g.1 (sym (is _) ∙ g.2);
  },
)
first_wrong f b (Some l) asked is ts c e =
    let d = blame_refuses f (judge b (Some l) ts) c (sym (is ts) ∙ e) in
    let w = judge_wrong b l ts d.0 d.1 in
    let h = w.next in (
      d.0,
      d.2,
      record {
        fine = w.fine;
        next = omega arith;
        within = w.within;
        before =
            inl
            (let g = w.before in (
              g.0,
              fill b (value g.1.tau) (value g.1.rho) l.result,
              is (take w.fine ts ++ g.0) ∙ ap (λ m. blame f (concludes b l.result m)) g.2,
            ));
        at =
            λ lt g.
            let m = judge_met b l (take (suc w.fine) ts ++ g.0) g.1 (blame_gives f _ g.1 (sym (is _) ∙ g.2)) in
            w.at lt (g.0, m.0, m.1);
      },
    )

-- replacing the parts that are opaque to more words is a way of replacing those that are opaque to fewer
pub replace_more : (m n : ℕ) → m ≤ n → (θ : Ty → Ty) (t : Ty) → replace_opaque m (replace_opaque n θ) t ≡ replace_opaque n θ t
replace_more m n le θ (leaf x) = refl
replace_more m n le θ (label0 l) = go (nat_lt l m) refl
  where
    go : (c : Bool) → nat_lt l m ≡ c → cond c (label0 l) (replace_opaque n θ (label0 l)) ≡ replace_opaque n θ (label0 l)
    go true e = let h : ltb l n ≡ true = grind (arith, nat_tests) in cc
    go false e = refl
replace_more m n le θ (label1 l t) = go (nat_lt l m) refl (replace_more m n le θ t)
  where
    go : (c : Bool) → nat_lt l m ≡ c → replace_opaque m (replace_opaque n θ) t ≡ replace_opaque n θ t →
        cond c (label1 l (replace_opaque m (replace_opaque n θ) t)) (replace_opaque n θ (label1 l t)) ≡ replace_opaque n θ (label1 l t)
    go true e i = let h : ltb l n ≡ true = grind (arith, nat_tests) in cc
    go false e i = refl
replace_more m n le θ (label2 l t u) = go (nat_lt l m) refl (replace_more m n le θ t) (replace_more m n le θ u)
  where
    go : (c : Bool) → nat_lt l m ≡ c → replace_opaque m (replace_opaque n θ) t ≡ replace_opaque n θ t →
        replace_opaque m (replace_opaque n θ) u ≡ replace_opaque n θ u →
        cond c (label2 l (replace_opaque m (replace_opaque n θ) t) (replace_opaque m (replace_opaque n θ) u)) (replace_opaque n θ (label2 l t u))
        ≡ replace_opaque n θ (label2 l t u)
    go true e i j = let h : ltb l n ≡ true = grind (arith, nat_tests) in cc
    go false e i j = refl

-- replacing paths is a way of replacing opaque parts
pub replace_paths : (n : ℕ) (θ : Leaf → Ty) (t : Ty) → replace_opaque n (replace θ) t ≡ replace θ t
replace_paths n θ (leaf x) = refl
replace_paths n θ (label0 l) = go (nat_lt l n)
  where
    go : (c : Bool) → cond c (label0 l) (label0 l) ≡ label0 l
    go true = refl
    go false = refl
replace_paths n θ (label1 l t) = go (nat_lt l n) (replace_paths n θ t)
  where
    go : (c : Bool) → replace_opaque n (replace θ) t ≡ replace θ t → cond c (label1 l (replace_opaque n (replace θ) t)) (label1 l (replace θ t)) ≡ label1 l (replace θ t)
    go true i = cc
    go false i = refl
replace_paths n θ (label2 l t u) = go (nat_lt l n) (replace_paths n θ t) (replace_paths n θ u)
  where
    go : (c : Bool) → replace_opaque n (replace θ) t ≡ replace θ t → replace_opaque n (replace θ) u ≡ replace θ u →
        cond c (label2 l (replace_opaque n (replace θ) t) (replace_opaque n (replace θ) u)) (label2 l (replace θ t) (replace θ u)) ≡ label2 l (replace θ t) (replace θ u)
    go true i j = cc
    go false i j = refl

pub map_same : {A B : Type 0} (f g : A → B) → ((x : A) → f x ≡ g x) → (xs : List A) → map f xs ≡ map g xs
map_same f g e [] = refl
map_same f g e (x ∷ xs) = let h = e x in let i = map_same f g e xs in cc
