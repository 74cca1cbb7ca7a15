-- The laws of the shipped cores, of layers and of the encoding.
use Rattle.std.proofs.Common.{◌≡◌, ℕ, zero, suc, ◌+◌, ◌<◌, Bool, true, false, cond, not, ◌&&◌, ◌||◌, eqb, ltb, leb, ◌⊎◌, ◌↔◌, List, [], ◌∷◌, ◌++◌, length, get_or, take, Some, None, Option, sym, refl, ap, ◌∙◌, subst, inl, inr, arith}
use mathlib.Core.Bool.{false≢true}
use Rattle.std.proofs.lemmas.Bool.Decides.{nat_tests}
use Rattle.std.proofs.lemmas.Slice.Eq.{bytes_eq-Decides}
use Rattle.std.specs.Str.{bytes_eq}
use Rattle.types.specs.Types.{Name, numbered, Ty, leaf, label0, label2, replace, replace_opaque}
use Rattle.cores.specs.Meaning.{Word, Absent, Distinct, lookup_from, Outcome, gives, refuses, Stable, StablePaths}
use Rattle.cores.specs.Lines.{Line, Entry, line_from, judge, blame, Closed, OnLine, OnEntries}
use Rattle.cores.specs.MiniMl.{ml_line, ml_rule, ml_words}
use Rattle.cores.specs.MiniC.{c_line, c_rule, c_words, pointer_at}
use Rattle.cores.specs.Layers.{own, layer_rule, layer_words}
use Rattle.cores.specs.Pairs.{pair_entries}
use Rattle.cores.specs.Wrong.{WrongBreaksLaw}
use Rattle.cores.specs.Laws.{AsWritten, GoesOn, TakesNone, FirstWrong, FirstRefused, cause_position, OwnAsWritten, BelowKept, OwnFirstRefused, FirstRefusedAbove, MarkSaysPtr, ShippedDistinct, FindsEach, FindsNoOther}
use Rattle.cores.specs.declared.interface.Found.{Found}
use Rattle.cores.specs.declared.interface.Operation.{Operation}
use Rattle.cores.specs.declared.interface.Operation.TheVariants.{Literal, Function, Operator}
use Rattle.cores.specs.declared.layers.LayerCause.{LayerCause}
use Rattle.cores.specs.declared.layers.LayerCause.TheVariants.{Own, Below}
use Rattle.cores.specs.declared.lines.Position.{Position}
use Rattle.cores.specs.declared.mini_c.CCause.{CCause}
use Rattle.types.proofs.Same.{both, eqb_equal}
use Rattle.cores.specs.Rules.{judge_sound, judge_complete, blame_gives, gives_blame, blame_refuses, first_wrong, replace_paths, map_same, line_from_on}
use Rattle.cores.specs.Shipped.{ml_closed, c_closed}

pub stable_paths : {K : Type 0} (n : ℕ) (rule : Operation → List Ty → Outcome K) → Stable n rule → StablePaths rule
stable_paths n rule law θ o ts t e =
    ap (rule o) (sym (map_same (replace_opaque n (replace θ)) (replace θ) (replace_paths n θ) ts))
    ∙ law (replace θ) o ts t e
    ∙ ap gives (replace_paths n θ t)

-- a rule that is a core's lines with its own way to tell a position
module _ {K : Type 0} (b : ℕ) (line : Operation → Option Line) (told : Operation → ℕ → K) (closed : (o : Operation) → OnLine (Closed b) (line o)) where
  as_written : AsWritten b line (λ o ts. blame (told o) (judge b (line o) ts))
  as_written o ts t = (
    (λ e. judge_sound b (line o) ts t (blame_gives (told o) (judge b (line o) ts) t e)),
    (λ a. gives_blame (told o) (judge b (line o) ts) t (judge_complete b (line o) (closed o) ts t a)),
  )

  first_refused : (position : K → ℕ) → ((o : Operation) (n : ℕ) → position (told o n) ≡ n) → FirstRefused position (λ o ts. blame (told o) (judge b (line o) ts))
  first_refused position is o ts c e =
      let f = first_wrong (told o) b (line o) (λ ts. blame (told o) (judge b (line o) ts)) (λ ts. refl) ts c e in
      let g : f.0 ≡ position c = sym (is o f.0) ∙ ap position f.1 in
      subst (λ (n : ℕ). FirstWrong (λ ts. blame (told o) (judge b (line o) ts)) ts n) g f.2

pub ml_written : AsWritten 0 ml_line ml_rule
ml_written = as_written 0 ml_line (λ o n. record { number = n }) ml_closed

pub ml_first : FirstRefused (λ c. c.number) ml_rule
ml_first = first_refused 0 ml_line (λ o n. record { number = n }) ml_closed (λ (c : Position). c.number) (λ o n. refl)

pub c_written : AsWritten 0 c_line c_rule
c_written = as_written 0 c_line (λ o n. record { position = n; pointer = pointer_at (c_line o) n }) c_closed

pub c_first : FirstRefused (λ c. c.position) c_rule
c_first = first_refused 0 c_line (λ o n. record { position = n; pointer = pointer_at (c_line o) n }) c_closed (λ (c : CCause). c.position) (λ o n. refl)

-- where mini-C's lines write `ptr`
pointer_test : (m n : ℕ) → pointer_at (c_line (Operator m)) n ≡ (eqb n 1 && (eqb m 6 || eqb m 7))
pointer_test m n = grind (arith, nat_tests)

no_pointer : (n : ℕ) → pointer_at (c_line Function) n ≡ false
no_pointer n = grind (arith, nat_tests)

pointer_where : (o : Operation) (n : ℕ) → pointer_at (c_line o) n ≡ true ↔ ((n ≡ 1) × ((o ≡ Operator 6) ⊎ (o ≡ Operator 7)))
pointer_where Literal n =
    ((λ e. absurd (false≢true e)), (λ h. elim h.1 [ inl e ↦ absurd (cc) | inr e ↦ absurd (cc) ]))
pointer_where Function n = (
  (λ e. absurd (false≢true (sym (no_pointer n) ∙ e))),
  (λ h. elim h.1 [ inl e ↦ absurd (cc) | inr e ↦ absurd (cc) ]),
)
pointer_where (Operator m) n = ((λ e. forth (sym (pointer_test m n) ∙ e)), (λ h. pointer_test m n ∙ back h.0 h.1))
  where
    which : (v : Bool) → eqb m 6 ≡ v → (v || eqb m 7) ≡ true → (Operator m ≡ Operator 6) ⊎ (Operator m ≡ Operator 7)
    which true t e = inl (ap Operator (eqb_equal m 6 t))
    which false t e = inr (ap Operator (eqb_equal m 7 e))

    forth : (eqb n 1 && (eqb m 6 || eqb m 7)) ≡ true → (n ≡ 1) × ((Operator m ≡ Operator 6) ⊎ (Operator m ≡ Operator 7))
    forth e =
        let h = both (eqb n 1) (eqb m 6 || eqb m 7) e in
        (eqb_equal n 1 h.0, which (eqb m 6) refl h.1)

    back : n ≡ 1 → (Operator m ≡ Operator 6) ⊎ (Operator m ≡ Operator 7) → (eqb n 1 && (eqb m 6 || eqb m 7)) ≡ true
    back e (inl f) = let g : m ≡ 6 = cc in grind (arith, nat_tests)
    back e (inr f) = let g : m ≡ 7 = cc in grind (arith, nat_tests)

pub mark_says_ptr : MarkSaysPtr
mark_says_ptr o ts c e =
    let d = blame_refuses (λ n. let p : CCause = record { position = n; pointer = pointer_at (c_line o) n } in p) (judge 0 (c_line o) ts) c e in
    let f : c.pointer ≡ pointer_at (c_line o) c.position = subst (λ (x : CCause). x.pointer ≡ pointer_at (c_line o) x.position) d.2 refl in
    let w = pointer_where o c.position in
    (f, ((λ p. w.0 (sym f ∙ p)), (λ q. f ∙ w.1 q)))

-- layers
module _ {K : Type 0} (es : List Entry) (b : ℕ) (below : Operation → List Ty → Outcome K) where
  own_rule : (n : ℕ) → ltb n b ≡ false → (ts : List Ty) → layer_rule es b below (Operator n) ts ≡ blame Own (judge b (line_from b (own es b) n) ts)
  own_rule n e ts = ap (λ (c : Bool). cond c (blame Below (below (Operator n) ts)) (blame Own (judge b (line_from b (own es b) n) ts))) e

  below_rule : (n : ℕ) → ltb n b ≡ true → (ts : List Ty) → layer_rule es b below (Operator n) ts ≡ blame Below (below (Operator n) ts)
  below_rule n e ts = ap (λ (c : Bool). cond c (blame Below (below (Operator n) ts)) (blame Own (judge b (line_from b (own es b) n) ts))) e

  pub own_written : ((b : ℕ) → OnEntries (Closed b) es) → OwnAsWritten es b below
  own_written closed n ts t h =
      let e : ltb n b ≡ false = grind (arith, nat_tests) in
      let r = own_rule n e ts in
      let l = line_from b (own es b) n in (
        (λ q. judge_sound b l ts t (blame_gives Own (judge b l ts) t (sym r ∙ q))),
        (λ a. r ∙ gives_blame Own (judge b l ts) t (judge_complete b l (line_from_on (Closed b) b (own es b) n (own_closed (closed b))) ts t a)),
      )
    where
      own_closed : OnEntries (Closed b) es → OnEntries (Closed b) (own es b)
      own_closed h = go (leb (b + length es) 1073741824)
        where
          go : (c : Bool) → OnEntries (Closed b) (cond c es [])
          go true = h
          go false = tt

  from_below : (o : Operation) (ts : List Ty) (c : LayerCause K) → blame Below (below o ts) ≡ refuses c → (k : K) × (below o ts ≡ refuses k) × (Below k ≡ c)
  from_below o ts c e = blame_refuses Below (below o ts) c e

  pub below_kept : BelowKept es b below
  below_kept o ts c e = by o e
    where
      under : (o : Operation) → blame Below (below o ts) ≡ refuses (Below c) → below o ts ≡ refuses c
      under o q = let d = from_below o ts (Below c) q in let h : d.0 ≡ c = (let i = d.2 in cc) in d.1 ∙ ap refuses h

      over : (n : ℕ) → blame Own (judge b (line_from b (own es b) n) ts) ≡ refuses (Below c) → below (Operator n) ts ≡ refuses c
      over n q =
          let d = blame_refuses Own (judge b (line_from b (own es b) n) ts) (Below c) q in
          absurd (let i = d.2 in cc)

      split : (n : ℕ) (v : Bool) → cond v (blame Below (below (Operator n) ts)) (blame Own (judge b (line_from b (own es b) n) ts)) ≡ refuses (Below c) →
          below (Operator n) ts ≡ refuses c
      split n true q = under (Operator n) q
      split n false q = over n q

      by : (o : Operation) → layer_rule es b below o ts ≡ refuses (Below c) → below o ts ≡ refuses c
      by Literal q = under Literal q
      by Function q = under Function q
      by (Operator n) q = split n (ltb n b) q

  pub own_first : OwnFirstRefused es b below
  own_first o ts n e = by o e
    where
      under : {P : Type 0} (o : Operation) → blame Below (below o ts) ≡ refuses (Own n) → P
      under o q = let d = from_below o ts (Own n) q in absurd (let i = d.2 in cc)

      split : (m : ℕ) (v : Bool) → ltb m b ≡ v → layer_rule es b below (Operator m) ts ≡ refuses (Own n) → FirstWrong (layer_rule es b below (Operator m)) ts n
      split m true w q = under (Operator m) (sym (below_rule m w ts) ∙ q)
      split m false w q =
          let f = first_wrong Own b (line_from b (own es b) m) (layer_rule es b below (Operator m)) (own_rule m w) ts (Own n) q in
          let g : f.0 ≡ n = (let i = f.1 in cc) in
          subst (λ (k : ℕ). FirstWrong (layer_rule es b below (Operator m)) ts k) g f.2

      by : (o : Operation) → layer_rule es b below o ts ≡ refuses (Own n) → FirstWrong (layer_rule es b below o) ts n
      by Literal q = under Literal q
      by Function q = under Function q
      by (Operator m) q = split m (ltb m b) refl q

  -- what is said of the rule below is said above, where the layer asks it
  first_above : (f : List Ty → Outcome K) (h : List Ty → Outcome (LayerCause K)) → ((ts : List Ty) → h ts ≡ blame Below (f ts)) → (ts : List Ty) (n : ℕ) → FirstWrong f ts n → FirstWrong h ts n
  first_above f h is ts n w =
      record {
        fine = w.fine;
        next = w.next;
        within = w.within;
        before = lift w.before;
        at = λ l d. w.at l (d.0, d.1, blame_gives Below (f (take (suc w.fine) ts ++ d.0)) d.1 (sym (is _) ∙ d.2));
      }
    where
      lift : GoesOn f (take w.fine ts) ⊎ ((w.fine ≡ 0) × TakesNone f) → GoesOn h (take w.fine ts) ⊎ ((w.fine ≡ 0) × TakesNone h)
      lift (inl g) = inl (g.0, g.1, is (take w.fine ts ++ g.0) ∙ gives_blame Below _ g.1 g.2)
      lift (inr g) = inr (g.0, λ us t q. g.1 us t (blame_gives Below (f us) t (sym (is us) ∙ q)))

  pub above_first : FirstRefusedAbove es b below
  above_first position law o ts c e = by_cause c e
    where
      split : (m : ℕ) (v : Bool) (k : K) → ltb m b ≡ v → layer_rule es b below (Operator m) ts ≡ refuses (Below k) → FirstWrong (layer_rule es b below (Operator m)) ts (position k)
      split m true k w q = first_above (below (Operator m)) (layer_rule es b below (Operator m)) (below_rule m w) ts (position k) (law (Operator m) ts k (below_kept (Operator m) ts k q))
      split m false k w q =
          let d = blame_refuses Own (judge b (line_from b (own es b) m) ts) (Below k) (sym (own_rule m w ts) ∙ q) in
          absurd (let i = d.2 in cc)

      by : (o : Operation) (k : K) → layer_rule es b below o ts ≡ refuses (Below k) → FirstWrong (layer_rule es b below o) ts (position k)
      by Literal k q = first_above (below Literal) (layer_rule es b below Literal) (λ ts. refl) ts (position k) (law Literal ts k (below_kept Literal ts k q))
      by Function k q = first_above (below Function) (layer_rule es b below Function) (λ ts. refl) ts (position k) (law Function ts k (below_kept Function ts k q))
      by (Operator m) k q = split m (ltb m b) k refl q

      by_cause : (c : LayerCause K) → layer_rule es b below o ts ≡ refuses c → FirstWrong (layer_rule es b below o) ts (cause_position position c)
      by_cause (Own n) q = own_first o ts n q
      by_cause (Below k) q = by o k q

-- the wrong core accepts a function that returns a path, and refuses it once the path is a function type
pub wrong_breaks : WrongBreaksLaw
wrong_breaks = (
  (λ law. impossible (law (λ _. label2 2 (label0 0) (label0 0)) Function (label0 0 ∷ leaf (numbered 0) ∷ []) (label2 2 (label0 0) (leaf (numbered 0))) refl)),
  (λ law. impossible (law (λ _. label2 2 (label0 0) (label0 0)) Function (label0 0 ∷ leaf (numbered 0) ∷ []) (label2 2 (label0 0) (leaf (numbered 0))) refl)),
)
  where
    impossible : {c : Position} {t : Ty} → ◌≡◌ {A = Outcome Position} (refuses c) (gives t) → ⊥
    impossible e = cc

-- words that differ, by a test that computes
abbrev absent_test : Name → List Word → Bool
absent_test x [] = true
absent_test x (w ∷ ws) = not (bytes_eq w.name x) && absent_test x ws

abbrev distinct_test : List Word → Bool
distinct_test [] = true
distinct_test (w ∷ ws) = absent_test w.name ws && distinct_test ws

absent_from : (x : Name) (ws : List Word) → absent_test x ws ≡ true → Absent x ws
absent_from x [] e = tt
absent_from x (w ∷ ws) e =
    let h = both (not (bytes_eq w.name x)) (absent_test x ws) e in
    ((λ q. let i = (bytes_eq-Decides w.name x).1 q in let j = h.0 in cc), absent_from x ws h.1)

distinct_from : (ws : List Word) → distinct_test ws ≡ true → Distinct ws
distinct_from [] e = tt
distinct_from (w ∷ ws) e = let h = both (absent_test w.name ws) (distinct_test ws) e in (absent_from w.name ws h.0, distinct_from ws h.1)

pub shipped_distinct : ShippedDistinct
shipped_distinct = (
  distinct_from ml_words refl,
  distinct_from c_words refl,
  distinct_from (layer_words pair_entries ml_words) refl,
  distinct_from (layer_words pair_entries c_words) refl,
  (λ d. d.1.1.1.1.1.1.1.0.1.1.1.0 refl),
)

-- words by their names
absent_at : (x : Name) (ws : List Word) (n : ℕ) (d : Word) → Absent x ws → n < length ws → (get_or ws n d).name ≡ x → ⊥
absent_at x [] n d a h e = omega arith
absent_at x (w ∷ ws) zero d a h e = a.0 e
absent_at x (w ∷ ws) (suc n) d a h e = absent_at x ws n d a.1 (omega arith) e

not_same : (x y : Name) → (x ≡ y → ⊥) → bytes_eq x y ≡ false
not_same x y h = go (bytes_eq x y) refl
  where
    go : (c : Bool) → bytes_eq x y ≡ c → c ≡ false
    go true e = absurd (h ((bytes_eq-Decides x y).0 e))
    go false e = refl

finds_from : (k : ℕ) (ws : List Word) → Distinct ws → (n : ℕ) (d : Word) → n < length ws →
    lookup_from k ws (get_or ws n d).name ≡ Some (record { number = k + n; kind = (get_or ws n d).kind })
finds_from k [] a n d h = absurd (omega arith)
finds_from k (w ∷ ws) a zero d h =
    let e = (bytes_eq-Decides w.name w.name).1 refl in
    let f : k ≡ k + 0 = omega arith in
    ap (λ (c : Bool). cond c (Some (record { number = k; kind = w.kind })) (lookup_from (suc k) ws w.name)) e
    ∙ ap (λ (m : ℕ). Some (let g : Found = record { number = m; kind = w.kind } in g)) f
finds_from k (w ∷ ws) a (suc n) d h =
    let x = (get_or ws n d).name in
    let e = not_same x w.name (absent_at w.name ws n d a.0 (omega arith)) in
    let f : suc k + n ≡ k + suc n = omega arith in
    ap (λ (c : Bool). cond c (Some (record { number = k; kind = w.kind })) (lookup_from (suc k) ws x)) e
    ∙ finds_from (suc k) ws a.1 n d (omega arith)
    ∙ ap (λ (m : ℕ). Some (let g : Found = record { number = m; kind = (get_or ws n d).kind } in g)) f

pub finds_each : (ws : List Word) → FindsEach ws
finds_each ws a n d h =
    let f : 0 + n ≡ n = omega arith in
    finds_from 0 ws a n d h ∙ ap (λ (m : ℕ). Some (let g : Found = record { number = m; kind = (get_or ws n d).kind } in g)) f

none_absent : (k : ℕ) (ws : List Word) (x : Name) → lookup_from k ws x ≡ None → Absent x ws
none_absent k [] x e = tt
none_absent k (w ∷ ws) x e = go (bytes_eq x w.name) refl e (none_absent (suc k) ws x)
  where
    go : (c : Bool) → bytes_eq x w.name ≡ c → cond c (Some (record { number = k; kind = w.kind })) (lookup_from (suc k) ws x) ≡ None →
        (lookup_from (suc k) ws x ≡ None → Absent x ws) → (w.name ≡ x → ⊥) × Absent x ws
    go true t q again = absurd (cc)
    go false t q again = ((λ f. false≢true (sym t ∙ (bytes_eq-Decides x w.name).1 (sym f))), again q)

absent_none : (k : ℕ) (ws : List Word) (x : Name) → Absent x ws → lookup_from k ws x ≡ None
absent_none k [] x a = refl
absent_none k (w ∷ ws) x a =
    ap (λ (c : Bool). cond c (Some (record { number = k; kind = w.kind })) (lookup_from (suc k) ws x)) (not_same x w.name (λ e. a.0 (sym e)))
    ∙ absent_none (suc k) ws x a.1

pub finds_no_other : (ws : List Word) → FindsNoOther ws
finds_no_other ws x = (none_absent 0 ws x, absent_none 0 ws x)
