-- Predictive reading over any table in which every symbol takes exactly one token a turn.
-- Assumes what the sections' parameters say, and nothing else.
use Rattle.std.proofs.Common.{◌≡◌, ℕ, List, [], ◌∷◌, ◌++◌, Some, None, Option, sym, refl, ap, ◌∙◌, subst, arith}

module _ (Tok Sym : Type 0) (Tree : Sym → Type 0) (print : (s : Sym) → Tree s → List Tok → List Tok) where
  -- a tree for each symbol of a stack
  abbrev pub Trees : List Sym → Type 0
  Trees [] = Unit {0}
  Trees (s ∷ ss) = Tree s × Trees ss

  -- the trees of a stack, printed one behind the other
  abbrev pub prints : (ss : List Sym) → Trees ss → List Tok → List Tok
  prints [] ts rest = rest
  prints (s ∷ ss) ts rest = print s ts.0 (prints ss ts.1 rest)

  -- one way to read a symbol that begins with this token
  pub record Alternative (s : Sym) (k : Tok) : Type 0 where
    pub after : List Sym
    pub make : Trees after → Tree s
    pub shown : (ts : Trees after) (rest : List Tok) → print s (make ts) rest ≡ k ∷ prints after ts rest

  abbrev pub join : (α σ : List Sym) → Trees α → Trees σ → Trees (α ++ σ)
  join [] σ xs ys = ys
  join (s ∷ α) σ xs ys = (xs.0, join α σ xs.1 ys)

  abbrev pub front : (α σ : List Sym) → Trees (α ++ σ) → Trees α
  front [] σ ts = tt
  front (s ∷ α) σ ts = (ts.0, front α σ ts.1)

  abbrev pub back : (α σ : List Sym) → Trees (α ++ σ) → Trees σ
  back [] σ ts = ts
  back (s ∷ α) σ ts = back α σ ts.1

  pub prints_parts :
      (α σ : List Sym) (ts : Trees (α ++ σ)) (rest : List Tok) →
      prints (α ++ σ) ts rest ≡ prints α (front α σ ts) (prints σ (back α σ ts) rest)
  prints_parts [] σ ts rest = refl
  prints_parts (s ∷ α) σ ts rest = ap (print s ts.0) (prints_parts α σ ts.1 rest)

  pub prints_join :
      (α σ : List Sym) (xs : Trees α) (ys : Trees σ) (rest : List Tok) →
      prints (α ++ σ) (join α σ xs ys) rest ≡ prints α xs (prints σ ys rest)
  prints_join [] σ xs ys rest = refl
  prints_join (s ∷ α) σ xs ys rest = ap (print s xs.0) (prints_join α σ xs.1 ys rest)

  pub front_join : (α σ : List Sym) (xs : Trees α) (ys : Trees σ) → front α σ (join α σ xs ys) ≡ xs
  front_join [] σ xs ys = refl
  front_join (s ∷ α) σ xs ys = λ i. (xs.0, front_join α σ xs.1 ys i)

  pub back_join : (α σ : List Sym) (xs : Trees α) (ys : Trees σ) → back α σ (join α σ xs ys) ≡ ys
  back_join [] σ xs ys = refl
  back_join (s ∷ α) σ xs ys = back_join α σ xs.1 ys

  -- what an alternative leaves to be read
  abbrev pub afters : {s : Sym} {k : Tok} → Option (Alternative s k) → Option (List Sym)
  afters None = None
  afters (Some a) = Some a.after

  module _ (choose : (s : Sym) (k : Tok) → Option (Alternative s k)) where
    -- the tree begins with this token, by the alternative that is chosen for it
    pub record From (s : Sym) (k : Tok) (t : Tree s) : Type 0 where
      pub way : Alternative s k
      pub chosen : choose s k ≡ Some way
      pub parts : Trees way.after
      pub whole : way.make parts ≡ t

    -- what follows an alternative, with the rest of the stack under it
    abbrev pub onward : Option (List Sym) → List Sym → (List Sym → Option (List Sym)) → Option (List Sym)
    onward None σ go = None
    onward (Some α) σ go = go (α ++ σ)

    -- the stack that is left after these tokens, or none where one of them cannot go on
    abbrev pub run : List Sym → List Tok → Option (List Sym)
    run σ [] = Some σ
    run [] (k ∷ ks) = None
    run (s ∷ σ) (k ∷ ks) = onward (afters (choose s k)) σ (λ τ. run τ ks)

    -- What was read is the beginning of a print, however the stack that is left is completed.
    abbrev pub Completes : List Sym → List Tok → List Sym → Type 0
    Completes σ ts τ = (us : Trees τ) (rest : List Tok) → (vs : Trees σ) × (prints σ vs rest ≡ ts ++ prints τ us rest)

    some_some : {X : Type 0} {x y : X} → Some x ≡ Some y → x ≡ y
    some_some e = cc

    step_sound :
        (s : Sym) (σ τ : List Sym) (k : Tok) (ks : List Tok) (o : Option (Alternative s k)) →
        ((ρ : List Sym) → run ρ ks ≡ Some τ → Completes ρ ks τ) →
        onward (afters o) σ (λ ρ. run ρ ks) ≡ Some τ → Completes (s ∷ σ) (k ∷ ks) τ
    step_sound s σ τ k ks None ih e us rest = cc
    step_sound s σ τ k ks (Some a) ih e us rest =
        let h = ih (a.after ++ σ) e us rest in (
          (a.make (front a.after σ h.0), back a.after σ h.0),
          a.shown (front a.after σ h.0) (prints σ (back a.after σ h.0) rest)
              ∙ ap (λ (x : List Tok). k ∷ x) (sym (prints_parts a.after σ h.0 rest) ∙ h.1),
        )

    pub sound : (ts : List Tok) (σ τ : List Sym) → run σ ts ≡ Some τ → Completes σ ts τ
    sound [] σ τ e = subst (λ (ρ : List Sym). Completes σ [] ρ) (some_some e) (λ us rest. (us, refl))
    sound (k ∷ ks) [] τ e = λ us rest. cc
    sound (k ∷ ks) (s ∷ σ) τ e = step_sound s σ τ k ks (choose s k) (λ ρ. sound ks ρ τ) e

    module _ (origin : (s : Sym) (t : Tree s) → (k : Tok) × From s k t) where
      -- a tree's print by the alternative it comes from
      pub from_shown :
          (s : Sym) (k : Tok) (t : Tree s) (f : From s k t) (rest : List Tok) →
          print s t rest ≡ k ∷ prints f.way.after f.parts rest
      from_shown s k t f rest = ap (λ (u : Tree s). print s u rest) (sym f.whole) ∙ f.way.shown f.parts rest

      cons_cons_head : {X : Type 0} {x y : X} {xs ys : List X} → x ∷ xs ≡ y ∷ ys → x ≡ y
      cons_cons_head e = cc

      cons_cons_tail : {X : Type 0} {x y : X} {xs ys : List X} → x ∷ xs ≡ y ∷ ys → xs ≡ ys
      cons_cons_tail e = cc

      pub nil_cons : {X : Type 0} {x : X} {xs : List X} → [] ≡ x ∷ xs → ⊥
      nil_cons e = let z : ◌≡◌ {A = ℕ} 0 1 = cc in omega arith

      -- what is left to be printed after these tokens is the print of the stack that is left
      abbrev pub Leaves : List Sym → List Tok → List Tok → Type 0
      Leaves σ ts more = (τ : List Sym) × (run σ ts ≡ Some τ) × (us : Trees τ) × (prints τ us [] ≡ more)

      -- the tree begins with the token that a token list begins with, and its parts print the rest
      pub begins :
          (s : Sym) (t : Tree s) (rest : List Tok) (k : Tok) (ks : List Tok) → print s t rest ≡ k ∷ ks → From s k t
      begins s t rest k ks e =
          let o = origin s t in
          subst (λ (x : Tok). From s x t) (cons_cons_head (sym (from_shown s o.0 t o.1 rest) ∙ e)) o.1

      pub begins_rest :
          (s : Sym) (t : Tree s) (rest : List Tok) (k : Tok) (ks : List Tok) (f : From s k t) →
          print s t rest ≡ k ∷ ks → prints f.way.after f.parts rest ≡ ks
      begins_rest s t rest k ks f e = cons_cons_tail (sym (from_shown s k t f rest) ∙ e)

      pub complete :
          (ts : List Tok) (σ : List Sym) (vs : Trees σ) (more : List Tok) → prints σ vs [] ≡ ts ++ more → Leaves σ ts more
      complete [] σ vs more e = (σ, refl, vs, e)
      complete (k ∷ ks) [] vs more e = cc
      complete (k ∷ ks) (s ∷ σ) vs more e =
          let f = begins s vs.0 (prints σ vs.1 []) k (ks ++ more) e in
          let r = begins_rest s vs.0 (prints σ vs.1 []) k (ks ++ more) f e in
          let h = complete ks (f.way.after ++ σ) (join f.way.after σ f.parts vs.1) more
          (prints_join f.way.after σ f.parts vs.1 [] ∙ r) in
          (h.0, ap (λ (o : Option (Alternative s k)). onward (afters o) σ (λ τ. run τ ks)) f.chosen ∙ h.1, h.2, h.3)

      -- the parts of a tree by another record of the same alternative
      recast :
          (s : Sym) (k : Tok) (t u : Tree s) (f : From s k t) (g : From s k u) →
          (parts : Trees g.way.after) × (g.way.make parts ≡ t)
      recast s k t u f g =
          subst (λ (a : Alternative s k). (parts : Trees a.after) × (a.make parts ≡ t))
          (some_some (sym f.chosen ∙ g.chosen)) (f.parts, f.whole)

      -- one token list is the print of at most one list of trees
      pub unique :
          (ts : List Tok) (σ : List Sym) (vs ws : Trees σ) → prints σ vs [] ≡ ts → prints σ ws [] ≡ ts → vs ≡ ws
      unique [] [] vs ws p q = refl
      unique [] (s ∷ σ) vs ws p q =
          let o = origin s vs.0 in
          absurd (nil_cons (sym p ∙ from_shown s o.0 vs.0 o.1 (prints σ vs.1 [])))
      unique (k ∷ ks) [] vs ws p q = refl
      unique (k ∷ ks) (s ∷ σ) vs ws p q =
          let g = begins s ws.0 (prints σ ws.1 []) k ks q in
          let r = recast s k vs.0 ws.0 (begins s vs.0 (prints σ vs.1 []) k ks p) g in
          let α : List Sym = g.way.after in
          let f : From s k vs.0 = record { way = g.way; chosen = g.chosen; parts = r.0; whole = r.1 } in
          let pv = begins_rest s vs.0 (prints σ vs.1 []) k ks f p in
          let pw = begins_rest s ws.0 (prints σ ws.1 []) k ks g q in
          let h = unique ks (α ++ σ) (join α σ r.0 vs.1) (join α σ g.parts ws.1)
          (prints_join α σ r.0 vs.1 [] ∙ pv) (prints_join α σ g.parts ws.1 [] ∙ pw) in
          let same_parts = sym (front_join α σ r.0 vs.1) ∙ ap (front α σ) h ∙ front_join α σ g.parts ws.1 in
          let same_back = sym (back_join α σ r.0 vs.1) ∙ ap (back α σ) h ∙ back_join α σ g.parts ws.1 in
          let same-tree = sym r.1 ∙ ap g.way.make same_parts ∙ g.whole in
          λ i. (same-tree i, same_back i)
