-- What the load order sees of a project is what the heads of its units say.
use Rattle.std.proofs.Common.{◌≡◌, ℕ, true, false, ltb, List, length, get_or, Some, None, Option, sym, ap, ◌∙◌, ⊎_elim}
use Rattle.std.specs.Str.{bytes_eq}
use Rattle.std.proofs.lemmas.Slice.Eq.{bytes_eq-Decides}
use Rattle.std.proofs.lemmas.Bool.{cases_Bool, both_ways, and_parts, and_from, ltb-true, lt-ltb, not-true, not-false, not_from_false}
use Rattle.types.specs.Types.{Name}
use Rattle.order.specs.Units.{names}
use Rattle.order.specs.Law.{LoadOrder}
use Rattle.project_rules.specs.Project.{ProjectUnit, first_where, nobody, name_at, heads_at, stored, strange, seen, place_of_head, first_lacking}
use Rattle.project_rules.specs.Statements.{Present, Lacks, Names, ViewMeans, HeadsBefore, FirstHead}
use Rattle.project_rules.proofs.Lists.{some_told, some_from, none_told, IsFirst, first_is, among_at, place_among}

pub stored_told : (us : List ProjectUnit) (x : Name) → stored us x ≡ true → Present us x
stored_told us x e =
    let r = some_told (λ u. bytes_eq u.text.name x) us e in
    let p = place_among us nobody r.0 r.1 in
    (p.0, p.1, ap (λ u. u.text.name) p.2 ∙ (bytes_eq-Decides r.0.text.name x).0 r.2)

pub stored_from : (us : List ProjectUnit) (x : Name) → Present us x → stored us x ≡ true
stored_from us x p =
    some_from (λ u. bytes_eq u.text.name x) us (get_or us p.0 nobody) (among_at us nobody p.0 p.1)
    ((bytes_eq-Decides (name_at us p.0) x).1 p.2)

pub strange_told : (us : List ProjectUnit) (h : Name × ℕ) → strange us h ≡ true → Present us h.0 → ⊥
strange_told us h e p = both_ways (stored us h.0) (not-true (stored us h.0) e) (stored_from us h.0 p)

pub strange_from : (us : List ProjectUnit) (h : Name × ℕ) → (Present us h.0 → ⊥) → strange us h ≡ true
strange_from us h n =
    ⊎_elim (λ e. absurd (n (stored_told us h.0 e))) (λ e. not_from_false (stored us h.0) e) (cases_Bool (stored us h.0))

pub familiar_told : (us : List ProjectUnit) (h : Name × ℕ) → strange us h ≡ false → Present us h.0
familiar_told us h e = stored_told us h.0 (not-false (stored us h.0) e)

pub lacks_told : (us : List ProjectUnit) (i : ℕ) → (seen us).lacks i ≡ true → Lacks us i
lacks_told us i e = let r = some_told (strange us) (heads_at us i) e in (r.0, r.1, strange_told us r.0 r.2)

pub lacks_from : (us : List ProjectUnit) (i : ℕ) → Lacks us i → (seen us).lacks i ≡ true
lacks_from us i l = some_from (strange us) (heads_at us i) l.0 l.1 (strange_from us l.0 l.2)

pub names_told : (us : List ProjectUnit) (i j : ℕ) → names (seen us) i j ≡ true → Names us i j
names_told us i j e =
    let a = and_parts (ltb j (length us)) ((seen us).marks i j) e in
    let r = some_told (λ h. bytes_eq h.0 (name_at us j)) (heads_at us i) a.1 in
    (ltb-true j (length us) a.0, (r.0, r.1, (bytes_eq-Decides r.0.0 (name_at us j)).0 r.2))

pub names_from : (us : List ProjectUnit) (i j : ℕ) → Names us i j → names (seen us) i j ≡ true
names_from us i j n =
    and_from (ltb j (length us)) ((seen us).marks i j) (lt-ltb j (length us) n.0)
    (some_from (λ h. bytes_eq h.0 (name_at us j)) (heads_at us i) n.1.0 n.1.1 ((bytes_eq-Decides n.1.0.0 (name_at us j)).1 n.1.2))

pub view_means : ViewMeans
view_means us i = ((λ j. (names_told us i j, names_from us i j)), (lacks_told us i, lacks_from us i))

-- the place told of a unit that lacks one is that of its first such head
pub first_lacking_lem : (us : List ProjectUnit) (i : ℕ) → (seen us).lacks i ≡ true → FirstHead (Present us) (heads_at us i) (first_lacking us i)
first_lacking_lem us i e = go (first_where (strange us) (heads_at us i)) (first_is (strange us) (heads_at us i))
  where
    go : (o : Option (Name × ℕ)) → IsFirst (strange us) (heads_at us i) o → FirstHead (Present us) (heads_at us i) (place_of_head o)
    go None f = absurd (both_ways ((seen us).lacks i) f e)
    go (Some h) f =
        record {
          front = f.0;
          name = h.0;
          rest = f.1;
          heads = f.2;
          fails = strange_told us h f.3;
          earlier = λ g m. familiar_told us g (f.4 g m);
        }

-- in a load order every head of a unit names one before it
pub heads_before : (us : List ProjectUnit) (ps : List ℕ) → LoadOrder (seen us) ps → HeadsBefore us ps
heads_before us ps o front i rest e h m =
    let b = o.behind front i rest e in
    let p = familiar_told us h (none_told (strange us) (heads_at us i) b.0 h m) in
    (p.0, b.1 p.0 (names_from us i p.0 (p.1, (h, m, sym p.2))), p.2)
