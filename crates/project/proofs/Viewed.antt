-- What the code sees of stored units is what the definitions say of them.
use Rattle.std.proofs.Common.{◌≡◌, ℕ, ◌+◌, ◌/◌, ◌%◌, ◌^◌, ◌<◌, ◌≤◌, Bool, true, false, cond, not, ◌||◌, ◌&&◌, eqb, ltb, List, [], ◌∷◌, length, get_or, take, is_some, Some, None, Option, Ok, Err, Result, sym, refl, ap, ◌∙◌, subst, ap₂, ⊎_elim, div-le_self, arith, shr-shr}
use mathlib.Core.Path.{fun_ext}
use native.Mathlib.Nat.{zero-div}
use Rattle.std.proofs.lemmas.List.{get_or_past, get_or-take, length-take-le}
use Rattle.std.specs.Result.{MatchResult}
use Rattle.std.proofs.lemmas.Bool.{cases_lt, cases_eq, and_from, cond-true, eq-eqb, ne_eqb, ltb-true, lt-ltb}
use Rattle.cores.specs.Meaning.{Word}
use Rattle.store.specs.declared.entry.Entry.{Entry}
use Rattle.store.specs.Entries.{blank, seat, found}
use Rattle.store.specs.Layout.{stored}
use Rattle.store.specs.Units.{StoredUnit, units, seat_in, no_unit}
use Rattle.store.proofs.Holding.{length_held, seat_held, get_d_held, lawful_stored}
use Rattle.store.proofs.Lawful.{lawful_parts}
use Rattle.store.proofs.Members.{once_units, seat_first, seat_only}
use Rattle.order.specs.Answer.{arranged}
use Rattle.order.specs.Seen.{bit, nobody, seen as view}
use Rattle.order.specs.declared.Order.{Order}
use Rattle.order.specs.declared.Fault.{Fault as Unarranged}
use Rattle.order.specs.declared.Unit.{Unit as Seen}
use Rattle.order.proofs.Bit.{bits_same, bit_past}
use Rattle.project_rules.specs.Project.{some, first_where}
use Rattle.project_rules.specs.Statements.{Agree}
use Rattle.project_rules.proofs.Agreeing.{arranged_agrees}
use Rattle.project.specs.declared.loading.Naming.{Naming as Named}
use Rattle.project.specs.declared.fault.Fault.{Fault}
use Rattle.project.specs.declared.fault.Question.TheVariants.{Lengths}
use Rattle.project.specs.Faults.{without}
use Rattle.project.specs.Calls.{stores}
use Rattle.project.specs.Loading.{head_number, heads_of, is_number, is_stored, strange, unit_at, stored_view, order_fault, or_order_fault, load_order}
use Rattle.project.specs.Naming.{seat_of, is_seat, is_none, NamingOf, UnitSeen}
use Rattle.project.proofs.Changing.{stores_is}

some_same : {A : Type 0} (f g : A → Bool) (l : List A) → ((a : A) → f a ≡ g a) → some f l ≡ some g l
some_same f g [] e = refl
some_same f g (a ∷ l) e = ap₂ (λ (x y : Bool). x || y) (e a) (some_same f g l e)

some_none : {A : Type 0} (f : A → Bool) (l : List A) → ((a : A) → f a ≡ false) → some f l ≡ false
some_none f [] e = refl
some_none f (a ∷ l) e = ap₂ (λ (x y : Bool). x || y) (e a) (some_none f l e)

some_first : {A : Type 0} (f : A → Bool) (l : List A) → is_some (first_where f l) ≡ some f l
some_first f [] = refl
some_first {A} f (a ∷ l) = go (f a) (some_first f l)
  where
    go : (t : Bool) → is_some (first_where f l) ≡ some f l → is_some (cond t (Some a) (first_where f l)) ≡ (t || some f l)
    go true h = refl
    go false h = h

-- the record found for a number is at a place exactly when the unit there has that number
found_is : (s : List ℕ) (n j : ℕ) → j < length (units s) → is_seat (found n (stored s)) j ≡ eqb n (unit_at (units s) j).name
found_is s n j l = go (ltb (seat n (stored s)) (length (stored s))) refl
  where
    same_seat : seat_in n (units s) ≡ seat n (stored s)
    same_seat = seat_held n (stored s) s

    same_long : length (units s) ≡ length (stored s)
    same_long = length_held (stored s) s

    go : (t : Bool) → ltb (seat n (stored s)) (length (stored s)) ≡ t → is_seat (cond t (Some (seat n (stored s))) None) j ≡ eqb n (unit_at (units s) j).name
    go true is =
        let inside : seat_in n (units s) < length (units s) = omega (arith, same_seat, same_long, ltb-true (seat n (stored s)) (length (stored s)) is) in
        let named = seat_first n (units s) inside in
        ⊎_elim {C = eqb (seat n (stored s)) j ≡ eqb n (unit_at (units s) j).name}
        (λ here.
        let at : seat n (stored s) ≡ j = here in
        let same : n ≡ (unit_at (units s) j).name = sym named ∙ ap (λ (k : ℕ). (unit_at (units s) k).name) (same_seat ∙ at) in
        eq-eqb (seat n (stored s)) j at ∙ sym (eq-eqb n (unit_at (units s) j).name same))
        (λ other.
        ne_eqb (seat n (stored s)) j other
        ∙ sym (ne_eqb n (unit_at (units s) j).name (λ e. other (sym same_seat ∙ sym (seat_only n j (units s) (once_units s) l (sym e))))))
        (cases_eq (seat n (stored s)) j)
    go false is =
        sym (ne_eqb n (unit_at (units s) j).name
        (λ e. let at = seat_only n j (units s) (once_units s) l (sym e) in
        let low : seat n (stored s) < length (stored s) = omega (arith, same_seat, same_long) in
        cc (lt-ltb (seat n (stored s)) (length (stored s)) low, is)))

-- a head names the unit at a place
names_there : (s : List ℕ) (o : Option ℕ) (j : ℕ) → j < length (units s) → is_seat (seat_of (stored s) o) j ≡ is_number o (unit_at (units s) j).name
names_there s None j l = refl
names_there s (Some n) j l = found_is s n j l

-- no record is found behind the last
names_behind : (s : List ℕ) (o : Option ℕ) (j : ℕ) → length (units s) ≤ j → is_seat (seat_of (stored s) o) j ≡ false
names_behind s None j l = refl
names_behind s (Some n) j l = go (ltb (seat n (stored s)) (length (stored s))) refl
  where
    go : (t : Bool) → ltb (seat n (stored s)) (length (stored s)) ≡ t → is_seat (cond t (Some (seat n (stored s))) None) j ≡ false
    go true is = ne_eqb (seat n (stored s)) j (λ e. omega (arith, length_held (stored s) s, ltb-true (seat n (stored s)) (length (stored s)) is))
    go false is = refl

-- a head names none
names_none : (s : List ℕ) (o : Option ℕ) → is_none (seat_of (stored s) o) ≡ not (is_stored (units s) o)
names_none s None = refl
names_none s (Some n) = go (ltb (seat n (stored s)) (length (stored s))) refl
  where
    go : (t : Bool) → ltb (seat n (stored s)) (length (stored s)) ≡ t → is_none (cond t (Some (seat n (stored s))) None) ≡ not (stores n (units s))
    go true is = ap not (sym (stores_is n s ∙ is))
    go false is = ap not (sym (stores_is n s ∙ is))

-- ---- bits behind the last unit

bit_shift : (m c j : ℕ) → bit (m / 2 ^ c) j ≡ bit m (c + j)
bit_shift m c j = ap (λ (n : ℕ). eqb (n % 2) 1) (shr-shr m c j)

none_high : (m c : ℕ) → m < 2 ^ 16 → ((j : ℕ) → c ≤ j → bit m j ≡ false) → m / 2 ^ c ≡ 0
none_high m c small h =
    bits_same 16 (m / 2 ^ c) 0 (omega (arith, div-le_self m (2 ^ c))) (omega arith)
    (λ j l. bit_shift m c j ∙ h (c + j) (omega arith) ∙ sym (ap (λ (n : ℕ). eqb (n % 2) 1) (zero-div (2 ^ j))))

-- ---- the unit at a place

pub named_needs : (ws : List Word) (s text : List ℕ) (f : Named) → NamingOf (stored s) text (heads_of ws text) f → (j : ℕ) → j < length (units s) →
    bit f.needs j ≡ some (λ p. is_number (head_number text p) (unit_at (units s) j).name) (heads_of ws text)
named_needs ws s text f n j l =
    let few = (lawful_parts (stored s) (lawful_stored s)).0 in
    n.needs j (omega (arith, length_held (stored s) s))
    ∙ some_same (λ p. is_seat (seat_of (stored s) (head_number text p)) j) (λ p. is_number (head_number text p) (unit_at (units s) j).name) (heads_of ws text)
    (λ p. names_there s (head_number text p) j l)

pub named_within : (ws : List Word) (s text : List ℕ) (f : Named) → NamingOf (stored s) text (heads_of ws text) f → f.needs < 2 ^ 16 → f.needs / 2 ^ length (units s) ≡ 0
named_within ws s text f n small =
    none_high f.needs (length (units s)) small
    (λ j l. ⊎_elim {C = bit f.needs j ≡ false}
    (λ low. n.needs j low ∙ some_none (λ p. is_seat (seat_of (stored s) (head_number text p)) j) (heads_of ws text) (λ p. names_behind s (head_number text p) j l))
    (λ high. bit_past f.needs 16 j small high)
    (cases_lt j 16))

pub named_missing : (ws : List Word) (s text : List ℕ) (f : Named) → NamingOf (stored s) text (heads_of ws text) f →
    (f.missing ≡ first_where (strange (units s) text) (heads_of ws text)) × (is_some f.missing ≡ some (strange (units s) text) (heads_of ws text))
named_missing ws s text f n =
    let same : f.missing ≡ first_where (strange (units s) text) (heads_of ws text) =
    n.missing ∙ ap (λ (t : ℕ → Bool). first_where t (heads_of ws text)) (fun_ext (λ p. names_none s (head_number text p))) in
    (same, ap is_some same ∙ some_first (strange (units s) text) (heads_of ws text))

-- the rank of a record is that of its unit
pub rank_is : (s : List ℕ) (i : ℕ) → (get_or (stored s) i blank).rank ≡ (unit_at (units s) i).rank
rank_is s i =
    ⊎_elim {C = (get_or (stored s) i blank).rank ≡ (unit_at (units s) i).rank}
    (λ l. sym (ap (λ (u : StoredUnit). u.rank) (get_d_held (stored s) s i no_unit l)))
    (λ l.
    ap (λ (e : Entry). e.rank) (get_or_past (stored s) i blank l)
    ∙ sym (ap (λ (u : StoredUnit). u.rank) (get_or_past (units s) i no_unit (omega (arith, length_held (stored s) s)))))
    (cases_lt i (length (stored s)))

-- and its name
pub name_is : (s : List ℕ) (i : ℕ) → (get_or (stored s) i blank).name ≡ (unit_at (units s) i).name
name_is s i =
    ⊎_elim {C = (get_or (stored s) i blank).name ≡ (unit_at (units s) i).name}
    (λ l. sym (ap (λ (u : StoredUnit). u.name) (get_d_held (stored s) s i no_unit l)))
    (λ l.
    ap (λ (e : Entry). e.name) (get_or_past (stored s) i blank l)
    ∙ sym (ap (λ (u : StoredUnit). u.name) (get_or_past (units s) i no_unit (omega (arith, length_held (stored s) s)))))
    (cases_lt i (length (stored s)))

-- a store has at most 16 records
pub few_units : (s : List ℕ) → length (stored s) ≤ 16
few_units s = (lawful_parts (stored s) (lawful_stored s)).0

-- ---- all units

pub view_agrees : (ws : List Word) (s : List ℕ) (seen : List Seen) → length seen ≡ length (units s) →
    ((i : ℕ) → i < length (units s) → UnitSeen ws (units s) i (get_or seen i nobody)) → Agree (view seen) (stored_view ws (units s))
view_agrees ws s seen long all = record {
  count = long;
  ranks = λ i l. (all i (omega arith)).rank;
  called = λ i l. (all i (omega arith)).name;
  marked = λ i j l m. (all i (omega arith)).needs j (omega arith);
  lack = λ i l.
      let u = all i (omega arith) in
      ap₂ (λ (a : Bool) (n : ℕ). a || not (eqb n 0)) u.misses (ap (λ (k : ℕ). (get_or seen i nobody).needs / 2 ^ k) long ∙ u.within) ∙ or_no (some (strange (units s) (unit_at (units s) i).text) (heads_of ws (unit_at (units s) i).text));
}
  where
    or_no : (b : Bool) → (b || not (eqb 0 0)) ≡ b
    or_no true = refl
    or_no false = refl

-- the units in a longer row, cut to their number
pub view_of_front : (ws : List Word) (s : List ℕ) (row front : List Seen) (n : ℕ) → length row ≡ 16 → n ≡ length (stored s) → front ≡ take n row →
    ((i : ℕ) → i < length (units s) → UnitSeen ws (units s) i (get_or row i nobody)) → arranged (view front) ≡ arranged (stored_view ws (units s))
view_of_front ws s row front n long count is all =
    let same = length_held (stored s) s in
    let cut : length front ≡ length (units s) = ap length is ∙ length-take-le n row (omega (arith, few_units s)) ∙ omega arith in
    arranged_agrees (view front) (stored_view ws (units s)) (view_agrees ws s front cut
    (λ i l. subst (λ (u : Seen). UnitSeen ws (units s) i u) (sym (ap (λ (xs : List Seen). get_or xs i nobody) is ∙ get_or-take n row i nobody (omega arith))) (all i l)))

-- the load order is told where it was found, and else the fault of the units
pub order_told : {K : Type 0} (ws : List Word) (s : List ℕ) (room : ℕ) (a : Result Order Unarranged) (r : Result Order (Fault K)) → length s ≡ 65536 → room ≡ 65536 →
    a ≡ arranged (stored_view ws (units s)) → MatchResult a (λ o. r ≡ Ok o) (λ e. r ≡ Err (order_fault ws (units s) e)) → r ≡ load_order ws s room
order_told {K} ws s room a r long words is told =
    go a told ∙ ap (or_order_fault ws (units s)) is
    ∙ sym (cond-true (eqb (length s) 65536 && eqb room 65536) (or_order_fault {K = K} ws (units s) (arranged (stored_view ws (units s)))) (Err (without Lengths))
    (and_from (eqb (length s) 65536) (eqb room 65536) (eq-eqb (length s) 65536 long) (eq-eqb room 65536 words)))
  where
    go : (b : Result Order Unarranged) → MatchResult b (λ o. r ≡ Ok o) (λ e. r ≡ Err (order_fault ws (units s) e)) → r ≡ or_order_fault ws (units s) b
    go (Ok o) t = t
    go (Err e) t = t
