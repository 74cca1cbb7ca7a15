use Rattle.std.proofs.Common.{◌≡◌, ℕ, Bool, true, false, cond, ◌&&◌, eqb, List, [], length, is_ok, sym, refl, ap, ◌∙◌}
use Rattle.store.specs.Entries.{lawful}
use Rattle.store.specs.Layout.{encode, decode, stored, written}
use Rattle.store.specs.Numbers.{laid}
use Rattle.store.proofs.Holding.{no_units}
use Rattle.store.proofs.units.clear.Goals as goal

-- a store of another length has no record
other_length : (s : List ℕ) → eqb (length s) 65536 ≡ false → stored s ≡ []
other_length s e = ap (λ t. cond (t && lawful (decode s)) (decode s) []) e

-- no record is left at any length
none_left : (s t : List ℕ) (r : Bool) → r ≡ eqb (length s) 65536 → t ≡ written [] s → (r ≡ true → stored t ≡ []) → stored t ≡ []
none_left s t true a b f = f refl
none_left s t false a b f = ap stored (b ∙ ap (λ x. cond x (laid 0 (encode []) s) s) (sym a)) ∙ other_length s (sym a)

pub returns-clause-law : goal.returns-clause-law
returns-clause-law c =
    let bytes = c.write.ensures.bytes ∙ ap (λ es. written es c.args.store.now) c.empty.ensures in
    no_units c.write.new.store (none_left c.args.store.now c.write.new.store (is_ok c.write.result) c.write.ensures.answer bytes (λ e. c.write.ensures.back e ∙ c.empty.ensures))
