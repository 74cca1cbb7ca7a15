-- Texts that declare each sort and name once in a structure or signature.
use Rattle.std.specs.Prelude.{◌≡◌, None}
use Rattle.rules.specs.Signatures.{sort_of, find}
use Rattle.rules.specs.Syntax.{SignatureText, sig_text, functor_text, SpecTexts, no_specs, more_specs, SpecText, abstract_spec, defined_spec, value_spec, module_spec, components_of, declaration_of, Module, module_path, struct, functor_of, applied, ascribed, Items, no_items, more_items, Item, type_item, let_item, module_item}
use Rattle.rules.specs.Rules.{item_sort, Undeclared}

-- in a written signature
abbrev mutual
  pub OnceSig : SignatureText → Type 0
  OnceSig (sig_text place c) = OnceSpecs c
  OnceSig (functor_text place s r) = OnceSig s × OnceSig r

  pub OnceSpecs : SpecTexts → Type 0
  OnceSpecs no_specs = Unit {0}
  OnceSpecs (more_specs c x d) = OnceSpecs c × (find (sort_of (declaration_of d)) x (components_of c) ≡ None) × OnceSpec d

  pub OnceSpec : SpecText → Type 0
  OnceSpec abstract_spec = Unit {0}
  OnceSpec (defined_spec t) = Unit {0}
  OnceSpec (value_spec t) = Unit {0}
  OnceSpec (module_spec s) = OnceSig s

-- in a module
abbrev mutual
  pub OnceModule : Module → Type 0
  OnceModule (module_path place p) = Unit {0}
  OnceModule (struct place is) = OnceItems is
  OnceModule (functor_of place s m) = OnceSig s × OnceModule m
  OnceModule (applied place m argument p) = OnceModule m
  OnceModule (ascribed place inner m s) = OnceModule m × OnceSig s

  pub OnceItems : Items → Type 0
  OnceItems no_items = Unit {0}
  OnceItems (more_items is x i) = OnceItems is × Undeclared (item_sort i) x is × OnceItem i

  pub OnceItem : Item → Type 0
  OnceItem (type_item t) = Unit {0}
  OnceItem (let_item t) = Unit {0}
  OnceItem (module_item m) = OnceModule m
